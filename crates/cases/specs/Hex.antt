-- Bytes written as the papers print them: two lower-case hexadecimal digits a byte.
-- Assumes nothing.
use Rattle.std.specs.Prelude.{cond, List, [] as none, ◌∷◌ as ◌then◌, ℕ, ◌+◌, ◌-◌, ◌*◌, ltb}
use Prim.Native.Char.{Char, code}
use Prim.Native.String.{String, [], ◌∷◌}

-- 48 is 0, 57 is 9, 97 is a
abbrev digit : Char → ℕ
digit c = cond (ltb (code c) 58) (code c - 48) (code c - 87)

abbrev pub hex : String → List ℕ
hex [] = none
hex (a ∷ []) = none
hex (a ∷ b ∷ s) = (digit a * 16 + digit b) then hex s
