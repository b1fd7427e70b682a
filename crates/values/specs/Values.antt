-- Document 01, 'The text': what a field says as a decimal number, a set of tags, or data.
-- Assumes nothing.
use Rattle.std.specs.Prelude.{ℕ, ◌+◌, ◌*◌, ◌-◌, Option, None, Some, cond, ◌&&◌, ◌||◌, List, [], ◌∷◌, ◌++◌, length, get_or, eqb, leb, ltb}
use Rattle.label.specs.declared.Label.{Label}
use Rattle.label.specs.Tags.{empty, with_digit}
use Rattle.text.specs.Ascii.{ascii}
use Rattle.text.specs.Bytes.{eq_bytes}
use Rattle.values.specs.Options.{◌>>=◌}

-- what a digit `0` to `9` or `a` to `f` says
unfoldable pub digit_of : ℕ → Option ℕ
digit_of b = cond (leb 48 b && leb b 57) (Some (b - 48)) (cond (leb 97 b && leb b 102) (Some (b - 87)) None)

-- ---- decimal 0 to max without leading zeros

-- digits after those of the number n
unfoldable pub decimal_from : ℕ → ℕ → List ℕ → Option ℕ
decimal_from max n [] = Some n
decimal_from max n (b ∷ bs) = do
  d ← digit_of b
  cond (leb 10 d || ltb max (n * 10 + d)) None (decimal_from max (n * 10 + d) bs)

-- 48 is the digit `0`
unfoldable pub decimal_of : ℕ → List ℕ → Option ℕ
decimal_of max s = cond (eqb (length s) 0) None (cond (ltb 1 (length s) && eqb (get_or s 0 0) 48) None (decimal_from max 0 s))

-- ---- a set: 1 to 16 hexadecimal digits, leading zeros allowed

-- digits after those of the set l
unfoldable pub set_from : Label → List ℕ → Option Label
set_from l [] = Some l
set_from l (b ∷ bs) = do
  d ← digit_of b
  set_from (with_digit l d) bs

unfoldable pub hex_set_of : List ℕ → Option Label
hex_set_of s = cond (ltb (length s) 1 || ltb 16 (length s)) None (set_from empty s)

-- ---- data: `-` for empty, or two digits a byte, up to max bytes

abbrev pub dash : List ℕ
dash = ascii "-"

-- pairs of digits after those of the bytes bs
unfoldable pub pairs_from : ℕ → List ℕ → List ℕ → Option (List ℕ)
pairs_from max bs [] = Some bs
pairs_from max bs (h ∷ []) = None
pairs_from max bs (h ∷ l ∷ rest) = do
  x ← digit_of h
  y ← digit_of l
  cond (leb max (length bs)) None (pairs_from max (bs ++ ((x * 16 + y) ∷ [])) rest)

unfoldable pub data_of : ℕ → List ℕ → Option (List ℕ)
data_of max s = cond (eq_bytes s dash) (Some []) (cond (eqb (length s) 0) None (pairs_from max [] s))
