-- Document 01, 'A watering round through hubcalls': the lines that the program prints.
-- Assumes nothing.
use Rattle.std.specs.Prelude.{◌≡◌, ◌≤◌, ℕ, zero, suc, ◌+◌, ◌-◌, ◌/◌, ◌%◌, cond, List, [], ◌∷◌, ◌++◌, length, take, ltb}
use Rattle.rules.specs.Record.{record_size}
use Rattle.label.specs.Words.{words}
use Rattle.text.specs.Ascii.{ascii}

-- the lower-case digit of a number below 16
unfoldable pub digit_text : ℕ → ℕ
digit_text n = cond (ltb n 10) (48 + n) (87 + n)

-- two digits a byte
unfoldable pub hex_text : List ℕ → List ℕ
hex_text [] = []
hex_text (b ∷ bs) = digit_text (b / 16) ∷ digit_text (b % 16) ∷ hex_text bs

-- data in hexadecimal, or `-` if empty
unfoldable pub data_text : List ℕ → List ℕ
data_text [] = 45 ∷ []
data_text (b ∷ bs) = hex_text (b ∷ bs)

-- the line of a call: its record, a space, and the bytes shown
unfoldable pub call_line : List ℕ → List ℕ → List ℕ
call_line entry shown = hex_text entry ++ (32 ∷ (data_text shown ++ (10 ∷ [])))

-- the last digits of a number in decimal, at most k
unfoldable pub digits_text : ℕ → ℕ → List ℕ
digits_text zero n = []
digits_text (suc k) n = cond (ltb n 10) ((48 + n) ∷ []) (digits_text k (n / 10) ++ ((48 + n % 10) ∷ []))

-- all of them: n has at most n + 1
unfoldable pub decimal_text : ℕ → List ℕ
decimal_text n = digits_text (suc n) n

abbrev pub refused_text : List ℕ
refused_text = ascii "refused "

-- `refused N line L`
unfoldable pub refused_line : ℕ → ℕ → List ℕ
refused_line n l =
    refused_text
    ++ (decimal_text n ++ (ascii " line " ++ (decimal_text l ++ (10 ∷ []))))

-- ---- the lines of an audit: a record, or `refused N`

unfoldable pub record_line : List ℕ → List ℕ
record_line entry = hex_text entry ++ (10 ∷ [])

unfoldable pub refused_audit : ℕ → List ℕ
refused_audit n = refused_text ++ (decimal_text n ++ (10 ∷ []))

-- ---- lines as they are put together

-- the longest line is that of a record and 64 bytes shown
abbrev pub line_size : ℕ
line_size = 162

-- a line in a room of n bytes, with bytes behind it, as many as have room
abbrev pub line_with : ℕ → List ℕ → List ℕ → List ℕ
line_with n x l = x ++ take (n - length x) l

-- The line of a call that shows at most 64 bytes is whole
abbrev pub CallLinesWhole : Type 0
CallLinesWhole = (entry shown : List ℕ) → length entry ≡ record_size words → length shown ≤ 64 → take line_size (call_line entry shown) ≡ call_line entry shown
