-- Document 02, change 1: pages worked by hand.
-- Assumes nothing.
use Rattle.std.specs.Prelude.{◌≡◌, ℕ, List, [], ◌∷◌, ◌++◌, replicate}
use Prim.Native.String.{String}
use Rattle.text.specs.Ascii.{ascii}
use Rattle.page.specs.Page.{page_output}

abbrev pub names : List ℕ
names = ascii "caller n0 n1 n2 n3 n4 n5 n6 n7 n8 n9 n10 n11 n12 n13 n14 n15 n16 n17 more bytes\n"

-- the row of a caller, by name, of whom there is no record; and such rows from caller 2 to caller 30
abbrev pub quiet : String → List ℕ
quiet caller = ascii caller ++ ascii " 0 0 0 0 0 0 0 0 0 0 0 0 0 0 0 0 0 0 0 0\n"

abbrev pub quiet_2_to_30 : List ℕ
quiet_2_to_30 =
    quiet "2" ++ quiet "3" ++ quiet "4" ++ quiet "5" ++ quiet "6" ++ quiet "7" ++ quiet "8" ++ quiet "9" ++ quiet "10" ++ quiet "11"
    ++ quiet "12" ++ quiet "13" ++ quiet "14" ++ quiet "15" ++ quiet "16" ++ quiet "17" ++ quiet "18" ++ quiet "19" ++ quiet "20"
    ++ quiet "21" ++ quiet "22" ++ quiet "23" ++ quiet "24" ++ quiet "25" ++ quiet "26" ++ quiet "27" ++ quiet "28" ++ quiet "29"
    ++ quiet "30"

-- a record of a caller, with the number returned and the bytes moved
abbrev pub entry : ℕ → ℕ → ℕ → List ℕ
entry caller number moved = 4 ∷ caller ∷ 2 ∷ number ∷ moved ∷ 255 ∷ 255 ∷ 0 ∷ replicate 8 0

-- Document 01's watering round has these callers, numbers and bytes moved; the others stand at the edges
abbrev pub watering : List ℕ
watering = entry 1 7 0 ++ entry 1 0 0 ++ entry 1 0 2 ++ entry 1 0 2 ++ entry 1 7 0 ++ entry 1 10 0

abbrev pub edges : List ℕ
edges = entry 0 0 64 ++ entry 0 0 255 ++ entry 31 17 1 ++ entry 31 18 0 ++ entry 32 99 0 ++ entry 255 255 9

-- Byte for byte, what is printed for no records, for the round's, for those at the edges, and for a record and a byte more
pub record PagesWorked : Type 0 where
  pub none : page_output [] ≡ names ++ quiet "0" ++ quiet "1" ++ quiet_2_to_30 ++ quiet "31" ++ quiet "more"
  pub round : page_output watering ≡ names ++ quiet "0" ++ ascii "1 3 0 0 0 0 0 0 2 0 0 1 0 0 0 0 0 0 0 0 4\n" ++ quiet_2_to_30 ++ quiet "31" ++ quiet "more"
  pub edge : page_output edges ≡
      names ++ ascii "0 2 0 0 0 0 0 0 0 0 0 0 0 0 0 0 0 0 0 0 319\n" ++ quiet "1" ++ quiet_2_to_30
      ++ ascii "31 0 0 0 0 0 0 0 0 0 0 0 0 0 0 0 0 0 1 1 1\n" ++ ascii "more 0 0 0 0 0 0 0 0 0 0 0 0 0 0 0 0 0 0 2 9\n"
  pub part : page_output (entry 0 0 64 ++ 4 ∷ []) ≡ ascii "refused 12\n"
