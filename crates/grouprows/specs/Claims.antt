-- Document 02, change 5, on the text: which names the groups may have, and which numbers there are, worked on examples.
-- Assumes nothing.
use Rattle.std.specs.Prelude.{◌≡◌, ℕ, true, false, Option, Some, None, List, [], ◌∷◌, map, replicate}
use Rattle.std.specs.List.{range_with_len}
use Rattle.std.specs.Option.{option_map}
use Rattle.label.specs.Tags.{label_of}
use Rattle.text.specs.Ascii.{ascii}
use Rattle.text.specs.Lines.{fields_in}
use Rattle.grouprows.specs.Groups.{numbered_names, is_named, group_columns, group_of}

-- the number of the group of a row whose number is this field
abbrev pub number_read : List ℕ → Option ℕ
number_read f = option_map (λ g. g.most) (group_of (group_columns numbered_names) (ascii "f" ∷ f ∷ []))

pub record GroupsRead : Type 0 where
  -- `tags`, and `most` beside it in either order
  pub named : map (λ l. is_named (fields_in l)) (ascii "tags" ∷ ascii "tags most" ∷ ascii "most tags" ∷ []) ≡ replicate 3 true
  -- `most` alone, a name twice, a third name, another one, two spaces between names, none
  pub not_named : map (λ l. is_named (fields_in l))
      (ascii "most" ∷ ascii "tags tags" ∷ ascii "most most" ∷ ascii "tags most tags" ∷ ascii "tags most most" ∷ ascii "tags kind" ∷ ascii "tags  most" ∷ ascii "tags most " ∷ ascii "" ∷ [])
      ≡ replicate 9 false
  pub numbers : map number_read (fields_in (ascii "1 2 3 4 5 6 7 8 9 10 11 12 13 14 15 16 17 18 19 20 21 22 23 24 25 26 27 28 29 30 31 32 33 34 35 36 37 38 39 40 41 42 43 44 45 46 47 48 49 50 51 52 53 54 55 56 57 58 59 60 61 62 63 64"))
      ≡ map Some (range_with_len 1 64)
  -- 0, over 64, with leading zeros, no digits, and the empty field behind the last space
  pub no_numbers : map number_read (fields_in (ascii "0 65 100 255 256 00 01 064 - +1 1a f ")) ≡ replicate 13 None
  -- each field is read from the column of its own name; without the second name the number is 1
  pub row : group_of (group_columns (fields_in (ascii "tags most"))) (fields_in (ascii "3 64")) ≡ Some (record { tags = label_of 3; most = 64 })
  pub turned : group_of (group_columns (fields_in (ascii "most tags"))) (fields_in (ascii "3 64")) ≡ Some (record { tags = label_of 100; most = 3 })
  pub plain : group_of (group_columns (fields_in (ascii "tags"))) (fields_in (ascii "64")) ≡ Some (record { tags = label_of 100; most = 1 })
  -- a field that is no set; a field too few or too many
  pub no_set : group_of (group_columns (fields_in (ascii "tags most"))) (fields_in (ascii "g 3")) ≡ None
  pub short : group_of (group_columns (fields_in (ascii "tags most"))) (fields_in (ascii "3")) ≡ None
  pub long : group_of (group_columns (fields_in (ascii "tags most"))) (fields_in (ascii "3 2 1")) ≡ None
  pub plain_long : group_of (group_columns (fields_in (ascii "tags"))) (fields_in (ascii "3 1")) ≡ None
