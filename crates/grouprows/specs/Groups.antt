-- Document 01, 'The text', and document 02, change 5: the names of the columns of the groups, and one line of values.
-- Assumes nothing.
use Rattle.std.specs.Prelude.{ℕ, Bool, cond, ◌||◌, Option, None, Some, List, length, eqb}
use Rattle.label.specs.declared.Group.{Group}
use Rattle.label.specs.declared.Label.{Label}
use Rattle.label.specs.Tags.{group_formed}
use Rattle.text.specs.Ascii.{ascii}
use Rattle.text.specs.Lines.{fields_in, names_once, column_of, field_at}
use Rattle.values.specs.Options.{◌>>=◌}
use Rattle.values.specs.Values.{decimal_of, hex_set_of}
use Rattle.grouprows.specs.declared.GroupColumns.{GroupColumns}

-- `tags`; or `tags` and `most`
abbrev pub plain_names : List (List ℕ)
plain_names = fields_in (ascii "tags")

abbrev pub numbered_names : List (List ℕ)
numbered_names = fields_in (ascii "tags most")

-- whether names are those of the groups, each once, in any order
abbrev pub is_named : List (List ℕ) → Bool
is_named hs = names_once plain_names hs || names_once numbered_names hs

-- the columns under a line of names, and whether it has the second
unfoldable pub group_columns : List (List ℕ) → GroupColumns
group_columns hs = record {
  tags = column_of (ascii "tags") hs;
  most = column_of (ascii "most") hs;
  numbered = names_once numbered_names hs;
}

-- a row has a field for each name
abbrev pub fields_needed : GroupColumns → ℕ
fields_needed cs = cond cs.numbered 2 1

-- the number by its field, decimal without leading zeros; without the second name every number is 1
abbrev pub number_said : Bool → List ℕ → Option ℕ
number_said numbered f = cond numbered (decimal_of 255 f) (Some 1)

-- a group has the form of a table's: a number outside 1 to 64 makes none
abbrev pub formed_group : Label → ℕ → Option Group
formed_group g n = cond (group_formed (record { tags = g; most = n })) (Some (record { tags = g; most = n })) None

-- the line whose fields are fs, in the columns cs
unfoldable pub group_of : GroupColumns → List (List ℕ) → Option Group
group_of cs fs =
    cond (eqb (length fs) (fields_needed cs))
    (do
      g ← hex_set_of (field_at fs cs.tags)
      n ← number_said cs.numbered (field_at fs cs.most)
      formed_group g n)
    None
