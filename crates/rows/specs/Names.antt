-- Document 01, 'The text': the names of the columns of the entities.
-- Assumes nothing.
use Rattle.std.specs.Prelude.{ℕ, List}
use Rattle.text.specs.Ascii.{ascii}
use Rattle.text.specs.Lines.{fields_in}

abbrev pub entity_names : List (List ℕ)
entity_names = fields_in (ascii "slot kind sec int sa sd ia id data")
