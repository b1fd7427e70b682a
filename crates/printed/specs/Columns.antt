-- Document 01, 'The text': names may come in any order, and each field is read from the column of its own name. Worked on one line
-- of the entities and two of the calls, whose fields all differ.
-- Assumes nothing.
use Rattle.std.specs.Prelude.{◌≡◌, [], ◌∷◌, Some}
use Rattle.rules.specs.declared.Kind.TheVariants.{Program}
use Rattle.rules.specs.declared.Call.TheVariants.{Put, Hand}
use Rattle.label.specs.Tags.{label_of}
use Rattle.text.specs.Ascii.{ascii}
use Rattle.text.specs.Lines.{fields_in}
use Rattle.rows.specs.Entities.{entity_columns, entity_of}
use Rattle.callrows.specs.Calls.{call_columns, call_of}

pub record ColumnsRead : Type 0 where
  pub entity : entity_of (entity_columns (fields_in (ascii "data id ia sd sa int sec kind slot"))) (fields_in (ascii "a1b2 20 10 8 4 2 0f01 prog 31"))
      ≡ Some (record {
        slot = 31;
        entity = record {
          kind = Program;
          sec = label_of 0xf01;
          int = label_of 2;
          sa = label_of 4;
          sd = label_of 8;
          ia = label_of 16;
          id = label_of 32;
          len = 2;
        };
        content = 0xa1 ∷ 0xb2 ∷ [];
      })
  pub hand : call_of (call_columns (fields_in (ascii "data tag set other caller call"))) (fields_in (ascii "- 63 3 102 1 hand"))
      ≡ Some (record { call = Hand 1 102 3 63; bytes = [] })
  pub put : call_of (call_columns (fields_in (ascii "tag call data other set caller"))) (fields_in (ascii "- put 0bff - - 255"))
      ≡ Some (record { call = Put 255; bytes = 0x0b ∷ 0xff ∷ [] })
