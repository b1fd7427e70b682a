-- Document 01, 'A watering round through hubcalls': the text and the output as they are printed there, and that the one gives the
-- other.
-- Assumes nothing.
use Rattle.std.specs.Prelude.{◌≡◌, List, ◌++◌, ℕ, Ok}
use Rattle.rules.specs.Table.{plain}
use Rattle.rules.specs.Runs.{run_of}
use Rattle.rules.specs.SameSlots.{HoldSame}
use Rattle.label.specs.Words.{words}
use Rattle.cases.specs.Rounds.{events, round_table, round}
use Rattle.monitor.specs.Table.{hub}
use Rattle.text.specs.Ascii.{ascii}
use Rattle.load.specs.Load.{verdict_of, load_of}
use Rattle.textblocks.specs.CallsIn.{calls_of}
use Rattle.round.specs.Round.{output_of}

abbrev pub watering : List ℕ
watering =
    ascii "slot kind sec int sa sd ia id data\n"
    ++ ascii "0 prog 1 0 0 0 0 0 a1b2\n"
    ++ ascii "1 prog 0 0 1 0 0 0 -\n"
    ++ ascii "2 item 0 0 0 0 0 0 07\n"
    ++ ascii "\n"
    ++ ascii "tags\n"
    ++ ascii "3\n"
    ++ ascii "\n"
    ++ ascii "call caller other set tag data\n"
    ++ ascii "fetch 1 0 - - -\n"
    ++ ascii "add 1 - 0 0 -\n"
    ++ ascii "fetch 1 0 - - -\n"
    ++ ascii "show 1 - - - -\n"
    ++ ascii "send 1 2 - - -\n"
    ++ ascii "drop 1 - 0 0 -\n"

abbrev pub watering_prints : List ℕ
watering_prints =
    ascii "record data\n"
    ++ ascii "0401000700ffff000100000000000000 -\n"
    ++ ascii "0501ff00000000000100000000000000 -\n"
    ++ ascii "0401000002ffff000100000000000000 -\n"
    ++ ascii "0201ff0002ffff000100000000000000 a1b2\n"
    ++ ascii "0301020700ffff000100000000000000 -\n"
    ++ ascii "0601ff0a000000000100000000000000 -\n"

-- The text is accepted, and loads as a table that holds what the worked round's table holds; its calls are that round's; and what
-- the program has to print for it is what document 01 prints
pub record WateringPrinted : Type 0 where
  pub verdict : verdict_of watering ≡ Ok tt
  pub table : HoldSame hub (plain words) (load_of watering).table round_table
  pub calls : run_of (calls_of watering) ≡ events round
  pub output : output_of watering ≡ watering_prints
