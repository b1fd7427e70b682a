-- What is claimed of the calls on the hub's table besides the rules' claims, which crate claims has.
-- Assumes nothing.
use Rattle.std.specs.Prelude.{◌≡◌, List, ℕ}
use Rattle.rules.specs.Calls.{Call, show, caller_of, other_of}
use Rattle.rules.specs.Refusals.{verdict}
use Rattle.label.specs.Words.{words}
use Rattle.decide.specs.Decided.{decided}
use Rattle.monitor.specs.declared.Table.{Table}
use Rattle.monitor.specs.Table.{groups_of, hub}
use Rattle.monitor.specs.Calls.{reply}
use Rattle.monitor.specs.Finish.{seen_at}

-- What is decided from a look at the table is the rules' verdict
abbrev pub DecidesAsRules : Type 0
DecidesAsRules = (t : Table) (c : Call words) → decided (seen_at t (caller_of c) (other_of c)) (groups_of t) c ≡ verdict hub t c

-- Showing changes no table
abbrev pub ShowKeeps : Type 0
ShowKeeps = (t : Table) (i : ℕ) (buf : List ℕ) → (reply t (show i buf)).table ≡ t
