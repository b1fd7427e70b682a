-- Document 01's cases P1 to P14 and the worked rounds at the struct that runs.
-- Assumes nothing.
use Rattle.std.specs.Prelude.{◌≡◌, true, List, [], ◌∷◌, map, ℕ, zero, suc, get_or}
use Rattle.rules.specs.Table.{Plain, accepted}
use Rattle.rules.specs.Record.{answer}
use Rattle.rules.specs.Runs.{trace, gained, next, answer_to, records}
use Rattle.label.specs.Words.{words}
use Rattle.cases.specs.Cases.{table_of, Case, cases, Result, stated}
use Rattle.cases.specs.Rounds.{Line, events, told, round_table, round, second_table, second, probe_table, probe, previewed}
use Rattle.monitor.specs.declared.Table.{Table}
use Rattle.monitor.specs.Table.{hub, empty_with}

-- The struct that holds a bare table's groups, and of its slots the first k; and all of its slots: each is written in turn
unfoldable pub filled_to : Plain words → ℕ → Table
filled_to p zero = empty_with p.groups
filled_to p (suc k) = hub.store (filled_to p k) k (p.slots k)

abbrev pub table_holding : Plain words → Table
table_holding p = filled_to p 32

abbrev pub given_at_hub : Case → Result
given_at_hub k = record {
  accepted = accepted hub (table_holding (table_of k.table));
  number = get_or (answer hub (table_holding (table_of k.table)) k.call).entry 3 0;
  count = get_or (answer hub (table_holding (table_of k.table)) k.call).entry 4 0;
}

-- Each of the fourteen tables is accepted as a struct too, and each call on it gives the stated number and bytes moved
abbrev pub CasesHoldAtHub : Type 0
CasesHoldAtHub = map given_at_hub cases ≡ map stated cases

-- A round's calls and previews on the struct give the whole records and the bytes shown that its lines say, and the list has the
-- records of its calls
pub record PlaysAtHub (t : Plain words) (ls : List (Line (Plain words))) : Type 0 where
  pub accepted : accepted hub (table_holding t) ≡ true
  pub entries : trace (next hub) (λ u e. (answer_to hub u e).entry ∷ []) (table_holding t) (events ls) ≡ told (λ l. l.entry ∷ []) ls
  pub parts : trace (next hub) (λ u e. (answer_to hub u e).part) (table_holding t) (events ls) ≡ told (λ l. l.part) ls
  pub records : records hub (table_holding t) (events ls) ≡ told (λ l. gained l.event l.entry) ls

-- Document 01's watering round, the second one, the one in which items are named as callers, and the one with previews
pub record RoundsHoldAtHub : Type 0 where
  pub watering : PlaysAtHub round_table round
  pub second : PlaysAtHub second_table second
  pub probe : PlaysAtHub probe_table probe
  pub previewed : PlaysAtHub round_table previewed
