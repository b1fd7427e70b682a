-- What is claimed of loading.
-- Assumes nothing.
use Rattle.std.specs.Prelude.{◌≡◌, true, List, ℕ, ◌≤◌}
use Rattle.rules.specs.Table.{accepted}
use Rattle.monitor.specs.Table.{most_in, Unused, hub}
use Rattle.grouprows.specs.Groups.{plain_names}
use Rattle.textblocks.specs.Blocks.{groups_at, names_at}
use Rattle.load.specs.Load.{load_of}

-- Every text, accepted or refused, loads as an accepted table: 99 does not apply to it, and every entity keeps to every group
abbrev pub LoadsAccepted : Type 0
LoadsAccepted = (text : List ℕ) → accepted hub (load_of text).table ≡ true

-- In a loaded table, as in the empty one, a place of groups that is not used holds the empty set and 1
abbrev pub PlacesUnused : Type 0
PlacesUnused = (text : List ℕ) (i : ℕ) → (load_of text).table.count ≤ i → Unused (load_of text).table i

-- Where the line of names of the groups is `tags` alone, every number is 1
abbrev pub OnesWithoutNumbers : Type 0
OnesWithoutNumbers = (text : List ℕ) → names_at text (groups_at text) ≡ plain_names → (i : ℕ) → most_in (load_of text).table i ≡ 1
