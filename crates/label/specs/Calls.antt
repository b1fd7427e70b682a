-- The calls as code has them, an enum of one-byte fields with the bytes put and the buffer lent beside it, as the rules have
-- them.
-- Assumes nothing.
use Rattle.std.specs.Prelude.{List, ℕ}
use Rattle.rules.specs.declared.Call.{Call as Named}
use Rattle.rules.specs.declared.Call.TheVariants.{Put, Show, Send, Fetch, Add, Drop, Create, Release, Hand}
use Rattle.rules.specs.Calls.{Call, put, show, send, fetch, add_tag, drop_tag, create, release, hand}
use Rattle.label.specs.Words.{words}

abbrev pub call_with : Named → List ℕ → List ℕ → Call words
call_with (Put i) bs buf = put i bs
call_with (Show i) bs buf = show i buf
call_with (Send i j) bs buf = send i j
call_with (Fetch i j) bs buf = fetch i j
call_with (Add i n p) bs buf = add_tag i n p
call_with (Drop i n p) bs buf = drop_tag i n p
call_with (Create i j n) bs buf = create i j n
call_with (Release i j) bs buf = release i j
call_with (Hand i j n p) bs buf = hand i j n p
