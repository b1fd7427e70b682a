-- Rounds worked by hand: document 01's watering round, a second one with calls and refusals that it lacks, put, an allowed drop,
-- create, release, hand, 1, 3, 4, 8 and 9, one in which items are named as callers, and one with previews. Each call and preview with
-- its whole record and the slot that it leaves; and audits at the end.
-- Assumes nothing.
use Rattle.std.specs.Prelude.{◌≡◌, true, false, cond, List, [], ◌∷◌, ◌++◌, map, ℕ, eqb, replicate, take, Ok, Err}
use Rattle.rules.specs.declared.Kind.{Kind}
use Rattle.rules.specs.declared.Kind.TheVariants.{Item, Program}
use Rattle.rules.specs.declared.Refusal.{Refusal}
use Rattle.rules.specs.declared.Refusal.TheVariants.{NoProgram, NoRoomForRecords}
use Rattle.rules.specs.Table.{Slot, Tables, Plain, plain, free, accepted}
use Rattle.rules.specs.Calls.{Call, put, show, send, fetch, add_tag, drop_tag, create, release, hand, caller_of}
use Rattle.rules.specs.Record.{answer, Audit, audit}
use Rattle.rules.specs.Runs.{final, trace, kept, Event, call, preview, run_of, gained, next, answer_to, records, bears, hidden_at, struck, struck_of_programs, heard}
use Rattle.rules.specs.Claims.{SecretRuns, Undisclosed}
use Rattle.label.specs.Tags.{label_of}
use Rattle.label.specs.Words.{words}
use Rattle.cases.specs.Hex.{hex}

-- ---- rounds

-- a call or a preview, its record, what it shows, and the table that it leaves, by the one that it gets
pub record Line (X : Type 0) : Type 0 where
  pub event : Event words
  pub entry : List ℕ
  pub part : List ℕ
  pub after : X → X

abbrev line : {X : Type 0} → Call words → List ℕ → (X → X) → Line X
line c e f = record { event = call c; entry = e; part = []; after = f }

abbrev shows : {X : Type 0} → Call words → List ℕ → List ℕ → (X → X) → Line X
shows c e bs f = record { event = call c; entry = e; part = bs; after = f }

-- a preview: whatever is answered, nothing changes
abbrev previews : {X : Type 0} → Call words → List ℕ → List ℕ → Line X
previews c e bs = record { event = preview c; entry = e; part = bs; after = λ t. t }

abbrev pub events : {X : Type 0} → List (Line X) → List (Event words)
events = map (λ l. l.event)

-- what f takes of each line, joined
abbrev pub told : {X Y : Type 0} → (Line X → List Y) → List (Line X) → List Y
told f [] = []
told f (l ∷ ls) = f l ++ told f ls

-- what a call or a preview gives: its record, its part and the table
pub record Turn (X : Type 0) : Type 0 where
  pub entry : List ℕ
  pub part : List ℕ
  pub table : X

-- by the rules, each on the table that the one before it left, and by the lines
abbrev pub turns : (T : Tables words) → T.Table → List (Line T.Table) → List (Turn T.Table)
turns T t [] = []
turns T t (l ∷ ls) = record { entry = (answer_to T t l.event).entry; part = (answer_to T t l.event).part; table = next T t l.event } ∷ turns T (l.after t) ls

abbrev pub expected : {X : Type 0} → X → List (Line X) → List (Turn X)
expected t [] = []
expected t (l ∷ ls) = record { entry = l.entry; part = l.part; table = l.after t } ∷ expected (l.after t) ls

abbrev P : Tables words
P = plain words

-- an entity as a line of the text gives it: kind, S, I, the four rights, content
abbrev entity : Kind → ℕ → ℕ → ℕ → ℕ → ℕ → ℕ → List ℕ → Slot words
entity k s i sa sd ia id bs = record {
  kind = k;
  sec = label_of s;
  int = label_of i;
  rights = record { sa = label_of sa; sd = label_of sd; ia = label_of ia; id = label_of id };
  content = bs;
}

-- slot k holds this from now on; and nothing changes
abbrev now : ℕ → Slot words → Plain words → Plain words
now k e t = P.store t k e

abbrev unchanged : Plain words → Plain words
unchanged t = t

-- ---- 'A watering round through hubcalls'

abbrev pub round_table : Plain words
round_table = record {
  slots = λ i.
      cond (eqb i 0) (entity Program 1 0 0 0 0 0 (hex "a1b2"))
      (cond (eqb i 1) (entity Program 0 0 1 0 0 0 [])
      (cond (eqb i 2) (entity Item 0 0 0 0 0 0 (hex "07")) free));
  groups = record { tags = label_of 3; most = 1 } ∷ [];
}

abbrev pub round : List (Line (Plain words))
round =
    line (fetch 1 0) (hex "0401000700ffff000100000000000000") unchanged
    ∷ line (add_tag 1 0 0) (hex "0501ff00000000000100000000000000") (now 1 (entity Program 1 0 1 0 0 0 []))
    ∷ line (fetch 1 0) (hex "0401000002ffff000100000000000000") (now 1 (entity Program 1 0 1 0 0 0 (hex "a1b2")))
    ∷ shows (show 1 (replicate 64 0)) (hex "0201ff0002ffff000100000000000000") (hex "a1b2") (now 1 (entity Program 1 0 1 0 0 0 (hex "a1b2")))
    ∷ line (send 1 2) (hex "0301020700ffff000100000000000000") unchanged
    ∷ line (drop_tag 1 0 0) (hex "0601ff0a000000000100000000000000") unchanged
    ∷ []

-- ---- the second round: its tags are 9 and 12, so that no tag is also a set field, and no need stands in its first byte

-- 0 prog 200 0 0 200 1000 0 c3
-- 1 prog 0 0 0 0 0 0 -
-- 2 item 200 0 0 0 0 0 07
-- and a group, c00
abbrev pub second_table : Plain words
second_table = record {
  slots = λ i.
      cond (eqb i 0) (entity Program 0x200 0 0 0x200 0x1000 0 (hex "c3"))
      (cond (eqb i 1) (entity Program 0 0 0 0 0 0 [])
      (cond (eqb i 2) (entity Item 0x200 0 0 0 0 0 (hex "07")) free));
  groups = record { tags = label_of 0xc00; most = 1 } ∷ [];
}

abbrev pub second : List (Line (Plain words))
second =
    line (put 0 (hex "112233")) (hex "0100ff0003ffff000002000000000000") (now 0 (entity Program 0x200 0 0 0x200 0x1000 0 (hex "112233")))
    -- an item is made; its slot is not free then: 4
    ∷ line (create 0 3 1) (hex "0700030000ff01000002000000000000") (now 3 (entity Item 0x200 0 0 0 0 0 []))
    ∷ line (create 0 3 2) (hex "0700030400ff02000002000000000000") unchanged
    -- the right to add 12 to I is handed to slot 1; to the item: 9
    ∷ line (hand 0 1 2 12) (hex "09000100000c02000002000000000000") (now 1 (entity Program 0 0 0 0 0x1000 0 []))
    ∷ line (hand 0 3 2 12) (hex "09000309000c02000002000000000000") unchanged
    -- to a free slot: 3
    ∷ line (send 0 7) (hex "0300070300ffff000002000000000000") unchanged
    -- an item of another S: 8
    ∷ line (release 1 2) (hex "0801020800ffff000002000000000000") unchanged
    -- slot 1 uses its right; its S is empty
    ∷ line (add_tag 1 1 12) (hex "0501ff00000c01000000000000000000") (now 1 (entity Program 0 0x1000 0 0 0x1000 0 []))
    -- an item of the caller's labels
    ∷ line (release 0 3) (hex "0800030000ffff000002000000000000") (now 3 free)
    -- S is {9} before the drop and empty after it
    ∷ line (drop_tag 0 0 9) (hex "0600ff00000900000002000000000000") (now 0 (entity Program 0 0 0 0x200 0x1000 0 (hex "112233")))
    -- an item calls: 1, and its S is the need
    ∷ line (put 2 (hex "44")) (hex "0102ff0100ffff000002000000000000") unchanged
    ∷ shows (show 0 (replicate 64 0)) (hex "0200ff0003ffff000000000000000000") (hex "112233") (now 0 (entity Program 0 0 0 0x200 0x1000 0 (hex "112233")))
    ∷ line (release 1 1) (hex "0801010000ffff000000000000000000") (now 1 free)
    ∷ []

-- ---- items named as callers (document 02, change 2): a soil probe's item bears tag 9, as its grower in slot 0 does

-- 0 prog 200 0 0 0 0 0 c3
-- 1 prog 0 0 0 0 0 0 -
-- 2 item 200 0 0 0 0 0 07
-- 3 item 0 0 0 0 0 0 -
-- 4 prog 1000 0 0 0 0 0 -
-- and no group
abbrev pub probe_table : Plain words
probe_table = record {
  slots = λ i.
      cond (eqb i 0) (entity Program 0x200 0 0 0 0 0 (hex "c3"))
      (cond (eqb i 1) (entity Program 0 0 0 0 0 0 [])
      (cond (eqb i 2) (entity Item 0x200 0 0 0 0 0 (hex "07"))
      (cond (eqb i 3) (entity Item 0 0 0 0 0 0 [])
      (cond (eqb i 4) (entity Program 0x1000 0 0 0 0 0 []) free))));
  groups = [];
}

abbrev pub probe : List (Line (Plain words))
probe =
    -- by the probe, a call of each kind: the need is its S, and slot 4's S is not in it
    line (put 2 (hex "44")) (hex "0102ff0100ffff000002000000000000") unchanged
    ∷ line (show 2 (replicate 64 0)) (hex "0202ff0100ffff000002000000000000") unchanged
    ∷ line (send 2 4) (hex "0302040100ffff000002000000000000") unchanged
    ∷ line (fetch 2 4) (hex "0402040100ffff000002000000000000") unchanged
    ∷ line (add_tag 2 0 12) (hex "0502ff01000c00000002000000000000") unchanged
    ∷ line (drop_tag 2 0 9) (hex "0602ff01000900000002000000000000") unchanged
    ∷ line (create 2 7 1) (hex "0702070100ff01000002000000000000") unchanged
    ∷ line (release 2 2) (hex "0802020100ffff000002000000000000") unchanged
    ∷ line (hand 2 4 1 9) (hex "09020401000901000002000000000000") unchanged
    -- by the item without a tag, by a free slot and by one above 31: the need is empty, whatever the other's S
    ∷ line (send 3 4) (hex "0303040100ffff000000000000000000") unchanged
    ∷ line (fetch 7 2) (hex "0407020100ffff000000000000000000") unchanged
    ∷ line (send 40 2) (hex "0328020100ffff000000000000000000") unchanged
    -- by programs, refused by 7 and by 4: the other's S is in the need
    ∷ line (fetch 1 2) (hex "0401020700ffff000002000000000000") unchanged
    ∷ line (create 4 2 1) (hex "0704020400ff01000012000000000000") unchanged
    ∷ []

-- ---- previews on the watering round's table (document 02, change 3)

abbrev pub previewed : List (Line (Plain words))
previewed =
    previews (fetch 1 0) (hex "0401000700ffff000100000000000000") []
    -- the add would be allowed; it is not made, so that the fetch would still be refused
    ∷ previews (add_tag 1 0 0) (hex "0501ff00000000000100000000000000") []
    ∷ previews (fetch 1 0) (hex "0401000700ffff000100000000000000") []
    ∷ line (add_tag 1 0 0) (hex "0501ff00000000000100000000000000") (now 1 (entity Program 0x1 0 1 0 0 0 []))
    -- the fetch would move two bytes; slot 1 still has none to show
    ∷ previews (fetch 1 0) (hex "0401000002ffff000100000000000000") []
    ∷ previews (show 1 (replicate 64 0)) (hex "0201ff0000ffff000100000000000000") []
    ∷ line (fetch 1 0) (hex "0401000002ffff000100000000000000") (now 1 (entity Program 1 0 1 0 0 0 (hex "a1b2")))
    -- a show into four bytes, and into one: 6
    ∷ previews (show 1 (replicate 4 0xee)) (hex "0201ff0002ffff000100000000000000") (hex "a1b2")
    ∷ previews (show 1 (replicate 1 0xee)) (hex "0201ff0600ffff000100000000000000") []
    ∷ previews (put 1 (hex "ff")) (hex "0101ff0001ffff000100000000000000") []
    ∷ previews (send 1 2) (hex "0301020700ffff000100000000000000") []
    ∷ previews (drop_tag 1 0 0) (hex "0601ff0a000000000100000000000000") []
    -- slot 3 stays free
    ∷ previews (create 0 3 2) (hex "0700030000ff02000100000000000000") []
    ∷ previews (create 0 3 1) (hex "0700030000ff01000100000000000000") []
    ∷ previews (hand 1 0 0 0) (hex "09010000000000000100000000000000") []
    -- slot 0 would be free
    ∷ previews (release 0 0) (hex "0800000000ffff000100000000000000") []
    -- by an item, and by a slot that is none: 1
    ∷ previews (put 2 (hex "44")) (hex "0102ff0100ffff000000000000000000") []
    ∷ previews (fetch 40 0) (hex "0428000100ffff000000000000000000") []
    ∷ shows (show 1 (replicate 64 0)) (hex "0201ff0002ffff000100000000000000") (hex "a1b2") (now 1 (entity Program 1 0 1 0 0 0 (hex "a1b2")))
    ∷ []

-- ---- what is claimed of a round: its table is accepted, each call and preview gives what its line says, and so do the run's answers,
-- their records and the bytes shown; the list gains the records of calls alone

pub record Holds (t : Plain words) (ls : List (Line (Plain words))) : Type 0 where
  pub accepted : accepted P t ≡ true
  pub plays : turns P t ls ≡ expected t ls
  pub entries : trace (next P) (λ u e. (answer_to P u e).entry ∷ []) t (events ls) ≡ told (λ l. l.entry ∷ []) ls
  pub parts : trace (next P) (λ u e. (answer_to P u e).part) t (events ls) ≡ told (λ l. l.part) ls
  pub records : records P t (events ls) ≡ told (λ l. gained l.event l.entry) ls

abbrev pub RoundHolds : Type 0
RoundHolds = Holds round_table round

abbrev pub SecondHolds : Type 0
SecondHolds = Holds second_table second

abbrev pub ProbeHolds : Type 0
ProbeHolds = Holds probe_table probe

abbrev pub PreviewedHolds : Type 0
PreviewedHolds = Holds round_table previewed

-- what a buffer lent to a preview holds afterwards: where the content has room, where it has not, and of a caller that is refused
pub record BuffersHold : Type 0 where
  pub longer : (answer_to P round_table (preview (show 0 (replicate 4 0xee)))).buffer ≡ hex "a1b2eeee"
  pub exact : (answer_to P round_table (preview (show 0 (replicate 2 0xee)))).buffer ≡ hex "a1b2"
  pub shorter : (answer_to P round_table (preview (show 0 (replicate 1 0xee)))).buffer ≡ hex "ee"
  pub by_an_item : (answer_to P round_table (preview (show 2 (replicate 4 0xee)))).buffer ≡ hex "eeeeeeee"

-- ---- audits of all records of a round with its end table, by caller i

abbrev audited : Plain words → List (Line (Plain words)) → ℕ → List ℕ → Audit
audited t ls i buf = audit P (final (next P) t (events ls)) i (records P t (events ls)) buf

abbrev refused : Refusal → List ℕ → Audit
refused r buf = record { outcome = Err r; part = []; buffer = buf }

-- the watering round before a program in slot 3 that bears no tag
abbrev pub watched_table : Plain words
watched_table = now 3 (entity Program 0 0 0 0 0 0 []) round_table

pub record AuditsHold : Type 0 where
  -- by slot 1, which bears the tag: all six records, 96 bytes; two bytes of the buffer stay
  pub all : audited round_table round 1 (replicate 98 0xee) ≡ record {
    outcome = Ok tt;
    part = hex "0401000700ffff0001000000000000000501ff000000000001000000000000000401000002ffff0001000000000000000201ff0002ffff0001000000000000000301020700ffff0001000000000000000601ff0a000000000100000000000000";
    buffer = hex "0401000700ffff0001000000000000000501ff000000000001000000000000000401000002ffff0001000000000000000201ff0002ffff0001000000000000000301020700ffff0001000000000000000601ff0a000000000100000000000000eeee";
  }
  -- with one byte too little
  pub short : audited round_table round 1 (replicate 95 0xee) ≡ refused NoRoomForRecords (replicate 95 0xee)
  -- by an item
  pub item : audited round_table round 2 (replicate 98 0xee) ≡ refused NoProgram (replicate 98 0xee)
  -- by one without the tag: no record, so no room is needed
  pub without : audited watched_table round 3 [] ≡ record { outcome = Ok tt; part = []; buffer = [] }
  -- of the second round by slot 0, which has dropped its tag: slot 1's add, its own show, slot 1's release
  pub some : audited second_table second 0 (replicate 48 0xee) ≡ record {
    outcome = Ok tt;
    part = hex "0501ff00000c010000000000000000000200ff0003ffff0000000000000000000801010000ffff000000000000000000";
    buffer = hex "0501ff00000c010000000000000000000200ff0003ffff0000000000000000000801010000ffff000000000000000000";
  }
  pub some_short : audited second_table second 0 (replicate 47 0xee) ≡ refused NoRoomForRecords (replicate 47 0xee)
  -- of the probe's round by slot 1, which bears no tag: the calls by the item without a tag, by the free slot and by the number above 31
  pub probe_without : audited probe_table probe 1 (replicate 48 0xee) ≡ record {
    outcome = Ok tt;
    part = hex "0303040100ffff0000000000000000000407020100ffff0000000000000000000328020100ffff000000000000000000";
    buffer = hex "0303040100ffff0000000000000000000407020100ffff0000000000000000000328020100ffff000000000000000000";
  }
  -- by its grower: all but the last, 13 records, where there is room for 12 and 15 bytes
  pub probe_short : audited probe_table probe 0 (replicate 207 0xee) ≡ refused NoRoomForRecords (replicate 207 0xee)
  pub probe_all : (audited probe_table probe 0 (replicate 208 0xee)).part ≡ told (λ l. l.entry) (take 13 probe)
  -- of the round with previews, by slot 1: its three calls
  pub previewed_all : audited round_table previewed 1 (replicate 48 0xee) ≡ record {
    outcome = Ok tt;
    part = hex "0501ff000000000001000000000000000401000002ffff0001000000000000000201ff0002ffff000100000000000000";
    buffer = hex "0501ff000000000001000000000000000401000002ffff0001000000000000000201ff0002ffff000100000000000000";
  }

-- ---- 'Two runs', at the watering round and tag 0, and at the probe's round and tag 9

-- the round's table with another content in slot 0, which bears the tag; and a run with two more calls by that slot
abbrev pub other_table : Plain words
other_table = now 0 (entity Program 1 0 0 0 0 0 (hex "ff")) round_table

abbrev pub longer : List (Event words)
longer = call (put 0 (hex "11")) ∷ call (send 0 2) ∷ events round

-- the probe's round without the calls by the item that bears the tag
abbrev pub without_probe : List (Event words)
without_probe = run_of (send 3 4 ∷ fetch 7 2 ∷ send 40 2 ∷ fetch 1 2 ∷ create 4 2 1 ∷ [])

-- the watering round after previews, of which those by slot 0, that bears the tag, differ in number, kind and place; in the second run
-- slot 0 also puts
abbrev pub with_previews : List (Event words)
with_previews = preview (show 0 (replicate 64 0)) ∷ preview (fetch 1 0) ∷ preview (put 2 (hex "44")) ∷ preview (release 0 0) ∷ events round

abbrev pub with_others : List (Event words)
with_others = preview (fetch 1 0) ∷ call (put 0 (hex "11")) ∷ preview (create 0 3 2) ∷ preview (put 2 (hex "44")) ∷ events round

-- previews by the item that bears the tag, by its grower in slot 0, and by those without it
abbrev pub at_the_probe : List (Event words)
at_the_probe = preview (add_tag 2 0 12) ∷ preview (put 3 (hex "44")) ∷ preview (hand 0 4 1 9) ∷ preview (fetch 7 2) ∷ preview (send 40 2) ∷ preview (fetch 1 2) ∷ []

pub record TwoRunsHold : Type 0 where
  -- a put, show, send or fetch by a program bearing the tag is struck out, also a refused one
  pub of_programs : kept (next P) (struck P (bears words 0)) round_table (events round) ≡ run_of (fetch 1 0 ∷ add_tag 1 0 0 ∷ drop_tag 1 0 0 ∷ [])
  -- of the probe's round, every call by the item that bears the tag, and none by another
  pub of_items : kept (next P) (struck P (bears words 9)) probe_table (events probe) ≡ without_probe
  -- every preview by slot 0, of whichever call, and none by slot 1 or the item without the tag
  pub of_previews : kept (next P) (struck P (bears words 0)) round_table with_previews
      ≡ preview (fetch 1 0) ∷ preview (put 2 (hex "44")) ∷ run_of (fetch 1 0 ∷ add_tag 1 0 0 ∷ drop_tag 1 0 0 ∷ [])
  -- those by slot 1 once it bears the tag, and not before
  pub once_it_bears : kept (next P) (struck P (bears words 0)) round_table (events previewed)
      ≡ preview (fetch 1 0) ∷ preview (add_tag 1 0 0) ∷ preview (fetch 1 0) ∷ call (add_tag 1 0 0) ∷ preview (put 2 (hex "44")) ∷ preview (fetch 40 0) ∷ []
  -- of previews at the probe's table, those by the item that bears the tag and by its grower
  pub by_the_probe : kept (next P) (struck P (bears words 9)) probe_table at_the_probe
      ≡ preview (put 3 (hex "44")) ∷ preview (fetch 7 2) ∷ preview (send 40 2) ∷ preview (fetch 1 2) ∷ []
  -- to the letter of demand 3 the same of programs, and none of items
  pub programs_alone : kept (next P) (struck_of_programs P (bears words 0)) round_table (events round) ≡ run_of (fetch 1 0 ∷ add_tag 1 0 0 ∷ drop_tag 1 0 0 ∷ [])
  pub by_its_grower : kept (next P) (struck_of_programs P (bears words 9)) probe_table at_the_probe
      ≡ preview (add_tag 2 0 12) ∷ preview (put 3 (hex "44")) ∷ preview (fetch 7 2) ∷ preview (send 40 2) ∷ preview (fetch 1 2) ∷ []
  pub programs_alone_at_the_probe : kept (next P) (struck_of_programs P (bears words 9)) probe_table (events probe) ≡ events probe
  -- slot 0 bears tag 0; slot 1, the item in 2, the free slot 7 and the number 40 do not, and their calls are answered
  pub hidden : map (hidden_at P (bears words 0) round_table) (0 ∷ 1 ∷ 2 ∷ 7 ∷ 40 ∷ []) ≡ true ∷ false ∷ false ∷ false ∷ false ∷ []
  pub answered : (c : Call words) → hidden_at P (bears words 0) round_table (caller_of c) ≡ false → heard P (bears words 0) round_table (call c) ≡ answer P round_table c ∷ []
  -- the premise of demand 3 is met by two tables and two runs that differ
  pub premise : SecretRuns P (struck P (bears words 0)) 0 round_table other_table (events round) longer
  pub premise_of_previews : SecretRuns P (struck P (bears words 0)) 0 round_table other_table with_previews with_others
  pub previews_disclose_nothing : Undisclosed P 0 round_table other_table with_previews with_others
  -- and by the probe's round and the round without the probe's calls: who lacks its tag is told the same by both
  pub premise_of_items : SecretRuns P (struck P (bears words 9)) 9 probe_table probe_table (events probe) without_probe
  pub undisclosed : Undisclosed P 9 probe_table probe_table (events probe) without_probe
