-- Cases P1 to P14 of document 01 and the worked rounds follow from the definitions, by computing them.
-- Assumes nothing.
use mathlib.Core.Path.{◌≡◌, refl, ap, ap₂}
use mathlib.Core.Bool.{Bool, true, cond, ◌&&◌}
use mathlib.Core.List.{List, [], ◌∷◌, map}
use Prim.Native.Nat.{ℕ}
use lib.Dec.{leb, eqb}
use Rattle.std.specs.List.{list_all}
use lib.ListN.{length, get_or, replicate}
use Rattle.rules.specs.Bounded.{all_below}
use Rattle.rules.specs.Table.{Slot, Tables, Plain, plain, free, slot_formed, slot_keeps, accepted}
use Rattle.rules.specs.Calls.{Call, show, hand}
use Rattle.rules.specs.Refusals.{number_of, verdict}
use Rattle.rules.specs.Record.{Answer, answer, Audit, audit, records_in, shown_of}
use Rattle.rules.specs.Runs.{final, gained, next, records}
use Rattle.rules.specs.ByNumber.{passing}
use Rattle.rules.proofs.Facts.{and_left}
use Rattle.rules.proofs.Steps.{free_formed}
use Rattle.rules.proofs.Plain.{plain_laws}
use Rattle.label.specs.Tags.{group_formed, tag_of, set_of, sum_of, subset_in, equal_in, union_in, with_in, without_in, common_in, bytes_in, empty, has_tag, subset_of, equal_of, union_of, with_tag, without_tag, common_of, keeps_to, bytes_of, from_bytes_in, from_bytes}
use Rattle.label.specs.Words.{words}
use Rattle.label.proofs.Words.{words_order}
use Rattle.cases.specs.Cases.{Small, table_of, Case, cases, given, turned_down, trial, Trial, trials, tried, CasesHold, EachOccurs, TrialsHold}
use Rattle.cases.specs.Rounds.{Line, events, told, turns, expected, round_table, round, second_table, second, probe_table, probe, previewed, watched_table, Holds, RoundHolds, SecondHolds, ProbeHolds, PreviewedHolds, BuffersHold, AuditsHold}
use Rattle.cases.proofs.Sure.{sure, end, sure_answer, round_sure, round_told, round_records, round_audit}

-- what the cases and rounds are computed with
unfoldable pub computed : ℕ
unfolding all_below tag_of set_of sum_of subset_in equal_in union_in with_in without_in common_in bytes_in empty has_tag subset_of equal_of union_of with_tag without_tag common_of keeps_to bytes_of from_bytes_in from_bytes records_in shown_of passing
computed = 0

-- tables whose form is tested at the first two slots, as that of a small one can be
abbrev tested : Tables words
tested = record {
  Table = Plain words;
  formed = λ t. (slot_formed (t.slots 1) && (slot_formed (t.slots 0) && true)) && (leb (length t.groups) 8 && list_all group_formed t.groups);
  slot = λ t i. t.slots i;
  groups = λ t. t.groups;
  store = (plain words).store;
}

all_two : (f : Slot words → Bool) (a b : Slot words) → f free ≡ true → all_below 32 (λ i. f (cond (eqb i 0) a (cond (eqb i 1) b free))) ≡ f b && (f a && true)
unfolding all_below
all_two f a b h = rw h

formed_is : (t : Small) → (plain words).formed (table_of t) ≡ tested.formed (table_of t)
formed_is t = ap (λ (x : Bool). x && (leb (length t.groups) 8 && list_all group_formed t.groups)) (all_two slot_formed t.caller t.receiver (free_formed words_order))

given_is : (k : Case) → given k ≡ record {
  accepted = tested.formed (table_of k.table) && all_below 32 (λ i. slot_keeps k.table.groups ((table_of k.table).slots i));
  number = get_or (answer tested (table_of k.table) k.call).entry 3 0;
  count = get_or (answer tested (table_of k.table) k.call).entry 4 0;
}
given_is k = rw (formed_is k.table)

number_is : (k : Small × Call words) → number_of (verdict (plain words) (table_of k.0) k.1) ≡ number_of (verdict tested (table_of k.0) k.1)
number_is k = rw (formed_is k.0)

map_is : {X Y : Type 0} {f g : X → Y} → ((x : X) → f x ≡ g x) → (xs : List X) → map f xs ≡ map g xs
map_is h [] = refl
map_is h (x ∷ xs) = ap₂ ◌∷◌ (h x) (map_is h xs)

pub cases_hold : CasesHold
unfolding computed
cases_hold = map_is given_is cases

pub each_occurs : EachOccurs
unfolding computed
each_occurs = map_is number_is turned_down

tried_is : (k : Trial) → tried k ≡ record {
  groups = k.groups;
  accepted = tested.formed (table_of (trial k.groups)) && all_below 32 (λ i. slot_keeps k.groups ((table_of (trial k.groups)).slots i));
  number = number_of (verdict tested (table_of (trial k.groups)) (hand 0 1 1 2));
}
tried_is k = rw (formed_is (trial k.groups))

pub trials_hold : TrialsHold
unfolding computed
trials_hold = map_is tried_is trials

round-plays : turns (sure (plain words)) round_table round ≡ expected round_table round
unfolding computed
round-plays = refl

second-plays : turns (sure (plain words)) second_table second ≡ expected second_table second
unfolding computed
second-plays = refl

probe_plays : turns (sure (plain words)) probe_table probe ≡ expected probe_table probe
unfolding computed
probe_plays = refl

previewed_plays : turns (sure (plain words)) round_table previewed ≡ expected round_table previewed
unfolding computed
previewed_plays = refl

watched_plays : turns (sure (plain words)) watched_table round ≡ expected watched_table round
unfolding computed
watched_plays = refl

-- a round that plays on tables taken to be in form holds
holds : (t : Plain words) (ls : List (Line (Plain words))) → accepted (plain words) t ≡ true → turns (sure (plain words)) t ls ≡ expected t ls → Holds t ls
holds t ls a r = let p = round_sure (plain words) (plain_laws words) t ls (and_left ((plain words).formed t) _ a) r in
    record { accepted = a; plays = p; entries = round_told (plain words) (plain_laws words) (λ e bs. e ∷ []) t ls p; parts = round_told (plain words) (plain_laws words) (λ e bs. bs) t ls p; records = round_records (plain words) (plain_laws words) t ls p }

pub round_holds : RoundHolds
unfolding computed
round_holds = holds round_table round refl round-plays

pub second_holds : SecondHolds
unfolding computed
second_holds = holds second_table second refl second-plays

pub probe_holds : ProbeHolds
unfolding computed
probe_holds = holds probe_table probe refl probe_plays

pub previewed_holds : PreviewedHolds
unfolding computed
previewed_holds = holds round_table previewed refl previewed_plays

pub buffers_hold : BuffersHold
unfolding computed
buffers_hold = record { longer = buffer 0 4; exact = buffer 0 2; shorter = buffer 0 1; by_an_item = buffer 2 4 }
  where
    buffer : (i n : ℕ) → (answer (plain words) round_table (show i (replicate n 0xee))).buffer ≡ (answer (sure (plain words)) round_table (show i (replicate n 0xee))).buffer
    buffer i n = ap (λ (a : Answer). a.buffer) (sure_answer (plain words) (plain_laws words) round_table (show i (replicate n 0xee)) refl)

-- the audit of a round that holds
of_round : {t : Plain words} {ls : List (Line (Plain words))} → Holds t ls → (i : ℕ) (buf : List ℕ)
    → audit (plain words) (final (next (plain words)) t (events ls)) i (records (plain words) t (events ls)) buf ≡ audit (sure (plain words)) (end t ls) i (told (λ l. gained l.event l.entry) ls) buf
of_round {t} {ls} h i buf = round_audit (plain words) (plain_laws words) t ls (and_left ((plain words).formed t) _ h.accepted) h.plays i buf

pub audits_hold : AuditsHold
unfolding computed
audits_hold = record {
  all = of_round round_holds 1 (replicate 98 0xee);
  short = of_round round_holds 1 (replicate 95 0xee);
  item = of_round round_holds 2 (replicate 98 0xee);
  without = of_round (holds watched_table round refl watched_plays) 3 [];
  some = of_round second_holds 0 (replicate 48 0xee);
  some_short = of_round second_holds 0 (replicate 47 0xee);
  probe_without = of_round probe_holds 1 (replicate 48 0xee);
  probe_short = of_round probe_holds 0 (replicate 207 0xee);
  probe_all = ap (λ (a : Audit). a.part) (of_round probe_holds 0 (replicate 208 0xee));
  previewed_all = of_round previewed_holds 1 (replicate 48 0xee);
}
