-- 'Two runs' at the watering round and the probe's.
-- Assumes nothing.
use mathlib.Core.Path.{◌≡◌, refl, ap, sym, ◌∙◌}
use mathlib.Core.Bool.{Bool, true, false, cond, false≢true}
use mathlib.Core.List.{List, [], ◌∷◌, map}
use Prim.Native.Nat.{ℕ}
use native.Mathlib.Omega.{arith}
use lib.Dec.{ltb, eqb}
use Rattle.rules.specs.Table.{Slot, plain, free, at, accepted, Rights, no_rights}
use Rattle.rules.specs.Calls.{put, fetch, add_tag, drop_tag}
use Rattle.rules.specs.Runs.{kept, Event, preview, run_of, next, Hidden, bears, hidden_at, struck, struck_of_programs, SlotsAgree}
use Rattle.rules.specs.Claims.{SecretRuns}
use Rattle.rules.proofs.Facts.{either}
use Rattle.rules.proofs.Plain.{plain_laws}
use Rattle.label.specs.Tags.{tag_of, empty, has_tag}
use Rattle.label.specs.Words.{words}
use Rattle.cases.specs.Hex.{hex}
use Rattle.cases.specs.Rounds.{events, round_table, round, probe_table, probe, previewed, other_table, longer, without_probe, with_previews, with_others, at_the_probe, TwoRunsHold}
use Rattle.cases.proofs.Sure.{kept_sure}
use Rattle.cases.proofs.Cases.{computed, probe_holds}
use Rattle.cases.proofs.Claims.{words-secrecy}

-- nobody of the round has the right to drop the tag
undroppable : (i : ℕ) → has_tag (at (plain words) round_table i).rights.sd 0 ≡ false
unfolding tag_of empty has_tag
undroppable i = either (ltb i 32) (λ e. rw e (go (eqb i 0) (eqb i 1) (eqb i 2))) (λ e. rw e)
  where
    go : (x y z : Bool) → has_tag (cond x (round_table.slots 0) (cond y (round_table.slots 1) (cond z (round_table.slots 2) free))).rights.sd 0 ≡ false
    go true y z = refl
    go false true z = refl
    go false false true = refl
    go false false false = refl

agree_same : {H : Hidden words} (i : ℕ) (a : Slot words) → SlotsAgree H i a a
agree_same i a = record { kind = refl; sec = refl; int = refl; rights = refl; content = λ h. refl }

agree : (i : ℕ) → SlotsAgree (bears words 0) i (at (plain words) round_table i) (at (plain words) other_table i)
unfolding tag_of has_tag
agree i = either (ltb i 32) (λ e. rw e (go (eqb i 0))) (λ e. rw e (agree_same i free))
  where
    rest : Slot words
    rest = cond (eqb i 1) (round_table.slots 1) (cond (eqb i 2) (round_table.slots 2) free)

    go : (x : Bool) → SlotsAgree (bears words 0) i (cond x (round_table.slots 0) rest) (cond x (other_table.slots 0) (cond x (round_table.slots 0) rest))
    go true = record { kind = refl; sec = refl; int = refl; rights = refl; content = λ h. absurd (false≢true (sym h)) }
    go false = agree_same i rest

round-kept : kept (next (plain words)) (struck (plain words) (bears words 0)) round_table (events round) ≡ run_of (fetch 1 0 ∷ add_tag 1 0 0 ∷ drop_tag 1 0 0 ∷ [])
unfolding computed
round-kept = kept_sure (plain words) (plain_laws words) (struck (plain words) (bears words 0)) round_table (events round) refl

other-kept : kept (next (plain words)) (struck (plain words) (bears words 0)) other_table longer ≡ run_of (fetch 1 0 ∷ add_tag 1 0 0 ∷ drop_tag 1 0 0 ∷ [])
unfolding computed
other-kept = kept_sure (plain words) (plain_laws words) (struck (plain words) (bears words 0)) other_table longer refl

round-accepted : accepted (plain words) round_table ≡ true
unfolding computed
round-accepted = refl

other-accepted : accepted (plain words) other_table ≡ true
unfolding computed
other-accepted = refl

hidden_are : map (hidden_at (plain words) (bears words 0) round_table) (0 ∷ 1 ∷ 2 ∷ 7 ∷ 40 ∷ []) ≡ true ∷ false ∷ false ∷ false ∷ false ∷ []
unfolding computed
hidden_are = refl

-- nobody of the probe's round has any right
no_right_at : (i : ℕ) → (at (plain words) probe_table i).rights ≡ no_rights {A = words}
unfolding tag_of empty
no_right_at i = either (ltb i 32) (λ e. rw e (go (eqb i 0) (eqb i 1) (eqb i 2) (eqb i 3) (eqb i 4))) (λ e. rw e)
  where
    go : (v w x y z : Bool) → (cond v (probe_table.slots 0) (cond w (probe_table.slots 1) (cond x (probe_table.slots 2) (cond y (probe_table.slots 3) (cond z (probe_table.slots 4) free))))).rights ≡ no_rights {A = words}
    go true w x y z = refl
    go false true x y z = refl
    go false false true y z = refl
    go false false false true z = refl
    go false false false false true = refl
    go false false false false false = refl

items-kept : kept (next (plain words)) (struck (plain words) (bears words 9)) probe_table (events probe) ≡ without_probe
unfolding computed
items-kept = kept_sure (plain words) (plain_laws words) (struck (plain words) (bears words 9)) probe_table (events probe) refl

without-kept : kept (next (plain words)) (struck (plain words) (bears words 9)) probe_table without_probe ≡ without_probe
unfolding computed
without-kept = kept_sure (plain words) (plain_laws words) (struck (plain words) (bears words 9)) probe_table without_probe refl

probe-premise : SecretRuns (plain words) (struck (plain words) (bears words 9)) 9 probe_table probe_table (events probe) without_probe
unfolding tag_of empty has_tag
probe-premise = record {
  left = probe_holds.accepted;
  right = probe_holds.accepted;
  undroppable = λ i p. ap (λ (r : Rights words). has_tag r.sd 9) (no_right_at i);
  tables = record { slots = λ i. agree_same i (at (plain words) probe_table i); groups = refl };
  events = items-kept ∙ sym without-kept;
}

previews-kept : kept (next (plain words)) (struck (plain words) (bears words 0)) round_table with_previews
    ≡ preview (fetch 1 0) ∷ preview (put 2 (hex "44")) ∷ run_of (fetch 1 0 ∷ add_tag 1 0 0 ∷ drop_tag 1 0 0 ∷ [])
unfolding computed
previews-kept = kept_sure (plain words) (plain_laws words) (struck (plain words) (bears words 0)) round_table with_previews refl

others-kept : kept (next (plain words)) (struck (plain words) (bears words 0)) other_table with_others
    ≡ preview (fetch 1 0) ∷ preview (put 2 (hex "44")) ∷ run_of (fetch 1 0 ∷ add_tag 1 0 0 ∷ drop_tag 1 0 0 ∷ [])
unfolding computed
others-kept = kept_sure (plain words) (plain_laws words) (struck (plain words) (bears words 0)) other_table with_others refl

-- the premise on the watering round's table and the other one
starts_differ : (es fs : List (Event words))
    → kept (next (plain words)) (struck (plain words) (bears words 0)) round_table es ≡ kept (next (plain words)) (struck (plain words) (bears words 0)) other_table fs
    → SecretRuns (plain words) (struck (plain words) (bears words 0)) 0 round_table other_table es fs
starts_differ es fs k = record { left = round-accepted; right = other-accepted; undroppable = λ i p. undroppable i; tables = record { slots = agree; groups = refl }; events = k }

previews-premise : SecretRuns (plain words) (struck (plain words) (bears words 0)) 0 round_table other_table with_previews with_others
previews-premise = starts_differ with_previews with_others (previews-kept ∙ sym others-kept)

pub two_runs_hold : TwoRunsHold
unfolding computed
two_runs_hold = record {
  of_programs = round-kept;
  of_items = items-kept;
  of_previews = previews-kept;
  once_it_bears = kept_sure (plain words) (plain_laws words) (struck (plain words) (bears words 0)) round_table (events previewed) refl;
  by_the_probe = kept_sure (plain words) (plain_laws words) (struck (plain words) (bears words 9)) probe_table at_the_probe refl;
  by_its_grower = kept_sure (plain words) (plain_laws words) (struck_of_programs (plain words) (bears words 9)) probe_table at_the_probe refl;
  programs_alone = kept_sure (plain words) (plain_laws words) (struck_of_programs (plain words) (bears words 0)) round_table (events round) refl;
  programs_alone_at_the_probe = kept_sure (plain words) (plain_laws words) (struck_of_programs (plain words) (bears words 9)) probe_table (events probe) refl;
  hidden = hidden_are;
  answered = λ c h. rw h;
  premise = starts_differ (events round) longer (round-kept ∙ sym other-kept);
  premise_of_previews = previews-premise;
  previews_disclose_nothing = words-secrecy 0 (omega arith) round_table other_table with_previews with_others previews-premise;
  premise_of_items = probe-premise;
  undisclosed = words-secrecy 9 (omega arith) probe_table probe_table (events probe) without_probe probe-premise;
}
