-- What an allowed call leaves in its slot, and that it leaves all else.
-- Assumes nothing.
use mathlib.Core.Path.{◌≡◌, refl, sym, ◌∙◌}
use mathlib.Core.Bool.{Bool, true, false, cond, not, ◌||◌}
use Prim.Native.Nat.{ℕ}
use lib.Dec.{eqb}
use lib.ListN.{length, drop}
use lib.Seq.{take-append_seam}
use borrow.Author.Tests.{eqb-true, eq-eqb, ne_eqb}
use Rattle.rules.specs.declared.Kind.{Kind}
use Rattle.rules.specs.declared.Kind.TheVariants.{Free, Item, Program}
use Rattle.rules.specs.Numbers.{Outcome}
use Rattle.std.specs.Prelude.{Ok, Err}
use Rattle.rules.specs.declared.Refusal.TheVariants.{NoRight}
use Rattle.rules.specs.Labels.{Labels}
use Rattle.rules.specs.Table.{is_free, is_item, is_program, Slot, Tables, at}
use Rattle.rules.specs.Calls.{Call, put, show, send, fetch, add_tag, drop_tag, create, release, hand, caller_of, other_of, target, moved}
use Rattle.rules.specs.Refusals.{refusals, all_refusals, verdict, step}
use Rattle.rules.specs.Laws.{OrderLaws, TableLaws}
use Rattle.rules.specs.Effects.{Leaves, Same, Effects, CallsLeave, Asks, RightsNeeded}
use Rattle.rules.proofs.Facts.{alone, not-false, not-true, condition, some_numbered, returned}
use Rattle.rules.proofs.Steps.{Pass, pass, writes, step_at, step_groups}
use Rattle.rules.proofs.Refused.{filled-rest}

program_is : (k : Kind) → not (is_program k) ≡ false → k ≡ Program
program_is Free e = cc
program_is Item e = cc
program_is Program e = refl

program_else : (k : Kind) → is_free k ≡ false → is_item k ≡ false → k ≡ Program
program_else Free e f = cc
program_else Item e f = cc
program_else Program e f = refl

-- by what the table after an allowed call holds, slot by slot, and its groups
module _ {A : Labels} (T : Tables A) (t : T.Table)
    (slots : (c : Call A) → Pass T t c → (m : ℕ) → at T (step T t c) m ≡ cond (eqb m (target c)) (writes T t c) (at T t m))
    (groups : (c : Call A) → T.groups (step T t c) ≡ T.groups t) where
  -- how many bytes a call moves, if it is allowed
  abbrev moves : Call A → ℕ
  moves c = length (moved (at T t (caller_of c)) (at T t (other_of c)) c)

  -- an allowed call leaves what it writes in the one slot, if that is e
  leaves : (c : Call A) (e : Slot A) → (Pass T t c → writes T t c ≡ e) → Leaves T t c (target c) e (moves c)
  leaves c e w a = record {
    slot = slots c p (target c) ∙ rw (eq-eqb (target c) (target c) refl) (w p);
    others = λ m n. slots c p m ∙ rw (ne_eqb m (target c) n);
    groups = groups c;
    count = rw a;
  }
    where
      p : Pass T t c
      p = pass T t c a

  -- a call that writes what was there changes nothing
  same : (c : Call A) → writes T t c ≡ at T t (target c) → Same T t c
  same c w = record { slots = λ m. go m (verdict T t c) refl; groups = groups c }
    where
      either_way : (m : ℕ) (b : Bool) → eqb m (target c) ≡ b → cond b (writes T t c) (at T t m) ≡ at T t m
      either_way m true e = rw (eqb-true m (target c) e) w
      either_way m false e = refl

      go : (m : ℕ) (v : Outcome) → verdict T t c ≡ v → at T (step T t c) m ≡ at T t m
      go m (Err n) e = rw e
      go m (Ok _) e = slots c (pass T t c e) m ∙ either_way m (eqb m (target c)) refl

  -- what is written is a program
  program : (c : Call A) → (Pass T t c → (writes T t c).kind ≡ Program)
      → Leaves T t c (target c) (record { kind = Program; sec = (writes T t c).sec; int = (writes T t c).int; rights = (writes T t c).rights; content = (writes T t c).content }) (moves c)
  program c k = leaves c _ (λ p. let q = k p in
      λ z. record { kind = q z; sec = (writes T t c).sec; int = (writes T t c).int; rights = (writes T t c).rights; content = (writes T t c).content })

  effects : Effects T t
  effects = record {
    puts = λ i bs. program (put i bs) (λ p. program_is _ (p.off 1));
    shows = λ i buf a. record {
      part = rw a;
      front = rw a (take-append_seam (at T t i).content (drop (length (at T t i).content) buf));
      rest = rw a (filled-rest (at T t i).content buf);
      count = rw a;
    };
    shows_only = λ i buf. same (show i buf) refl;
    sends = λ i j. leaves (send i j) _ (λ p. refl);
    fetches = λ i j. program (fetch i j) (λ p. program_is _ (p.off 1));
    sends_self = λ i. same (send i i) refl;
    fetches_self = λ i. same (fetch i i) refl;
    adds_S = λ i q. program (add_tag i 0 q) (λ p. program_is _ (p.off 1));
    adds_I = λ i q. program (add_tag i 1 q) (λ p. program_is _ (p.off 1));
    drops_S = λ i q. program (drop_tag i 0 q) (λ p. program_is _ (p.off 1));
    drops_I = λ i q. program (drop_tag i 1 q) (λ p. program_is _ (p.off 1));
    creates_item = λ i j. leaves (create i j 1) _ (λ p. refl);
    creates_program = λ i j. leaves (create i j 2) _ (λ p. refl);
    releases = λ i j. leaves (release i j) _ (λ p. refl);
    hands_sa = λ i j q. program (hand i j 0 q) (λ p. program_else _ (p.off 3) (p.off 9));
    hands_sd = λ i j q. program (hand i j 1 q) (λ p. program_else _ (p.off 3) (p.off 9));
    hands_ia = λ i j q. program (hand i j 2 q) (λ p. program_else _ (p.off 3) (p.off 9));
    hands_id = λ i j q. program (hand i j 3 q) (λ p. program_else _ (p.off 3) (p.off 9));
  }

pub calls_leave : {A : Labels} → OrderLaws A → (T : Tables A) → TableLaws T → CallsLeave T
calls_leave O T L t = effects T t (step_at T O L t) (step_groups T O L t)

-- ---- the rights that are asked for

module _ {A : Labels} (T : Tables A) (t : T.Table) where
  asks : (c : Call A) (l : A.Label) (p : A.Tag)
      → condition 10 (refusals (T.groups t) (at T t (caller_of c)) (at T t (other_of c)) c) ≡ not (A.has l p)
      → some_numbered 10 (all_refusals T t c) ≡ not (A.has l p) || false → Asks T t c l p
  asks c l p k s = record {
    has = λ e. not-false (A.has l p) (sym k ∙ (pass T t c e).off 10);
    lacks = λ e. not-true (A.has l p) (alone (not (A.has l p)) (sym s ∙ returned (all_refusals T t c) NoRight e));
  }

pub rights_needed : {A : Labels} → (T : Tables A) → RightsNeeded T
rights_needed T t = record {
  adds_S = λ i p. asks T t (add_tag i 0 p) _ p refl refl;
  adds_I = λ i p. asks T t (add_tag i 1 p) _ p refl refl;
  drops_S = λ i p. asks T t (drop_tag i 0 p) _ p refl refl;
  drops_I = λ i p. asks T t (drop_tag i 1 p) _ p refl refl;
  hands_sa = λ i j p. asks T t (hand i j 0 p) _ p refl refl;
  hands_sd = λ i j p. asks T t (hand i j 1 p) _ p refl refl;
  hands_ia = λ i j p. asks T t (hand i j 2 p) _ p refl refl;
  hands_id = λ i j p. asks T t (hand i j 3 p) _ p refl refl;
}
