-- The list of refusals read by number is the list read call by call; flow asks no right; and what else goes by a number.
-- Assumes nothing.
use mathlib.Core.Path.{◌≡◌, refl, ap, sym, ◌∙◌}
use mathlib.Core.Bool.{Bool, true, false, cond, not, ◌&&◌, ◌||◌}
use mathlib.Core.List.{List, [], ◌∷◌}
use Prim.Native.Nat.{ℕ}
use lib.Dec.{eqb}
use borrow.Author.Tests.{eq-eqb}
use Rattle.std.proofs.Math.Bool.{or-false, and-false, and-true}
use Rattle.rules.specs.declared.Kind.{Kind}
use Rattle.rules.specs.declared.Kind.TheVariants.{Free, Item, Program}
use Rattle.rules.specs.Labels.{Labels}
use Rattle.rules.specs.Table.{is_free, is_item, is_program, Slot, Tables, at}
use Rattle.rules.specs.Calls.{Call, put, show, send, fetch, add_tag, drop_tag, create, release, hand, fields_of, caller_of, other_of, moves_content}
use Rattle.rules.specs.Refusals.{Refusals, allow, ◌if◌else◌, first, number_of, refusals, verdict, step}
use Rattle.rules.specs.Record.{need_by}
use Rattle.rules.specs.Runs.{hides, may_differ}
use Rattle.rules.specs.Claims.{ItemsRefused}
use Rattle.rules.specs.ByNumber.{among, by_number, ListByNumber, FlowIgnoresRights, KindsMove, passing, NumbersListed, StruckByNumber, NeedByNumber, RecordBytes}
use Rattle.rules.specs.Numbers.{Outcome, number}
use Rattle.rules.proofs.Facts.{not-true, and_left, and_right, neither_left, neither_right, all_numbers}
use Rattle.rules.specs.declared.Refusal.TheVariants.{NoProgram, Formless}

pub no_program : (k : Kind) → is_free k || is_item k ≡ not (is_program k)
no_program Free = refl
no_program Item = refl
no_program Program = refl

module _ {A : Labels} where
  same : (gs : List A.Group) (a b : Slot A) (c : Call A) → first (by_number gs a b c) ≡ first (refusals gs a b c)
  same gs a b (put i bs) = rw (no_program a.kind)
  same gs a b (show i buf) = rw (no_program a.kind)
  same gs a b (send i j) = simp (no_program, or-false)
  same gs a b (fetch i j) = simp (no_program, or-false)
  same gs a b (add_tag i n p) = simp (no_program, or-false)
  same gs a b (drop_tag i n p) = simp (no_program, or-false)
  same gs a b (create i j n) = simp (no_program, or-false)
  same gs a b (release i j) = simp (no_program, or-false)
  same gs a b (hand i j n p) = rw (no_program a.kind)

  pub flow_ignores_rights : FlowIgnoresRights A
  flow_ignores_rights gs a b r s i j = record { send = refl; fetch = refl }

  pub list_by_number : (T : Tables A) → ListByNumber T
  list_by_number T t c = go (T.formed t)
    where
      go : (f : Bool) → first (Formless if not f else by_number (T.groups t) (at T t (caller_of c)) (at T t (other_of c)) c) ≡ first (Formless if not f else refusals (T.groups t) (at T t (caller_of c)) (at T t (other_of c)) c)
      go true = same (T.groups t) (at T t (caller_of c)) (at T t (other_of c)) c
      go false = refl

-- ---- kinds and numbers

pub kinds_move : {A : Labels} → KindsMove A
kinds_move (put i bs) = record { moves = refl; shows = refl }
kinds_move (show i buf) = record { moves = refl; shows = refl }
kinds_move (send i j) = record { moves = refl; shows = refl }
kinds_move (fetch i j) = record { moves = refl; shows = refl }
kinds_move (add_tag i n p) = record { moves = refl; shows = refl }
kinds_move (drop_tag i n p) = record { moves = refl; shows = refl }
kinds_move (create i j n) = record { moves = refl; shows = refl }
kinds_move (release i j) = record { moves = refl; shows = refl }
kinds_move (hand i j n p) = record { moves = refl; shows = refl }

pub numbers_listed : NumbersListed
unfolding passing
numbers_listed = record { calls = refl; audits = refl }

pub struck_by_number : {A : Labels} (T : Tables A) → StruckByNumber T
struck_by_number T H t c = let m = (kinds_move c).moves in record {
  calls = by_calls (at T t (caller_of c)).kind m;
  previews = by_previews (at T t (caller_of c)).kind h;
  calls_of_programs = calls-alone (at T t (caller_of c)).kind h m;
  previews_of_programs = previews-alone (at T t (caller_of c)).kind h;
}
  where
    h : Bool
    h = hides H (caller_of c) (at T t (caller_of c))

    by_calls : (k : Kind) {n : Bool} → moves_content c ≡ n → h && may_differ k c ≡ h && (is_item k || (is_program k && n))
    by_calls Free e = refl
    by_calls Item e = refl
    by_calls Program e = ap (λ (b : Bool). h && b) e

    by_previews : (k : Kind) (b : Bool) → not (is_free k) && b ≡ b && (is_item k || is_program k)
    by_previews Free b = sym (and-false b)
    by_previews Item b = sym (and-true b)
    by_previews Program b = sym (and-true b)

    -- of programs alone
    calls-alone : (k : Kind) (b : Bool) {n : Bool} → moves_content c ≡ n → (b && may_differ k c) && is_program k ≡ b && (is_program k && n)
    calls-alone k false e = refl
    calls-alone Free true e = refl
    calls-alone Item true e = refl
    calls-alone Program true e = and-true (moves_content c) ∙ e

    previews-alone : (k : Kind) (b : Bool) → (not (is_free k) && b) && is_program k ≡ b && is_program k
    previews-alone Free b = sym (and-false b)
    previews-alone Item b = refl
    previews-alone Program b = refl

-- ---- 1 and 99

abbrev one_or_99 : ℕ → Bool
one_or_99 n = among (1 ∷ 99 ∷ []) n

-- none of a cascade's numbers is one of the two
others : (r : Refusals) → all_numbers (λ n. not (one_or_99 n)) r ≡ true → one_or_99 (number_of (first r)) ≡ false
others allow h = refl
others (n if true else r) h = not-true (one_or_99 (number n)) (and_left (not (one_or_99 (number n))) _ h)
others (n if false else r) h = others r (and_right (not (one_or_99 (number n))) _ h)

-- the cascade of a call behind its 1
abbrev behind : Refusals → Refusals
behind allow = allow
behind (n if b else r) = r

module _ {A : Labels} where
  begins : (gs : List A.Group) (a b : Slot A) (c : Call A) → refusals gs a b c ≡ NoProgram if not (is_program a.kind) else behind (refusals gs a b c)
  begins gs a b (put i bs) = refl
  begins gs a b (show i buf) = refl
  begins gs a b (send i j) = refl
  begins gs a b (fetch i j) = refl
  begins gs a b (add_tag i n p) = refl
  begins gs a b (drop_tag i n p) = refl
  begins gs a b (create i j n) = refl
  begins gs a b (release i j) = refl
  begins gs a b (hand i j n p) = refl

  goes_on : (gs : List A.Group) (a b : Slot A) (c : Call A) → all_numbers (λ n. not (one_or_99 n)) (behind (refusals gs a b c)) ≡ true
  goes_on gs a b (put i bs) = refl
  goes_on gs a b (show i buf) = refl
  goes_on gs a b (send i j) = refl
  goes_on gs a b (fetch i j) = refl
  goes_on gs a b (add_tag i n p) = refl
  goes_on gs a b (drop_tag i n p) = refl
  goes_on gs a b (create i j n) = refl
  goes_on gs a b (release i j) = refl
  goes_on gs a b (hand i j n p) = refl

  module _ (T : Tables A) where
    module _ (t : T.Table) (c : Call A) where
      -- the cascade behind 99 and 1
      abbrev rest : Refusals
      rest = behind (refusals (T.groups t) (at T t (caller_of c)) (at T t (other_of c)) c)

      verdict_begins : verdict T t c ≡ first (Formless if not (T.formed t) else NoProgram if not (is_program (at T t (caller_of c)).kind) else rest)
      verdict_begins = ap (λ (r : Refusals). first (Formless if not (T.formed t) else r)) (begins (T.groups t) (at T t (caller_of c)) (at T t (other_of c)) c)

      neither : one_or_99 (number_of (first rest)) ≡ false
      neither = others rest (goes_on (T.groups t) (at T t (caller_of c)) (at T t (other_of c)) c)

      pub is_99 : eqb (number_of (verdict T t c)) 99 ≡ not (T.formed t)
      is_99 = ap (λ (v : Outcome). eqb (number_of v) 99) verdict_begins ∙ go (T.formed t) (is_program (at T t (caller_of c)).kind)
        where
          go : (f k : Bool) → eqb (number_of (first (Formless if not f else NoProgram if not k else rest))) 99 ≡ not f
          go false k = refl
          go true false = refl
          go true true = neither_left (eqb (number_of (first rest)) 99) false (neither_right (eqb (number_of (first rest)) 1) _ neither)

      pub is_1 : eqb (number_of (verdict T t c)) 1 ≡ (T.formed t && not (is_program (at T t (caller_of c)).kind))
      is_1 = ap (λ (v : Outcome). eqb (number_of v) 1) verdict_begins ∙ go (T.formed t) (is_program (at T t (caller_of c)).kind)
        where
          go : (f k : Bool) → eqb (number_of (first (Formless if not f else NoProgram if not k else rest))) 1 ≡ (f && not k)
          go false k = refl
          go true false = refl
          go true true = neither_left (eqb (number_of (first rest)) 1) _ neither

    pub need_by_number : NeedByNumber T
    need_by_number t c = record {
      is_99 = is_99 t c;
      is_1 = is_1 t c;
      need_99 = λ e. rw (not_formed e);
      need_1 = λ e. go (T.formed t) (at T t (caller_of c)).kind (at T (step T t c) (caller_of c)).sec _ (sym (is_1 t c) ∙ eq-eqb (number_of (verdict T t c)) 1 e);
    }
      where
        not_formed : number_of (verdict T t c) ≡ 99 → T.formed t ≡ false
        not_formed e = not-true (T.formed t) (sym (is_99 t c) ∙ eq-eqb (number_of (verdict T t c)) 99 e)

        a : A.Label
        a = (at T t (caller_of c)).sec

        go : (f : Bool) (k : Kind) (b o : A.Label) → f && not (is_program k) ≡ true
            → A.tail (fields_of c).tag (cond f (need_by A k a b o) A.empty) ≡ A.tail (fields_of c).tag (cond (is_item k) a A.empty)
        go false k b o h = cc
        go true Free b o h = refl
        go true Item b o h = refl
        go true Program b o h = cc

    pub items_refused : ItemsRefused T
    items_refused t c f h = verdict_begins t c ∙ rw (f, not_program (at T t (caller_of c)).kind h)
      where
        not_program : (k : Kind) → is_item k ≡ true → is_program k ≡ false
        not_program Free e = cc
        not_program Item e = refl
        not_program Program e = cc

    pub record-bytes : RecordBytes T
    record-bytes t c = record { byte_0 = refl; byte_1 = refl; byte_2 = refl; byte_3 = refl; byte_4 = refl; byte_5 = refl; byte_6 = refl; byte_7 = refl; from_8 = refl }
