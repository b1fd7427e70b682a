-- Two runs that are the same but for struck calls and previews, from tables that differ only in hidden contents. For any labels and
-- tables with the laws, and anything that may be hidden.
-- Assumes nothing.
use mathlib.Core.Path.{◌≡◌, refl, ap, sym, ◌∙◌}
use mathlib.Core.Bool.{Bool, true, false, cond, not, ◌&&◌}
use mathlib.Core.List.{List, [], ◌∷◌}
use Prim.Native.Nat.{ℕ}
use lib.Dec.{eqb}
use lib.ListN.{length}
use borrow.Author.Tests.{eqb-true}
use Rattle.rules.specs.declared.Kind.{Kind}
use Rattle.rules.specs.declared.Kind.TheVariants.{Free, Item, Program}
use Rattle.rules.specs.Numbers.{Outcome}
use Rattle.std.specs.Prelude.{Ok, Err}
use Rattle.rules.specs.Labels.{Labels}
use Rattle.rules.specs.Table.{is_free, is_program, Slot, Tables, at}
use Rattle.rules.specs.Calls.{Call, put, show, send, fetch, add_tag, drop_tag, create, release, hand, fields_of, caller_of, other_of, target, written, moved, moves_content, is_show, lent}
use Rattle.rules.specs.Refusals.{first, number_of, on_allowed, refusals, verdict, step}
use Rattle.rules.specs.Record.{Answer, filled, record_of, need_by, need_of, moved_by, answer}
use Rattle.rules.specs.Runs.{final, kept, never, Event, call, preview, call_of, made_by, next, Hidden, hides, may_differ, struck_by, SlotsAgree, TablesAgree, hidden_at, struck, struck_of_programs, heard}
use Rattle.rules.specs.Laws.{OrderLaws, TableLaws}
use Rattle.rules.specs.Claims.{RunsAlike}
use Rattle.rules.proofs.Facts.{and_left, and_right}
use Rattle.rules.proofs.Steps.{Pass, pass, writes, stored_at, step_formed, step_groups, step_all}
use Rattle.rules.proofs.Unwinding.{Unwinding, Output, runs, kept_alike}
use Rattle.rules.proofs.Hiding.{Guard, safely, SafeLaws, HidingLaws, low, was, low_refusals, low_moved, low_written, struck_written, safe_written}

-- ---- slots that differ only in a hidden content look alike

module _ {A : Labels} (H : Hidden A) where
  slots_low : (i : ℕ) (x y : Slot A) → SlotsAgree H i x y → low H i x ≡ low H i y
  slots_low i x y d =
      let k = d.kind in let e = d.sec in let f = d.int in let r = d.rights in let c = go (hides H i x) refl in
      λ z. record { kind = k z; sec = e z; int = f z; rights = r z; content = c z }
    where
      go : (b : Bool) → hides H i x ≡ b → cond (hides H i x) [] x.content ≡ cond (hides H i y) [] y.content
      go true e = rw (← d.sec, ← d.int, e)
      go false e = rw (← d.sec, ← d.int, e) (d.content e)

  low_slots : (i : ℕ) (x y : Slot A) → low H i x ≡ low H i y → SlotsAgree H i x y
  low_slots i x y e = record {
    kind = ap (λ (z : Slot A). z.kind) e;
    sec = ap (λ (z : Slot A). z.sec) e;
    int = ap (λ (z : Slot A). z.int) e;
    rights = ap (λ (z : Slot A). z.rights) e;
    content = go;
  }
    where
      go : hides H i x ≡ false → x.content ≡ y.content
      go h = let g : hides H i y ≡ false = ap (λ (z : Slot A). hides H i z) (sym e) ∙ h in
          let q = ap (λ (z : Slot A). z.content) e in rw (h, g) at q

-- the slot that a call writes, before it, on a table
was_target : {A : Labels} (T : Tables A) (t : T.Table) (c : Call A) → was (at T t (caller_of c)) (at T t (other_of c)) c ≡ at T t (target c)
was_target T t (put i bs) = refl
was_target T t (show i buf) = refl
was_target T t (send i j) = refl
was_target T t (fetch i j) = refl
was_target T t (add_tag i n p) = refl
was_target T t (drop_tag i n p) = refl
was_target T t (create i j n) = refl
was_target T t (release i j) = refl
was_target T t (hand i j n p) = refl

-- an answer by its three parts that depend on the table
abbrev answer_of : {A : Labels} → Call A → Outcome → List ℕ → A.Label → Answer
answer_of {A} c v bs l = record {
  outcome = v;
  entry = record_of (fields_of c) (number_of v) (length bs) l;
  part = cond (is_show c) bs [];
  buffer = filled (cond (is_show c) bs []) (lent c);
}

-- Two tables in form that differ only in hidden contents, which they keep safe
pub record Alike {A : Labels} (T : Tables A) (H : Hidden A) (G : Guard A) (t u : T.Table) : Type 0 where
  pub left : T.formed t ≡ true
  pub right : T.formed u ≡ true
  pub groups : T.groups t ≡ T.groups u
  pub slots : (i : ℕ) → low H i (at T t i) ≡ low H i (at T u i)
  pub safe : (i : ℕ) → safely G i (at T t i) ≡ true

-- slots that are safe are so after a call that is not barred
pub step_safe : {A : Labels} (T : Tables A) (O : OrderLaws A) (L : TableLaws T) (G : Guard A) (W : SafeLaws G) (t : T.Table) (c : Call A)
    → (Pass T t c → G.bars (at T t (caller_of c)) c ≡ false) → ((i : ℕ) → safely G i (at T t i) ≡ true) → (i : ℕ) → safely G i (at T (step T t c) i) ≡ true
step_safe T O L G W t c m s = step_all T O L (λ i e. safely G i e ≡ true) t c
    (λ p. safe_written (T.groups t) (at T t (caller_of c)) (at T t (other_of c)) G W c (m p) (s (caller_of c)) (s (other_of c)) p.off) s

module _ {A : Labels} (T : Tables A) (O : OrderLaws A) (L : TableLaws T) (H : Hidden A) (G : Guard A) (W : HidingLaws H G) where
  safe_right : (t u : T.Table) → Alike T H G t u → (i : ℕ) → safely G i (at T u i) ≡ true
  safe_right t u a i = ap (λ (e : Slot A). safely G i e) (sym (a.slots i)) ∙ a.safe i

  pub alike_swap : (t u : T.Table) → Alike T H G t u → Alike T H G u t
  alike_swap t u a = record { left = a.right; right = a.left; groups = sym a.groups; slots = λ i. sym (a.slots i); safe = safe_right t u a }

  -- ---- a call on each of two tables that look alike

  -- a barred call; a preview is not barred
  abbrev pub barred_at : T.Table → Event A → Bool
  barred_at t (call c) = on_allowed (verdict T t c) (G.bars (at T t (caller_of c)) c) false
  barred_at t (preview c) = false

  not_barred : (t : T.Table) (c : Call A) → barred_at t (call c) ≡ false → Pass T t c → G.bars (at T t (caller_of c)) c ≡ false
  not_barred t c m p = rw p.allowed at m

  pub after_struck : (t u : T.Table) (e : Event A) → barred_at t e ≡ false → Alike T H G t u → struck T H t e ≡ true → Alike T H G (next T t e) u
  after_struck t u (call c) m a h = record {
    left = step_formed T O L t c a.left;
    right = a.right;
    groups = step_groups T O L t c ∙ a.groups;
    slots = step_all T O L (λ i e. low H i e ≡ low H i (at T u i)) t c
        (λ p. struck_written H (T.groups t) (at T t (caller_of c)) (at T t (other_of c)) G W c (a.safe (caller_of c)) (a.safe (other_of c)) h p.off
        ∙ ap (low H (target c)) (was_target T t c) ∙ a.slots (target c)) a.slots;
    safe = step_safe T O L G W.stay t c (not_barred t c m) a.safe;
  }
  after_struck t u (preview c) m a h = a

  -- a call that, if it is allowed, is not barred where its caller is a hidden program
  abbrev Spared : T.Table → Call A → Type 0
  Spared t c = Pass T t c → not (is_program (at T t (caller_of c)).kind) ≡ false → hides H (caller_of c) (at T t (caller_of c)) ≡ true
      → G.bars (at T t (caller_of c)) c ≡ false

  module _ (t u : T.Table) (c : Call A) (m : Spared t c) (n : Spared u c) (a : Alike T H G t u) (h : struck T H t (call c) ≡ false) (g : struck T H u (call c) ≡ false) where
    x : Slot A
    x = at T t (caller_of c)

    y : Slot A
    y = at T t (other_of c)

    x' : Slot A
    x' = at T u (caller_of c)

    y' : Slot A
    y' = at T u (other_of c)

    -- what depends only on how the two slots look is the same
    looks : {X : Type 0} (f : Slot A → Slot A → X) → f (low H (caller_of c) x) (low H (other_of c) y) ≡ f (low H (caller_of c) x') (low H (other_of c) y')
    unfolding x y x' y'
    looks f = let p = a.slots (caller_of c) in let q = a.slots (other_of c) in λ z. f (p z) (q z)

    verdict_alike : verdict T t c ≡ verdict T u c
    unfolding x y x' y'
    verdict_alike = rw (a.left, a.right)
        (sym (low_refusals H (T.groups t) x y c h) ∙ looks (λ v w. first (refusals (T.groups t) v w c)) ∙ low_refusals H (T.groups t) x' y' c g
        ∙ ap (λ (gs : List A.Group). first (refusals gs x' y' c)) a.groups)

    -- the conditions of the second call, where both are allowed
    allowed : verdict T t c ≡ Ok tt → verdict T u c ≡ Ok tt
    allowed e = sym verdict_alike ∙ e

    written_alike : Pass T t c → Pass T u c → low H (target c) (writes T t c) ≡ low H (target c) (writes T u c)
    unfolding x y x' y'
    written_alike p q =
        sym (low_written H (T.groups t) x y G W c (m p) (a.safe (caller_of c)) (a.safe (other_of c)) h p.off)
        ∙ looks (λ v w. low H (target c) (written v w c))
        ∙ low_written H (T.groups u) x' y' G W c (n q) (safe_right t u a (caller_of c)) (safe_right t u a (other_of c)) g q.off

    moved_alike : moved_by T t c ≡ moved_by T u c
    unfolding x y x' y'
    moved_alike = go (verdict T t c) (verdict T u c) refl refl verdict_alike
      where
        go : (v w : Outcome) → verdict T t c ≡ v → verdict T u c ≡ w → v ≡ w → on_allowed v (moved x y c) [] ≡ on_allowed w (moved x' y' c) []
        go (Err n) (Err k) e f q = refl
        go (Err n) (Ok _) e f q = cc
        go (Ok _) (Err n) e f q = cc
        go (Ok _) (Ok _) e f q =
            sym (low_moved H (T.groups t) x y G W c (a.safe (caller_of c)) (a.safe (other_of c)) h (pass T t c e).off)
            ∙ looks (λ v w. moved v w c)
            ∙ low_moved H (T.groups u) x' y' G W c (safe_right t u a (caller_of c)) (safe_right t u a (other_of c)) g (pass T u c f).off

    step-slots : (i : ℕ) → low H i (at T (step T t c) i) ≡ low H i (at T (step T u c) i)
    step-slots i = go (verdict T t c) (verdict T u c) refl refl verdict_alike
      where
        new : Pass T t c → Pass T u c → (b : Bool) → eqb i (target c) ≡ b → low H i (cond b (writes T t c) (at T t i)) ≡ low H i (cond b (writes T u c) (at T u i))
        new p q true e = rw (eqb-true i (target c) e) (written_alike p q)
        new p q false e = a.slots i

        go : (v w : Outcome) → verdict T t c ≡ v → verdict T u c ≡ w → v ≡ w
            → low H i (at T (on_allowed v (T.store t (target c) (writes T t c)) t) i) ≡ low H i (at T (on_allowed w (T.store u (target c) (writes T u c)) u) i)
        go (Err n) (Err k) e f q = a.slots i
        go (Err n) (Ok _) e f q = cc
        go (Ok _) (Err n) e f q = cc
        go (Ok _) (Ok _) e f q = let p = pass T t c e in let r = pass T u c f in
            rw (stored_at T O L t c p i, stored_at T O L u c r i) (new p r (eqb i (target c)) refl)

    sec_alike : (v w : T.Table) → ((i : ℕ) → low H i (at T v i) ≡ low H i (at T w i)) → (i : ℕ) → (at T v i).sec ≡ (at T w i).sec
    sec_alike v w s i = ap (λ (e : Slot A). e.sec) (s i)

    need_alike : need_of T t c ≡ need_of T u c
    need_alike =
        let f : T.formed t ≡ T.formed u = a.left ∙ sym a.right in
        let k : (at T t (caller_of c)).kind ≡ (at T u (caller_of c)).kind = ap (λ (e : Slot A). e.kind) (a.slots (caller_of c)) in
        let s = sec_alike t u a.slots (caller_of c) in
        let s' = sec_alike (step T t c) (step T u c) step-slots (caller_of c) in
        let o = sec_alike t u a.slots (other_of c) in
        λ z. cond (f z) (need_by A (k z) (s z) (s' z) (o z)) A.empty

    call_answer : answer T t c ≡ answer T u c
    call_answer = let v = verdict_alike in let b = moved_alike in let n = need_alike in λ z. answer_of c (v z) (b z) (n z)

  -- ---- an event on each of them

  -- an event that is not struck: its call is spared, and would not be struck
  spared : (t : T.Table) (e : Event A) → barred_at t e ≡ false → struck T H t e ≡ false → Spared t (call_of e)
  spared t (call c) m h p q k = not_barred t c m p
  spared t (preview c) m h p q k = go (at T t (caller_of c)).kind q (rw k at h)
    where
      go : (k : Kind) → not (is_program k) ≡ false → not (is_free k) && true ≡ false → G.bars (at T t (caller_of c)) c ≡ false
      go Free q e = cc
      go Item q e = cc
      go Program q e = cc

  call_kept : (t : T.Table) (e : Event A) → struck T H t e ≡ false → struck T H t (call (call_of e)) ≡ false
  call_kept t (call c) h = h
  call_kept t (preview c) h = go (at T t (caller_of c)).kind (hides H (caller_of c) (at T t (caller_of c))) h
    where
      go : (k : Kind) (b : Bool) → not (is_free k) && b ≡ false → b && may_differ k c ≡ false
      go k false e = refl
      go Free true e = refl
      go Item true e = cc
      go Program true e = cc

  pub after_other : (t u : T.Table) (e : Event A) → barred_at t e ≡ false → barred_at u e ≡ false → Alike T H G t u → struck T H t e ≡ false → struck T H u e ≡ false
      → Alike T H G (next T t e) (next T u e)
  after_other t u (call c) m n a h g = record {
    left = step_formed T O L t c a.left;
    right = step_formed T O L u c a.right;
    groups = step_groups T O L t c ∙ a.groups ∙ sym (step_groups T O L u c);
    slots = step-slots t u c (spared t (call c) m h) (spared u (call c) n g) a h g;
    safe = step_safe T O L G W.stay t c (not_barred t c m) a.safe;
  }
  after_other t u (preview c) m n a h g = a

  pub answer_alike : (t u : T.Table) (e : Event A) → barred_at t e ≡ false → barred_at u e ≡ false → Alike T H G t u → struck T H t e ≡ false → struck T H u e ≡ false
      → answer T t (call_of e) ≡ answer T u (call_of e)
  answer_alike t u e m n a h g = call_answer t u (call_of e) (spared t e m h) (spared u e n g) a (call_kept t e h) (call_kept u e g)

  -- ---- runs

  abbrev pub unwinding : Unwinding (next T)
  unwinding = record {
    Alike = Alike T H G;
    struck = struck T H;
    barred = barred_at;
    swap = alike_swap;
    after_struck = after_struck;
    after_other = after_other;
  }

  -- a struck event is one by a hidden entity
  struck-heard : (t : T.Table) (e : Event A) → struck T H t e ≡ true → hidden_at T H t (made_by e) ≡ true
  struck-heard t (preview c) h = h
  struck-heard t (call c) h = go (at T t (caller_of c)).kind (hides H (caller_of c) (at T t (caller_of c))) h
    where
      go : (k : Kind) (b : Bool) → b && may_differ k c ≡ true → not (is_free k) && b ≡ true
      go Free b q = and_right b false q
      go Item b q = and_left b true q
      go Program b q = and_left b (moves_content c) q

  pub heard_alike : Output unwinding (heard T H)
  heard_alike = record {
    none = λ t u e m a h. rw (struck-heard t e h);
    same = λ t u e m n a h g. let s = a.slots (made_by e) in let r = answer_alike t u e m n a h g in
        λ z. cond (not (is_free (s z).kind) && hides H (made_by e) (s z)) [] (r z ∷ []);
  }

  -- what is of programs alone is among what may differ, and tables that look alike agree on what may
  struck_alike : (t u : T.Table) (e : Event A) → Alike T H G t u → struck T H t e ≡ struck T H u e
  struck_alike t u (call c) a = ap (λ (s : Slot A). struck_by H s c) (a.slots (caller_of c))
  struck_alike t u (preview c) a = ap (λ (s : Slot A). not (is_free s.kind) && hides H (caller_of c) s) (a.slots (caller_of c))

  -- so lists that are the same but for the calls and previews of programs are so but for all that may differ
  pub programs_alone : (t u : T.Table) (es fs : List (Event A)) → never (next T) barred_at t es ≡ true → never (next T) barred_at u fs ≡ true → Alike T H G t u
      → kept (next T) (struck_of_programs T H) t es ≡ kept (next T) (struck_of_programs T H) u fs → kept (next T) (struck T H) t es ≡ kept (next T) (struck T H) u fs
  programs_alone = kept_alike unwinding (struck_of_programs T H) (λ t e h. and_left (struck T H t e) _ h) struck_alike

  -- both claims of two runs but the audits, from tables that look alike
  pub runs_alike : (t u : T.Table) (es fs : List (Event A)) → never (next T) barred_at t es ≡ true → never (next T) barred_at u fs ≡ true → Alike T H G t u
      → kept (next T) (struck T H) t es ≡ kept (next T) (struck T H) u fs → RunsAlike T H t u es fs
  runs_alike t u es fs m n a k =
      let r = runs unwinding (heard T H) heard_alike t u es fs m n a k in
      record {
        tables = record {
          slots = λ i. low_slots H i (at T (final (next T) t es) i) (at T (final (next T) u fs) i) (r.ends.slots i);
          groups = r.ends.groups;
        };
        answers = r.gives;
      }

  -- tables that differ only in hidden contents look alike, where they are in form and safe
  pub differ_alike : (t u : T.Table) → T.formed t ≡ true → T.formed u ≡ true → TablesAgree T H t u → ((i : ℕ) → safely G i (at T t i) ≡ true) → Alike T H G t u
  differ_alike t u f g d s = record { left = f; right = g; groups = d.groups; slots = λ i. slots_low H i (at T t i) (at T u i) (d.slots i); safe = s }
