-- Secrecy: a tag that is not dropped hides what bears it, in records and audits too; and one that nobody can drop is not dropped.
-- Assumes nothing.
use mathlib.Core.Path.{◌≡◌, refl, ap, sym, ◌∙◌}
use mathlib.Core.Bool.{Bool, true, false, cond, not, ◌&&◌, ◌||◌}
use mathlib.Core.List.{List, [], ◌∷◌}
use Prim.Native.Nat.{ℕ, ◌/◌, ◌%◌}
use lib.Dec.{leb, eqb}
use lib.ListN.{length}
use borrow.Author.Tests.{eqb-true}
use Rattle.rules.specs.declared.Kind.{Kind}
use Rattle.rules.specs.declared.Kind.TheVariants.{Free, Item, Program}
use Rattle.rules.specs.Numbers.{Outcome}
use Rattle.std.specs.Prelude.{Ok, Err}
use Rattle.rules.specs.Labels.{Labels}
use Rattle.rules.specs.Table.{is_free, is_item, is_program, Rights, Slot, Tables, rightless, vacant, at, accepted}
use Rattle.rules.specs.Calls.{Call, put, show, send, fetch, add_tag, drop_tag, create, release, hand, right_at, grant, kind_of, caller_of, other_of, written}
use Rattle.rules.specs.Refusals.{first, on_allowed, refusals, verdict, step}
use Rattle.rules.specs.Record.{need_by, need_of, answer, visible, record_size, records_in, shown_of, auditable, audit_refusals}
use Rattle.rules.specs.Runs.{final, never, Event, call, preview, next, records, Hidden, bears, TablesAgree, may_differ, hidden_at, struck, struck_of_programs, heard}
use Rattle.rules.specs.Laws.{OrderLaws, TagLaws, TableLaws}
use Rattle.rules.specs.Claims.{AuditsAlike, SecretRuns, Secrecy, SecrecyOfPrograms, OthersAreHeard, drops_tag, UndroppedRuns, SecrecyUndropped}
use Rattle.rules.proofs.Facts.{not-false, not-true, not_of, and_left, and_right, both, contra, either, condition}
use Rattle.rules.proofs.Steps.{pass, at_formed, written_at, step_formed}
use Rattle.rules.proofs.Shows.{shows}
use Rattle.rules.proofs.Records.{shows_to, records_whole, records_shown}
use Rattle.rules.proofs.Unwinding.{Output, runs}
use Rattle.rules.proofs.Hiding.{Guard, safely, SafeLaws, HidingLaws}
use Rattle.rules.proofs.TwoRuns.{Alike, step_safe, barred_at, unwinding, answer_alike, heard_alike, programs_alone, runs_alike, differ_alike}

-- a drop that takes the tag from the S of its caller's slot a
abbrev takes : {A : Labels} → A.Tag → Slot A → Call A → Bool
takes {A} p a c = eqb (kind_of c) 6 && (A.has a.sec p && not (A.has (written a a c).sec p))

-- every slot is safe; such drops are barred
abbrev pub undropped : (A : Labels) → A.Tag → Guard A
undropped A p = record { safe = λ i k s int r. true; bars = takes p }

-- safe is who cannot drop the tag; no call is barred
abbrev pub undroppable : (A : Labels) → A.Tag → Guard A
undroppable A p = record { safe = λ i k s int r. not (A.has r.sd p); bars = λ a c. false }

module _ {A : Labels} (p : A.Tag) (G : TagLaws A p) where
  pub secrecy_hides : HidingLaws (bears A p) (undropped A p)
  secrecy_hides = record {
    flows = λ i j a b k l e g q f h. G.below_has a.sec b.sec (and_left (A.below a.sec b.sec) _ f) h;
    adds = λ n q i a r k. add (eqb n 0) q a;
    drops = λ n q i a m r k h. not-false _ (kept_by (A.has a.sec p) _ m h);
    stay = record {
      add_safe = λ n q i a r k. k;
      drop_safe = λ n q i a r k. k;
      new_safe = λ i j n a m s. refl;
      free_safe = λ i j a m. refl;
      hand_safe = λ i j n q a b m e k h. h;
    };
  }
    where
      add : (z : Bool) (q : A.Tag) (a : Slot A) → A.has a.sec p ≡ true → A.has (cond z (A.insert q a.sec) a.sec) p ≡ true
      add true q a h = G.insert_has q a.sec h
      add false q a h = h

      kept_by : (x y : Bool) → x && y ≡ false → x ≡ true → y ≡ false
      kept_by true y e h = e
      kept_by false y e h = cc

  -- ---- who cannot drop the tag does not

  pub undroppable_stays : SafeLaws (undroppable A p)
  undroppable_stays = record {
    add_safe = λ n q i a r k. k;
    drop_safe = λ n q i a r k. k;
    new_safe = λ i j n a m s. not_of G.empty_has;
    free_safe = λ i j a m. not_of G.empty_has;
    hand_safe = λ i j n q a b m. hand-right n q a b;
  }
    where
      hand-right : (n : ℕ) (q : A.Tag) (a b : Slot A) → A.has (right_at n a.rights) q ≡ true → not (A.has a.rights.sd p) ≡ true
          → not (A.has b.rights.sd p) ≡ true → not (A.has (grant n q b.rights).sd p) ≡ true
      hand-right n q a b e k h = either (eqb n 1)
          (λ z. rw z (not_of (G.insert_not q a.rights.sd b.rights.sd (rw (eqb-true n 1 z) at e) (not-true (A.has a.rights.sd p) k) (not-true (A.has b.rights.sd p) h))))
          (λ z. rw z h)

  -- an allowed call by one who cannot drop the tag
  takes_not : (gs : List A.Group) (a b : Slot A) (c : Call A) → not (A.has a.rights.sd p) ≡ true → ((n : ℕ) → condition n (refusals gs a b c) ≡ false)
      → takes p a c ≡ false
  takes_not gs a b (put i bs) k r = refl
  takes_not gs a b (show i buf) k r = refl
  takes_not gs a b (send i j) k r = refl
  takes_not gs a b (fetch i j) k r = refl
  takes_not gs a b (add_tag i n q) k r = refl
  takes_not gs a b (drop_tag i n q) k r = go (eqb n 0) (A.has a.sec p) refl (not-false _ (r 10))
    where
      go : (z h : Bool) → A.has a.sec p ≡ h → A.has (cond z a.rights.sd a.rights.id) q ≡ true → h && not (A.has (cond z (A.remove q a.sec) a.sec) p) ≡ false
      go z false e w = refl
      go true true e w = rw (G.remove_has q a.rights.sd a.sec w (not-true _ k) e)
      go false true e w = rw e
  takes_not gs a b (create i j n) k r = refl
  takes_not gs a b (release i j) k r = refl
  takes_not gs a b (hand i j n q) k r = refl

  -- in a table in form only programs have rights
  pub nobody_drops : (T : Tables A) → OrderLaws A → TableLaws T → (t : T.Table) → T.formed t ≡ true
      → ((i : ℕ) → is_program (at T t i).kind ≡ true → A.has (at T t i).rights.sd p ≡ false) → (i : ℕ) → safely (undroppable A p) i (at T t i) ≡ true
  nobody_drops T O L t f h i = not_of (go (at T t i).kind (h i) (and_right (leb (length (at T t i).content) 64) _ (at_formed T O L t f i)))
    where
      r : Rights A
      r = (at T t i).rights

      no_right : rightless r ≡ true → A.has r.sd p ≡ false
      no_right e = contra (A.has r.sd p) (A.has A.empty p) (G.same_has r.sd A.empty (and_left (A.same r.sd A.empty) _ (and_right (A.same r.sa A.empty) _ e))) G.empty_has

      go : (k : Kind) → (is_program k ≡ true → A.has r.sd p ≡ false) → (not (is_item k) || rightless r) && (not (is_free k) || vacant (at T t i) (length (at T t i).content)) ≡ true → A.has r.sd p ≡ false
      go Free q e = no_right (and_left (rightless r) _ (and_right (A.same (at T t i).sec A.empty && A.same (at T t i).int A.empty) _ e))
      go Item q e = no_right (and_left (rightless r) _ e)
      go Program q e = q refl

-- ---- records

-- an audit by what it depends on
abbrev audited : Bool → Bool → Bool → ℕ → List ℕ → Outcome × List ℕ
audited f k w m bs = (first (audit_refusals f k w m (length bs)), on_allowed (first (audit_refusals f k w m (length bs))) bs [])

-- the bytes matter only where the caller is a program
audited_alike : (f k w : Bool) (m : ℕ) (bs cs : List ℕ) → (k ≡ true → bs ≡ cs) → audited f k w m bs ≡ audited f k w m cs
audited_alike f true w m bs cs h = ap (audited f true w m) (h refl)
audited_alike true false w m bs cs h = refl
audited_alike false false w m bs cs h = refl

module _ {A : Labels} (p : A.Tag) (G : TagLaws A p) (O : OrderLaws A) (T : Tables A) (L : TableLaws T) where
  abbrev H : Hidden A
  H = bears A p

  abbrev D : Guard A
  D = undropped A p

  abbrev W : HidingLaws H D
  W = secrecy_hides p G

  -- the need of a struck call bears the tag
  struck-need : (t : T.Table) (c : Call A) → T.formed t ≡ true → struck T H t (call c) ≡ true → A.has (need_of T t c) p ≡ true
  struck-need t c f h = go (T.formed t) (at T t (caller_of c)).kind f (and_right (A.has (at T t (caller_of c)).sec p) _ h)
    where
      a : A.Label
      a = (at T t (caller_of c)).sec

      b : A.Label
      b = (at T (step T t c) (caller_of c)).sec

      o : A.Label
      o = (at T t (other_of c)).sec

      up : A.below a (A.join (A.join a b) o) ≡ true
      up = O.below_trans a (A.join a b) (A.join (A.join a b) o) (O.join_left a b) (O.join_left (A.join a b) o)

      go : (z : Bool) (k : Kind) → z ≡ true → may_differ k c ≡ true → A.has (cond z (need_by A k a b o) A.empty) p ≡ true
      go false k e m = cc
      go true Free e m = cc
      go true Item e m = and_left (A.has a p) _ h
      go true Program e m = G.below_has a (A.join (A.join a b) o) up (and_left (A.has a p) _ h)

  -- so its record shows to nobody without the tag
  struck_unseen : (l : A.Label) → A.has l p ≡ false → (t : T.Table) (c : Call A) → T.formed t ≡ true → struck T H t (call c) ≡ true
      → visible A l (answer T t c).entry ≡ false
  struck_unseen l n t c f h = shows O T t c l
      ∙ contra (A.below (need_of T t c) l) (A.has l p) (λ e. G.below_has (need_of T t c) l e (struck-need t c f h)) n

  shown_alike : (l : A.Label) → A.has l p ≡ false → Output (unwinding T O L H D W) (shows_to T l)
  shown_alike l n = record {
    none = λ t u e m a h. none t u e a h;
    same = λ t u e m k a h g. same t u e m k a h g;
  }
    where
      none : (t u : T.Table) (e : Event A) → Alike T H D t u → struck T H t e ≡ true → shows_to T l t e ≡ []
      none t u (call c) a h = rw (struck_unseen l n t c a.left h)
      none t u (preview c) a h = refl

      same : (t u : T.Table) (e : Event A) → barred_at T O L H D W t e ≡ false → barred_at T O L H D W u e ≡ false → Alike T H D t u → struck T H t e ≡ false → struck T H u e ≡ false
          → shows_to T l t e ≡ shows_to T l u e
      same t u (call c) m k a h g = let r = answer_alike T O L H D W t u (call c) m k a h g in λ z. cond (visible A l (r z).entry) (r z).entry []
      same t u (preview c) m k a h g = refl

  -- ---- the claims

  -- a barred call is an allowed drop of the tag
  barred_is : (t : T.Table) (e : Event A) → barred_at T O L H D W t e ≡ drops_tag T p t e
  barred_is t (preview c) = refl
  barred_is t (call c) = go c (verdict T t c) refl
    where
      unmoved : (k x : Bool) → false ≡ k && (x && not x)
      unmoved true true = refl
      unmoved true false = refl
      unmoved false x = refl

      go : (c : Call A) (v : Outcome) → verdict T t c ≡ v → on_allowed v (takes p (at T t (caller_of c)) c) false ≡ drops_tag T p t (call c)
      go c (Err n) e = rw e (unmoved (eqb (kind_of c) 6) (A.has (at T t (caller_of c)).sec p))
      go (put i bs) (Ok _) e = refl
      go (show i buf) (Ok _) e = refl
      go (send i j) (Ok _) e = refl
      go (fetch i j) (Ok _) e = refl
      go (add_tag i n q) (Ok _) e = refl
      go (drop_tag i n q) (Ok _) e = let s = written_at T O L t (drop_tag i n q) (pass T t (drop_tag i n q) e) in
          sym (λ z. A.has (at T t i).sec p && not (A.has (s z).sec p))
      go (create i j n) (Ok _) e = refl
      go (release i j) (Ok _) e = refl
      go (hand i j n q) (Ok _) e = refl

  -- an auditor is a program, and one who is not hidden lacks the tag
  auditor_lacks : (k : Kind) (b : Bool) → not (is_free k) && b ≡ false → is_program k ≡ true → b ≡ false
  auditor_lacks Free b h e = cc
  auditor_lacks Item b h e = h
  auditor_lacks Program b h e = h

  not_barred : (t : T.Table) (es : List (Event A)) → never (next T) (drops_tag T p) t es ≡ true → never (next T) (barred_at T O L H D W) t es ≡ true
  not_barred t es q = (λ z. never (next T) (λ v e. barred_is v e z) t es) ∙ q

  alike_at_first : (t u : T.Table) → accepted T t ≡ true → accepted T u ≡ true → TablesAgree T H t u → Alike T H D t u
  alike_at_first t u f g d = differ_alike T O L H D W t u (and_left (T.formed t) _ f) (and_left (T.formed u) _ g) d (λ i. refl)

  pub secrecy_undropped : SecrecyUndropped T p
  secrecy_undropped t u es fs s = record { runs = runs_alike T O L H D W t u es fs m n start s.events; audits = audits }
    where
      m : never (next T) (barred_at T O L H D W) t es ≡ true
      m = not_barred t es s.undropped_left

      n : never (next T) (barred_at T O L H D W) u fs ≡ true
      n = not_barred u fs s.undropped_right

      start : Alike T H D t u
      start = alike_at_first t u s.left s.right s.tables

      audits : (i : ℕ) → hidden_at T H (final (next T) t es) i ≡ false → (buf buf' : List ℕ) → length buf ≡ length buf' → AuditsAlike T t u es fs i buf buf'
      audits i h buf buf' q = record { outcome = ap (λ (r : Outcome × List ℕ). r.0) whole; part = ap (λ (r : Outcome × List ℕ). r.1) whole }
        where
          x : T.Table
          x = final (next T) t es

          y : T.Table
          y = final (next T) u fs

          ends : Alike T H D x y
          ends = (runs (unwinding T O L H D W) (heard T H) (heard_alike T O L H D W) t u es fs m n start s.events).ends

          l : A.Label
          l = (at T x i).sec

          shown : is_program (at T x i).kind ≡ true → auditable T x i (records T t es) ≡ auditable T y i (records T u fs)
          shown e = records_shown O T l t es
              ∙ (runs (unwinding T O L H D W) (shows_to T l) (shown_alike l (auditor_lacks (at T x i).kind (A.has l p) h e)) t u es fs m n start s.events).gives
              ∙ sym (records_shown O T l u fs)
              ∙ ap (λ (z : Slot A). shown_of A z.sec (records_in A (length (records T u fs) / record_size A) (records T u fs))) (ends.slots i)

          whole : audited (T.formed x) (is_program (at T x i).kind) (eqb (length (records T t es) % record_size A) 0) (length buf) (auditable T x i (records T t es))
              ≡ audited (T.formed y) (is_program (at T y i).kind) (eqb (length (records T u fs) % record_size A) 0) (length buf') (auditable T y i (records T u fs))
          whole =
              let f : T.formed x ≡ T.formed y = ends.left ∙ sym ends.right in
              let k : (at T x i).kind ≡ (at T y i).kind = ap (λ (z : Slot A). z.kind) (ends.slots i) in
              let w : length (records T t es) % record_size A ≡ length (records T u fs) % record_size A = records_whole O T t es ∙ sym (records_whole O T u fs) in
              audited_alike (T.formed x) (is_program (at T x i).kind) (eqb (length (records T t es) % record_size A) 0) (length buf) _ _ shown
              ∙ (λ z. audited (f z) (is_program (k z)) (eqb (w z) 0) (q z) (auditable T y i (records T u fs)))

  -- where nobody can drop the tag no run does
  never-dropped : (t : T.Table) (es : List (Event A)) → T.formed t ≡ true → ((i : ℕ) → safely (undroppable A p) i (at T t i) ≡ true) → never (next T) (drops_tag T p) t es ≡ true
  never-dropped t [] f s = refl
  never-dropped t (preview c ∷ es) f s = never-dropped t es f s
  never-dropped t (call c ∷ es) f s = both (not (drops_tag T p t (call c))) _ (not_of (sym (barred_is t (call c)) ∙ go (verdict T t c) refl))
      (never-dropped (step T t c) es (step_formed T O L t c f) (step_safe T O L (undroppable A p) (undroppable_stays p G) t c (λ q. refl) s))
    where
      go : (v : Outcome) → verdict T t c ≡ v → on_allowed v (takes p (at T t (caller_of c)) c) false ≡ false
      go (Err n) e = refl
      go (Ok _) e = takes_not p G (T.groups t) (at T t (caller_of c)) (at T t (other_of c)) c (s (caller_of c)) (pass T t c e).off

  undropped_runs : (differs : T.Table → Event A → Bool) (t u : T.Table) (es fs : List (Event A)) → SecretRuns T differs p t u es fs → UndroppedRuns T differs p t u es fs
  undropped_runs differs t u es fs s = record {
    left = s.left;
    right = s.right;
    undropped_left = never-dropped t es f safe;
    undropped_right = never-dropped u fs (and_left (T.formed u) _ s.right) (λ i. ap (λ (r : Rights A). not (A.has r.sd p)) (sym (s.tables.slots i).rights) ∙ safe i);
    tables = s.tables;
    events = s.events;
  }
    where
      f : T.formed t ≡ true
      f = and_left (T.formed t) _ s.left

      safe : (i : ℕ) → safely (undroppable A p) i (at T t i) ≡ true
      safe = nobody_drops p G T O L t f s.undroppable

  pub secrecy : Secrecy T p
  secrecy t u es fs s = secrecy_undropped t u es fs (undropped_runs (struck T H) t u es fs s)

  pub secrecy_of_programs : SecrecyOfPrograms T p
  secrecy_of_programs t u es fs s = secrecy t u es fs (record {
    left = s.left;
    right = s.right;
    undroppable = s.undroppable;
    tables = s.tables;
    events = programs_alone T O L H D W t u es fs (not_barred t es r.undropped_left) (not_barred u fs r.undropped_right) (alike_at_first t u s.left s.right s.tables) s.events;
  })
    where
      r : UndroppedRuns T (struck_of_programs T H) p t u es fs
      r = undropped_runs (struck_of_programs T H) t u es fs s

  pub others_are_heard : OthersAreHeard T p
  others_are_heard t = record { answered = λ c h. rw (lacking (at T t (caller_of c)).kind h); previewed = λ c h. rw (lacking (at T t (caller_of c)).kind h); auditor = λ i h. lacking (at T t i).kind h }
    where
      lacking : (k : Kind) {b : Bool} → b ≡ false → not (is_free k) && b ≡ false
      lacking Free h = refl
      lacking Item h = h
      lacking Program h = h
