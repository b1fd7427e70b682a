-- No sequence of calls and previews takes an accepted table to one that is not.
-- Assumes nothing.
use mathlib.Core.Path.{◌≡◌, refl, sym, ◌∙◌}
use mathlib.Core.Bool.{Bool, true, false, cond, not, ◌&&◌, ◌||◌}
use mathlib.Core.List.{List, [], ◌∷◌}
use Prim.Native.Nat.{ℕ}
use lib.Dec.{ltb, eqb}
use borrow.Author.Tests.{ltb-true, lt-ltb}
use Rattle.rules.specs.declared.Kind.{Kind}
use Rattle.rules.specs.declared.Kind.TheVariants.{Free, Item, Program}
use Rattle.rules.specs.Labels.{Labels}
use Rattle.rules.specs.Table.{is_free, is_program, Rights, Slot, Tables, held, keeps_each, keeps_all, slot_keeps, at, accepted}
use Rattle.rules.specs.Calls.{Call, put, show, send, fetch, add_tag, drop_tag, create, release, hand, caller_of, other_of, new_kind, add_right, relabel, created, written}
use Rattle.rules.specs.Refusals.{refusals, step}
use Rattle.rules.specs.Runs.{call, preview}
use Rattle.rules.specs.Laws.{OrderLaws, TableLaws}
use Rattle.rules.specs.Claims.{StaysAccepted}
use Rattle.rules.proofs.Facts.{not-false, and_left, and_right, both, or_right, either, condition}
use Rattle.rules.proofs.Bounded.{all-at, all_of}
use Rattle.rules.proofs.Held.{holds_six}
use Rattle.rules.proofs.Steps.{step_formed, step_groups, step_all}

-- an entity keeps to the groups, and a caller is one
entity-keeps : (k : Kind) (x : Bool) → not (is_program k) ≡ false → is_free k || x ≡ true → x ≡ true
entity-keeps Free x p e = cc
entity-keeps Item x p e = e
entity-keeps Program x p e = e

module _ {A : Labels} (O : OrderLaws A) where
  -- the six are below a label
  record Within (e : Slot A) (u : A.Label) : Type 0 where
    sec : A.below e.sec u ≡ true
    int : A.below e.int u ≡ true
    sa : A.below e.rights.sa u ≡ true
    sd : A.below e.rights.sd u ≡ true
    ia : A.below e.rights.ia u ≡ true
    id : A.below e.rights.id u ≡ true

  within_held : (e : Slot A) → Within e (held e)
  within_held e = record { sec = and_left (b e.sec) _ h; int = and_left (b e.int) _ h₂; sa = and_left (b r.sa) _ h₃; sd = and_left (b r.sd) _ h₄; ia = and_left (b r.ia) _ h₅; id = and_right (b r.ia) _ h₅ }
    where
      r : Rights A
      r = e.rights

      b : A.Label → Bool
      b a = A.below a (held e)

      h : b e.sec && (b e.int && (b r.sa && (b r.sd && (b r.ia && b r.id)))) ≡ true
      h = sym (holds_six O e (held e)) ∙ O.below_refl (held e)

      h₂ : b e.int && (b r.sa && (b r.sd && (b r.ia && b r.id))) ≡ true
      h₂ = and_right (b e.sec) _ h

      h₃ : b r.sa && (b r.sd && (b r.ia && b r.id)) ≡ true
      h₃ = and_right (b e.int) _ h₂

      h₄ : b r.sd && (b r.ia && b r.id) ≡ true
      h₄ = and_right (b r.sa) _ h₃

      h₅ : b r.ia && b r.id ≡ true
      h₅ = and_right (b r.sd) _ h₄

  held_least : (e : Slot A) (u : A.Label) → Within e u → A.below (held e) u ≡ true
  held_least e u w = holds_six O e u ∙ rw (w.sec, w.int, w.sa, w.sd, w.ia, w.id)

  -- who holds no more than one who keeps to the groups keeps to them
  each_less : (gs : List A.Group) (a b : A.Label) → A.below a b ≡ true → keeps_each A gs b ≡ true → keeps_each A gs a ≡ true
  each_less [] a b w h = refl
  each_less (g ∷ gs) a b w h = both (A.keeps g a) _ (O.keeps_less g a b w (and_left (A.keeps g b) _ h)) (each_less gs a b w (and_right (A.keeps g b) _ h))

  keeps_less : (gs : List A.Group) (e e' : Slot A) → Within e' (held e) → keeps_all gs e ≡ true → keeps_all gs e' ≡ true
  keeps_less gs e e' w h = each_less gs (held e') (held e) (held_least e' (held e) w) h

  -- ---- a call

  module _ (e : Slot A) where
    r : Rights A
    r = e.rights

    u : A.Label
    u = held e

    w : Within e u
    unfolding u
    w = within_held e

    -- a tag added under its right, in S or in I
    added : (n : ℕ) (p : A.Tag) → A.has (add_right n e.rights) p ≡ true → Within (relabel n (A.insert p) e) (held e)
    unfolding u r
    added n p = go (eqb n 0)
      where
        go : (z : Bool) → A.has (cond z r.sa r.ia) p ≡ true → Within (record { kind = e.kind; sec = cond z (A.insert p e.sec) e.sec; int = cond z e.int (A.insert p e.int); rights = e.rights; content = e.content }) (held e)
        go true h = record { sec = O.insert_below p e.sec r.sa u h w.sa w.sec; int = w.int; sa = w.sa; sd = w.sd; ia = w.ia; id = w.id }
        go false h = record { sec = w.sec; int = O.insert_below p e.int r.ia u h w.ia w.int; sa = w.sa; sd = w.sd; ia = w.ia; id = w.id }

    less : (p : A.Tag) (a : A.Label) → A.below a u ≡ true → A.below (A.remove p a) u ≡ true
    less p a h = O.below_trans (A.remove p a) a u (O.remove_below p a) h

    dropped : (n : ℕ) (p : A.Tag) → Within (relabel n (A.remove p) e) (held e)
    unfolding u r
    dropped n p = go (eqb n 0)
      where
        go : (z : Bool) → Within (record { kind = e.kind; sec = cond z (A.remove p e.sec) e.sec; int = cond z e.int (A.remove p e.int); rights = e.rights; content = e.content }) (held e)
        go true = record { sec = less p e.sec w.sec; int = w.int; sa = w.sa; sd = w.sd; ia = w.ia; id = w.id }
        go false = record { sec = w.sec; int = less p e.int w.int; sa = w.sa; sd = w.sd; ia = w.ia; id = w.id }

    new : (n : ℕ) → Within (created n e) (held e)
    unfolding u r
    new n = record { sec = w.sec; int = w.int; sa = O.empty_below u; sd = O.empty_below u; ia = O.empty_below u; id = O.empty_below u }

  module _ (gs : List A.Group) (a b : Slot A) (h : slot_keeps gs a ≡ true) (k : slot_keeps gs b ≡ true) where
    own : not (is_program a.kind) ≡ false → keeps_all gs a ≡ true
    own p = entity-keeps a.kind _ p h

    written_keeps : (c : Call A) → ((n : ℕ) → condition n (refusals gs a b c) ≡ false) → slot_keeps gs (written a b c) ≡ true
    written_keeps (put i bs) r = h
    written_keeps (show i buf) r = h
    written_keeps (send i j) r = k
    written_keeps (fetch i j) r = h
    written_keeps (add_tag i n p) r = or_right (is_free a.kind) _ (keeps_less gs a (written a b (add_tag i n p)) (added a n p (not-false _ (r 10))) (own (r 1)))
    written_keeps (drop_tag i n p) r = or_right (is_free a.kind) _ (keeps_less gs a (written a b (drop_tag i n p)) (dropped a n p) (own (r 1)))
    written_keeps (create i j n) r = or_right (is_free (new_kind n)) _ (keeps_less gs a (created n a) (new a n) (own (r 1)))
    written_keeps (release i j) r = refl
    written_keeps (hand i j n p) r = or_right (is_free b.kind) _ (not-false _ (r 11))

  -- ---- tables

  module _ (T : Tables A) (L : TableLaws T) where
    step-accepted : (t : T.Table) (c : Call A) → accepted T t ≡ true → accepted T (step T t c) ≡ true
    step-accepted t c h = both _ _ (step_formed T O L t c (and_left (T.formed t) _ h))
        (all_of 32 _ (λ i l. let e = after i in rw (lt-ltb i 32 l) at e))
      where
        keep : (i : ℕ) → slot_keeps (T.groups t) (at T t i) ≡ true
        keep i = either (ltb i 32) (λ e. rw e (all-at 32 _ (and_right (T.formed t) _ h) i (ltb-true i 32 e))) (λ e. rw e)

        after : (i : ℕ) → slot_keeps (T.groups (step T t c)) (at T (step T t c) i) ≡ true
        after i = rw (step_groups T O L t c) (step_all T O L (λ j e. slot_keeps (T.groups t) e ≡ true) t c
            (λ p. written_keeps (T.groups t) (at T t (caller_of c)) (at T t (other_of c)) (keep (caller_of c)) (keep (other_of c)) c p.off) keep i)

    pub stays_accepted : StaysAccepted T
    stays_accepted t [] h = record { accepted = h; groups = refl }
    stays_accepted t (preview c ∷ es) h = stays_accepted t es h
    stays_accepted t (call c ∷ es) h = let k = stays_accepted (step T t c) es (step-accepted t c h) in
        record { accepted = k.accepted; groups = k.groups ∙ step_groups T O L t c }
