-- One call, seen by those from whom something is hidden: what it is refused by, moves and writes, over the slots of its
-- caller and its other. For anything that may be hidden.
-- Assumes nothing.
use mathlib.Core.Path.{◌≡◌, refl, ap, sym, ◌∙◌}
use mathlib.Core.Bool.{Bool, true, false, cond, not, ◌||◌}
use mathlib.Core.List.{List, []}
use Prim.Native.Nat.{ℕ}
use Rattle.rules.specs.declared.Kind.{Kind}
use Rattle.rules.specs.declared.Kind.TheVariants.{Free, Item, Program}
use Rattle.rules.specs.Labels.{Labels}
use Rattle.rules.specs.Table.{is_free, is_program, Rights, Slot, free, flow}
use Rattle.rules.specs.Calls.{Call, put, show, send, fetch, add_tag, drop_tag, create, release, hand, caller_of, other_of, moves_content}
use Rattle.rules.specs.Calls.{add_right, drop_right, relabel, right_at, grant, with_content, with_rights, created, target, written, moved}
use Rattle.rules.specs.declared.Refusal.TheVariants.{NoProgram}
use Rattle.rules.specs.Refusals.{first, refusals}
use Rattle.rules.specs.Runs.{Hidden, hides, may_differ, struck_by}
use Rattle.rules.proofs.Facts.{not-false, and_left, and_right, both, or_left, or_right, contra, condition, guard}

-- What keeps it hidden: labels and rights that are safe in a slot, and calls that are barred from a run where they are allowed,
-- by the slot of their caller
pub record Guard (A : Labels) : Type 0 where
  pub safe : ℕ → Kind → A.Label → A.Label → Rights A → Bool
  pub bars : Slot A → Call A → Bool

module _ {A : Labels} where
  abbrev pub safely : Guard A → ℕ → Slot A → Bool
  safely G i e = G.safe i e.kind e.sec e.int e.rights

  -- Safe slots stay safe
  pub record SafeLaws (G : Guard A) : Type 0 where
    pub add_safe : (n : ℕ) (p : A.Tag) (i : ℕ) (a : Slot A) → A.has (add_right n a.rights) p ≡ true → safely G i a ≡ true
        → safely G i (relabel n (A.insert p) a) ≡ true
    pub drop_safe : (n : ℕ) (p : A.Tag) (i : ℕ) (a : Slot A) → A.has (drop_right n a.rights) p ≡ true → safely G i a ≡ true
        → safely G i (relabel n (A.remove p) a) ≡ true
    pub new_safe : (i j n : ℕ) (a : Slot A) → G.bars a (create i j n) ≡ false → safely G i a ≡ true → safely G j (created n a) ≡ true
    pub free_safe : (i j : ℕ) (a : Slot A) → G.bars a (release i j) ≡ false → safely G j free ≡ true
    pub hand_safe : (i j n : ℕ) (p : A.Tag) (a b : Slot A) → G.bars a (hand i j n p) ≡ false → A.has (right_at n a.rights) p ≡ true
        → safely G i a ≡ true → safely G j b ≡ true → safely G j (with_rights b (grant n p b.rights)) ≡ true

  -- and so flow leads from what is hidden only to what is, and changes of labels that are not barred keep it hidden
  pub record HidingLaws (H : Hidden A) (G : Guard A) : Type 0 where
    pub stay : SafeLaws G
    pub flows : (i j : ℕ) (a b : Slot A) → safely G i a ≡ true → safely G j b ≡ true → is_free a.kind ≡ false → is_free b.kind ≡ false
        → is_program a.kind || is_program b.kind ≡ true → flow a b ≡ true → hides H i a ≡ true → hides H j b ≡ true
    pub adds : (n : ℕ) (p : A.Tag) (i : ℕ) (a : Slot A) → A.has (add_right n a.rights) p ≡ true → safely G i a ≡ true
        → hides H i a ≡ true → hides H i (relabel n (A.insert p) a) ≡ true
    pub drops : (n : ℕ) (p : A.Tag) (i : ℕ) (a : Slot A) → G.bars a (drop_tag i n p) ≡ false → A.has (drop_right n a.rights) p ≡ true
        → safely G i a ≡ true → hides H i a ≡ true → hides H i (relabel n (A.remove p) a) ≡ true

  -- the slot as one knows it from whom it is hidden
  abbrev pub low : Hidden A → ℕ → Slot A → Slot A
  low H i e = with_content e (cond (hides H i e) [] e.content)

-- the slot that a call writes, before it
abbrev pub was : {A : Labels} → Slot A → Slot A → Call A → Slot A
was a b (put i bs) = a
was a b (show i buf) = a
was a b (send i j) = b
was a b (fetch i j) = a
was a b (add_tag i n p) = a
was a b (drop_tag i n p) = a
was a b (create i j n) = b
was a b (release i j) = b
was a b (hand i j n p) = b

not_free : (k : Kind) → not (is_program k) ≡ false → is_free k ≡ false
not_free Free e = cc
not_free Item e = refl
not_free Program e = refl

blank_twice : (h g : Bool) (x : List ℕ) → (h ≡ true → g ≡ true) → cond g [] (cond h [] x) ≡ cond g [] x
blank_twice true true x f = refl
blank_twice true false x f = let e : false ≡ true = f refl in cc
blank_twice false g x f = refl

module _ {A : Labels} (H : Hidden A) where
  -- a content that is hidden before is hidden after
  low_under : (i : ℕ) (a e : Slot A) (x : List ℕ) → (hides H i a ≡ true → hides H i e ≡ true)
      → low H i (with_content e (cond (hides H i a) [] x)) ≡ low H i (with_content e x)
  low_under i a e x f = ap (λ (y : List ℕ). with_content e y) (blank_twice (hides H i a) (hides H i e) x f)

  -- of a program a put, show, send or fetch may differ
  by_program : (k : Kind) (c : Call A) → not (is_program k) ≡ false → may_differ k c ≡ moves_content c
  by_program Free c p = cc
  by_program Item c p = cc
  by_program Program c p = refl

  -- a program whose put, show, send or fetch is not struck is not hidden
  seen : (c : Call A) (a : Slot A) → moves_content c ≡ true → struck_by H a c ≡ false → not (is_program a.kind) ≡ false → hides H (caller_of c) a ≡ false
  seen c a m h p = contra (hides H (caller_of c) a) (struck_by H a c) (λ e. both _ _ e (by_program a.kind c p ∙ m)) h

  module _ (gs : List A.Group) (a b : Slot A) where
    pub low_refusals : (c : Call A) → struck_by H a c ≡ false → first (refusals gs (low H (caller_of c) a) (low H (other_of c) b) c) ≡ first (refusals gs a b c)
    low_refusals (put i bs) h = refl
    low_refusals (show i buf) h = guard NoProgram (not (is_program a.kind)) _ _ λ p. rw (seen (show i buf) a refl h p)
    low_refusals (send i j) h = refl
    low_refusals (fetch i j) h = refl
    low_refusals (add_tag i n p) h = refl
    low_refusals (drop_tag i n p) h = refl
    low_refusals (create i j n) h = refl
    low_refusals (release i j) h = refl
    low_refusals (hand i j n p) h = refl

    module _ (G : Guard A) (L : HidingLaws H G) where
      -- what is fetched by one who is not hidden is not hidden
      source : (i j : ℕ) → safely G i a ≡ true → safely G j b ≡ true → struck_by H a (fetch i j) ≡ false → ((n : ℕ) → condition n (refusals gs a b (fetch i j)) ≡ false)
          → hides H j b ≡ false
      source i j k l h r = contra (hides H j b) (hides H i a)
          (L.flows j i b a l k (r 3) (not_free a.kind (r 1)) (or_right (is_program b.kind) _ (not-false (is_program a.kind) (r 1))) (not-false (flow b a) (r 7)))
          (seen (fetch i j) a refl h (r 1))

      pub low_moved : (c : Call A) → safely G (caller_of c) a ≡ true → safely G (other_of c) b ≡ true → struck_by H a c ≡ false
          → ((n : ℕ) → condition n (refusals gs a b c) ≡ false) → moved (low H (caller_of c) a) (low H (other_of c) b) c ≡ moved a b c
      low_moved (put i bs) k l h r = refl
      low_moved (show i buf) k l h r = rw (seen (show i buf) a refl h (r 1))
      low_moved (send i j) k l h r = rw (seen (send i j) a refl h (r 1))
      low_moved (fetch i j) k l h r = rw (source i j k l h r)
      low_moved (add_tag i n p) k l h r = refl
      low_moved (drop_tag i n p) k l h r = refl
      low_moved (create i j n) k l h r = refl
      low_moved (release i j) k l h r = refl
      low_moved (hand i j n p) k l h r = refl

      pub low_written : (c : Call A) → (not (is_program a.kind) ≡ false → hides H (caller_of c) a ≡ true → G.bars a c ≡ false) → safely G (caller_of c) a ≡ true → safely G (other_of c) b ≡ true → struck_by H a c ≡ false
          → ((n : ℕ) → condition n (refusals gs a b c) ≡ false)
          → low H (target c) (written (low H (caller_of c) a) (low H (other_of c) b) c) ≡ low H (target c) (written a b c)
      low_written (put i bs) m k l h r = refl
      low_written (show i buf) m k l h r = low_under i a a a.content (λ e. e)
      low_written (send i j) m k l h r = rw (seen (send i j) a refl h (r 1))
      low_written (fetch i j) m k l h r = rw (source i j k l h r)
      low_written (add_tag i n p) m k l h r = low_under i a (relabel n (A.insert p) a) a.content (L.adds n p i a (not-false _ (r 10)) k)
      low_written (drop_tag i n p) m k l h r = low_under i a (relabel n (A.remove p) a) a.content (λ e. L.drops n p i a (m (r 1) e) (not-false _ (r 10)) k e)
      low_written (create i j n) m k l h r = refl
      low_written (release i j) m k l h r = refl
      low_written (hand i j n p) m k l h r = low_under j b (with_rights b (grant n p b.rights)) b.content (λ e. e)

      struck-hidden : (c : Call A) → struck_by H a c ≡ true → hides H (caller_of c) a ≡ true
      struck-hidden c h = and_left (hides H (caller_of c) a) _ h

      -- and where it is allowed it is a put, show, send or fetch
      struck-moves : (c : Call A) → struck_by H a c ≡ true → not (is_program a.kind) ≡ false → moves_content c ≡ true
      struck-moves c h p = sym (by_program a.kind c p) ∙ and_right (hides H (caller_of c) a) _ h

      -- a struck call writes nothing that is not hidden
      pub struck_written : (c : Call A) → safely G (caller_of c) a ≡ true → safely G (other_of c) b ≡ true → struck_by H a c ≡ true
          → ((n : ℕ) → condition n (refusals gs a b c) ≡ false) → low H (target c) (written a b c) ≡ low H (target c) (was a b c)
      struck_written (put i bs) k l h r = rw (struck-hidden (put i bs) h)
      struck_written (show i buf) k l h r = refl
      struck_written (send i j) k l h r =
          rw (L.flows i j a b k l (not_free a.kind (r 1)) (r 3) (or_left _ (is_program b.kind) (not-false (is_program a.kind) (r 1))) (not-false (flow a b) (r 7)) (struck-hidden (send i j) h))
      struck_written (fetch i j) k l h r = rw (struck-hidden (fetch i j) h)
      struck_written (add_tag i n p) k l h r = let z = struck-moves (add_tag i n p) h (r 1) in cc
      struck_written (drop_tag i n p) k l h r = let z = struck-moves (drop_tag i n p) h (r 1) in cc
      struck_written (create i j n) k l h r = let z = struck-moves (create i j n) h (r 1) in cc
      struck_written (release i j) k l h r = let z = struck-moves (release i j) h (r 1) in cc
      struck_written (hand i j n p) k l h r = let z = struck-moves (hand i j n p) h (r 1) in cc

-- a call that is not barred writes what is safe
module _ {A : Labels} (gs : List A.Group) (a b : Slot A) (G : Guard A) (L : SafeLaws G) where
  pub safe_written : (c : Call A) → G.bars a c ≡ false → safely G (caller_of c) a ≡ true → safely G (other_of c) b ≡ true
      → ((n : ℕ) → condition n (refusals gs a b c) ≡ false) → safely G (target c) (written a b c) ≡ true
  safe_written (put i bs) m k l r = k
  safe_written (show i buf) m k l r = k
  safe_written (send i j) m k l r = l
  safe_written (fetch i j) m k l r = k
  safe_written (add_tag i n p) m k l r = L.add_safe n p i a (not-false _ (r 10)) k
  safe_written (drop_tag i n p) m k l r = L.drop_safe n p i a (not-false _ (r 10)) k
  safe_written (create i j n) m k l r = L.new_safe i j n a m k
  safe_written (release i j) m k l r = L.free_safe i j a m
  safe_written (hand i j n p) m k l r = L.hand_safe i j n p a b m (not-false _ (r 10)) k l
