-- Copies of bytes from list to list, and what stands where after them.
-- Assumes nothing.
use mathlib.Core.Path.{◌≡◌, refl, sym, ap, ap₂, ◌∙◌}
use mathlib.Core.Logic.{⊎_elim, ◌⊎◌, inl, inr}
use mathlib.Core.Bool.{Bool, true, false, ◌&&◌}
use mathlib.Core.List.{List, [], ◌∷◌, ◌++◌}
use Prim.Native.Nat.{ℕ, ◌+◌, ◌*◌, ◌-◌, ◌≤◌, ◌<◌, min}
use native.Mathlib.Omega.{arith}
use lib.Arith.{lt_of_le-ne}
use lib.Dec.{eqb, ltb}
use lib.ListN.{length, get_or, take, drop, replicate, length-drop, length-take, drop_of_length-le, get_or-append}
use lib.Seq.{paste, get_or-drop, get_or-take, length_paste_head, length-paste, length-take-le, take-take, drop-paste, get_or-append-add, ext_get_or}
use borrow.Author.Tests.{ltb-true, ltb-false, lt-ltb, le-ltb}
use Rattle.rules.proofs.Facts.{either}
use Rattle.block.specs.Block.{all_zero, no_block, block_at, bytes_at, with_block, filled_front}
use Rattle.std.specs.List.{fold}
use Rattle.std.proofs.Math.Bool.{and-true, and_assoc}
use Rattle.std.proofs.lemmas.List.{drop_min, take_min, drop-replicate}
use Rattle.block.proofs.Padding.{all-zero}

-- the fold over the bytes
pub fold_zero : (b : Bool) (l : List ℕ) → fold (λ (all : Bool) (x : ℕ). all && eqb x 0) b l ≡ b && all_zero l
fold_zero b [] = sym (and-true b)
fold_zero b (x ∷ l) = fold_zero (b && eqb x 0) l ∙ and_assoc b (eqb x 0) (all_zero l)

-- a copy of a block's front: as many bytes as there are in it and in the buffer
pub front_copied : (block : List ℕ) (n : ℕ) (buf : List ℕ) → length block ≡ 64
    → take (length buf) (take (min n 64) block) ++ drop (length (take (min n 64) block)) buf ≡ filled_front block n buf
unfolding filled_front
front_copied block n buf h =
    let m = min n 64 in
    let k : length (take m block) ≡ m = length-take-le m block (omega arith) in
    let j : min (length buf) (length (take m block)) ≡ min m (length buf) = omega (arith, k) in
    ap₂ ◌++◌
    (sym (take_min (length buf) (take m block)) ∙ ap (λ (i : ℕ). take i (take m block)) j ∙ take-take (min m (length buf)) m block (omega arith))
    (ap (λ (i : ℕ). drop i buf) k ∙ sym (drop_min m buf))

pub zero-drop : (n m : ℕ) → all_zero (drop n (replicate m 0)) ≡ true
zero-drop n m = ap all_zero (drop-replicate n m 0) ∙ all-zero (m - n)

apart : (a b : ℕ) → (a ≡ b → ⊥) → (a < b) ⊎ (b < a)
apart a b ne = go (ltb a b) refl
  where
    go : (t : Bool) → ltb a b ≡ t → (a < b) ⊎ (b < a)
    go true e = inl (ltb-true a b e)
    go false e = inr (lt_of_le-ne (ltb-false a b e) (λ q. ne (sym q)))

-- ---- what stands where in a content with a block replaced
module _ (d : List ℕ) (at : ℕ) (s : List ℕ) (n : ℕ) (hd : at + n ≤ length d) (hs : n ≤ length s) where
  paste_before : (i : ℕ) → i < at → get_or (paste d at s n) i 0 ≡ get_or d i 0
  paste_before i h =
      get_or-append (take at d ++ take n s) _ 0 i (omega (arith, length_paste_head d at s n (omega arith) hs))
      ∙ get_or-append (take at d) _ 0 i (omega (arith, length-take-le at d (omega arith))) ∙ get_or-take at d i 0 h

  paste_after : (m : ℕ) → get_or (paste d at s n) (at + n + m) 0 ≡ get_or d (at + n + m) 0
  paste_after m =
      sym (get_or-drop (at + n) (paste d at s n) m 0)
      ∙ ap (λ (l : List ℕ). get_or l m 0) (drop-paste d at s n (omega arith) hs) ∙ get_or-drop (at + n) d m 0

  paste_within : (m : ℕ) → m < n → get_or (paste d at s n) (at + m) 0 ≡ get_or s m 0
  paste_within m h =
      get_or-append (take at d ++ take n s) _ 0 (at + m) (omega (arith, length_paste_head d at s n (omega arith) hs))
      ∙ ap (λ (k : ℕ). get_or (take at d ++ take n s) (k + m) 0) (sym (length-take-le at d (omega arith)))
      ∙ get_or-append-add (take at d) (take n s) m 0 ∙ get_or-take n s m 0 h

-- ---- blocks

-- the block of one of the 32 slots, and of any other
pub block_in : (content : List ℕ) (k : ℕ) → k < 32 → block_at content k ≡ take 64 (drop (k * 64) content)
unfolding block_at
block_in content k h = rw (lt-ltb k 32 h)

pub block_out : (content : List ℕ) (k : ℕ) → 32 ≤ k → block_at content k ≡ no_block
unfolding block_at
block_out content k h = rw (le-ltb k 32 h)

pub set-in : (content : List ℕ) (k : ℕ) (b : List ℕ) → k < 32 → with_block content k b ≡ paste content (k * 64) b 64
unfolding with_block
set-in content k b h = rw (lt-ltb k 32 h)

pub set_out : (content : List ℕ) (k : ℕ) (b : List ℕ) → 32 ≤ k → with_block content k b ≡ content
unfolding with_block
set_out content k b h = rw (le-ltb k 32 h)

pub block-length : (content : List ℕ) (k : ℕ) → length content ≡ 2048 → length (block_at content k) ≡ 64
unfolding no_block
block-length content k e = either (ltb k 32)
    (λ h. let l : k < 32 = ltb-true k 32 h in rw (block_in content k l) (simp (length-take, length-drop) (omega arith)))
    (λ h. rw (block_out content k (ltb-false k 32 h)) refl)

pub block-get : (content : List ℕ) (k j : ℕ) → k < 32 → j < 64 → get_or (block_at content k) j 0 ≡ get_or content (k * 64 + j) 0
block-get content k j l h = rw (block_in content k l) (get_or-take 64 (drop (k * 64) content) j 0 h ∙ get_or-drop (k * 64) content j 0)

-- the bytes that a content has of a block, and those of a slice of it
pub bytes_in : (content : List ℕ) (k : ℕ) → k < 32 → bytes_at content k ≡ take 64 (drop (k * 64) content)
bytes_in content k h = rw (lt-ltb k 32 h) (block_in content k h)

pub cut : (l : List ℕ) (at lo hi : ℕ) → lo ≡ min at (length l) → hi ≡ min (lo + 64) (length l) → take (hi - lo) (drop lo l) ≡ take 64 (drop at l)
cut l at lo hi e f =
    let d = drop at l in let n : hi - lo ≡ min 64 (length d) = simp length-drop (omega arith) in
    rw (n, e, drop_min at l) (take_min 64 d)

-- where a content has no byte of a block, the block has a zero
pub zero_at : (content : List ℕ) (k n : ℕ) → all_zero (drop n (bytes_at content k)) ≡ all_zero (drop n (block_at content k))
unfolding block_at no_block
zero_at content k n = either (ltb k 32)
    (λ e. rw e)
    (λ e. rw (e, drop_of_length-le {A = ℕ} [] {i = n} (omega arith)) (sym (zero-drop n 64)))

-- the block of the slot that was replaced, and of another
module _ (c b : List ℕ) (k : ℕ) (hk : k < 32) (hc : length c ≡ 2048) (hb : length b ≡ 64) where
  pub set_length : length (with_block c k b) ≡ 2048
  set_length = rw (set-in c k b hk) (length-paste c (k * 64) b 64 (omega arith) (omega arith) ∙ hc)

  pub set_same : block_at (with_block c k b) k ≡ b
  set_same =
      ext_get_or 0 (block_at (with_block c k b) k) b (block-length (with_block c k b) k set_length ∙ sym hb)
      (λ i l. let h : i < 64 = omega (arith, block-length (with_block c k b) k set_length) in
      block-get (with_block c k b) k i hk h ∙ rw (set-in c k b hk) (paste_within c (k * 64) b 64 (omega arith) (omega arith) i h))

  pub set_other : (j : ℕ) → (j ≡ k → ⊥) → block_at (with_block c k b) j ≡ block_at c j
  set_other j ne = either (ltb j 32) (λ e. near (ltb-true j 32 e)) (λ e. rw (block_out (with_block c k b) j (ltb-false j 32 e), block_out c j (ltb-false j 32 e)))
    where
      outside : (i : ℕ) → i < 64 → get_or (paste c (k * 64) b 64) (j * 64 + i) 0 ≡ get_or c (j * 64 + i) 0
      outside i h =
          ⊎_elim
          (λ l. paste_before c (k * 64) b 64 (omega arith) (omega arith) (j * 64 + i) (omega arith))
          (λ g. let e : k * 64 + 64 + (j * 64 + i - (k * 64 + 64)) ≡ j * 64 + i = omega arith in
          rw e at (paste_after c (k * 64) b 64 (omega arith) (omega arith) (j * 64 + i - (k * 64 + 64))))
          (apart j k ne)

      near : j < 32 → block_at (with_block c k b) j ≡ block_at c j
      near l =
          ext_get_or 0 (block_at (with_block c k b) j) (block_at c j) (block-length (with_block c k b) j set_length ∙ sym (block-length c j hc))
          (λ i m. let h : i < 64 = omega (arith, block-length (with_block c k b) j set_length) in
          block-get (with_block c k b) j i l h ∙ rw (set-in c k b hk) (outside i h) ∙ sym (block-get c j i l h))
