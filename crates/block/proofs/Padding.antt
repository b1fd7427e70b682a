-- A content with zeros behind it.
-- Assumes nothing.
use mathlib.Core.Path.{◌≡◌, refl, sym, ap, ap₂, ◌∙◌}
use mathlib.Core.Bool.{true}
use mathlib.Core.List.{List, [], ◌∷◌, ◌++◌, append-nil}
use Prim.Native.Nat.{ℕ, zero, suc, ◌-◌, ◌≤◌}
use native.Mathlib.Omega.{arith}
use lib.Dec.{eqb, ltb}
use lib.ListN.{length, take, drop, replicate, length-take, length-drop, length-replicate, length-append, take-append-drop}
use lib.Seq.{take_all, length-take-le, take-append_seam, drop-append_seam}
use borrow.Author.Tests.{eqb-true}
use Rattle.rules.proofs.Facts.{and_left, and_right, either}
use Rattle.block.specs.Block.{all_zero, no_block, padded, block_at, bytes_at}

zeros : (l : List ℕ) → all_zero l ≡ true → l ≡ replicate (length l) 0
zeros [] e = refl
zeros (x ∷ l) e = ap₂ (λ (y : ℕ) (m : List ℕ). y ∷ m) (eqb-true x 0 (and_left (eqb x 0) _ e)) (zeros l (and_right (eqb x 0) _ e))

pub all-zero : (n : ℕ) → all_zero (replicate n 0) ≡ true
all-zero zero = refl
all-zero (suc n) = all-zero n

-- the front of a block with zeros behind it, padded, is the block
module _ (b : List ℕ) (n : ℕ) (hb : length b ≡ 64) (hn : n ≤ 64) where
  pub cut_length : length (take n b) ≡ n
  cut_length = length-take-le n b (omega arith)

  pub cut_padded : all_zero (drop n b) ≡ true → padded (take n b) ≡ b
  unfolding padded
  cut_padded z =
      let d : drop n b ≡ replicate (64 - n) 0 = zeros (drop n b) z ∙ ap (λ (k : ℕ). replicate k 0) (length-drop n b ∙ ap (λ (k : ℕ). k - n) hb) in
      let t : take 64 (take n b) ≡ take n b = take_all 64 (take n b) (omega (arith, cut_length)) in
      rw (t, cut_length, ← d) (take-append-drop n b)

pub padded-length : (c : List ℕ) → length (padded c) ≡ 64
unfolding padded
padded-length c = simp (length-append, length-take, length-replicate) (omega arith)

pub padded_full : (b : List ℕ) → length b ≡ 64 → padded b ≡ b
unfolding padded
padded_full b h = rw (h, take_all 64 b (omega arith)) (append-nil b)

no_block-length : length no_block ≡ 64
unfolding no_block
no_block-length = refl

pub padded-none : padded [] ≡ no_block
unfolding padded no_block
padded-none = refl

-- a block's bytes, padded, are the block
pub padded_at : (content : List ℕ) (k : ℕ) → padded (bytes_at content k) ≡ padded (block_at content k)
unfolding block_at
padded_at content k = either (ltb k 32) (λ e. rw e) (λ e. rw e (padded-none ∙ sym (padded_full no_block no_block-length)))

-- a content of at most 64 bytes is the front of its block, and zeros follow
module _ (c : List ℕ) (h : length c ≤ 64) where
  padded_is : padded c ≡ c ++ replicate (64 - length c) 0
  unfolding padded
  padded_is = ap (λ (l : List ℕ). l ++ replicate (64 - length c) 0) (take_all 64 c h)

  pub padded_front : take (length c) (padded c) ≡ c
  padded_front = ap (take (length c)) padded_is ∙ take-append_seam c _

  pub padded_rest : all_zero (drop (length c) (padded c)) ≡ true
  padded_rest = ap (λ (l : List ℕ). all_zero (drop (length c) l)) padded_is ∙ ap all_zero (drop-append_seam c _) ∙ all-zero (64 - length c)
