-- One step and the end of each definition over what is left of a field.
-- Assumes nothing.
use Rattle.std.proofs.Common.{◌≡◌, refl, ◌∙◌, Bool, true, false, cond, ◌&&◌, ◌||◌, List, [], ◌∷◌, ◌++◌, ℕ, suc, ◌+◌, ◌*◌, ◌-◌, ◌≤◌, ◌<◌, arith, length, get_or, take, drop, Option, None, Some, eqb, leb, ltb}
use lib.Seq.{take_all}
use borrow.Author.Tests.{le-leb, lt-leb, leb-true, ltb-false}
use Rattle.rules.proofs.Facts.{and_right, neither_right}
use Rattle.label.specs.declared.Label.{Label}
use Rattle.label.specs.Tags.{with_digit}
use Rattle.text.proofs.Laws.{step, at_end}
use Rattle.values.specs.Options.{◌>>=◌}
use Rattle.values.specs.Values.{digit_of, decimal_from, decimal_of, set_from, pairs_from}

-- decimal_from
module _ (max n : ℕ) (s : List ℕ) (i : ℕ) where
  pub dec_end : length s ≤ i → decimal_from max n (drop i s) ≡ Some n
  unfolding decimal_from
  dec_end h = rw (at_end s i h, decimal_from)

  pub dec_none : i < length s → None ≡ digit_of (get_or s i 0) → decimal_from max n (drop i s) ≡ None
  unfolding decimal_from
  dec_none h e = rw (step s i h, decimal_from, ← e)

  pub dec_step : (d : ℕ) → i < length s → Some d ≡ digit_of (get_or s i 0)
      → decimal_from max n (drop i s) ≡ cond (leb 10 d || ltb max (n * 10 + d)) None (decimal_from max (n * 10 + d) (drop (i + 1) s))
  unfolding decimal_from
  dec_step d h e = rw (step s i h, decimal_from, ← e)

-- a decimal number is at most its maximum
decimal-from : (max n : ℕ) (s : List ℕ) (k : ℕ) → n ≤ max → decimal_from max n s ≡ Some k → k ≤ max
unfolding decimal_from
decimal-from max n [] k h e = let q : n ≡ k = cc in omega arith
decimal-from max n (b ∷ bs) k h e = go (digit_of b) (λ d. decimal-from max (n * 10 + d) bs k) e
  where
    more : (d : ℕ) (t : Bool) → leb 10 d || ltb max (n * 10 + d) ≡ t → (n * 10 + d ≤ max → decimal_from max (n * 10 + d) bs ≡ Some k → k ≤ max)
        → cond t None (decimal_from max (n * 10 + d) bs) ≡ Some k → k ≤ max
    more d true q ih f = absurd cc
    more d false q ih f = ih (ltb-false _ _ (neither_right (leb 10 d) _ q)) f

    go : (o : Option ℕ) → ((d : ℕ) → n * 10 + d ≤ max → decimal_from max (n * 10 + d) bs ≡ Some k → k ≤ max)
        → (o >>= λ d. cond (leb 10 d || ltb max (n * 10 + d)) None (decimal_from max (n * 10 + d) bs)) ≡ Some k → k ≤ max
    go None ih f = absurd cc
    go (Some d) ih f = more d (leb 10 d || ltb max (n * 10 + d)) refl (ih d) f

pub decimal_le : (max : ℕ) (s : List ℕ) (k : ℕ) → decimal_of max s ≡ Some k → k ≤ max
unfolding decimal_of
decimal_le max s k e = go (eqb (length s) 0) (ltb 1 (length s) && eqb (get_or s 0 0) 48) e
  where
    go : (t u : Bool) → cond t None (cond u None (decimal_from max 0 s)) ≡ Some k → k ≤ max
    go true u f = absurd cc
    go false true f = absurd cc
    go false false f = decimal-from max 0 s k (omega arith) f

-- set_from
module _ (l : Label) (s : List ℕ) (i : ℕ) where
  pub set_end : length s ≤ i → set_from l (drop i s) ≡ Some l
  unfolding set_from
  set_end h = rw (at_end s i h, set_from)

  pub set_none : i < length s → None ≡ digit_of (get_or s i 0) → set_from l (drop i s) ≡ None
  unfolding set_from
  set_none h e = rw (step s i h, set_from, ← e)

  pub set_step : (d : ℕ) → i < length s → Some d ≡ digit_of (get_or s i 0) → set_from l (drop i s) ≡ set_from (with_digit l d) (drop (i + 1) s)
  unfolding set_from
  set_step d h e = rw (step s i h, set_from, ← e)

-- a digit is below 16
pub digit_below : (b d : ℕ) → Some d ≡ digit_of b → d < 16
unfolding digit_of
digit_below b d e = go (leb 48 b && leb b 57) (leb 97 b && leb b 102) refl refl e
  where
    go : (t u : Bool) → leb 48 b && leb b 57 ≡ t → leb 97 b && leb b 102 ≡ u → Some d ≡ cond t (Some (b - 48)) (cond u (Some (b - 87)) None) → d < 16
    go true u p q e = let k : d ≡ b - 48 = cc in let m = leb-true b 57 (and_right (leb 48 b) _ p) in omega arith
    go false true p q e = let k : d ≡ b - 87 = cc in let m = leb-true b 102 (and_right (leb 97 b) _ q) in omega arith
    go false false p q e = absurd cc

-- pairs_from: what is left is one pair and the rest, a half of a pair, or nothing
module _ (max : ℕ) (bs : List ℕ) where
  pair_is : (s : List ℕ) (x y : ℕ) → 2 ≤ length s → Some x ≡ digit_of (get_or s 0 0) → Some y ≡ digit_of (get_or s 1 0)
      → pairs_from max bs s ≡ cond (leb max (length bs)) None (pairs_from max (bs ++ ((x * 16 + y) ∷ [])) (take (length s - 2) (drop 2 s)))
  unfolding pairs_from
  pair_is [] x y h e f = absurd (omega arith)
  pair_is (b ∷ []) x y h e f = absurd (omega arith)
  pair_is (b ∷ l ∷ s) x y h e f = rw (← e, ← f, take_all (suc (suc (length s)) - 2) s (omega arith))

  pub pairs_end : (s : List ℕ) → length s ≡ 0 → pairs_from max bs s ≡ Some bs
  unfolding pairs_from
  pairs_end [] h = refl
  pairs_end (b ∷ s) h = absurd (omega arith)

  pub pairs_odd : (s : List ℕ) → length s ≡ 1 → pairs_from max bs s ≡ None
  unfolding pairs_from
  pairs_odd [] h = absurd (omega arith)
  pairs_odd (b ∷ []) h = refl
  pairs_odd (b ∷ l ∷ s) h = absurd (omega arith)

  pub pairs_high : (s : List ℕ) → 2 ≤ length s → None ≡ digit_of (get_or s 0 0) → pairs_from max bs s ≡ None
  unfolding pairs_from
  pairs_high [] h e = absurd (omega arith)
  pairs_high (b ∷ []) h e = absurd (omega arith)
  pairs_high (b ∷ l ∷ s) h e = rw (← e)

  pub pairs_low : (s : List ℕ) (x : ℕ) → 2 ≤ length s → Some x ≡ digit_of (get_or s 0 0) → None ≡ digit_of (get_or s 1 0) → pairs_from max bs s ≡ None
  unfolding pairs_from
  pairs_low [] x h e f = absurd (omega arith)
  pairs_low (b ∷ []) x h e f = absurd (omega arith)
  pairs_low (b ∷ l ∷ s) x h e f = rw (← e, ← f)

  module _ (s : List ℕ) (x y : ℕ) (e : Some x ≡ digit_of (get_or s 0 0)) (f : Some y ≡ digit_of (get_or s 1 0)) where
    pub pairs_full : 2 ≤ length s → max ≤ length bs → pairs_from max bs s ≡ None
    pairs_full h k = pair_is s x y h e f ∙ rw (le-leb max (length bs) k)

    pub pairs_step : 2 ≤ length s → length bs < max → pairs_from max bs s ≡ pairs_from max (bs ++ ((x * 16 + y) ∷ [])) (take (length s - 2) (drop 2 s))
    pairs_step h k = pair_is s x y h e f ∙ rw (lt-leb max (length bs) k)
