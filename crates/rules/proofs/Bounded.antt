-- What a test of every number below k comes to.
-- Assumes nothing.
use mathlib.Core.Path.{◌≡◌, refl, ap, ap₂, ◌∙◌}
use mathlib.Core.Logic.{⊎_elim}
use mathlib.Core.Bool.{Bool, true, ◌&&◌}
use Prim.Native.Nat.{ℕ, zero, suc, ◌<◌}
use native.Mathlib.Nat.{le-suc, le_refl, lt_of_lt_of_le, eq-or-lt_of_le, le_of_suc-le-suc, not-suc-le-zero}
use Rattle.rules.specs.Bounded.{all_below}
use Rattle.rules.proofs.Facts.{and_left, and_right}

pub all-at : (k : ℕ) (f : ℕ → Bool) → all_below k f ≡ true → (n : ℕ) → n < k → f n ≡ true
unfolding all_below
all-at zero f h n l = absurd (not-suc-le-zero l)
all-at (suc k) f h n l =
    ⊎_elim (λ e. ap f e ∙ and_left (f k) (all_below k f) h) (λ m. all-at k f (and_right (f k) (all_below k f) h) n m) (eq-or-lt_of_le (le_of_suc-le-suc l))

pub all_of : (k : ℕ) (f : ℕ → Bool) → ((n : ℕ) → n < k → f n ≡ true) → all_below k f ≡ true
unfolding all_below
all_of zero f h = refl
all_of (suc k) f h = ap₂ ◌&&◌ (h k (le_refl (suc k))) (all_of k f (λ n l. h n (lt_of_lt_of_le l (le-suc k))))
