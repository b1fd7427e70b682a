-- An array made of another, element by element.
-- Assumes nothing.
use Prim.Native.Nat.{ℕ, suc, ◌<◌, ◌≤◌}
use native.Mathlib.Omega.{arith}
use mathlib.Core.Path.{◌≡◌, refl, sym, ap₂, ◌∙◌}
use mathlib.Core.List.{List, [], ◌∷◌, map}
use lib.ListN.{length}
use Rattle.std.specs.Prelude.{slice_index_or}
use Rattle.std.specs.List.{AllZip}

zip_at : {A B : Type 0} (R : A → B → Type 0) (xs : List A) (ys : List B) → length ys ≡ length xs
    → ((i : ℕ) (d : A) (e : B) → i < length xs → R (slice_index_or xs i d) (slice_index_or ys i e)) → AllZip R xs ys
zip_at R [] [] l at = tt
zip_at R [] (y ∷ ys) l at = absurd (omega (arith, l))
zip_at R (x ∷ xs) [] l at = absurd (omega (arith, l))
zip_at R (x ∷ xs) (y ∷ ys) l at = (at 0 x y (omega arith), zip_at R xs ys (omega (arith, l)) (λ i d e m. at (suc i) d e (omega (arith, m))))

-- the elements below i are filled
abbrev pub Filled : {A B : Type 0} → (A → B → Type 0) → List A → List B → ℕ → Type 0
Filled {A} {B} R xs ys i = (k : ℕ) (d : A) (e : B) → k < i → R (slice_index_or xs k d) (slice_index_or ys k e)

pub filled_all : {A B : Type 0} (R : A → B → Type 0) (xs : List A) (ys : List B) (n i : ℕ) → length xs ≡ n → length ys ≡ n → n ≤ i
    → Filled R xs ys i → AllZip R xs ys
filled_all R xs ys n i a b l f = zip_at R xs ys (b ∙ sym a) (λ k d e m. f k d e (omega (arith, m, a, l)))

pub map_of : {A B : Type 0} (R : A → B → Type 0) (h : A → B) (xs : List A) (ys : List B) → ((x : A) (y : B) → R x y → y ≡ h x) → AllZip R xs ys
    → ys ≡ map h xs
map_of R h [] [] is z = refl
map_of R h [] (y ∷ ys) is z = absurd z
map_of R h (x ∷ xs) [] is z = absurd z
map_of R h (x ∷ xs) (y ∷ ys) is (here, rest) = ap₂ (λ (v : _) (vs : List _). v ∷ vs) (is x y here) (map_of R h xs ys is rest)
