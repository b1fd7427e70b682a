-- Groups whose tags stand in one array and their numbers in another: the first of them, each by its place, and those of which the arrays are made.
-- Assumes nothing.
use mathlib.Core.Path.{◌≡◌, refl, ap, ◌∙◌}
use mathlib.Core.Logic.{◌⊎◌, ⊎_elim}
use mathlib.Core.List.{List, [], ◌∷◌, ◌++◌, map}
use Prim.Native.Nat.{ℕ, zero, suc, ◌<◌}
use native.Mathlib.Omega.{arith}
use lib.Seq.{take_all}
use lib.ListN.{length, get_or, take}
use Rattle.label.specs.declared.Group.{Group}
use Rattle.label.specs.declared.Label.{Label}
use Rattle.groups.specs.Groups.{with_numbers}

-- the first n
pub with_take : (n : ℕ) (gs : List Label) (ms : List ℕ) → take n (with_numbers gs ms) ≡ with_numbers (take n gs) ms
with_take zero gs ms = refl
with_take (suc n) [] ms = refl
with_take (suc n) (g ∷ gs) [] = refl
with_take (suc n) (g ∷ gs) (m ∷ ms) = ap (λ xs. record { tags = g; most = m } ∷ xs) (with_take n gs ms)

-- as many as there are tags are all
pub with_all : (gs : List Label) (ms : List ℕ) → take (length gs) (with_numbers gs ms) ≡ with_numbers gs ms
with_all gs ms = with_take (length gs) gs ms ∙ ap (λ x. with_numbers x ms) (take_all (length gs) gs (omega arith))

-- none, where there are no tags or no numbers
pub with_none : (gs : List Label) (ms : List ℕ) → (length gs ≡ 0) ⊎ (length ms ≡ 0) → with_numbers gs ms ≡ []
with_none [] ms h = refl
with_none (g ∷ gs) [] h = refl
with_none (g ∷ gs) (m ∷ ms) h = absurd (⊎_elim (λ e. omega (arith, e)) (λ e. omega (arith, e)) h)

pub with_length : (gs : List Label) (ms : List ℕ) → length gs ≡ length ms → length (with_numbers gs ms) ≡ length gs
with_length [] ms h = refl
with_length (g ∷ gs) [] h = absurd (omega (arith, h))
with_length (g ∷ gs) (m ∷ ms) h = ap suc (with_length gs ms (omega (arith, h)))

-- the one at a place
pub with_at : (gs : List Label) (ms : List ℕ) (i : ℕ) (a : Label) (b : ℕ) (d : Group) → i < length gs → i < length ms
    → get_or (with_numbers gs ms) i d ≡ record { tags = get_or gs i a; most = get_or ms i b }
with_at [] ms i a b d l m = absurd (omega (arith, l))
with_at (g ∷ gs) [] i a b d l m = absurd (omega (arith, m))
with_at (g ∷ gs) (n ∷ ms) zero a b d l m = refl
with_at (g ∷ gs) (n ∷ ms) (suc i) a b d l m = with_at gs ms i a b d (omega (arith, l)) (omega (arith, m))

-- arrays that begin with the tags and the numbers of groups
pub with_front : (gs : List Group) (xs : List Label) (ys : List ℕ) → take (length gs) (with_numbers (map (λ g. g.tags) gs ++ xs) (map (λ g. g.most) gs ++ ys)) ≡ gs
with_front [] xs ys = refl
with_front (g ∷ gs) xs ys = ap (λ l. g ∷ l) (with_front gs xs ys)
