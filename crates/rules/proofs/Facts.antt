-- Facts on Booleans, on refusals in order, and on arrays of structs.
-- Assumes nothing.
use mathlib.Core.Path.{◌≡◌, refl, sym, ◌∙◌, ap}
use mathlib.Core.Bool.{Bool, true, false, cond, not, ◌&&◌, ◌||◌}
use mathlib.Core.List.{List, map}
use Prim.Native.Nat.{ℕ}
use lib.Dec.{eqb}
use borrow.Author.Tests.{eq-eqb}
use lib.ListN.{length, length-map}
use Rattle.rules.specs.declared.Refusal.{Refusal}
use Rattle.rules.specs.Numbers.{Outcome, number}
use Rattle.std.specs.Prelude.{Ok, Err}
use Rattle.rules.specs.Refusals.{Refusals, allow, ◌if◌else◌, first}

-- ---- Booleans

pub not-false : (b : Bool) → not b ≡ false → b ≡ true
not-false true e = refl
not-false false e = sym e

pub not-true : (b : Bool) → not b ≡ true → b ≡ false
not-true true e = sym e
not-true false e = refl

pub not_of : {b : Bool} → b ≡ false → not b ≡ true
not_of e = rw e

pub and_left : (a b : Bool) → a && b ≡ true → a ≡ true
and_left true b e = refl
and_left false b e = e

pub and_right : (a b : Bool) → a && b ≡ true → b ≡ true
and_right true b e = e
and_right false b e = cc

pub alone : (b : Bool) → b || false ≡ true → b ≡ true
alone true e = refl
alone false e = e

pub both : (a b : Bool) → a ≡ true → b ≡ true → a && b ≡ true
both true b e h = h
both false b e h = cc

pub or_left : (a b : Bool) → a ≡ true → a || b ≡ true
or_left a b e = rw e

pub or_right : (a b : Bool) → b ≡ true → a || b ≡ true
or_right true b e = refl
or_right false b e = e

pub or-rest : (a b : Bool) → a || b ≡ true → a ≡ false → b ≡ true
or-rest true b e h = cc
or-rest false b e h = e

pub neither_left : (a b : Bool) → a || b ≡ false → a ≡ false
neither_left true b e = e
neither_left false b e = refl

pub neither_right : (a b : Bool) → a || b ≡ false → b ≡ false
neither_right true b e = cc
neither_right false b e = e

-- what implies something false is false
pub contra : (x y : Bool) → (x ≡ true → y ≡ true) → y ≡ false → x ≡ false
contra true y f h = sym (f refl) ∙ h
contra false y f h = refl

pub iff : (x y : Bool) → (x ≡ true → y ≡ true) → (y ≡ true → x ≡ true) → x ≡ y
iff true y f g = sym (f refl)
iff false true f g = g refl
iff false false f g = refl

pub either : {C : Type 0} (b : Bool) → (b ≡ true → C) → (b ≡ false → C) → C
either true f g = f refl
either false f g = g refl

-- ---- refusals

-- the condition of the refusal numbered n
abbrev pub condition : ℕ → Refusals → Bool
condition n allow = false
condition n (m if b else r) = cond (eqb n (number m)) b (condition n r)

-- where a call is allowed, the condition of each number is false
pub passed : (r : Refusals) → first r ≡ Ok tt → (n : ℕ) → condition n r ≡ false
passed allow e n = refl
passed (m if true else r) e n = cc
passed (m if false else r) e n = go (eqb n (number m)) (passed r e n)
  where
    go : (b : Bool) → condition n r ≡ false → cond b false (condition n r) ≡ false
    go true h = refl
    go false h = h

-- a test passes for the number of every refusal
abbrev pub all_numbers : (ℕ → Bool) → Refusals → Bool
all_numbers f allow = true
all_numbers f (n if b else r) = f (number n) && all_numbers f r

pub number_of_first : (f : ℕ → Bool) (r : Refusals) (n : Refusal) → first r ≡ Err n → all_numbers f r ≡ true → f (number n) ≡ true
number_of_first f allow n e h = cc
number_of_first f (m if true else r) n e h = let q : m ≡ n = cc in rw q at (and_left (f (number m)) _ h)
number_of_first f (m if false else r) n e h = number_of_first f r n e (and_right (f (number m)) _ h)

pub refused-not-allowed : (n : Refusal) → ◌≡◌ {A = Outcome} (Err n) (Ok tt) → ⊥
refused-not-allowed n e = cc

-- the refusal numbered k stands before the one numbered n
abbrev pub ahead : ℕ → ℕ → Refusals → Bool
ahead k n allow = false
ahead k n (m if b else r) = cond (eqb n (number m)) false (cond (eqb k (number m)) true (ahead k n r))

-- before a refusal that is returned no condition holds
pub clear : (r : Refusals) (n : Refusal) → first r ≡ Err n → (k : ℕ) → ahead k (number n) r ≡ true → condition k r ≡ false
clear allow n e k h = absurd (refused-not-allowed n (sym e))
clear (m if true else r) n e k h =
    let q : m ≡ n = cc in
    let x = rw (eq-eqb (number n) (number m) (ap number (sym q))) at h in absurd cc
clear (m if false else r) n e k h = go (eqb (number n) (number m)) (eqb k (number m)) h (clear r n e k)
  where
    go : (b c : Bool) → cond b false (cond c true (ahead k (number n) r)) ≡ true → (ahead k (number n) r ≡ true → condition k r ≡ false) → cond c false (condition k r) ≡ false
    go true c h f = absurd cc
    go false true h f = refl
    go false false h f = f h

-- some refusal numbered n applies; that of the number which is returned does
abbrev pub some_numbered : ℕ → Refusals → Bool
some_numbered n allow = false
some_numbered n (m if b else r) = (eqb n (number m) && b) || some_numbered n r

pub returned : (r : Refusals) (n : Refusal) → first r ≡ Err n → some_numbered (number n) r ≡ true
returned allow n e = cc
returned (m if true else r) n e = or_left (eqb (number n) (number m) && true) _ (both (eqb (number n) (number m)) true (eq-eqb (number n) (number m) cc) refl)
returned (m if false else r) n e = or_right (eqb (number n) (number m) && false) _ (returned r n e)

-- two cascades with one first refusal are equal if the rest is where that one does not apply
pub guard : (n : Refusal) (b : Bool) (x y : Outcome) → (b ≡ false → x ≡ y) → cond b (Err n) x ≡ cond b (Err n) y
guard n true x y h = refl
guard n false x y h = h refl

-- ---- an array of structs: its length is that of what stands for it

pub length_mapped : (X Y : Type 0) (f : X → Y) (l : List X) (n : ℕ) → length (map f l) ≡ n → length l ≡ n
length_mapped X Y f l n e = sym (length-map l f) ∙ e
