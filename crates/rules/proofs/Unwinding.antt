-- Two runs of any system. If an event that is struck out leaves a state looking as it did, and any other event takes
-- states that look alike to such states, then runs that are the same but for struck events end in states that look alike,
-- and give the same to those to whom a struck event gives nothing.
-- Assumes nothing.
use mathlib.Core.Path.{◌≡◌, refl, ap, ap₂, sym, ◌∙◌}
use mathlib.Core.Bool.{Bool, true, false, cond, not}
use mathlib.Core.List.{List, [], ◌∷◌, ◌++◌}
use Prim.Native.Nat.{ℕ}
use native.Mathlib.Omega.{arith}
use Rattle.rules.specs.Runs.{final, trace, kept, never}
use Rattle.rules.proofs.Facts.{not-true, and_left, and_right}

-- Alike is what two states that look alike have in common; barred, the events that no run may hold
pub record Unwinding {S E : Type 0} (after : S → E → S) : Type 1 where
  pub Alike : S → S → Type 0
  pub struck : S → E → Bool
  pub barred : S → E → Bool
  pub swap : (s u : S) → Alike s u → Alike u s
  pub after_struck : (s u : S) (e : E) → barred s e ≡ false → Alike s u → struck s e ≡ true → Alike (after s e) u
  pub after_other : (s u : S) (e : E) → barred s e ≡ false → barred u e ≡ false → Alike s u → struck s e ≡ false → struck u e ≡ false → Alike (after s e) (after u e)

module _ {S E : Type 0} {after : S → E → S} (U : Unwinding after) where
  -- an output that a struck event does not give, and that any other event gives alike
  pub record Output {X : Type 0} (out : S → E → List X) : Type 0 where
    pub none : (s u : S) (e : E) → U.barred s e ≡ false → U.Alike s u → U.struck s e ≡ true → out s e ≡ []
    pub same : (s u : S) (e : E) → U.barred s e ≡ false → U.barred u e ≡ false → U.Alike s u → U.struck s e ≡ false → U.struck u e ≡ false → out s e ≡ out u e

  module _ {X : Type 0} (out : S → E → List X) (O : Output out) where
    pub record Runs (s u : S) (es fs : List E) : Type 0 where
      pub ends : U.Alike (final after s es) (final after u fs)
      pub gives : trace after out s es ≡ trace after out u fs

    -- a struck event of the first run, and of the second
    skip_left : (s u : S) (e : E) (es fs : List E) → U.barred s e ≡ false → U.Alike s u → U.struck s e ≡ true → Runs (after s e) u es fs → Runs s u (e ∷ es) fs
    skip_left s u e es fs m a h r = record { ends = r.ends; gives = rw (O.none s u e m a h) r.gives }

    skip_right : (s u : S) (es : List E) (f : E) (fs : List E) → U.barred u f ≡ false → U.Alike s u → U.struck u f ≡ true → Runs s (after u f) es fs → Runs s u es (f ∷ fs)
    skip_right s u es f fs m a h r = record { ends = r.ends; gives = rw (O.none u s f m (U.swap s u a) h) r.gives }

    right-after : (s u : S) (f : E) → U.barred u f ≡ false → U.Alike s u → U.struck u f ≡ true → U.Alike s (after u f)
    right-after s u f m a h = U.swap (after u f) s (U.after_struck u s f m (U.swap s u a) h)

    no_cons : {C : Type 0} (f : E) (fs : List E) → [] ≡ f ∷ fs → C
    no_cons f fs e = let z : ◌≡◌ {A = ℕ} 0 1 = cc in absurd (omega arith)

    -- the first run is over
    drain : (s u : S) (fs : List E) → never after U.barred u fs ≡ true → U.Alike s u → [] ≡ kept after U.struck u fs → Runs s u [] fs
    drain s u [] m a k = record { ends = a; gives = refl }
    drain s u (f ∷ fs) m a k = go (λ b l. drain s (after u f) fs (and_right (not (U.barred u f)) _ m) b l) (U.struck u f) refl k
      where
        fit : U.barred u f ≡ false
        fit = not-true (U.barred u f) (and_left (not (U.barred u f)) _ m)

        go : (U.Alike s (after u f) → [] ≡ kept after U.struck (after u f) fs → Runs s (after u f) [] fs) → (b : Bool) → U.struck u f ≡ b
            → [] ≡ cond b (kept after U.struck (after u f) fs) (f ∷ kept after U.struck (after u f) fs) → Runs s u [] (f ∷ fs)
        go ih true h q = skip_right s u [] f fs fit a h (ih (right-after s u f fit a h) q)
        go ih false h q = no_cons f _ q

    -- the first run goes on with e, which is not struck: the second comes to it
    meet : (s : S) (e : E) (es rest : List E) → U.barred s e ≡ false → U.struck s e ≡ false
        → ((v : S) (gs : List E) → never after U.barred v gs ≡ true → U.Alike (after s e) v → rest ≡ kept after U.struck v gs → Runs (after s e) v es gs)
        → (u : S) (fs : List E) → never after U.barred u fs ≡ true → U.Alike s u → e ∷ rest ≡ kept after U.struck u fs → Runs s u (e ∷ es) fs
    meet s e es rest m h ih u [] n a k = no_cons e rest (sym k)
    meet s e es rest m h ih u (f ∷ fs) n a k = go (λ b l. meet s e es rest m h ih (after u f) fs (and_right (not (U.barred u f)) _ n) b l) (U.struck u f) refl k
      where
        fit : U.barred u f ≡ false
        fit = not-true (U.barred u f) (and_left (not (U.barred u f)) _ n)

        others : List E
        others = kept after U.struck (after u f) fs

        here : e ≡ f → U.struck u f ≡ false → rest ≡ others → Runs s u (e ∷ es) (f ∷ fs)
        here q g l =
            let g' : U.struck u e ≡ false = ap (U.struck u) q ∙ g in
            let m' : U.barred u e ≡ false = ap (U.barred u) q ∙ fit in
            let r = ih (after u e) fs (ap (λ (x : E). never after U.barred (after u x) fs) q ∙ and_right (not (U.barred u f)) _ n) (U.after_other s u e m m' a h g') (l ∙ ap (λ (x : E). kept after U.struck (after u x) fs) (sym q)) in
            rw (← q) (record { ends = r.ends; gives = ap₂ ◌++◌ (O.same s u e m m' a h g') r.gives })

        go : (U.Alike s (after u f) → e ∷ rest ≡ others → Runs s (after u f) (e ∷ es) fs) → (b : Bool) → U.struck u f ≡ b
            → e ∷ rest ≡ cond b others (f ∷ others) → Runs s u (e ∷ es) (f ∷ fs)
        go later true g q = skip_right s u (e ∷ es) f fs fit a g (later (right-after s u f fit a g) q)
        go later false g q = here (cc) g (cc)

    pub runs : (s u : S) (es fs : List E) → never after U.barred s es ≡ true → never after U.barred u fs ≡ true → U.Alike s u
        → kept after U.struck s es ≡ kept after U.struck u fs → Runs s u es fs
    runs s u [] fs m n a k = drain s u fs n a k
    runs s u (e ∷ es) fs m n a k = go (λ v gs. runs (after s e) v es gs (and_right (not (U.barred s e)) _ m)) (U.struck s e) refl k
      where
        fit : U.barred s e ≡ false
        fit = not-true (U.barred s e) (and_left (not (U.barred s e)) _ m)

        rest : List E
        rest = kept after U.struck (after s e) es

        go : ((v : S) (gs : List E) → never after U.barred v gs ≡ true → U.Alike (after s e) v → rest ≡ kept after U.struck v gs → Runs (after s e) v es gs)
            → (b : Bool) → U.struck s e ≡ b → cond b rest (e ∷ rest) ≡ kept after U.struck u fs → Runs s u (e ∷ es) fs
        go ih true h q = skip_left s u e es fs fit a h (ih u fs n (U.after_struck s u e fit a h) q)
        go ih false h q = meet s e es rest fit h ih u fs n a q

-- ---- Fewer events struck out. Runs that are the same but for these are the same but for all that may be struck out, where
-- states that look alike agree on which may

module _ {S E : Type 0} {after : S → E → S} (U : Unwinding after) (out : S → E → Bool)
    (among : (s : S) (e : E) → out s e ≡ true → U.struck s e ≡ true)
    (looks : (s u : S) (e : E) → U.Alike s u → U.struck s e ≡ U.struck u e) where
  -- an event that may be struck out, in both runs
  struck_both : (s u : S) (e : E) → U.barred s e ≡ false → U.barred u e ≡ false → U.Alike s u → U.struck s e ≡ true → U.Alike (after s e) (after u e)
  struck_both s u e m n a h = U.swap (after u e) (after s e)
      (U.after_struck u (after s e) e n (U.swap (after s e) u (U.after_struck s u e m a h)) (sym (looks s u e a) ∙ h))

  after_kept : (s u : S) (e : E) → U.barred s e ≡ false → U.barred u e ≡ false → U.Alike s u → out s e ≡ false → out u e ≡ false → U.Alike (after s e) (after u e)
  after_kept s u e m n a h g = go (U.struck s e) refl
    where
      go : (b : Bool) → U.struck s e ≡ b → U.Alike (after s e) (after u e)
      go true k = struck_both s u e m n a k
      go false k = U.after_other s u e m n a k (sym (looks s u e a) ∙ k)

  abbrev fewer : Unwinding after
  fewer = record {
    Alike = U.Alike;
    struck = out;
    barred = U.barred;
    swap = U.swap;
    after_struck = λ s u e m a h. U.after_struck s u e m a (among s e h);
    after_other = after_kept;
  }

  -- the event, unless it may be struck out: what a run gives so is what is kept of it
  abbrev unstruck : S → E → List E
  unstruck s e = cond (U.struck s e) [] (e ∷ [])

  is_kept : (s : S) (es : List E) → trace after unstruck s es ≡ kept after U.struck s es
  is_kept s [] = refl
  is_kept s (e ∷ es) = go (U.struck s e) (is_kept (after s e) es)
    where
      rest : List E
      rest = trace after unstruck (after s e) es

      go : (b : Bool) → rest ≡ kept after U.struck (after s e) es → cond b [] (e ∷ []) ++ rest ≡ cond b (kept after U.struck (after s e) es) (e ∷ kept after U.struck (after s e) es)
      go true q = q
      go false q = ap (λ (x : List E). e ∷ x) q

  unstruck_alike : Output fewer unstruck
  unstruck_alike = record {
    none = λ s u e m a h. rw (among s e h);
    same = λ s u e m n a h g. let q = looks s u e a in λ z. cond (q z) [] (e ∷ []);
  }

  pub kept_alike : (s u : S) (es fs : List E) → never after U.barred s es ≡ true → never after U.barred u fs ≡ true → U.Alike s u
      → kept after out s es ≡ kept after out u fs → kept after U.struck s es ≡ kept after U.struck u fs
  kept_alike s u es fs m n a k = sym (is_kept s es) ∙ (runs fewer unstruck unstruck_alike s u es fs m n a k).gives ∙ is_kept u fs
