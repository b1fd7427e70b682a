-- One check after another: a check that finds a line stops, one that finds none goes on.
-- Assumes nothing.
use mathlib.Core.Path.{◌≡◌, refl, ap}
use Prim.Native.Nat.{ℕ}
use Rattle.std.specs.Prelude.{Option, None, Some, Result, Ok, Err}
use Rattle.std.specs.Result.{IsErr, IsErrAnd}
use Rattle.rules.specs.declared.Refusal.{Refusal}
use Rattle.load.specs.declared.Fault.{Fault}
use Rattle.load.specs.Load.{Verdict, refuse_at}

module _ (r : Refusal) (l : Option ℕ) (v : Verdict) where
  pub goes_on : refuse_at r l (Ok tt) ≡ Ok tt → refuse_at r l v ≡ v
  unfolding refuse_at
  goes_on e = elim l as (λ (o : Option ℕ). refuse_at r o (Ok tt) ≡ Ok tt → refuse_at r o v ≡ v) [ None ↦ λ q. refl | Some n ↦ λ q. cc ] e

  pub stops : (f : Fault Refusal) → refuse_at r l (Ok tt) ≡ Err f → refuse_at r l v ≡ Err f
  unfolding refuse_at
  stops f e = elim l as (λ (o : Option ℕ). refuse_at r o (Ok tt) ≡ Err f → refuse_at r o v ≡ Err f) [ None ↦ λ q. cc | Some n ↦ λ q. q ] e

-- what `?` returns
pub err_is : {T : Type 0} (r : Result T (Fault Refusal)) (f : Fault Refusal) → IsErr r × IsErrAnd r (λ e. e ≡ f) → r ≡ Err f
err_is (Ok t) f h = absurd h.1
err_is (Err e) f h = ap Err h.1
