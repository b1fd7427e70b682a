use Rattle.std.proofs.Common.{◌≡◌, refl, sym, ap₂, ◌∙◌, ◌∷◌, false, true, arith, take, List}
use mathlib.Core.Logic.{inl, inr, ⊎_elim}
use lib.ListN.{length-take}
use Rattle.label.specs.declared.Group.{Group}
use Rattle.label.specs.Words.{words}
use Rattle.groups.specs.Check.{counted}
use Rattle.groups.specs.Groups.{with_numbers}
use Rattle.groups.proofs.Numbers.{with_take, with_none}
use Rattle.groups.proofs.check.Goals as goal
use Rattle.groups.proofs.check.Goals.{In-Some}

pub loop-tags-init : goal.loop-tags-init
loop-tags-init c =
    let z = c.into_iter-tags-iterator.ensures.into_iter_gives in
    let e : with_numbers c.into_iter-tags-iterator.result.a.rest.now c.into_iter-tags-iterator.result.b.rest.now ≡ take c.args.count (with_numbers c.args.groups.now c.args.most.now) =
    rw (z, c.zip-tags-items.ensures.first, c.zip-tags-items.ensures.second.0, c.iter.ensures.rest, c.front.ensures.0) (sym (with_take c.args.count c.args.groups.now c.args.most.now)) in
    rw e (record { passed = omega arith; kept = refl; count = omega arith })

-- a group that was taken, and those behind it
module _ (c : In-Some) where
  abbrev group : Group
  group = record { tags = c.in-Some.tags.now; most = c.in-Some.number.now }

  abbrev behind : List Group
  behind = with_numbers c.next.new.self.a.rest.now c.next.new.self.b.rest.now

  taken : with_numbers c.loop-tags.tags-iterator.a.rest.now c.loop-tags.tags-iterator.b.rest.now ≡ group ∷ behind
  taken = let s = c.in-Some.ensures.steps in ap₂ with_numbers s.0 s.1

-- the groups passed are fewer than `count`
pub overflow_add-counted : goal.overflow_add-counted
overflow_add-counted c =
    let n = length-take c.args.count (with_numbers c.args.groups.now c.args.most.now) in
    let p = rw (taken c) at c.loop-tags.invariant.passed in
    grind (arith, c.ranges.count.fits, p, n)

pub returns-then-not-keeps : goal.returns-then-not-keeps
returns-then-not-keeps c =
    let k = (goal.at.returns-then-not-keeps c).In-Some in
    let l = c.loop-tags in
    let b : words.keeps (group k) c.args.held ≡ false = sym c.keeps.ensures ∙ c.if-not-keeps.true in
    let v = rw (taken k, b) at l.invariant.kept in
    let n = rw (taken k, b) at l.invariant.count in
    λ i. record { keeps = v i; counted = n i }

pub loop-tags-preserved : goal.loop-tags-preserved
loop-tags-preserved c =
    let k = (goal.at.loop-tags-preserved c).In-Some in
    let l = c.loop-tags in
    let b : words.keeps (group k) c.args.held ≡ true = sym c.keeps.ensures ∙ c.if-not-keeps.false in
    let p = rw (taken k) at l.invariant.passed in
    let v = rw (taken k, b) at l.invariant.kept in
    let n = rw (taken k, b) at l.invariant.count in
    record { passed = omega (arith, p); kept = v; count = omega (arith, n) }

pub returns : goal.returns
returns c =
    let l = c.loop-tags in
    let z = with_none l.tags-iterator.a.rest.now l.tags-iterator.b.rest.now (⊎_elim (λ a. inl a.1.0) (λ b. inr b.1.0) c.in-None.ensures.steps) in
    let v = rw z at l.invariant.kept in
    let n = rw z at l.invariant.count in
    let m : l.counted ≡ counted words (take c.args.count (with_numbers c.args.groups.now c.args.most.now)) c.args.held = omega (arith, n) in
    λ i. record { keeps = v i; counted = m i }
