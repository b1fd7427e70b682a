use Rattle.std.proofs.Common.{◌≡◌, refl, sym, ap, ap₂, ◌∙◌, ◌&&◌, false, true, Bool}
use mathlib.Core.Logic.{inl, inr, ⊎_elim}
use Rattle.std.specs.List.{list_all}
use Rattle.label.specs.Tags.{group_formed}
use Rattle.groups.specs.Groups.{with_numbers}
use Rattle.groups.proofs.Numbers.{with_take, with_none}
use Rattle.groups.proofs.are_formed.Goals as goal
use Rattle.groups.proofs.are_formed.Goals.{In-Some}

pub loop-set-init : goal.loop-set-init
loop-set-init c =
    rw (c.into_iter-set-iterator.ensures.into_iter_gives, c.zip-set-items.ensures.first, c.zip-set-items.ensures.second.0, c.iter.ensures.rest, c.front.ensures.0, with_take c.args.count c.args.groups.now c.args.most.now) refl

-- a group that was taken, and those behind it
module _ (c : In-Some) (b : Bool) (e : b ≡ group_formed (record { tags = c.in-Some.set.now; most = c.in-Some.number.now })) where
  taken : list_all group_formed (with_numbers c.loop-set.set-iterator.a.rest.now c.loop-set.set-iterator.b.rest.now)
      ≡ b && list_all group_formed (with_numbers c.next.new.self.a.rest.now c.next.new.self.b.rest.now)
  taken = let s = c.in-Some.ensures.steps in ap (list_all group_formed) (ap₂ with_numbers s.0 s.1) ∙ rw e refl

pub returns-then-not-group_formed : goal.returns-then-not-group_formed
returns-then-not-group_formed c =
    let k = (goal.at.returns-then-not-group_formed c).In-Some in
    sym (taken k false (sym c.if-not-group_formed.true ∙ c.group_formed.ensures)) ∙ c.loop-set.invariant

pub loop-set-preserved : goal.loop-set-preserved
loop-set-preserved c =
    let k = (goal.at.loop-set-preserved c).In-Some in
    sym (taken k true (sym c.if-not-group_formed.false ∙ c.group_formed.ensures)) ∙ c.loop-set.invariant

pub returns : goal.returns
returns c =
    let l = c.loop-set in
    sym (ap (list_all group_formed) (with_none l.set-iterator.a.rest.now l.set-iterator.b.rest.now (⊎_elim (λ a. inl a.1.0) (λ b. inr b.1.0) c.in-None.ensures.steps))) ∙ l.invariant
