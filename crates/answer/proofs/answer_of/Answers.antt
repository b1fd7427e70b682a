use mathlib.Core.Path.{◌≡◌, refl}
use mathlib.Core.Bool.{Bool, true, false, cond, ◌&&◌}
use Rattle.label.specs.declared.Label.{Label}
use Rattle.answer.specs.Answered.{answered_by}
use Rattle.answer.proofs.answer_of.Goals as goal

-- `answer::answer_of` meets its contract. Assumes nothing.

on_both : (a b : Bool) (x y : Label) → cond (a && b) x y ≡ cond a (cond b x y) y
on_both true b x y = refl
on_both false b x y = refl

pub returns : goal.returns
unfolding answered_by
returns g c =
    simp (c.record_of.ensures, c.moved_by.ensures, c.number_of.ensures, c.choose-need.ensures, c.empty.ensures, c.need_by-all.ensures, c.choose-is.ensures, c.is_ok.ensures.value, c.fields_of-f.ensures, on_both)
