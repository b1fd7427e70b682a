use mathlib.Core.Path.{sym, ◌∙◌}
use Rattle.text.proofs.Laws.{eq_is}
use Rattle.text.proofs.same.Goals as goal

-- `text::same` meets its contract. Assumes nothing.

pub returns : goal.returns
returns c = c.eq.ensures ∙ sym (eq_is _ _)
