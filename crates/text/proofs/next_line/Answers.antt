use mathlib.Core.Path.{sym}
use Prim.Native.Nat.{◌<◌, ◌≤◌}
use lib.ListN.{length}
use Rattle.text.specs.Lines.{line_end}
use Rattle.text.proofs.Laws.{next_whole, next_none}
use Rattle.text.proofs.next_line.Goals as goal

-- `text::next_line` meets its contract. Assumes nothing.

pub returns-then-end-text : goal.returns-then-end-text
returns-then-end-text c =
    let e = c.line_end-end.ensures in let h : line_end c.args.text.now c.args.at < length c.args.text.now = rw e at c.if-end-text.true in
    rw e (sym (next_whole _ _ h))

pub returns : goal.returns
returns c =
    let e = c.line_end-end.ensures in let h : length c.args.text.now ≤ line_end c.args.text.now c.args.at = rw e at c.if-end-text.false in
    rw e (sym (next_none _ _ h))
