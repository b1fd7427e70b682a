use Rattle.std.proofs.Common.{ℕ, ◌<◌, ap, refl, length, arith, List}
use Rattle.text.specs.Lines.{line_end}
use Rattle.text.proofs.Laws.{line_ends, line-part}
use Rattle.textblocks.proofs.RestIterator.next.Goals as goal

-- `textblocks::Rest::next` meets its contract. Assumes nothing.

pub invariant_of-self : goal.invariant_of-self
invariant_of-self c =
    let s = c.args.self.now in let e = line_ends s.text.now s.place.at c.line_end-end.result s.inside.0 c.line_end-end.ensures in
    record { inside = (omega arith, omega (arith, s.inside.1, e.low)) }

pub slice_bounds-result-count : goal.slice_bounds-result-count
slice_bounds-result-count c =
    let s = c.args.self.now in let e = line_ends s.text.now s.place.at c.line_end-end.result s.inside.0 c.line_end-end.ensures in e.low

pub slice_bounds-result-start : goal.slice_bounds-result-start
slice_bounds-result-start c =
    let s = c.args.self.now in let e = line_ends s.text.now s.place.at c.line_end-end.result s.inside.0 c.line_end-end.ensures in omega arith

pub returns-clause-steps : goal.returns-clause-steps
returns-clause-steps c =
    let s = c.args.self.now in let q = c.line_end-end.ensures in
    let h : line_end s.text.now s.place.at < length s.text.now = rw q at c.if-self-end.false in
    (refl, (h, ap (λ (l : List ℕ). (s.place.line, l)) (line-part s.text.now s.place.at c.line_end-end.result q), rw q))

pub returns-clause-goes : goal.returns-clause-goes
returns-clause-goes c =
    let s = c.args.self.now in let e = line_ends s.text.now s.place.at c.line_end-end.result s.inside.0 c.line_end-end.ensures in
    record { on = λ u. (tt, tt, omega arith); keeps = tt; rests = λ u. tt }
