use mathlib.Core.Path.{ap, ap₂, ◌∙◌}
use mathlib.Core.List.{List}
use Prim.Native.Nat.{ℕ}
use native.Mathlib.Omega.{arith}
use lib.ListN.{length, take, length-take}
use Rattle.std.proofs.lemmas.List.{take_all}
use Rattle.callrows.specs.Calls.{show_buffer}
use Rattle.monitor.specs.declared.Table.{Table}
use Rattle.round.proofs.Calls.{played_from, performed_is}
use Rattle.round.proofs.performed.Goals as goal

-- `round::performed` meets its contract. Assumes nothing.

pub returns : goal.returns
unfolding show_buffer
returns g c =
    let m = g.M.Made.making in let a = c.args in let t = a.table.now in let r = c.play-answer.result in let b = c.play-answer.new.out in
    let s = c.front in
    let whole = take_all m.most (m.made r.entry s.result.now) (g.met.M.Made.short r.entry s.result.now (omega arith) (omega (arith, ap length s.ensures.0, length-take c.bytes_shown.result b))) in
    let l = c.line.ensures ∙ whole ∙ ap (m.made r.entry) s.ensures.0 ∙ ap (λ (n : ℕ). m.made r.entry (take n b)) c.bytes_shown.ensures in
    let p =
    ap₂ (played_from m a.call)
    (λ i. record { table = c.play-answer.ensures.table i; answer = c.play-answer.ensures.answer i })
    c.play-answer.ensures.out_after
    ∙ performed_is t m a.call _ in
    record {
      line = l ∙ ap (λ (x : List ℕ × Table). x.0) p;
      after = ap (λ (x : List ℕ × Table). x.1) p;
    }
