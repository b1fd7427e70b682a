use Rattle.std.proofs.Common.{◌≡◌, ◌∙◌, ap, sym, length, arith, length-take-le}
use Rattle.tally.specs.Claims.{IsWhole}
use Rattle.tally.proofs.Pieces.{whole}
use Rattle.page.proofs.Input.{left_more}
use Rattle.page.proofs.tally_input.Goals as goal

pub loop-preserved : goal.loop-preserved
loop-preserved g c =
    let s = c.in_ok-n.ensures in let bs = c.front.result.now in
    let size : length c.fill.new.buf ≡ 65536 = c.fill.auto.buf ∙ c.loop.invariant.size in
    let w : length bs ≡ 65536 = omega (arith, ap length c.front.ensures.0, length-take-le c.in_ok-n.n c.fill.new.buf s.within, s.within) in
    record {
      size = size;
      left = left_more _ _ _ c.loop.tally c.in-Ok.more c.loop.counter bs c.loop.invariant.left (rw c.front.ensures.0 s.bytes) w (sym c.with_records-tallied.ensures ∙ c.in-Ok.is);
    }

pub returns-in_default : goal.returns-in_default
returns-in_default g c =
    let s = c.in_ok-n.ensures in let bs = c.front.result.now in
    let size : length c.fill.new.buf ≡ 65536 = c.fill.auto.buf ∙ c.loop.invariant.size in
    let w : IsWhole bs = omega (arith, ap length c.front.ensures.0, length-take-le c.in_ok-n.n c.fill.new.buf s.within, s.within) in
    absurd (c.in_default.not-Ok _ (c.with_records-tallied.ensures ∙ whole c.loop.tally bs w))
