use Rattle.std.proofs.Common.{◌≤◌, ◌+◌, ◌∙◌, ◌++◌, ap, List, ℕ, length, arith, length-take-le}
use Rattle.bounded.specs.ByteVec.{ByteVec}
use Rattle.bounded.proofs.Room.{room-length, room-front, room-padded}
use Rattle.bounded.proofs.ByteVec.try_extend_from_slice.Goals as goal

pub invariant_of-self : goal.invariant_of-self
invariant_of-self g c =
    let v = c.self.inside in let i = c.self.invariant in let ys = c.copy_from_slice in
    let front = length-take-le v.len v.bytes (omega (arith, i.0, i.1)) in
    let fits : v.len + length c.args.src.now ≤ g.row.N = omega (arith, front, ap (λ (v : ByteVec). length v.items) c.self.view_is, c.if-remaining_capacity-src.false, c.remaining_capacity.ensures) in (
      fits,
      room-length g.row.N v.len v.bytes c.args.src.now fits i.1 i.2 ys.new.self ys.ensures.after,
      room-padded g.row.N v.len v.bytes c.args.src.now fits i.1 i.2 ys.new.self ys.ensures.after,
    )

pub returns-clause-items : goal.returns-clause-items
returns-clause-items g c =
    let v = c.self.inside in let i = c.self.invariant in let ys = c.copy_from_slice in
    let front = length-take-le v.len v.bytes (omega (arith, i.0, i.1)) in
    let fits : v.len + length c.args.src.now ≤ g.row.N = omega (arith, front, ap (λ (v : ByteVec). length v.items) c.self.view_is, c.if-remaining_capacity-src.false, c.remaining_capacity.ensures) in
    room-front g.row.N v.len v.bytes c.args.src.now fits i.1 i.2 ys.new.self ys.ensures.after
    ∙ ap (λ (x : List ℕ). x ++ c.args.src.now) (ap (λ v. v.items) c.self.view_is)
