use Rattle.std.proofs.Common.{◌≡◌, ap, sym, ◌∙◌, List, ℕ, ◌+◌, ◌-◌, length, arith}
use borrow.Rule.Slice.PartMut.{put_mid}
use Rattle.chunks.proofs.Chunks.{put_at, has_room}
use Rattle.chunks.proofs.append.Goals as goal

pub returns-clause-after : goal.returns-clause-after
returns-clause-after c =
    let a = c.args in let e = c.in_ok-end.end in let line = a.line.now in
    let k : e ≡ a.n + length line = c.in_ok-end.ensures.1 in
    ap (λ (l : List ℕ). put_mid a.n (e - a.n) a.out.now l) c.copy_from_slice.ensures.after ∙ put_at line a.out.now a.n e k c.if-end-out.false ∙ sym (has_room line a.out.now a.n (omega (arith, k))).0
