use Rattle.std.proofs.Common.{◌≡◌, refl, ap, sym, ◌∙◌, List, ℕ, ◌+◌, ◌<◌, ◌≤◌, ◌++◌, take, drop, length, arith, rules, le-leb, length-append, length-drop, length-take}
use Rattle.std.proofs.lemmas.Bool.{lt-leb}
use Rattle.std.proofs.lemmas.List.{take_at, drop_at, take_all, drop-drop, drop_min, take_rest}
use Rattle.std.specs.Slice.Iter.{chunks_exact_rest}
use Rattle.std.proofs.Math.Seq.{sets}
use Rattle.print.specs.Lines.{record_line}
use Rattle.records.specs.Record.{record_at}
use Rattle.chunks.proofs.Lists.{line-length}
use Rattle.chunks.proofs.Chunks.{filling_start, filling_more, filling_done, filling_full, appended_some, appended_none}
use Rattle.chunks.proofs.record_lines.Goals as goal

pub loop-record-init : goal.loop-record-init
loop-record-init c = record {
  can = search rules;
  finite = search rules;
  size = search rules;
  rest = ap chunks_exact_rest c.into_iter-record-iterator.ensures.into_iter_gives ∙ c.chunks_exact-record-items.ensures.rest
      ∙ take_rest c.args.list.now c.min.result ∙ ap (λ (k : ℕ). drop k c.args.list.now) c.min.ensures ∙ drop_min c.args.from c.args.list.now;
  filling = filling_start _ _ _ _;
}

pub loop-record-preserved : goal.loop-record-preserved
loop-record-preserved c =
    let l = c.loop-record in let list = c.args.list.now in let x = c.in-Some.record.now in let rest = chunks_exact_rest c.next.new.self in
    let step : drop l.at list ≡ x ++ rest = sym l.invariant.rest ∙ c.in-Some.ensures.steps.1.0 in
    let size : length x ≡ 16 = c.in-Some.ensures.steps.1.1 ∙ l.invariant.size in
    let whole : l.at + 16 ≤ length list = omega (arith, ap length step, length-drop l.at list, length-append x rest) in
    let this : record_at list l.at ≡ x = ap (take 16) step ∙ take_at x rest 16 size in
    let shown = c.deref.result.now in
    let line : shown ≡ record_line (record_at list l.at) = c.deref.ensures.0 ∙ c.record_line.ensures ∙ ap record_line (take_all 16 x (omega arith) ∙ sym this) in
    let most : length shown ≡ 33 = omega (arith, ap length line, line-length (record_at list l.at), ap length this) in
    let a = appended_some shown l.out l.len c.in-Some-append.end c.in-Some-append.ensures.value in
    let put = c.append.ensures.after ∙ a.after in
    record {
      can = search rules;
      finite = search rules;
      size = c.in-Some.ensures.steps.0 ∙ l.invariant.size;
      rest = sym (ap (drop 16) step ∙ drop_at x rest 16 size) ∙ drop-drop 16 l.at list;
      filling = filling_more l.invariant.filling (le-leb _ _ whole) (omega (arith, a.room)) (put ∙ ap (sets l.out l.len) line) (a.end ∙ ap (λ (y : List ℕ). l.len + length y) line) refl;
    }

pub returns-in-None : goal.returns-in-None
returns-in-None c =
    let l = c.loop-record in let list = c.args.list.now in let s = c.in-None.ensures.steps in
    let short : length list < l.at + 16 = omega (arith, s.1.0, l.invariant.size, ap length l.invariant.rest, length-drop l.at list) in
    let e = filling_done l.invariant.filling (lt-leb _ _ short) in
    record {
      value = (λ i. record { at = sym e.state i; len = e.len i });
      out_after = e.held;
    }

pub returns-in_default : goal.returns-in_default
returns-in_default c =
    let l = c.loop-record in let x = c.in-Some.record.now in let shown = c.deref.result.now in
    let size : length x ≡ 16 = c.in-Some.ensures.steps.1.1 ∙ l.invariant.size in
    let line : shown ≡ record_line (take 16 x) = c.deref.ensures.0 ∙ c.record_line.ensures in
    let a = appended_none shown l.out l.len c.in_default.ensures.value in
    let e = filling_full l.invariant.filling (omega (arith, a.0, ap length line, line-length (take 16 x), length-take 16 x)) in
    record {
      value = (λ i. record { at = sym e.state i; len = e.len i });
      out_after = c.append.ensures.after ∙ a.1 ∙ e.held;
    }
