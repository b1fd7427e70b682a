use mathlib.Core.Path.{◌≡◌, sym, ap, ap₂, ◌∙◌}
use mathlib.Core.List.{List}
use Prim.Native.Nat.{ℕ, ◌+◌, ◌≤◌}
use native.Mathlib.Omega.{arith}
use lib.ListN.{length}
use lib.Seq.{sets}
use borrow.Author.Tests.{lt-ltb, le-ltb}
use Rattle.std.specs.Prelude.{Option, Some}
use Rattle.std.specs.Option.{option_map}
use borrow.Author.Rules.{rules}
use Rattle.monitor.specs.declared.Table.{Table}
use Rattle.text.specs.Lines.{fields_in, line_at}
use Rattle.text.proofs.Laws.{next_later}
use Rattle.callrows.specs.declared.CallColumns.{CallColumns}
use Rattle.callrows.specs.declared.CallRow.{CallRow}
use Rattle.callrows.specs.Calls.{call_of, as_call_row}
use Rattle.textblocks.specs.CallsIn.{call_columns_in, call_at}
use Rattle.chunks.proofs.Chunks.{filling_length, filling_more, filling_done, filling_full, has_room}
use Rattle.round.specs.Played.{Making, IsShort, played}
use Rattle.round.specs.Round.{call_pieces}
use Rattle.round.proofs.Round.{call_bounded}
use Rattle.round.proofs.play_calls.Goals as goal

-- the row at a place
row_is : (x : List ℕ) (at : ℕ) (cs : CallColumns) (line : List ℕ) (row : Option CallRow)
    → cs ≡ call_columns_in x → line ≡ line_at x at → row ≡ option_map as_call_row (call_of cs (fields_in line)) → row ≡ call_at x (call_columns_in x) at
unfolding call_at
row_is x at cs line row a b e = e ∙ ap₂ (λ (c : CallColumns) (l : List ℕ). option_map as_call_row (call_of c (fields_in l))) a b

-- it has room where the longest has
room_for : (m : Making) (short : IsShort m) (x : List ℕ) (at : ℕ) (t : Table) (line : List ℕ) (n len : ℕ)
    → line ≡ (call_pieces x m).piece (at, t) → n + m.most ≤ len → n + length line ≤ len
room_for m short x at t line n len e h = omega (arith, ap length e, (call_bounded x m short).fits (at, t))

pub unwrap-len-requires : goal.unwrap-len-requires
unwrap-len-requires g c =
    let m = g.M.Made.making in let l = c.loop-at in let x = c.args.text.now in let line = c.deref.result.now in
    let p = row_is x l.at _ _ _ c.call_columns_in-columns.ensures c.line_at.ensures c.call_row-row.ensures in
    let is = c.deref.ensures.0 ∙ c.play-line.ensures.line ∙ ap (λ (r : Option CallRow). (played m l.table r).0) p in
    let most : l.len + m.most ≤ length l.out = omega (arith, l.invariant.fits, filling_length l.invariant, c.most.ensures, c.if-most-out.true) in
    let e = c.append.ensures.value ∙ (has_room line l.out l.len (room_for m g.met.M.Made.short x l.at l.table line l.len (length l.out) is most)).1 in
    search rules

pub loop-at-smaller : goal.loop-at-smaller
loop-at-smaller g c = omega (arith, c.loop-at-test.true, c.next_line-at.ensures, next_later c.args.text.now c.loop-at.at c.loop-at-test.true)

pub loop-at-preserved : goal.loop-at-preserved
loop-at-preserved g c =
    let m = g.M.Made.making in let l = c.loop-at in let x = c.args.text.now in let line = c.deref.result.now in
    let p = row_is x l.at _ _ _ c.call_columns_in-columns.ensures c.line_at.ensures c.call_row-row.ensures in
    let is = c.deref.ensures.0 ∙ c.play-line.ensures.line ∙ ap (λ (r : Option CallRow). (played m l.table r).0) p in
    let most : l.len + m.most ≤ length l.out = omega (arith, l.invariant.fits, filling_length l.invariant, c.most.ensures, c.if-most-out.true) in
    let w = has_room line l.out l.len (room_for m g.met.M.Made.short x l.at l.table line l.len (length l.out) is most) in
    let some : ◌≡◌ {A = Option ℕ} (Some c.unwrap-len.result) (Some (l.len + length line)) = sym c.unwrap-len.ensures ∙ c.append.ensures.value ∙ w.1 in
    let end : c.unwrap-len.result ≡ l.len + length line = cc in
    filling_more l.invariant (lt-ltb _ _ c.loop-at-test.true) most (c.append.ensures.after ∙ w.0 ∙ ap (sets l.out l.len) is) (end ∙ ap (λ (y : List ℕ). l.len + length y) is) (λ j. (c.next_line-at.ensures j, (c.play-line.ensures.after ∙ ap (λ (r : Option CallRow). (played m l.table r).1) p) j))

pub returns-else-most-out : goal.returns-else-most-out
returns-else-most-out g c =
    let l = c.loop-at in let e = filling_full l.invariant (omega (arith, c.if-most-out.false, c.most.ensures)) in
    record {
      value = (λ i. record { at = (sym e.state i).0; len = e.len i });
      table_after = (λ i. (sym e.state i).1);
      out_after = e.held;
    }

pub returns-after-loop-at : goal.returns-after-loop-at
returns-after-loop-at g c =
    let e = filling_done c.loop-at.invariant (le-ltb _ _ c.loop-at-test.false) in
    record {
      value = (λ i. record { at = (sym e.state i).0; len = e.len i });
      table_after = (λ i. (sym e.state i).1);
      out_after = e.held;
    }
