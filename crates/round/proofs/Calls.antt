-- What is played for a row is what the rules say of its call.
-- Assumes nothing.
use mathlib.Core.Path.{◌≡◌, refl, ap, ◌∙◌}
use mathlib.Core.List.{List}
use Rattle.std.specs.Prelude.{Option, None, Some}
use Prim.Native.Nat.{ℕ, ◌≤◌}
use native.Mathlib.Omega.{arith}
use lib.ListN.{length, get_or, take, length-replicate}
use lib.Seq.{take-append_seam}
use Rattle.rules.specs.declared.Call.{Call as Named}
use Rattle.rules.specs.declared.Call.TheVariants.{Put, Show, Send, Fetch, Add, Drop, Create, Release, Hand}
use Rattle.rules.specs.Calls.{lent}
use Rattle.rules.specs.Refusals.{step}
use Rattle.rules.specs.Record.{answer}
use Rattle.rules.proofs.Records.{entry_length}
use Rattle.rules.proofs.Refused.{parts_fit}
use Rattle.label.specs.Calls.{call_with}
use Rattle.label.proofs.Words.{words_order}
use Rattle.monitor.specs.declared.Table.{Table}
use Rattle.monitor.specs.declared.Reply.{Reply}
use Rattle.monitor.specs.Table.{hub}
use Rattle.monitor.specs.Calls.{reply, buffer_after}
use Rattle.callrows.specs.Calls.{show_buffer, CallSaid, call_in, as_call_row}
use Rattle.callrows.specs.declared.CallRow.{CallRow}
use Rattle.round.specs.Played.{Making, IsShort, bytes_shown, made_of, performed, played}

-- ---- what the code makes of a reply and of the buffer

abbrev pub played_from : Making → Named → Reply → List ℕ → List ℕ × Table
played_from m c r buffer = (m.made r.answer.entry (take (bytes_shown c (get_or r.answer.entry 4 0)) buffer), r.table)

module _ (t : Table) where
  -- the record's byte 4 is the number of bytes shown, in a show
  len_is : (c : Named) (bytes : List ℕ) → bytes_shown c (get_or (answer hub t (call_with c bytes show_buffer)).entry 4 0) ≡ length (answer hub t (call_with c bytes show_buffer)).part
  len_is (Put i) bytes = refl
  len_is (Show i) bytes = refl
  len_is (Send i j) bytes = refl
  len_is (Fetch i j) bytes = refl
  len_is (Add i n p) bytes = refl
  len_is (Drop i n p) bytes = refl
  len_is (Create i j n) bytes = refl
  len_is (Release i j) bytes = refl
  len_is (Hand i j n p) bytes = refl

  pub performed_is : (m : Making) (c : Named) (bytes : List ℕ) → played_from m c (reply t (call_with c bytes show_buffer)) (buffer_after t c bytes show_buffer) ≡ performed m t c bytes
  unfolding performed reply buffer_after
  performed_is m c bytes =
      let k = call_with c bytes show_buffer in
      let a = answer hub t k in
      let e = ap (λ (n : ℕ). take n (buffer_after t c bytes show_buffer)) (len_is c bytes) ∙ take-append_seam a.part _ in
      λ z. (m.made a.entry (e z), step hub t k)

  -- ---- the call of a line

  pub played_is : (m : Making) (q : CallSaid) → played m t (Some (as_call_row q)) ≡ (made_of m t (call_in q), step hub t (call_in q))
  unfolding performed
  played_is m q = refl

-- ---- how long a piece is

lent-most : (c : Named) (bytes : List ℕ) → length (lent (call_with c bytes show_buffer)) ≤ 64
unfolding show_buffer
lent-most (Put i) bytes = omega arith
lent-most (Show i) bytes = omega (arith, length-replicate {A = ℕ} 64 0)
lent-most (Send i j) bytes = omega arith
lent-most (Fetch i j) bytes = omega arith
lent-most (Add i n p) bytes = omega arith
lent-most (Drop i n p) bytes = omega arith
lent-most (Create i j n) bytes = omega arith
lent-most (Release i j) bytes = omega arith
lent-most (Hand i j n p) bytes = omega arith

module _ (t : Table) (m : Making) (s : IsShort m) where
  performed-most : (c : Named) (bytes : List ℕ) → length (performed m t c bytes).0 ≤ m.most
  unfolding performed
  performed-most c bytes =
      let k = call_with c bytes show_buffer in
      let a = answer hub t k in
      s a.entry a.part (entry_length words_order hub t k) (omega (arith, (parts_fit hub).call_part t k, lent-most c bytes))

  pub piece_most : (row : Option CallRow) → length (played m t row).0 ≤ m.most
  piece_most None = omega arith
  piece_most (Some row) = performed-most row.call row.put.items
