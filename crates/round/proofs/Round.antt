-- What is made of a text's calls is what the rules' run of them gives.
-- Assumes nothing.
use mathlib.Core.Path.{◌≡◌, refl, sym, ap, ap₂, subst, ◌∙◌}
use mathlib.Core.Bool.{Bool, true, false, cond, ◌&&◌}
use mathlib.Core.List.{List, [], ◌∷◌, ◌++◌, append-nil}
use Rattle.std.specs.Prelude.{Option, None, Some, Ok, Err, is_some}
use Rattle.std.specs.Option.{option_or, option_map}
use Prim.Native.Nat.{ℕ, zero, suc, ◌+◌, ◌*◌, ◌-◌, ◌≤◌, ◌<◌}
use native.Mathlib.Nat.{suc-mul}
use native.Mathlib.Omega.{arith}
use Rattle.std.proofs.Math.Nat.{le_of_eq}
use lib.Dec.{eqb, ltb}
use lib.ListN.{length, drop, length-take}
use borrow.Author.Tests.{eqb-true, ltb-true, ltb-false, lt-ltb, le-ltb}
use Rattle.rules.specs.Calls.{Call}
use Rattle.rules.specs.Refusals.{step}
use Rattle.rules.specs.Runs.{final, trace, gained, answer_to}
use Rattle.rules.proofs.Previews.{alone_ends, alone_gives}
use Rattle.rules.proofs.Facts.{either}
use Rattle.label.specs.Words.{words}
use Rattle.monitor.specs.declared.Table.{Table}
use Rattle.monitor.specs.Table.{hub}
use Rattle.text.specs.Bytes.{index_of}
use Rattle.text.specs.Lines.{Lines, lines_of, line_end, line_at, ahead, fields_in}
use Rattle.text.proofs.Laws.{line_ends, line_here, lines_end, next_whole, next_later}
use Rattle.callrows.specs.Calls.{CallSaid, call_in, call_of, as_call_row}
use Rattle.callrows.specs.declared.CallColumns.{CallColumns}
use Rattle.textblocks.specs.declared.Place.{Place}
use Rattle.textblocks.specs.Blocks.{calls_at, rows_at, row_good, rows_bad, block_bad, calls_bad, bad_line}
use Rattle.textblocks.specs.declared.Block.{Block}
use Rattle.rules.specs.declared.Refusal.{Refusal}
use Rattle.load.specs.declared.Fault.{Fault}
use Rattle.load.specs.Load.{Verdict, verdict_of, load_of}
use Rattle.textblocks.specs.CallsIn.{calls_from, call_columns_in, calls_of, call_at}
use Rattle.load.proofs.Accepted.{bad_none}
use Rattle.textblocks.proofs.Laws.{rows_cut, rows-bad, rows_step}
use Rattle.print.proofs.Laws.{line-most}
use Rattle.chunks.specs.Chunks.{Bounded, onto, chunk_from, chunk, ChunksAdvance}
use Rattle.chunks.proofs.Chunks.{goes_room, one_taken, none_taken, none_concat, no_piece, chunk_then, chunks_join, chunks_advance}
use Rattle.round.specs.Played.{Making, lines, entries, IsShort, made_of, played}
use Rattle.round.specs.Round.{first_at, call_pieces, answer_line, output_with, output_of, round_of, names_line, OutputRuns, OutputInChunks, RecordsRun}
use Rattle.round.proofs.Calls.{played_is, piece_most}

pub call_bounded : (text : List ℕ) (m : Making) → IsShort m → Bounded (call_pieces text m)
call_bounded text m short = record {
  fits = λ s. piece_most s.1 m short (call_at text (call_columns_in text) s.0);
  fewer = λ s e. let l = ltb-true s.0 (length text) e in omega (arith, next_later text s.0 l);
}

pub calls_advance : (text : List ℕ) (m : Making) → IsShort m → ChunksAdvance (call_pieces text m)
calls_advance text m short = chunks_advance (call_pieces text m) (call_bounded text m short)

-- ---- a row of calls takes at least six bytes

ahead_long : (b : ℕ) (fs : List (List ℕ)) → length (ahead b fs) ≡ length fs
unfolding ahead
ahead_long b [] = refl
ahead_long b (f ∷ fs) = refl

fields_few : (l : List ℕ) → length (fields_in l) ≤ length l + 1
unfolding fields_in
fields_few [] = omega arith
fields_few (b ∷ bs) = go (fields_few bs) (eqb b 32)
  where
    go : length (fields_in bs) ≤ length bs + 1 → (v : Bool) → length (cond v ([] ∷ fields_in bs) (ahead b (fields_in bs))) ≤ length (b ∷ bs) + 1
    go h true = omega arith
    go h false = omega (arith, ahead_long b (fields_in bs))

only_some : (v : Bool) (o : Option CallSaid) (c : CallSaid) → cond v o None ≡ Some c → v ≡ true
only_some true o c e = refl
only_some false o c e = cc

six_fields : (cs : CallColumns) (fs : List (List ℕ)) (c : CallSaid) → call_of cs fs ≡ Some c → length fs ≡ 6
unfolding call_of
six_fields cs fs c e = eqb-true (length fs) 6 (only_some (eqb (length fs) 6) _ c e)

row_long : (text : List ℕ) (at : ℕ) (cs : CallColumns) (c : CallSaid) → call_of cs (fields_in (line_at text at)) ≡ Some c → at + 5 ≤ line_end text at
unfolding line_end line_at
row_long text at cs c e =
    omega (arith, six_fields cs (fields_in (line_at text at)) c e, fields_few (line_at text at), length-take (index_of 10 (drop at text)) (drop at text))

-- ---- the rows of an accepted text

-- the columns of the calls
abbrev cols_of : List ℕ → CallColumns
cols_of text = call_columns_in text

-- whole rows from a place to the text's end, each a call
data Rows (text : List ℕ) : ℕ → Type 0 where
  end : {at : ℕ} → length text ≤ at → Rows text at
  row : {at : ℕ} (c : CallSaid) → at < length text → line_end text at < length text → call_of (cols_of text) (fields_in (line_at text at)) ≡ Some c
      → Rows text (line_end text at + 1) → Rows text at

good_some : (o : Option CallSaid) → is_some o ≡ true → (c : CallSaid) × (o ≡ Some c)
good_some None e = cc
good_some (Some c) e = (c, refl)

end_later : (text : List ℕ) (at : ℕ) → at ≤ line_end text at
unfolding line_end
end_later text at = omega arith

rows_are : (text : List ℕ) (k at n i : ℕ) → length text ≤ at + k → rows_bad (Block.Calls (cols_of text)) n i (lines_of (drop at text)) ≡ None → Rows text at
rows_are text zero at n i m b = end {at = at} (omega arith)
rows_are text (suc k) at n i m b =
    let B = Block.Calls (cols_of text) in
    either (ltb at (length text))
    (λ f. let l = ltb-true at (length text) f in
    either (ltb (line_end text at) (length text))
    (λ f. let w = ltb-true (line_end text at) (length text) f in
    let here = (line_here text at (line_end text at) refl (omega arith) w).is in
    either (row_good B i (line_at text at))
    (λ g. let s = good_some (call_of (cols_of text) (fields_in (line_at text at))) g in
    row s.0 l w s.1 (rows_are text k (line_end text at + 1) (n + 1) (i + 1) (omega (arith, end_later text at)) (sym (rows_step B n i here refl g) ∙ b)))
    (λ g. let q = sym (rows-bad B n i here refl g) ∙ b in cc))
    (λ f. let c = (line_ends text at (line_end text at) (omega arith) refl).last (ltb-false (line_end text at) (length text) f) l in
    let q = sym (rows_cut B n i c) ∙ b in
    cc))
    (λ f. end (ltb-false at (length text) f))

else_none : (a b : Option ℕ) → option_or a b ≡ None → b ≡ None
else_none None b e = e
else_none (Some n) b e = cc

rows_none : (b : Block) (named : Bool) (text : List ℕ) (p : Place) → block_bad b named text p ≡ None → rows_bad b (p.line + 1) 0 (rows_at text p) ≡ None
unfolding block_bad
rows_none b named text p e = go (ltb (line_end text p.at) (length text) && named) e
  where
    go : (t : Bool) → cond t (rows_bad b (p.line + 1) 0 (rows_at text p)) (Some p.line) ≡ None → rows_bad b (p.line + 1) 0 (rows_at text p) ≡ None
    go true q = q
    go false q = cc

only_accepted : (b : Bool) (f : Fault Refusal) (v : Verdict) → cond b (Err f) v ≡ Ok tt → b ≡ false
only_accepted true f v e = cc
only_accepted false f v e = refl

-- the rows of an accepted text, which is not too long
module _ (text : List ℕ) (e : verdict_of text ≡ Ok tt) where
  rows_of : Rows text (first_at text)
  unfolding bad_line calls_bad call_columns_in
  rows_of =
      let q = else_none _ _ (bad_none text e) in
      rows_are text (length text) (first_at text) ((calls_at text).line + 1) 0 (omega arith) (rows_none _ _ text (calls_at text) q)

  text_most : length text ≤ 65535
  unfolding verdict_of
  text_most = ltb-false 65535 (length text) (only_accepted (ltb 65535 (length text)) _ _ e)

-- ---- a buffer with room for all rows

-- what a run of calls gives, the table after it, and no line left
module _ (text : List ℕ) (m : Making) (short : IsShort m) where
  pub record Ran (t : Table) (cs : List (Call words)) (r : List ℕ × (ℕ × Table)) : Type 0 where
    pub bytes : r.0 ≡ trace (step hub) (made_of m) t cs
    pub table : r.1.1 ≡ final (step hub) t cs
    pub all : length text ≤ r.1.0

  none_ran : (k room at : ℕ) (t : Table) → length text ≤ at → Ran t (calls_from (cols_of text) (lines_of (drop at text))) (chunk_from (call_pieces text m) k room (at, t))
  unfolding calls_from
  none_ran k room at t h =
      subst (λ (ls : Lines). Ran t (calls_from (cols_of text) ls) (chunk_from (call_pieces text m) k room (at, t))) (sym (lines_end text at h))
      (subst (Ran t []) (sym (none_taken (call_pieces text m) k room (at, t) (no_piece (call_pieces text m) room (at, t) (le-ltb _ _ h)))) (record { bytes = refl; table = refl; all = h }))

  -- a row that is a call
  module _ (at : ℕ) (t : Table) (c : CallSaid) (w : line_end text at < length text) (e : call_of (cols_of text) (fields_in (line_at text at)) ≡ Some c) where
    call_is : call_at text (call_columns_in text) at ≡ Some (as_call_row c)
    unfolding call_at
    call_is = ap (option_map as_call_row) e

    played_here : played m t (call_at text (call_columns_in text) at) ≡ (made_of m t (call_in c), step hub t (call_in c))
    played_here = ap (played m t) call_is ∙ played_is t m c

    next_here : (call_pieces text m).next (at, t) ≡ (line_end text at + 1, step hub t (call_in c))
    next_here = let n = next_whole text at w in λ i. (n i, (played_here i).1)

    calls_here : at < length text → calls_from (cols_of text) (lines_of (drop at text)) ≡ call_in c ∷ calls_from (cols_of text) (lines_of (drop (line_end text at + 1) text))
    unfolding calls_from
    calls_here l = rw ((line_here text at (line_end text at) refl (omega arith) w).is, calls_from, e)

  one_ran : (t : Table) (c : Call words) (cs : List (Call words)) (x : List ℕ) (r : List ℕ × (ℕ × Table)) → x ≡ made_of m t c → Ran (step hub t c) cs r → Ran t (c ∷ cs) (onto x r)
  one_ran t c cs x r e q = record { bytes = ap₂ (λ (a b : List ℕ). a ++ b) e q.bytes; table = q.table; all = q.all }

  -- so many rows take six bytes of the text each
  rows_ran : {at : ℕ} → Rows text at → (k q room : ℕ) (t : Table) → length text ≤ at + k → length text ≤ at + 6 * q + 5 → q * m.most ≤ room
      → Ran t (calls_from (cols_of text) (lines_of (drop at text))) (chunk_from (call_pieces text m) k room (at, t))
  rows_ran {at} (end h) k q room t u f r = none_ran k room at t h
  rows_ran {at} (row c l w e rs) zero q room t u f r = absurd (omega arith)
  rows_ran {at} (row c l w e rs) (suc k) zero room t u f r = absurd (omega (arith, row_long text at (cols_of text) c e))
  rows_ran {at} (row c l w e rs) (suc k) (suc q) room t u f r =
      let P = call_pieces text m in
      let s = suc-mul q (m.most) in
      let d = row_long text at (cols_of text) c e in
      let z = (call_bounded text m short).fits (at, t) in
      let rest = rows_ran rs k q (room - length (P.piece (at, t))) (step hub t (call_in c)) (omega arith) (omega arith) (omega arith) in
      subst (λ (cs : List (Call words)). Ran t cs (chunk_from P (suc k) room (at, t))) (sym (calls_here at t c w e l))
      (subst (Ran t (call_in c ∷ calls_from (cols_of text) (lines_of (drop (line_end text at + 1) text))))
      (sym (one_taken P k room (at, t) (goes_room P room (at, t) (lt-ltb _ _ l) (omega arith))
      ∙ ap (λ (u : ℕ × Table). onto (P.piece (at, t)) (chunk_from P k (room - length (P.piece (at, t))) u)) (next_here at t c w e)))
      (one_ran t (call_in c) _ (P.piece (at, t)) _ (ap (λ (x : List ℕ × Table). x.0) (played_here at t c w e)) rest))

  calls_ran : (q room : ℕ) (t : Table) → verdict_of text ≡ Ok tt → length text ≤ 6 * q + 5 → q * m.most ≤ room
      → Ran t (calls_of text) (chunk (call_pieces text m) room (first_at text, t))
  unfolding calls_of
  calls_ran q room t e f r = rows_ran (rows_of text e) (length text - first_at text) q room t (omega arith) (omega arith) r

pub records_run : RecordsRun
records_run text room t e h =
    let r = calls_ran text entries (λ entry shown e h. le_of_eq e) 10922 room t e (omega (arith, text_most text e)) (omega arith) in
    (r.bytes ∙ sym (alone_gives hub (λ u e. gained e (answer_to hub u e).entry) t (calls_of text)), r.table ∙ sym (alone_ends hub t (calls_of text)), r.all)

-- all lines are one chunk of a buffer that is large enough
round-runs : (text : List ℕ) → verdict_of text ≡ Ok tt → round_of text ≡ trace (step hub) answer_line (load_of text).table (calls_of text)
round-runs text e =
    let P = call_pieces text lines in
    let s : ℕ × Table = (first_at text, (load_of text).table) in
    let c = chunk P (length text * 162) s in
    let r = calls_ran text lines line-most (length text) (length text * 162) (load_of text).table e (omega arith) (omega arith) in
    ap (λ (x : List ℕ × (ℕ × Table)). x.0)
    (chunk_then P (call_bounded text lines line-most) (P.left s) (length text * 162) s (omega arith) ∙ ap (onto c.0) (none_concat P (P.left c.1) c.1 (le-ltb _ _ r.all)))
    ∙ append-nil c.0 ∙ r.bytes

pub output_runs : OutputRuns
output_runs text = go (verdict_of text) refl
  where
    go : (v : Verdict) → verdict_of text ≡ v → output_of text ≡ output_with text (trace (step hub) answer_line (load_of text).table (calls_of text))
    go (Ok u) e = rw e (ap (λ (ls : List ℕ). names_line ++ ls) (round-runs text e))
    go (Err f) e = rw e refl

pub output_in_chunks : OutputInChunks
output_in_chunks text room h =
    ap (λ (r : List ℕ × (ℕ × Table)). output_with text r.0)
    (chunks_join (call_pieces text lines) (call_bounded text lines line-most) room (first_at text, (load_of text).table) h)
