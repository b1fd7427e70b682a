-- What records add to the numbers of a tally.
-- Assumes nothing.
use Rattle.std.proofs.Common.{◌≡◌, ◌⊎◌, inl, inr, refl, sym, ap, ◌∙◌, ℕ, zero, suc, ◌+◌, ◌-◌, ◌/◌, ◌%◌, ◌^◌, ◌<◌, ◌≤◌, Bool, true, false, cond, ◌&&◌, eqb, ltb, List, [], ◌∷◌, length, drop, min, arith, Ok, Err}
use Rattle.std.specs.Prelude.{slice_index}
use Rattle.std.specs.List.{sum, sum_by, filter}
use Rattle.std.proofs.lemmas.Bool.{cases_Bool, cases_eq, cases_lt, ltb-true, ltb-false, lt-ltb, le-ltb, eq-eqb, ne_eqb}
use Rattle.std.proofs.lemmas.List.{length-set, length-replicate, get_or-set_same, get_or-set_other, get_or-replicate}
use Rattle.std.proofs.lemmas.List.Sums.{sum_by-cons, sum_by-set, length-filter}
use native.Mathlib.Nat.{mod-add-mod, mod-lt, mod-eq_of_lt}
use Rattle.rules.specs.declared.Refusal.TheVariants.{ListNotWhole}
use Rattle.rules.specs.Record.{record_size, records_in}
use Rattle.label.specs.Words.{words}
use Rattle.tally.specs.declared.Row.{Row}
use Rattle.tally.specs.declared.Tally.{Tally}
use Rattle.tally.specs.Tally.{caller_in, number_in, moved_in, row_of, count_of, row_with, no_row, row_at, no_records, counted, counted_all, records_of, with_records, tally_of}
use Rattle.tally.specs.Claims.{count_at, in_row, in_count, Cells, CellsCount, CountsTogether}

abbrev M : ℕ
M = 2 ^ 64

-- as many rows, and counts in each, as a tally has
record Shaped (t : Tally) : Type 0 where
  rows : length t.rows ≡ 33
  counts : (i : ℕ) → i < 33 → length (row_at t i).counts ≡ 19

module _ (t : Tally) (r : List ℕ) (h : Shaped t) where
  -- the record's row, and another
  same_row : row_at (counted t r) (row_of r) ≡ row_with (row_at t (row_of r)) r
  same_row = get_or-set_same t.rows (row_of r) (row_with (row_at t (row_of r)) r) no_row (omega (arith, h.rows))

  other_row : (i : ℕ) → (i ≡ row_of r → ⊥) → row_at (counted t r) i ≡ row_at t i
  other_row i n = get_or-set_other t.rows (row_of r) i (row_with (row_at t (row_of r)) r) no_row n

  counted_shaped : Shaped (counted t r)
  counted_shaped = record {
    rows = length-set t.rows (row_of r) (row_with (row_at t (row_of r)) r) ∙ h.rows;
    counts = λ i l. go i l (cases_eq i (row_of r));
  }
    where
      go : (i : ℕ) → i < 33 → (i ≡ row_of r) ⊎ (i ≡ row_of r → ⊥) → length (row_at (counted t r) i).counts ≡ 19
      go i l (inl e) = rw (e, same_row) (length-set _ _ _ ∙ h.counts (row_of r) (omega arith))
      go i l (inr n) = rw (other_row i n) (h.counts i l)

-- A number of a tally to which each record adds its share adds up the shares of all. A record's share is nothing where it does not belong
module _ (f : Tally → ℕ) (belongs : List ℕ → Bool) (share : List ℕ → ℕ) where
  abbrev shares : List (List ℕ) → ℕ
  shares rs = sum_by share (filter belongs rs)

  module _ (step : (t : Tally) (r : List ℕ) → Shaped t → f (counted t r) % M ≡ (f t + cond (belongs r) (share r) 0) % M) where
    adds : (t : Tally) (rs : List (List ℕ)) → Shaped t → f (counted_all t rs) % M ≡ (f t + shares rs) % M
    unfolding counted_all
    adds t [] h = ap (λ (n : ℕ). n % M) (omega arith)
    adds t (r ∷ rs) h =
        adds (counted t r) rs (counted_shaped t r h)
        ∙ sym (mod-add-mod (f (counted t r)) M (shares rs))
        ∙ ap (λ (n : ℕ). (n + shares rs) % M) (step t r h)
        ∙ mod-add-mod (f t + cond (belongs r) (share r) 0) M (shares rs)
        ∙ ap (λ (n : ℕ). n % M) (go (belongs r))
      where
        go : (b : Bool) → f t + cond b (share r) 0 + shares rs ≡ f t + sum_by share (cond b (r ∷ filter belongs rs) (filter belongs rs))
        go true = omega (arith, sum_by-cons share r (filter belongs rs))
        go false = omega arith

  -- where that number stays below 2 to the 64
  module _ (step : (t : Tally) (r : List ℕ) → Shaped t → f (counted t r) ≡ cond (belongs r) ((f t + share r) % M) (f t)) where
    within : (t : Tally) (rs : List (List ℕ)) → Shaped t → f t < M → f (counted_all t rs) < M
    unfolding counted_all
    within t [] h l = l
    within t (r ∷ rs) h l = within (counted t r) rs (counted_shaped t r h) (go (belongs r) (step t r h))
      where
        go : (b : Bool) → f (counted t r) ≡ cond b ((f t + share r) % M) (f t) → f (counted t r) < M
        go true e = rw e (mod-lt (f t + share r) (omega arith))
        go false e = rw e l

    sums : (t : Tally) (rs : List (List ℕ)) → Shaped t → f t ≡ 0 → f (counted_all t rs) ≡ shares rs % M
    sums t rs h z =
        sym (mod-eq_of_lt (within t rs h (omega (arith, z))))
        ∙ adds (λ t r h. go t r (belongs r) (step t r h)) t rs h
        ∙ ap (λ (n : ℕ). n % M) (omega (arith, z))
      where
        go : (t : Tally) (r : List ℕ) (b : Bool) → f (counted t r) ≡ cond b ((f t + share r) % M) (f t) → f (counted t r) % M ≡ (f t + cond b (share r) 0) % M
        go t r true e = omega (arith, e)
        go t r false e = omega (arith, e)

-- a place of its own for each number below m, and the last for all others
own : (m i c : ℕ) → 0 < m → i ≤ m → cond (ltb i m) (eqb c i) (ltb (m - 1) c) ≡ eqb i (min c m)
own m i c p l = go (cases_eq i (min c m)) (cases_Bool (ltb i m))
  where
    go : (i ≡ min c m) ⊎ (i ≡ min c m → ⊥) → (ltb i m ≡ true) ⊎ (ltb i m ≡ false) → cond (ltb i m) (eqb c i) (ltb (m - 1) c) ≡ eqb i (min c m)
    go (inl e) (inl b) = rw (b, eq-eqb c i (let b' = ltb-true i m b in omega (arith, e)), eq-eqb i (min c m) e)
    go (inl e) (inr b) = rw (b, lt-ltb (m - 1) c (let b' = ltb-false i m b in omega (arith, e)), eq-eqb i (min c m) e)
    go (inr n) (inl b) = rw (b, ne_eqb c i (λ q. let b' = ltb-true i m b in n (omega (arith, q))), ne_eqb i (min c m) n)
    go (inr n) (inr b) = rw (b, le-ltb (m - 1) c (let b' = ltb-false i m b in go' (cases_lt (m - 1) c)), ne_eqb i (min c m) n)
      where
        go' : (m - 1 < c) ⊎ (c ≤ m - 1) → c ≤ m - 1
        go' (inl q) = let b' = ltb-false i m b in absurd (n (omega arith))
        go' (inr q) = q

no_row_at : (i : ℕ) → i < 33 → row_at no_records i ≡ no_row
no_row_at i l = get_or-replicate 33 i no_row no_row l

none_shaped : Shaped no_records
none_shaped = record {
  rows = length-replicate 33 no_row;
  counts = λ i l. ap (λ (w : Row). length w.counts) (no_row_at i l) ∙ length-replicate {A = ℕ} 19 0;
}

-- ---- the cells

module _ (i : ℕ) (l : i < 33) where
  row_is : (r : List ℕ) → in_row i r ≡ eqb i (row_of r)
  row_is r = own 32 i (caller_in r) (omega arith) (omega arith)

  bytes_step : (t : Tally) (r : List ℕ) → Shaped t
      → (row_at (counted t r) i).bytes ≡ cond (in_row i r) (((row_at t i).bytes + moved_in r) % M) (row_at t i).bytes
  bytes_step t r h = go (cases_eq i (row_of r))
    where
      go : (i ≡ row_of r) ⊎ (i ≡ row_of r → ⊥) → (row_at (counted t r) i).bytes ≡ cond (in_row i r) (((row_at t i).bytes + moved_in r) % M) (row_at t i).bytes
      go (inl e) = rw (row_is r, eq-eqb i (row_of r) e) (rw e (ap (λ (w : Row). w.bytes) (same_row t r h)))
      go (inr n) = rw (row_is r, ne_eqb i (row_of r) n) (ap (λ (w : Row). w.bytes) (other_row t r h i n))

  module _ (n : ℕ) (q : n < 19) where
    count_is : (r : List ℕ) → in_count n r ≡ eqb n (count_of r)
    count_is r = own 18 n (number_in r) (omega arith) (omega arith)

    count_step : (t : Tally) (r : List ℕ) → Shaped t → count_at (counted t r) i n ≡ cond (in_row i r && in_count n r) ((count_at t i n + 1) % M) (count_at t i n)
    count_step t r h = go (cases_eq i (row_of r)) (cases_eq n (count_of r))
      where
        c : List ℕ
        c = (row_at t (row_of r)).counts

        y : ℕ
        y = (slice_index c (count_of r) + 1) % M

        go : (i ≡ row_of r) ⊎ (i ≡ row_of r → ⊥) → (n ≡ count_of r) ⊎ (n ≡ count_of r → ⊥)
            → count_at (counted t r) i n ≡ cond (in_row i r && in_count n r) ((count_at t i n + 1) % M) (count_at t i n)
        go (inl e) (inl d) =
            rw (row_is r, eq-eqb i (row_of r) e, count_is r, eq-eqb n (count_of r) d)
            (rw (e, d, same_row t r h) (get_or-set_same c (count_of r) y 0 (omega (arith, h.counts (row_of r) (omega arith)))))
        go (inl e) (inr d) =
            rw (row_is r, eq-eqb i (row_of r) e, count_is r, ne_eqb n (count_of r) d)
            (rw (e, same_row t r h) (get_or-set_other c (count_of r) n y 0 d))
        go (inr e) d = rw (row_is r, ne_eqb i (row_of r) e) (ap (λ (w : Row). slice_index w.counts n) (other_row t r h i e))

ones : (rs : List (List ℕ)) → sum_by (λ r. 1) rs ≡ length rs
ones [] = refl
ones (r ∷ rs) = sum_by-cons (λ r. 1) r rs ∙ omega (arith, ones rs)

cells : (rs : List (List ℕ)) → Cells (counted_all no_records rs) rs
cells rs = record {
  counts = λ i n l q.
      sums (λ t. count_at t i n) (λ r. in_row i r && in_count n r) (λ r. 1) (count_step i l n q) no_records rs none_shaped
      (ap (λ (w : Row). slice_index w.counts n) (no_row_at i l) ∙ get_or-replicate 19 n 0 0 q)
      ∙ ap (λ (k : ℕ). k % M) (ones (filter (λ r. in_row i r && in_count n r) rs) ∙ length-filter (λ r. in_row i r && in_count n r) rs);
  bytes = λ i l. sums (λ t. (row_at t i).bytes) (in_row i) moved_in (bytes_step i l) no_records rs none_shaped (ap (λ (w : Row). w.bytes) (no_row_at i l));
}

-- ---- all counts together

abbrev together : Tally → ℕ
together t = sum_by (λ w. sum w.counts) t.rows

together_step : (t : Tally) (r : List ℕ) → Shaped t → together (counted t r) % M ≡ (together t + 1) % M
together_step t r h =
    let i = row_of r in let n = count_of r in let w = row_at t i in
    let y = (slice_index w.counts n + 1) % M in
    let rows = sum_by-set (λ w. sum w.counts) t.rows i (row_with w r) no_row (omega (arith, h.rows)) in
    let counts = sum_by-set (λ x. x) w.counts n y 0 (omega (arith, h.counts i (omega arith))) in
    omega (arith, rows, counts)

all_kept : (rs : List (List ℕ)) → filter (λ r. true) rs ≡ rs
all_kept [] = refl
all_kept (r ∷ rs) = ap (λ (x : List (List ℕ)). r ∷ x) (all_kept rs)

all_together : (rs : List (List ℕ)) → together (counted_all no_records rs) % M ≡ length rs % M
all_together rs =
    adds together (λ r. true) (λ r. 1) together_step no_records rs none_shaped
    ∙ ap (λ (n : ℕ). n % M) (omega (arith, ap (sum_by (λ r. 1)) (all_kept rs), ones rs))

-- ---- the tally of a list

records-length : (n : ℕ) (list : List ℕ) → length (records_in words n list) ≡ n
unfolding records_in
records-length zero list = refl
records-length (suc n) list = ap suc (records-length n (drop (record_size words) list))

tally_is : (list : List ℕ) (t : Tally) → tally_of list ≡ Ok t → counted_all no_records (records_of list) ≡ t
unfolding with_records
tally_is list t e = go (eqb (length list % record_size words) 0) e
  where
    go : (b : Bool) → cond b (Ok (counted_all no_records (records_of list))) (Err ListNotWhole) ≡ Ok t → counted_all no_records (records_of list) ≡ t
    go true e = cc
    go false e = absurd cc

pub cells_count : CellsCount
cells_count list t e = rw (sym (tally_is list t e)) (cells (records_of list))

pub counts_together : CountsTogether
counts_together list t e =
    ap (λ (u : Tally). together u % M) (sym (tally_is list t e)) ∙ all_together (records_of list)
    ∙ ap (λ (n : ℕ). n % M) (records-length (length list / record_size words) list)
