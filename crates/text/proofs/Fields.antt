-- The fields of a line one after the other, the column of a name, and the field in a column.
-- Assumes nothing.
use mathlib.Core.Path.{◌≡◌, refl, sym, ap, ◌∙◌}
use mathlib.Core.Bool.{Bool, true, false, cond, not}
use mathlib.Core.Logic.{◌⊎◌, inl, inr}
use mathlib.Core.List.{List, [], ◌∷◌}
use Prim.Native.Nat.{ℕ, zero, suc, ◌+◌, ◌-◌, ◌≤◌, ◌<◌}
use native.Mathlib.Numerals.{add-one, one-add}
use native.Mathlib.Decide.{dec_le}
use native.Mathlib.Nat.{add_assoc}
use native.Mathlib.Omega.{arith}
use lib.Dec.{eqb, ltb, leb}
use lib.ListN.{length, get_or, take, drop, set, replicate, length-set, length-drop, drop_of_length-le}
use lib.Seq.{take_all, drop-cons, take-nil, length-take-le, drop-drop, get_or-set_same, get_or-set_other}
use borrow.Author.Tests.{lt-ltb, le-ltb, le-leb, lt-leb}
use Rattle.std.specs.List.{prefix_len, list_all, slice_split, onto_first}
use Rattle.std.specs.Str.{bytes_eq}
use Rattle.std.proofs.lemmas.List.Recursion.{is_position_or_len}
use Rattle.std.specs.Fn.{CalledAt}
use Rattle.std.specs.Slice.Iter.{split_rest, split_done, split_callee, split_steps}
use Rattle.std.specs.declared.slice.Split.{Split}
use Rattle.std.proofs.lemmas.Iterator.{YieldsList}
use Rattle.std.proofs.lemmas.Iterator.Splits.{YieldsList-from_slice_split}
use denote.Param.Members.{Mut}
use denote.Ref.{Bor}
use Rattle.text.specs.Bytes.{index_of}
use Rattle.text.specs.Lines.{ahead, fields_in, field_at, column_of, has_names}
use Rattle.text.specs.Split.{no_starts, starts_from, split_of, field_by}
use Rattle.text.proofs.Laws.{eq_is, index_le, less_suc}

nothing : {f : List ℕ} {fs : List (List ℕ)} → [] ≡ f ∷ fs → ⊥
nothing e = let z : ◌≡◌ {A = ℕ} 0 1 = cc in omega arith

-- the fields after a line's first
rest_of : List ℕ → List (List ℕ)
rest_of s = cond (ltb (index_of 32 s) (length s)) (fields_in (drop (suc (index_of 32 s)) s)) []

rest_more : (s : List ℕ) → index_of 32 s < length s → rest_of s ≡ fields_in (drop (suc (index_of 32 s)) s)
unfolding rest_of
rest_more s h = rw (lt-ltb _ _ h)

rest-none : (s : List ℕ) → length s ≤ index_of 32 s → rest_of s ≡ []
unfolding rest_of
rest-none s h = rw (le-ltb _ _ h)

-- a line's first field and those after it
fields-first : (s : List ℕ) → fields_in s ≡ take (index_of 32 s) s ∷ rest_of s
unfolding fields_in ahead rest_of index_of
fields-first [] = refl
fields-first (b ∷ bs) = go (eqb b 32) refl (fields-first bs)
  where
    go : (t : Bool) → eqb b 32 ≡ t → fields_in bs ≡ take (index_of 32 bs) bs ∷ rest_of bs → fields_in (b ∷ bs) ≡ take (index_of 32 (b ∷ bs)) (b ∷ bs) ∷ rest_of (b ∷ bs)
    go true e r = rw (e, lt-ltb 0 (length (b ∷ bs)) (omega arith))
    go false e r = rw (e, less_suc (index_of 32 bs) (length bs), r)

-- the same in the words of the library: the parts that spaces cut, and what is asked of each
abbrev pub is_space : ℕ → Bool
is_space b = eqb b 32

pub fields_are : (s : List ℕ) → fields_in s ≡ slice_split is_space s
unfolding fields_in ahead
fields_are [] = refl
fields_are (b ∷ bs) = ap (λ (fs : List (List ℕ)). cond (eqb b 32) ([] ∷ fs) (ahead b fs)) (fields_are bs) ∙ ap (λ (fs : List (List ℕ)). cond (eqb b 32) ([] ∷ slice_split is_space bs) fs) (onto (slice_split is_space bs) (sym (fields_are bs) ∙ fields-first bs))
  where
    onto : {f : List ℕ} {fs : List (List ℕ)} (gs : List (List ℕ)) → gs ≡ f ∷ fs → ahead b gs ≡ onto_first b gs
    onto [] e = absurd (nothing e)
    onto (g ∷ gs) e = refl

-- what the fields take of a row, each with its space, and the end counted as one
abbrev pub room : List (List ℕ) → ℕ
room [] = 0
room (f ∷ fs) = length f + 1 + room fs

room_is : (s : List ℕ) → room (slice_split is_space s) ≡ length s + 1
room_is [] = refl
room_is (b ∷ bs) = go (eqb b 32) (slice_split is_space bs) (room_is bs)
  where
    go : (t : Bool) (fs : List (List ℕ)) → room fs ≡ length bs + 1 → room (cond t ([] ∷ fs) (onto_first b fs)) ≡ length (b ∷ bs) + 1
    go true fs r = omega arith
    go false [] r = absurd (omega arith)
    go false (f ∷ fs) r = omega arith

pub room_of : (s : List ℕ) → room (fields_in s) ≡ length s + 1
room_of s = rw (fields_are s) (room_is s)

-- what an iterator over them gives
pub gives_fields : {F : Type 0} {s : Split ℕ F} (g : Mut F (Bor ℕ × Unit {0}) Bool) {f : F} (xs : List ℕ) → split_rest s ≡ xs → split_done s ≡ false → split_callee s ≡ f
    → ((x : ℕ) (b : Bool) (q : F) → CalledAt g f x b q → (q ≡ f) × (b ≡ is_space x)) → YieldsList (split_steps g) (λ x. x.now) s (fields_in xs)
gives_fields g xs r d e h = rw (fields_are xs) (YieldsList-from_slice_split g is_space xs r d e h)

pub column_is : (name : List ℕ) (hs : List (List ℕ)) → column_of name hs ≡ prefix_len (λ h. not (bytes_eq h name)) hs
unfolding column_of
column_is name hs = is_position_or_len (column_of name) (λ h. bytes_eq h name) refl (λ h hs. rw (eq_is h name, one-add)) hs

pub all_named : (ns hs : List (List ℕ)) → has_names ns hs ≡ list_all (λ n. ltb (column_of n hs) (length hs)) ns
unfolding has_names
all_named [] hs = refl
all_named (n ∷ ns) hs = rw (all_named ns hs)

-- ---- where the fields of a row start

-- the fields from a place on; none where the place is past the end
pub fields_from : List ℕ → ℕ → List (List ℕ)
fields_from row at = cond (leb at (length row)) (fields_in (drop at row)) []

module _ (row : List ℕ) (at : ℕ) where
  pub from_none : length row < at → fields_from row at ≡ []
  unfolding fields_from
  from_none h = rw (lt-leb _ _ h)

  pub from_some : at ≤ length row → fields_from row at ≡ fields_in (drop at row)
  unfolding fields_from
  from_some h = rw (le-leb _ _ h)

module _ (row : List ℕ) (at i : ℕ) (h : at ≤ length row) (e : i ≡ index_of 32 (drop at row)) where
  from_rest : (i < length row - at) ⊎ (length row - at ≤ i) → rest_of (drop at row) ≡ fields_from row (at + i + 1)
  from_rest (inl k) =
      let n : at + i + 1 ≡ at + suc i = omega arith in
      rest_more (drop at row) (omega (arith, length-drop at row)) ∙ rw (← e, drop-drop (suc i) at row, n) (sym (from_some row (at + suc i) (omega arith)))
  from_rest (inr k) = rest-none (drop at row) (omega (arith, length-drop at row)) ∙ sym (from_none row (at + i + 1) (omega arith))

  pub from_more : fields_from row at ≡ take i (drop at row) ∷ fields_from row (at + i + 1)
  from_more = from_some row at h ∙ fields-first (drop at row) ∙ rw (← e, from_rest (elim (dec_le (length row - at) i) [ yes p ↦ inr p | no q ↦ inl (omega arith) ]))

  pub from_length : length (take i (drop at row)) ≡ i
  from_length = length-take-le i (drop at row) (omega (arith, index_le 32 (drop at row)))

-- the starts after one more field
module _ (s : List ℕ) (n at : ℕ) (f : List ℕ) (fs : List (List ℕ)) where
  pub starts_more : n + 1 < 16 → starts_from s n at (f ∷ fs) ≡ starts_from (set s (n + 1) (at + length f + 1)) (n + 1) (at + length f + 1) fs
  unfolding starts_from
  starts_more h = rw (starts_from, lt-ltb (n + 1) 16 h)

  pub starts_full : 16 ≤ n + 1 → starts_from s n at (f ∷ fs) ≡ starts_from s (n + 1) (at + length f + 1) fs
  unfolding starts_from
  starts_full h = rw (starts_from, le-ltb (n + 1) 16 h)

-- and where it is the next of a row's, after n
module _ (s : List ℕ) (n at : ℕ) (f : List ℕ) (fs : List (List ℕ)) (h : n < length fs) (e : f ≡ get_or fs n f) where
  turn : drop n fs ≡ f ∷ drop (n + 1) fs
  turn = drop-cons fs n f h ∙ rw (← e, add-one n)

  pub turn_room : room (drop n fs) ≡ length f + 1 + room (drop (n + 1) fs)
  turn_room = ap room turn

  pub turn_more : n + 1 < 16 → starts_from s n at (drop n fs) ≡ starts_from (set s (n + 1) (at + (length f + 1))) (n + 1) (at + (length f + 1)) (drop (n + 1) fs)
  turn_more k = rw (turn, ← add_assoc at (length f) 1) (starts_more s n at f (drop (n + 1) fs) k)

  pub turn_full : 16 ≤ n + 1 → starts_from s n at (drop n fs) ≡ starts_from s (n + 1) (at + (length f + 1)) (drop (n + 1) fs)
  turn_full k = rw (turn, ← add_assoc at (length f) 1) (starts_full s n at f (drop (n + 1) fs) k)

pub turn_end : (s : List ℕ) (n at : ℕ) (fs : List (List ℕ)) → length fs ≤ n → starts_from s n at (drop n fs) ≡ record { starts = s; count = n }
unfolding starts_from
turn_end s n at fs h = rw (drop_of_length-le fs h)

starts_count : (fs : List (List ℕ)) (s : List ℕ) (n at : ℕ) → (starts_from s n at fs).count ≡ n + length fs
unfolding starts_from
starts_count [] s n at = omega arith
starts_count (f ∷ fs) s n at = starts_count fs _ (n + 1) _ ∙ omega arith

-- those up to the first n stay
starts_kept : (fs : List (List ℕ)) (s : List ℕ) (n at j : ℕ) → j ≤ n → get_or (starts_from s n at fs).starts j 0 ≡ get_or s j 0
unfolding starts_from
starts_kept [] s n at j h = refl
starts_kept (f ∷ fs) s n at j h = starts_kept fs _ (n + 1) _ j (omega arith) ∙ go (ltb (n + 1) 16)
  where
    go : (t : Bool) → get_or (cond t (set s (n + 1) (at + length f + 1)) s) j 0 ≡ get_or s j 0
    go true = get_or-set_other s (n + 1) j (at + length f + 1) 0 (λ q. omega arith)
    go false = refl

-- a field at a place, and those after it
record Next (row f : List ℕ) (fs : List (List ℕ)) (at : ℕ) : Type 0 where
  is : take (length f) (drop at row) ≡ f
  rest : fields_from row (at + length f + 1) ≡ fs

next_of : (row f : List ℕ) (fs : List (List ℕ)) (at : ℕ) → fields_from row at ≡ f ∷ fs → Next row f fs at
next_of row f fs at e = elim (dec_le at (length row)) [ yes p ↦ here p | no q ↦ absurd (past (sym (from_none row at (omega arith)) ∙ e)) ]
  where
    past : [] ≡ f ∷ fs → ⊥
    past q = let z : ◌≡◌ {A = ℕ} 0 1 = cc in omega arith

    here : at ≤ length row → Next row f fs at
    here p =
        let i = index_of 32 (drop at row) in
        let q : take i (drop at row) ∷ fields_from row (at + i + 1) ≡ f ∷ fs = sym (from_more row at i p refl) ∙ e in
        let a : take i (drop at row) ≡ f = cc in
        let b : fields_from row (at + i + 1) ≡ fs = cc in
        let n : length f ≡ i = ap length (sym a) ∙ from_length row at i p refl in
        record { is = ap (λ (m : ℕ). take m (drop at row)) n ∙ a; rest = ap (λ (m : ℕ). fields_from row (at + m + 1)) n ∙ b }

-- the part of a row between two starts
abbrev Between : List ℕ → List ℕ → ℕ → List ℕ
Between row s k = take (get_or s (k + 1) 0 - 1 - get_or s k 0) (drop (get_or s k 0) row)

fields_by : (row : List ℕ) (fs : List (List ℕ)) (s : List ℕ) (n at : ℕ) → fields_from row at ≡ fs → length s ≡ 16 → get_or s n 0 ≡ at
    → ((j : ℕ) → n < j → get_or s j 0 ≡ 0) → n + length fs ≤ 15
    → (k m : ℕ) → m ≡ n + k → Between row (starts_from s n at fs).starts m ≡ field_at fs k
unfolding starts_from
fields_by row [] s n at e l p z h k m q =
    let a : get_or s (m + 1) 0 ≡ 0 = z (m + 1) (omega arith) in
    let b : 0 - 1 - get_or s m 0 ≡ 0 = omega arith in
    rw (a, b)
fields_by row (f ∷ fs) s n at e l p z h zero m q =
    let x = next_of row f fs at e in
    let w = starts_more s n at f fs (omega arith) in
    let v = at + length f + 1 in
    let a : get_or (starts_from s n at (f ∷ fs)).starts m 0 ≡ at =
    starts_kept (f ∷ fs) s n at m (omega arith) ∙ ap (λ (j : ℕ). get_or s j 0) (omega arith) ∙ p in
    let b : get_or (starts_from s n at (f ∷ fs)).starts (m + 1) 0 ≡ v =
    rw w (starts_kept fs (set s (n + 1) v) (n + 1) v (m + 1) (omega arith) ∙ ap (λ (j : ℕ). get_or (set s (n + 1) v) j 0) (omega arith) ∙ get_or-set_same s (n + 1) v 0 (omega arith)) in
    let d : v - 1 - at ≡ length f = omega arith in
    rw (a, b, d) x.is
fields_by row (f ∷ fs) s n at e l p z h (suc k) m q =
    let x = next_of row f fs at e in
    let v = at + length f + 1 in
    rw (starts_more s n at f fs (omega arith))
    (fields_by row fs (set s (n + 1) v) (n + 1) v x.rest (length-set s (n + 1) v ∙ l) (get_or-set_same s (n + 1) v 0 (omega arith))
    (λ j r. get_or-set_other s (n + 1) j v 0 (λ y. omega arith) ∙ z j (omega arith)) (omega arith) k m (omega arith))

-- The field in a column, by where a row's fields start, is that of the row
pub count_is : (row : List ℕ) → (split_of row).count ≡ length (fields_in row)
unfolding split_of
count_is row = starts_count (fields_in row) no_starts 0 0 ∙ omega arith

zeros : (k j : ℕ) → ◌≡◌ {A = ℕ} (get_or (replicate k 0) j 0) 0
zeros zero j = refl
zeros (suc k) zero = refl
zeros (suc k) (suc j) = zeros k j

module _ (row s : List ℕ) (k : ℕ) where
  pub by_none : 15 ≤ k → field_by row s k ≡ []
  unfolding field_by
  by_none h = rw (le-ltb k 15 h)

  pub by_part : k < 15 → field_by row s k ≡ Between row s k
  unfolding field_by
  by_part h = rw (lt-ltb k 15 h)

  module _ (h : k < 15) where
    pub by_empty : get_or s (k + 1) 0 ≤ get_or s k 0 → field_by row s k ≡ []
    by_empty l = let z : get_or s (k + 1) 0 - 1 - get_or s k 0 ≡ 0 = omega arith in by_part h ∙ rw z

    pub by_past : length row ≤ get_or s k 0 → field_by row s k ≡ []
    by_past l = by_part h ∙ rw (drop_of_length-le row l) (take-nil (get_or s (k + 1) 0 - 1 - get_or s k 0))

    pub by_all : length row < get_or s (k + 1) 0 → field_by row s k ≡ take (length row - get_or s k 0) (drop (get_or s k 0) row)
    by_all l =
        let n = length-drop (get_or s k 0) row in
        by_part h ∙ take_all (get_or s (k + 1) 0 - 1 - get_or s k 0) (drop (get_or s k 0) row) (omega arith) ∙ sym (take_all (length row - get_or s k 0) (drop (get_or s k 0) row) (omega arith))

beyond : (fs : List (List ℕ)) (k : ℕ) → length fs ≤ k → field_at fs k ≡ []
beyond [] k h = refl
beyond (f ∷ fs) zero h = absurd (omega arith)
beyond (f ∷ fs) (suc k) h = beyond fs k (omega arith)

pub field_is : (row : List ℕ) → length (fields_in row) ≤ 15 → (k : ℕ) → field_by row (split_of row).starts k ≡ field_at (fields_in row) k
unfolding split_of no_starts
field_is row h k = elim (dec_le 15 k) [
  | yes p ↦ by_none row _ k p ∙ sym (beyond (fields_in row) k (omega arith))
  | no p ↦ by_part row _ k (omega arith) ∙ fields_by row (fields_in row) (replicate 16 0) 0 0 (from_some row 0 (omega arith)) refl refl (λ j r. zeros 16 j) (omega arith) k k (omega arith)
]
