-- One step and the end of each definition over what is left of a list.
-- Assumes nothing.
use mathlib.Core.Path.{◌≡◌, refl, sym, ap, ◌∙◌}
use mathlib.Core.Bool.{Bool, true, false, cond}
use mathlib.Core.List.{List, [], ◌∷◌}
use Prim.Native.Nat.{ℕ, suc, ◌+◌, ◌-◌, ◌≤◌, ◌<◌}
use native.Mathlib.Numerals.{add-one}
use native.Mathlib.Decide.{dec_le}
use native.Mathlib.Omega.{arith}
use lib.Dec.{eqb, ltb}
use lib.ListN.{length, get_or, take, drop, drop_of_length-le, length-drop}
use lib.Seq.{drop-cons, take_all, take-nil, drop-drop}
use borrow.Author.Tests.{ne_eqb, lt-ltb, le-ltb, ltb-true, ltb-false}
use Rattle.std.specs.Str.{bytes_eq}
use Rattle.text.specs.Bytes.{eq_bytes, index_of}
use Rattle.text.specs.Lines.{Lines, done, cut, line, before, lines_of, line_end, line_at, next_line}

-- what is left of a list at a place before its end: that element, and what is left at the next place
pub step : (s : List ℕ) (i : ℕ) → i < length s → drop i s ≡ get_or s i 0 ∷ drop (i + 1) s
step s i h = rw (add-one, drop-cons s i 0)

-- and at its end
pub at_end : (s : List ℕ) (i : ℕ) → length s ≤ i → drop i s ≡ []
at_end s i h = drop_of_length-le s h

-- the words of the library for the same
pub eq_is : (a b : List ℕ) → eq_bytes a b ≡ bytes_eq a b
unfolding eq_bytes
eq_is [] [] = refl
eq_is [] (y ∷ ys) = refl
eq_is (x ∷ xs) [] = refl
eq_is (x ∷ xs) (y ∷ ys) = rw (eq_is xs ys)

-- what a part to the end holds
pub rest : (s : List ℕ) (a : ℕ) → take (length s - a) (drop a s) ≡ drop a s
rest s a = take_all (length s - a) (drop a s) (omega (arith, length-drop a s))

-- index_of of a list that starts with the byte, and of one that does not
pub index_here : (b x : ℕ) (xs : List ℕ) → eqb x b ≡ true → index_of b (x ∷ xs) ≡ 0
unfolding index_of
index_here b x xs e = rw e

pub index_next : (b x : ℕ) (xs : List ℕ) → eqb x b ≡ false → index_of b (x ∷ xs) ≡ suc (index_of b xs)
unfolding index_of
index_next b x xs e = rw e

index_le_by : (b x : ℕ) (xs : List ℕ) (t : Bool) → eqb x b ≡ t → index_of b xs ≤ length xs → index_of b (x ∷ xs) ≤ suc (length xs)
index_le_by b x xs true e r = rw (index_here b x xs e) (omega arith)
index_le_by b x xs false e r = rw (index_next b x xs e) (omega arith)

pub index_le : (b : ℕ) (s : List ℕ) → index_of b s ≤ length s
unfolding index_of
index_le b [] = omega arith
index_le b (x ∷ xs) = index_le_by b x xs (eqb x b) refl (index_le b xs)

-- a comparison of successors
pub less_suc : (a b : ℕ) → ltb (suc a) (suc b) ≡ ltb a b
less_suc a b = elim (dec_le b a) [ yes h ↦ le-ltb (suc a) (suc b) (omega arith) ∙ sym (le-ltb a b h) | no h ↦ lt-ltb (suc a) (suc b) (omega arith) ∙ sym (lt-ltb a b (omega arith)) ]

-- the first line and those after it, or what is left without a byte 10
Split : List ℕ → Lines
Split s = cond (ltb (index_of 10 s) (length s)) (line (take (index_of 10 s) s) (lines_of (drop (suc (index_of 10 s)) s))) (cond (eqb (length s) 0) done cut)

lines_split : (s : List ℕ) → lines_of s ≡ Split s
unfolding lines_of before Split index_of
lines_split [] = refl
lines_split (b ∷ bs) = go (eqb b 10) refl (lines_split bs)
  where
    longer : (t u : Bool) (l : List ℕ) (ls : Lines) → before b (cond t (line l ls) (cond u done cut)) ≡ cond t (line (b ∷ l) ls) cut
    longer true u l ls = refl
    longer false true l ls = refl
    longer false false l ls = refl

    go : (t : Bool) → eqb b 10 ≡ t → lines_of bs ≡ Split bs → lines_of (b ∷ bs) ≡ Split (b ∷ bs)
    go true e r = rw (e, lt-ltb 0 (length (b ∷ bs)) (omega arith))
    go false e r = rw (e, less_suc (index_of 10 bs) (length bs), ne_eqb (length (b ∷ bs)) 0 (λ q. omega arith), r) (longer (ltb (index_of 10 bs) (length bs)) (eqb (length bs) 0) _ _)

lines_more : (s : List ℕ) → index_of 10 s < length s → lines_of s ≡ line (take (index_of 10 s) s) (lines_of (drop (suc (index_of 10 s)) s))
unfolding Split
lines_more s h = lines_split s ∙ rw (lt-ltb _ _ h)

lines_cut : (s : List ℕ) → 0 < length s → length s ≤ index_of 10 s → lines_of s ≡ cut
unfolding Split
lines_cut s z h = lines_split s ∙ rw (le-ltb _ _ h, ne_eqb (length s) 0 (λ q. omega arith))

lines_done : (s : List ℕ) → length s ≤ 0 → lines_of s ≡ done
unfolding lines_of
lines_done [] h = refl
lines_done (b ∷ bs) h = absurd (omega arith)

-- ---- lines

-- no whole line is left
abbrev pub Over : Lines → Type 0
Over done = Unit {0}
Over cut = Unit {0}
Over (line l ls) = ⊥

-- e is the place of the byte 10 that ends the line at a place, or the text's length where no byte 10 is left
pub record LineEnd (text : List ℕ) (at e : ℕ) : Type 0 where
  pub low : at ≤ e
  pub high : e ≤ length text
  pub whole : e < length text → lines_of (drop at text) ≡ line (take (e - at) (drop at text)) (lines_of (drop (e + 1) text))
  pub none : length text ≤ e → Over (lines_of (drop at text))
  pub last : length text ≤ e → at < length text → lines_of (drop at text) ≡ cut

over_by : (s : List ℕ) → (0 < length s → lines_of s ≡ cut) → Over (lines_of s)
unfolding lines_of
over_by [] h = tt
over_by (b ∷ bs) h = rw (h (omega arith)) tt

line-at : (text : List ℕ) (at n : ℕ) → at ≤ length text → n ≡ index_of 10 (drop at text) → LineEnd text at (at + n)
line-at text at n h en =
    let r = drop at text in
    let i : n ≤ length text - at = omega (arith, index_le 10 r, length-drop at text) in
    record {
      low = omega arith;
      high = omega arith;
      whole =
          λ k.
          let a : at + n - at ≡ n = omega arith in
          let b : at + n + 1 ≡ at + suc n = omega arith in
          rw (a, b, ← drop-drop (suc n) at text, en) (lines_more r (omega (arith, length-drop at text)));
      none = λ k. over_by r (λ z. lines_cut r z (omega (arith, length-drop at text)));
      last = λ k l. lines_cut r (omega (arith, length-drop at text)) (omega (arith, length-drop at text));
    }

pub line_ends : (text : List ℕ) (at e : ℕ) → at ≤ length text → e ≡ line_end text at → LineEnd text at e
unfolding line_end
line_ends text at e h q = rw q (line-at text at (index_of 10 (drop at text)) h refl)

pub line-beyond : (text : List ℕ) (at : ℕ) → length text ≤ at → line_end text at ≡ at
unfolding line_end index_of
line-beyond text at h = rw (at_end text at h) (omega arith)

-- the line at a place, as a part of the text
pub line-part : (text : List ℕ) (at e : ℕ) → e ≡ line_end text at → take (e - at) (drop at text) ≡ line_at text at
unfolding line_end line_at
line-part text at e q =
    let n = index_of 10 (drop at text) in
    let k : e - at ≡ n = omega arith in
    rw k

pub line-none : (text : List ℕ) (at : ℕ) → length text ≤ at → line_at text at ≡ []
unfolding line_at
line-none text at h = rw (at_end text at h) (take-nil (index_of 10 []))

pub lines_end : (text : List ℕ) (at : ℕ) → length text ≤ at → lines_of (drop at text) ≡ done
lines_end text at h = lines_done (drop at text) (omega (arith, length-drop at text))

-- a place with a line: where the next one is, and what is left of the text's lines
pub record Line (text : List ℕ) (at next : ℕ) : Type 0 where
  pub later : at < next
  pub within : next ≤ length text
  pub is : lines_of (drop at text) ≡ line (line_at text at) (lines_of (drop next text))

module _ (text : List ℕ) (at : ℕ) where
  pub next_whole : line_end text at < length text → next_line text at ≡ line_end text at + 1
  unfolding next_line
  next_whole h = rw (lt-ltb _ _ h)

  pub next_none : length text ≤ line_end text at → next_line text at ≡ line_end text at
  unfolding next_line
  next_none h = rw (le-ltb _ _ h)

  pub line_here : (e : ℕ) → e ≡ line_end text at → at ≤ length text → e < length text → Line text at (e + 1)
  line_here e q h k =
      let l = line_ends text at e h q in
      record { later = omega arith; within = omega arith; is = l.whole k ∙ ap (λ (x : List ℕ). line x (lines_of (drop (e + 1) text))) (line-part text at e q) }

-- the next line stands later in the text
pub next_later : (text : List ℕ) (at : ℕ) → at < length text → at < next_line text at
next_later text at h = go (ltb (line_end text at) (length text)) refl
  where
    go : (t : Bool) → ltb (line_end text at) (length text) ≡ t → at < next_line text at
    go true e =
        let k = ltb-true (line_end text at) (length text) e in
        let l = line_ends text at (line_end text at) (omega arith) refl in
        rw (next_whole text at k) (omega arith)
    go false e =
        let k = ltb-false (line_end text at) (length text) e in
        rw (next_none text at k) (omega arith)
