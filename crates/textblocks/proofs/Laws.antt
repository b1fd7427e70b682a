-- What the definitions of a text's blocks say at one line.
-- Assumes nothing.
use mathlib.Core.Path.{◌≡◌, refl, sym, ap, ap₂, ◌∙◌}
use mathlib.Core.Bool.{Bool, true, false, cond, not, ◌&&◌}
use mathlib.Core.List.{List, [], ◌∷◌}
use Rattle.std.specs.Prelude.{None, Some}
use Prim.Native.Nat.{ℕ, ◌+◌, ◌-◌, ◌≤◌, ◌<◌}
use native.Mathlib.Omega.{arith}
use lib.Dec.{eqb, leb}
use lib.ListN.{length, drop, length-drop}
use lib.Seq.{length-take-le}
use native.Mathlib.Decide.{dec_le}
use borrow.Author.Tests.{lt-ltb, le-ltb, le-leb, lt-leb}
use Rattle.text.specs.Lines.{Lines, done, cut, line, line_end, line_at, fields_in}
use Rattle.text.proofs.Laws.{Over, line_ends, line_here, line-part, lines_end, next_whole}
use Rattle.textblocks.specs.declared.Place.{Place}
use Rattle.textblocks.specs.declared.Block.{Block}
use Rattle.textblocks.specs.Blocks.{Inside, Steps, lines_at, past_empty, bytes_past, lines_past, row_good, is_header, is_last, names_at, rows_bad, block_bad}

-- ---- lines

pub length-line : (text : List ℕ) (at e : ℕ) → at ≤ length text → e ≡ line_end text at → length (line_at text at) ≡ e - at
length-line text at e h q =
    let l = line_ends text at e h q in
    ap length (sym (line-part text at e q)) ∙ length-take-le (e - at) (drop at text) (omega (arith, length-drop at text))

-- ---- past an empty line

abbrev placed : ℕ → ℕ → Place
placed a n = record { at = a; line = n }

pub past_over : (ls : Lines) → Over ls → (bytes_past ls ≡ 0) × (lines_past ls ≡ 0)
unfolding bytes_past lines_past
past_over done h = (refl, refl)
past_over cut h = (refl, refl)
past_over (line l ls) h = absurd h

past_empty_of : (l : List ℕ) (ls : Lines) → length l ≡ 0 → (bytes_past (line l ls) ≡ 1) × (lines_past (line l ls) ≡ 1)
unfolding bytes_past lines_past
past_empty_of [] ls h = (refl, refl)
past_empty_of (b ∷ l) ls h = absurd (omega arith)

past_step_of : (l : List ℕ) (ls : Lines) → 0 < length l → (bytes_past (line l ls) ≡ length l + 1 + bytes_past ls) × (lines_past (line l ls) ≡ 1 + lines_past ls)
unfolding bytes_past lines_past
past_step_of [] ls h = absurd (omega arith)
past_step_of (b ∷ l) ls h = (refl, refl)

-- a whole line that was taken: it stood at p, and what follows stands at q
pub record Took (text : List ℕ) (p : Place) (n : ℕ) (l : List ℕ) (q : Place) : Type 0 where
  pub is : lines_at text p.at ≡ line l (lines_at text q.at)
  pub number : n ≡ p.line
  pub at : q.at ≡ p.at + length l + 1
  pub next : q.line ≡ p.line + 1
  pub within : q.at ≤ length text

module _ (text : List ℕ) (p q : Place) (h : Inside text p) where
  pub took : (n : ℕ) (l : List ℕ) → Steps text p (Some (n, l)) q → Took text p n l q
  took n l s =
      let e = line_ends text p.at (line_end text p.at) h.0 refl in
      let k = line_here text p.at (line_end text p.at) refl h.0 s.0 in
      let m = length-line text p.at (line_end text p.at) h.0 refl in
      let i : n ≡ p.line = ap (λ (x : ℕ × List ℕ). x.0) s.1 in
      let j : l ≡ line_at text p.at = ap (λ (x : ℕ × List ℕ). x.1) s.1 in
      let a = ap (λ (x : Place). x.at) s.2 in
      record {
        is = k.is ∙ ap₂ (λ (x : List ℕ) (y : ℕ). line x (lines_at text y)) (sym j) (sym a);
        number = i;
        at = a ∙ omega (arith, m, ap length j, e.low);
        next = ap (λ (x : Place). x.line) s.2;
        within = omega arith;
      }

  -- past the next empty line: none is left, it is here, or it is that of what follows
  pub past_none : Steps text p None q → past_empty text p ≡ q
  unfolding past_empty
  past_none s =
      let z = past_over (lines_at text p.at) ((line_ends text p.at (line_end text p.at) h.0 refl).none s.0) in
      ap₂ placed (omega (arith, z.0)) (omega (arith, z.1)) ∙ sym s.1

  module _ (n : ℕ) (l : List ℕ) (s : Steps text p (Some (n, l)) q) where
    pub past_here : length l ≡ 0 → past_empty text p ≡ q
    unfolding past_empty
    past_here e =
        let t = took n l s in let z = past_empty_of l (lines_at text q.at) e in
        ap₂ placed (rw t.is (omega (arith, z.0, t.at))) (rw t.is (omega (arith, z.1, t.next)))

    pub past_more : 0 < length l → past_empty text p ≡ past_empty text q
    unfolding past_empty
    past_more e =
        let t = took n l s in let z = past_step_of l (lines_at text q.at) e in
        ap₂ placed (rw t.is (omega (arith, z.0, t.at))) (rw t.is (omega (arith, z.1, t.next)))

-- ---- the rows of a block

and-true : (t : Bool) → t && true ≡ t
and-true true = refl
and-true false = refl

and-false : (t : Bool) → t && false ≡ false
and-false true = refl
and-false false = refl

module _ (b : Block) (n i : ℕ) where
  -- no whole line is left
  pub rows_over : (text : List ℕ) (p q : Place) → Inside text p → Steps text p None q → rows_bad b n i (lines_at text p.at) ≡ cond (is_last b && leb (length text) p.at) None (Some n)
  unfolding rows_bad
  rows_over text p q h s = elim (dec_le (length text) p.at) [
    | yes k ↦ rw (lines_end text p.at k, rows_bad, le-leb _ _ k, and-true (is_last b))
    | no k ↦ rw ((line_ends text p.at (line_end text p.at) h.0 refl).last s.0 (omega arith), rows_bad, lt-leb (length text) p.at (omega arith), and-false (is_last b))
  ]

  pub rows_cut : {all : Lines} → all ≡ cut → rows_bad b n i all ≡ Some n
  unfolding rows_bad
  rows_cut w = rw w

  module _ {all : Lines} {l : List ℕ} {ls : Lines} (w : all ≡ line l ls) where
    pub rows_empty : (not (is_last b) && eqb (length l) 0) ≡ true → rows_bad b n i all ≡ None
    unfolding rows_bad
    rows_empty h = rw (w, rows_bad, h)

    module _ (h : (not (is_last b) && eqb (length l) 0) ≡ false) where
      pub rows-bad : row_good b i l ≡ false → rows_bad b n i all ≡ Some n
      unfolding rows_bad
      rows-bad g = rw (w, rows_bad, h, g)

      pub rows_step : row_good b i l ≡ true → rows_bad b n i all ≡ rows_bad b (n + 1) (i + 1) ls
      unfolding rows_bad
      rows_step g = rw (w, rows_bad, h, g)

-- ---- a block

pub block_none : (b : Block) (named : Bool) (text : List ℕ) (p q : Place) → Steps text p None q → block_bad b named text p ≡ Some p.line
unfolding block_bad
block_none b named text p q s = rw (le-ltb _ _ s.0)

module _ (b : Block) (text : List ℕ) (p q : Place) (n : ℕ) (l : List ℕ) (s : Steps text p (Some (n, l)) q) where
  named : {t : Bool} → is_header b (fields_in l) ≡ t → is_header b (names_at text p) ≡ t
  named e = ap (λ (x : ℕ × List ℕ). is_header b (fields_in x.1)) (sym s.1) ∙ e

  pub block_other : is_header b (fields_in l) ≡ false → block_bad b (is_header b (names_at text p)) text p ≡ Some n
  unfolding block_bad
  block_other e = rw (named e, lt-ltb _ _ s.0) (ap (λ (x : ℕ × List ℕ). Some x.0) (sym s.1))

  pub block_rows : is_header b (fields_in l) ≡ true → block_bad b (is_header b (names_at text p)) text p ≡ rows_bad b q.line 0 (lines_at text q.at)
  unfolding block_bad
  block_rows e = rw (named e, lt-ltb _ _ s.0, next_whole text p.at s.0, s.2)
