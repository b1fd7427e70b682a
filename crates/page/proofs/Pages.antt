-- Lines put together cell by cell, and a page row by row.
-- Assumes nothing.
use Rattle.std.proofs.Common.{◌≡◌, refl, sym, ap, ◌∙◌, ℕ, ◌+◌, ◌-◌, ◌≤◌, ◌<◌, suc, ◌*◌, ◌^◌, List, [], ◌∷◌, ◌++◌, length, drop, get_or, ltb, arith}
use Rattle.std.specs.List.{flat_map}
use Rattle.std.proofs.lemmas.List.{at_drop_more, at_drop_all, append-nil, append_assoc, take_all, length-append}
use Rattle.std.proofs.lemmas.Bool.{cond_both, ltb-true}
use Rattle.text.specs.Ascii.{ascii}
use Rattle.print.specs.Lines.{digits_text, decimal_text, line_with}
use Rattle.print.proofs.Laws.{with_nothing, with_both, decimal_few, decimal_most}
use Rattle.tally.specs.declared.Row.{Row}
use Rattle.tally.specs.declared.Tally.{Tally}
use Rattle.page.specs.Page.{cell, caller_text, row_line, row_lines, page_of, row_size, page_size}
use Rattle.page.specs.Claims.{names}

module _ (x : List ℕ) (ns : List ℕ) (k : ℕ) where
  pub cells_more : k < length ns → line_with page_size (line_with page_size x (cell (get_or ns k 0))) (flat_map cell (drop (k + 1) ns)) ≡ line_with page_size x (flat_map cell (drop k ns))
  cells_more h =
      with_both page_size x (cell (get_or ns k 0)) (flat_map cell (drop (k + 1) ns)) ∙ ap (line_with page_size x) (sym (at_drop_more (flat_map cell) ns k 0 h))

  pub cells_all : length ns ≤ k → x ≡ line_with page_size x (flat_map cell (drop k ns))
  cells_all h = sym (ap (line_with page_size x) (at_drop_all (flat_map cell) ns k h) ∙ with_nothing page_size x)

pub cell_short : (n : ℕ) → n < 2 ^ 64 → length (cell n) ≤ 21
cell_short n h = omega (arith, decimal_most n h)

pub cells_short : (ns : List ℕ) → ((k : ℕ) → get_or ns k 0 < 2 ^ 64) → length (flat_map cell ns) ≤ length ns * 21
cells_short [] h = omega arith
cells_short (n ∷ ns) h = omega (arith, length-append (cell n) (flat_map cell ns), cell_short n (h 0), cells_short ns (λ k. h (suc k)))

pub caller_short : (i : ℕ) → length (caller_text i) ≤ 4
caller_short i =
    cond_both (ltb i 32) (decimal_text i) (ascii "more") (λ l. length l ≤ 4)
    (λ e. let l = ltb-true i 32 e in omega (arith, decimal_few 2 i (omega arith) (omega arith) (omega arith)))
    (λ e. omega arith)

pub row_of_parts : (i : ℕ) (w : Row) (x : List ℕ) {a b c d : List ℕ}
    → a ≡ line_with page_size x (caller_text i) → b ≡ line_with page_size a (flat_map cell w.counts) → c ≡ line_with page_size b (cell w.bytes) → d ≡ line_with page_size c (10 ∷ [])
    → d ≡ line_with page_size x (row_line i w)
unfolding row_line
row_of_parts i w x p q r s =
    s ∙ ap (λ (l : List ℕ). line_with page_size l (10 ∷ [])) (r ∙ ap (λ (l : List ℕ). line_with page_size l (cell w.bytes)) (q ∙ ap (λ (l : List ℕ). line_with page_size l (flat_map cell w.counts)) p
    ∙ with_both page_size x (caller_text i) (flat_map cell w.counts)) ∙ with_both page_size x (caller_text i ++ flat_map cell w.counts) (cell w.bytes))
    ∙ with_both page_size x (caller_text i ++ flat_map cell w.counts ++ cell w.bytes) (10 ∷ [])

pub row_short : (i : ℕ) (w : Row) → length (caller_text i) ≤ 4 → length (flat_map cell w.counts) ≤ length w.counts * 21 → length w.counts ≡ 19 → length (cell w.bytes) ≤ 21
    → length (row_line i w) ≤ row_size
unfolding row_line
row_short i w p q r s =
    omega (arith, length-append (caller_text i) (flat_map cell w.counts), length-append (caller_text i ++ flat_map cell w.counts) (cell w.bytes), length-append (caller_text i ++ flat_map cell w.counts ++ cell w.bytes) (10 ∷ []))

-- a page so far, and the rows that are left
pub record Rows (t : Tally) (page : List ℕ) (k : ℕ) : Type 0 where
  pub gives : page ++ row_lines k (drop k t.rows) ≡ page_of t
  pub short : length page ≤ 80 + k * 425

module _ (t : Tally) where
  pub no_rows : (page : List ℕ) → page ≡ line_with page_size [] names → Rows t page 0
  unfolding page_of digits_text decimal_text
  no_rows page e = rw e (record { gives = refl; short = omega arith })

  module _ {page : List ℕ} {k : ℕ} (r : Rows t page k) where
    pub rows_more : (next : List ℕ) (d : Row) → k < length t.rows → length t.rows ≡ 33 → next ≡ line_with page_size page (row_line k (get_or t.rows k d)) → length (row_line k (get_or t.rows k d)) ≤ row_size
        → Rows t next (k + 1)
    unfolding row_lines
    rows_more next d h e p q =
        let l = row_line k (get_or t.rows k d) in
        let n : next ≡ page ++ l = p ∙ ap (λ (x : List ℕ). page ++ x) (take_all (page_size - length page) l (omega (arith, r.short, q))) in
        record {
          gives = rw n (append_assoc page l (row_lines (k + 1) (drop (k + 1) t.rows)) ∙ ap (λ (x : List ℕ). page ++ x) (sym (at_drop_more (row_lines k) t.rows k d h)) ∙ r.gives);
          short = rw n (omega (arith, length-append page l, r.short, q));
        }

    pub all_rows : length t.rows ≤ k → page ≡ page_of t
    unfolding row_lines
    all_rows h = sym (append-nil page) ∙ ap (λ (x : List ℕ). page ++ x) (sym (at_drop_all (row_lines k) t.rows k h)) ∙ r.gives
