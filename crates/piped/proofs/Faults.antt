-- The line of a refused text has few digits, since a text has no more lines than bytes.
-- Assumes nothing.
use Rattle.std.proofs.Common.{◌≡◌, refl, ap, ℕ, suc, ◌+◌, ◌*◌, ◌^◌, ◌≤◌, ◌<◌, Bool, true, false, cond, not, ◌&&◌, eqb, ltb, List, [], ◌∷◌, length, drop, Option, Some, None, Ok, Err, arith}
use Rattle.std.specs.Prelude.{IfSome}
use Rattle.std.specs.Option.{option_or, option_map_or}
use Rattle.std.proofs.lemmas.List.{length-drop}
use Rattle.std.proofs.lemmas.Bool.{ltb-false}
use Rattle.rules.specs.declared.Refusal.{Refusal}
use Rattle.rules.specs.declared.Refusal.TheVariants.{TextTooLong, BadLine, SlotTwice, EntityBreaksGroup}
use Rattle.rules.specs.Table.{is_free}
use Rattle.monitor.specs.Table.{entity_at}
use Rattle.text.specs.Lines.{Lines, done, cut, line, before, lines_of, next_line, line_end, fields_in}
use Rattle.rows.specs.declared.EntityColumns.{EntityColumns}
use Rattle.rows.specs.Entities.{EntitySaid, entity_of}
use Rattle.textblocks.specs.declared.Block.{Block}
use Rattle.textblocks.specs.declared.Place.{Place}
use Rattle.textblocks.specs.Blocks.{lines_past, start, lines_at, past_empty, groups_at, calls_at, rows_at, row_good, is_last, rows_bad, block_bad, entities_bad, groups_bad, calls_bad, bad_line}
use Rattle.load.specs.declared.Fault.{Fault}
use Rattle.load.specs.Tables.{Stored, breaks_at, with_entity, fill, entities_on, entities_in}
use Rattle.load.specs.Load.{Verdict, verdict_line, refuse_at, verdict_of}

-- how many whole lines there are
count : Lines → ℕ
count done = 0
count cut = 0
count (line l ls) = 1 + count ls

count-before : (b : ℕ) (ls : Lines) → count (before b ls) ≡ count ls
unfolding before count
count-before b done = refl
count-before b cut = refl
count-before b (line l ls) = refl

count-lines : (bs : List ℕ) → count (lines_of bs) ≤ length bs
unfolding lines_of count
count-lines [] = omega arith
count-lines (b ∷ bs) = go (eqb b 10) (count-lines bs)
  where
    go : (x : Bool) → count (lines_of bs) ≤ length bs → count (cond x (line [] (lines_of bs)) (before b (lines_of bs))) ≤ suc (length bs)
    go true h = omega (arith, h)
    go false h = omega (arith, count-before b (lines_of bs), h)

past-count : (ls : Lines) → lines_past ls ≤ count ls
unfolding lines_past count
past-count done = omega arith
past-count cut = omega arith
past-count (line [] ls) = omega arith
past-count (line (b ∷ l) ls) = omega (arith, past-count ls)

-- at most k, where there is one
abbrev Within : ℕ → Option ℕ → Type 0
Within k o = IfSome o (λ n. n ≤ k)

within-or : (k : ℕ) (a b : Option ℕ) → Within k a → Within k b → Within k (option_or a b)
within-or k None b p q = q
within-or k (Some n) b p q = p

module _ (text : List ℕ) where
  count-at : (at : ℕ) → count (lines_at text at) ≤ length text
  count-at at = omega (arith, count-lines (drop at text), length-drop at text)

  past-line : (p : Place) → (past_empty text p).line ≤ p.line + length text
  unfolding past_empty
  past-line p = omega (arith, past-count (lines_at text p.at), count-at p.at)

-- ---- 15

module _ (b : Block) where
  rows-within : (n i : ℕ) (ls : Lines) → Within (n + count ls) (rows_bad b n i ls)
  unfolding rows_bad count
  rows-within n i done = go (is_last b)
    where
      go : (x : Bool) → Within (n + 0) (cond x None (Some n))
      go true = tt
      go false = omega arith
  rows-within n i cut = omega arith
  rows-within n i (line l ls) = go (not (is_last b) && eqb (length l) 0) (row_good b i l) (rows_bad b (n + 1) (i + 1) ls) (rows-within (n + 1) (i + 1) ls)
    where
      go : (x y : Bool) (o : Option ℕ) → Within (n + 1 + count ls) o → Within (n + (1 + count ls)) (cond x None (cond y o (Some n)))
      go true y o h = tt
      go false true None h = tt
      go false true (Some k) h = omega (arith, h)
      go false false o h = omega arith

  block-within : (named : Bool) (text : List ℕ) (p : Place) → Within (p.line + 1 + length text) (block_bad b named text p)
  unfolding block_bad
  block-within named text p = go (ltb (line_end text p.at) (length text) && named) (rows_bad b (p.line + 1) 0 (rows_at text p)) (rows-within (p.line + 1) 0 (rows_at text p))
    where
      go : (x : Bool) (o : Option ℕ) → Within (p.line + 1 + count (rows_at text p)) o → Within (p.line + 1 + length text) (cond x o (Some p.line))
      go true None h = tt
      go true (Some k) h = omega (arith, h, count-at text (next_line text p.at))
      go false o h = omega arith

within-more : (j k : ℕ) (o : Option ℕ) → j ≤ k → Within j o → Within k o
within-more j k None l h = tt
within-more j k (Some n) l h = omega (arith, l, h)

abbrev most : List ℕ → ℕ
most text = 2 + 3 * length text

bad-within : (text : List ℕ) → Within (most text) (bad_line text)
unfolding bad_line entities_bad groups_bad calls_bad groups_at calls_at start
bad-within text =
    let g = past-line text start in let c = past-line text (groups_at text) in
    within-or (most text) _ _
    (within-or (most text) _ _
    (within-more _ (most text) _ (omega arith) (block-within _ _ text start))
    (within-more _ (most text) _ (omega (arith, g)) (block-within _ _ text (groups_at text))))
    (within-more _ (most text) _ (omega (arith, g, c)) (block-within _ _ text (calls_at text)))

-- ---- 16 and 17

record Marked (k : ℕ) (s : Stored) : Type 0 where
  twice : Within k s.twice
  breaks : Within k s.breaks

module _ (cs : EntityColumns) (k : ℕ) where
  fill-marked : (n : ℕ) (s : Stored) (ls : Lines) → n + count ls ≤ k → Marked k s → Marked k (fill cs n s ls)
  unfolding fill count breaks_at with_entity
  fill-marked n s done h m = m
  fill-marked n s cut h m = m
  fill-marked n s (line l ls) h m =
      go (entity_of cs (fields_in l)) (λ e. is_free (entity_at s.table e.slot).kind) (λ e. fill cs (n + 1) (with_entity n s e) ls)
      (λ e. fill-marked (n + 1) (with_entity n s e) ls (omega (arith, h)) (then e))
    where
      -- line n is marked, or what was before it
      here : (b : Bool) (o : Option ℕ) → Within k o → Within k (breaks_at o b n)
      here true o w = w
      here false None w = omega (arith, h)
      here false (Some j) w = w

      then : (e : EntitySaid) → Marked k (with_entity n s e)
      then e = record { twice = m.twice; breaks = here _ s.breaks m.breaks }

      go : (o : Option EntitySaid) (free : EntitySaid → Bool) (more : EntitySaid → Stored) → ((e : EntitySaid) → Marked k (more e))
          → Marked k (option_map_or (λ e. cond (free e) (more e) (record { twice = Some n; breaks = s.breaks; table = s.table })) o s)
      go None free more f = m
      go (Some e) free more f = free' (free e)
        where
          free' : (b : Bool) → Marked k (cond b (more e) (record { twice = Some n; breaks = s.breaks; table = s.table }))
          free' true = f e
          free' false = record { twice = omega (arith, h); breaks = m.breaks }

entities-marked : (text : List ℕ) → Marked (most text) (entities_in text)
unfolding entities_in entities_on
entities-marked text = fill-marked _ (most text) 2 _ (rows_at text start) (omega (arith, count-at text (next_line text start.at))) (record { twice = tt; breaks = tt })

-- ---- the line of a fault

verdict-within : (k : ℕ) (r : Refusal) (o : Option ℕ) (v : Verdict) → Within k o → ((f : Fault Refusal) → v ≡ Err f → f.line ≤ k) → (f : Fault Refusal) → refuse_at r o v ≡ Err f → f.line ≤ k
unfolding refuse_at
verdict-within k r None v w h f e = h f e
verdict-within k r (Some n) v w h f e = omega (arith, w, ap (λ (x : Verdict). verdict_line x) e)

pub fault-line : (text : List ℕ) (f : Fault Refusal) → verdict_of text ≡ Err f → f.line < 10 ^ 6
unfolding verdict_of
fault-line text f e = go (ltb 65535 (length text)) refl e
  where
    rest : Verdict
    rest = refuse_at BadLine (bad_line text) (refuse_at SlotTwice (entities_in text).twice (refuse_at EntityBreaksGroup (entities_in text).breaks (Ok tt)))

    within : (f : Fault Refusal) → rest ≡ Err f → f.line ≤ most text
    within =
        verdict-within (most text) BadLine (bad_line text) _ (bad-within text)
        (verdict-within (most text) SlotTwice (entities_in text).twice _ (entities-marked text).twice
        (verdict-within (most text) EntityBreaksGroup (entities_in text).breaks (Ok tt) (entities-marked text).breaks (λ f e. absurd cc)))

    go : (b : Bool) → ltb 65535 (length text) ≡ b → cond b (Err (record { refusal = TextTooLong; line = 0 })) rest ≡ Err f → f.line < 10 ^ 6
    go true l e = omega (arith, ap (λ (x : Verdict). verdict_line x) e)
    go false l e = omega (arith, ltb-false 65535 (length text) l, within f e)
