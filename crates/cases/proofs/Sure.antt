-- A run from a table in form stays in form, so that its form need not be computed at each call; and a run that is known call by
-- call need not be computed from its start.
-- Assumes nothing.
use mathlib.Core.Path.{◌≡◌, refl, ap, ap₂, sym, ◌∙◌}
use mathlib.Core.Bool.{Bool, true, cond}
use mathlib.Core.List.{List, [], ◌∷◌, ◌++◌}
use Prim.Native.Nat.{ℕ}
use Rattle.rules.specs.Table.{Tables}
use Rattle.rules.specs.Calls.{Call}
use Rattle.rules.specs.Record.{answer, audit}
use Rattle.rules.specs.Runs.{final, trace, kept, Event, call, preview, call_of, gained, next, answer_to, records}
use Rattle.rules.specs.Laws.{TableLaws}
use Rattle.rules.proofs.Steps.{step_formed}
use Rattle.label.specs.Words.{words}
use Rattle.label.proofs.Words.{words_order}
use Rattle.cases.specs.Rounds.{Line, events, told, turns, expected}

-- the same tables, each taken to be in form
abbrev pub sure : Tables words → Tables words
sure T = record { Table = T.Table; formed = λ t. true; slot = T.slot; groups = T.groups; store = T.store }

-- the table at the end of a round
abbrev pub end : {X : Type 0} → X → List (Line X) → X
end t [] = t
end t (l ∷ ls) = end (l.after t) ls

head_is : {X : Type 0} {x y : X} {xs ys : List X} → x ∷ xs ≡ y ∷ ys → x ≡ y
head_is e = cc

tail_is : {X : Type 0} {x y : X} {xs ys : List X} → x ∷ xs ≡ y ∷ ys → xs ≡ ys
tail_is e = cc

module _ (T : Tables words) (L : TableLaws T) where
  sure_next : (t : T.Table) (e : Event words) → T.formed t ≡ true → next T t e ≡ next (sure T) t e
  sure_next t (call c) f = rw f
  sure_next t (preview c) f = refl

  pub sure_answer : (t : T.Table) (c : Call words) → T.formed t ≡ true → answer T t c ≡ answer (sure T) t c
  sure_answer t c f = rw f

  next-formed : (t : T.Table) (e : Event words) → T.formed t ≡ true → T.formed (next T t e) ≡ true
  next-formed t (call c) f = step_formed T words_order L t c f
  next-formed t (preview c) f = f

  -- what a run keeps
  pub kept_sure : (f : T.Table → Event words → Bool) (t : T.Table) (es : List (Event words)) → T.formed t ≡ true → kept (next T) f t es ≡ kept (next (sure T)) f t es
  kept_sure f t [] h = refl
  kept_sure f t (e ∷ es) h = ap (λ (xs : List (Event words)). cond (f t e) xs (e ∷ xs))
      (kept_sure f (next T t e) es (next-formed t e h) ∙ ap (λ (u : T.Table). kept (next (sure T)) f u es) (sure_next t e h))

  -- the table that a line leaves is in form
  after-formed : (t u : T.Table) (e : Event words) → T.formed t ≡ true → next T t e ≡ u → T.formed u ≡ true
  after-formed t u e f q = ap T.formed (sym q) ∙ next-formed t e f

  -- a round that plays where tables are taken to be in form plays
  pub round_sure : (t : T.Table) (ls : List (Line T.Table)) → T.formed t ≡ true → turns (sure T) t ls ≡ expected t ls → turns T t ls ≡ expected t ls
  round_sure t [] f r = refl
  round_sure t (l ∷ ls) f r =
      let p = head_is r in
      let a = sure_answer t (call_of l.event) f in
      let s = sure_next t l.event f in
      ap₂ ◌∷◌ ((λ z. record { entry = (a z).entry; part = (a z).part; table = s z }) ∙ p)
      (round_sure (l.after t) ls (after-formed t (l.after t) l.event f (s ∙ ap (λ g. g.table) p)) (tail_is r))

  -- what a run of a round gives is what its lines say
  pub round_told : {X : Type 0} (f : List ℕ → List ℕ → List X) (t : T.Table) (ls : List (Line T.Table)) → turns T t ls ≡ expected t ls
      → trace (next T) (λ u e. f (answer_to T u e).entry (answer_to T u e).part) t (events ls) ≡ told (λ l. f l.entry l.part) ls
  round_told f t [] r = refl
  round_told f t (l ∷ ls) r = let p = head_is r in
      (λ z. f (p z).entry (p z).part ++ trace (next T) (λ u e. f (answer_to T u e).entry (answer_to T u e).part) (p z).table (events ls))
      ∙ ap (λ xs. f l.entry l.part ++ xs) (round_told f (l.after t) ls (tail_is r))

  -- so are its records
  pub round_records : (t : T.Table) (ls : List (Line T.Table)) → turns T t ls ≡ expected t ls → records T t (events ls) ≡ told (λ l. gained l.event l.entry) ls
  round_records t [] r = refl
  round_records t (l ∷ ls) r = let p = head_is r in
      (λ z. gained l.event (p z).entry ++ records T (p z).table (events ls)) ∙ ap (λ xs. gained l.event l.entry ++ xs) (round_records (l.after t) ls (tail_is r))

  round_end : (t : T.Table) (ls : List (Line T.Table)) → turns T t ls ≡ expected t ls → final (next T) t (events ls) ≡ end t ls
  round_end t [] r = refl
  round_end t (l ∷ ls) r = let p = head_is r in (λ z. final (next T) (p z).table (events ls)) ∙ round_end (l.after t) ls (tail_is r)

  end_formed : (t : T.Table) (ls : List (Line T.Table)) → T.formed t ≡ true → turns T t ls ≡ expected t ls → T.formed (end t ls) ≡ true
  end_formed t [] f r = f
  end_formed t (l ∷ ls) f r = end_formed (l.after t) ls (after-formed t (l.after t) l.event f (ap (λ g. g.table) (head_is r))) (tail_is r)

  pub round_audit : (t : T.Table) (ls : List (Line T.Table)) → T.formed t ≡ true → turns T t ls ≡ expected t ls → (i : ℕ) (buf : List ℕ)
      → audit T (final (next T) t (events ls)) i (records T t (events ls)) buf ≡ audit (sure T) (end t ls) i (told (λ l. gained l.event l.entry) ls) buf
  round_audit t ls f r i buf = ap₂ (λ (u : T.Table) (list : List ℕ). audit T u i list buf) (round_end t ls r) (round_records t ls r) ∙ go (end_formed t ls f r)
    where
      go : T.formed (end t ls) ≡ true → audit T (end t ls) i (told (λ l. gained l.event l.entry) ls) buf ≡ audit (sure T) (end t ls) i (told (λ l. gained l.event l.entry) ls) buf
      go h = rw h
