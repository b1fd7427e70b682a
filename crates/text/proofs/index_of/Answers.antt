use Rattle.std.proofs.Common.{rules, ◌≡◌, ◌∙◌, sym, refl, ◌≢◌}
use borrow.Author.Tests.{tests, eq-eqb, ne_eqb}
use Rattle.std.proofs.lemmas.Iterator.{YieldsList-from_slice, IsFirst-from_position, index_from_first}
use native.Mathlib.Numerals.{suc-eq-add-one}
use Rattle.text.proofs.Laws.{index_here, index_next}
use Rattle.text.specs.Bytes.{index_of}
use Rattle.text.proofs.index_of.Goals as goal

-- `text::index_of` meets its contract. Assumes nothing.

pub returns : goal.returns
unfolding index_of
returns c =
    let b = c.args.b in
    c.unwrap_or.ensures ∙ sym (index_from_first (index_of b) (λ x. x ≡ b) (λ x. x ≢ b) refl
    (λ x xs h. index_here b x xs (eq-eqb x b h))
    (λ x xs h. index_next b x xs (ne_eqb x b h) ∙ suc-eq-add-one _)
    c.args.s.now c.position.result
    (IsFirst-from_position _ _ _ (λ x. x ≡ b) (λ x. x ≢ b) c.position.ensures.ran (YieldsList-from_slice c.args.s.now cc) (λ x q k. search (rules, tests)) (λ x q k. search (rules, tests))))
