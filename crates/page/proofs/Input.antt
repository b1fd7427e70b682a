-- The records that an input gives, a buffer at a time.
-- Assumes nothing.
use Rattle.std.proofs.Common.{◌≡◌, refl, sym, ap, ◌∙◌, List, ◌++◌, length, ℕ, ◌+◌, ◌-◌, ◌*◌, ◌^◌, ◌≤◌, Option, Some, None, Ok, arith}
use Rattle.std.proofs.lemmas.List.{append-nil, length-append}
use Rattle.std.specs.Prelude.{⊤, IfSome}
use Rattle.std.specs.Io.KnownBytes.{Consumes, IsAtEnd}
use Rattle.tally.specs.declared.Tally.{Tally}
use Rattle.tally.specs.Tally.{no_records, with_records, tally_of}
use Rattle.tally.specs.Claims.{and_then}
use Rattle.tally.proofs.Pieces.{with_piece}
use Rattle.page.specs.Page.{IsTooLong}

-- what is left of an input whose bytes are known gives, with the tally so far, the tally of all; k full buffers are read
abbrev pub Left : Option (List ℕ) → Option (List ℕ) → Tally → ℕ → Type 0
Left None rest t k = ⊤
Left (Some list) None t k = ⊥
Left (Some list) (Some rest) t k = (with_records t rest ≡ tally_of list) × (k * 65536 + length rest ≡ length list)

pub all_left : (known : Option (List ℕ)) → Left known known no_records 0
all_left None = tt
all_left (Some list) = (refl, omega arith)

-- after a full buffer
pub left_more : (known a b : Option (List ℕ)) (t next : Tally) (k : ℕ) (bs : List ℕ) → Left known a t k → Consumes a b bs → length bs ≡ 65536 → with_records t bs ≡ Ok next
    → Left known b next (k + 1)
left_more None a b t next k bs l c w e = tt
left_more (Some list) None b t next k bs l c w e = absurd l
left_more (Some list) (Some xs) None t next k bs l c w e = absurd c
left_more (Some list) (Some xs) (Some ys) t next k bs l c w e = (
  ap (λ (r : _). and_then r (λ u. with_records u ys)) (sym e) ∙ sym (with_piece t bs (omega (arith, w)) ys) ∙ ap (with_records t) (sym c) ∙ l.0,
  omega (arith, l.1, ap length c, length-append bs ys, w),
)

-- after the last
pub left_none : (known a b : Option (List ℕ)) (t : Tally) (k : ℕ) (bs : List ℕ) → Left known a t k → Consumes a b bs → IsAtEnd b → IfSome known (λ list. with_records t bs ≡ tally_of list)
left_none None a b t k bs l c e = tt
left_none (Some list) None b t k bs l c e = absurd l
left_none (Some list) (Some xs) None t k bs l c e = absurd c
left_none (Some list) (Some xs) (Some ys) t k bs l c e = ap (with_records t) (sym (append-nil bs) ∙ ap (λ (y : List ℕ). bs ++ y) (sym e) ∙ sym c) ∙ l.0

-- after more buffers than a loop may take
pub left_beyond : (known a : Option (List ℕ)) (t : Tally) (k : ℕ) → Left known a t k → 2 ^ 64 - 1 ≤ k → IsTooLong known
left_beyond None a t k l h = tt
left_beyond (Some list) None t k l h = absurd l
left_beyond (Some list) (Some xs) t k l h = omega (arith, l.1, h)
