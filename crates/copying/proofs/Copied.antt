-- What a copy leaves where the buffer has room for all of the bytes.
-- Assumes nothing.
use Rattle.std.proofs.Common.{◌≡◌, ℕ, ◌≤◌, List, ◌++◌, length, take, drop, ap, sym, ◌∙◌}
use Rattle.std.proofs.Math.Seq.{take-length}
use Rattle.std.proofs.lemmas.List.{take_all}

pub copied_whole : (s d : List ℕ) → length s ≤ length d
    → take (length d) s ++ drop (length s) d ≡ take (length s) s ++ drop (length s) d
copied_whole s d h = ap (λ (l : List ℕ). l ++ drop (length s) d) (take_all (length d) s h ∙ sym (take-length s))
