-- What reads consume, one after another, each behind the one before it in a buffer.
-- Assumes nothing.
use Rattle.std.proofs.Common.{◌≡◌, sym, ap, ◌∙◌, ℕ, ◌+◌, ◌≤◌, List, ◌++◌, length, take, Option, Some, None}
use Rattle.std.specs.Io.KnownBytes.{Consumes}
use Rattle.std.proofs.Math.Seq.{take-append-add}
use Rattle.std.proofs.lemmas.List.{append_assoc, length-take-le, take-append-le}
use borrow.Rule.Slice.PartMut.{put_mid, post_of}

pub consumes_more : (a b c : Option (List ℕ)) (xs ys : List ℕ) → Consumes a b xs → Consumes b c ys → Consumes a c (xs ++ ys)
consumes_more None b c xs ys p q = tt
consumes_more (Some ms) None c xs ys p q = absurd p
consumes_more (Some ms) (Some ns) None xs ys p q = absurd q
consumes_more (Some ms) (Some ns) (Some rest) xs ys p q = p ∙ ap (λ (l : List ℕ). xs ++ l) q ∙ sym (append_assoc xs ys rest)

-- the front of a buffer after a read of n bytes behind its first `at`
pub filled_more : (at n k : ℕ) (buf bs : List ℕ) → at ≤ length buf → n ≤ length bs → take (at + n) (put_mid at k buf bs) ≡ take at buf ++ take n bs
filled_more at n k buf bs p q =
    let e : at + n ≡ length (take at buf) + n = ap (λ (m : ℕ). m + n) (sym (length-take-le at buf p)) in
    rw e (take-append-add (take at buf) (bs ++ post_of at k buf) n) ∙ ap (λ (l : List ℕ). take at buf ++ l) (take-append-le n bs (post_of at k buf) q)
