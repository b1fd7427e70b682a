-- The room of n bytes after others are put behind those that lie in it.
-- Assumes nothing.
use Rattle.std.proofs.Common.{◌≡◌, sym, ap, ◌∙◌, ℕ, ◌+◌, ◌-◌, ◌≤◌, List, ◌++◌, length, take, drop, replicate, arith, length-append, length-take-le}
use Rattle.std.proofs.Math.Seq.{take-append_seam, drop-append_seam}
use Rattle.std.proofs.lemmas.List.{append_assoc, drop-replicate, length-replicate}
use borrow.Rule.Slice.PartMut.{put_mid}
use Rattle.bounded.specs.ByteVec.{padded}

-- src goes behind the first len bytes
module _ (n len : ℕ) (bs src : List ℕ) (h : len + length src ≤ n) (hb : length bs ≡ n) (z : padded n (take len bs) ≡ bs) where
  abbrev front : List ℕ
  front = take len bs

  front-length : length front ≡ len
  front-length = length-take-le len bs (omega arith)

  behind : drop len bs ≡ replicate (n - len) 0
  behind =
      ap (drop len) (sym z) ∙ ap (λ (k : ℕ). drop k (padded n front)) (sym front-length)
      ∙ drop-append_seam front (replicate (n - length front) 0) ∙ ap (λ (k : ℕ). replicate (n - k) 0) front-length

  abbrev after : List ℕ
  after = front ++ src

  after-length : length after ≡ len + length src
  after-length = omega (arith, length-append front src, front-length)

  abbrev end : ℕ
  end = len + length src

  module _ (ys : List ℕ) (e : ys ≡ src) where
    abbrev room : List ℕ
    room = put_mid len (end - len) bs ys

    rest_is : drop (end - len) (drop len bs) ≡ replicate (n - length after) 0
    rest_is =
        let k : n - len - (end - len) ≡ n - length after = omega (arith, after-length) in
        ap (drop (end - len)) behind ∙ drop-replicate {X = ℕ} (end - len) (n - len) 0 ∙ ap (λ (i : ℕ). replicate i 0) k

    room_is : room ≡ padded n after
    room_is =
        ap (λ (l : List ℕ). front ++ (ys ++ l)) rest_is ∙ ap (λ (l : List ℕ). front ++ (l ++ replicate (n - length after) 0)) e
        ∙ sym (append_assoc front src (replicate (n - length after) 0))

    pub room-length : length room ≡ n
    room-length = ap length room_is ∙ omega (arith, length-append after (replicate (n - length after) 0), length-replicate {A = ℕ} (n - length after) 0, after-length)

    pub room-front : take end room ≡ after
    room-front =
        let k : end ≡ length after = omega (arith, after-length) in
        ap (take end) room_is ∙ ap (λ (i : ℕ). take i (padded n after)) k ∙ take-append_seam after (replicate (n - length after) 0)

    pub room-padded : padded n (take end room) ≡ room
    room-padded = ap (padded n) room-front ∙ sym room_is
