-- A list in pieces.
-- Assumes nothing.
use Rattle.std.proofs.Common.{◌≡◌, refl, sym, ap, ◌∙◌, ℕ, zero, suc, ◌*◌, ◌/◌, ◌%◌, List, [], ◌∷◌, ◌++◌, length, take, drop, arith, Result, Ok, Err}
use Rattle.std.proofs.lemmas.List.{length-append, length-take-le, length-drop, take-append-drop, append_assoc}
use Rattle.std.specs.List.{concat}
use Rattle.rules.specs.declared.Refusal.{Refusal}
use Rattle.rules.specs.Record.{record_size}
use Rattle.label.specs.Words.{words}
use Rattle.tally.specs.declared.Tally.{Tally}
use Rattle.tally.specs.Tally.{counted, counted_all, records_of, with_records}
use Rattle.tally.specs.Claims.{and_then, with_pieces, IsWhole, PiecesJoin}
use Rattle.tally.proofs.Counting.{counted_more, counted_none}

-- n records before others
records_before : (n : ℕ) (t : Tally) (a b : List ℕ) → length a ≡ n * record_size words → counted_all t (records_of (a ++ b)) ≡ counted_all (counted_all t (records_of a)) (records_of b)
records_before zero t [] b h = ap (λ (u : Tally). counted_all u (records_of b)) (counted_none t [] (omega arith))
records_before zero t (x ∷ a) b h = absurd (omega (arith, h))
records_before (suc n) t a b h =
    let r = take 16 a in let rest = drop 16 a in
    let split : r ++ rest ≡ a = take-append-drop 16 a in
    let size : length r ≡ 16 = length-take-le 16 a (omega (arith, h)) in
    ap (λ (x : List ℕ). counted_all t (records_of (x ++ b))) (sym split)
    ∙ ap (λ (x : List ℕ). counted_all t (records_of x)) (append_assoc r rest b)
    ∙ counted_more t r (rest ++ b) size
    ∙ records_before n (counted t r) rest b (omega (arith, h, length-drop 16 a))
    ∙ ap (λ (u : Tally). counted_all u (records_of b)) (sym (counted_more t r rest size) ∙ ap (λ (x : List ℕ). counted_all t (records_of x)) split)

module _ (t : Tally) (a : List ℕ) (h : IsWhole a) where
  pub whole : with_records t a ≡ Ok (counted_all t (records_of a))
  unfolding with_records
  whole = rw h refl

  -- a piece of whole records before others
  pub with_piece : (b : List ℕ) → with_records t (a ++ b) ≡ and_then (with_records t a) (λ u. with_records u b)
  unfolding with_records
  with_piece b =
      let s : length (a ++ b) % 16 ≡ length b % 16 = omega (arith, length-append a b, h) in
      let w : with_records t (a ++ b) ≡ with_records (counted_all t (records_of a)) b = rw (s, records_before (length a / 16) t a b (omega (arith, h))) in
      w ∙ ap (λ (r : Result Tally Refusal). and_then r (λ u. with_records u b)) (sym whole)

pub pieces_join : PiecesJoin
unfolding with_pieces
pieces_join t [] last w = go (with_records t last)
  where
    go : (r : Result Tally Refusal) → and_then r Ok ≡ r
    go (Ok u) = refl
    go (Err e) = refl
pieces_join t (p ∷ ps) last w =
    let h = w 0 [] (omega arith) in
    ap (λ (r : Result Tally Refusal). and_then r (λ u. with_pieces u (ps ++ last ∷ []))) (whole t p h)
    ∙ pieces_join (counted_all t (records_of p)) ps last (λ k d l. w (suc k) d (omega (arith, l)))
    ∙ sym (ap (with_records t) (append_assoc p (concat ps) last) ∙ with_piece t p h (concat ps ++ last)
    ∙ ap (λ (r : Result Tally Refusal). and_then r (λ u. with_records u (concat ps ++ last))) (whole t p h))
