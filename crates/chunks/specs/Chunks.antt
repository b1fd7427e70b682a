-- Output in pieces, of which a lent buffer takes as many at a time as have room there: a chunk.
-- Assumes nothing.
use Rattle.std.specs.Prelude.{ℕ, zero, suc, ◌+◌, ◌-◌, ◌≤◌, ◌<◌, ◌≡◌, Bool, true, cond, ◌&&◌, List, [], ◌++◌, leb, length, Option, Some, None}
use Rattle.std.proofs.lemmas.List.Edits.{sets}

-- a buffer with bytes behind its first n, and where they end; without room, the buffer as it is, and none
abbrev pub appended : List ℕ → ℕ → List ℕ → List ℕ
appended out n l = cond (leb (n + length l) (length out)) (sets out n l) out

abbrev pub appended_to : List ℕ → ℕ → List ℕ → Option ℕ
appended_to out n l = cond (leb (n + length l) (length out)) (Some (n + length l)) None

-- From a state on: whether there is a piece, its bytes, the state after it; how many pieces are left at most, and how long
-- one is at most
pub record Pieces (S : Type 0) : Type 0 where
  pub more : S → Bool
  pub piece : S → List ℕ
  pub next : S → S
  pub left : S → ℕ
  pub most : ℕ

-- the two bounds hold
pub record Bounded {S : Type 0} (P : Pieces S) : Type 0 where
  pub fits : (s : S) → length (P.piece s) ≤ P.most
  pub fewer : (s : S) → P.more s ≡ true → P.left (P.next s) < P.left s

-- some bytes before others
abbrev pub onto : {S : Type 0} → List ℕ → List ℕ × S → List ℕ × S
onto xs r = (xs ++ r.0, r.1)

module _ {S : Type 0} (P : Pieces S) where
  -- the pieces from a state on, at most k, joined, and the state after them
  unfoldable pub concat_from : ℕ → S → List ℕ × S
  concat_from zero s = ([], s)
  concat_from (suc k) s = cond (P.more s) (onto (P.piece s) (concat_from k (P.next s))) ([], s)

  abbrev pub concat : S → List ℕ × S
  concat s = concat_from (P.left s) s

  -- those of them that so many bytes take: one more while the longest has room
  unfoldable pub chunk_from : ℕ → ℕ → S → List ℕ × S
  chunk_from zero room s = ([], s)
  chunk_from (suc k) room s =
      cond (P.more s && leb P.most room) (onto (P.piece s) (chunk_from k (room - length (P.piece s)) (P.next s))) ([], s)

  abbrev pub chunk : ℕ → S → List ℕ × S
  chunk room s = chunk_from (P.left s) room s

  -- chunk after chunk, at most k, each from where the one before it stopped
  unfoldable pub chunks_from : ℕ → ℕ → S → List ℕ × S
  chunks_from room zero s = ([], s)
  chunks_from room (suc k) s = cond (P.more s) (onto (chunk room s).0 (chunks_from room k (chunk room s).1)) ([], s)

  abbrev pub chunks : ℕ → S → List ℕ × S
  chunks room s = chunks_from room (P.left s) s

  -- Where the longest piece has room, chunk after chunk is all pieces, and a chunk leaves fewer than it found
  abbrev pub ChunksJoin : Type 0
  ChunksJoin = (room : ℕ) (s : S) → P.most ≤ room → chunks room s ≡ concat s

  abbrev pub ChunksAdvance : Type 0
  ChunksAdvance = (room : ℕ) (s : S) → P.most ≤ room → P.more s ≡ true → P.left (chunk room s).1 < P.left s
