-- The content area: 2,048 bytes, a block of 64 for each slot.
-- Assumes nothing.
use Rattle.std.specs.Prelude.{Bool, cond, List, [], ◌++◌, ℕ, ◌*◌, ◌-◌, min, ltb, eqb, length, take, drop, replicate}
use Rattle.std.specs.List.{list_all}
use Rattle.std.proofs.Math.Seq.{paste}

abbrev pub all_zero : List ℕ → Bool
all_zero bs = list_all (λ x. eqb x 0) bs

unfoldable pub no_block : List ℕ
no_block = replicate 64 0

-- a block: a content, with zeros behind it
unfoldable pub padded : List ℕ → List ℕ
padded bs = take 64 bs ++ replicate (64 - length bs) 0

-- the block of a slot; a slot above 31 has zeros
unfoldable pub block_at : List ℕ → ℕ → List ℕ
block_at content k = cond (ltb k 32) (take 64 (drop (k * 64) content)) no_block

-- the bytes that the content has of a slot's block; a slot above 31 has none
abbrev pub bytes_at : List ℕ → ℕ → List ℕ
bytes_at content k = cond (ltb k 32) (block_at content k) []

-- the content with another block in a slot; a slot above 31 takes none
unfoldable pub with_block : List ℕ → ℕ → List ℕ → List ℕ
with_block content k block = cond (ltb k 32) (paste content (k * 64) block 64) content

-- a buffer with the first n bytes of a block at its front, as far as there are so many in either
unfoldable pub filled_front : List ℕ → ℕ → List ℕ → List ℕ
filled_front block n buf = take (min (min n 64) (length buf)) block ++ drop (min (min n 64) (length buf)) buf
