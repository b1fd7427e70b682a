-- The operations on labels that the hub's rules use. Their laws are in Laws, apart.
-- Assumes nothing.
use Rattle.std.specs.Prelude.{Bool, List, ℕ}
use Rattle.std.proofs.Math.Option.{Option}

pub record Labels : Type 1 where
  -- a set of tags, a tag as a call names it, a conflict group
  pub Label : Type 0
  pub Tag : Type 0
  pub Group : Type 0
  -- the label with no tag
  pub empty : Label
  -- every tag of the first is in the second
  pub below : Label → Label → Bool
  -- both have the same tags
  pub same : Label → Label → Bool
  -- the tags of either
  pub join : Label → Label → Label
  pub has : Label → Tag → Bool
  pub insert : Tag → Label → Label
  pub remove : Tag → Label → Label
  -- what is named is no tag of the hub's
  pub outside : Tag → Bool
  -- whether who holds so much, all sets together, keeps to a group; and whether a group has the form, without which a table lacks it
  pub keeps : Group → Label → Bool
  pub group_formed : Group → Bool
  -- of a record: byte 5 and the bytes from 8 on, by the tag given, if the call uses one, and the need; how many bytes these
  -- are; and of any bytes of a record's size whether a need can be read from them, and which
  pub byte5 : Option Tag → Label → ℕ
  pub tail : Option Tag → Label → List ℕ
  pub width : ℕ
  pub readable : List ℕ → Bool
  pub need_in : List ℕ → Label
