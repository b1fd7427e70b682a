-- The labels of the hub: sets of the tags 0 to 63, in one 64-bit number.
-- Assumes nothing.
use Rattle.std.specs.Prelude.{ℕ, true, ltb, drop}
use Rattle.std.proofs.Math.Option.{Option, none, some}
use Rattle.rules.specs.Labels.{Labels}
use Rattle.label.specs.declared.Group.{Group}
use Rattle.label.specs.declared.Label.{Label}
use Rattle.label.specs.Tags.{empty, has_tag, subset_of, equal_of, union_of, with_tag, without_tag, keeps_to, group_formed, bytes_of, from_bytes}

-- the tag as given, 255 where the call does not use it
abbrev pub tag_byte : Option ℕ → ℕ
tag_byte none = 255
tag_byte (some p) = p

-- A tag is the byte that a call gives, a group is a set of tags with its number
abbrev pub words : Labels
words = record {
  Label = Label;
  Tag = ℕ;
  Group = Group;
  empty = empty;
  below = subset_of;
  same = equal_of;
  join = union_of;
  has = has_tag;
  insert = λ p a. with_tag a p;
  remove = λ p a. without_tag a p;
  outside = λ p. ltb 63 p;
  keeps = keeps_to;
  group_formed = group_formed;
  byte5 = λ p need. tag_byte p;
  tail = λ p need. bytes_of need;
  width = 8;
  readable = λ r. true;
  need_in = λ r. from_bytes (drop 8 r);
}
