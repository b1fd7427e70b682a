-- The worked readings, by computing them.
-- Assumes nothing.
use mathlib.Core.Path.{refl}
use Rattle.label.specs.Tags.{digit_in, with_digit, empty}
use Rattle.text.specs.Bytes.{eq_bytes, index_of}
use Rattle.text.specs.Lines.{ahead, fields_in, has_names, names_once, column_of}
use Rattle.values.specs.Values.{digit_of, decimal_from, decimal_of, set_from, hex_set_of}
use Rattle.grouprows.specs.Groups.{group_columns, group_of}
use Rattle.grouprows.specs.Claims.{GroupsRead}

pub groups_read : GroupsRead
unfolding digit_in with_digit empty eq_bytes index_of ahead fields_in has_names names_once column_of digit_of decimal_from decimal_of set_from hex_set_of group_columns group_of
groups_read = record {
  named = refl;
  not_named = refl;
  numbers = refl;
  no_numbers = refl;
  row = refl;
  turned = refl;
  plain = refl;
  no_set = refl;
  short = refl;
  long = refl;
  plain_long = refl;
}
