-- Document 01, 'When a call is turned down': the refusals, each with its number, and what a call comes to.
-- Assumes nothing.
use Rattle.std.specs.Prelude.{ℕ, Result}
use Rattle.rules.specs.declared.Refusal.{Refusal}
use Rattle.rules.specs.declared.Refusal.TheVariants.{NoProgram, OutOfRange, SlotFree, SlotTaken, TooLong, NoRoom, FlowForbidden, NotReleasable, OtherIsItem, NoRight, BreaksGroup, ListNotWhole, NoRoomForRecords, TextTooLong, BadLine, SlotTwice, EntityBreaksGroup, Formless}

abbrev pub number : Refusal → ℕ
number NoProgram = 1
number OutOfRange = 2
number SlotFree = 3
number SlotTaken = 4
number TooLong = 5
number NoRoom = 6
number FlowForbidden = 7
number NotReleasable = 8
number OtherIsItem = 9
number NoRight = 10
number BreaksGroup = 11
number ListNotWhole = 12
number NoRoomForRecords = 13
number TextTooLong = 14
number BadLine = 15
number SlotTwice = 16
number EntityBreaksGroup = 17
number Formless = 99

-- a call is allowed, or turned down by a refusal
abbrev pub Outcome : Type 0
Outcome = Result (Unit {0}) Refusal
