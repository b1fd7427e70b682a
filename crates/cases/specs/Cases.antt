-- Document 01, cases P1 to P14: a table, a call on it, the number returned and the bytes moved. And a call for each refusal, and one on
-- groups of each number.
-- Assumes nothing.
use Rattle.std.specs.Prelude.{◌≡◌, Bool, true, false, cond, List, [], ◌∷◌, map, ℕ, ◌^◌, eqb, get_or, replicate}
use Rattle.rules.specs.declared.Kind.TheVariants.{Item, Program}
use Rattle.rules.specs.Table.{Slot, Plain, plain, free, accepted}
use Rattle.rules.specs.Calls.{Call, put, show, send, add_tag, drop_tag, create, release, hand}
use Rattle.rules.specs.Refusals.{number_of, verdict}
use Rattle.rules.specs.Record.{answer}
use Rattle.rules.specs.Claims.{listed}
use Rattle.rules.specs.ByNumber.{passing}
use Rattle.label.specs.declared.Group.{Group}
use Rattle.label.specs.declared.Label.{Label}
use Rattle.label.specs.Tags.{label_of, empty}
use Rattle.label.specs.Words.{words}

-- a small table: slot 0 holds the caller, slot 1 the receiver, the others are free
pub record Small : Type 0 where
  pub groups : List Group
  pub caller : Slot words
  pub receiver : Slot words

abbrev pub table_of : Small → Plain words
table_of t = record { slots = λ i. cond (eqb i 0) t.caller (cond (eqb i 1) t.receiver free); groups = t.groups }

abbrev small : List Group → Slot words → Slot words → Small
small groups a b = record { groups = groups; caller = a; receiver = b }

pub record Case : Type 0 where
  pub table : Small
  pub call : Call words
  pub number : ℕ
  pub count : ℕ

-- a group of the tags of a number, and the most of them that an entity may have
abbrev pub group : ℕ → ℕ → Group
group tags most = record { tags = label_of tags; most = most }

-- a program with this S, I, rights to add to S and to drop from S, and content
abbrev program : Label → Label → Label → Label → List ℕ → Slot words
program s i sa sd bs = record { kind = Program; sec = s; int = i; rights = record { sa = sa; sd = sd; ia = empty; id = empty }; content = bs }

abbrev labelled : Label → Label → List ℕ → Slot words
labelled s i bs = program s i empty empty bs

abbrev three : List ℕ
three = 1 ∷ 2 ∷ 3 ∷ []

abbrev pub cases : List Case
cases =
    -- P1 S {0} sends to S {0,1}, I empty; P2 the reverse
    record { table = small [] (labelled (label_of 1) empty three) (labelled (label_of 3) empty []); call = send 0 1; number = 0; count = 3 }
    ∷ record { table = small [] (labelled (label_of 3) empty three) (labelled (label_of 1) empty []); call = send 0 1; number = 7; count = 0 }
    -- P3 I {} sends to I {2}, S empty; P4 the reverse
    ∷ record { table = small [] (labelled empty empty three) (labelled empty (label_of 4) []); call = send 0 1; number = 7; count = 0 }
    ∷ record { table = small [] (labelled empty (label_of 4) three) (labelled empty empty []); call = send 0 1; number = 0; count = 3 }
    -- P5 send to itself, 64 bytes
    ∷ record { table = small [] (labelled empty empty (replicate 64 7)) free; call = send 0 0; number = 0; count = 64 }
    -- P6 add tag 63 to S with the right; P7 add tag 64
    ∷ record { table = small [] (program empty empty (label_of (2 ^ 63)) empty three) free; call = add_tag 0 0 63; number = 0; count = 0 }
    ∷ record { table = small [] (program empty empty (label_of (2 ^ 63)) empty three) free; call = add_tag 0 0 64; number = 2; count = 0 }
    -- P8 drop a tag not worn, no right
    ∷ record { table = small [] (labelled empty empty three) free; call = drop_tag 0 0 5; number = 10; count = 0 }
    -- P9 put 64 bytes; P10 put 65
    ∷ record { table = small [] (labelled empty empty three) free; call = put 0 (replicate 64 7); number = 0; count = 64 }
    ∷ record { table = small [] (labelled empty empty three) free; call = put 0 (replicate 65 7); number = 5; count = 0 }
    -- P11 group {0,1} of number 1, the receiver wears only 0 and has no rights, the caller hands its right to drop 1; P12 the same with tag 0
    ∷ record { table = small (group 3 1 ∷ []) (program empty empty empty (label_of 2) three) (labelled (label_of 1) empty []); call = hand 0 1 1 1; number = 11; count = 0 }
    ∷ record { table = small (group 3 1 ∷ []) (program empty empty empty (label_of 1) three) (labelled (label_of 1) empty []); call = hand 0 1 1 0; number = 0; count = 0 }
    -- P13 show 3 bytes into 2; P14 into 3
    ∷ record { table = small [] (labelled empty empty three) free; call = show 0 (replicate 2 0); number = 6; count = 0 }
    ∷ record { table = small [] (labelled empty empty three) free; call = show 0 (replicate 3 0); number = 0; count = 3 }
    ∷ []

-- what a case is about: whether its table is accepted, and what the call's record says in bytes 3 and 4
pub record Result : Type 0 where
  pub accepted : Bool
  pub number : ℕ
  pub count : ℕ

abbrev pub given : Case → Result
given k = record {
  accepted = accepted (plain words) (table_of k.table);
  number = get_or (answer (plain words) (table_of k.table) k.call).entry 3 0;
  count = get_or (answer (plain words) (table_of k.table) k.call).entry 4 0;
}

abbrev pub stated : Case → Result
stated k = record { accepted = true; number = k.number; count = k.count }

-- Each table is accepted, and each call gives the stated number and bytes moved
abbrev pub CasesHold : Type 0
CasesHold = map given cases ≡ map stated cases

-- ---- each refusal of a call occurs: for every number that is listed, in order, a table and a call that it turns down

abbrev two : Slot words → Small
two b = small [] (program empty empty (label_of 1) empty three) b

abbrev item : Label → Slot words
item sa = record { kind = Item; sec = empty; int = empty; rights = record { sa = sa; sd = empty; ia = empty; id = empty }; content = [] }

abbrev pub turned_down : List (Small × Call words)
turned_down =
    (two free, put 1 three)
    ∷ (two free, send 0 32)
    ∷ (two free, send 0 1)
    ∷ (two (item empty), create 0 1 1)
    ∷ (two free, put 0 (replicate 65 7))
    ∷ (two free, show 0 (replicate 2 0))
    ∷ (two (labelled empty (label_of 4) []), send 0 1)
    ∷ (two (labelled empty empty []), release 0 1)
    ∷ (two (item empty), hand 0 1 0 0)
    ∷ (two free, add_tag 0 0 1)
    ∷ (small (group 3 1 ∷ []) (program empty empty (label_of 1) empty three) (labelled (label_of 2) empty []), hand 0 1 0 0)
    ∷ (two (item (label_of 1)), put 0 three)
    ∷ []

abbrev pub EachOccurs : Type 0
EachOccurs = map (λ k. number_of (verdict (plain words) (table_of k.0) k.1)) turned_down ≡ passing 256 listed

-- ---- groups with an allowance (document 02, change 5): a nursery's trial program bears its tag 0 and may add 1; it is handed the right to
-- drop 2. So it has two tags before the hand and would have three

abbrev pub trial : List Group → Small
trial gs = small gs (program empty empty empty (label_of 4) three) (program (label_of 1) empty (label_of 2) empty [])

pub record Trial : Type 0 where
  pub groups : List Group
  pub accepted : Bool
  pub number : ℕ

abbrev pub trials : List Trial
trials =
    -- a group of the tags 0 to 3, by its number: 0 and 65 lack the form
    record { groups = group 15 0 ∷ []; accepted = false; number = 99 }
    ∷ record { groups = group 15 1 ∷ []; accepted = false; number = 11 }
    ∷ record { groups = group 15 2 ∷ []; accepted = true; number = 11 }
    ∷ record { groups = group 15 3 ∷ []; accepted = true; number = 0 }
    ∷ record { groups = group 15 64 ∷ []; accepted = true; number = 0 }
    ∷ record { groups = group 15 65 ∷ []; accepted = false; number = 99 }
    -- a number larger than the group binds nobody
    ∷ record { groups = group 7 4 ∷ []; accepted = true; number = 0 }
    -- each group by its own number: beside the first stands one of the tags 0 and 2
    ∷ record { groups = group 15 3 ∷ group 5 1 ∷ []; accepted = true; number = 11 }
    ∷ record { groups = group 15 3 ∷ group 5 2 ∷ []; accepted = true; number = 0 }
    ∷ record { groups = group 5 2 ∷ group 15 3 ∷ []; accepted = true; number = 0 }
    ∷ record { groups = group 5 1 ∷ group 15 3 ∷ []; accepted = true; number = 11 }
    ∷ record { groups = group 5 2 ∷ group 15 2 ∷ []; accepted = true; number = 11 }
    -- and each has to have the form
    ∷ record { groups = group 15 3 ∷ group 5 0 ∷ []; accepted = false; number = 99 }
    ∷ []

-- the trial program is handed the right
abbrev pub tried : Trial → Trial
tried k = record {
  groups = k.groups;
  accepted = accepted (plain words) (table_of (trial k.groups));
  number = number_of (verdict (plain words) (table_of (trial k.groups)) (hand 0 1 1 2));
}

abbrev pub TrialsHold : Type 0
TrialsHold = map tried trials ≡ trials
