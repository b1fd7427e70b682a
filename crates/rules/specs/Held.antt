-- Document 01, 'The table', on conflict groups, read a second time: what an entity has by the order of labels, and every group by
-- its place.
-- Assumes nothing.
use Rattle.std.specs.Prelude.{◌≡◌, true, ◌&&◌, List, ℕ, ◌<◌, length, get_or}
use Rattle.rules.specs.Labels.{Labels}
use Rattle.rules.specs.Table.{Slot, held, keeps_all}

-- What an entity has is the least that takes in its S, its I and its four rights: a label takes it in exactly when it takes in
-- each of the six
abbrev pub HoldsSix : Labels → Type 0
HoldsSix A = (e : Slot A) (l : A.Label) → A.below (held e) l
    ≡ A.below e.sec l && (A.below e.int l
    && (A.below e.rights.sa l && (A.below e.rights.sd l && (A.below e.rights.ia l && A.below e.rights.id l))))

-- An entity that keeps to the groups keeps to each, whatever its place in the list; and one that keeps to each keeps to them. (Behind
-- the list would stand d, whichever group that is.)
pub record EachKept {A : Labels} (d : A.Group) (gs : List A.Group) (e : Slot A) : Type 0 where
  pub each : keeps_all gs e ≡ true → (k : ℕ) → k < length gs → A.keeps (get_or gs k d) (held e) ≡ true
  pub all : ((k : ℕ) → k < length gs → A.keeps (get_or gs k d) (held e) ≡ true) → keeps_all gs e ≡ true

abbrev pub KeptByPlace : Labels → Type 0
KeptByPlace A = (d : A.Group) (gs : List A.Group) (e : Slot A) → EachKept d gs e
