-- An allowed call writes one slot of the struct, and a release clears one.
-- Assumes nothing.
use mathlib.Core.Path.{◌≡◌, refl, sym, ap, ◌∙◌}
use mathlib.Core.Bool.{false}
use mathlib.Core.List.{List}
use Prim.Native.Nat.{ℕ, ◌<◌}
use lib.Dec.{eqb}
use lib.ListN.{length, get_or, get_or-replicate}
use borrow.Author.Tests.{eq-eqb}
use Rattle.rules.specs.Numbers.{Outcome}
use Rattle.std.specs.Prelude.{Ok, Err}
use Rattle.rules.specs.Table.{Slot, free, at}
use Rattle.rules.specs.Calls.{Call, put, show, send, fetch, add_tag, drop_tag, create, release, hand, target}
use Rattle.rules.specs.Refusals.{on_allowed, verdict, step}
use Rattle.rules.proofs.Steps.{pass, target_in, writes, stored_at, step_formed}
use Rattle.label.specs.Words.{words}
use Rattle.label.proofs.Words.{words_order}
use Rattle.entity.specs.Entity.{entity_as}
use Rattle.block.specs.Block.{no_block, padded}
use Rattle.block.proofs.Lists.{block-get}
use Rattle.block.proofs.Padding.{padded-length, padded-none}
use Rattle.monitor.specs.Table.{hub}
use Rattle.monitor.proofs.Form.{hub_laws, new_entity, new_block}
use Rattle.claims.specs.Effects.{slot_written, OthersKept, OneSlotWritten, SlotsRead, ReleaseClears}
use Rattle.claims.proofs.InForm.{read_slot, slots_spelt}

is_target : (c : Call words) → slot_written c ≡ target c
is_target (put i bs) = refl
is_target (show i buf) = refl
is_target (send i j) = refl
is_target (fetch i j) = refl
is_target (add_tag i n p) = refl
is_target (drop_tag i n p) = refl
is_target (create i j n) = refl
is_target (release i j) = refl
is_target (hand i j n p) = refl

pub one_slot_written : OneSlotWritten
one_slot_written t c k l ne = go (verdict hub t c) refl
  where
    apart : eqb k (target c) ≡ false
    apart = ap (eqb k) (sym (is_target c)) ∙ ne

    go : (v : Outcome) → verdict hub t c ≡ v → OthersKept t (on_allowed v (hub.store t (target c) (writes hub t c)) t) k
    go (Err n) e = record { entity = refl; block = refl }
    go (Ok _) e =
        let p = pass hub t c e in
        let a = writes hub t c in
        let h = target_in hub t c p in record {
          entity = new_entity t (target c) (entity_as a (length a.content)) (padded a.content) p.formed h (padded-length a.content) k l ∙ rw apart;
          block = new_block t (target c) (entity_as a (length a.content)) (padded a.content) p.formed h (padded-length a.content) k ∙ rw apart;
        }

zero_byte : (n : ℕ) → n < 64 → get_or no_block n 0 ≡ 0
unfolding no_block
zero_byte n l = get_or-replicate 64 n 0 0 l

pub release_clears : ReleaseClears
release_clears t i j e =
    let p = pass hub t (release i j) e in
    let u = step hub t (release i j) in
    let h = target_in hub t (release i j) p in
    let s = slots_spelt u (step_formed hub words_order hub_laws t (release i j) p.formed) j h in
    let f : at hub u j ≡ free = (λ z. at hub (on_allowed (e z) (hub.store t j free) t) j) ∙ stored_at hub words_order hub_laws t (release i j) p j ∙ rw (eq-eqb j j refl) in record {
      entity = s.entity ∙ ap (λ (a : Slot words). entity_as a (length a.content)) f;
      bytes = λ n l. sym (block-get u.content j n h l) ∙ ap (λ (b : List ℕ). get_or b n 0) (s.block ∙ ap (λ (a : Slot words). padded a.content) f ∙ padded-none) ∙ zero_byte n l;
    }

pub slots_read : SlotsRead
slots_read t k h = rw (read_slot t k h) (record { kind = refl; sec = refl; int = refl; sa = refl; sd = refl; ia = refl; id = refl })
