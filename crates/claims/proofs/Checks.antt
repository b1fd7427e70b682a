-- What a check of the groups says: the first broken one of those that count, and of a hand whether 11 applies.
-- Assumes nothing.
use mathlib.Core.Path.{◌≡◌, refl, sym, ap, ◌∙◌, subst}
use mathlib.Core.Bool.{Bool, true, false, ◌||◌}
use Prim.Native.Nat.{ℕ, ◌≤◌, ◌<◌}
use native.Mathlib.Omega.{arith}
use lib.Dec.{ltb}
use lib.ListN.{length, get_or}
use borrow.Author.Tests.{leb-true, leb-false, lt-ltb, ltb-false}
use Rattle.std.specs.Prelude.{Result, Ok, Err}
use Rattle.rules.specs.declared.Refusal.{Refusal}
use Rattle.rules.specs.declared.Refusal.TheVariants.{BreaksGroup, Formless}
use Rattle.rules.specs.Table.{Slot, keeps_each, keeps_all, at}
use Rattle.rules.specs.Calls.{hand, grant, with_rights}
use Rattle.rules.specs.Refusals.{all_refusals, verdict}
use Rattle.rules.proofs.Facts.{either, alone, clear, not-false, not-true, neither_left, neither_right, passed, returned}
use Rattle.label.specs.declared.Label.{Label}
use Rattle.label.specs.Tags.{keeps_to, common_of}
use Rattle.label.specs.Words.{words}
use Rattle.entity.proofs.Held.{held_with}
use Rattle.groups.specs.declared.Checked.{Checked}
use Rattle.groups.specs.Check.{counted, checked, check_at}
use Rattle.groups.proofs.Counts.{walk_counts}
use Rattle.monitor.specs.declared.Table.{Table}
use Rattle.monitor.specs.Table.{tags_in, most_in, formed, groups_of, hub}
use Rattle.claims.specs.InForm.{stands_in, InForm}
use Rattle.claims.specs.Checks.{Says, ChecksSpelt, gaining, HandsChecked}
use Rattle.claims.proofs.InForm.{no_group, counted_length, counted-at, form_spelt}

-- ---- an answer is no refusal

no_answer : (r : Refusal) (c : Checked) → ◌≡◌ {A = Result Checked Refusal} (Ok c) (Err r) → ⊥
no_answer r c e = cc

-- ---- the groups that count, by their places in the array

module _ (t : Table) (l : Label) (f : InForm t) where
  among : length (groups_of t) ≡ t.count
  among = counted_length t f.groups f.most f.count

  stands : (i : ℕ) → i < t.count → get_or (groups_of t) i no_group ≡ record { tags = tags_in t i; most = most_in t i }
  stands i m = counted-at t f.groups f.most i no_group m (omega (arith, m, f.count))

  within : (i : ℕ) → i < t.count → words.keeps (get_or (groups_of t) i no_group) l ≡ true → common_of l (tags_in t i) ≤ most_in t i
  unfolding keeps_to
  within i m h = leb-true _ _ (rw (stands i m) at h)

  more : (i : ℕ) → i < t.count → words.keeps (get_or (groups_of t) i no_group) l ≡ false → most_in t i < common_of l (tags_in t i)
  unfolding keeps_to
  more i m h = leb-false _ _ (rw (stands i m) at h)

  spelt : Says t l (checked words (groups_of t) l)
  spelt = let c = (walk_counts words).counts no_group (groups_of t) l in record {
    kept = λ h i m. within i m ((c.none h).kept i (rw among m));
    all = λ h. (c.none h).all ∙ among;
    first = λ h. let r = c.first h in let b = rw among at r.within in record {
      from_1 = r.from_1;
      within = b;
      over = more _ (omega (arith, r.from_1, b)) r.broken;
      before = λ i m. within i (omega (arith, m, b)) (r.before i m);
    };
  }

pub checks_spelt : ChecksSpelt
checks_spelt = record {
  answered = λ t l f. rw (form_spelt.enough t f);
  says = λ t l c e. either (formed t)
      (λ f. let d = rw f at e in let q : checked words (groups_of t) l ≡ c = cc in subst (λ x. Says t l x) q (spelt t l (form_spelt.holds t f)))
      (λ f. let d = rw f at e in absurd (no_answer Formless c (sym d)));
}

-- ---- a hand for which no refusal before 11 applies

module _ (t : Table) (i j n p : ℕ) where
  gains : Slot words
  gains = let b = at hub t j in with_rights b (grant n p b.rights)

  asked : (ok : Bool) → ltb 31 j || (words.outside p || ltb 3 n) ≡ false → keeps_all (groups_of t) gains ≡ ok → keeps_each words (groups_of t) (gaining t j p) ≡ ok
  unfolding gains
  asked ok r k =
      let m : ltb j 32 ≡ true = lt-ltb j 32 (omega (arith, ltb-false 31 j (neither_left (ltb 31 j) _ r))) in
      let e = held_with (stands_in t j) n p (ltb-false 3 n (neither_right (words.outside p) _ (neither_right (ltb 31 j) _ r))) in
      ap (keeps_each words (groups_of t)) (sym e) ∙ (rw m at k)

  answers : (ok : Bool) (m : ℕ) → formed t ≡ true → keeps_each words (groups_of t) (gaining t j p) ≡ ok → counted words (groups_of t) (gaining t j p) ≡ m
      → check_at hub t (gaining t j p) ≡ Ok (record { keeps = ok; counted = m })
  answers ok m f k q = rw f (λ x. Ok (record { keeps = k x; counted = q x }))

  allowed : verdict hub t (hand i j n p) ≡ Ok tt → check_at hub t (gaining t j p) ≡ Ok (record { keeps = true; counted = length (groups_of t) })
  unfolding gains
  allowed e =
      let off = passed (all_refusals hub t (hand i j n p)) e in
      let k = asked true (off 2) (not-false _ (off 11)) in
      answers true _ (not-false _ (off 99)) k (((walk_counts words).counts no_group (groups_of t) (gaining t j p)).none k).all

  refused : verdict hub t (hand i j n p) ≡ Err BreaksGroup
      → check_at hub t (gaining t j p) ≡ Ok (record { keeps = false; counted = counted words (groups_of t) (gaining t j p) })
  unfolding gains
  refused e =
      let r = all_refusals hub t (hand i j n p) in
      let off = clear r BreaksGroup e in
      answers false _ (not-false _ (off 99 refl)) (asked false (off 2 refl) (not-true _ (alone _ (returned r BreaksGroup e)))) refl

pub hands_checked : HandsChecked
hands_checked = record {
  allowed = allowed;
  refused = refused;
  place = λ t i j n p e. (checks_spelt.says t (gaining t j p) _ (refused t i j n p e)).first refl;
}
