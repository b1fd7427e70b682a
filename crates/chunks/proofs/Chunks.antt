-- Chunk after chunk is the whole output, and a loop that fills a buffer piece by piece makes a chunk.
-- Assumes nothing.
use mathlib.Core.Path.{◌≡◌, refl, sym, ap, ap₂, subst, ◌∙◌}
use mathlib.Core.Bool.{Bool, true, false, ◌&&◌}
use mathlib.Core.List.{List, [], ◌++◌, append_assoc, append-nil}
use Prim.Native.Nat.{ℕ, zero, suc, ◌+◌, ◌-◌, ◌≤◌, ◌<◌}
use native.Mathlib.Omega.{arith}
use lib.Dec.{leb}
use lib.ListN.{length, take, drop, length-append}
use borrow.Rule.Slice.PartMut.{put_mid}
use lib.Seq.{sets, sets-eq, take_at, drop-append-add, drop-drop}
use borrow.Author.Tests.{leb-true, leb-false, le-leb, lt-leb}
use Rattle.rules.specs.Record.{filled}
use Rattle.rules.proofs.Facts.{and_left, either}
use Rattle.rules.proofs.Refused.{filled-length}
use Rattle.chunks.specs.Chunks.{appended, appended_to, Pieces, Bounded, onto, concat_from, concat, chunk_from, chunk, chunks_from, ChunksJoin, ChunksAdvance}
use Rattle.std.specs.Prelude.{Some, None}

-- ---- a line behind the first n bytes of a buffer

-- a write to the part from n to e
pub put_at : (line out : List ℕ) (n e : ℕ) → e ≡ n + length line → e ≤ length out → put_mid n (e - n) out line ≡ sets out n line
put_at line out n e p h =
    let k : n + (e - n) ≡ n + length line = omega arith in
    ap (λ (l : List ℕ). take n out ++ (line ++ l)) (drop-drop (e - n) n out ∙ ap (λ (m : ℕ). drop m out) k)
    ∙ sym (append_assoc (take n out) line (drop (n + length line) out)) ∙ sym (sets-eq line out n (omega arith))

pub has_room : (line out : List ℕ) (n : ℕ) → n + length line ≤ length out → (appended out n line ≡ sets out n line) × (appended_to out n line ≡ Some (n + length line))
has_room line out n h = let b = le-leb (n + length line) (length out) h in (rw b refl, rw b refl)

pub no_place : (line out : List ℕ) (n : ℕ) → length out < n + length line → (appended out n line ≡ out) × (appended_to out n line ≡ None)
no_place line out n h = let b = lt-leb (n + length line) (length out) h in (rw b refl, rw b refl)

-- what the answer says of the room
pub record Appended (line out : List ℕ) (n e : ℕ) : Type 0 where
  pub room : n + length line ≤ length out
  pub after : appended out n line ≡ sets out n line
  pub end : e ≡ n + length line

pub appended_some : (line out : List ℕ) (n e : ℕ) → Some e ≡ appended_to out n line → Appended line out n e
appended_some line out n e h =
    either (leb (n + length line) (length out))
    (λ b. let r = leb-true (n + length line) (length out) b in let w = has_room line out n r in record { room = r; after = w.0; end = cc })
    (λ b. let w = no_place line out n (leb-false (n + length line) (length out) b) in cc)

pub appended_none : (line out : List ℕ) (n : ℕ) → None ≡ appended_to out n line → (length out < n + length line) × (appended out n line ≡ out)
appended_none line out n h =
    either (leb (n + length line) (length out))
    (λ b. let w = has_room line out n (leb-true (n + length line) (length out) b) in cc)
    (λ b. let r = leb-false (n + length line) (length out) b in (r, (no_place line out n r).0))

-- ---- chunks

onto-onto : {S : Type 0} (x y : List ℕ) (r : List ℕ × S) → onto x (onto y r) ≡ onto (x ++ y) r
onto-onto x y r = λ i. (sym (append_assoc x y r.0) i, r.1)

module _ {S : Type 0} (P : Pieces S) where
  abbrev pub goes : ℕ → S → Bool
  goes room s = P.more s && leb P.most room

  pub goes_room : (room : ℕ) (s : S) → P.more s ≡ true → P.most ≤ room → goes room s ≡ true
  goes_room room s m h = rw (m, le-leb _ _ h)

  pub no_piece : (room : ℕ) (s : S) → P.more s ≡ false → goes room s ≡ false
  no_piece room s m = rw m

  pub no_room : (room : ℕ) (s : S) → room < P.most → goes room s ≡ false
  no_room room s h = either (P.more s) (λ e. rw e (lt-leb _ _ h)) (no_piece room s)

  pub one_concat : (k : ℕ) (s : S) → P.more s ≡ true → concat_from P (suc k) s ≡ onto (P.piece s) (concat_from P k (P.next s))
  unfolding concat_from
  one_concat k s e = rw e

  pub none_concat : (k : ℕ) (s : S) → P.more s ≡ false → concat_from P k s ≡ ([], s)
  unfolding concat_from
  none_concat zero s e = refl
  none_concat (suc k) s e = rw e

  pub one_taken : (k room : ℕ) (s : S) → goes room s ≡ true
      → chunk_from P (suc k) room s ≡ onto (P.piece s) (chunk_from P k (room - length (P.piece s)) (P.next s))
  unfolding chunk_from
  one_taken k room s e = rw e

  pub none_taken : (k room : ℕ) (s : S) → goes room s ≡ false → chunk_from P k room s ≡ ([], s)
  unfolding chunk_from
  none_taken zero room s e = refl
  none_taken (suc k) room s e = rw e

module _ {S : Type 0} (P : Pieces S) (b : Bounded P) where
  -- turns enough are as good as more
  no_more : (s : S) → P.left s ≤ 0 → P.more s ≡ false
  no_more s h = either (P.more s) (λ e. absurd (omega (arith, b.fewer s e))) (λ e. e)

  pub turns : (k j : ℕ) (s : S) → P.left s ≤ k → P.left s ≤ j → concat_from P k s ≡ concat_from P j s
  turns zero j s p q = none_concat P zero s (no_more s p) ∙ sym (none_concat P j s (no_more s p))
  turns (suc k) zero s p q = none_concat P (suc k) s (no_more s q) ∙ sym (none_concat P zero s (no_more s q))
  turns (suc k) (suc j) s p q =
      either (P.more s)
      (λ e. let f = b.fewer s e in
      one_concat P k s e ∙ ap (onto (P.piece s)) (turns k j (P.next s) (omega arith) (omega arith)) ∙ sym (one_concat P j s e))
      (λ e. none_concat P (suc k) s e ∙ sym (none_concat P (suc j) s e))

  -- a chunk, and all from where it stopped
  pub chunk_then : (k room : ℕ) (s : S) → P.left s ≤ k → concat P s ≡ onto (chunk_from P k room s).0 (concat P (chunk_from P k room s).1)
  unfolding chunk_from
  chunk_then zero room s h = refl
  chunk_then (suc k) room s h =
      let rest = chunk_from P k (room - length (P.piece s)) (P.next s) in
      let by : List ℕ × S → Type 0 = λ c. concat P s ≡ onto c.0 (concat P c.1) in
      either (goes P room s)
      (λ e. let m = and_left (P.more s) _ e in
      let f = b.fewer s m in
      subst by (sym (one_taken P k room s e))
      (turns (P.left s) (suc k) s (omega arith) h
      ∙ one_concat P k s m
      ∙ ap (onto (P.piece s)) (turns k (P.left (P.next s)) (P.next s) (omega arith) (omega arith) ∙ chunk_then k (room - length (P.piece s)) (P.next s) (omega arith))
      ∙ onto-onto (P.piece s) rest.0 (concat P rest.1)))
      (λ e. subst by (sym (none_taken P (suc k) room s e)) refl)

  -- a chunk leaves no more than it found, and fewer where it took a piece
  chunk_back : (k room : ℕ) (s : S) → P.left (chunk_from P k room s).1 ≤ P.left s
  unfolding chunk_from
  chunk_back zero room s = omega arith
  chunk_back (suc k) room s =
      let by : List ℕ × S → Type 0 = λ c. P.left c.1 ≤ P.left s in
      either (goes P room s)
      (λ e. subst by (sym (one_taken P k room s e)) (omega (arith, b.fewer s (and_left (P.more s) _ e), chunk_back k (room - length (P.piece s)) (P.next s))))
      (λ e. subst by (sym (none_taken P (suc k) room s e)) (omega arith))

  chunk_later : (room : ℕ) (s : S) → goes P room s ≡ true → P.left (chunk P room s).1 < P.left s
  chunk_later room s g = go (P.left s) (omega arith)
    where
      by : List ℕ × S → Type 0
      by c = P.left c.1 < P.left s

      go : (k : ℕ) → P.left s ≤ k → by (chunk_from P k room s)
      go zero l = absurd (omega (arith, b.fewer s (and_left (P.more s) _ g)))
      go (suc k) l =
          subst by (sym (one_taken P k room s g))
          (omega (arith, b.fewer s (and_left (P.more s) _ g), chunk_back k (room - length (P.piece s)) (P.next s)))

  pub chunks_advance : ChunksAdvance P
  chunks_advance room s h m = chunk_later room s (goes_room P room s m h)

  pub chunk_some : (room : ℕ) (s : S) → (length (chunk P room s).0 ≡ 0 → ⊥) → P.left (chunk P room s).1 < P.left s
  chunk_some room s h =
      either (goes P room s) (chunk_later room s) (λ g. absurd (h (ap (λ (c : List ℕ × S). length c.0) (none_taken P (P.left s) room s g))))

  chunks-from : (room k : ℕ) (s : S) → P.most ≤ room → P.left s ≤ k → chunks_from P room k s ≡ concat P s
  unfolding chunks_from
  chunks-from room zero s h l = sym (none_concat P (P.left s) s (no_more s l))
  chunks-from room (suc k) s h l =
      either (P.more s)
      (λ e. rw e (ap (onto (chunk P room s).0) (chunks-from room k (chunk P room s).1 h (omega (arith, chunks_advance room s h e))) ∙ sym (chunk_then (P.left s) room s (omega arith))))
      (λ e. rw e (sym (none_concat P (P.left s) s e)))

  pub chunks_join : ChunksJoin P
  chunks_join room s h = chunks-from room (P.left s) s h (omega arith)

-- ---- a loop that fills a buffer

-- bytes behind a front that fills a buffer
pub sets_front : (d x out : List ℕ) → length d + length x ≤ length out → sets (filled d out) (length d) x ≡ filled (d ++ x) out
sets_front d x out h =
    let k : length (d ++ x) ≡ length d + length x = length-append d x in
    sets-eq x (filled d out) (length d) (omega (arith, filled-length d out (omega arith)))
    ∙ ap₂ (λ (p q : List ℕ). p ++ x ++ q) (take_at d (drop (length d) out) (length d) refl)
    (drop-append-add d (drop (length d) out) (length x) ∙ drop-drop (length x) (length d) out ∙ ap (λ (n : ℕ). drop n out) (sym k))

-- the pieces before a state are at the buffer's front, n bytes, and with those that have room behind them make the chunk
pub record Filling {S : Type 0} (P : Pieces S) (b : Bounded P) (start : S) (out₀ out : List ℕ) (n : ℕ) (s : S) : Type 0 where
  pub turns : ℕ
  pub enough : P.left s ≤ turns
  pub done : List ℕ
  pub is : chunk P (length out₀) start ≡ onto done (chunk_from P turns (length out₀ - n) s)
  pub len : n ≡ length done
  pub fits : n ≤ length out₀
  pub held : out ≡ filled done out₀

pub filling_start : {S : Type 0} (P : Pieces S) (b : Bounded P) (start : S) (out₀ : List ℕ) → Filling P b start out₀ out₀ 0 start
filling_start P b start out₀ =
    let z : length out₀ ≡ length out₀ - 0 = omega arith in
    record { turns = P.left start; enough = omega arith; done = []; is = ap (λ (k : ℕ). chunk_from P (P.left start) k start) z; len = refl; fits = omega arith; held = refl }

module _ {S : Type 0} {P : Pieces S} {b : Bounded P} {start : S} {out₀ out : List ℕ} {n : ℕ} {s : S} (l : Filling P b start out₀ out n s) where
  pub filling_length : length out ≡ length out₀
  filling_length = ap length l.held ∙ filled-length l.done out₀ (omega (arith, l.len, l.fits))

  pub filling_more : {out' : List ℕ} {n' : ℕ} {s' : S} → P.more s ≡ true → n + P.most ≤ length out
      → out' ≡ sets out n (P.piece s) → n' ≡ n + length (P.piece s) → s' ≡ P.next s → Filling P b start out₀ out' n' s'
  filling_more {out'} {n'} {s'} m r o e q = go l.turns l.enough l.is
    where
      go : (k : ℕ) → P.left s ≤ k → chunk P (length out₀) start ≡ onto l.done (chunk_from P k (length out₀ - n) s) → Filling P b start out₀ out' n' s'
      go zero h i = absurd (omega (arith, b.fewer s m))
      go (suc k) h i =
          let f = b.fits s in
          let j = filling_length in
          let w : length out₀ - n - length (P.piece s) ≡ length out₀ - n' = omega arith in
          subst (λ (x : S). Filling P b start out₀ out' n' x) (sym q) record {
            turns = k;
            enough = omega (arith, b.fewer s m);
            done = l.done ++ P.piece s;
            is = i
                ∙ ap (onto l.done) (one_taken P k (length out₀ - n) s (goes_room P (length out₀ - n) s m (omega arith)))
                ∙ onto-onto l.done (P.piece s) _
                ∙ ap (λ (x : ℕ). onto (l.done ++ P.piece s) (chunk_from P k x (P.next s))) w;
            len = e ∙ ap (λ (x : ℕ). x + length (P.piece s)) l.len ∙ sym (length-append l.done (P.piece s));
            fits = omega arith;
            held = o ∙ ap₂ (λ (x : List ℕ) (i : ℕ). sets x i (P.piece s)) l.held l.len ∙ sets_front l.done (P.piece s) out₀ (omega (arith, l.len));
          }

  pub record Stopped : Type 0 where
    pub state : (chunk P (length out₀) start).1 ≡ s
    pub len : n ≡ length (chunk P (length out₀) start).0
    pub held : out ≡ filled (chunk P (length out₀) start).0 out₀

  filling_end : goes P (length out₀ - n) s ≡ false → Stopped
  filling_end e =
      let c : chunk P (length out₀) start ≡ (l.done ++ [], s) = l.is ∙ ap (onto l.done) (none_taken P l.turns (length out₀ - n) s e) in
      let d : l.done ≡ (chunk P (length out₀) start).0 = sym (ap (λ (r : List ℕ × S). r.0) c ∙ append-nil l.done) in
      record { state = ap (λ (r : List ℕ × S). r.1) c; len = l.len ∙ ap length d; held = l.held ∙ ap (λ (x : List ℕ). filled x out₀) d }

  -- no piece is left, or the longest has no room
  pub filling_done : P.more s ≡ false → Stopped
  filling_done m = filling_end (no_piece P (length out₀ - n) s m)

  pub filling_full : length out < n + P.most → Stopped
  filling_full h = let j = filling_length in filling_end (no_room P (length out₀ - n) s (omega (arith, l.fits)))
