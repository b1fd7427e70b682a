-- Numbers as bytes, least byte first, for any number k of bytes.
-- Assumes nothing.
use mathlib.Core.Path.{◌≡◌, refl, sym, ap, ◌∙◌}
use mathlib.Core.List.{List, [], ◌∷◌}
use Prim.Native.Nat.{ℕ, zero, suc, ◌*◌, ◌/◌, ◌%◌, ◌^◌, ◌<◌}
use native.Mathlib.Nat.{mod-one, zero-lt-suc, one-le-pow, pow-suc}
use native.Mathlib.Omega.{arith}
use lib.Arith.{mod-mul}
use lib.Pow.{pow-add, shr-shr}
use lib.ListN.{length}
use mir.Syntax.{w64}
use Rattle.std.specs.Int.{to_le_bytes, from_le_bytes}
use Rattle.label.specs.Tags.{tag_of, bytes_in, from_bytes_in}
use Rattle.label.proofs.Laws.{mod-tag}

pub bytes_length : (k x : ℕ) → length (bytes_in k x) ≡ k
unfolding bytes_in
bytes_length zero x = refl
bytes_length (suc k) x = ap suc (bytes_length k (x / 256))

pub from_bytes_lem : (k x : ℕ) → from_bytes_in (bytes_in k x) ≡ x % 256 ^ k
unfolding bytes_in from_bytes_in
from_bytes_lem zero x = sym (mod-one x)
from_bytes_lem (suc k) x = rw (pow-suc 256 k, mod-mul x {m = 256 ^ k} {c = 256} (one-le-pow k 256 (zero-lt-suc 255)) (zero-lt-suc 255)) (omega (arith, from_bytes_lem k (x / 256)))

-- a byte is eight tags
byte_tags : (k : ℕ) → 256 ^ k ≡ 2 ^ (8 * k)
byte_tags zero = refl
byte_tags (suc k) =
    pow-suc 256 k ∙ ap (λ (x : ℕ). x * 256) (byte_tags k) ∙ sym (pow-add 2 (8 * k) 8) ∙ ap (λ (x : ℕ). 2 ^ x) (omega arith)

-- the bytes of a number keep its tags
pub round-tag : (k x n : ℕ) → n < 8 * k → tag_of (from_bytes_in (bytes_in k x)) n ≡ tag_of x n
round-tag k x n l = ap (λ (y : ℕ). tag_of y n) (from_bytes_lem k x ∙ ap (λ (m : ℕ). x % m) (byte_tags k)) ∙ mod-tag (8 * k) x n l

-- ---- the eight bytes of std's 64-bit numbers
pub bytes_are : (x : ℕ) → to_le_bytes w64 x ≡ bytes_in 8 x
unfolding bytes_in
bytes_are x =
    let q1 : x / 256 / 256 ≡ x / 65536 = shr-shr x 8 8 in
    let q2 : x / 65536 / 256 ≡ x / 16777216 = shr-shr x 16 8 in
    let q3 : x / 16777216 / 256 ≡ x / 4294967296 = shr-shr x 24 8 in
    let q4 : x / 4294967296 / 256 ≡ x / 1099511627776 = shr-shr x 32 8 in
    let q5 : x / 1099511627776 / 256 ≡ x / 281474976710656 = shr-shr x 40 8 in
    let q6 : x / 281474976710656 / 256 ≡ x / 72057594037927936 = shr-shr x 48 8 in
    simp (q1, q2, q3, q4, q5, q6)

pub number_is : (bs : List ℕ) → length bs ≡ 8 → from_le_bytes w64 bs ≡ from_bytes_in bs
unfolding from_bytes_in
number_is (a ∷ b ∷ c ∷ d ∷ e ∷ f ∷ g ∷ h ∷ []) q = omega arith
number_is bs q = absurd (omega arith)
