-- Lines put together from their parts, and how long they are.
-- Assumes nothing.
use Rattle.std.proofs.Common.{◌≡◌, ◌≢◌, refl, sym, ap, ◌∙◌, ℕ, zero, suc, ◌+◌, ◌*◌, ◌-◌, ◌/◌, ◌%◌, ◌^◌, ◌≤◌, ◌<◌, List, [], ◌∷◌, ◌++◌, length, take, drop, get_or, append_assoc, arith, length-append, length-take, lt-ltb, le-ltb}
use Rattle.std.proofs.lemmas.List.{append-nil, take_all, at_drop_more, at_drop_all}
use Rattle.std.proofs.lemmas.Fmt.{AppendsLastDigit, decimal_from_appends, decimal_nonempty, length-decimal-le, length-decimal-le_succ}
use Rattle.std.specs.Fmt.{decimal}
use Rattle.print.specs.Lines.{digit_text, hex_text, data_text, call_line, digits_text, decimal_text, line_size, line_with, CallLinesWhole}

-- ---- bytes behind a line

take-parts : (n : ℕ) (a b : List ℕ) → take n (a ++ b) ≡ take n a ++ take (n - length a) b
take-parts zero a b = let e : 0 - length a ≡ 0 = omega arith in rw e refl
take-parts (suc n) [] b = let e : suc n - 0 ≡ suc n = omega arith in rw e refl
take-parts (suc n) (x ∷ a) b =
    let e : suc n - suc (length a) ≡ n - length a = omega arith in
    rw e (ap (λ (l : List ℕ). x ∷ l) (take-parts n a b))

module _ (n : ℕ) where
  pub with_nothing : (x : List ℕ) → line_with n x [] ≡ x
  with_nothing x = go (n - length x)
    where
      go : (k : ℕ) → x ++ take k [] ≡ x
      go zero = append-nil x
      go (suc k) = append-nil x

  pub with_both : (x a b : List ℕ) → line_with n (line_with n x a) b ≡ line_with n x (a ++ b)
  with_both x a b =
      let m = n - length x in
      let e : n - length (x ++ take m a) ≡ m - length a = simp (length-append, length-take) (omega arith) in
      rw e (append_assoc x (take m a) (take (m - length a) b) ∙ ap (λ (l : List ℕ). x ++ l) (sym (take-parts m a b)))

  -- a line that begins as l does, so much of l as it has room for
  pub more : (l b : List ℕ) {x y : List ℕ} → x ≡ line_with n [] l → y ≡ line_with n x b → y ≡ line_with n [] (l ++ b)
  more l b e h = h ∙ ap (λ (z : List ℕ). line_with n z b) e ∙ with_both [] l b

  -- a line has room for all of it
  pub fits : (l : List ℕ) → length l ≤ n → l ≡ line_with n [] l
  fits l h = let e : n - 0 ≡ n = omega arith in rw e (sym (take_all n l h))

  pub whole : (l : List ℕ) {x : List ℕ} → x ≡ line_with n [] l → length l ≤ n → x ≡ l
  whole l e h = e ∙ sym (fits l h)

-- ---- hexadecimal

module _ (n : ℕ) (x s : List ℕ) (i : ℕ) where
  pub hex_more : i < length s
      → line_with n (line_with n x (digit_text (get_or s i 0 / 16) ∷ digit_text (get_or s i 0 % 16) ∷ [])) (hex_text (drop (i + 1) s)) ≡ line_with n x (hex_text (drop i s))
  unfolding hex_text
  hex_more h =
      let d = digit_text (get_or s i 0 / 16) ∷ digit_text (get_or s i 0 % 16) ∷ [] in
      let e : hex_text (drop i s) ≡ d ++ hex_text (drop (i + 1) s) = at_drop_more hex_text s i 0 h in
      with_both n x d (hex_text (drop (i + 1) s)) ∙ ap (line_with n x) (sym e)

  pub hex_all : length s ≤ i → x ≡ line_with n x (hex_text (drop i s))
  unfolding hex_text
  hex_all h = let e : hex_text (drop i s) ≡ [] = at_drop_all hex_text s i h in sym (ap (line_with n x) e ∙ with_nothing n x)

pub length-hex : (s : List ℕ) → length (hex_text s) ≡ length s * 2
unfolding hex_text
length-hex [] = refl
length-hex (b ∷ bs) = omega (arith, length-hex bs)

pub data_empty : (s : List ℕ) → length s ≡ 0 → data_text s ≡ 45 ∷ []
unfolding data_text
data_empty [] h = refl
data_empty (b ∷ bs) h = absurd (omega arith)

pub data_some : (s : List ℕ) → length s ≢ 0 → data_text s ≡ hex_text s
unfolding data_text
data_some [] h = absurd (h refl)
data_some (b ∷ bs) h = refl

pub data_most : (s : List ℕ) → length s ≤ 64 → length (data_text s) ≤ 128
unfolding data_text
data_most [] h = omega arith
data_most (b ∷ bs) h = omega (arith, length-hex (b ∷ bs))

pub line-most : (entry shown : List ℕ) → length entry ≡ 16 → length shown ≤ 64 → length (call_line entry shown) ≤ 162
unfolding call_line
line-most entry shown e h =
    omega (arith, length-append (hex_text entry) (32 ∷ (data_text shown ++ (10 ∷ []))), length-append (data_text shown) (10 ∷ []), length-hex entry, data_most shown h)

pub call_lines_whole : CallLinesWhole
call_lines_whole entry shown e h = take_all line_size (call_line entry shown) (line-most entry shown e h)

-- ---- decimal numbers

appends : AppendsLastDigit digits_text
unfolding digits_text
appends = record {
  one = λ k n h. rw (lt-ltb n 10 h) refl;
  more = λ k n h. rw (le-ltb n 10 h) refl;
}

pub decimal_is : (n : ℕ) → n < 2 ^ 64 → decimal n ≡ decimal_text n
unfolding decimal_text
decimal_is n h = sym (decimal_from_appends digits_text appends (suc n) n h (omega (arith, length-decimal-le_succ n h)))

-- how long they are: not empty, and k digits below 10 to the k
pub decimal_some : (n : ℕ) → n < 2 ^ 64 → 0 < length (decimal_text n)
decimal_some n h = rw (sym (decimal_is n h)) (decimal_nonempty n h)

pub decimal_few : (k n : ℕ) → 0 < k → n < 10 ^ k → n < 2 ^ 64 → length (decimal_text n) ≤ k
decimal_few k n p l h = rw (sym (decimal_is n h)) (length-decimal-le k n p l h)

pub decimal_most : (n : ℕ) → n < 2 ^ 64 → length (decimal_text n) ≤ 20
decimal_most n h = decimal_few 20 n (omega arith) (omega arith) h
