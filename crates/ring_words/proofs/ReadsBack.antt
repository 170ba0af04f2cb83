-- The text of a word reads back to the word.
use Rattle.std.proofs.Common.{◌≡◌, ℕ, zero, suc, ◌+◌, ◌-◌, ◌*◌, ◌/◌, ◌%◌, ◌^◌, ◌<◌, ◌≤◌, Bool, true, false, not, eqb, nat_lt, cond, List, [], ◌∷◌, ◌++◌, length, get_or, take, drop, replicate, Ok, ap, sym, subst, ◌∙◌, refl, arith, pos, neg_ℤ, append-nil, length-append, inl, inr}
use Rattle.std.specs.Prelude.{decimal}
use Rattle.std.specs.Char.{is_ascii_digit}
use Rattle.std.specs.Int.{IsInRange}
use Rattle.std.specs.List.{prefix_len, suffix_len, list_all}
use Rattle.std.specs.Str.Parse.{digits_value, digits_value_after}
use Rattle.std.proofs.Math.Seq.{take-length, drop-length, take-append_seam, drop-append_seam}
use Rattle.std.proofs.Math.Nat.{div-le_self, mod-le}
use Rattle.std.proofs.lemmas.Bool.{eq-eqb, cases_lt}
use Rattle.std.proofs.lemmas.Bool.Decides.{nat_tests}
use Rattle.std.proofs.lemmas.Fmt.{decimal_nonempty, digits_decimal, digits_value-decimal}
use Rattle.std.proofs.lemmas.List.{drop-drop}
use Rattle.std.proofs.lemmas.List.Folds.{prefix_len-append}
use Rattle.std.proofs.lemmas.List.Sums.{prefix_len_is, suffix_len_is}
use Rattle.std.proofs.lemmas.Nat.{div-add-mod'}
use Rattle.std.proofs.lemmas.Str.Parse.{IsNumeralModel, numerals_by_value, tells_by_index}
use Rattle.ring_words.proofs.DigitValues.{value-append, value-after, value-zeros}
use Rattle.ring_words.proofs.Texts.{length-padded, neg_is, rest_below, text_plain, text_minus}
use Rattle.ring_words.specs.Cell.{cell, decimals_to, digits_padded, is_space, is_too_fine, is_zero_digit, parts, starts_with_byte, text, unsigned_text, without_spaces}
use Rattle.ring_words.specs.Word.{neg, word}

abbrev AreDigits : List ℕ → Type 0
AreDigits ds = (i : ℕ) → i < length ds → IsInRange 48 57 (get_or ds i 0)

own : IsNumeralModel AreDigits (digits_value 10)
own = numerals_by_value AreDigits tells_by_index

digits-append : (xs ys : List ℕ) → AreDigits xs → AreDigits ys → AreDigits (xs ++ ys)
digits-append [] ys first second i h = second i h
digits-append (x ∷ xs) ys first second zero h = first 0 (omega arith)
digits-append (x ∷ xs) ys first second (suc i) h = digits-append xs ys (λ k l. first (suc k) (omega arith)) second i (omega arith)

digits-zeros : (k : ℕ) → AreDigits (replicate k 48)
digits-zeros zero i h = absurd (omega arith)
digits-zeros (suc k) zero h = grind arith
digits-zeros (suc k) (suc i) h = digits-zeros k i (omega arith)

-- digits: they are read to their end
all_read : (ds : List ℕ) → AreDigits ds → prefix_len is_ascii_digit ds ≡ length ds
all_read ds digits =
    prefix_len_is is_ascii_digit ds (length ds) 0 (omega arith) (λ i h. let d = digits i h in grind (arith, nat_tests)) (λ h. absurd (omega arith))

no_minus : (ds rest : List ℕ) → AreDigits ds → 0 < length ds → starts_with_byte 45 (ds ++ rest) ≡ false
no_minus [] rest digits some = absurd (omega arith)
no_minus (x ∷ ds) rest digits some = let d = digits 0 (omega arith) in grind (arith, nat_tests)

-- spaces: there are none
abbrev HasNoSpace : List ℕ → Type 0
HasNoSpace bytes = (i : ℕ) → i < length bytes → is_space (get_or bytes i 0) ≡ false

no_space-append : (xs ys : List ℕ) → HasNoSpace xs → HasNoSpace ys → HasNoSpace (xs ++ ys)
no_space-append [] ys first second i h = second i h
no_space-append (x ∷ xs) ys first second zero h = first 0 (omega arith)
no_space-append (x ∷ xs) ys first second (suc i) h = no_space-append xs ys (λ k l. first (suc k) (omega arith)) second i (omega arith)

no_space_in_digits : (ds : List ℕ) → AreDigits ds → HasNoSpace ds
no_space_in_digits ds digits = λ i h. let d = digits i h in grind (arith, nat_tests)

no_space_in_mark : (b : ℕ) → is_space b ≡ false → HasNoSpace (b ∷ [])
no_space_in_mark b e zero h = e
no_space_in_mark b e (suc i) h = absurd (omega arith)

none_in_front : (bytes : List ℕ) → HasNoSpace bytes → prefix_len is_space bytes ≡ 0
none_in_front bytes none = prefix_len_is is_space bytes 0 0 (omega arith) (λ k h. absurd (omega arith)) (λ h. none 0 h)

none_at_end : (bytes : List ℕ) → HasNoSpace bytes → suffix_len is_space bytes ≡ 0
none_at_end bytes none =
    suffix_len_is is_space bytes (length bytes) 0 (omega arith) (λ k low high. absurd (omega arith)) (λ h. none (length bytes - 1) (omega arith)) ∙ omega arith

all_stay : (bytes : List ℕ) → HasNoSpace bytes → without_spaces bytes ≡ bytes
all_stay bytes none =
    let whole : length bytes - 0 ≡ length bytes = omega arith in
    rw (none_in_front bytes none, none_at_end bytes none, whole) (take-length bytes)

-- a point and the digits after it, where there are some
abbrev fraction : List ℕ → List ℕ
fraction [] = []
fraction (f ∷ fs) = 46 ∷ f ∷ fs

no_space_in_fraction : (fs : List ℕ) → AreDigits fs → HasNoSpace (fraction fs)
no_space_in_fraction [] digits i h = absurd (omega arith)
no_space_in_fraction (f ∷ fs) digits i h = no_space-append (46 ∷ []) (f ∷ fs) (no_space_in_mark 46 refl) (no_space_in_digits (f ∷ fs) digits) i h

whole_read : (ds fs : List ℕ) → AreDigits ds → prefix_len is_ascii_digit (ds ++ fraction fs) ≡ length ds
whole_read ds [] digits = ap (prefix_len is_ascii_digit) (append-nil ds) ∙ all_read ds digits
whole_read ds (f ∷ fs) digits =
    let ends : eqb (prefix_len is_ascii_digit ds) (length ds) ≡ true = eq-eqb _ _ (all_read ds digits) in
    prefix_len-append is_ascii_digit ds (46 ∷ f ∷ fs) ∙ rw ends (omega arith)

-- a text that is digits after `sign` bytes, and maybe a point and digits
pub record IsNumber (t ds fs : List ℕ) (minus : Bool) (sign : ℕ) : Type 0 where
  pub minus_is : starts_with_byte 45 t ≡ minus
  pub sign_is : cond minus 1 0 ≡ sign
  pub rest_is : drop sign t ≡ ds ++ fraction fs
  pub digits : AreDigits ds
  pub some : 0 < length ds
  pub decimals : AreDigits fs
  pub long : length t ≡ sign + length (ds ++ fraction fs)
  pub no_space : HasNoSpace t

parts_number : (t ds fs : List ℕ) (minus : Bool) (sign : ℕ) → IsNumber t ds fs minus sign → parts t ≡ record { negative = minus; whole = ds; decimals = fs; size = length t; complete = true }
unfolding parts
parts_number t ds [] minus sign h =
    let filled : eqb (length ds) 0 ≡ false = grind (arith, nat_tests) in
    let after : drop (sign + length ds) t ≡ [] = sym (drop-drop (length ds) sign t) ∙ ap (drop (length ds)) (h.rest_is ∙ append-nil ds) ∙ drop-length ds in
    let size : sign + length ds + 0 + 0 ≡ length t = omega (arith, h.long, ap length (append-nil ds)) in
    let front : take (length ds) (ds ++ []) ≡ ds = take-append_seam ds [] in
    rw (h.minus_is, h.sign_is, h.rest_is, whole_read ds [] h.digits, front, filled, after, size) refl
parts_number t ds (f ∷ fs) minus sign h =
    let filled : eqb (length ds) 0 ≡ false = grind (arith, nat_tests) in
    let more : eqb (suc (length fs)) 0 ≡ false = grind (arith, nat_tests) in
    let after : drop (sign + length ds) t ≡ 46 ∷ f ∷ fs = sym (drop-drop (length ds) sign t) ∙ ap (drop (length ds)) h.rest_is ∙ drop-append_seam ds (46 ∷ f ∷ fs) in
    let size : sign + length ds + 1 + length (f ∷ fs) ≡ length t = omega (arith, h.long, length-append ds (46 ∷ f ∷ fs)) in
    let front : take (length ds) (ds ++ (46 ∷ f ∷ fs)) ≡ ds = take-append_seam ds (46 ∷ f ∷ fs) in
    rw (h.minus_is, h.sign_is, h.rest_is, whole_read ds (f ∷ fs) h.digits, front, filled, after, all_read (f ∷ fs) h.decimals, take-length fs, more, size) refl

-- as many decimals as the scale has
decimals_stay : (fs : List ℕ) → (decimals_to (length fs) fs ≡ fs) × (is_too_fine (length fs) fs ≡ false)
decimals_stay fs = (take-append_seam fs (replicate (length fs) 48), ap (λ xs. not (list_all is_zero_digit xs)) (drop-length fs))

abbrev fits : Bool → ℕ → Type 0
fits minus n = n ≤ cond minus (2 ^ 63) (2 ^ 63 - 1)

word_is : (minus : Bool) (n : ℕ) → word (cond minus (neg_ℤ (pos n)) (pos n)) ≡ cond minus (neg n) (n % 2 ^ 64)
unfolding neg
word_is true n = refl
word_is false n = refl

cell_number : (t ds fs : List ℕ) (minus : Bool) (sign : ℕ) → IsNumber t ds fs minus sign → (n : ℕ) → digits_value 10 (ds ++ fs) ≡ n → fits minus n
    → cell (length fs) t ≡ Ok (cond minus (neg n) (n % 2 ^ 64))
unfolding cell
cell_number t ds fs minus sign h n value small =
    let filled : eqb (length t) 0 ≡ false = grind (arith, nat_tests, h.long, h.some, length-append ds (fraction fs)) in
    let ends : eqb (length t) (length t) ≡ true = eq-eqb _ _ refl in
    let stay = decimals_stay fs in
    let large : nat_lt (cond minus (2 ^ 63) (2 ^ 63 - 1)) n ≡ false = grind (arith, nat_tests) in
    rw (all_stay t h.no_space, parts_number t ds fs minus sign h, filled, ends, stay.1, stay.0, value, large, word_is minus n) refl

-- the digits after the point of a number's text
abbrev decimals_of : ℕ → ℕ → List ℕ
decimals_of zero n = []
decimals_of (suc d) n = digits_padded (suc d) (n % 10 ^ suc d)

padded_digits : (d n : ℕ) → n < 2 ^ 64 → AreDigits (digits_padded d n)
padded_digits d n high = digits-append (replicate (d - length (decimal n)) 48) (decimal n) (digits-zeros (d - length (decimal n))) (digits_decimal own n high)

padded_value : (d n : ℕ) → n < 2 ^ 64 → digits_value 10 (digits_padded d n) ≡ n
padded_value d n high =
    let k = d - length (decimal n) in
    value-append 0 (replicate k 48) (decimal n)
    ∙ ap (λ v. digits_value_after 10 v (decimal n)) (value-zeros 0 k ∙ omega arith)
    ∙ digits_value-decimal own n high

fraction_some : (fs : List ℕ) → 0 < length fs → fraction fs ≡ 46 ∷ fs
fraction_some [] some = absurd (omega arith)
fraction_some (f ∷ fs) some = refl

decimals_digits : (d n : ℕ) → n < 2 ^ 64 → AreDigits (decimals_of d n)
decimals_digits zero n high i h = absurd (omega arith)
decimals_digits (suc d) n high i h = padded_digits (suc d) (n % 10 ^ suc d) (omega (arith, mod-le n (10 ^ suc d))) i h

decimals_long : (d n : ℕ) → n < 2 ^ 64 → length (decimals_of d n) ≡ d
decimals_long zero n high = refl
decimals_long (suc d) n high = length-padded (suc d) (n % 10 ^ suc d) (omega arith) (rest_below (suc d) n) (omega (arith, mod-le n (10 ^ suc d)))

decimals_value : (d n : ℕ) → n < 2 ^ 64 → digits_value 10 (decimals_of d n) ≡ n % 10 ^ d
decimals_value zero n high = omega arith
decimals_value (suc d) n high = padded_value (suc d) (n % 10 ^ suc d) (omega (arith, mod-le n (10 ^ suc d)))

unsigned_is : (d n : ℕ) → n < 2 ^ 64 → unsigned_text d n ≡ decimal (n / 10 ^ d) ++ fraction (decimals_of d n)
unsigned_is zero n high = let same : n / 1 ≡ n = omega arith in sym (append-nil (decimal (n / 1)) ∙ ap decimal same)
unsigned_is (suc d) n high = ap (λ (xs : List ℕ). decimal (n / 10 ^ suc d) ++ xs) (sym (fraction_some (decimals_of (suc d) n) (omega (arith, decimals_long (suc d) n high))))

value_is : (d n : ℕ) → n < 2 ^ 64 → digits_value 10 (decimal (n / 10 ^ d) ++ decimals_of d n) ≡ n
value_is d n high =
    let q = n / 10 ^ d in
    let fs = decimals_of d n in
    value-append 0 (decimal q) fs
    ∙ ap (λ v. digits_value_after 10 v fs) (digits_value-decimal own q (omega (arith, div-le_self n (10 ^ d))))
    ∙ value-after q fs
    ∙ ap (λ k. q * 10 ^ k + digits_value 10 fs) (decimals_long d n high)
    ∙ ap (λ r. q * 10 ^ d + r) (decimals_value d n high)
    ∙ div-add-mod' n (10 ^ d)

-- the text of a number, and that after a minus
plain_is : (d n : ℕ) → n < 2 ^ 64 → IsNumber (unsigned_text d n) (decimal (n / 10 ^ d)) (decimals_of d n) false 0
plain_is d n high =
    let ds = decimal (n / 10 ^ d) in
    let fs = decimals_of d n in
    let low : n / 10 ^ d < 2 ^ 64 = omega (arith, div-le_self n (10 ^ d)) in
    let digits = digits_decimal own (n / 10 ^ d) low in
    let is = unsigned_is d n high in
    record {
      minus_is = ap (starts_with_byte 45) is ∙ no_minus ds (fraction fs) digits (decimal_nonempty (n / 10 ^ d) low);
      sign_is = refl;
      rest_is = is;
      digits = digits;
      some = decimal_nonempty (n / 10 ^ d) low;
      decimals = decimals_digits d n high;
      long = ap length is ∙ omega arith;
      no_space = subst HasNoSpace (sym is) (no_space-append ds (fraction fs) (no_space_in_digits ds digits) (no_space_in_fraction fs (decimals_digits d n high)));
    }

minus_is : (d n : ℕ) → n < 2 ^ 64 → IsNumber (45 ∷ unsigned_text d n) (decimal (n / 10 ^ d)) (decimals_of d n) true 1
minus_is d n high =
    let plain = plain_is d n high in
    record {
      minus_is = refl;
      sign_is = refl;
      rest_is = plain.rest_is;
      digits = plain.digits;
      some = plain.some;
      decimals = plain.decimals;
      long = omega (arith, plain.long);
      no_space = no_space-append (45 ∷ []) (unsigned_text d n) (no_space_in_mark 45 refl) plain.no_space;
    }

pub reads_back : (d w : ℕ) → w < 2 ^ 64 → cell d (text d w) ≡ Ok w
reads_back d w high = elim (cases_lt w (2 ^ 63)) [
  | inl small ↦
      let test : nat_lt w (2 ^ 63) ≡ true = grind (arith, nat_tests) in
      let same : w % 2 ^ 64 ≡ w = omega arith in
      let e = cell_number (unsigned_text d w) (decimal (w / 10 ^ d)) (decimals_of d w) false 0 (plain_is d w high) w (value_is d w high) (omega arith) in
      rw (text_plain d w test) (ap (λ k. cell k (unsigned_text d w)) (sym (decimals_long d w high)) ∙ e ∙ ap Ok same)
  | inr large ↦
      let test : nat_lt w (2 ^ 63) ≡ false = grind (arith, nat_tests) in
      let n = 2 ^ 64 - w in
      let below : n < 2 ^ 64 = omega arith in
      let back : neg n ≡ w = neg_is n (omega arith) below ∙ omega arith in
      let e = cell_number (45 ∷ unsigned_text d n) (decimal (n / 10 ^ d)) (decimals_of d n) true 1 (minus_is d n below) n (value_is d n below) (omega arith) in
      rw (text_minus d w test) (ap (λ k. cell k (45 ∷ unsigned_text d n)) (sym (decimals_long d n below)) ∙ e ∙ ap Ok back)
]
