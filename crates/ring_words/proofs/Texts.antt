-- The text of a word, and how long it is.
use Rattle.std.proofs.Common.{◌≡◌, ℕ, zero, suc, ◌+◌, ◌-◌, ◌*◌, ◌/◌, ◌%◌, ◌^◌, ◌<◌, ◌≤◌, true, false, nat_lt, List, [], ◌∷◌, ◌++◌, length, take, replicate, refl, sym, ap, subst, ◌∙◌, arith, append_assoc, length-append}
use Rattle.std.specs.Prelude.{decimal}
use Rattle.std.proofs.Math.Nat.{div-le_self, mod-le, one-le-pow}
use Rattle.std.proofs.lemmas.Bool.Decides.{nat_tests}
use Rattle.std.proofs.lemmas.Fmt.{length-decimal-le}
use Rattle.std.proofs.lemmas.List.{length-replicate, take-replicate}
use Rattle.std.proofs.lemmas.Nat.{div_below, mod_below, pow-add}
use Rattle.ring_words.proofs.Lengths.{length_at_least}
use Rattle.ring_words.specs.Cell.{digits_padded, text, unsigned_text}
use Rattle.ring_words.specs.Word.{neg}

pub text_plain : (d w : ℕ) → nat_lt w (2 ^ 63) ≡ true → text d w ≡ unsigned_text d w
unfolding text
text_plain d w small = rw small refl

pub text_minus : (d w : ℕ) → nat_lt w (2 ^ 63) ≡ false → text d w ≡ 45 ∷ unsigned_text d (2 ^ 64 - w)
unfolding text
text_minus d w large = rw large refl

pub neg_is : (w : ℕ) → 0 < w → w < 2 ^ 64 → neg w ≡ 2 ^ 64 - w
unfolding neg
neg_is zero low high = absurd (omega arith)
neg_is (suc n) low high = omega arith

pub text_negative : (d w : ℕ) → nat_lt w (2 ^ 63) ≡ false → w < 2 ^ 64 → text d w ≡ 45 ∷ unsigned_text d (neg w)
text_negative d w large high =
    let low : 2 ^ 63 ≤ w = grind (arith, nat_tests) in
    text_minus d w large ∙ ap (λ n. 45 ∷ unsigned_text d n) (sym (neg_is w (omega arith) high))

pub neg_small : (w : ℕ) → nat_lt w (2 ^ 63) ≡ false → w < 2 ^ 64 → neg w ≤ 2 ^ 63
neg_small w large high =
    let low : 2 ^ 63 ≤ w = grind (arith, nat_tests) in
    omega (arith, neg_is w (omega arith) high)

pub unsigned_point : (d n : ℕ) → 0 < d → unsigned_text d n ≡ decimal (n / 10 ^ d) ++ 46 ∷ digits_padded d (n % 10 ^ d)
unsigned_point zero n some = absurd (omega arith)
unsigned_point (suc d) n some = refl

pub power_positive : (d : ℕ) → 0 < 10 ^ d
power_positive d = one-le-pow d 10 (omega arith)

pub rest_below : (d n : ℕ) → n % 10 ^ d < 10 ^ d
rest_below d n = mod_below n (10 ^ d) (power_positive d)

pub length-padded : (d n : ℕ) → 0 < d → n < 10 ^ d → n < 2 ^ 64 → length (digits_padded d n) ≡ d
length-padded d n some below high =
    omega (arith, length-append (replicate (d - length (decimal n)) 48) (decimal n), length-replicate {A = ℕ} (d - length (decimal n)) 48, length-decimal-le d n some below high)

pub length-point : (d n : ℕ) → 0 < d → n < 2 ^ 64 → length (unsigned_text d n) ≡ length (decimal (n / 10 ^ d)) + 1 + d
length-point d n some high =
    let whole = decimal (n / 10 ^ d) in
    let rest = digits_padded d (n % 10 ^ d) in
    ap length (unsigned_point d n some) ∙ length-append whole (46 ∷ rest) ∙ omega (arith, length-padded d (n % 10 ^ d) some (rest_below d n) (omega (arith, mod-le n (10 ^ d))))

-- the digits before the point and those after it are at most 19
pub length-whole : (d n : ℕ) → d ≤ 18 → n ≤ 2 ^ 63 → length (decimal (n / 10 ^ d)) + d ≤ 19
length-whole d n small high =
    let both : 10 ^ (19 - d + d) ≡ 10 ^ (19 - d) * 10 ^ d = pow-add 10 (19 - d) d in
    let all : 19 - d + d ≡ 19 = omega arith in
    let powers : 10 ^ 19 ≡ 10 ^ (19 - d) * 10 ^ d = ap (λ k. 10 ^ k) (sym all) ∙ both in
    omega (arith, length-decimal-le (19 - d) (n / 10 ^ d) (omega arith) (div_below n (10 ^ d) (10 ^ (19 - d)) (power_positive d) (omega arith)) (omega (arith, div-le_self n (10 ^ d))))

pub length-zero : (n : ℕ) → n ≤ 2 ^ 63 → length (decimal n) ≤ 19
length-zero n high = length-decimal-le 19 n (omega arith) (omega arith) (omega arith)

-- a minus and the text of the magnitude, appended one after the other
pub minus_appended : (d w : ℕ) (front : List ℕ) → nat_lt w (2 ^ 63) ≡ false → w < 2 ^ 64 → (front ++ (45 ∷ [])) ++ unsigned_text d (neg w) ≡ front ++ text d w
minus_appended d w front large high = append_assoc front (45 ∷ []) (unsigned_text d (neg w)) ∙ ap (λ (xs : List ℕ). front ++ xs) (sym (text_negative d w large high))

-- the whole part, the point and the decimals, appended one after the other
pub point_appended : (d n : ℕ) (front : List ℕ) → 0 < d → ((front ++ decimal (n / 10 ^ d)) ++ (46 ∷ [])) ++ digits_padded d (n % 10 ^ d) ≡ front ++ unsigned_text d n
point_appended d n front some =
    let whole = decimal (n / 10 ^ d) in
    let rest = digits_padded d (n % 10 ^ d) in
    append_assoc (front ++ whole) (46 ∷ []) rest ∙ append_assoc front whole (46 ∷ rest) ∙ ap (λ (xs : List ℕ). front ++ xs) (sym (unsigned_point d n some))

pub padded_appended : (d n k : ℕ) (front : List ℕ) → d ≤ 18 → k ≡ d - length (decimal n) → (front ++ take k (replicate {A = ℕ} 18 48)) ++ decimal n ≡ front ++ digits_padded d n
padded_appended d n k front small e =
    let zeros : take k (replicate {A = ℕ} 18 48) ≡ replicate (d - length (decimal n)) 48 = take-replicate k 18 48 (omega arith) ∙ ap (λ m. replicate m 48) e in
    ap (λ (xs : List ℕ). (front ++ xs) ++ decimal n) zeros ∙ append_assoc front (replicate (d - length (decimal n)) 48) (decimal n)

pub ruleset texts = (text_plain, text_negative, minus_appended, neg_small)

pub ruleset lengths = (length-point, length-whole, length-zero, length_at_least, div-le_self)
