-- One more decimal.
use Rattle.std.proofs.Common.{◌≡◌, ℕ, ◌+◌, ◌-◌, ◌*◌, ◌≤◌, ◌<◌, Bool, true, false, not, ◌&&◌, cond, List, [], ◌∷◌, ◌++◌, length, take, drop, get_or, refl, sym, ap, ◌∙◌, arith, add-one, length-take-le, take-suc, take_all, drop_of_length-le}
use Rattle.std.specs.Char.{digit_value}
use Rattle.std.specs.List.{list_all}
use Rattle.std.specs.Str.Parse.{digits_value_after}
use Rattle.std.proofs.lemmas.Bool.Decides.{nat_tests}
use Rattle.std.proofs.lemmas.List.{take-append-le, drop-append-le}
use Rattle.std.proofs.lemmas.List.Folds.{list_all-append}
use Rattle.ring_words.proofs.DigitValues.{value-append}
use Rattle.ring_words.specs.Cell.{cut, is_too_fine, is_zero_digit}

pub digit_is : (c : ℕ) → 48 ≤ c → c ≤ 57 → digit_value c ≡ c - 48
digit_is c low high = grind (arith, nat_tests)

pub cut_more : (v w c : ℕ) → w ≡ cut v → cut (w * 10 + c) ≡ cut (v * 10 + c)
cut_more v w c e = omega arith

another : (bytes : List ℕ) (i : ℕ) → i < length bytes → take (i + 1) bytes ≡ take i bytes ++ (get_or bytes i 0 ∷ [])
another bytes i inside = rw add-one (take-suc bytes i 0 inside)

-- one within the scale counts
pub units_more : (d whole : ℕ) (bytes : List ℕ) (i units : ℕ) → i < length bytes → i < d → 48 ≤ get_or bytes i 0 → get_or bytes i 0 ≤ 57 → units ≡ cut (digits_value_after 10 whole (take d (take i bytes))) → cut (units * 10 + (get_or bytes i 0 - 48)) ≡ cut (digits_value_after 10 whole (take d (take (i + 1) bytes)))
units_more d whole bytes i units inside near low high e =
    let b = get_or bytes i 0 in
    let ds = take i bytes in
    let before : take d ds ≡ ds = take_all d ds (omega (arith, length-take-le i bytes)) in
    let after : take d (take (i + 1) bytes) ≡ take (i + 1) bytes = take_all d (take (i + 1) bytes) (omega (arith, length-take-le (i + 1) bytes)) in
    let step : digits_value_after 10 whole (ds ++ (b ∷ [])) ≡ digits_value_after 10 whole ds * 10 + (b - 48) = value-append whole ds (b ∷ []) ∙ omega (arith, digit_is b low high) in
    cut_more (digits_value_after 10 whole ds) units (b - 48) (rw before at e)
    ∙ ap cut (sym step ∙ ap (digits_value_after 10 whole) (sym (after ∙ another bytes i inside)))

-- one past the scale doesn't
pub units_same : (d : ℕ) (bytes : List ℕ) (i : ℕ) → i < length bytes → d ≤ i → take d (take (i + 1) bytes) ≡ take d (take i bytes)
units_same d bytes i inside far = ap (take d) (another bytes i inside) ∙ take-append-le d (take i bytes) _ (omega (arith, length-take-le i bytes))

-- none within the scale is too fine
pub fine_before : (d : ℕ) (bytes : List ℕ) (i : ℕ) → i < length bytes → i < d → is_too_fine d (take (i + 1) bytes) ≡ is_too_fine d (take i bytes)
fine_before d bytes i inside near =
    let none = λ (n : ℕ) (h : n ≤ d) (w : n ≤ length bytes). drop_of_length-le (take n bytes) {i = d} (omega (arith, length-take-le n bytes)) in
    rw (none (i + 1) (omega arith) (omega arith), none i (omega arith) (omega arith)) refl

joined : (b : Bool) (c : Bool) → not (b && (c && true)) ≡ cond c (not b) true
joined true true = refl
joined true false = refl
joined false true = refl
joined false false = refl

-- one past the scale is, unless it is 0
pub fine_after : (d : ℕ) (bytes : List ℕ) (i : ℕ) → i < length bytes → d ≤ i → is_too_fine d (take (i + 1) bytes) ≡ cond (is_zero_digit (get_or bytes i 0)) (is_too_fine d (take i bytes)) true
fine_after d bytes i inside far =
    let b = get_or bytes i 0 in
    let ds = take i bytes in
    let split : drop d (take (i + 1) bytes) ≡ drop d ds ++ (b ∷ []) = ap (drop d) (another bytes i inside) ∙ drop-append-le d ds (b ∷ []) (omega (arith, length-take-le i bytes)) in
    ap (λ xs. not (list_all is_zero_digit xs)) split
    ∙ ap not (list_all-append is_zero_digit (drop d ds) (b ∷ []))
    ∙ joined (list_all is_zero_digit (drop d ds)) (is_zero_digit b)
