-- How many digits a number has.
use Rattle.std.proofs.Common.{◌≡◌, ℕ, ◌+◌, ◌/◌, ◌^◌, ◌<◌, ◌≤◌, length, ap, ◌∙◌, arith, length-append}
use Rattle.std.specs.Prelude.{decimal}
use Rattle.std.proofs.lemmas.Fmt.{decimal_digit, decimal_step, length-decimal-le, decimal_nonempty}

pub length_step : (n : ℕ) → 10 ≤ n → n < 2 ^ 64 → length (decimal n) ≡ length (decimal (n / 10)) + 1
length_step n low high = ap length (decimal_step n low high) ∙ length-append _ _

pub length_one : (n : ℕ) → n < 10 → length (decimal n) ≡ 1
length_one n high = ap length (decimal_digit n high)

pub length_two : (n : ℕ) → 10 ≤ n → n < 100 → length (decimal n) ≡ 2
length_two n low high = omega (arith, length_step n low (omega arith), length_one (n / 10) (omega arith))

pub length_three : (n : ℕ) → 100 ≤ n → n < 1000 → length (decimal n) ≡ 3
length_three n low high = omega (arith, length_step n (omega arith) (omega arith), length_two (n / 10) (omega arith) (omega arith))

pub length_four : (n : ℕ) → 1000 ≤ n → n < 10000 → length (decimal n) ≡ 4
length_four n low high = omega (arith, length_step n (omega arith) (omega arith), length_three (n / 10) (omega arith) (omega arith))

length_hundred : (n : ℕ) → 100 ≤ n → n < 2 ^ 64 → length (decimal n) ≡ length (decimal (n / 100)) + 2
length_hundred n low high =
    let twice : n / 10 / 10 ≡ n / 100 = omega arith in
    let e = length_step (n / 10) (omega arith) (omega arith) in
    length_step n (omega arith) high ∙ ap (λ k. k + 1) (e ∙ ap (λ k. length (decimal k) + 1) twice) ∙ omega arith

pub length_more : (n : ℕ) → 10000 ≤ n → n < 2 ^ 64 → length (decimal n) ≡ length (decimal (n / 10000)) + 4
length_more n low high =
    let twice : n / 100 / 100 ≡ n / 10000 = omega arith in
    let e = length_hundred (n / 100) (omega arith) (omega arith) in
    length_hundred n (omega arith) high ∙ ap (λ k. k + 2) (e ∙ ap (λ k. length (decimal k) + 2) twice) ∙ omega arith

pub length_at_most : (n : ℕ) → n < 2 ^ 64 → length (decimal n) ≤ 20
length_at_most n high = length-decimal-le 20 n (omega arith) (omega arith) high

pub length_at_least : (n : ℕ) → n < 2 ^ 64 → 1 ≤ length (decimal n)
length_at_least n high = decimal_nonempty n high

pub ruleset lengths = (length_one, length_two, length_three, length_four, length_more, length_at_most)
