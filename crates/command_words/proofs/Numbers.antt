-- Digits are what a number is parsed from.
use Rattle.std.proofs.Common.{◌≡◌, ◌≤◌, ◌<◌, ◌^◌, ◌&&◌, ◌==◌, ℕ, Bool, true, false, true≢false, List, [], ◌∷◌, length, refl, sym, ap, ◌∙◌, arith, inl, inr}
use Rattle.std.specs.Prelude.{Result, Ok, Err, MatchResult}
use Rattle.std.specs.List.{list_all}
use Rattle.std.specs.Char.{digit_value}
use Rattle.std.specs.Str.Parse.{AllDigits, ParsesUnsigned, digits_value, without_leading_plus}
use Rattle.std.proofs.lemmas.Bool.{cases_lt}
use Rattle.command_words.specs.Verbs.{is_digit, is_number}

both : (a b : Bool) → (a && b) ≡ true → (a ≡ true) × (b ≡ true)
both true b e = (refl, e)
both false b e = absurd (true≢false (sym e))

one_digit : (d : ℕ) → is_digit d ≡ true → digit_value d < 10
one_digit d e = grind arith

not_plus : (d : ℕ) → is_digit d ≡ true → (d == 43) ≡ false
not_plus d e = grind arith

pub all_digits : (ds : List ℕ) → list_all is_digit ds ≡ true → AllDigits 10 ds
all_digits [] e = tt
all_digits (d ∷ ds) e =
    let parts = both (is_digit d) (list_all is_digit ds) e in
    (one_digit d parts.0, all_digits ds parts.1)

pub no_plus : (ds : List ℕ) → list_all is_digit ds ≡ true → without_leading_plus ds ≡ ds
no_plus [] e = refl
no_plus (d ∷ ds) e = rw (not_plus d (both (is_digit d) (list_all is_digit ds) e).0) refl

some_digits : (ds : List ℕ) → is_number ds ≡ true → (0 < length ds) × (list_all is_digit ds ≡ true)
some_digits ds e = grind arith

pub parsed_digits : {E : Type 0} (ds : List ℕ) (r : Result ℕ E) → is_number ds ≡ true → ParsesUnsigned 32 10 ds r
    → MatchResult r (λ v. v ≡ digits_value 10 ds) (λ _. 2 ^ 32 ≤ digits_value 10 ds)
parsed_digits ds (Ok v) e parsed =
    let parts = some_digits ds e in
    parsed.1 ∙ ap (digits_value 10) (no_plus ds parts.1)
parsed_digits ds (Err x) e parsed =
    let parts = some_digits ds e in
    elim (cases_lt (digits_value 10 ds) (2 ^ 32)) [
      | inl below ↦ absurd (parsed (rw (no_plus ds parts.1) ((parts.0, all_digits ds parts.1), below)))
      | inr past ↦ past
    ]
