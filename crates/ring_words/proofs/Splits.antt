-- The parts of a text, with a point and without.
use Rattle.std.proofs.Common.{◌≡◌, ℕ, ◌+◌, true, false, not, ◌&&◌, eqb, cond, List, [], drop, refl}
use Rattle.std.specs.Char.{is_ascii_digit}
use Rattle.std.specs.List.{prefix_len}
use Rattle.std.proofs.lemmas.List.{drop-drop}
use Rattle.std.proofs.lemmas.List.Folds.{length-prefix_len}
use Rattle.ring_words.specs.Cell.{digits_at, parts, starts_with_byte}

pub parts-negative : (rest : List ℕ) → (parts rest).negative ≡ starts_with_byte 45 rest
unfolding parts
parts-negative rest = refl

-- a text with digits and a point: n digits after `sign` bytes, and m digits after the point
pub record HasPoint (rest : List ℕ) (sign n m : ℕ) : Type 0 where
  pub sign_is : cond (starts_with_byte 45 rest) 1 0 ≡ sign
  pub whole_is : prefix_len is_ascii_digit (drop sign rest) ≡ n
  pub not_none : eqb n 0 ≡ false
  pub point : starts_with_byte 46 (drop (sign + n) rest) ≡ true
  pub decimals_is : prefix_len is_ascii_digit (drop (sign + n + 1) rest) ≡ m

pub parts_point : (rest : List ℕ) (sign n m : ℕ) → HasPoint rest sign n m
    → ((parts rest).whole ≡ digits_at (drop sign rest)) × ((parts rest).decimals ≡ digits_at (drop (sign + n + 1) rest)) × ((parts rest).size ≡ sign + n + 1 + m) × ((parts rest).complete ≡ not (eqb m 0))
unfolding parts
parts_point rest sign n m h =
    rw (h.sign_is, length-prefix_len is_ascii_digit (drop sign rest), h.whole_is, h.not_none, h.point, drop-drop 1 (sign + n) rest, length-prefix_len is_ascii_digit (drop (sign + n + 1) rest), h.decimals_is) (refl, refl, refl, refl)

-- a text without a point
pub record HasNoPoint (rest : List ℕ) (sign n : ℕ) : Type 0 where
  pub sign_is : cond (starts_with_byte 45 rest) 1 0 ≡ sign
  pub whole_is : prefix_len is_ascii_digit (drop sign rest) ≡ n
  pub no_point : (not (eqb n 0) && starts_with_byte 46 (drop (sign + n) rest)) ≡ false

pub parts_no_point : (rest : List ℕ) (sign n : ℕ) → HasNoPoint rest sign n → ((parts rest).whole ≡ digits_at (drop sign rest)) × ((parts rest).decimals ≡ [])
unfolding parts
parts_no_point rest sign n h =
    rw (h.sign_is, length-prefix_len is_ascii_digit (drop sign rest), h.whole_is, h.no_point) (refl, refl)
