use Rattle.std.proofs.Common.{length, take, drop, ◌-◌, ◌≡◌, ◌+◌, ◌≤◌, ℕ, Bool, List}
use Rattle.std.specs.Char.{is_ascii_digit}
use Rattle.std.specs.List.{prefix_len}
use Rattle.std.specs.Str.Parse.{digits_value_after}
use Rattle.ring_words.specs.Cell as spec
use Rattle.ring_words.proofs.digits.leading_decimals.Given as goal

-- the digits before `size` are read as decimals, and those from there on are left
pub record IsReading (d whole : ℕ) (bytes : List ℕ) (units : ℕ) (too_fine : Bool) (size : ℕ) : Type 0 where
  pub within : size ≤ length bytes
  pub left : prefix_len is_ascii_digit bytes ≡ size + prefix_len is_ascii_digit (drop size bytes)
  pub units_are : units ≡ spec.cut (digits_value_after 10 whole (take d (take size bytes)))
  pub too_fine_is : too_fine ≡ spec.is_too_fine d (take size bytes)

abbrev pub invariant-loop-size : goal.invariant-loop-size
invariant-loop-size l = IsReading l.d l.whole l.bytes l.units l.too_fine l.size

abbrev pub decreases-loop-size : goal.decreases-loop-size
decreases-loop-size l = length l.bytes - l.size
