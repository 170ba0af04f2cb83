use Rattle.std.proofs.Common.{length, take, drop, ◌-◌, ◌≡◌, ◌+◌, ◌≤◌, ℕ, List}
use Rattle.std.specs.Char.{is_ascii_digit}
use Rattle.std.specs.List.{prefix_len}
use Rattle.std.specs.Str.Parse.{digits_value}
use Rattle.ring_words.specs.Cell as spec
use Rattle.ring_words.proofs.digits.leading_digits.Given as goal

-- the digits before `size` are read, and those from there on are left
pub record IsReading (bytes : List ℕ) (value : ℕ) (size : ℕ) : Type 0 where
  pub within : size ≤ length bytes
  pub left : prefix_len is_ascii_digit bytes ≡ size + prefix_len is_ascii_digit (drop size bytes)
  pub value_is : value ≡ spec.cut (digits_value 10 (take size bytes))

abbrev pub invariant-loop-size : goal.invariant-loop-size
invariant-loop-size l = IsReading l.bytes l.value l.size

abbrev pub decreases-loop-size : goal.decreases-loop-size
decreases-loop-size l = length l.bytes - l.size
