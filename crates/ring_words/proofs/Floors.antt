-- What is rounded down is the greatest whole number that isn't above the quotient.
use Rattle.std.proofs.Common.{ℕ, ◌<◌, ℤ, pos, negsuc, ◌+ℤ◌, ◌*ℤ◌, ◌≤ℤ◌, ◌<ℤ◌, arith}
use Rattle.std.proofs.lemmas.Int.{ints}
use Rattle.std.proofs.lemmas.Nat.{div-add-mod', mod_below}
use Rattle.ring_words.specs.Scale.{floor_by}

pub floor_is : (n : ℤ) (m : ℕ) → 0 < m → ((floor_by n m *ℤ pos m) ≤ℤ n) × (n <ℤ ((floor_by n m *ℤ pos m) +ℤ pos m))
floor_is (pos n) m some =
    let whole = div-add-mod' n m in
    let rest = mod_below n m some in
    (omega (arith, ints, whole), omega (arith, ints, whole, rest))
floor_is (negsuc n) m some =
    let whole = div-add-mod' n m in
    let rest = mod_below n m some in
    (omega (arith, ints, whole, rest), omega (arith, ints, whole, rest))
