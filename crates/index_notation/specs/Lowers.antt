-- What a call answers of what a part of a program is lowered to: that, or the line of the first index expression that isn't
-- in chain form, unless memory ran out.
use Rattle.std.specs.Prelude.{◌≡◌, ℕ, Result, Ok, Err}
use Rattle.index_notation.specs.declared.fault.LowerFault.{LowerFault}
use Rattle.index_notation.specs.declared.fault.LowerFault.TheVariants.{NotAChain}

abbrev pub Lowers : {A : Type 0} → Result A ℕ → Result A LowerFault → Type 0
Lowers known (Ok value) = known ≡ Ok value
Lowers known (Err fault) = (line : ℕ) → fault ≡ NotAChain line → known ≡ Err line
