-- What a call answers of a meaning: the value, or what the meaning says in its place, unless memory ran out.
use Rattle.std.specs.Prelude.{◌≡◌, Result, Ok, Err}
use Rattle.algebra_meaning.specs.declared.stopped.Stopped.{Stopped}
use Rattle.algebra_meaning.specs.declared.stopped.Stopped.TheVariants.{By}

-- a value is the one that is known, and why there is none too
abbrev pub Means : {A E : Type 0} → Result A E → Result A (Stopped E) → Type 0
Means known (Ok value) = known ≡ Ok value
Means {A} {E} known (Err stopped) = (cause : E) → stopped ≡ By cause → known ≡ Err cause

-- the same of a call that changes a state alone
abbrev pub Leads : {S E : Type 0} → Result S E → Result (Unit {0}) (Stopped E) → S → Type 0
Leads known (Ok value) after = known ≡ Ok after
Leads {S} {E} known (Err stopped) after = (cause : E) → stopped ≡ By cause → known ≡ Err cause
