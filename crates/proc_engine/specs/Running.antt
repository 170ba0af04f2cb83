-- A function that runs at an element on words: its locals, and sums to which it adds what it contributes. Words of the contracts
-- inside this crate alone.
use Rattle.std.specs.Prelude.{◌≡◌, List, [], ◌++◌, Result, Ok, Err}
use Rattle.ring_words.specs.declared.trap.TrapKind.{TrapKind}
use Rattle.hypergraph.specs.SetValue.{SetValue}
use Rattle.typed_tree.specs.declared.function.TypedResult.{TypedResult}
use Rattle.value_algebra.specs.declared.value.Value.{Value}
use Rattle.algebra_meaning.specs.declared.contribution.Contribution.{Contribution}
use Rattle.algebra_meaning.specs.declared.contribution.Point.{Point}
use Rattle.algebra_meaning.specs.declared.stopped.Stopped.{Stopped}
use Rattle.algebra_meaning.specs.declared.stopped.Stopped.TheVariants.{By}
use Rattle.algebra_meaning.specs.Assembled.{all_assembled}

-- the point of these locals and contributions
abbrev pub point : List Value → List Contribution → Point
point locals contributed = record { locals = locals; contributed = contributed }

abbrev pub contributed_in : Result Point TrapKind → List Contribution
contributed_in (Ok point) = point.contributed
contributed_in (Err kind) = []

-- what a call that goes on from a point answers of where that leads, by the locals and the sums after it: the sums are those of what
-- earlier elements contributed, and of what this one did up to there
abbrev pub Runs : List SetValue → List TypedResult → List Contribution → Result Point TrapKind → Result (Unit {0}) (Stopped TrapKind) → List Value → List Value → Type 0
Runs sets results before known (Ok done) locals sums =
    (known ≡ Ok (point locals (contributed_in known))) × (sums ≡ all_assembled sets (before ++ contributed_in known) 0 results)
Runs sets results before known (Err stopped) locals sums = (kind : TrapKind) → stopped ≡ By kind → known ≡ Err kind

abbrev pub those_of : {E : Type 0} → Result (List Contribution) E → List Contribution
those_of (Ok contributed) = contributed
those_of (Err trap) = []

-- what a call that runs a function at an element answers of what that contributes, by the sums after it
abbrev pub Adds : {E : Type 0} → List SetValue → List TypedResult → List Contribution → Result (List Contribution) E → Result (Unit {0}) (Stopped E) → List Value → Type 0
Adds sets results before known (Ok done) sums =
    (known ≡ Ok (those_of known)) × (sums ≡ all_assembled sets (before ++ those_of known) 0 results)
Adds {E} sets results before known (Err stopped) sums = (cause : E) → stopped ≡ By cause → known ≡ Err cause
