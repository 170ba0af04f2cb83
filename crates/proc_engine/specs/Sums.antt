-- What was contributed up to an element: a word of the contracts inside this crate alone.
use Rattle.std.specs.Prelude.{ℕ, List, [], Result}
use Rattle.std.specs.List.{range_with_len}
use Rattle.vocabulary.specs.Answers.{fold_result}
use Rattle.hypergraph.specs.SetValue.{SetValue}
use Rattle.typed_tree.specs.declared.function.TypedFunction.{TypedFunction}
use Rattle.value_algebra.specs.declared.value.Value.{Value}
use Rattle.algebra_meaning.specs.declared.contribution.Contribution.{Contribution}
use Rattle.algebra_meaning.specs.declared.stopped.Trapped.{Trapped}
use Rattle.algebra_meaning.specs.Assembled.{with_element}
use Rattle.algebra_meaning.specs.Linked.{LinkedProgram}
use Rattle.proc_engine.specs.Running.{those_of}

-- what the elements of a set below a number contribute, or the trap of the least that traps
abbrev pub below : LinkedProgram → List SetValue → ℕ → TypedFunction → List Value → ℕ → Result (List Contribution) Trapped
below program sets set function args n = fold_result (with_element program sets set function args) [] (range_with_len 0 n)

-- what they contribute, where none traps
abbrev pub contributed_below : LinkedProgram → List SetValue → ℕ → TypedFunction → List Value → ℕ → List Contribution
contributed_below program sets set function args n = those_of (below program sets set function args n)
