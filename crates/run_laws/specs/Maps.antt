-- The outcome of a map as a relation by cases: the results that the contributions of all elements make, or the trap of the least
-- element that traps.
use Rattle.std.specs.Prelude.{◌≡◌, ℕ, ◌<◌, List, Result, Ok, Err}
use Rattle.std.specs.List.{flat_map, range_with_len}
use Rattle.ring_words.specs.declared.trap.TrapKind.{TrapKind}
use Rattle.hypergraph.specs.SetValue.{SetValue}
use Rattle.hypergraph.specs.Sets.{set_at}
use Rattle.typed_tree.specs.declared.function.TypedFunction.{TypedFunction}
use Rattle.algebra_meaning.specs.Linked.{LinkedProgram}
use Rattle.value_algebra.specs.declared.value.Value.{Value}
use Rattle.algebra_meaning.specs.Assembled.{all_assembled, contributions_at}
use Rattle.algebra_meaning.specs.declared.contribution.Contribution.{Contribution}
use Rattle.algebra_meaning.specs.declared.stopped.Trapped.{Trapped}

pub data MapsTo (program : LinkedProgram) (sets : List SetValue) (set : ℕ) (function : TypedFunction) (args : List Value) : Result (List Value) Trapped → Type 0 where
  -- each element contributes: what all contribute, in the order of the elements, is assembled
  all_contribute : (contributed : ℕ → List Contribution)
      → ((element : ℕ) → element < (set_at sets set).count → contributions_at program sets set function args element ≡ Ok (contributed element))
      → MapsTo program sets set function args (Ok (all_assembled sets (flat_map contributed (range_with_len 0 (set_at sets set).count)) 0 function.results))
  -- an element traps, and each before it contributes
  least_traps : (element : ℕ) (kind : TrapKind) (contributed : ℕ → List Contribution)
      → element < (set_at sets set).count → contributions_at program sets set function args element ≡ Err kind
      → ((before : ℕ) → before < element → contributions_at program sets set function args before ≡ Ok (contributed before))
      → MapsTo program sets set function args (Err (record { element = element; kind = kind }))
