use Rattle.std.proofs.Common.{◌≡◌, ◌+◌, ◌++◌, map}
use Rattle.std.specs.List.{range_with_len}
use Rattle.hypergraph.specs.Sets.{set_at}
use Rattle.value_algebra.specs.Fields.{entry_of, first_column}
use Rattle.value_algebra.proofs.fields.push_element.Given as goal

abbrev pub invariant-loop-component : goal.invariant-loop-component
invariant-loop-component l =
    l.words.items ≡ l.initial.words.items ++ map (λ component. entry_of (set_at l.sets l.set) l.element (first_column l.fn.fields l.fn.field + component)) (range_with_len 0 l.component)
