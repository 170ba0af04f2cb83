use Rattle.std.proofs.Common.{◌≡◌, ◌++◌, map}
use Rattle.std.specs.Prelude.{slice_index}
use Rattle.std.specs.List.{flat_map, range_with_len}
use Rattle.value_algebra.proofs.fields.push_rows.Given as goal

abbrev pub invariant-loop-element : goal.invariant-loop-element
invariant-loop-element l =
    l.words.items ≡ l.initial.words.items ++ flat_map (λ element. map (λ column. slice_index column.now element) l.columns) (range_with_len 0 l.element)
