use Rattle.std.proofs.Common.{◌≡◌, ◌++◌, map, take}
use Rattle.std.specs.Prelude.{slice_index}
use Rattle.value_algebra.proofs.fields.push_entries.Given as goal

abbrev pub invariant-loop-column : goal.invariant-loop-column
invariant-loop-column l = l.words.items ≡ l.initial.words.items ++ map (λ column. slice_index column.now l.element) (take l.column-index l.columns)
