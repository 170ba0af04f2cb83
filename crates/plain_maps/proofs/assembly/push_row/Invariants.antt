use Rattle.std.proofs.Common.{◌≡◌, ◌++◌, map}
use Rattle.std.specs.List.{flat_map, range_with_len}
use Rattle.algebra_meaning.specs.Assembled.{entry}
use Rattle.plain_maps.proofs.assembly.push_row.Given as goal

abbrev pub invariant-loop-column : goal.invariant-loop-column
invariant-loop-column l =
    l.words.items ≡ l.initial.words.items
    ++ flat_map (λ column. map (entry l.contributed l.layout.number l.row column l.r) (range_with_len 0 l.layout.width)) (range_with_len 0 l.column)
