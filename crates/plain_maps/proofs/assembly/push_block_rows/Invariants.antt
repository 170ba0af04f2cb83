use Rattle.std.proofs.Common.{◌≡◌, ◌++◌}
use Rattle.std.specs.List.{flat_map, range_with_len}
use Rattle.algebra_meaning.specs.Assembled.{row_entries}
use Rattle.plain_maps.proofs.assembly.push_block_rows.Given as goal

abbrev pub invariant-loop-r : goal.invariant-loop-r
invariant-loop-r l =
    l.words.items ≡ l.initial.words.items
    ++ flat_map (row_entries l.contributed l.layout.number l.layout.columns l.layout.width l.row) (range_with_len 0 l.r)
