use Rattle.std.proofs.Common.{◌≡◌}
use Rattle.std.specs.List.{flat_map, range_with_len}
use Rattle.algebra_meaning.specs.Assembled.{row_entries}
use Rattle.plain_maps.proofs.assembly.words_of.Given as goal

abbrev pub invariant-loop-row : goal.invariant-loop-row
invariant-loop-row l =
    l.words.items
    ≡ flat_map (λ row. flat_map (row_entries l.contributed l.layout.number l.layout.columns l.layout.width row) (range_with_len 0 l.layout.height)) (range_with_len 0 l.row)
