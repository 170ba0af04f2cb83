use Rattle.std.proofs.Common.{◌≡◌, ◌++◌, map}
use Rattle.std.specs.List.{range_with_len}
use Rattle.algebra_meaning.specs.Assembled.{entry}
use Rattle.plain_maps.proofs.assembly.push_block_row.Given as goal

abbrev pub invariant-loop-c : goal.invariant-loop-c
invariant-loop-c l =
    l.words.items ≡ l.initial.words.items ++ map (entry l.contributed l.place.number l.place.row l.place.column l.r) (range_with_len 0 l.c)
