use Rattle.std.proofs.Common.{◌≡◌, ◌≤◌, ◌*◌, take}
use Rattle.set_tables.specs.WritingSteps.{column_size}
use Rattle.set_tables.proofs.lengths.column_len.Given as goal

abbrev pub invariant-loop-word : goal.invariant-loop-word
invariant-loop-word l = record {
  value : l.total ≡ column_size l.scale (take l.word-index l.words);
  bound : l.total ≤ l.word-index * 21;
}
