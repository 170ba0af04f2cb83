use Rattle.assembly_sums.specs.Added.{BlockAdded}
use Rattle.assembly_sums.proofs.Blocks.{up_to}
use Rattle.assembly_sums.proofs.block.add_block.Given as goal

abbrev pub invariant-loop-row : goal.invariant-loop-row
invariant-loop-row l = BlockAdded (up_to l.region l.row) l.columns l.words l.block_columns l.initial.sums l.sums
