use Rattle.std.proofs.Common.{arith}
use Rattle.assembly_sums.proofs.Blocks.{block_more}
use Rattle.assembly_sums.proofs.block.add_block.Goals as goal

pub loop-row-preserved : goal.loop-row-preserved
loop-row-preserved c =
    block_more c.args.region c.args.columns c.args.words.now c.args.block_columns c.loop-row.row c.from_row-rest.result.now c.args.sums.now c.loop-row.sums c.add_row.new.sums
    c.loop-row.invariant (omega arith) c.requires.within c.from_row-rest.ensures c.add_row.ensures
