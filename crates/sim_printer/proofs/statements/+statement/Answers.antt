use Rattle.std.proofs.Common.{arith}
use Rattle.sim_printer.proofs.Parts.{inner_all}
use Rattle.sim_printer.proofs.statements.+statement.Goals as goal

pub inner-returns : goal.inner-returns
inner-returns t c = inner_all c.args.line.now c.loop-one.line c.args.all.now c.loop-one.one-index (omega arith) c.loop-one.invariant
