use Rattle.std.proofs.Common.{subst}
use Rattle.std.specs.Prelude.{OnOk}
use Rattle.sim_printer.specs.Printed as spec
use Rattle.sim_printer.specs.Grown.{Grown}
use Rattle.sim_printer.proofs.Equations.{listed-map}
use Rattle.sim_printer.proofs.right_sides.arguments.Goals as goal

pub returns : goal.returns
returns c = subst (λ ws. OnOk c.listed.result (Grown c.args.line.now c.listed.new.line ws)) (listed-map spec.whole spec.expression c.args.args.now) c.listed.ensures
