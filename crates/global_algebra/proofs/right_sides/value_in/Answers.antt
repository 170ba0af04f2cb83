use Rattle.algebra_meaning.specs.Expression.{meaning}
use Rattle.algebra_meaning.specs.Run.{scope_in}
use Rattle.algebra_meaning.specs.Linked.{linked}
use Rattle.global_algebra.proofs.right_sides.value_in.Goals as goal

pub returns : goal.returns
returns g c = c.at_line.ensures (meaning (scope_in (linked g.H.HostMeaning.answer c.args.program.now) c.args.state.now) c.args.e.now) (rw c.scope_in-scope.ensures at c.meaning.ensures)
