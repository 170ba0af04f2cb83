use Rattle.algebra_meaning.specs.Expression.{meanings}
use Rattle.algebra_meaning.specs.Run.{scope_in}
use Rattle.algebra_meaning.specs.Linked.{linked}
use Rattle.global_algebra.proofs.right_sides.arguments.Goals as goal

pub returns : goal.returns
returns g c = c.at_line.ensures (meanings (scope_in (linked g.H.HostMeaning.answer c.args.program.now) c.args.state.now) c.args.args.now) (rw c.scope_in-scope.ensures at c.meanings.ensures)
