use Rattle.algebra_meaning.specs.Expression.{holds}
use Rattle.algebra_meaning.specs.Run.{scope_in}
use Rattle.algebra_meaning.specs.Linked.{linked}
use Rattle.global_algebra.proofs.right_sides.test.Goals as goal

pub returns : goal.returns
returns g c = c.at_line.ensures (holds (scope_in (linked g.H.HostMeaning.answer c.args.program.now) c.args.state.now) c.args.cond.now) (rw c.scope_in-scope.ensures at c.holds.ensures)
