use Rattle.algebra_meaning.specs.Assembled.{mapped}
use Rattle.algebra_meaning.specs.Linked.{linked}
use Rattle.global_algebra.proofs.right_sides.results.Goals as goal

pub returns : goal.returns
returns g c = c.at_element.ensures (mapped (linked g.H.HostMeaning.answer c.args.program.now) c.args.sets.now c.args.set c.args.function.now c.args.args.now) c.mapped-values.ensures
