use Rattle.std.proofs.Common.{rules}
use Rattle.sim_grammar.specs.ReadMain.{target}
use Rattle.assignment_parser.proofs.assignments.target_sides.Goals as goal

pub returns : goal.returns
returns c = c.sides.ensures target (record { reads = λ old new r post. search rules })
