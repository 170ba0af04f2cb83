use Rattle.algebra_meaning.specs.Linked.{linked}
use Rattle.simit_run.proofs.Outcomes.{ran}
use Rattle.simit_run.proofs.running.sets_after.Goals as goal

pub returns-clause-words : goal.returns-clause-words
returns-clause-words g c =
    c.shape_law.ensures.sets (linked g.H.HostMeaning.answer c.args.typed.now) c.args.sets c.in_ok-after.after c.args.manner.turns
    (ran (linked g.H.HostMeaning.answer c.args.typed.now) c.args.manner.turns c.args.sets c.in_ok-ending.ending c.in_ok-after.after c.in_ok-ending.ensures c.in_ok-after.ensures)
