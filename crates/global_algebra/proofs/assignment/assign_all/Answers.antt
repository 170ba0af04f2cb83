use Rattle.std.proofs.Common.{sym, ◌∙◌}
use Rattle.std.proofs.lemmas.List.{nil_from_length}
use Rattle.std.specs.Vec.Iter.{into_iter_items}
use Rattle.algebra_meaning.specs.Linked.{linked}
use Rattle.global_algebra.proofs.Targets.{no_value_left}
use Rattle.global_algebra.proofs.assignment.assign_all.Goals as goal

pub returns : goal.returns
returns g c = no_value_left (linked g.H.HostMeaning.answer c.args.program.now) c.loop-value.state _ c.args.targets.now (into_iter_items c.loop-value.value-iterator) c.loop-value.number (nil_from_length (into_iter_items c.loop-value.value-iterator) (sym c.loop-value.invariant.values ∙ c.in-None.ensures.steps.0)) c.loop-value.invariant.left
