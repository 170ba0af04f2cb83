use Rattle.chain_forms.specs.Following.{with_group}
use Rattle.index_notation.proofs.Groups.{last}
use Rattle.index_notation.proofs.ordering.place_of.Goals as goal

pub returns-clause-place : goal.returns-clause-place
returns-clause-place c =
    last c.args.group.now c.args.groups.now c.loop-place.place (with_group c.args.group.now c.args.groups.now) c.loop-place-test.false
    c.loop-place.invariant
