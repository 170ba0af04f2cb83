use Rattle.std.proofs.Common.{◌≡◌, [], drop}
use Rattle.chain_forms.specs.Following.{groups_from}
use Rattle.index_notation.proofs.ordering.groups.Given as goal

abbrev pub invariant-loop-position : goal.invariant-loop-position
invariant-loop-position l = groups_from l.index l.atoms l.position (drop l.position l.atoms) l.all ≡ groups_from l.index l.atoms 0 l.atoms []
