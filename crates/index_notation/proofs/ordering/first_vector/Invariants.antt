use Rattle.std.proofs.Common.{◌≡◌, drop}
use Rattle.chain_forms.specs.Following.{first_vector}
use Rattle.index_notation.proofs.ordering.first_vector.Given as goal

abbrev pub invariant-loop-position : goal.invariant-loop-position
invariant-loop-position l = first_vector l.position (drop l.position l.atoms) ≡ first_vector 0 l.atoms
