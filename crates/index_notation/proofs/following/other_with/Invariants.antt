use Rattle.std.proofs.Common.{◌≡◌, drop}
use Rattle.chain_forms.specs.Following.{other_with}
use Rattle.index_notation.proofs.following.other_with.Given as goal

-- none of the atoms before is another one with the index
abbrev pub invariant-loop-position : goal.invariant-loop-position
invariant-loop-position l = other_with l.index l.but l.position (drop l.position l.atoms) ≡ other_with l.index l.but 0 l.atoms
