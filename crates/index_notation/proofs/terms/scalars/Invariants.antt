use Rattle.std.proofs.Common.{◌≡◌, ◌++◌, drop}
use Rattle.chain_forms.specs.Lowering.{scalars}
use Rattle.index_notation.proofs.terms.scalars.Given as goal

abbrev pub invariant-loop-atom : goal.invariant-loop-atom
invariant-loop-atom l = scalars l.atoms ≡ l.factors ++ scalars (drop l.atom-index l.atoms)
