use Rattle.std.proofs.Common.{◌≡◌, ◌≤◌, take}
use Rattle.chain_forms.specs.Atoms.{atoms_with}
use Rattle.index_notation.proofs.atoms.atoms_with.Given as goal

abbrev pub invariant-loop-atom : goal.invariant-loop-atom
invariant-loop-atom l = record {
  value : l.count ≡ atoms_with l.index (take l.atom-index l.atoms);
  bound : l.count ≤ l.atom-index;
}
