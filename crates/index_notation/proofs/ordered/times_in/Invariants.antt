use Rattle.std.proofs.Common.{◌≡◌, ◌≤◌, take}
use Rattle.chain_forms.specs.ChainForm.{times_in}
use Rattle.index_notation.proofs.ordered.times_in.Given as goal

abbrev pub invariant-loop-link : goal.invariant-loop-link
invariant-loop-link l = record {
  value : l.count ≡ times_in l.position (take l.link-index l.links);
  bound : l.count ≤ l.link-index;
}
