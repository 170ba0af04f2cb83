use Rattle.std.proofs.Common.{◌≡◌, drop}
use Rattle.chain_forms.specs.ChainForm.{least}
use Rattle.index_notation.proofs.ordering.least.Given as goal

abbrev pub invariant-loop-link : goal.invariant-loop-link
invariant-loop-link l = least l.least (drop l.link-index l.links) ≡ least l.fn.number l.links
