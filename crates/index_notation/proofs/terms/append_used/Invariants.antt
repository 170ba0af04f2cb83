use Rattle.std.proofs.Common.{◌≡◌, ◌++◌, drop}
use Rattle.chain_forms.specs.Lowering.{used}
use Rattle.index_notation.proofs.terms.append_used.Given as goal

abbrev pub invariant-loop-link : goal.invariant-loop-link
invariant-loop-link l = l.fn.factors ++ used l.atoms l.links ≡ l.factors ++ used l.atoms (drop l.link-index l.links)
