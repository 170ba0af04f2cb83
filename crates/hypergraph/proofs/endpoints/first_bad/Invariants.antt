use Rattle.std.proofs.Common.{◌<◌, ℕ}
use Rattle.hypergraph.specs.Sets.{IsSetAmong}
use Rattle.hypergraph.proofs.endpoints.first_bad.Given as goal

abbrev pub invariant-loop-number : goal.invariant-loop-number
invariant-loop-number l = (k : ℕ) → k < l.number → IsSetAmong l.sets k
