use Rattle.std.proofs.Common.{◌≡◌, drop, map}
use Rattle.vocabulary.specs.Answers.{all_ok}
use Rattle.chain_forms.specs.Lowered.{lowered_term}
use Rattle.index_notation.proofs.Taking.{after}
use Rattle.index_notation.proofs.sums.lowered_terms.Given as goal

abbrev pub invariant-loop-term : goal.invariant-loop-term
invariant-loop-term l =
    all_ok (map (lowered_term l.free l.line) l.terms) ≡ after l.lowered (all_ok (map (lowered_term l.free l.line) (drop l.term-index l.terms)))
