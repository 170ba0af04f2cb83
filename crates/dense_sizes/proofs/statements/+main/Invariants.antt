use Rattle.std.proofs.Common.{◌≡◌, take}
use Rattle.std.specs.List.{sum_by}
use Rattle.dense_sizes.specs.DenseWords as spec
use Rattle.dense_sizes.specs.Tallies.{limited}
use Rattle.dense_sizes.proofs.statements.+main.Given as goal

-- the words of the statements so far
abbrev pub invariant-statements_words-loop-statement : goal.invariant-statements_words-loop-statement
invariant-statements_words-loop-statement l =
    l.total ≡ limited (sum_by (λ statement. sum_by (spec.node_words l.sets) (spec.dense_nodes statement)) (take l.statement-index l.statements))
