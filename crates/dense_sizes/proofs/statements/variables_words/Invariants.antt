use Rattle.std.proofs.Common.{◌≡◌, take}
use Rattle.std.specs.List.{sum_by}
use Rattle.dense_sizes.specs.DenseWords as spec
use Rattle.dense_sizes.specs.Tallies.{limited}
use Rattle.dense_sizes.proofs.statements.variables_words.Given as goal

-- the words of the variables so far
abbrev pub invariant-loop-variable : goal.invariant-loop-variable
invariant-loop-variable l = l.total ≡ limited (sum_by (spec.variable_words l.sets) (take l.variable-index l.variables))
