use Rattle.std.proofs.Common.{subst}
use Rattle.typed_tree.specs.Nodes.{nodes_of}
use Rattle.dense_sizes.specs.Tallies.{Counts}
use Rattle.dense_sizes.proofs.Counting.{but_own_counted}
use Rattle.dense_sizes.proofs.statements.words_but_own.Goals as goal

pub returns : goal.returns
returns c =
    but_own_counted c.args.sets.now c.expression.result (nodes_of c.args.value.now)
    (subst (λ tally. Counts c.args.sets.now tally (nodes_of c.args.value.now) c.expression.result) c.of_none.ensures c.expression.ensures)
