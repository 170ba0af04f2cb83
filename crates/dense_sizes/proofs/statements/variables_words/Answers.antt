use Rattle.dense_sizes.specs.DenseWords as spec
use Rattle.dense_sizes.proofs.Counting.{nothing_counted, limited_part, item_more}
use Rattle.dense_sizes.proofs.statements.variables_words.Goals as goal

pub loop-variable-init : goal.loop-variable-init
loop-variable-init c = nothing_counted (spec.variable_words c.args.sets.now) c.args.variables.now

pub loop-variable-preserved : goal.loop-variable-preserved
loop-variable-preserved c =
    item_more (spec.variable_words c.args.sets.now) c.args.variables.now c.loop-variable.variable-index c.variable-item.result c.loop-variable.total c.plus-total.result c.matrix_words-part.result
    c.loop-variable-test.true c.variable-item.is c.plus-total.ensures (limited_part _ _ c.matrix_words-part.ensures c.matrix_words-part.type_inv) c.loop-variable.invariant
