use Rattle.std.proofs.Common.{◌++◌, map, subst, arith}
use Rattle.std.specs.List.{sum_by}
use Rattle.typed_tree.specs.Nodes.{joined, condition_nodes}
use Rattle.dense_sizes.specs.DenseWords as spec
use Rattle.dense_sizes.specs.DenseWords.{dense_nodes}
use Rattle.dense_sizes.specs.Tallies.{AreWords}
use Rattle.dense_sizes.proofs.Counting.{nothing_counted, item_more, all_joined, words_together}
use Rattle.dense_sizes.proofs.Shapes.{for_nodes, if_nodes}
use Rattle.dense_sizes.proofs.statements.+main.Goals as goal

pub statement_words-returns-in-For : goal.statement_words-returns-in-For
statement_words-returns-in-For t c =
    rw c.in-For.is
    (rw (for_nodes c.in-For.line c.in-For.local c.in-For.from c.in-For.to c.in-For.body)
    (words_together _ _ _ _ _ _ c.plus.ensures c.bounds_words-bounds.ensures
    (subst (λ body. AreWords c.args.sets.now (joined (map dense_nodes body)) c.statements_words.result) c.as_slice-in-For.ensures c.statements_words.ensures)))

pub statement_words-returns-in-If : goal.statement_words-returns-in-If
statement_words-returns-in-If t c =
    rw c.in-If.is
    (rw (if_nodes c.in-If.line c.in-If.cond c.in-If.body c.in-If.otherwise)
    (words_together _ _ _ _ _ _ c.plus-in-If.ensures
    (subst (λ body. AreWords c.args.sets.now (condition_nodes c.in-If.cond ++ joined (map dense_nodes body)) c.under_condition-held.result) c.as_slice-in-If.ensures c.under_condition-held.ensures)
    (subst (λ body. AreWords c.args.sets.now (joined (map dense_nodes body)) c.statements_words-in-If.result) c.as_slice-in-If-2.ensures c.statements_words-in-If.ensures)))

pub statements_words-loop-statement-init : goal.statements_words-loop-statement-init
statements_words-loop-statement-init t c =
    nothing_counted (λ statement. sum_by (spec.node_words c.args.sets.now) (spec.dense_nodes statement)) c.args.statements.now

pub statements_words-loop-statement-preserved : goal.statements_words-loop-statement-preserved
statements_words-loop-statement-preserved t c =
    item_more (λ statement. sum_by (spec.node_words c.args.sets.now) (spec.dense_nodes statement)) c.args.statements.now c.loop-statement.statement-index c.statement-item.result
    c.loop-statement.total c.plus-total.result c.statement_words-part.result
    c.loop-statement-test.true c.statement-item.is c.plus-total.ensures c.statement_words-part.ensures.is c.loop-statement.invariant

pub statements_words-returns : goal.statements_words-returns
statements_words-returns t c =
    all_joined c.args.sets.now spec.dense_nodes c.args.statements.now c.loop-statement.statement-index c.loop-statement.total (omega arith) c.loop-statement.invariant
