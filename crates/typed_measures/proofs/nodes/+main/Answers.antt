use Rattle.std.proofs.Common.{map, refl, arith}
use Rattle.typed_tree.specs.Nodes as spec
use Rattle.typed_measures.proofs.Growing.{part_more, part_none}
use Rattle.typed_measures.proofs.nodes.+main.Goals as goal

pub main_statements-loop-statement-preserved : goal.main_statements-loop-statement-preserved
main_statements-loop-statement-preserved t c =
    part_more (λ xs. spec.joined (map spec.main_nodes xs)) (λ xs. spec.joined (map spec.main_nodes xs)) c.args.statements.now c.loop-statement.statement-index c.statement-item.result (spec.main_nodes c.statement-item.result) c.args.nodes.now c.loop-statement.nodes c.main_statement.new.nodes _
    (λ rest. refl) c.loop-statement-test.true c.statement-item.is c.in_ok-main_statement.ensures c.loop-statement.invariant

pub main_statements-returns : goal.main_statements-returns
main_statements-returns t c =
    part_none (λ xs. spec.joined (map spec.main_nodes xs)) c.args.statements.now c.loop-statement.statement-index c.args.nodes.now c.loop-statement.nodes _ refl (omega arith) c.loop-statement.invariant
