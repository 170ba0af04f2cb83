use Rattle.std.proofs.Common.{◌<◌, map, reverse, sym, length, ap, ◌∙◌, arith}
use Rattle.std.proofs.lemmas.List.{length_push}
use Rattle.vocabulary.specs.Answers.{all_ok}
use Rattle.chain_forms.specs.Lowered.{lowered_statement}
use Rattle.index_notation.proofs.Taking.{after, taken}
use Rattle.index_notation.proofs.Weights.{weight, weights, taken_weight, left_weight}
use Rattle.index_notation.proofs.statements.+statement.Goals as goal

-- a statement that is taken has less weight than all
pub lowered_statements-lowered_statement-requires :
    goal.lowered_statements-lowered_statement-requires
lowered_statements-lowered_statement-requires t c =
    let less : weight c.in-Some.statement < weights c.args.statements =
    taken_weight c.loop.left c.pop.new.self c.in-Some.statement (weights c.args.statements) c.in-Some.ensures c.loop.invariant.weight
    in (omega arith, tt)

pub lowered_statements-loop-preserved : goal.lowered_statements-loop-preserved
lowered_statements-loop-preserved t c = record {
  value =
      taken lowered_statement (all_ok (map lowered_statement c.args.statements)) c.loop.lowered c.loop.left c.pop.new.self c.in-Some.statement
      c.in_ok-statement.statement c.in-Some.ensures c.in_ok-statement.ensures c.loop.invariant.value
      ∙ ap (λ done. after done (all_ok (map lowered_statement (reverse c.pop.new.self)))) (sym c.in_ok-push.ensures.ok);
  count = omega (arith, ap length c.in-Some.ensures ∙ length_push c.pop.new.self c.in-Some.statement, c.loop.invariant.count);
  weight = left_weight c.loop.left c.pop.new.self c.in-Some.statement (weights c.args.statements) c.in-Some.ensures c.loop.invariant.weight;
}
