use Rattle.std.proofs.Common.{◌≡◌, ◌+◌, ◌≤◌, length, map, reverse}
use Rattle.vocabulary.specs.Answers.{all_ok}
use Rattle.chain_forms.specs.Lowered.{lowered_statement}
use Rattle.index_notation.proofs.Taking.{after}
use Rattle.index_notation.proofs.Weights.{weight, weights}
use Rattle.index_notation.proofs.statements.+statement.Given as goal

abbrev pub decreases-lowered_statement : goal.decreases-lowered_statement
decreases-lowered_statement l = weight l.statement

abbrev pub decreases-lowered_statements : goal.decreases-lowered_statements
decreases-lowered_statements l = weights l.statements

abbrev pub invariant-lowered_statements-loop : goal.invariant-lowered_statements-loop
invariant-lowered_statements-loop l = record {
  value : all_ok (map lowered_statement l.fn.statements) ≡ after l.lowered (all_ok (map lowered_statement (reverse l.left)));
  count : length l.left + l.counter ≡ length l.initial.left;
  weight : weights l.left ≤ weights l.fn.statements;
}
