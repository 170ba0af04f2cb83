use Rattle.std.proofs.Common.{rules}
use Rattle.typed_tree.specs.Functions.{loop}
use Rattle.typed_tree.specs.Walking.{counted}
use Rattle.function_types.proofs.statements.+statement.Goals as goal

pub counted_loop-returns-in_err-body : goal.counted_loop-returns-in_err-body
unfolding loop
counted_loop-returns-in_err-body t c = search rules

pub counted_loop-returns-in_err-end_statement-in-Ok : goal.counted_loop-returns-in_err-end_statement-in-Ok
unfolding loop
counted_loop-returns-in_err-end_statement-in-Ok t c = search rules

pub counted_loop-returns-in_ok-end_statement-in-Ok : goal.counted_loop-returns-in_ok-end_statement-in-Ok
unfolding loop
counted_loop-returns-in_ok-end_statement-in-Ok t c = search rules

pub counted_loop-returns-in-Err : goal.counted_loop-returns-in-Err
unfolding loop counted
counted_loop-returns-in-Err t c = search rules
