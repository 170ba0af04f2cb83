use Rattle.std.proofs.Common.{◌≡◌, replicate}
use Rattle.algebra_meaning.specs.Expression.{no_value}
use Rattle.global_algebra.proofs.statements.no_values.Given as goal

abbrev pub invariant-loop : goal.invariant-loop
invariant-loop l = l.values ≡ replicate l.counter no_value
