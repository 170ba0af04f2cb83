use Rattle.std.proofs.Common.{◌≡◌, drop}
use Rattle.sim_syntax.specs.Indices.{in_statements}
use Rattle.sim_syntax.proofs.indices.+statement.Given as goal

-- what the statements before were asked changes nothing
abbrev pub invariant-in_statements-loop-statement : goal.invariant-in_statements-loop-statement
invariant-in_statements-loop-statement l = in_statements (drop l.statement-index l.statements) ≡ in_statements l.statements
