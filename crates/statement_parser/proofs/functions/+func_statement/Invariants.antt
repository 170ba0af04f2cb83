use Rattle.statement_parser.proofs.functions.+func_statement.Given as goal

-- each level of nesting takes one of the depth
abbrev pub decreases-func_statement : goal.decreases-func_statement
decreases-func_statement l = l.depth
