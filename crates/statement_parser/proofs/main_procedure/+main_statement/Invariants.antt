use Rattle.statement_parser.proofs.main_procedure.+main_statement.Given as goal

-- each level of nesting takes one of the depth
abbrev pub decreases-main_statement : goal.decreases-main_statement
decreases-main_statement l = l.depth
