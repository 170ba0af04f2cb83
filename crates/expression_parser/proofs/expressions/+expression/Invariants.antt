use Rattle.expression_parser.proofs.expressions.+expression.Given as goal

-- each level of nesting takes one of the depth
abbrev pub decreases-expression : goal.decreases-expression
decreases-expression l = l.depth
