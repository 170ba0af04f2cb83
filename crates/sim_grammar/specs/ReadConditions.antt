-- How conditions and the statements that functions and the main procedure share are read off the front of the words.
use Rattle.std.specs.Prelude.{List}
use Rattle.sim_lexer.specs.declared.token.keyword.TheConstants as keyword
use Rattle.sim_lexer.specs.declared.token.symbol.TheConstants as symbol
use Rattle.sim_syntax.specs.declared.expression.Expr.{Expr}
use Rattle.sim_syntax.specs.declared.condition.Cond.{Cond}
use Rattle.sim_syntax.specs.declared.condition.Conjunction.{Conjunction}
use Rattle.sim_syntax.specs.declared.condition.Cmp.{Cmp}
use Rattle.sim_syntax.specs.declared.condition.CmpOp.{CmpOp}
use Rattle.sim_syntax.specs.declared.condition.CmpOp.TheVariants as op
use Rattle.sim_syntax.specs.declared.statement.Stmt.{Stmt}
use Rattle.sim_grammar.specs.Rule.{sym, key}
use Rattle.sim_grammar.specs.Trees.{cmp_of, conjunction_of, cond_of, if_of, assert_of}
use Rattle.sim_grammar.specs.Read.{Reader, ◌⊛◌, ◌▹◌, ◌◃◌, choose, fixed, node, separated, maybe_some, whether}

unfoldable pub comparison : Reader CmpOp
comparison = choose (sym symbol.EQUAL) (fixed (sym symbol.EQUAL) op.Equal) (choose (sym symbol.DIFFERS) (fixed (sym symbol.DIFFERS) op.Differs) (choose (sym symbol.LESS) (fixed (sym symbol.LESS) op.Less)
    (choose (sym symbol.AT_MOST) (fixed (sym symbol.AT_MOST) op.AtMost) (choose (sym symbol.GREATER) (fixed (sym symbol.GREATER) op.Greater) (fixed (sym symbol.AT_LEAST) op.AtLeast)))))

-- ---- conditions
module _ (value : Reader Expr) where
  unfoldable pub cmp : Reader Cmp
  cmp = node cmp_of (whether (key keyword.NOT) ⊛ value ⊛ comparison ⊛ value)

  unfoldable pub cmps : Reader (List Cmp)
  cmps = separated (key keyword.AND) cmp

  unfoldable pub conjunction : Reader Conjunction
  conjunction = node conjunction_of cmps

  unfoldable pub conjunctions : Reader (List Conjunction)
  conjunctions = separated (key keyword.OR) conjunction

  unfoldable pub condition : Reader Cond
  condition = node cond_of conjunctions

-- ---- statements of both kinds, whose insides are read so
unfoldable pub otherwise : Reader (List Stmt) → Reader (List Stmt)
otherwise body = maybe_some (key keyword.ELSE) (key keyword.ELSE ▹ body)

unfoldable pub if_stmt : Reader Expr → Reader (List Stmt) → Reader Stmt
if_stmt value body = node if_of (key keyword.IF ▹ condition value ⊛ body ⊛ otherwise body ◃ key keyword.END)

unfoldable pub assert_stmt : Reader Expr → Reader Stmt
assert_stmt value = node assert_of (key keyword.ASSERT ▹ condition value ◃ sym symbol.SEMICOLON)
