-- How the statements of the main procedure are read off the front of the words.
use Rattle.std.specs.Prelude.{ℕ, zero, suc, List, [], ◌∷◌, Err}
use Rattle.sim_lexer.specs.declared.token.TokenKind.{TokenKind}
use Rattle.sim_lexer.specs.declared.token.TokenKind.TheVariants.{Name, Keyword}
use Rattle.sim_lexer.specs.declared.token.keyword.TheConstants as keyword
use Rattle.sim_lexer.specs.declared.token.symbol.TheConstants as symbol
use Rattle.sim_syntax.specs.declared.expression.Expr.{Expr}
use Rattle.sim_syntax.specs.declared.statement.Stmt.{Stmt}
use Rattle.sim_syntax.specs.declared.statement.Target.{Target}
use Rattle.sim_syntax.specs.declared.statement.Right.{Right}
use Rattle.sim_grammar.specs.Rule.{sym, key}
use Rattle.sim_grammar.specs.Trees.{Text, target_of, map_of, value_of, var_of, assign_of, while_of, for_of}
use Rattle.sim_grammar.specs.Read.{Reader, spelt, ◌⊛◌, ◌▹◌, ◌◃◌, each, choose, made, node, separated}
use Rattle.sim_grammar.specs.ReadExpressions.{expression, maybe_arguments}
use Rattle.sim_grammar.specs.ReadConditions.{condition, if_stmt, assert_stmt}
use Rattle.sim_grammar.specs.ReadIndices.{ix, maybe_field}

-- what a statement of the main procedure begins with
abbrev pub main_starts : List TokenKind
main_starts = Keyword keyword.VAR ∷ Keyword keyword.WHILE ∷ Keyword keyword.FOR ∷ Keyword keyword.IF ∷ Keyword keyword.ASSERT ∷ Name ∷ []

abbrev name : Reader Text
name = spelt Name

-- ---- statements of the main procedure
unfoldable pub target : Reader Target
target = node target_of (name ⊛ maybe_field)

module _ (value : Reader Expr) where
  unfoldable pub map_right : Reader Right
  map_right = node map_of (key keyword.MAP ▹ name ⊛ maybe_arguments value ⊛ key keyword.TO ▹ name ◃ (Keyword keyword.REDUCE ∷ sym symbol.PLUS))

  unfoldable pub value_right : Reader Right
  value_right = made value_of value

  unfoldable pub right : Reader Right
  right = choose (key keyword.MAP) map_right (choose (key keyword.IX) ix value_right)

  -- the right side, or further names or targets after commas and a map
  unfoldable pub sides : {A : Type 0} → Reader A → Reader (List A × Right)
  sides part = choose (sym symbol.ASSIGN) (made (λ side. ([], side)) (sym symbol.ASSIGN ▹ right))
      (sym symbol.COMMA ▹ separated (sym symbol.COMMA) part ⊛ sym symbol.ASSIGN ▹ map_right)

  unfoldable pub var : Reader Stmt
  var = node var_of (key keyword.VAR ▹ name ⊛ sides name ◃ sym symbol.SEMICOLON)

  unfoldable pub assign : Reader Stmt
  assign = node assign_of (target ⊛ sides target ◃ sym symbol.SEMICOLON)

module _ (value : Reader Expr) (body : Reader (List Stmt)) where
  unfoldable pub while_stmt : Reader Stmt
  while_stmt = node while_of (key keyword.WHILE ▹ condition value ⊛ body ◃ key keyword.END)

  unfoldable pub for_stmt : Reader Stmt
  for_stmt = node for_of (key keyword.FOR ▹ name ⊛ key keyword.IN ▹ value ⊛ sym symbol.COLON ▹ value ⊛ body ◃ key keyword.END)

  unfoldable pub main_stmt : Reader Stmt
  main_stmt = choose (key keyword.VAR) (var value) (choose (key keyword.WHILE) while_stmt (choose (key keyword.FOR) for_stmt (choose (key keyword.IF) (if_stmt value body)
      (choose (key keyword.ASSERT) (assert_stmt value) (assign value)))))

unfoldable pub main_statement : ℕ → Reader Stmt
main_statement zero = λ ws. Err ws
main_statement (suc depth) = main_stmt (expression depth) (each main_starts (main_statement depth))

unfoldable pub main_body : ℕ → Reader (List Stmt)
main_body depth = each main_starts (main_statement depth)
