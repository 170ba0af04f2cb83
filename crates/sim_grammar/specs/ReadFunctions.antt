-- How the statements of functions are read off the front of the words.
use Rattle.std.specs.Prelude.{ℕ, zero, suc, List, [], ◌∷◌, Option, Err}
use Rattle.sim_lexer.specs.declared.token.TokenKind.{TokenKind}
use Rattle.sim_lexer.specs.declared.token.TokenKind.TheVariants.{Name, Number, Keyword}
use Rattle.sim_lexer.specs.declared.token.keyword.TheConstants as keyword
use Rattle.sim_lexer.specs.declared.token.symbol.TheConstants as symbol
use Rattle.sim_syntax.specs.declared.expression.Expr.{Expr}
use Rattle.sim_syntax.specs.declared.statement.Stmt.{Stmt}
use Rattle.sim_syntax.specs.declared.statement.Place.{Place}
use Rattle.sim_syntax.specs.declared.statement.Index.{Index}
use Rattle.sim_grammar.specs.Rule.{sym, key}
use Rattle.sim_grammar.specs.Trees.{Text, literal_of, named_of, place_of, local_var_of, named_stmt_of, const_for_of}
use Rattle.sim_grammar.specs.Read.{Reader, spelt, ◌⊛◌, ◌▹◌, ◌◃◌, each, choose, node, one_or_two, maybe}
use Rattle.sim_grammar.specs.ReadExpressions.{expression}
use Rattle.sim_grammar.specs.ReadConditions.{if_stmt, assert_stmt}

-- what a statement of a function begins with
abbrev pub func_starts : List TokenKind
func_starts = Keyword keyword.VAR ∷ Keyword keyword.FOR ∷ Keyword keyword.IF ∷ Keyword keyword.ASSERT ∷ Name ∷ []

abbrev name : Reader Text
name = spelt Name

abbrev digits : Reader Text
digits = spelt Number

-- ---- statements of functions
unfoldable pub literal_index : Reader Index
literal_index = node literal_of digits

unfoldable pub named_index : Reader Index
named_index = node named_of name

unfoldable pub index : Reader Index
index = choose (Number ∷ []) literal_index named_index

unfoldable pub maybe_index : Reader (Option Index)
maybe_index = maybe (sym symbol.OPEN_PAREN) (sym symbol.OPEN_PAREN ▹ index ◃ sym symbol.CLOSE_PAREN)

unfoldable pub place : Reader Place
place = node place_of (name ⊛ maybe_index)

unfoldable pub one_or_two_places : Reader (List Place)
one_or_two_places = one_or_two (sym symbol.COMMA) place

unfoldable pub places : Reader (List Place)
places = sym symbol.OPEN_PAREN ▹ one_or_two_places ◃ sym symbol.CLOSE_PAREN

unfoldable pub maybe_places : Reader (Option (List Place))
maybe_places = maybe (sym symbol.OPEN_PAREN) places

unfoldable pub local_var : Reader Expr → Reader Stmt
local_var value = node local_var_of (key keyword.VAR ▹ name ⊛ sym symbol.ASSIGN ▹ value ◃ sym symbol.SEMICOLON)

unfoldable pub named_stmt : Reader Expr → Reader Stmt
named_stmt value = node named_stmt_of (name ⊛ maybe_places ⊛ sym symbol.ASSIGN ▹ value ◃ sym symbol.SEMICOLON)

unfoldable pub const_for : Reader (List Stmt) → Reader Stmt
const_for body = node const_for_of (key keyword.FOR ▹ name ⊛ key keyword.IN ▹ digits ⊛ sym symbol.COLON ▹ digits ⊛ body ◃ key keyword.END)

module _ (value : Reader Expr) (body : Reader (List Stmt)) where
  unfoldable pub func_stmt : Reader Stmt
  func_stmt = choose (key keyword.VAR) (local_var value) (choose (key keyword.FOR) (const_for body) (choose (key keyword.IF) (if_stmt value body)
      (choose (key keyword.ASSERT) (assert_stmt value) (named_stmt value))))

-- a statement in which others, and expressions, are nested less than so deep
unfoldable pub func_statement : ℕ → Reader Stmt
func_statement zero = λ ws. Err ws
func_statement (suc depth) = func_stmt (expression depth) (each func_starts (func_statement depth))

unfoldable pub func_body : ℕ → Reader (List Stmt)
func_body depth = each func_starts (func_statement depth)
