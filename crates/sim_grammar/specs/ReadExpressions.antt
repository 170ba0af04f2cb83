-- How expressions are read off the front of the words.
use Rattle.std.specs.Prelude.{ℕ, zero, suc, Bool, true, false, List, [], ◌∷◌, Option, None, Err}
use Rattle.sim_lexer.specs.declared.token.TokenKind.TheVariants.{Name, Number, Keyword, Symbol}
use Rattle.sim_lexer.specs.declared.token.keyword.TheConstants as keyword
use Rattle.sim_lexer.specs.declared.token.symbol.TheConstants as symbol
use Rattle.sim_syntax.specs.declared.expression.Expr.{Expr}
use Rattle.sim_syntax.specs.declared.expression.Row.{Row}
use Rattle.sim_syntax.specs.declared.expression.SumTerm.{SumTerm}
use Rattle.sim_syntax.specs.declared.expression.ProductFactor.{ProductFactor}
use Rattle.sim_grammar.specs.Rule.{sym, key}
use Rattle.sim_grammar.specs.Trees.{Text, number_of, ref_of, field_of_ref, row_of, block_of, rescale_of, quot_of, isqrt_of, dot_of, post_of, factor_of, product_of, term_of, sum_of}
use Rattle.sim_grammar.specs.Read.{Reader, spelt, ◌⊛◌, ◌▹◌, ◌◃◌, each, choose, fixed, made, node, separated, maybe_some, whether}

unfoldable pub sign : Reader Bool
sign = choose (sym symbol.PLUS) (fixed (sym symbol.PLUS) false) (fixed (sym symbol.MINUS) true)

unfoldable pub operator : Reader Bool
operator = choose (sym symbol.STAR) (fixed (sym symbol.STAR) false) (fixed (sym symbol.ENTRYWISE) true)

abbrev pub name : Reader Text
name = spelt Name

abbrev pub digits : Reader Text
digits = spelt Number

unfoldable pub all_names : Reader (List Text)
all_names = separated (sym symbol.COMMA) name

unfoldable pub number : Reader Expr
number = node number_of digits

-- ---- expressions; those inside are read by a reader
module _ (inner : Reader Expr) where
  unfoldable pub expressions : Reader (List Expr)
  expressions = separated (sym symbol.COMMA) inner

  unfoldable pub arguments : Reader (List Expr)
  arguments = sym symbol.OPEN_PAREN ▹ expressions ◃ sym symbol.CLOSE_PAREN

  unfoldable pub maybe_arguments : Reader (List Expr)
  maybe_arguments = maybe_some (sym symbol.OPEN_PAREN) arguments

  unfoldable pub field_ref : Reader (Option Text × List Expr)
  field_ref = made field_of_ref (sym symbol.POINT ▹ name ⊛ maybe_arguments)

  unfoldable pub maybe_field_ref : Reader (Option Text × List Expr)
  maybe_field_ref = choose (sym symbol.POINT) field_ref (fixed [] (None, []))

  unfoldable pub reference : Reader Expr
  reference = node ref_of (name ⊛ maybe_arguments ⊛ maybe_field_ref)

  unfoldable pub parenthesised : Reader Expr
  parenthesised = sym symbol.OPEN_PAREN ▹ inner ◃ sym symbol.CLOSE_PAREN

  unfoldable pub row : Reader Row
  row = node row_of expressions

  unfoldable pub rows : Reader (List Row)
  rows = separated (sym symbol.SEMICOLON) row

  unfoldable pub block : Reader Expr
  block = node block_of (sym symbol.OPEN_BRACKET ▹ rows ◃ sym symbol.CLOSE_BRACKET)

  unfoldable pub rescale : Reader Expr
  rescale = node rescale_of ((Keyword keyword.RESCALE ∷ sym symbol.OPEN_PAREN) ▹ inner ⊛ sym symbol.COMMA ▹ digits ◃ sym symbol.CLOSE_PAREN)

  unfoldable pub quot : Reader Expr
  quot = node quot_of ((Keyword keyword.QUOT ∷ sym symbol.OPEN_PAREN) ▹ inner ⊛ sym symbol.COMMA ▹ inner ⊛ sym symbol.COMMA ▹ digits ◃ sym symbol.CLOSE_PAREN)

  unfoldable pub isqrt : Reader Expr
  isqrt = node isqrt_of ((Keyword keyword.ISQRT ∷ sym symbol.OPEN_PAREN) ▹ inner ⊛ sym symbol.COMMA ▹ digits ◃ sym symbol.CLOSE_PAREN)

  unfoldable pub dot : Reader Expr
  dot = node dot_of ((Keyword keyword.DOT ∷ sym symbol.OPEN_PAREN) ▹ inner ⊛ sym symbol.COMMA ▹ inner ◃ sym symbol.CLOSE_PAREN)

  -- an atom that begins with a keyword
  unfoldable pub called : Reader Expr
  called = choose (key keyword.RESCALE) rescale (choose (key keyword.QUOT) quot (choose (key keyword.ISQRT) isqrt dot))

  unfoldable pub atom : Reader Expr
  atom = choose (Number ∷ []) number (choose (Name ∷ []) reference (choose (sym symbol.OPEN_PAREN) parenthesised (choose (sym symbol.OPEN_BRACKET) block called)))

  unfoldable pub post : Reader Expr
  post = node post_of (atom ⊛ whether (sym symbol.TRANSPOSE))

  unfoldable pub factor : Reader ProductFactor
  factor = node factor_of (operator ⊛ post)

  unfoldable pub factors : Reader (List ProductFactor)
  factors = each (Symbol symbol.STAR ∷ sym symbol.ENTRYWISE) factor

  unfoldable pub term : Reader Expr
  term = node product_of (post ⊛ factors)

  unfoldable pub signed_term : Reader SumTerm
  signed_term = node term_of (sign ⊛ term)

  unfoldable pub signed_terms : Reader (List SumTerm)
  signed_terms = each (Symbol symbol.PLUS ∷ sym symbol.MINUS) signed_term

  unfoldable pub sum : Reader Expr
  sum = node sum_of (whether (sym symbol.MINUS) ⊛ term ⊛ signed_terms)

-- an expression in which others are nested less than so deep
unfoldable pub expression : ℕ → Reader Expr
expression zero = λ ws. Err ws
expression (suc depth) = sum (expression depth)
