-- The rules of expressions agree with their readings.
use Rattle.std.proofs.Common.{ℕ, zero, suc, Bool, true, false, List, [], ◌∷◌, None, refl}
use Rattle.sim_lexer.specs.declared.token.TokenKind.{TokenKind}
use Rattle.sim_lexer.specs.declared.token.TokenKind.TheVariants.{Name, Number, Keyword, Symbol}
use Rattle.sim_lexer.specs.declared.token.keyword.TheConstants as keyword
use Rattle.sim_lexer.specs.declared.token.symbol.TheConstants as symbol
use Rattle.sim_syntax.specs.declared.expression.Expr.{Expr}
use Rattle.sim_grammar.specs.Rule.{sym, key, Rule, Separated, MaybeSome, ◌▸◌}
use Rattle.sim_grammar.specs.Read.{Reader, ◌▹◌}
use Rattle.sim_grammar.specs.Grammar as grammar
use Rattle.sim_grammar.specs.Trees.{number_of, ref_of, field_of_ref, row_of, block_of, rescale_of, quot_of, isqrt_of, dot_of, post_of, factor_of, product_of, term_of, sum_of}
use Rattle.sim_grammar.specs.ReadExpressions.{sign, operator, name, digits, expressions, arguments, maybe_arguments, field_ref, maybe_field_ref, reference, parenthesised, row, rows, block, rescale, quot, isqrt, dot, number, called, atom, post, factor, factors, term, signed_term, signed_terms, sum, expression}
use Rattle.sim_grammar.proofs.Agree.{Agrees, fixed-agrees, none-agrees, spelt-agrees}
use Rattle.sim_grammar.proofs.AgreeParts.{after-agrees, before-agrees, either-agrees, inside-agrees, made-agrees, never-shape, node-agrees, none-asked, none-read, seq-agrees, widen}
use Rattle.sim_grammar.proofs.AgreeLists.{each-agrees, maybe_some-agrees, separated-agrees, whether-agrees}

-- what an atom begins with
abbrev pub atom_firsts : List TokenKind
atom_firsts = Number ∷ Name ∷ Symbol symbol.OPEN_PAREN ∷ Symbol symbol.OPEN_BRACKET ∷ Keyword keyword.RESCALE ∷ Keyword keyword.QUOT ∷ Keyword keyword.ISQRT ∷ Keyword keyword.DOT ∷ []

-- what goes on with an atom, a post, a term and an expression
abbrev pub atom_stops : List TokenKind
atom_stops = Symbol symbol.OPEN_PAREN ∷ Symbol symbol.POINT ∷ []

abbrev pub post_stops : List TokenKind
post_stops = Symbol symbol.TRANSPOSE ∷ atom_stops

abbrev pub term_stops : List TokenKind
term_stops = Symbol symbol.STAR ∷ Symbol symbol.ENTRYWISE ∷ post_stops

abbrev pub expr_firsts : List TokenKind
expr_firsts = Symbol symbol.MINUS ∷ atom_firsts

abbrev pub expr_stops : List TokenKind
expr_stops = Symbol symbol.PLUS ∷ Symbol symbol.MINUS ∷ term_stops

pub name-agrees : {room : ℕ} → Agrees grammar.NAME grammar.NAME room false (Name ∷ []) [] name
name-agrees = spelt-agrees Name refl

pub digits-agrees : {room : ℕ} → Agrees grammar.NUM grammar.NUM room false (Number ∷ []) [] digits
digits-agrees = spelt-agrees Number refl

pub sign-agrees : {room : ℕ} → Agrees grammar.Sign grammar.Sign room false (Symbol symbol.PLUS ∷ sym symbol.MINUS) [] sign
unfolding sign
sign-agrees = either-agrees (fixed-agrees (Symbol symbol.PLUS) [] false refl) (fixed-agrees (Symbol symbol.MINUS) [] true refl) refl

operator-agrees : {room : ℕ} → Agrees grammar.Operator grammar.Operator room false (Symbol symbol.STAR ∷ sym symbol.ENTRYWISE) [] operator
unfolding operator
operator-agrees = either-agrees (fixed-agrees (Symbol symbol.STAR) [] false refl) (fixed-agrees (Symbol symbol.ENTRYWISE) [] true refl) refl

module _ (Shown Asked : Rule Expr) (room : ℕ) (inner : Reader Expr) (inside : Agrees Shown Asked room false expr_firsts expr_stops inner) where
  -- a rule over the expressions inside agrees with its reading, up to one token more than they have room for
  abbrev Of : {A : Type 0} → (Rule Expr → Rule A) → Bool → List TokenKind → List TokenKind → Reader A → Type 0
  Of rule empty firsts stops read = Agrees (rule Shown) (rule Asked) (suc room) empty firsts stops read

  expressions-agrees : Agrees (Separated (sym symbol.COMMA) Shown) (Separated (sym symbol.COMMA) Asked) room false expr_firsts (Symbol symbol.COMMA ∷ expr_stops) (expressions inner)
  unfolding expressions
  expressions-agrees = widen _ _ (separated-agrees (Symbol symbol.COMMA) refl inside refl) refl refl

  arguments-agrees : Of grammar.Arguments false (sym symbol.OPEN_PAREN) [] (arguments inner)
  unfolding arguments
  arguments-agrees = after-agrees (Symbol symbol.CLOSE_PAREN) [] (inside-agrees (Symbol symbol.OPEN_PAREN) [] refl expressions-agrees) refl refl

  pub maybe_arguments-agrees : Of (λ Inner. MaybeSome (grammar.Arguments Inner)) true (sym symbol.OPEN_PAREN) (sym symbol.OPEN_PAREN) (maybe_arguments inner)
  unfolding maybe_arguments
  maybe_arguments-agrees = maybe_some-agrees arguments-agrees

  field_ref-agrees : Of grammar.FieldRef false (sym symbol.POINT) (sym symbol.OPEN_PAREN) (field_ref inner)
  unfolding field_ref
  field_ref-agrees = made-agrees field_of_ref (before-agrees (Symbol symbol.POINT) [] refl (seq-agrees name-agrees maybe_arguments-agrees refl))

  reference-agrees : Of grammar.Reference false (Name ∷ []) atom_stops (reference inner)
  unfolding reference maybe_field_ref
  reference-agrees = widen _ _ (node-agrees ref_of (seq-agrees name-agrees (seq-agrees maybe_arguments-agrees (either-agrees field_ref-agrees (none-agrees (None, [])) refl) refl) refl)) refl refl

  parenthesised-agrees : Of grammar.Parenthesised false (sym symbol.OPEN_PAREN) [] (parenthesised inner)
  unfolding parenthesised
  parenthesised-agrees = after-agrees (Symbol symbol.CLOSE_PAREN) [] (inside-agrees (Symbol symbol.OPEN_PAREN) [] refl inside) refl refl

  row-agrees : Agrees (grammar.Row Shown) (grammar.Row Asked) room false expr_firsts (Symbol symbol.COMMA ∷ expr_stops) (row inner)
  unfolding row
  row-agrees = node-agrees row_of expressions-agrees

  block-agrees : Of grammar.Block false (sym symbol.OPEN_BRACKET) [] (block inner)
  unfolding block rows
  block-agrees = node-agrees block_of (after-agrees (Symbol symbol.CLOSE_BRACKET) [] (inside-agrees (Symbol symbol.OPEN_BRACKET) [] refl (separated-agrees (Symbol symbol.SEMICOLON) refl row-agrees refl)) refl refl)

  comma_digits-agrees : {most : ℕ} → Agrees (sym symbol.COMMA ▸ grammar.NUM) (sym symbol.COMMA ▸ grammar.NUM) most false (sym symbol.COMMA) [] (sym symbol.COMMA ▹ digits)
  comma_digits-agrees = before-agrees (Symbol symbol.COMMA) [] refl digits-agrees

  rescale-agrees : Of grammar.Rescale false (key keyword.RESCALE) [] (rescale inner)
  unfolding rescale
  rescale-agrees = node-agrees rescale_of (after-agrees (Symbol symbol.CLOSE_PAREN) [] (inside-agrees (Keyword keyword.RESCALE) (sym symbol.OPEN_PAREN) refl (seq-agrees inside comma_digits-agrees refl)) refl refl)

  quot-agrees : Of grammar.Quot false (key keyword.QUOT) [] (quot inner)
  unfolding quot
  quot-agrees = node-agrees quot_of (after-agrees (Symbol symbol.CLOSE_PAREN) [] (inside-agrees (Keyword keyword.QUOT) (sym symbol.OPEN_PAREN) refl
      (seq-agrees inside (before-agrees (Symbol symbol.COMMA) [] refl (seq-agrees inside comma_digits-agrees refl)) refl)) refl refl)

  isqrt-agrees : Of grammar.Isqrt false (key keyword.ISQRT) [] (isqrt inner)
  unfolding isqrt
  isqrt-agrees = node-agrees isqrt_of (after-agrees (Symbol symbol.CLOSE_PAREN) [] (inside-agrees (Keyword keyword.ISQRT) (sym symbol.OPEN_PAREN) refl (seq-agrees inside comma_digits-agrees refl)) refl refl)

  dot-agrees : Of grammar.Dot false (key keyword.DOT) [] (dot inner)
  unfolding dot
  dot-agrees = node-agrees dot_of (after-agrees (Symbol symbol.CLOSE_PAREN) [] (inside-agrees (Keyword keyword.DOT) (sym symbol.OPEN_PAREN) refl (seq-agrees inside (before-agrees (Symbol symbol.COMMA) [] refl inside) refl)) refl refl)

  atom-agrees : Of grammar.Atom false atom_firsts atom_stops (atom inner)
  unfolding atom called number
  atom-agrees = widen _ _ (either-agrees (node-agrees number_of digits-agrees) (either-agrees reference-agrees (either-agrees parenthesised-agrees (either-agrees block-agrees
      (either-agrees rescale-agrees (either-agrees quot-agrees (either-agrees isqrt-agrees dot-agrees refl) refl) refl) refl) refl) refl) refl) refl refl

  post-agrees : Of grammar.Post false atom_firsts post_stops (post inner)
  unfolding post
  post-agrees = widen _ _ (node-agrees post_of (seq-agrees atom-agrees (whether-agrees (Symbol symbol.TRANSPOSE) refl) refl)) refl refl

  factor-agrees : Of grammar.Factor false (Symbol symbol.STAR ∷ sym symbol.ENTRYWISE) post_stops (factor inner)
  unfolding factor
  factor-agrees = node-agrees factor_of (seq-agrees operator-agrees post-agrees refl)

  term-agrees : Of grammar.Term false atom_firsts term_stops (term inner)
  unfolding term factors
  term-agrees = widen _ _ (node-agrees product_of (seq-agrees post-agrees (each-agrees factor-agrees refl) refl)) refl refl

  signed_term-agrees : Of grammar.SignedTerm false (Symbol symbol.PLUS ∷ sym symbol.MINUS) term_stops (signed_term inner)
  unfolding signed_term
  signed_term-agrees = node-agrees term_of (seq-agrees sign-agrees term-agrees refl)

  sum-agrees : Of grammar.Sum false expr_firsts expr_stops (sum inner)
  unfolding sum signed_terms
  sum-agrees = widen _ _ (node-agrees sum_of (seq-agrees (whether-agrees (Symbol symbol.MINUS) refl) (seq-agrees term-agrees (each-agrees signed_term-agrees refl) refl) refl)) refl refl

-- without room no expression is read
no-expression : (depth : ℕ) → Agrees (grammar.Expression zero) (grammar.Expression depth) zero false expr_firsts expr_stops (expression zero)
unfolding expression
no-expression zero = none-read expr_firsts expr_stops (never-shape expr_firsts)
no-expression (suc depth) = none-read expr_firsts expr_stops
    (sum-agrees (grammar.Expression zero) (grammar.Expression depth) zero (expression zero) (no-expression depth)).asked

-- expressions, however deep they are nested, are read where there is room for their words
pub expression-agrees : (room depth : ℕ) → Agrees (grammar.Expression room) (grammar.Expression depth) room false expr_firsts expr_stops (expression room)
unfolding expression
expression-agrees zero depth = no-expression depth
expression-agrees (suc room) zero =
    none-asked (sum-agrees (grammar.Expression room) (grammar.Expression zero) room (expression room) (expression-agrees room zero))
expression-agrees (suc room) (suc depth) =
    sum-agrees (grammar.Expression room) (grammar.Expression depth) room (expression room) (expression-agrees room depth)
