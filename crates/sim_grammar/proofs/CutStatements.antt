-- The cuts of the rules of statements and index expressions.
use Rattle.std.proofs.Common.{ℕ, zero, suc, [], ◌∷◌, refl}
use Rattle.sim_lexer.specs.declared.token.TokenKind.TheVariants.{Keyword}
use Rattle.sim_lexer.specs.declared.token.keyword.TheConstants as keyword
use Rattle.sim_lexer.specs.declared.token.symbol.TheConstants as symbol
use Rattle.sim_syntax.specs.declared.expression.Expr.{Expr}
use Rattle.sim_syntax.specs.declared.statement.Stmt.{Stmt}
use Rattle.sim_grammar.specs.Rule.{sym, key, Rule}
use Rattle.sim_grammar.specs.Grammar as grammar
use Rattle.sim_grammar.specs.Trees.{if_of, assert_of, literal_of, named_of, place_of, local_var_of, named_stmt_of, const_for_of, target_of, map_of, value_of, var_of, assign_of, while_of, for_of, ix_number_of, ix_named_of, ix_term_of, ix_of}
use Rattle.sim_grammar.proofs.Agree.{begin_none}
use Rattle.sim_grammar.proofs.Cuts.{Completed, Cuts, some, seq-completed, before-completed, after-completed, none-completed, left-completed, right-completed, fixed-completed, made-completed, node-completed, seq-cuts, before-cuts, after-cuts, either-cuts, made-cuts, node-cuts, never-cuts, each-cuts, separated-cuts, one_or_two-cuts, maybe-cuts, maybe_some-cuts, whether-cuts}
use Rattle.sim_grammar.proofs.CutExpressions.{name-cuts, num-cuts, sign-cuts, arguments-cuts, expression-cuts, condition-cuts}

-- ---- statements of both kinds

module _ {Low High : Rule Expr} {LowInside HighInside : Rule Stmt} (values : Cuts Low High) (insides : Cuts LowInside HighInside) where
  if-cuts : Cuts (grammar.If Low LowInside) (grammar.If High HighInside)
  if-cuts = node-cuts if_of (after-cuts (key keyword.END) refl (before-cuts (key keyword.IF) refl (seq-cuts (condition-cuts values)
      (seq-cuts (each-cuts insides) (maybe_some-cuts (before-cuts (key keyword.ELSE) refl (each-cuts insides)))))))

  assert-cuts : Cuts (grammar.Assert Low LowInside) (grammar.Assert High HighInside)
  assert-cuts = node-cuts assert_of (after-cuts (sym symbol.SEMICOLON) refl (before-cuts (key keyword.ASSERT) refl (condition-cuts values)))

-- ---- parts of statements

index-cuts : Cuts grammar.Index grammar.Index
index-cuts = either-cuts (node-cuts literal_of num-cuts) (node-cuts named_of name-cuts)

place-cuts : Cuts grammar.Place grammar.Place
place-cuts = node-cuts place_of (seq-cuts name-cuts (maybe-cuts (after-cuts (sym symbol.CLOSE_PAREN) refl (before-cuts (sym symbol.OPEN_PAREN) refl index-cuts))))

field_name-cuts : Cuts grammar.FieldName grammar.FieldName
field_name-cuts = before-cuts (sym symbol.POINT) refl name-cuts

target-cuts : Cuts grammar.Target grammar.Target
target-cuts = node-cuts target_of (seq-cuts name-cuts (maybe-cuts field_name-cuts))

indices-cuts : Cuts grammar.Indices grammar.Indices
indices-cuts = after-cuts (sym symbol.CLOSE_PAREN) refl (before-cuts (sym symbol.OPEN_PAREN) refl (one_or_two-cuts (sym symbol.COMMA) refl name-cuts))

-- ---- index expressions

ix_atom-cuts : Cuts grammar.IxAtom grammar.IxAtom
ix_atom-cuts = either-cuts (node-cuts ix_number_of num-cuts) (node-cuts ix_named_of (seq-cuts name-cuts (seq-cuts (maybe-cuts field_name-cuts) (maybe_some-cuts indices-cuts))))

ix_product-cuts : Cuts grammar.IxProduct grammar.IxProduct
ix_product-cuts = separated-cuts (sym symbol.STAR) refl ix_atom-cuts

ix_term-cuts : Cuts grammar.IxTerm grammar.IxTerm
ix_term-cuts = node-cuts ix_term_of (seq-cuts sign-cuts ix_product-cuts)

first_ix_term-cuts : Cuts grammar.FirstIxTerm grammar.FirstIxTerm
first_ix_term-cuts = node-cuts ix_term_of (seq-cuts (whether-cuts (sym symbol.MINUS) refl) ix_product-cuts)

ix_sum-cuts : Cuts grammar.IxSum grammar.IxSum
ix_sum-cuts = made-cuts (λ terms. terms.0 ∷ terms.1) (seq-cuts first_ix_term-cuts (each-cuts ix_term-cuts))

ix-cuts : Cuts grammar.Ix grammar.Ix
ix-cuts = node-cuts ix_of (before-cuts (Keyword keyword.IX ∷ sym symbol.OPEN_PAREN) refl (seq-cuts (maybe_some-cuts (one_or_two-cuts (sym symbol.COMMA) refl name-cuts))
    (before-cuts (sym symbol.CLOSE_PAREN) refl ix_sum-cuts)))

-- ---- statements of functions

module _ {Low High : Rule Expr} {LowInside HighInside : Rule Stmt} (values : Cuts Low High) (insides : Cuts LowInside HighInside) where
  local_var-cuts : Cuts (grammar.LocalVar Low LowInside) (grammar.LocalVar High HighInside)
  local_var-cuts = node-cuts local_var_of (after-cuts (sym symbol.SEMICOLON) refl (before-cuts (key keyword.VAR) refl (seq-cuts name-cuts (before-cuts (sym symbol.ASSIGN) refl values))))

  places-cuts : Cuts (grammar.Places Low LowInside) (grammar.Places High HighInside)
  places-cuts = after-cuts (sym symbol.CLOSE_PAREN) refl (before-cuts (sym symbol.OPEN_PAREN) refl (one_or_two-cuts (sym symbol.COMMA) refl place-cuts))

  named_stmt-cuts : Cuts (grammar.NamedStmt Low LowInside) (grammar.NamedStmt High HighInside)
  named_stmt-cuts = node-cuts named_stmt_of (after-cuts (sym symbol.SEMICOLON) refl (seq-cuts name-cuts (seq-cuts (maybe-cuts places-cuts) (before-cuts (sym symbol.ASSIGN) refl values))))

  const_for-cuts : Cuts (grammar.ConstFor Low LowInside) (grammar.ConstFor High HighInside)
  const_for-cuts = node-cuts const_for_of (after-cuts (key keyword.END) refl (before-cuts (key keyword.FOR) refl (seq-cuts name-cuts (before-cuts (key keyword.IN) refl
      (seq-cuts num-cuts (before-cuts (sym symbol.COLON) refl (seq-cuts num-cuts (each-cuts insides))))))))

  func_stmt-cuts : Cuts (grammar.FuncStmt Low LowInside) (grammar.FuncStmt High HighInside)
  func_stmt-cuts = either-cuts local_var-cuts (either-cuts const_for-cuts (either-cuts (if-cuts values insides) (either-cuts (assert-cuts values insides) named_stmt-cuts)))

-- a loop over constants with an empty body is a statement that needs no expression and no statement inside
some_func_stmt : {Value : Rule Expr} {Inside : Rule Stmt} → Completed (grammar.FuncStmt Value Inside) []
some_func_stmt {Value} {Inside} = right-completed (left-completed some_const_for)
  where
    some_const_for : Completed (grammar.ConstFor Value Inside) []
    some_const_for = node-completed const_for_of (after-completed (key keyword.END) refl (before-completed (key keyword.FOR) refl (begin_none (key keyword.FOR))
        (seq-completed (some name-cuts) (before-completed (key keyword.IN) refl (begin_none (key keyword.IN)) (seq-completed (some num-cuts)
        (before-completed (sym symbol.COLON) refl (begin_none (sym symbol.COLON)) (seq-completed (some num-cuts) none-completed)))))))

-- statements of functions, however deep they are nested
pub func_statement-cuts : (depth : ℕ) → Cuts (grammar.FuncStatement depth) (grammar.FuncStatement (suc depth))
func_statement-cuts zero = never-cuts some_func_stmt
func_statement-cuts (suc depth) = func_stmt-cuts (expression-cuts depth) (func_statement-cuts depth)

-- ---- statements of the main procedure

module _ {Low High : Rule Expr} {LowInside HighInside : Rule Stmt} (values : Cuts Low High) (insides : Cuts LowInside HighInside) where
  map-cuts : Cuts (grammar.Map Low LowInside) (grammar.Map High HighInside)
  map-cuts = node-cuts map_of (after-cuts (Keyword keyword.REDUCE ∷ sym symbol.PLUS) refl (before-cuts (key keyword.MAP) refl (seq-cuts name-cuts
      (seq-cuts (maybe_some-cuts (arguments-cuts values)) (before-cuts (key keyword.TO) refl name-cuts)))))

  right-cuts : Cuts (grammar.Right Low LowInside) (grammar.Right High HighInside)
  right-cuts = either-cuts map-cuts (either-cuts ix-cuts (made-cuts value_of values))

  sides-cuts : {A : Type 0} {Part : Rule A} → Cuts Part Part → Cuts (grammar.Sides Low LowInside Part) (grammar.Sides High HighInside Part)
  sides-cuts part = either-cuts (made-cuts (λ side. ([], side)) (before-cuts (sym symbol.ASSIGN) refl right-cuts))
      (before-cuts (sym symbol.COMMA) refl (seq-cuts (separated-cuts (sym symbol.COMMA) refl part) (before-cuts (sym symbol.ASSIGN) refl map-cuts)))

  var-cuts : Cuts (grammar.Var Low LowInside) (grammar.Var High HighInside)
  var-cuts = node-cuts var_of (after-cuts (sym symbol.SEMICOLON) refl (before-cuts (key keyword.VAR) refl (seq-cuts name-cuts (sides-cuts name-cuts))))

  assign-cuts : Cuts (grammar.Assign Low LowInside) (grammar.Assign High HighInside)
  assign-cuts = node-cuts assign_of (after-cuts (sym symbol.SEMICOLON) refl (seq-cuts target-cuts (sides-cuts target-cuts)))

  while-cuts : Cuts (grammar.While Low LowInside) (grammar.While High HighInside)
  while-cuts = node-cuts while_of (after-cuts (key keyword.END) refl (before-cuts (key keyword.WHILE) refl (seq-cuts (condition-cuts values) (each-cuts insides))))

  for-cuts : Cuts (grammar.For Low LowInside) (grammar.For High HighInside)
  for-cuts = node-cuts for_of (after-cuts (key keyword.END) refl (before-cuts (key keyword.FOR) refl (seq-cuts name-cuts (before-cuts (key keyword.IN) refl
      (seq-cuts values (before-cuts (sym symbol.COLON) refl (seq-cuts values (each-cuts insides))))))))

  main_stmt-cuts : Cuts (grammar.MainStmt Low LowInside) (grammar.MainStmt High HighInside)
  main_stmt-cuts = either-cuts var-cuts (either-cuts while-cuts (either-cuts for-cuts (either-cuts (if-cuts values insides) (either-cuts (assert-cuts values insides) assign-cuts))))

-- the declaration of a variable by a map without arguments is a statement that needs no expression and no statement inside
some_main_stmt : {Value : Rule Expr} {Inside : Rule Stmt} → Completed (grammar.MainStmt Value Inside) []
some_main_stmt {Value} {Inside} = left-completed some_var
  where
    some_map : Completed (grammar.Map Value Inside) []
    some_map = node-completed map_of (after-completed (Keyword keyword.REDUCE ∷ sym symbol.PLUS) refl (before-completed (key keyword.MAP) refl (begin_none (key keyword.MAP))
        (seq-completed (some name-cuts) (seq-completed (right-completed (fixed-completed [] [] refl (begin_none []))) (before-completed (key keyword.TO) refl (begin_none (key keyword.TO)) (some name-cuts))))))

    some_var : Completed (grammar.Var Value Inside) []
    some_var = node-completed var_of (after-completed (sym symbol.SEMICOLON) refl (before-completed (key keyword.VAR) refl (begin_none (key keyword.VAR)) (seq-completed (some name-cuts)
        (left-completed (made-completed (λ side. ([], side)) (before-completed (sym symbol.ASSIGN) refl (begin_none (sym symbol.ASSIGN)) (left-completed some_map)))))))

-- statements of the main procedure, however deep they are nested
pub main_statement-cuts : (depth : ℕ) → Cuts (grammar.MainStatement depth) (grammar.MainStatement (suc depth))
main_statement-cuts zero = never-cuts some_main_stmt
main_statement-cuts (suc depth) = main_stmt-cuts (expression-cuts depth) (main_statement-cuts depth)
