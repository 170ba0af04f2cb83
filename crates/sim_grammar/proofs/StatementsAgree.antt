-- The rules of conditions, statements and index expressions agree with their readings.
use Rattle.std.proofs.Common.{ℕ, zero, suc, true, false, List, [], ◌∷◌, refl}
use Rattle.sim_lexer.specs.declared.token.TokenKind.{TokenKind}
use Rattle.sim_lexer.specs.declared.token.TokenKind.TheVariants.{Name, Number, Keyword, Symbol}
use Rattle.sim_lexer.specs.declared.token.keyword.TheConstants as keyword
use Rattle.sim_lexer.specs.declared.token.symbol.TheConstants as symbol
use Rattle.sim_syntax.specs.declared.expression.Expr.{Expr}
use Rattle.sim_syntax.specs.declared.condition.CmpOp.TheVariants as op
use Rattle.sim_syntax.specs.declared.statement.Stmt.{Stmt}
use Rattle.sim_grammar.specs.Rule.{sym, key, Rule, OneOrTwo, Maybe}
use Rattle.sim_grammar.specs.Read.{Reader, each}
use Rattle.sim_grammar.specs.Grammar as grammar
use Rattle.sim_grammar.specs.Trees.{cmp_of, conjunction_of, cond_of, if_of, assert_of, literal_of, named_of, place_of, local_var_of, named_stmt_of, const_for_of, target_of, map_of, value_of, var_of, assign_of, while_of, for_of, ix_number_of, ix_named_of, ix_term_of, ix_of}
use Rattle.sim_grammar.specs.ReadConditions.{comparison, cmp, cmps, conjunction, conjunctions, condition, otherwise, if_stmt, assert_stmt}
use Rattle.sim_grammar.specs.ReadFunctions.{func_starts, literal_index, named_index, index, maybe_index, place, one_or_two_places, places, maybe_places, local_var, named_stmt, const_for, func_stmt, func_statement}
use Rattle.sim_grammar.specs.ReadIndices.{names, indices, maybe_indices, maybe_field, ix_named, ix_number, ix_atom, ix_product, ix_term, ix_terms, first_ix_term, ix_sum, free_names, ix}
use Rattle.sim_grammar.specs.ReadMain.{main_starts, target, map_right, value_right, right, sides, var, assign, while_stmt, for_stmt, main_stmt, main_statement}
use Rattle.sim_grammar.proofs.Agree.{Agrees, fixed-agrees}
use Rattle.sim_grammar.proofs.AgreeParts.{after-agrees, before-agrees, either-agrees, fewer, inside-agrees, made-agrees, never-shape, node-agrees, none-asked, none-read, seq-agrees, widen}
use Rattle.sim_grammar.proofs.AgreeLists.{each-agrees, maybe-agrees, maybe_some-agrees, one_or_two-agrees, separated-agrees, whether-agrees}
use Rattle.sim_grammar.proofs.ExpressionsAgree.{expr_firsts, expr_stops, name-agrees, digits-agrees, sign-agrees, maybe_arguments-agrees, expression-agrees}

-- what a condition begins with, and what goes on with it
abbrev pub cond_firsts : List TokenKind
cond_firsts = Keyword keyword.NOT ∷ expr_firsts

abbrev pub cond_stops : List TokenKind
cond_stops = Keyword keyword.OR ∷ Keyword keyword.AND ∷ expr_stops

abbrev comparisons : List TokenKind
comparisons = Symbol symbol.EQUAL ∷ Symbol symbol.DIFFERS ∷ Symbol symbol.LESS ∷ Symbol symbol.AT_MOST ∷ Symbol symbol.GREATER ∷ Symbol symbol.AT_LEAST ∷ []

comparison-agrees : {room : ℕ} → Agrees grammar.Comparison grammar.Comparison room false comparisons [] comparison
unfolding comparison
comparison-agrees = either-agrees (fixed-agrees (Symbol symbol.EQUAL) [] op.Equal refl) (either-agrees (fixed-agrees (Symbol symbol.DIFFERS) [] op.Differs refl)
    (either-agrees (fixed-agrees (Symbol symbol.LESS) [] op.Less refl) (either-agrees (fixed-agrees (Symbol symbol.AT_MOST) [] op.AtMost refl)
    (either-agrees (fixed-agrees (Symbol symbol.GREATER) [] op.Greater refl) (fixed-agrees (Symbol symbol.AT_LEAST) [] op.AtLeast refl) refl) refl) refl) refl) refl

-- ---- conditions

module _ {Shown Asked : Rule Expr} {room : ℕ} {value : Reader Expr} (values : Agrees Shown Asked room false expr_firsts expr_stops value) where
  cmp-agrees : Agrees (grammar.Cmp Shown) (grammar.Cmp Asked) room false cond_firsts expr_stops (cmp value)
  unfolding cmp
  cmp-agrees = widen _ _ (node-agrees cmp_of (seq-agrees (whether-agrees (Keyword keyword.NOT) refl) (seq-agrees values (seq-agrees comparison-agrees values refl) refl) refl)) refl refl

  conjunction-agrees : Agrees (grammar.Conjunction Shown) (grammar.Conjunction Asked) room false cond_firsts (Keyword keyword.AND ∷ expr_stops) (conjunction value)
  unfolding conjunction cmps
  conjunction-agrees = widen _ _ (node-agrees conjunction_of (separated-agrees (Keyword keyword.AND) refl cmp-agrees refl)) refl refl

  condition-agrees : Agrees (grammar.Condition Shown) (grammar.Condition Asked) room false cond_firsts cond_stops (condition value)
  unfolding condition conjunctions
  condition-agrees = widen _ _ (node-agrees cond_of (separated-agrees (Keyword keyword.OR) refl conjunction-agrees refl)) refl refl

  assert-agrees : (ShownInside AskedInside : Rule Stmt) → Agrees (grammar.Assert Shown ShownInside) (grammar.Assert Asked AskedInside) (suc room) false (key keyword.ASSERT) [] (assert_stmt value)
  unfolding assert_stmt
  assert-agrees ShownInside AskedInside = node-agrees assert_of (after-agrees (Symbol symbol.SEMICOLON) [] (inside-agrees (Keyword keyword.ASSERT) [] refl condition-agrees) refl refl)

-- ---- parts of statements

-- what goes on with a term of an index expression
abbrev ix_stops : List TokenKind
ix_stops = Symbol symbol.STAR ∷ Symbol symbol.POINT ∷ sym symbol.OPEN_PAREN

module _ {room : ℕ} where
  index-agrees : Agrees grammar.Index grammar.Index room false (Number ∷ Name ∷ []) [] index
  unfolding index literal_index named_index
  index-agrees = either-agrees (node-agrees literal_of digits-agrees) (node-agrees named_of name-agrees) refl

  place-agrees : Agrees grammar.Place grammar.Place room false (Name ∷ []) (sym symbol.OPEN_PAREN) place
  unfolding place maybe_index
  place-agrees = node-agrees place_of (seq-agrees name-agrees (maybe-agrees (after-agrees (Symbol symbol.CLOSE_PAREN) [] (before-agrees (Symbol symbol.OPEN_PAREN) [] refl index-agrees) refl refl)) refl)

  field_name-agrees : Agrees (Maybe grammar.FieldName) (Maybe grammar.FieldName) room true (sym symbol.POINT) (sym symbol.POINT) maybe_field
  unfolding maybe_field
  field_name-agrees = maybe-agrees (before-agrees (Symbol symbol.POINT) [] refl name-agrees)

  target-agrees : Agrees grammar.Target grammar.Target room false (Name ∷ []) (sym symbol.POINT) target
  unfolding target
  target-agrees = node-agrees target_of (seq-agrees name-agrees field_name-agrees refl)

  names-agrees : Agrees (OneOrTwo (sym symbol.COMMA) grammar.NAME) (OneOrTwo (sym symbol.COMMA) grammar.NAME) room false (Name ∷ []) (sym symbol.COMMA) names
  unfolding names
  names-agrees = one_or_two-agrees (Symbol symbol.COMMA) refl name-agrees refl

  indices-agrees : Agrees grammar.Indices grammar.Indices room false (sym symbol.OPEN_PAREN) [] indices
  unfolding indices
  indices-agrees = after-agrees (Symbol symbol.CLOSE_PAREN) [] (before-agrees (Symbol symbol.OPEN_PAREN) [] refl names-agrees) refl refl

  -- ---- index expressions

  ix_atom-agrees : Agrees grammar.IxAtom grammar.IxAtom room false (Number ∷ Name ∷ []) (Symbol symbol.POINT ∷ sym symbol.OPEN_PAREN) ix_atom
  unfolding ix_atom ix_number ix_named maybe_indices
  ix_atom-agrees = widen _ _ (either-agrees (node-agrees ix_number_of digits-agrees)
      (node-agrees ix_named_of (seq-agrees name-agrees (seq-agrees field_name-agrees (maybe_some-agrees indices-agrees) refl) refl)) refl) refl refl

  ix_product-agrees : Agrees grammar.IxProduct grammar.IxProduct room false (Number ∷ Name ∷ []) ix_stops ix_product
  unfolding ix_product
  ix_product-agrees = widen _ _ (separated-agrees (Symbol symbol.STAR) refl ix_atom-agrees refl) refl refl

  ix_term-agrees : Agrees grammar.IxTerm grammar.IxTerm room false (Symbol symbol.PLUS ∷ sym symbol.MINUS) ix_stops ix_term
  unfolding ix_term
  ix_term-agrees = node-agrees ix_term_of (seq-agrees sign-agrees ix_product-agrees refl)

  first_ix_term-agrees : Agrees grammar.FirstIxTerm grammar.FirstIxTerm room false (Symbol symbol.MINUS ∷ Number ∷ Name ∷ []) ix_stops first_ix_term
  unfolding first_ix_term
  first_ix_term-agrees = node-agrees ix_term_of (seq-agrees (whether-agrees (Symbol symbol.MINUS) refl) ix_product-agrees refl)

  ix-agrees : Agrees grammar.Ix grammar.Ix room false (key keyword.IX) (Symbol symbol.PLUS ∷ Symbol symbol.MINUS ∷ ix_stops) ix
  unfolding ix ix_sum ix_terms free_names
  ix-agrees = widen _ _ (node-agrees ix_of (before-agrees (Keyword keyword.IX) (sym symbol.OPEN_PAREN) refl (seq-agrees (maybe_some-agrees names-agrees)
      (before-agrees (Symbol symbol.CLOSE_PAREN) [] refl (made-agrees _ (seq-agrees first_ix_term-agrees (each-agrees ix_term-agrees refl) refl))) refl))) refl refl

-- ---- statements of functions

module _ {Shown Asked : Rule Expr} {ShownInside AskedInside : Rule Stmt} {room : ℕ} {value : Reader Expr} {inside : Reader Stmt}
    (values : Agrees Shown Asked room false expr_firsts expr_stops value) (insides : Agrees ShownInside AskedInside room false func_starts [] inside) where
  local_var-agrees : Agrees (grammar.LocalVar Shown ShownInside) (grammar.LocalVar Asked AskedInside) (suc room) false (key keyword.VAR) [] (local_var value)
  unfolding local_var
  local_var-agrees = node-agrees local_var_of (after-agrees (Symbol symbol.SEMICOLON) [] (inside-agrees (Keyword keyword.VAR) [] refl
      (seq-agrees name-agrees (before-agrees (Symbol symbol.ASSIGN) [] refl values) refl)) refl refl)

  named_stmt-agrees : Agrees (grammar.NamedStmt Shown ShownInside) (grammar.NamedStmt Asked AskedInside) (suc room) false (Name ∷ []) [] (named_stmt value)
  unfolding named_stmt maybe_places places one_or_two_places
  named_stmt-agrees = node-agrees named_stmt_of (after-agrees (Symbol symbol.SEMICOLON) [] (seq-agrees name-agrees (seq-agrees
      (maybe-agrees (after-agrees (Symbol symbol.CLOSE_PAREN) [] (before-agrees (Symbol symbol.OPEN_PAREN) [] refl (one_or_two-agrees (Symbol symbol.COMMA) refl (place-agrees) refl)) refl refl))
      (inside-agrees (Symbol symbol.ASSIGN) [] refl values) refl) refl) refl refl)

  const_for-agrees : Agrees (grammar.ConstFor Shown ShownInside) (grammar.ConstFor Asked AskedInside) (suc room) false (key keyword.FOR) [] (const_for (each func_starts inside))
  unfolding const_for
  const_for-agrees = node-agrees const_for_of (after-agrees (Keyword keyword.END) [] (inside-agrees (Keyword keyword.FOR) [] refl (seq-agrees name-agrees
      (before-agrees (Keyword keyword.IN) [] refl (seq-agrees digits-agrees (before-agrees (Symbol symbol.COLON) [] refl (seq-agrees digits-agrees (each-agrees insides refl) refl)) refl)) refl)) refl refl)

  func_if-agrees : Agrees (grammar.If Shown ShownInside) (grammar.If Asked AskedInside) (suc room) false (key keyword.IF) [] (if_stmt value (each func_starts inside))
  unfolding if_stmt otherwise
  func_if-agrees = node-agrees if_of (after-agrees (Keyword keyword.END) [] (inside-agrees (Keyword keyword.IF) [] refl (seq-agrees (condition-agrees values)
      (seq-agrees (each-agrees insides refl) (maybe_some-agrees (before-agrees (Keyword keyword.ELSE) [] refl (each-agrees insides refl))) refl) refl)) refl refl)

  func_stmt-agrees : Agrees (grammar.FuncStmt Shown ShownInside) (grammar.FuncStmt Asked AskedInside) (suc room) false func_starts [] (func_stmt value (each func_starts inside))
  unfolding func_stmt
  func_stmt-agrees = widen _ _ (either-agrees local_var-agrees (either-agrees const_for-agrees (either-agrees func_if-agrees
      (either-agrees (assert-agrees values ShownInside AskedInside) named_stmt-agrees refl) refl) refl) refl) refl refl

no-func_statement : (depth : ℕ) → Agrees (grammar.FuncStatement zero) (grammar.FuncStatement depth) zero false func_starts [] (func_statement zero)
unfolding func_statement
no-func_statement zero = none-read func_starts [] (never-shape func_starts)
no-func_statement (suc depth) = none-read func_starts [] (func_stmt-agrees (expression-agrees zero depth) (no-func_statement depth)).asked

-- statements of functions, however deep they are nested, are read where there is room for their words
pub func_statement-agrees : (room depth : ℕ) → Agrees (grammar.FuncStatement room) (grammar.FuncStatement depth) room false func_starts [] (func_statement room)
unfolding func_statement
func_statement-agrees zero depth = no-func_statement depth
func_statement-agrees (suc room) zero = none-asked (func_stmt-agrees (expression-agrees room zero) (func_statement-agrees room zero))
func_statement-agrees (suc room) (suc depth) = func_stmt-agrees (expression-agrees room depth) (func_statement-agrees room depth)

-- ---- statements of the main procedure

module _ {Shown Asked : Rule Expr} (ShownInside AskedInside : Rule Stmt) {room : ℕ} {value : Reader Expr} (values : Agrees Shown Asked room false expr_firsts expr_stops value) where
  map-agrees : Agrees (grammar.Map Shown ShownInside) (grammar.Map Asked AskedInside) room false (key keyword.MAP) [] (map_right value)
  unfolding map_right
  map-agrees = node-agrees map_of (after-agrees (Keyword keyword.REDUCE) (sym symbol.PLUS) (before-agrees (Keyword keyword.MAP) [] refl (seq-agrees name-agrees
      (seq-agrees (fewer (maybe_arguments-agrees Shown Asked room value values)) (before-agrees (Keyword keyword.TO) [] refl name-agrees) refl) refl)) refl refl)

  right-agrees : Agrees (grammar.Right Shown ShownInside) (grammar.Right Asked AskedInside) room false (Keyword keyword.MAP ∷ Keyword keyword.IX ∷ expr_firsts) expr_stops (right value)
  unfolding right value_right
  right-agrees = widen _ _ (either-agrees map-agrees (either-agrees (ix-agrees) (made-agrees value_of values) refl) refl) refl refl

  var-agrees : Agrees (grammar.Var Shown ShownInside) (grammar.Var Asked AskedInside) (suc room) false (key keyword.VAR) [] (var value)
  unfolding var sides
  var-agrees = node-agrees var_of (after-agrees (Symbol symbol.SEMICOLON) [] (inside-agrees (Keyword keyword.VAR) [] refl (seq-agrees name-agrees
      (either-agrees (made-agrees _ (before-agrees (Symbol symbol.ASSIGN) [] refl right-agrees))
      (before-agrees (Symbol symbol.COMMA) [] refl (seq-agrees (separated-agrees (Symbol symbol.COMMA) refl name-agrees refl) (before-agrees (Symbol symbol.ASSIGN) [] refl map-agrees) refl)) refl) refl)) refl refl)

  assign-agrees : Agrees (grammar.Assign Shown ShownInside) (grammar.Assign Asked AskedInside) (suc room) false (Name ∷ []) [] (assign value)
  unfolding assign sides
  assign-agrees = node-agrees assign_of (after-agrees (Symbol symbol.SEMICOLON) [] (seq-agrees (target-agrees)
      (either-agrees (made-agrees _ (inside-agrees (Symbol symbol.ASSIGN) [] refl right-agrees))
      (inside-agrees (Symbol symbol.COMMA) [] refl (seq-agrees (separated-agrees (Symbol symbol.COMMA) refl (target-agrees) refl) (before-agrees (Symbol symbol.ASSIGN) [] refl map-agrees) refl)) refl) refl) refl refl)

module _ {Shown Asked : Rule Expr} {ShownInside AskedInside : Rule Stmt} {room : ℕ} {value : Reader Expr} {inside : Reader Stmt}
    (values : Agrees Shown Asked room false expr_firsts expr_stops value) (insides : Agrees ShownInside AskedInside room false main_starts [] inside) where
  while-agrees : Agrees (grammar.While Shown ShownInside) (grammar.While Asked AskedInside) (suc room) false (key keyword.WHILE) [] (while_stmt value (each main_starts inside))
  unfolding while_stmt
  while-agrees = node-agrees while_of (after-agrees (Keyword keyword.END) [] (inside-agrees (Keyword keyword.WHILE) [] refl (seq-agrees (condition-agrees values) (each-agrees insides refl) refl)) refl refl)

  for-agrees : Agrees (grammar.For Shown ShownInside) (grammar.For Asked AskedInside) (suc room) false (key keyword.FOR) [] (for_stmt value (each main_starts inside))
  unfolding for_stmt
  for-agrees = node-agrees for_of (after-agrees (Keyword keyword.END) [] (inside-agrees (Keyword keyword.FOR) [] refl (seq-agrees name-agrees
      (before-agrees (Keyword keyword.IN) [] refl (seq-agrees values (before-agrees (Symbol symbol.COLON) [] refl (seq-agrees values (each-agrees insides refl) refl)) refl)) refl)) refl refl)

  main_if-agrees : Agrees (grammar.If Shown ShownInside) (grammar.If Asked AskedInside) (suc room) false (key keyword.IF) [] (if_stmt value (each main_starts inside))
  unfolding if_stmt otherwise
  main_if-agrees = node-agrees if_of (after-agrees (Keyword keyword.END) [] (inside-agrees (Keyword keyword.IF) [] refl (seq-agrees (condition-agrees values)
      (seq-agrees (each-agrees insides refl) (maybe_some-agrees (before-agrees (Keyword keyword.ELSE) [] refl (each-agrees insides refl))) refl) refl)) refl refl)

  main_stmt-agrees : Agrees (grammar.MainStmt Shown ShownInside) (grammar.MainStmt Asked AskedInside) (suc room) false main_starts [] (main_stmt value (each main_starts inside))
  unfolding main_stmt
  main_stmt-agrees = widen _ _ (either-agrees (var-agrees ShownInside AskedInside values) (either-agrees while-agrees (either-agrees for-agrees (either-agrees main_if-agrees
      (either-agrees (assert-agrees values ShownInside AskedInside) (assign-agrees ShownInside AskedInside values) refl) refl) refl) refl) refl) refl refl

no-main_statement : (depth : ℕ) → Agrees (grammar.MainStatement zero) (grammar.MainStatement depth) zero false main_starts [] (main_statement zero)
unfolding main_statement
no-main_statement zero = none-read main_starts [] (never-shape main_starts)
no-main_statement (suc depth) = none-read main_starts [] (main_stmt-agrees (expression-agrees zero depth) (no-main_statement depth)).asked

-- statements of the main procedure, however deep they are nested, are read where there is room for their words
pub main_statement-agrees : (room depth : ℕ) → Agrees (grammar.MainStatement room) (grammar.MainStatement depth) room false main_starts [] (main_statement room)
unfolding main_statement
main_statement-agrees zero depth = no-main_statement depth
main_statement-agrees (suc room) zero = none-asked (main_stmt-agrees (expression-agrees room zero) (main_statement-agrees room zero))
main_statement-agrees (suc room) (suc depth) = main_stmt-agrees (expression-agrees room depth) (main_statement-agrees room depth)
