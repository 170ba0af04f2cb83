-- The rules of declarations and programs agree with their readings.
use Rattle.std.proofs.Common.{ℕ, false, List, [], ◌∷◌, refl}
use Rattle.sim_lexer.specs.declared.token.TokenKind.{TokenKind}
use Rattle.sim_lexer.specs.declared.token.TokenKind.TheVariants.{Name, Keyword, Symbol}
use Rattle.sim_lexer.specs.declared.token.keyword.TheConstants as keyword
use Rattle.sim_lexer.specs.declared.token.symbol.TheConstants as symbol
use Rattle.sim_grammar.specs.Rule.{sym, key, Separated}
use Rattle.sim_grammar.specs.Grammar as grammar
use Rattle.sim_grammar.specs.Trees.{int_of, vector_of, matrix_of, int_kind_of, element_kind_of, ends_kind_of, param_of, vector_result_of, matrix_result_of, result_of, field_of, element_of, set_of, host_of, func_of, program_of}
use Rattle.sim_grammar.specs.ReadExpressions.{all_names}
use Rattle.sim_grammar.specs.ReadFunctions.{func_body}
use Rattle.sim_grammar.specs.ReadMain.{main_body}
use Rattle.sim_grammar.specs.ReadProgram.{int, vector_local, matrix_local, int_local, local, ends_kind, int_kind, element_kind, param_kind, param, params, vector_shape, matrix_shape, shape, result, results, field, fields, element, ends, maybe_ends, set, ints, host, extern_decl, func, declaration, declarations, program}
use Rattle.sim_grammar.proofs.Agree.{Agrees}
use Rattle.sim_grammar.proofs.AgreeParts.{after-agrees, at-agrees, before-agrees, either-agrees, made-agrees, node-agrees, seq-agrees}
use Rattle.sim_grammar.proofs.AgreeLists.{each-agrees, maybe_some-agrees, separated-agrees}
use Rattle.sim_grammar.proofs.ExpressionsAgree.{name-agrees, digits-agrees}
use Rattle.sim_grammar.proofs.StatementsAgree.{func_statement-agrees, main_statement-agrees}

module _ {room : ℕ} where
  int-agrees : Agrees grammar.Int grammar.Int room false (key keyword.INT) [] int
  unfolding int
  int-agrees = after-agrees (Symbol symbol.CLOSE_PAREN) [] (before-agrees (Keyword keyword.INT) (sym symbol.OPEN_PAREN) refl digits-agrees) refl refl

  local-agrees : Agrees grammar.Local grammar.Local room false (Keyword keyword.INT ∷ Keyword keyword.VECTOR ∷ key keyword.MATRIX) [] local
  unfolding local int_local vector_local matrix_local
  local-agrees = either-agrees (node-agrees int_of int-agrees) (either-agrees
      (node-agrees vector_of (after-agrees (Symbol symbol.CLOSE_PAREN) [] (before-agrees (Keyword keyword.VECTOR) (sym symbol.OPEN_BRACKET) refl (seq-agrees digits-agrees
      (before-agrees (Symbol symbol.CLOSE_BRACKET) (sym symbol.OPEN_PAREN) refl int-agrees) refl)) refl refl))
      (node-agrees matrix_of (after-agrees (Symbol symbol.CLOSE_PAREN) [] (before-agrees (Keyword keyword.MATRIX) (sym symbol.OPEN_BRACKET) refl (seq-agrees digits-agrees
      (before-agrees (Symbol symbol.COMMA) [] refl (seq-agrees digits-agrees (before-agrees (Symbol symbol.CLOSE_BRACKET) (sym symbol.OPEN_PAREN) refl int-agrees) refl)) refl)) refl refl)) refl) refl

  param_kind-agrees : Agrees grammar.ParamKind grammar.ParamKind room false (Keyword keyword.INT ∷ Name ∷ sym symbol.OPEN_PAREN) [] param_kind
  unfolding param_kind int_kind element_kind ends_kind
  param_kind-agrees = either-agrees (node-agrees int_kind_of int-agrees) (either-agrees (node-agrees element_kind_of name-agrees)
      (node-agrees ends_kind_of (after-agrees (Symbol symbol.CLOSE_PAREN) [] (before-agrees (Symbol symbol.OPEN_PAREN) [] refl (seq-agrees name-agrees
      (before-agrees (Symbol symbol.STAR) [] refl digits-agrees) refl)) refl refl)) refl) refl

  param-agrees : Agrees grammar.Param grammar.Param room false (Name ∷ []) [] param
  unfolding param
  param-agrees = node-agrees param_of (seq-agrees name-agrees (before-agrees (Symbol symbol.COLON) [] refl param_kind-agrees) refl)

  params-agrees : Agrees (Separated (sym symbol.COMMA) grammar.Param) (Separated (sym symbol.COMMA) grammar.Param) room false (Name ∷ []) (sym symbol.COMMA) params
  unfolding params
  params-agrees = separated-agrees (Symbol symbol.COMMA) refl param-agrees refl

  shape-agrees : Agrees grammar.Shape grammar.Shape room false (Keyword keyword.VECTOR ∷ key keyword.MATRIX) [] shape
  unfolding shape vector_shape matrix_shape
  shape-agrees = either-agrees
      (made-agrees vector_result_of (after-agrees (Symbol symbol.CLOSE_PAREN) [] (before-agrees (Keyword keyword.VECTOR) (sym symbol.OPEN_BRACKET) refl (seq-agrees name-agrees
      (before-agrees (Symbol symbol.CLOSE_BRACKET) (sym symbol.OPEN_PAREN) refl local-agrees) refl)) refl refl))
      (made-agrees matrix_result_of (after-agrees (Symbol symbol.CLOSE_PAREN) [] (before-agrees (Keyword keyword.MATRIX) (sym symbol.OPEN_BRACKET) refl (seq-agrees name-agrees
      (before-agrees (Symbol symbol.COMMA) [] refl (seq-agrees name-agrees (before-agrees (Symbol symbol.CLOSE_BRACKET) (sym symbol.OPEN_PAREN) refl local-agrees) refl)) refl)) refl refl)) refl

  result-agrees : Agrees grammar.Result grammar.Result room false (Name ∷ []) [] result
  unfolding result
  result-agrees = node-agrees result_of (seq-agrees name-agrees (before-agrees (Symbol symbol.COLON) [] refl shape-agrees) refl)

  results-agrees : Agrees (Separated (sym symbol.COMMA) grammar.Result) (Separated (sym symbol.COMMA) grammar.Result) room false (Name ∷ []) (sym symbol.COMMA) results
  unfolding results
  results-agrees = separated-agrees (Symbol symbol.COMMA) refl result-agrees refl

  field-agrees : Agrees grammar.Field grammar.Field room false (Name ∷ []) [] field
  unfolding field
  field-agrees = node-agrees field_of (after-agrees (Symbol symbol.SEMICOLON) [] (seq-agrees name-agrees (before-agrees (Symbol symbol.COLON) [] refl local-agrees) refl) refl refl)

  element-agrees : Agrees grammar.Element grammar.Element room false (key keyword.ELEMENT) [] element
  unfolding element fields
  element-agrees = node-agrees element_of (after-agrees (Keyword keyword.END) [] (before-agrees (Keyword keyword.ELEMENT) [] refl (seq-agrees name-agrees (each-agrees field-agrees refl) refl)) refl refl)

  ends-agrees : Agrees grammar.Ends grammar.Ends room false (sym symbol.OPEN_PAREN) [] ends
  unfolding ends all_names
  ends-agrees = after-agrees (Symbol symbol.CLOSE_PAREN) [] (before-agrees (Symbol symbol.OPEN_PAREN) [] refl (separated-agrees (Symbol symbol.COMMA) refl name-agrees refl)) refl refl

  set-agrees : (line : ℕ) → Agrees (grammar.Set line) (grammar.Set line) room false (Name ∷ []) [] (set line)
  unfolding set maybe_ends
  set-agrees line = made-agrees (set_of line) (after-agrees (Symbol symbol.SEMICOLON) [] (seq-agrees name-agrees (before-agrees (Symbol symbol.COLON) (Keyword keyword.SET ∷ sym symbol.OPEN_BRACE) refl
      (seq-agrees name-agrees (before-agrees (Symbol symbol.CLOSE_BRACE) [] refl (maybe_some-agrees ends-agrees)) refl)) refl) refl refl)

  host-agrees : (line : ℕ) → Agrees (grammar.Host line) (grammar.Host line) room false (key keyword.FUNC) [] (host line)
  unfolding host ints
  host-agrees line = made-agrees (host_of line) (after-agrees (Symbol symbol.SEMICOLON) [] (before-agrees (Keyword keyword.FUNC) [] refl (seq-agrees name-agrees (before-agrees (Symbol symbol.OPEN_PAREN) [] refl
      (seq-agrees (separated-agrees (Symbol symbol.COMMA) refl int-agrees refl) (before-agrees (Symbol symbol.CLOSE_PAREN) (sym symbol.ARROW) refl int-agrees) refl)) refl)) refl refl)

  extern-agrees : Agrees grammar.Extern grammar.Extern room false (key keyword.EXTERN) [] extern_decl
  unfolding extern_decl
  extern-agrees = at-agrees (λ line. before-agrees (Keyword keyword.EXTERN) [] refl (either-agrees (set-agrees line) (host-agrees line) refl))

module _ (room depth : ℕ) where
  func-agrees : Agrees (grammar.Func room) (grammar.Func depth) room false (key keyword.FUNC) [] (func room)
  unfolding func func_body
  func-agrees = node-agrees func_of (after-agrees (Keyword keyword.END) [] (before-agrees (Keyword keyword.FUNC) [] refl (seq-agrees name-agrees (before-agrees (Symbol symbol.OPEN_PAREN) [] refl
      (seq-agrees (params-agrees) (before-agrees (Symbol symbol.CLOSE_PAREN) (Symbol symbol.ARROW ∷ sym symbol.OPEN_PAREN) refl (seq-agrees (results-agrees)
      (before-agrees (Symbol symbol.CLOSE_PAREN) [] refl (each-agrees (func_statement-agrees room depth) refl)) refl)) refl)) refl)) refl refl)

  abbrev declaration_firsts : List TokenKind
  declaration_firsts = Keyword keyword.ELEMENT ∷ Keyword keyword.EXTERN ∷ key keyword.FUNC

  declaration-agrees : Agrees (grammar.Declaration room) (grammar.Declaration depth) room false declaration_firsts [] (declaration room)
  unfolding declaration
  declaration-agrees = either-agrees (element-agrees) (either-agrees (extern-agrees) func-agrees refl) refl

  pub program-agrees : Agrees (grammar.Program room) (grammar.Program depth) room false (Keyword keyword.ELEMENT ∷ Keyword keyword.EXTERN ∷ Keyword keyword.FUNC ∷ key keyword.PROC) [] (program room)
  unfolding program declarations main_body
  program-agrees = node-agrees program_of (after-agrees (Keyword keyword.END) [] (seq-agrees (each-agrees declaration-agrees refl)
      (before-agrees (Keyword keyword.PROC) (key keyword.MAIN) refl (each-agrees (main_statement-agrees room depth) refl)) refl) refl refl)
