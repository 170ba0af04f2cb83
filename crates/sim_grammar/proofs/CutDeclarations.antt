-- The cuts of the rules of declarations and programs.
use Rattle.std.proofs.Common.{ℕ, suc, [], ◌∷◌, refl}
use Rattle.sim_lexer.specs.declared.token.TokenKind.TheVariants.{Keyword, Symbol, End}
use Rattle.sim_lexer.specs.declared.token.keyword.TheConstants as keyword
use Rattle.sim_lexer.specs.declared.token.symbol.TheConstants as symbol
use Rattle.sim_grammar.specs.Rule.{sym, key}
use Rattle.sim_grammar.specs.Grammar as grammar
use Rattle.sim_grammar.specs.Trees.{int_of, vector_of, matrix_of, int_kind_of, element_kind_of, ends_kind_of, param_of, vector_result_of, matrix_result_of, result_of, field_of, element_of, set_of, host_of, func_of, program_of}
use Rattle.sim_grammar.proofs.Cuts.{Cuts, seq-cuts, before-cuts, after-cuts, either-cuts, made-cuts, at-cuts, node-cuts, each-cuts, separated-cuts, maybe_some-cuts}
use Rattle.sim_grammar.proofs.CutExpressions.{name-cuts, num-cuts}
use Rattle.sim_grammar.proofs.CutStatements.{func_statement-cuts, main_statement-cuts}

int-cuts : Cuts grammar.Int grammar.Int
int-cuts = after-cuts (sym symbol.CLOSE_PAREN) refl (before-cuts (Keyword keyword.INT ∷ sym symbol.OPEN_PAREN) refl num-cuts)

local-cuts : Cuts grammar.Local grammar.Local
local-cuts = either-cuts (node-cuts int_of int-cuts) (either-cuts
    (node-cuts vector_of (after-cuts (sym symbol.CLOSE_PAREN) refl (before-cuts (Keyword keyword.VECTOR ∷ sym symbol.OPEN_BRACKET) refl (seq-cuts num-cuts
    (before-cuts (Symbol symbol.CLOSE_BRACKET ∷ sym symbol.OPEN_PAREN) refl int-cuts)))))
    (node-cuts matrix_of (after-cuts (sym symbol.CLOSE_PAREN) refl (before-cuts (Keyword keyword.MATRIX ∷ sym symbol.OPEN_BRACKET) refl (seq-cuts num-cuts
    (before-cuts (sym symbol.COMMA) refl (seq-cuts num-cuts (before-cuts (Symbol symbol.CLOSE_BRACKET ∷ sym symbol.OPEN_PAREN) refl int-cuts))))))))

param_kind-cuts : Cuts grammar.ParamKind grammar.ParamKind
param_kind-cuts = either-cuts (node-cuts int_kind_of int-cuts) (either-cuts (node-cuts element_kind_of name-cuts)
    (node-cuts ends_kind_of (after-cuts (sym symbol.CLOSE_PAREN) refl (before-cuts (sym symbol.OPEN_PAREN) refl (seq-cuts name-cuts (before-cuts (sym symbol.STAR) refl num-cuts))))))

param-cuts : Cuts grammar.Param grammar.Param
param-cuts = node-cuts param_of (seq-cuts name-cuts (before-cuts (sym symbol.COLON) refl param_kind-cuts))

shape-cuts : Cuts grammar.Shape grammar.Shape
shape-cuts = either-cuts
    (made-cuts vector_result_of (after-cuts (sym symbol.CLOSE_PAREN) refl (before-cuts (Keyword keyword.VECTOR ∷ sym symbol.OPEN_BRACKET) refl (seq-cuts name-cuts
    (before-cuts (Symbol symbol.CLOSE_BRACKET ∷ sym symbol.OPEN_PAREN) refl local-cuts)))))
    (made-cuts matrix_result_of (after-cuts (sym symbol.CLOSE_PAREN) refl (before-cuts (Keyword keyword.MATRIX ∷ sym symbol.OPEN_BRACKET) refl (seq-cuts name-cuts
    (before-cuts (sym symbol.COMMA) refl (seq-cuts name-cuts (before-cuts (Symbol symbol.CLOSE_BRACKET ∷ sym symbol.OPEN_PAREN) refl local-cuts)))))))

result-cuts : Cuts grammar.Result grammar.Result
result-cuts = node-cuts result_of (seq-cuts name-cuts (before-cuts (sym symbol.COLON) refl shape-cuts))

field-cuts : Cuts grammar.Field grammar.Field
field-cuts = node-cuts field_of (after-cuts (sym symbol.SEMICOLON) refl (seq-cuts name-cuts (before-cuts (sym symbol.COLON) refl local-cuts)))

element-cuts : Cuts grammar.Element grammar.Element
element-cuts = node-cuts element_of (after-cuts (key keyword.END) refl (before-cuts (key keyword.ELEMENT) refl (seq-cuts name-cuts (each-cuts field-cuts))))

ends-cuts : Cuts grammar.Ends grammar.Ends
ends-cuts = after-cuts (sym symbol.CLOSE_PAREN) refl (before-cuts (sym symbol.OPEN_PAREN) refl (separated-cuts (sym symbol.COMMA) refl name-cuts))

set-cuts : (line : ℕ) → Cuts (grammar.Set line) (grammar.Set line)
set-cuts line = made-cuts (set_of line) (after-cuts (sym symbol.SEMICOLON) refl (seq-cuts name-cuts (before-cuts (Symbol symbol.COLON ∷ Keyword keyword.SET ∷ sym symbol.OPEN_BRACE) refl
    (seq-cuts name-cuts (before-cuts (sym symbol.CLOSE_BRACE) refl (maybe_some-cuts ends-cuts))))))

host-cuts : (line : ℕ) → Cuts (grammar.Host line) (grammar.Host line)
host-cuts line = made-cuts (host_of line) (after-cuts (sym symbol.SEMICOLON) refl (before-cuts (key keyword.FUNC) refl (seq-cuts name-cuts (before-cuts (sym symbol.OPEN_PAREN) refl
    (seq-cuts (separated-cuts (sym symbol.COMMA) refl int-cuts) (before-cuts (Symbol symbol.CLOSE_PAREN ∷ sym symbol.ARROW) refl int-cuts))))))

extern-cuts : Cuts grammar.Extern grammar.Extern
extern-cuts = at-cuts (λ line. before-cuts (key keyword.EXTERN) refl (either-cuts (set-cuts line) (host-cuts line)))

module _ (depth : ℕ) where
  func-cuts : Cuts (grammar.Func depth) (grammar.Func (suc depth))
  func-cuts = node-cuts func_of (after-cuts (key keyword.END) refl (before-cuts (key keyword.FUNC) refl (seq-cuts name-cuts (before-cuts (sym symbol.OPEN_PAREN) refl
      (seq-cuts (separated-cuts (sym symbol.COMMA) refl param-cuts) (before-cuts (Symbol symbol.CLOSE_PAREN ∷ Symbol symbol.ARROW ∷ sym symbol.OPEN_PAREN) refl
      (seq-cuts (separated-cuts (sym symbol.COMMA) refl result-cuts) (before-cuts (sym symbol.CLOSE_PAREN) refl (each-cuts (func_statement-cuts depth))))))))))

  declaration-cuts : Cuts (grammar.Declaration depth) (grammar.Declaration (suc depth))
  declaration-cuts = either-cuts element-cuts (either-cuts extern-cuts func-cuts)

  program-cuts : Cuts (grammar.Program depth) (grammar.Program (suc depth))
  program-cuts = node-cuts program_of (after-cuts (key keyword.END) refl (seq-cuts (each-cuts declaration-cuts)
      (before-cuts (Keyword keyword.PROC ∷ key keyword.MAIN) refl (each-cuts (main_statement-cuts depth)))))

  pub program_text-cuts : Cuts (grammar.ProgramText depth) (grammar.ProgramText (suc depth))
  program_text-cuts = after-cuts (End ∷ []) refl program-cuts
