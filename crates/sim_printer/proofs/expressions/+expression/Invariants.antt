use Rattle.std.proofs.Common.{map}
use Rattle.sim_lexer.specs.declared.token.symbol.TheConstants.{COMMA, SEMICOLON}
use Rattle.sim_grammar.specs.Rule.{sym}
use Rattle.sim_printer.specs.Printed as spec
use Rattle.sim_printer.proofs.Parts.{SoFar}
use Rattle.sim_printer.proofs.expressions.+expression.Given as goal

-- the rows so far are printed
abbrev pub invariant-block_rows-loop-one : goal.invariant-block_rows-loop-one
invariant-block_rows-loop-one l = SoFar (λ rows. spec.separated (sym SEMICOLON) (λ row. row) (map spec.row_phrase rows)) l.initial.line l.line l.rows l.one-index l.is_first

-- the entries so far are printed
abbrev pub invariant-entries-loop-one : goal.invariant-entries-loop-one
invariant-entries-loop-one l = SoFar (λ entries. spec.separated (sym COMMA) spec.whole (map spec.expression entries)) l.initial.line l.line l.entries l.one-index l.is_first

-- the factors so far are printed
abbrev pub invariant-product-loop-one : goal.invariant-product-loop-one
invariant-product-loop-one l = SoFar (λ factors. spec.product_words (map spec.factor_phrase factors)) l.initial.line l.line l.factors l.one-index l.is_first

-- the terms so far are printed
abbrev pub invariant-sum-loop-one : goal.invariant-sum-loop-one
invariant-sum-loop-one l = SoFar (λ terms. spec.sum_words (map spec.term_phrase terms)) l.initial.line l.line l.terms l.one-index l.is_first
