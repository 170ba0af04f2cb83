use Rattle.std.proofs.Common.{◌++◌, refl, sym}
use Rattle.sim_lexer.specs.declared.token.symbol.TheConstants.{COMMA, SEMICOLON}
use Rattle.sim_grammar.specs.Rule as rule
use Rattle.sim_printer.specs.Printed as spec
use Rattle.sim_printer.specs.Grown.{before_part_words, before_factor_words, before_term_words}
use Rattle.sim_printer.proofs.Parts.{so_far_next, separated_builds, product_builds, sum_builds, term_out, factor_out}
use Rattle.sim_printer.proofs.expressions.+expression.Goals as goal

pub entries-loop-one-preserved : goal.entries-loop-one-preserved
entries-loop-one-preserved t c =
    so_far_next _ (λ b x. before_part_words b (rule.sym COMMA) ++ spec.expression_words x) (separated_builds (rule.sym COMMA) spec.whole spec.expression) c.args.line.now c.loop-one.line c.between.new.line c.expression.new.line
    c.args.entries.now c.loop-one.one-index c.loop-one.is_first c.one-item.result _ _ c.loop-one.invariant c.loop-one-test.true c.one-item.is c.in_ok-between.ensures c.in_ok-expression.ensures refl

pub block_rows-loop-one-preserved : goal.block_rows-loop-one-preserved
block_rows-loop-one-preserved t c =
    so_far_next _ (λ b x. before_part_words b (rule.sym SEMICOLON) ++ spec.row_phrase x) (separated_builds (rule.sym SEMICOLON) (λ row. row) spec.row_phrase) c.args.line.now c.loop-one.line c.between.new.line c.row.new.line
    c.args.rows.now c.loop-one.one-index c.loop-one.is_first c.one-item.result _ _ c.loop-one.invariant c.loop-one-test.true c.one-item.is c.in_ok-between.ensures c.in_ok-row.ensures refl

pub product-loop-one-preserved : goal.product-loop-one-preserved
product-loop-one-preserved t c =
    so_far_next _ (λ b x. before_factor_words b (spec.factor_phrase x).0 ++ spec.at_level spec.transposed (spec.factor_phrase x).1) (product_builds spec.factor_phrase) c.args.line.now c.loop-one.line c.before_factor.new.line c.factor.new.line
    c.args.factors.now c.loop-one.one-index c.loop-one.is_first c.one-item.result _ _ c.loop-one.invariant c.loop-one-test.true c.one-item.is c.in_ok-before_factor.ensures c.in_ok-factor.ensures
    (sym (factor_out c.loop-one.is_first c.one-item.result))

pub sum-loop-one-preserved : goal.sum-loop-one-preserved
sum-loop-one-preserved t c =
    so_far_next _ (λ b x. before_term_words b (spec.term_phrase x).0 ++ spec.at_level spec.product (spec.term_phrase x).1) (sum_builds spec.term_phrase) c.args.line.now c.loop-one.line c.before_term.new.line c.term.new.line
    c.args.terms.now c.loop-one.one-index c.loop-one.is_first c.one-item.result _ _ c.loop-one.invariant c.loop-one-test.true c.one-item.is c.in_ok-before_term.ensures c.in_ok-term.ensures
    (sym (term_out c.loop-one.is_first c.one-item.result))
