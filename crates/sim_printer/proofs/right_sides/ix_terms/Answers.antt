use Rattle.std.proofs.Common.{◌++◌, ap}
use Rattle.sim_lexer.specs.declared.token.symbol.TheConstants as sym_of
use Rattle.sim_grammar.specs.Rule as rule
use Rattle.sim_printer.specs.Printed as spec
use Rattle.sim_printer.specs.Grown.{before_term_words}
use Rattle.sim_printer.proofs.Parts.{so_far_next, ix_builds}
use Rattle.sim_printer.proofs.right_sides.ix_terms.Goals as goal

pub loop-one-preserved : goal.loop-one-preserved
loop-one-preserved c =
    so_far_next _ (λ b x. before_term_words b x.minus ++ spec.ix_product_words x) ix_builds c.args.line.now c.loop-one.line c.before_term.new.line c.ix_atoms.new.line
    c.args.all.now c.loop-one.one-index c.loop-one.is_first c.one-item.result _ _ c.loop-one.invariant c.loop-one-test.true c.one-item.is c.in_ok-before_term.ensures c.in_ok-ix_atoms.ensures
    (ap (λ atoms. before_term_words c.loop-one.is_first c.one-item.result.minus ++ spec.separated (rule.sym sym_of.STAR) spec.ix_atom_words atoms) c.as_slice.ensures)
