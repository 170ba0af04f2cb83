use Rattle.std.proofs.Common.{◌++◌, refl}
use Rattle.sim_lexer.specs.declared.token.symbol.TheConstants as sym_of
use Rattle.sim_grammar.specs.Rule as rule
use Rattle.sim_printer.specs.Printed as spec
use Rattle.sim_printer.specs.Grown.{before_part_words}
use Rattle.sim_printer.proofs.Parts.{so_far_next, separated_plain}
use Rattle.sim_printer.proofs.right_sides.targets.Goals as goal

pub loop-one-preserved : goal.loop-one-preserved
loop-one-preserved c =
    so_far_next _ (λ b x. before_part_words b (rule.sym sym_of.COMMA) ++ spec.target_words x) (separated_plain (rule.sym sym_of.COMMA) spec.target_words) c.args.line.now c.loop-one.line c.between.new.line c.target.new.line
    c.args.all.now c.loop-one.one-index c.loop-one.is_first c.one-item.result _ _ c.loop-one.invariant c.loop-one-test.true c.one-item.is c.in_ok-between.ensures c.in_ok-target.ensures refl
