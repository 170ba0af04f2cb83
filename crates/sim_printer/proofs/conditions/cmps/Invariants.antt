use Rattle.sim_lexer.specs.declared.token.keyword.TheConstants as key_of
use Rattle.sim_grammar.specs.Rule as rule
use Rattle.sim_printer.specs.Printed as spec
use Rattle.sim_printer.proofs.Parts.{SoFar}
use Rattle.sim_printer.proofs.conditions.cmps.Given as goal

-- those so far are printed
abbrev pub invariant-loop-one : goal.invariant-loop-one
invariant-loop-one l = SoFar (spec.separated (rule.key key_of.AND) spec.cmp_words) l.initial.line l.line l.all l.one-index l.is_first
