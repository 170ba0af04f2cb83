use Rattle.std.proofs.Common.{rules, ◌≡◌, false}
use Rattle.std.specs.Prelude.{Ok, Err}
use Rattle.sim_lexer.specs.declared.token.symbol.TheConstants as symbol
use Rattle.sim_grammar.specs.Rule.{sym}
use Rattle.sim_grammar.specs.Read.{starts, skip}
use Rattle.sim_grammar.specs.ReadExpressions.{expression}
use Rattle.assignment_parser.proofs.Sides.{others_halt}
use Rattle.assignment_parser.proofs.assignments.sides.Goals as goal

pub returns-in_err-others : goal.returns-in_err-others
returns-in_err-others g c = λ reader follows.
    let none : starts (sym symbol.ASSIGN) c.args.cursor.now ≡ false = cc in
    let skipped : skip (sym symbol.COMMA) c.args.cursor.now ≡ Ok c.skip-2.new.self = rw c.in_ok-skip-2.was at c.skip-2.ensures in
    let halts = rw c.in_err-others.was at (c.separated.ensures reader follows) in
    let same : c.from_residual-in_err-others.result ≡ Err c.in_err-others.field-0.0 = search rules in
    rw same (others_halt (expression c.args.depth) reader c.args.cursor.now c.skip-2.new.self c.separated.new.cursor c.in_err-others.field-0.0 none skipped halts)
