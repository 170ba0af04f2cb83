use Rattle.std.proofs.Common.{refl, arith}
use Rattle.std.proofs.lemmas.Grind.{common_steps}
use Rattle.sim_lexer.proofs.Lexing.{token_found, found_lies, line_moves}
use Rattle.sim_lexer.proofs.lexer.token_after.Goals as goal

pub returns-in-Some-clause-exact : goal.returns-in-Some-clause-exact
returns-in-Some-clause-exact c =
    token_found c.args.bytes.now c.args.last.to c.gap_len.result _ c.in-Some.size (grind (arith, common_steps)) (grind (arith, common_steps)) refl refl (grind (arith, common_steps, line_moves))

pub returns-in-Some-clause-lies : goal.returns-in-Some-clause-lies
returns-in-Some-clause-lies c =
    found_lies c.args.bytes.now _ _ c.in-Some.size (grind (arith, common_steps)) refl refl (grind (arith, common_steps))
