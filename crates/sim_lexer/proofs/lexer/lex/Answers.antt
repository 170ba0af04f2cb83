use Rattle.std.proofs.Common.{sym, arith, inr, rules}
use Rattle.std.proofs.lemmas.Grind.{common_steps}
use Rattle.std.proofs.lemmas.Result.{err_from_is_err_and}
use Rattle.sim_lexer.proofs.Lexing.{begins_empty, token_fault, too_many, depth_fault, done, goes_on}
use Rattle.sim_lexer.proofs.lexer.lex.Goals as goal

pub loop-tokens-init : goal.loop-tokens-init
loop-tokens-init c = begins_empty c.args.bytes.now c.new-tokens.result.items c.new-tokens.ensures.items

pub returns-in_err-token-clause-exact : goal.returns-in_err-token-clause-exact
returns-in_err-token-clause-exact c =
    let p = err_from_is_err_and c.from_residual.result c.from_residual.ensures.1 in
    rw (p.1, p.2) (inr (token_fault c.loop-tokens.invariant c.in_err-token.field-0.0 (sym c.in_err-token.ensures.exact)))

pub returns-then-len-clause-exact : goal.returns-then-len-clause-exact
returns-then-len-clause-exact c =
    inr (too_many c.loop-tokens.invariant c.in_ok-token.token (sym c.in_ok-token.ensures.exact) (grind (arith, common_steps)))

pub returns-in_err-depth-clause-exact : goal.returns-in_err-depth-clause-exact
returns-in_err-depth-clause-exact c =
    let p = err_from_is_err_and c.from_residual-in_err-depth.result c.from_residual-in_err-depth.ensures.1 in
    rw (p.1, p.2) (inr (depth_fault c.loop-tokens.invariant c.in_ok-token.token (sym c.in_ok-token.ensures.exact) (grind (arith, common_steps)) c.in_err-depth.field-0.0 (sym c.in_err-depth.ensures.exact)))

pub returns-then-eq-clause-exact : goal.returns-then-eq-clause-exact
returns-then-eq-clause-exact c =
    done c.loop-tokens.invariant c.in_ok-token.token (sym c.in_ok-token.ensures.exact) (grind (arith, common_steps)) c.in_ok-depth.depth c.of.result (sym c.in_ok-depth.ensures.exact) (search rules) (search rules)

pub loop-tokens-preserved : goal.loop-tokens-preserved
loop-tokens-preserved c =
    let token_is = c.in_ok-token.ensures in
    let depth_is = c.in_ok-depth.ensures in
    goes_on c.loop-tokens.invariant c.in_ok-token.token (sym token_is.exact) (grind (arith, common_steps)) c.in_ok-depth.depth c.push.new.self.items (sym depth_is.exact) (search rules) (search rules) token_is.lies token_is.line depth_is.within
