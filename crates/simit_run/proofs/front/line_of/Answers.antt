use Rattle.std.proofs.Common.{◌≡◌, length, refl, sym, arith, true, nat_lt}
use Rattle.std.proofs.lemmas.Bool.Decides.{nat_tests}
use Rattle.std.proofs.lemmas.Option.{slice_get_read}
use Rattle.simit_run.proofs.Lines.{line_of_token}
use Rattle.simit_run.proofs.front.line_of.Goals as goal

pub returns-in-Some : goal.returns-in-Some
returns-in-Some c =
    let within : nat_lt c.args.token (length c.args.tokens.now) ≡ true = sym c.in-Some.ensures.lookup.0 in
    line_of_token c.args.source.now c.args.tokens.now c.args.token c.in-Some.token.now
    (slice_get_read c.args.tokens.now (length c.args.tokens.now) c.args.token c.in-Some.token.now refl (grind (arith, nat_tests, within)) c.in-Some.ensures.lookup.1)
