use Rattle.std.proofs.Common.{rules, ◌≡◌, ◌∙◌, ap}
use Rattle.std.proofs.lemmas.Result.{IfOk-weaker}
use Rattle.clap.specs.Words.{app_of, rule_of, with_rule}
use Rattle.command_words.specs.Parsing.{positional_rule}
use Rattle.command_words.proofs.parser.with_positionals.Goals as goal

pub returns : goal.returns
returns c =
    let rule : rule_of c.action-positionals.result ≡ positional_rule = search rules in
    IfOk-weaker c.arg.result _ _ (λ whole added. added.shape (search rules) ∙ ap (with_rule (app_of c.args.command)) rule) c.arg.ensures
