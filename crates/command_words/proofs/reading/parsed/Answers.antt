use Rattle.std.proofs.Common.{◌∙◌, ap, subst, map, string_bytes, Result}
use Rattle.clap.specs.Words.{app_of}
use Rattle.vocabulary.specs.Answers.{Answers}
use Rattle.command_words.specs.declared.command.Words.{Words}
use Rattle.command_words.specs.declared.command.WordsFault.{WordsFault}
use Rattle.command_words.specs.declared.command.WordsFault.TheVariants.{Memory}
use Rattle.command_words.proofs.Values.{is_taken, positionals_found, same_stated, values_found}
use Rattle.command_words.proofs.reading.parsed.Goals as goal

pub command_in-requires-clause-values : goal.command_in-requires-clause-values
command_in-requires-clause-values c =
    values_found c.args.verb c.args.given.now c.requires (app_of c.in-Ok-command_for.command) (map string_bytes c.as_slice.result.now) c.in-Ok-command_for.ensures
    (ap (map string_bytes) c.as_slice.ensures.value ∙ c.in-Ok.ensures) c.in-Ok-try_get_matches_from.matches c.in-Ok-try_get_matches_from.ensures.matches

pub command_in-requires-clause-positionals : goal.command_in-requires-clause-positionals
command_in-requires-clause-positionals c =
    positionals_found c.args.verb c.args.given.now c.requires (app_of c.in-Ok-command_for.command) (map string_bytes c.as_slice.result.now) c.in-Ok-command_for.ensures
    (ap (map string_bytes) c.as_slice.ensures.value ∙ c.in-Ok.ensures) c.in-Ok-try_get_matches_from.matches c.in-Ok-try_get_matches_from.ensures.matches

pub returns-in-Ok-try_get_matches_from : goal.returns-in-Ok-try_get_matches_from
returns-in-Ok-try_get_matches_from c =
    subst (λ (r : Result Words WordsFault). Answers Memory r c.command_in.result)
    (same_stated c.args.verb c.args.given.now c.requires (app_of c.in-Ok-command_for.command) (map string_bytes c.as_slice.result.now) c.in-Ok-command_for.ensures
    (ap (map string_bytes) c.as_slice.ensures.value ∙ c.in-Ok.ensures) c.in-Ok-try_get_matches_from.matches c.in-Ok-try_get_matches_from.ensures.matches)
    c.command_in.ensures

pub unreachable-requires : goal.unreachable-requires
unreachable-requires c =
    c.in_default-kind.not-OutOfMemory (c.kind.ensures ∙ c.in-Err.ensures.passes
    (is_taken c.args.verb c.args.given.now c.requires (app_of c.in-Ok-command_for.command) (map string_bytes c.as_slice.result.now) c.in-Ok-command_for.ensures
    (ap (map string_bytes) c.as_slice.ensures.value ∙ c.in-Ok.ensures)))
