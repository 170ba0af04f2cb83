-- What a parse of the form found is what was given.
use Rattle.std.proofs.Common.{◌≡◌, ◌∙◌, ap, ap₂, sym, subst, true, List, [], ◌∷◌, unwrap_or, codes}
use Rattle.std.proofs.Math.Path.{fun_ext}
use Rattle.clap.specs.Simple.{App, HasMatchesOf, is_simple, matches_of}
use Rattle.clap.specs.Takes.{takes}
use Rattle.clap.specs.Walk.{all_of, first_of, rows_of}
use Rattle.clap.specs.Words.{found_of}
use Rattle.clap.specs.declared.parser.matches.ArgMatches.{ArgMatches}
use Rattle.clap.proofs.WalkLemmas.{first_value-rows, raw_values-rows}
use Rattle.command_words.specs.Arguments.{Text, name_of, value_of}
use Rattle.command_words.specs.Commands.{are_positionals, stated}
use Rattle.command_words.specs.Form.{laid_out}
use Rattle.command_words.specs.Parsing.{AreValues, IsAccepted, app_of_verb, positionals_in, values_in}
use Rattle.command_words.specs.Verbs.{word_of}
use Rattle.command_words.specs.declared.given.Given.{Given}
use Rattle.command_words.specs.declared.verb.Verb.{Verb}
use Rattle.command_words.proofs.Accepted.{are_values}
use Rattle.command_words.proofs.Parses.{finds_rows, simple, takes_form}
use Rattle.command_words.proofs.Rows.{positionals_in_rows, rows_of_form, value_in_rows}

module _ (verb : Verb) (given : Given) (ok : IsAccepted verb given) (app : App) (words : List Text) (app_is : app ≡ app_of_verb verb)
    (words_are : words ≡ word_of verb ∷ laid_out given) where
  -- only want of memory refuses the form
  pub is_taken : takes app words ≡ true
  is_taken = ap₂ takes app_is words_are ∙ takes_form verb given.settings given.positionals ok.settings ok.once

  module _ (m : ArgMatches) (h : HasMatchesOf app words m) where
    rows : rows_of (found_of m) ≡ rows_of_form given.settings given.positionals
    rows = (h (ap is_simple app_is ∙ simple verb)).0 ∙ ap₂ matches_of app_is words_are
        ∙ finds_rows verb given.settings given.positionals ok.settings ok.once

    values : values_in m ≡ value_of given.settings
    values = fun_ext (λ flag. first_value-rows (found_of m) (name_of flag) ∙ ap (first_of (name_of flag)) rows
        ∙ value_in_rows given.settings given.positionals flag)

    positionals : positionals_in m ≡ given.positionals
    positionals = ap (λ o. unwrap_or o []) (raw_values-rows (found_of m) (codes "positionals") ∙ ap (all_of (codes "positionals")) rows)
        ∙ positionals_in_rows given.settings given.positionals

    pub values_found : AreValues (values_in m)
    values_found = subst AreValues (sym values) (are_values verb given.settings ok.settings)

    pub positionals_found : are_positionals verb (positionals_in m) ≡ true
    positionals_found = ap (are_positionals verb) positionals ∙ ok.positionals

    pub same_stated : stated verb (values_in m) (positionals_in m) ≡ stated verb (value_of given.settings) given.positionals
    same_stated = ap₂ (stated verb) values positionals
