-- What the parse of the one form stands on: the commands as `clap` has them, and what it finds.
use Rattle.std.specs.Prelude.{◌≡◌, ◌<◌, ◌^◌, ◌++◌, ⊤, Bool, true, false, List, [], ◌∷◌, Option, Some, IfSome, option_map, unwrap_or, codes}
use Rattle.std.specs.List.{list_all}
use Rattle.std.specs.Str.Parse.{digits_value}
use Rattle.clap.specs.Words.{App, Rule, first_value, found_of, matched_of, new_app, new_rule, raw_values, with_rule}
use Rattle.clap.specs.declared.builder.action.ArgAction.TheVariants.{Append}
use Rattle.clap.specs.declared.parser.matches.ArgMatches.{ArgMatches}
use Rattle.command_words.specs.Arguments.{Text, is_given, name_of}
use Rattle.command_words.specs.Commands.{are_positionals, is_setting}
use Rattle.command_words.specs.Verbs.{is_number, is_value}
use Rattle.command_words.specs.declared.flag.Flag.{Flag}
use Rattle.command_words.specs.declared.flag.Flag.TheVariants.{Workers, Turns, Words, Only}
use Rattle.command_words.specs.declared.given.Setting.{Setting}
use Rattle.command_words.specs.declared.given.Given.{Given}
use Rattle.command_words.specs.declared.verb.Verb.{Verb}
use Rattle.command_words.specs.declared.verb.Verb.TheVariants.{Run, Plan, Plain, Make}

-- ---- the commands

-- an option that takes one value
abbrev pub option_rule : Flag → Rule
option_rule flag = record (new_rule (name_of flag)) { long = Some (name_of flag) }

-- the positional words, any number of them
abbrev pub positional_rule : Rule
positional_rule = record (new_rule (codes "positionals")) { action = Some Append }

abbrev pub app_of_verb : Verb → App
app_of_verb Run = with_rule (with_rule (with_rule (with_rule (with_rule (new_app (codes "run")) (option_rule Workers)) (option_rule Turns)) (option_rule Words)) (option_rule Only)) positional_rule
app_of_verb Plan = with_rule (with_rule (new_app (codes "plan")) (option_rule Words)) positional_rule
app_of_verb Plain = with_rule (with_rule (with_rule (new_app (codes "plain")) (option_rule Turns)) (option_rule Only)) positional_rule
app_of_verb Make = with_rule (with_rule (new_app (codes "make")) (option_rule Workers)) positional_rule

-- ---- what is asked of what was given

-- no option of a list is among those before it
abbrev pub Once : List Setting → List Setting → Type 0
Once before [] = ⊤
Once before (setting ∷ rest) = (is_given setting.flag before ≡ false) × Once (before ++ setting ∷ []) rest

-- the command takes all that is given, and each option is given once
pub record IsAccepted (verb : Verb) (given : Given) : Type 0 where
  pub once : Once [] given.settings
  pub settings : list_all (is_setting verb) given.settings ≡ true
  pub positionals : are_positionals verb given.positionals ≡ true

-- ---- what is found

-- the values of options that a parse found
abbrev pub values_in : ArgMatches → Flag → Option Text
values_in matches flag = first_value (found_of matches) (name_of flag)

-- the positional words that it found
abbrev pub positionals_in : ArgMatches → List Text
positionals_in matches = unwrap_or (option_map raw_values (matched_of (found_of matches) (codes "positionals"))) []

-- each option takes its value
abbrev pub AreValues : (Flag → Option Text) → Type 0
AreValues values = (flag : Flag) → IfSome (values flag) (λ text. is_value flag text ≡ true)

-- whether an option's value is a number
abbrev pub takes_number : Flag → Bool
takes_number Workers = true
takes_number Turns = true
takes_number Words = true
takes_number Only = false

-- digits of a number below 2^32
abbrev pub IsSmall : Text → Type 0
IsSmall digits = (is_number digits ≡ true) × (digits_value 10 digits < 2 ^ 32)
