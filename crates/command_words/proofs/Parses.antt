-- Each command takes the one form of what it is given, and finds its rows.
use Rattle.std.proofs.Common.{◌≡◌, ◌∙◌, ap, sym, ◌&&◌, ◌∷◌, Bool, true, false, true≢false, List, [], refl, Some, fold, is_some, cond}
use Rattle.std.specs.Prelude.{⊤}
use Rattle.std.specs.List.{list_all}
use Rattle.clap.specs.Simple.{Shape, built, entered, is_simple, matches_of}
use Rattle.clap.specs.Takes.{default_passes, entered_passes, is_valid, level_passes, takes}
use Rattle.clap.specs.Walk.{Row, Rule, Text, Walk, arg_by_long, default_rows, finished, has_row, nothing_held, reading_by, settled, walk, with_default}
use Rattle.command_words.specs.Arguments.{name_of}
use Rattle.command_words.specs.Commands.{is_setting}
use Rattle.command_words.specs.Parsing.{Once, app_of_verb}
use Rattle.command_words.specs.Verbs.{has_option, word_of}
use Rattle.command_words.specs.declared.flag.Flag.{Flag}
use Rattle.command_words.specs.declared.flag.Flag.TheVariants.{Workers, Turns, Words, Only}
use Rattle.command_words.specs.declared.given.Setting.{Setting}
use Rattle.command_words.specs.declared.verb.Verb.{Verb}
use Rattle.command_words.specs.declared.verb.Verb.TheVariants.{Run, Plan, Plain, Make}
use Rattle.command_words.proofs.Rows.{rows_of_form}
use Rattle.command_words.proofs.Walking.{Ends, HasArguments, all_true, built_option, form, form_pass, form_walk}

abbrev shape : Verb → Shape
shape verb = (built (app_of_verb verb)).top

-- ---- each command finds its options

no : {X : Type 0} → false ≡ true → X
no e = absurd (true≢false (sym e))

has : (verb : Verb) (flag : Flag) → has_option verb flag ≡ true → arg_by_long (shape verb).rules (name_of flag) ≡ Some (built_option flag)
has Run Workers e = refl
has Run Turns e = refl
has Run Words e = refl
has Run Only e = refl
has Plan Workers e = no e
has Plan Turns e = no e
has Plan Words e = refl
has Plan Only e = no e
has Plain Workers e = no e
has Plain Turns e = refl
has Plain Words e = no e
has Plain Only e = refl
has Make Workers e = refl
has Make Turns e = no e
has Make Words e = no e
has Make Only e = no e

arguments_of : (verb : Verb) → HasArguments (shape verb) verb
arguments_of Run = record { option = has Run; first = refl; words = refl }
arguments_of Plan = record { option = has Plan; first = refl; words = refl }
arguments_of Plain = record { option = has Plain; first = refl; words = refl }
arguments_of Make = record { option = has Make; first = refl; words = refl }

-- ---- no argument has a default

abbrev NoDefaults : List Rule → Type 0
NoDefaults [] = ⊤
NoDefaults (a ∷ rules) = (a.defaults ≡ []) × NoDefaults rules

same_either_way : (b : Bool) (rows : List Row) → cond b rows rows ≡ rows
same_either_way true rows = refl
same_either_way false rows = refl

no_default : (rows : List Row) (a : Rule) → a.defaults ≡ [] → with_default rows a ≡ rows
no_default rows a none =
    ap (λ vs. cond (has_row a.id rows) rows (default_rows a.id (reading_by a) vs rows)) none ∙ same_either_way (has_row a.id rows) rows

no_defaults : (rules : List Rule) (rows : List Row) → NoDefaults rules → fold with_default rows rules ≡ rows
no_defaults [] rows none = refl
no_defaults (a ∷ rules) rows none = ap (λ rs. fold with_default rs rules) (no_default rows a none.0) ∙ no_defaults rules rows none.1

without_defaults : (verb : Verb) → NoDefaults (shape verb).rules
without_defaults Run = (refl, (refl, (refl, (refl, (refl, (refl, tt))))))
without_defaults Plan = (refl, (refl, (refl, tt)))
without_defaults Plain = (refl, (refl, (refl, (refl, tt))))
without_defaults Make = (refl, (refl, (refl, tt)))

defaults_pass : (verb : Verb) → list_all default_passes (shape verb).rules ≡ true
defaults_pass Run = refl
defaults_pass Plan = refl
defaults_pass Plain = refl
defaults_pass Make = refl

-- nothing is required
all_valid : (verb : Verb) (rows : List Row) → is_valid (shape verb) rows false ≡ true
all_valid Run rows = refl
all_valid Plan rows = refl
all_valid Plain rows = refl
all_valid Make rows = refl

-- ---- the parse of the form

module _ (verb : Verb) (settings : List Setting) (words : List Text) (all : list_all (is_setting verb) settings ≡ true) (once : Once [] settings) where
  abbrev end : Walk
  end = walk (shape verb).rules [] nothing_held (form settings words)

  ends : Ends (shape verb) end (rows_of_form settings words)
  ends = form_walk (shape verb) verb (arguments_of verb) settings words all once

  rows_found : finished (shape verb).rules end.held ≡ rows_of_form settings words
  rows_found = no_defaults (shape verb).rules (settled (shape verb).rules end.held).rows (without_defaults verb) ∙ ends.found

  level : level_passes (shape verb) [] nothing_held (form settings words) false ≡ true
  level =
      all_true _ _ (form_pass (shape verb) verb (arguments_of verb) settings words all once)
      (all_true _ _ ends.passes (all_true _ _ (defaults_pass verb) (all_valid verb (finished (shape verb).rules end.held))))

  -- no word names a subcommand
  taken : (entered_passes (built (app_of_verb verb)) end.stopped
      && level_passes (shape verb) [] nothing_held (form settings words) (is_some (entered (built (app_of_verb verb)) end.stopped))) ≡ true
  taken =
      ap (λ stop. entered_passes (built (app_of_verb verb)) stop
      && level_passes (shape verb) [] nothing_held (form settings words) (is_some (entered (built (app_of_verb verb)) stop))) ends.stopped
      ∙ level

pub simple : (verb : Verb) → is_simple (app_of_verb verb) ≡ true
simple Run = refl
simple Plan = refl
simple Plain = refl
simple Make = refl

pub finds_rows : (verb : Verb) (settings : List Setting) (words : List Text) → list_all (is_setting verb) settings ≡ true → Once [] settings
    → matches_of (app_of_verb verb) (word_of verb ∷ form settings words) ≡ rows_of_form settings words
finds_rows Run settings words all once = rows_found Run settings words all once
finds_rows Plan settings words all once = rows_found Plan settings words all once
finds_rows Plain settings words all once = rows_found Plain settings words all once
finds_rows Make settings words all once = rows_found Make settings words all once

pub takes_form : (verb : Verb) (settings : List Setting) (words : List Text) → list_all (is_setting verb) settings ≡ true → Once [] settings
    → takes (app_of_verb verb) (word_of verb ∷ form settings words) ≡ true
takes_form Run settings words all once = taken Run settings words all once
takes_form Plan settings words all once = taken Plan settings words all once
takes_form Plain settings words all once = taken Plain settings words all once
takes_form Make settings words all once = taken Make settings words all once
