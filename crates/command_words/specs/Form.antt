-- The one form in which what is given can always be written.
use Rattle.std.specs.Prelude.{◌≡◌, ◌++◌, List, ◌∷◌, None, Ok, codes, map}
use Rattle.command_words.specs.Arguments.{Text, arguments, name_of}
use Rattle.command_words.specs.Commands.{words_of}
use Rattle.command_words.specs.declared.given.Setting.{Setting}
use Rattle.command_words.specs.declared.given.Given.{Given}

-- an option and its value as one word, `--name=VALUE`
abbrev pub option_form : Setting → Text
option_form setting = codes "--" ++ name_of setting.flag ++ codes "=" ++ setting.value

-- each option as one word, in the order given; then the end of options; then the positional words in order
abbrev pub laid_out : Given → List Text
laid_out given = map option_form given.settings ++ codes "--" ∷ given.positionals

-- words state the command that the form states of what they give
abbrev pub FormLaw : Type 0
FormLaw = (word : Text) (words : List Text) (given : Given) → arguments words ≡ Ok given → given.due ≡ None
    → words_of (word ∷ laid_out given) ≡ words_of (word ∷ words)
