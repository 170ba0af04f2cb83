-- How words give options and positional words, one after another.
use Rattle.std.specs.Prelude.{ℕ, Bool, true, false, ◌==◌, ◌&&◌, ◌||◌, ◌++◌, List, [], ◌∷◌, length, nat_lt, Option, None, Some, option_map, find, Result, Ok, Err, if◌then◌else◌, codes}
use Rattle.std.specs.List.{list_any, before_first, after_first}
use Rattle.std.specs.Str.{bytes_eq}
use Rattle.vocabulary.specs.declared.marks.TheConstants.{MINUS}
use Rattle.vocabulary.specs.Answers.{fold_result}
use Rattle.command_words.specs.declared.command.WordsFault.{WordsFault}
use Rattle.command_words.specs.declared.command.WordsFault.TheVariants.{Refused}
use Rattle.command_words.specs.declared.flag.Flag.{Flag}
use Rattle.command_words.specs.declared.flag.Flag.TheVariants.{Workers, Turns, Words, Only}
use Rattle.command_words.specs.declared.given.Setting.{Setting}
use Rattle.command_words.specs.declared.given.Given.{Given}

abbrev pub Text : Type 0
Text = List ℕ

-- an option's name, without its two minuses
abbrev pub name_of : Flag → Text
name_of Workers = codes "workers"
name_of Turns = codes "turns"
name_of Words = codes "words"
name_of Only = codes "only"

-- the option of a name, its two minuses included
unfoldable pub flag_named : Text → Option Flag
flag_named name =
    if bytes_eq name (codes "--workers") then Some Workers
    else if bytes_eq name (codes "--turns") then Some Turns
    else if bytes_eq name (codes "--words") then Some Words
    else if bytes_eq name (codes "--only") then Some Only
    else None

-- two options are one where they have one name
abbrev pub is_flag : Flag → Flag → Bool
is_flag flag other = bytes_eq (name_of flag) (name_of other)

-- whether an option is among those that were given
abbrev pub is_given : Flag → List Setting → Bool
is_given flag settings = list_any (λ (setting : Setting). is_flag setting.flag flag) settings

-- the value that was given to an option
abbrev pub value_of : List Setting → Flag → Option Text
value_of settings flag = option_map (λ (setting : Setting). setting.value) (find (λ (setting : Setting). is_flag setting.flag flag) settings)

-- one more option has a value, and none is due
abbrev pub with_value : Flag → Text → Given → Given
with_value flag value given = record given {
  settings = given.settings ++ (record { flag = flag; value = value }) ∷ [];
  due = None;
}

-- one more positional word
abbrev pub with_word : Text → Given → Given
with_word word given = record given { positionals = given.positionals ++ word ∷ [] }

-- a word of two bytes or more that begins with a minus
abbrev pub is_dashed : Text → Bool
is_dashed [] = false
is_dashed (byte ∷ rest) = (byte == MINUS) && nat_lt 0 (length rest)

abbrev pub is_equals : ℕ → Bool
is_equals byte = byte == 61

-- an option that is given with its value
abbrev pub option_with : Option Flag → Text → Given → Result Given WordsFault
option_with None value given = Err Refused
option_with (Some flag) value given =
    if is_given flag given.settings || (length value == 0) then Err Refused else Ok (with_value flag value given)

-- an option whose value is the next word
abbrev pub option_before : Option Flag → Given → Result Given WordsFault
option_before None given = Err Refused
option_before (Some flag) given = if is_given flag given.settings then Err Refused else Ok (record given { due = Some flag })

-- `--name=VALUE` or `--name`
unfoldable pub option_word : Text → Given → Result Given WordsFault
option_word word given =
    if list_any is_equals word then option_with (flag_named (before_first is_equals word)) (after_first is_equals word) given
    else option_before (flag_named word) given

-- a word where an option's value is due, or none is
unfoldable pub word_before_end : Option Flag → Text → Given → Result Given WordsFault
word_before_end (Some flag) word given = if is_dashed word then Err Refused else Ok (with_value flag word given)
word_before_end None word given =
    if bytes_eq word (codes "--") then Ok (record given { ended = true })
    else if is_dashed word then option_word word given
    else Ok (with_word word given)

-- what is given with one word more
unfoldable pub with_argument : Given → Text → Result Given WordsFault
with_argument given word =
    if length word == 0 then Err Refused
    else if given.ended then Ok (with_word word given)
    else word_before_end given.due word given

abbrev pub nothing_given : Given
nothing_given = record { settings = []; due = None; ended = false; positionals = [] }

-- what words give, or that they are refused
abbrev pub arguments : List Text → Result Given WordsFault
arguments words = fold_result with_argument nothing_given words
