-- The first words, and which options and values each takes.
use Rattle.std.specs.Prelude.{ℕ, Bool, true, false, ◌&&◌, length, nat_lt, nat_le, Option, None, Some, if◌then◌else◌, codes}
use Rattle.std.specs.List.{list_all}
use Rattle.std.specs.Str.{bytes_eq}
use Rattle.std.specs.Str.Parse.{digits_value}
use Rattle.command_words.specs.Arguments.{Text}
use Rattle.command_words.specs.declared.flag.Flag.{Flag}
use Rattle.command_words.specs.declared.flag.Flag.TheVariants.{Workers, Turns, Words, Only}
use Rattle.command_words.specs.declared.number.TheConstants.{MOST_HELD_WORDS, MOST_TURNS, MOST_WORKERS}
use Rattle.command_words.specs.declared.verb.Verb.{Verb}
use Rattle.command_words.specs.declared.verb.Verb.TheVariants.{Run, Plan, Plain, Make}

abbrev pub word_of : Verb → Text
word_of Run = codes "run"
word_of Plan = codes "plan"
word_of Plain = codes "plain"
word_of Make = codes "make"

unfoldable pub verb_named : Text → Option Verb
verb_named word =
    if bytes_eq word (codes "run") then Some Run
    else if bytes_eq word (codes "plan") then Some Plan
    else if bytes_eq word (codes "plain") then Some Plain
    else if bytes_eq word (codes "make") then Some Make
    else None

-- the options of each command
abbrev pub has_option : Verb → Flag → Bool
has_option Run Workers = true
has_option Run Turns = true
has_option Run Words = true
has_option Run Only = true
has_option Plan Workers = false
has_option Plan Turns = false
has_option Plan Words = true
has_option Plan Only = false
has_option Plain Workers = false
has_option Plain Turns = true
has_option Plain Words = false
has_option Plain Only = true
has_option Make Workers = true
has_option Make Turns = false
has_option Make Words = false
has_option Make Only = false

abbrev pub is_digit : ℕ → Bool
is_digit byte = nat_le 48 byte && nat_le byte 57

-- 1 to 10 digits
abbrev pub is_number : Text → Bool
is_number text = nat_lt 0 (length text) && (nat_le (length text) 10 && list_all is_digit text)

-- a number that lies in the range
unfoldable pub is_number_in : ℕ → ℕ → Text → Bool
is_number_in low high text = is_number text && (nat_le low (digits_value 10 text) && nat_le (digits_value 10 text) high)

-- whether the option takes the value
abbrev pub is_value : Flag → Text → Bool
is_value Workers text = is_number_in 1 MOST_WORKERS text
is_value Turns text = is_number_in 0 MOST_TURNS text
is_value Words text = is_number_in 0 MOST_HELD_WORDS text
is_value Only text = true
