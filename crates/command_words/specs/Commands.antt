-- Which command words state.
use Rattle.std.specs.Prelude.{ℕ, Bool, false, ◌&&◌, List, [], ◌∷◌, length, nat_lt, Option, None, Some, is_some, Result, Ok, Err, if◌then◌else◌}
use Rattle.std.specs.List.{list_all}
use Rattle.std.specs.Str.Parse.{digits_value}
use Rattle.vocabulary.specs.Answers.{◌>>=◌}
use Rattle.job_maker.specs.declared.made.TheConstants.{MOST_POINTS}
use Rattle.command_words.specs.Arguments.{Text, arguments, value_of}
use Rattle.command_words.specs.Verbs.{has_option, is_number_in, is_value, verb_named}
use Rattle.command_words.specs.declared.number.TheConstants.{DEFAULT_TURNS, DEFAULT_WORKERS, MOST_HELD_WORDS, MOST_SEED}
use Rattle.command_words.specs.declared.command.Words.{Words}
use Rattle.command_words.specs.declared.command.Words.TheVariants as words
use Rattle.command_words.specs.declared.command.WordsFault.{WordsFault}
use Rattle.command_words.specs.declared.command.WordsFault.TheVariants.{Refused}
use Rattle.command_words.specs.declared.flag.Flag.{Flag}
use Rattle.command_words.specs.declared.flag.Flag.TheVariants as flags
use Rattle.command_words.specs.declared.given.Setting.{Setting}
use Rattle.command_words.specs.declared.given.Given.{Given}
use Rattle.command_words.specs.declared.verb.Verb.{Verb}
use Rattle.command_words.specs.declared.verb.Verb.TheVariants.{Run, Plan, Plain, Make}

-- ---- which words are refused

-- whether a command takes the option with its value
abbrev pub is_setting : Verb → Setting → Bool
is_setting verb setting = has_option verb setting.flag && is_value setting.flag setting.value

-- a seed and a number of points
abbrev pub are_job_words : List Text → Bool
are_job_words [] = false
are_job_words (seed ∷ []) = false
are_job_words (seed ∷ points ∷ []) = is_number_in 0 MOST_SEED seed && is_number_in 1 MOST_POINTS points
are_job_words (seed ∷ points ∷ more ∷ rest) = false

-- whether a command takes the positional words: a program and any number of sets, or those of a job
abbrev pub are_positionals : Verb → List Text → Bool
are_positionals Run positionals = nat_lt 0 (length positionals)
are_positionals Plan positionals = nat_lt 0 (length positionals)
are_positionals Plain positionals = nat_lt 0 (length positionals)
are_positionals Make positionals = are_job_words positionals

abbrev pub judged_as : Option Verb → Given → Result Verb WordsFault
judged_as None given = Err Refused
judged_as (Some verb) given =
    if list_all (is_setting verb) given.settings && are_positionals verb given.positionals then Ok verb else Err Refused

-- the command that is asked for, where it takes all that is given; an option whose value is due at the end is refused
unfoldable pub judged : Text → Given → Result Verb WordsFault
judged word given = if is_some given.due then Err Refused else judged_as (verb_named word) given

-- ---- what the others state

-- the number that an option's value writes, or its default
abbrev pub number_or : ℕ → Option Text → ℕ
number_or default None = default
number_or default (Some digits) = digits_value 10 digits

abbrev pub workers_in : (Flag → Option Text) → ℕ
workers_in values = number_or DEFAULT_WORKERS (values flags.Workers)

abbrev pub turns_in : (Flag → Option Text) → ℕ
turns_in values = number_or DEFAULT_TURNS (values flags.Turns)

abbrev pub held_words_in : (Flag → Option Text) → ℕ
held_words_in values = number_or MOST_HELD_WORDS (values flags.Words)

-- `run PROGRAM SETS..`
abbrev pub run_of : (Flag → Option Text) → List Text → Result Words WordsFault
run_of values [] = Err Refused
run_of values (program ∷ sets) = Ok (words.Run program sets (workers_in values) (turns_in values) (held_words_in values) (values flags.Only))

-- `plan PROGRAM SETS..`
abbrev pub plan_of : (Flag → Option Text) → List Text → Result Words WordsFault
plan_of values [] = Err Refused
plan_of values (program ∷ sets) = Ok (words.Plan program sets (held_words_in values))

-- `plain PROGRAM SETS..`
abbrev pub plain_of : (Flag → Option Text) → List Text → Result Words WordsFault
plain_of values [] = Err Refused
plain_of values (program ∷ sets) = Ok (words.Plain program sets (turns_in values) (values flags.Only))

-- `make SEED N`
abbrev pub make_of : (Flag → Option Text) → List Text → Result Words WordsFault
make_of values [] = Err Refused
make_of values (seed ∷ []) = Err Refused
make_of values (seed ∷ points ∷ []) = Ok (words.Make (digits_value 10 seed) (digits_value 10 points) (workers_in values))
make_of values (seed ∷ points ∷ more ∷ rest) = Err Refused

-- the command, with the values of its options and its positional words
abbrev pub stated : Verb → (Flag → Option Text) → List Text → Result Words WordsFault
stated Run values positionals = run_of values positionals
stated Plan values positionals = plan_of values positionals
stated Plain values positionals = plain_of values positionals
stated Make values positionals = make_of values positionals

-- the command of a first word and of what the words after it give
unfoldable pub command_of : Text → Given → Result Words WordsFault
command_of word given = judged word given >>= λ verb. stated verb (value_of given.settings) given.positionals

-- the command that words state, or that they are refused
abbrev pub words_of : List Text → Result Words WordsFault
words_of [] = Err Refused
words_of (word ∷ rest) = arguments rest >>= λ given. command_of word given
