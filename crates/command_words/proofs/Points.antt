-- The points of a made job that words state.
use Rattle.std.proofs.Common.{◌≡◌, ◌≤◌, ℕ, true, false, List, [], ◌∷◌, Option, None, Some, Result, Ok, Err, refl, arith}
use Rattle.std.specs.Prelude.{Bool, ◌&&◌, nat_le, is_some, IfOk, if◌then◌else◌}
use Rattle.std.specs.List.{list_all}
use Rattle.std.specs.Str.Parse.{digits_value}
use Rattle.std.proofs.lemmas.Bool.Decides.{nat_tests}
use Rattle.vocabulary.specs.Answers.{Answers, ◌>>=◌}
use Rattle.job_maker.specs.declared.made.TheConstants.{MOST_POINTS}
use Rattle.command_words.specs.Arguments.{Text, arguments, value_of}
use Rattle.command_words.specs.Commands.{are_positionals, command_of, held_words_in, is_setting, judged, judged_as, stated, turns_in, words_of, workers_in}
use Rattle.command_words.specs.Verbs.{is_number, is_number_in, verb_named}
use Rattle.command_words.specs.declared.command.Words.{Words}
use Rattle.command_words.specs.declared.command.Words.TheVariants as command
use Rattle.command_words.specs.declared.command.WordsFault.{WordsFault}
use Rattle.command_words.specs.declared.command.WordsFault.TheVariants as fault
use Rattle.command_words.specs.declared.flag.Flag.{Flag}
use Rattle.command_words.specs.declared.flag.Flag.TheVariants as flags
use Rattle.command_words.specs.declared.number.TheConstants.{MOST_SEED}
use Rattle.command_words.specs.declared.given.Given.{Given}
use Rattle.command_words.specs.declared.verb.Verb.{Verb}
use Rattle.command_words.specs.declared.verb.Verb.TheVariants.{Run, Plan, Plain, Make}
use Rattle.command_words.specs.Job.{HasPoints}

both-true : (a b : Bool) → (a && b) ≡ true → (a ≡ true) × (b ≡ true)
both-true true b is = (refl, is)
both-true false b is = cc is

-- a number in a range lies in it
in-range : (low high : ℕ) (digits : Text) → is_number_in low high digits ≡ true → (low ≤ digits_value 10 digits) × (digits_value 10 digits ≤ high)
unfolding is_number_in
in-range low high digits is =
    let value = digits_value 10 digits in
    let p = both-true (is_number digits) (nat_le low value && nat_le value high) is in
    let q = both-true (nat_le low value) (nat_le value high) p.1 in
    (grind (arith, nat_tests, q.0), grind (arith, nat_tests, q.1))

-- a verb where both hold
abbrev choice : Bool → Bool → Verb → Result Verb WordsFault
choice settings positionals named = if settings && positionals then Ok named else Err fault.Refused

abbrev given-by : Words → Result Words WordsFault
given-by words = Ok words

-- a verb that is judged takes the positional words
taken : (named : Option Verb) (given : Given) (verb : Verb) → judged_as named given ≡ Ok verb → are_positionals verb given.positionals ≡ true
taken None given verb is = cc is
taken (Some named) given verb is = at (list_all (is_setting named) given.settings) (are_positionals named given.positionals) refl is
  where
    at : (settings positionals : Bool) → are_positionals named given.positionals ≡ positionals → choice settings positionals named ≡ Ok verb → are_positionals verb given.positionals ≡ true
    at true true p q = let same : named ≡ verb = cc q in rw (← same) p
    at true false p q = cc q
    at false positionals p q = cc q

-- what a command states of a job has as many points as its positional words say
of-job : (values : Flag → Option Text) (positionals : List Text) (words : Words) → are_positionals Make positionals ≡ true → stated Make values positionals ≡ Ok words → HasPoints words
of-job values [] words are is = cc is
of-job values (seed ∷ []) words are is = cc is
of-job values (seed ∷ points ∷ []) words are is =
    let same : command.Make (digits_value 10 seed) (digits_value 10 points) (workers_in values) ≡ words = cc is in
    let p = both-true (is_number_in 0 MOST_SEED seed) (is_number_in 1 MOST_POINTS points) are in
    rw (← same) (in-range 1 MOST_POINTS points p.1)
of-job values (seed ∷ points ∷ more ∷ rest) words are is = cc is

of-verb : (verb : Verb) (values : Flag → Option Text) (positionals : List Text) (words : Words) → are_positionals verb positionals ≡ true → stated verb values positionals ≡ Ok words → HasPoints words
of-verb Run values [] words are is = cc is
of-verb Run values (program ∷ sets) words are is = at words is
  where
    at : (words : Words) → given-by (command.Run program sets (workers_in values) (turns_in values) (held_words_in values) (values flags.Only)) ≡ Ok words → HasPoints words
    at (command.Run a b c d e f) q = tt
    at (command.Plan a b c) q = cc q
    at (command.Plain a b c d) q = cc q
    at (command.Make a b c) q = cc q
of-verb Plan values [] words are is = cc is
of-verb Plan values (program ∷ sets) words are is = at words is
  where
    at : (words : Words) → given-by (command.Plan program sets (held_words_in values)) ≡ Ok words → HasPoints words
    at (command.Run a b c d e f) q = cc q
    at (command.Plan a b c) q = tt
    at (command.Plain a b c d) q = cc q
    at (command.Make a b c) q = cc q
of-verb Plain values [] words are is = cc is
of-verb Plain values (program ∷ sets) words are is = at words is
  where
    at : (words : Words) → given-by (command.Plain program sets (turns_in values) (values flags.Only)) ≡ Ok words → HasPoints words
    at (command.Run a b c d e f) q = cc q
    at (command.Plan a b c) q = cc q
    at (command.Plain a b c d) q = tt
    at (command.Make a b c) q = cc q
of-verb Make values positionals words are is = of-job values positionals words are is

of-judged : (given : Given) (verdict : Result Verb WordsFault) → ((verb : Verb) → verdict ≡ Ok verb → are_positionals verb given.positionals ≡ true) → (words : Words)
    → (verdict >>= λ verb. stated verb (value_of given.settings) given.positionals) ≡ Ok words → HasPoints words
of-judged given (Ok verb) takes words is = of-verb verb (value_of given.settings) given.positionals words (takes verb refl) is
of-judged given (Err fault) takes words is = cc is

judged-takes : (word : Text) (given : Given) (verb : Verb) → judged word given ≡ Ok verb → are_positionals verb given.positionals ≡ true
unfolding judged
judged-takes word given verb is = at (is_some given.due) is
  where
    at : (due : Bool) → (if due then Err fault.Refused else judged_as (verb_named word) given) ≡ Ok verb → are_positionals verb given.positionals ≡ true
    at true q = cc q
    at false q = taken (verb_named word) given verb q

of-given : (word : Text) (all : Result Given WordsFault) (words : Words) → (all >>= λ given. command_of word given) ≡ Ok words → HasPoints words
unfolding command_of
of-given word (Ok given) words is = of-judged given (judged word given) (judged-takes word given) words is
of-given word (Err fault) words is = cc is

-- a made job that words state has as many points as may be asked for
pub has_points : (texts : List Text) (words : Words) → words_of texts ≡ Ok words → HasPoints words
has_points [] words is = cc is
has_points (word ∷ rest) words is = of-given word (arguments rest) words is

pub of_answer : (texts : List Text) (result : Result Words WordsFault) → Answers fault.Memory (words_of texts) result → IfOk result HasPoints
of_answer texts (Ok words) is = has_points texts words is
of_answer texts (Err reason) is = tt
