-- What stands once words are judged: each option once, with a value that the command takes.
use Rattle.std.proofs.Common.{◌≡◌, ap, sym, subst, ◌&&◌, ◌^◌, ◌<◌, ◌≤◌, length, map, slice_index_or, Bor, Bool, true, false, true≢false, cond, List, [], ◌∷◌, refl, ◌∙◌, arith, Option, None, Some, Ok, Err, IfSome, Result, is_ok, is_some, find, option_map, if◌then◌else◌}
use Rattle.std.specs.List.{list_all}
use Rattle.std.specs.Result.{result_unwrap_or}
use Rattle.command_words.specs.Arguments.{Text, arguments, is_flag, value_of}
use Rattle.command_words.specs.Commands.{are_job_words, are_positionals, is_setting, judged, judged_as}
use Rattle.command_words.specs.Parsing.{AreValues, IsAccepted, IsSmall, takes_number}
use Rattle.command_words.specs.Verbs.{has_option, is_number, is_number_in, is_value, verb_named}
use Rattle.command_words.specs.declared.command.WordsFault.{WordsFault}
use Rattle.command_words.specs.declared.command.WordsFault.TheVariants.{Refused}
use Rattle.command_words.specs.declared.flag.Flag.{Flag}
use Rattle.command_words.specs.declared.flag.Flag.TheVariants.{Workers, Turns, Words, Only}
use Rattle.command_words.specs.declared.given.Setting.{Setting}
use Rattle.command_words.specs.declared.given.Given.{Given}
use Rattle.command_words.specs.declared.verb.Verb.{Verb}
use Rattle.command_words.proofs.Fullness.{is_given_by}

both : (a b : Bool) → (a && b) ≡ true → (a ≡ true) × (b ≡ true)
both true b e = (refl, e)
both false b e = absurd (true≢false (sym e))

refused_not : {X : Type 0} (verb : Verb) → ◌≡◌ {A = Result Verb WordsFault} (Err Refused) (Ok verb) → X
refused_not verb e = absurd (true≢false (sym (ap is_ok e)))

abbrev Takes : Given → Verb → Type 0
Takes given verb = (list_all (is_setting verb) given.settings ≡ true) × (are_positionals verb given.positionals ≡ true)

taken_by : (t : Bool) (known verb : Verb) (given : Given) → (list_all (is_setting known) given.settings && are_positionals known given.positionals) ≡ t
    → ◌≡◌ {A = Result Verb WordsFault} (if t then Ok known else Err Refused) (Ok verb) → Takes given verb
taken_by true known verb given t e = subst (Takes given) (ap (λ (r : Result Verb WordsFault). result_unwrap_or r known) e) (both _ _ t)
taken_by false known verb given t e = refused_not verb e

judged_takes : (b : Bool) (o : Option Verb) (given : Given) (verb : Verb)
    → ◌≡◌ {A = Result Verb WordsFault} (if b then Err Refused else judged_as o given) (Ok verb) → Takes given verb
judged_takes true o given verb e = refused_not verb e
judged_takes false None given verb e = refused_not verb e
judged_takes false (Some known) given verb e = taken_by _ known verb given refl e

pub is_accepted : (rest : List Text) (word : Text) (given : Given) (verb : Verb) → arguments rest ≡ Ok given → judged word given ≡ Ok verb → IsAccepted verb given
unfolding judged
is_accepted rest word given verb e j =
    let parts = judged_takes (is_some given.due) (verb_named word) given verb j in
    record { once = (is_given_by rest given e).once; settings = parts.0; positionals = parts.1 }

-- ---- values

same_flag : (a b : Flag) → is_flag a b ≡ true → a ≡ b
same_flag Workers Workers e = refl
same_flag Workers Turns e = absurd (true≢false (sym e))
same_flag Workers Words e = absurd (true≢false (sym e))
same_flag Workers Only e = absurd (true≢false (sym e))
same_flag Turns Workers e = absurd (true≢false (sym e))
same_flag Turns Turns e = refl
same_flag Turns Words e = absurd (true≢false (sym e))
same_flag Turns Only e = absurd (true≢false (sym e))
same_flag Words Workers e = absurd (true≢false (sym e))
same_flag Words Turns e = absurd (true≢false (sym e))
same_flag Words Words e = refl
same_flag Words Only e = absurd (true≢false (sym e))
same_flag Only Workers e = absurd (true≢false (sym e))
same_flag Only Turns e = absurd (true≢false (sym e))
same_flag Only Words e = absurd (true≢false (sym e))
same_flag Only Only e = refl

pub are_values : (verb : Verb) (settings : List Setting) → list_all (is_setting verb) settings ≡ true → AreValues (value_of settings)
are_values verb [] all flag = tt
are_values verb (s ∷ settings) all flag =
    let parts = both (is_setting verb s) (list_all (is_setting verb) settings) all in
    let value = both (has_option verb s.flag) (is_value s.flag s.value) parts.0 in
    go (is_flag s.flag flag) refl value.1 (are_values verb settings parts.1 flag)
  where
    go : (b : Bool) → is_flag s.flag flag ≡ b → is_value s.flag s.value ≡ true → IfSome (value_of settings flag) (λ text. is_value flag text ≡ true)
        → IfSome (option_map (λ (setting : Setting). setting.value) (cond b (Some s) (find (λ (setting : Setting). is_flag setting.flag flag) settings))) (λ text. is_value flag text ≡ true)
    go true same value rest = subst (λ f. is_value f s.value ≡ true) (same_flag s.flag flag same) value
    go false same value rest = rest

-- ---- numbers

in_range_small : (low high : _) (text : Text) → high < 2 ^ 32 → is_number_in low high text ≡ true → IsSmall text
unfolding is_number_in
in_range_small low high text few e =
    let parts = both (is_number text) _ e in
    (parts.0, grind arith)

value_small : (flag : Flag) (text : Text) → takes_number flag ≡ true → is_value flag text ≡ true → IsSmall text
value_small Workers text number e = in_range_small _ _ text (omega arith) e
value_small Turns text number e = in_range_small _ _ text (omega arith) e
value_small Words text number e = in_range_small _ _ text (omega arith) e
value_small Only text number e = absurd (true≢false (sym number))

pub known_small : (values : Flag → Option Text) (flag : Flag) (digits : Text) → AreValues values → takes_number flag ≡ true → Some digits ≡ values flag → IsSmall digits
known_small values flag digits all number known = value_small flag digits number (subst (λ o. IfSome o (λ text. is_value flag text ≡ true)) (sym known) (all flag))

job_words_small : (seed points : Text) → are_job_words (seed ∷ points ∷ []) ≡ true → IsSmall seed × IsSmall points
job_words_small seed points e =
    let parts = both _ _ e in
    (in_range_small _ _ seed (omega arith) parts.0, in_range_small _ _ points (omega arith) parts.1)

-- the two words of a job
pub both_small : (words : List (Bor Text)) (known : List Text) (d e : Bor Text) → 2 ≤ length words → length words < 3 → map (λ (word : Bor Text). word.now) words ≡ known
    → are_job_words known ≡ true → IsSmall (slice_index_or words 0 d).now × IsSmall (slice_index_or words 1 e).now
both_small [] known d e least most same ok = absurd (omega arith)
both_small (x ∷ []) known d e least most same ok = absurd (omega arith)
both_small (x ∷ y ∷ []) known d e least most same ok = job_words_small x.now y.now (ap are_job_words same ∙ ok)
both_small (x ∷ y ∷ z ∷ words) known d e least most same ok = absurd (omega arith)
