-- The form states what was given.
use Rattle.std.proofs.Common.{◌≡◌, ◌∙◌, ap, sym, ◌==◌, ◌++◌, ℕ, true, false, List, [], ◌∷◌, length, map, refl, append_assoc, append-nil, Option, None, Some, is_some, if◌then◌else◌, arith}
use Rattle.std.specs.Prelude.{Result, Ok, Err, codes}
use Rattle.vocabulary.specs.Answers.{◌>>=◌, fold_result}
use Rattle.command_words.specs.Arguments.{Text, flag_named, is_dashed, is_given, option_word, word_before_end, with_argument, nothing_given, arguments, value_of}
use Rattle.command_words.specs.Commands.{command_of, judged, judged_as, stated}
use Rattle.command_words.specs.Form.{option_form, laid_out, FormLaw}
use Rattle.command_words.specs.Parsing.{Once}
use Rattle.command_words.specs.declared.command.WordsFault.{WordsFault}
use Rattle.command_words.specs.Verbs.{verb_named}
use Rattle.command_words.specs.declared.command.WordsFault.TheVariants.{Refused}
use Rattle.command_words.specs.declared.flag.Flag.{Flag}
use Rattle.command_words.specs.declared.flag.Flag.TheVariants.{Workers, Turns, Words, Only}
use Rattle.command_words.specs.declared.given.Setting.{Setting}
use Rattle.command_words.specs.declared.given.Given.{Given}
use Rattle.command_words.specs.declared.verb.Verb.{Verb}
use Rattle.command_words.proofs.Fullness.{Full, AllFull, HaveValues, IsGiven, is_given_by}

-- words that are appended one list after another
pub in_order : (word dashes : Text) (options positionals second third fourth : List Text) → second ≡ (word ∷ []) ++ options
    → third ≡ second ++ dashes ∷ [] → fourth ≡ third ++ positionals → fourth ≡ word ∷ (options ++ dashes ∷ positionals)
in_order word dashes options positionals second third fourth e f g =
    g ∙ ap (λ l. l ++ positionals) (f ∙ ap (λ l. l ++ dashes ∷ []) e) ∙ append_assoc (word ∷ options) (dashes ∷ []) positionals

abbrev fold : Given → List Text → Result Given WordsFault
fold g words = fold_result with_argument g words

next : (g after : Given) (word : Text) (rest : List Text) → with_argument g word ≡ Ok after → fold g (word ∷ rest) ≡ fold after rest
next g after word rest e = ap (λ (r : Result Given WordsFault). r >>= λ n. fold n rest) e

cons_full : (x : ℕ) (xs : Text) → (length (x ∷ xs) == 0) ≡ false
cons_full x xs = grind arith

cons_dashed : (x : ℕ) (xs : Text) → is_dashed (45 ∷ x ∷ xs) ≡ true
cons_dashed x xs = grind arith

abbrev options : List Setting → Given
options settings = record nothing_given { settings = settings }

abbrev setting_of : Flag → Text → Setting
setting_of flag value = record { flag = flag; value = value }

option_read : (flag : Flag) (v : Text) (before : List Setting) → is_given flag before ≡ false → Full v
    → with_argument (options before) (option_form (setting_of flag v)) ≡ Ok (options (before ++ setting_of flag v ∷ []))
unfolding with_argument word_before_end option_word flag_named
option_read Workers v before new full =
    let long : (length (codes "--workers" ++ codes "=" ++ v) == 0) ≡ false = cons_full 45 (codes "-workers" ++ codes "=" ++ v) in
    let dashed : is_dashed (codes "--workers" ++ codes "=" ++ v) ≡ true = cons_dashed 45 (codes "workers" ++ codes "=" ++ v) in
    rw (full, new, long, dashed) refl
option_read Turns v before new full =
    let long : (length (codes "--turns" ++ codes "=" ++ v) == 0) ≡ false = cons_full 45 (codes "-turns" ++ codes "=" ++ v) in
    let dashed : is_dashed (codes "--turns" ++ codes "=" ++ v) ≡ true = cons_dashed 45 (codes "turns" ++ codes "=" ++ v) in
    rw (full, new, long, dashed) refl
option_read Words v before new full =
    let long : (length (codes "--words" ++ codes "=" ++ v) == 0) ≡ false = cons_full 45 (codes "-words" ++ codes "=" ++ v) in
    let dashed : is_dashed (codes "--words" ++ codes "=" ++ v) ≡ true = cons_dashed 45 (codes "words" ++ codes "=" ++ v) in
    rw (full, new, long, dashed) refl
option_read Only v before new full =
    let long : (length (codes "--only" ++ codes "=" ++ v) == 0) ≡ false = cons_full 45 (codes "-only" ++ codes "=" ++ v) in
    let dashed : is_dashed (codes "--only" ++ codes "=" ++ v) ≡ true = cons_dashed 45 (codes "only" ++ codes "=" ++ v) in
    rw (full, new, long, dashed) refl

options_form : (before settings : List Setting) (rest : List Text) → Once before settings → HaveValues settings
    → fold (options before) (map option_form settings ++ rest) ≡ fold (options (before ++ settings)) rest
options_form before [] rest once full = ap (λ l. fold (options l) rest) (sym (append-nil before))
options_form before (s ∷ settings) rest once full =
    next (options before) (options (before ++ s ∷ [])) (option_form s) (map option_form settings ++ rest) (option_read s.flag s.value before once.0 full.0)
    ∙ options_form (before ++ s ∷ []) settings rest once.1 full.1
    ∙ ap (λ l. fold (options l) rest) (append_assoc before (s ∷ []) settings)

abbrev ended : List Setting → List Text → Given
ended settings words = record nothing_given { settings = settings; ended = true; positionals = words }

end_word : (settings : List Setting) → with_argument (options settings) (codes "--") ≡ Ok (ended settings [])
unfolding with_argument word_before_end
end_word settings = refl

positional_word : (settings : List Setting) (words : List Text) (word : Text) → Full word
    → with_argument (ended settings words) word ≡ Ok (ended settings (words ++ word ∷ []))
unfolding with_argument
positional_word settings words word full = rw full refl

positionals_form : (settings : List Setting) (before words : List Text) → AllFull words
    → fold (ended settings before) words ≡ Ok (ended settings (before ++ words))
positionals_form settings before [] all = ap (λ l. Ok (ended settings l)) (sym (append-nil before))
positionals_form settings before (word ∷ words) all =
    next (ended settings before) (ended settings (before ++ word ∷ [])) word words (positional_word settings before word all.0)
    ∙ positionals_form settings (before ++ word ∷ []) words all.1
    ∙ ap (λ l. Ok (ended settings l)) (append_assoc before (word ∷ []) words)

form_gives : (g : Given) → IsGiven g → arguments (laid_out g) ≡ Ok (ended g.settings g.positionals)
form_gives g k =
    options_form [] g.settings (codes "--" ∷ g.positionals) k.once k.values
    ∙ next (options g.settings) (ended g.settings []) (codes "--") g.positionals (end_word g.settings)
    ∙ positionals_form g.settings [] g.positionals k.positionals

same_judged : (verb : Option Verb) (g : Given) → judged_as verb (ended g.settings g.positionals) ≡ judged_as verb g
same_judged None g = refl
same_judged (Some verb) g = refl

same_command : (word : Text) (g : Given) → g.due ≡ None → command_of word (ended g.settings g.positionals) ≡ command_of word g
unfolding command_of judged
same_command word g none =
    ap (λ (r : Result Verb WordsFault). r >>= λ verb. stated verb (value_of g.settings) g.positionals)
    (same_judged (verb_named word) g
    ∙ sym (ap (λ (due : Option Flag). if is_some due then Err Refused else judged_as (verb_named word) g) none))

pub form_law : FormLaw
form_law word words g e none =
    ap (λ (r : Result Given WordsFault). r >>= λ n. command_of word n) (form_gives g (is_given_by words g e)) ∙ same_command word g none
    ∙ sym (ap (λ (r : Result Given WordsFault). r >>= λ n. command_of word n) e)
