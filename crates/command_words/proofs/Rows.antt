-- The rows of a parse of the one form: one for each option, and one for the positional words where there are any.
use Rattle.std.proofs.Common.{◌≡◌, ◌∙◌, ap, sym, ◌||◌, ◌++◌, Bool, true, false, true≢false, cond, List, [], ◌∷◌, map, refl, append-nil, Option, None, Some, unwrap_or, find, slice_get, option_map, option_and_then, codes}
use Rattle.std.proofs.lemmas.List.{map-append}
use Rattle.std.specs.Str.{bytes_eq}
use Rattle.clap.specs.Walk.{Row, Text, all_of, at_row, first_of, has_row, more_values, with_values, without}
use Rattle.clap.specs.declared.builder.value_parser.Reading.TheVariants.{AsWritten}
use Rattle.clap.specs.declared.parser.matches.ValueSource.TheVariants.{CommandLine}
use Rattle.clap.proofs.WalkLemmas.{list_any-map}
use Rattle.command_words.specs.Arguments.{is_flag, is_given, name_of, value_of}
use Rattle.command_words.specs.declared.flag.Flag.{Flag}
use Rattle.command_words.specs.declared.flag.Flag.TheVariants.{Workers, Turns, Words, Only}
use Rattle.command_words.specs.declared.given.Setting.{Setting}

-- what the words gave for an id
abbrev pub row_for : Text → List Text → Row
row_for id values = record { id = id; values = values; count = None; source = Some CommandLine; reading = AsWritten }

abbrev pub option_row : Setting → Row
option_row setting = row_for (name_of setting.flag) (setting.value ∷ [])

abbrev pub positional_rows : List Text → List Row
positional_rows [] = []
positional_rows (word ∷ words) = row_for (codes "positionals") (word ∷ words) ∷ []

abbrev pub rows_of_form : List Setting → List Text → List Row
rows_of_form settings positionals = map option_row settings ++ positional_rows positionals

-- no option is called as the positional words are
other_name : (flag : Flag) → bytes_eq (name_of flag) (codes "positionals") ≡ false
other_name Workers = refl
other_name Turns = refl
other_name Words = refl
other_name Only = refl

pub no_positionals : (settings : List Setting) → has_row (codes "positionals") (map option_row settings) ≡ false
no_positionals [] = refl
no_positionals (s ∷ settings) = ap (λ b. b || has_row (codes "positionals") (map option_row settings)) (other_name s.flag) ∙ no_positionals settings

pub no_option : (flag : Flag) (settings : List Setting) → is_given flag settings ≡ false → has_row (name_of flag) (map option_row settings) ≡ false
no_option flag settings new = sym (list_any-map (λ (r : Row). bytes_eq r.id (name_of flag)) option_row settings) ∙ new

neither : (a b : Bool) → (a || b) ≡ false → (a ≡ false) × (b ≡ false)
neither true b e = absurd (true≢false e)
neither false b e = (refl, e)

-- a change looks past rows of other ids
at_row-after : (id : Text) (change : Row → List Row) (missing : List Row) (rows more : List Row) → has_row id rows ≡ false
    → at_row id change missing (rows ++ more) ≡ rows ++ at_row id change missing more
at_row-after id change missing [] more none = refl
at_row-after id change missing (r ∷ rows) more none =
    let parts = neither (bytes_eq r.id id) (has_row id rows) none in
    ap (λ b. cond b (change r ++ (rows ++ more)) (r ∷ at_row id change missing (rows ++ more))) parts.0
    ∙ ap (λ rs. r ∷ rs) (at_row-after id change missing rows more parts.1)

at_row-end : (id : Text) (change : Row → List Row) (missing : List Row) (rows : List Row) → has_row id rows ≡ false
    → at_row id change missing rows ≡ rows ++ missing
at_row-end id change missing rows none = ap (at_row id change missing) (sym (append-nil rows)) ∙ at_row-after id change missing rows [] none

-- an option that was not yet used gets its row at the end
pub new_option : (before : List Setting) (setting : Setting) → is_given setting.flag before ≡ false
    → with_values (name_of setting.flag) AsWritten CommandLine (setting.value ∷ []) (without (name_of setting.flag) (map option_row before))
    ≡ map option_row (before ++ setting ∷ [])
new_option before setting new =
    let id : Text = name_of setting.flag in
    let none = no_option setting.flag before new in
    ap (with_values id AsWritten CommandLine (setting.value ∷ [])) (at_row-end id (λ _. []) [] (map option_row before) none ∙ append-nil (map option_row before))
    ∙ at_row-end id (more_values CommandLine (setting.value ∷ [])) (row_for id (setting.value ∷ []) ∷ []) (map option_row before) none
    ∙ sym (map-append option_row before (setting ∷ []))

more_words : (words : List Text) (word : Text) → with_values (codes "positionals") AsWritten CommandLine (word ∷ []) (positional_rows words) ≡ positional_rows (words ++ word ∷ [])
more_words [] word = refl
more_words (x ∷ words) word = refl

-- one more positional word joins the others
pub new_positional : (rows : List Row) (words : List Text) (word : Text) → has_row (codes "positionals") rows ≡ false
    → with_values (codes "positionals") AsWritten CommandLine (word ∷ []) (rows ++ positional_rows words) ≡ rows ++ positional_rows (words ++ word ∷ [])
new_positional rows words word none =
    at_row-after (codes "positionals") (more_values CommandLine (word ∷ [])) (row_for (codes "positionals") (word ∷ []) ∷ []) rows (positional_rows words) none
    ∙ ap (λ rs. rows ++ rs) (more_words words word)

-- ---- what the rows give

no_value : (flag : Flag) (words : List Text) → first_of (name_of flag) (positional_rows words) ≡ None
no_value flag [] = refl
no_value Workers (x ∷ words) = refl
no_value Turns (x ∷ words) = refl
no_value Words (x ∷ words) = refl
no_value Only (x ∷ words) = refl

pub value_in_rows : (settings : List Setting) (positionals : List Text) (flag : Flag) → first_of (name_of flag) (rows_of_form settings positionals) ≡ value_of settings flag
value_in_rows [] positionals flag = no_value flag positionals
value_in_rows (s ∷ settings) positionals flag = go (is_flag s.flag flag) (value_in_rows settings positionals flag)
  where
    rest : Option Row
    rest = find (λ (r : Row). bytes_eq r.id (name_of flag)) (rows_of_form settings positionals)

    others : Option Setting
    others = find (λ (setting : Setting). is_flag setting.flag flag) settings

    go : (b : Bool) → option_and_then (λ (r : Row). slice_get r.values 0) rest ≡ option_map (λ (setting : Setting). setting.value) others
        → option_and_then (λ (r : Row). slice_get r.values 0) (cond b (Some (option_row s)) rest) ≡ option_map (λ (setting : Setting). setting.value) (cond b (Some s) others)
    go true e = refl
    go false e = e

pub positionals_in_rows : (settings : List Setting) (positionals : List Text) → unwrap_or (all_of (codes "positionals") (rows_of_form settings positionals)) [] ≡ positionals
positionals_in_rows [] [] = refl
positionals_in_rows [] (x ∷ positionals) = refl
positionals_in_rows (s ∷ settings) positionals =
    ap (λ b. unwrap_or (option_map (λ (r : Row). r.values) (cond b (Some (option_row s)) (find (λ (r : Row). bytes_eq r.id (codes "positionals")) (rows_of_form settings positionals)))) [])
    (other_name s.flag)
    ∙ positionals_in_rows settings positionals
