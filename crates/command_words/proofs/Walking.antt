-- How the words of the one form are read, word by word: they pass, and give the rows of what was given.
use Rattle.std.proofs.Common.{◌≡◌, ◌∙◌, ap, sym, subst, ◌&&◌, ◌||◌, not, ◌++◌, Bool, true, false, true≢false, List, [], ◌∷◌, map, refl, append_assoc, append-nil, Option, None, Some, fold, codes}
use Rattle.std.specs.List.{list_all}
use Rattle.clap.specs.Simple.{Shape, filled, with_index}
use Rattle.clap.specs.Takes.{long_passes, positional_passes, settle_passes, step_passes, turn_passes, use_passes, walk_passes}
use Rattle.std.specs.Option.{option_map_or}
use Rattle.clap.specs.Walk.{Held, Row, Rule, Text, Walk, after_flag, after_step, arg_by_id, arg_by_index, arg_by_long, has_row, idle, long_met, nothing_held, positional, settled, to_positional, used_by_id, walk_from, walked, with_values}
use Rattle.clap.specs.declared.builder.value_parser.Reading.TheVariants.{AsWritten}
use Rattle.clap.specs.declared.parser.matches.ValueSource.TheVariants.{CommandLine}
use Rattle.command_words.specs.Arguments.{is_given, name_of}
use Rattle.command_words.specs.Commands.{is_setting}
use Rattle.command_words.specs.Form.{option_form}
use Rattle.command_words.specs.Parsing.{Once, option_rule, positional_rule}
use Rattle.command_words.specs.Verbs.{has_option, is_value}
use Rattle.command_words.specs.declared.flag.Flag.{Flag}
use Rattle.command_words.specs.declared.flag.Flag.TheVariants.{Workers, Turns, Words, Only}
use Rattle.command_words.specs.declared.given.Setting.{Setting}
use Rattle.command_words.specs.declared.verb.Verb.{Verb}
use Rattle.command_words.proofs.Rows.{new_option, new_positional, no_option, no_positionals, option_row, positional_rows, rows_of_form}

-- the two kinds of arguments, as a built command has them
abbrev pub built_option : Flag → Rule
built_option flag = filled (option_rule flag)

abbrev pub built_positional : Rule
built_positional = with_index 1 (filled positional_rule)

abbrev positionals : Text
positionals = codes "positionals"

-- the command finds its arguments
pub record HasArguments (s : Shape) (verb : Verb) : Type 0 where
  pub option : (flag : Flag) → has_option verb flag ≡ true → arg_by_long s.rules (name_of flag) ≡ Some (built_option flag)
  pub first : arg_by_index s.rules 1 ≡ Some built_positional
  pub words : arg_by_id s.rules positionals ≡ Some built_positional

pub both : (a b : Bool) → (a && b) ≡ true → (a ≡ true) × (b ≡ true)
both true b e = (refl, e)
both false b e = absurd (true≢false (sym e))

pub all_true : (a b : Bool) → a ≡ true → b ≡ true → (a && b) ≡ true
all_true true b e f = f
all_true false b e f = e

-- between two options
abbrev held : List Row → Held
held rows = record { rows = rows; pending = None; skip = 0 }

abbrev pub start : List Row → Walk
start rows = record { held = held rows; waiting = idle; position = 1; is_trailing = false; stopped = None }

-- after `--`
abbrev trailing : List Row → Walk
trailing rows = record { held = held rows; waiting = idle; position = 1; is_trailing = true; stopped = None }

-- after a positional word
abbrev waiting_held : List Row → Text → Held
waiting_held rows word = record { rows = rows; pending = Some (positionals, word ∷ []); skip = 0 }

abbrev after_word : List Row → Text → Walk
after_word rows word = record { held = waiting_held rows word; waiting = positional; position = 1; is_trailing = true; stopped = None }

abbrev setting_of : Flag → Text → Setting
setting_of flag v = record { flag = flag; value = v }

-- how a walk ends
pub record Ends (s : Shape) (w : Walk) (rows : List Row) : Type 0 where
  pub stopped : w.stopped ≡ None
  pub found : (settled s.rules w.held).rows ≡ rows
  pub passes : settle_passes s.rules s.args_override_self w.held ≡ true

abbrev pub form : List Setting → List Text → List Text
form settings words = map option_form settings ++ codes "--" ∷ words

module _ (s : Shape) (verb : Verb) (k : HasArguments s verb) where
  abbrev c : List Rule
  c = s.rules

  abbrev step : Walk → Text → Walk
  step = walked c []

  -- ---- an option

  abbrev met_option : Text → Text → List Row → Option Rule → Walk
  met_option word v rows o =
      let met = long_met c o (Some v) (held rows) in
      let done = after_flag c idle word met.0 met.1 in
      after_step c word (start rows) done.0 done.1

  option_step : (flag : Flag) (v : Text) (rows : List Row) → has_option verb flag ≡ true
      → step (start rows) (option_form (setting_of flag v)) ≡ met_option (option_form (setting_of flag v)) v rows (Some (built_option flag))
  unfolding walked
  option_step Workers v rows has = ap (met_option (option_form (setting_of Workers v)) v rows) (k.option Workers has)
  option_step Turns v rows has = ap (met_option (option_form (setting_of Turns v)) v rows) (k.option Turns has)
  option_step Words v rows has = ap (met_option (option_form (setting_of Words v)) v rows) (k.option Words has)
  option_step Only v rows has = ap (met_option (option_form (setting_of Only v)) v rows) (k.option Only has)

  option_next : (before : List Setting) (setting : Setting) → has_option verb setting.flag ≡ true → is_given setting.flag before ≡ false
      → step (start (map option_row before)) (option_form setting) ≡ start (map option_row (before ++ setting ∷ []))
  option_next before setting has new =
      option_step setting.flag setting.value (map option_row before) has ∙ ap start (new_option before setting new)

  abbrev option_test : Text → Text → List Row → Option Rule → Bool
  option_test word v rows o =
      let met = long_met c o (Some v) (held rows) in
      let done = after_flag c idle word met.0 met.1 in
      long_passes c s.args_override_self o (Some v) (held rows) && step_passes s 1 done.0 done.1

  abbrev use_test : Bool → Bool
  use_test used = not used || s.args_override_self

  option_turn : (flag : Flag) (v : Text) (rows : List Row) → has_option verb flag ≡ true
      → turn_passes s [] (start rows) (option_form (setting_of flag v)) ≡ option_test (option_form (setting_of flag v)) v rows (Some (built_option flag))
  option_turn Workers v rows has = ap (option_test (option_form (setting_of Workers v)) v rows) (k.option Workers has)
  option_turn Turns v rows has = ap (option_test (option_form (setting_of Turns v)) v rows) (k.option Turns has)
  option_turn Words v rows has = ap (option_test (option_form (setting_of Words v)) v rows) (k.option Words has)
  option_turn Only v rows has = ap (option_test (option_form (setting_of Only v)) v rows) (k.option Only has)

  option_passes : (word v : Text) (flag : Flag) (rows : List Row) → has_row (name_of flag) rows ≡ false
      → option_test word v rows (Some (built_option flag)) ≡ true
  option_passes word v flag rows none = ap (λ used. (use_test used && true) && true) none

  -- ---- all options

  options_walk : (before settings : List Setting) (rest : List Text) → list_all (is_setting verb) settings ≡ true → Once before settings
      → fold step (start (map option_row before)) (map option_form settings ++ rest) ≡ fold step (start (map option_row (before ++ settings))) rest
  options_walk before [] rest all once = ap (λ l. fold step (start (map option_row l)) rest) (sym (append-nil before))
  options_walk before (x ∷ settings) rest all once =
      let parts = both (is_setting verb x) (list_all (is_setting verb) settings) all in
      let has = both (has_option verb x.flag) (is_value x.flag x.value) parts.0 in
      ap (λ w. fold step w (map option_form settings ++ rest)) (option_next before x has.0 once.0)
      ∙ options_walk (before ++ x ∷ []) settings rest parts.1 once.1
      ∙ ap (λ l. fold step (start (map option_row l)) rest) (append_assoc before (x ∷ []) settings)

  options_pass : (before settings : List Setting) (rest : List Text) → list_all (is_setting verb) settings ≡ true → Once before settings
      → walk_passes s [] (start (map option_row (before ++ settings))) rest ≡ true
      → walk_passes s [] (start (map option_row before)) (map option_form settings ++ rest) ≡ true
  unfolding walk_passes
  options_pass before [] rest all once pass = subst (λ l. walk_passes s [] (start (map option_row l)) rest ≡ true) (append-nil before) pass
  options_pass before (x ∷ settings) rest all once pass =
      let parts = both (is_setting verb x) (list_all (is_setting verb) settings) all in
      let has = both (has_option verb x.flag) (is_value x.flag x.value) parts.0 in
      let rows : List Row = map option_row before in
      let turn : turn_passes s [] (start rows) (option_form x) ≡ true = option_turn x.flag x.value rows has.0
      ∙ option_passes (option_form x) x.value x.flag rows (no_option x.flag before once.0) in
      let tail : walk_passes s [] (start (map option_row (before ++ x ∷ []))) (map option_form settings ++ rest) ≡ true = options_pass (before ++ x ∷ []) settings rest parts.1 once.1
      (subst (λ l. walk_passes s [] (start (map option_row l)) rest ≡ true) (sym (append_assoc before (x ∷ []) settings)) pass) in
      all_true (turn_passes s [] (start rows) (option_form x)) (walk_passes s [] (step (start rows) (option_form x)) (map option_form settings ++ rest)) turn
      (subst (λ w. walk_passes s [] w (map option_form settings ++ rest) ≡ true) (sym (option_next before x has.0 once.0)) tail)

  -- ---- `--`

  dashes_step : (rows : List Row) → step (start rows) (codes "--") ≡ trailing rows
  unfolding walked
  dashes_step rows = refl

  -- ---- positional words

  first_step : (rows : List Row) (word : Text) → step (trailing rows) word ≡ after_word rows word
  unfolding walked
  first_step rows word = ap (λ o. to_positional c o word (trailing rows) (held rows)) k.first

  next_step : (rows : List Row) (word more : Text) → step (after_word rows word) more ≡ after_word (with_values positionals AsWritten CommandLine (word ∷ []) rows) more
  unfolding walked
  next_step rows word more =
      ap (λ o. to_positional c o more (after_word rows word) (waiting_held rows word)) k.first
      ∙ ap (λ o. after_word (used_by_id o (word ∷ []) rows) more) k.words

  abbrev again : Bool
  again = s.args_override_self

  waiting_passes : (rows : List Row) (word : Text) → settle_passes c again (waiting_held rows word) ≡ true
  waiting_passes rows word = ap (λ o. option_map_or (λ a. use_passes again a (word ∷ []) rows) o true) k.words

  first_turn : (rows : List Row) (word : Text) → turn_passes s [] (trailing rows) word ≡ true
  first_turn rows word = ap (λ o. option_map_or (λ a. positional_passes c again a (held rows)) o false) k.first

  next_turn : (rows : List Row) (word more : Text) → turn_passes s [] (after_word rows word) more ≡ true
  next_turn rows word more =
      ap (λ o. option_map_or (λ a. positional_passes c again a (waiting_held rows word)) o false) k.first ∙ waiting_passes rows word

  words_walk : (rows : List Row) (words : List Text) (word : Text) (rest : List Text) → has_row positionals rows ≡ false
      → Ends s (fold step (after_word (rows ++ positional_rows words) word) rest) (rows ++ positional_rows (words ++ word ∷ rest))
  words_walk rows words word [] none = record {
    stopped = refl;
    found = ap (λ o. used_by_id o (word ∷ []) (rows ++ positional_rows words)) k.words ∙ new_positional rows words word none;
    passes = waiting_passes (rows ++ positional_rows words) word;
  }
  words_walk rows words word (more ∷ rest) none =
      let next = next_step (rows ++ positional_rows words) word more ∙ ap (λ rs. after_word rs more) (new_positional rows words word none) in
      subst (λ w. Ends s (fold step w rest) (rows ++ positional_rows (words ++ word ∷ more ∷ rest))) (sym next)
      (subst (λ l. Ends s (fold step (after_word (rows ++ positional_rows (words ++ word ∷ [])) more) rest) (rows ++ positional_rows l))
      (append_assoc words (word ∷ []) (more ∷ rest)) (words_walk rows (words ++ word ∷ []) more rest none))

  words_pass : (rows : List Row) (word : Text) (rest : List Text) → walk_passes s [] (after_word rows word) rest ≡ true
  unfolding walk_passes
  words_pass rows word [] = refl
  words_pass rows word (more ∷ rest) =
      all_true (turn_passes s [] (after_word rows word) more) (walk_passes s [] (step (after_word rows word) more) rest) (next_turn rows word more)
      (subst (λ w. walk_passes s [] w rest ≡ true) (sym (next_step rows word more)) (words_pass (with_values positionals AsWritten CommandLine (word ∷ []) rows) more rest))

  trailing_walk : (rows : List Row) (words : List Text) → has_row positionals rows ≡ false → Ends s (fold step (trailing rows) words) (rows ++ positional_rows words)
  trailing_walk rows [] none = record { stopped = refl; found = sym (append-nil rows); passes = refl }
  trailing_walk rows (word ∷ words) none =
      subst (λ w. Ends s (fold step w words) (rows ++ positional_rows (word ∷ words)))
      (ap (λ rs. after_word rs word) (append-nil rows) ∙ sym (first_step rows word)) (words_walk rows [] word words none)

  trailing_pass : (rows : List Row) (words : List Text) → walk_passes s [] (trailing rows) words ≡ true
  unfolding walk_passes
  trailing_pass rows [] = refl
  trailing_pass rows (word ∷ words) =
      all_true (turn_passes s [] (trailing rows) word) (walk_passes s [] (step (trailing rows) word) words) (first_turn rows word)
      (subst (λ w. walk_passes s [] w words ≡ true) (sym (first_step rows word)) (words_pass rows word words))

  -- ---- the whole form

  pub form_walk : (settings : List Setting) (words : List Text) → list_all (is_setting verb) settings ≡ true → Once [] settings
      → Ends s (fold step (walk_from nothing_held) (form settings words)) (rows_of_form settings words)
  form_walk settings words all once =
      let rows : List Row = map option_row settings in
      subst (λ w. Ends s w (rows_of_form settings words))
      (ap (λ w. fold step w words) (sym (dashes_step rows)) ∙ sym (options_walk [] settings (codes "--" ∷ words) all once))
      (trailing_walk rows words (no_positionals settings))

  dashes_pass : (rows : List Row) (words : List Text) → walk_passes s [] (start rows) (codes "--" ∷ words) ≡ true
  unfolding walk_passes
  dashes_pass rows words = subst (λ w. walk_passes s [] w words ≡ true) (sym (dashes_step rows)) (trailing_pass rows words)

  pub form_pass : (settings : List Setting) (words : List Text) → list_all (is_setting verb) settings ≡ true → Once [] settings
      → walk_passes s [] (walk_from nothing_held) (form settings words) ≡ true
  form_pass settings words all once = options_pass [] settings (codes "--" ∷ words) all once (dashes_pass (map option_row settings) words)
