-- What words give has no empty values and no empty words, and each option once.
use Rattle.std.proofs.Common.{◌≡◌, ◌||◌, ◌==◌, ◌++◌, Bool, true, false, true≢false, List, [], ◌∷◌, length, refl, sym, subst, append_assoc, append-nil, Option, None, Some, IfOk, IfSome}
use Rattle.std.specs.Prelude.{⊤, Result, Ok, Err, codes, if◌then◌else◌}
use Rattle.std.specs.List.{list_any, before_first, after_first}
use Rattle.std.specs.Str.{bytes_eq}
use Rattle.vocabulary.specs.Answers.{◌>>=◌, fold_result}
use Rattle.command_words.specs.Arguments.{Text, flag_named, is_given, with_value, with_word, is_dashed, is_equals, option_with, option_before, option_word, word_before_end, with_argument, nothing_given, arguments}
use Rattle.command_words.specs.Parsing.{Once}
use Rattle.command_words.specs.declared.command.WordsFault.{WordsFault}
use Rattle.command_words.specs.declared.command.WordsFault.TheVariants.{Refused}
use Rattle.command_words.specs.declared.flag.Flag.{Flag}
use Rattle.command_words.specs.declared.given.Setting.{Setting}
use Rattle.command_words.specs.declared.given.Given.{Given}

abbrev pub Full : Text → Type 0
Full word = (length word == 0) ≡ false

abbrev pub AllFull : List Text → Type 0
AllFull [] = ⊤
AllFull (word ∷ words) = Full word × AllFull words

abbrev pub HaveValues : List Setting → Type 0
HaveValues [] = ⊤
HaveValues (setting ∷ settings) = Full setting.value × HaveValues settings

pub record IsGiven (given : Given) : Type 0 where
  pub once : Once [] given.settings
  pub values : HaveValues given.settings
  pub due : IfSome given.due (λ flag. is_given flag given.settings ≡ false)
  pub positionals : AllFull given.positionals

guarded : (b : Bool) (r : Result Given WordsFault) → (b ≡ false → IfOk r IsGiven) → IfOk (if b then Err Refused else r) IsGiven
guarded true r h = tt
guarded false r h = h refl

either : (b : Bool) (r s : Result Given WordsFault) → IfOk r IsGiven → IfOk s IsGiven → IfOk (if b then r else s) IsGiven
either true r s h k = h
either false r s h k = k

neither : (a b : Bool) → (a || b) ≡ false → (a ≡ false) × (b ≡ false)
neither true b e = absurd (true≢false e)
neither false b e = (refl, e)

one_more : (words : List Text) (word : Text) → AllFull words → Full word → AllFull (words ++ word ∷ [])
one_more [] word all full = (full, tt)
one_more (x ∷ xs) word all full = (all.0, one_more xs word all.1 full)

one_more_value : (settings : List Setting) (setting : Setting) → HaveValues settings → Full setting.value → HaveValues (settings ++ setting ∷ [])
one_more_value [] setting all full = (full, tt)
one_more_value (x ∷ xs) setting all full = (all.0, one_more_value xs setting all.1 full)

once_more : (before settings : List Setting) (setting : Setting) → Once before settings → is_given setting.flag (before ++ settings) ≡ false
    → Once before (settings ++ setting ∷ [])
once_more before [] setting once new = (subst (λ (l : List Setting). is_given setting.flag l ≡ false) (append-nil before) new, tt)
once_more before (x ∷ xs) setting once new =
    (once.0, once_more (before ++ x ∷ []) xs setting once.1 (subst (λ (l : List Setting). is_given setting.flag l ≡ false) (sym (append_assoc before (x ∷ []) xs)) new))

kept_value : (flag : Flag) (value : Text) (g : Given) → is_given flag g.settings ≡ false → Full value → IsGiven g → IsGiven (with_value flag value g)
kept_value flag value g new full k = record {
  once = once_more [] g.settings (record { flag = flag; value = value }) k.once new;
  values = one_more_value g.settings (record { flag = flag; value = value }) k.values full;
  due = tt;
  positionals = k.positionals;
}

kept_word : (word : Text) (g : Given) → Full word → IsGiven g → IsGiven (with_word word g)
kept_word word g full k = record { once = k.once; values = k.values; due = k.due; positionals = one_more g.positionals word k.positionals full }

kept_end : (g : Given) → IsGiven g → IsGiven (record g { ended = true })
kept_end g k = record { once = k.once; values = k.values; due = k.due; positionals = k.positionals }

kept_due : (g : Given) (flag : Flag) → is_given flag g.settings ≡ false → IsGiven g → IsGiven (record g { due = Some flag })
kept_due g flag new k = record { once = k.once; values = k.values; due = new; positionals = k.positionals }

with_keeps : (flag : Option Flag) (value : Text) (g : Given) → IsGiven g → IfOk (option_with flag value g) IsGiven
with_keeps None value g k = tt
with_keeps (Some flag) value g k =
    guarded (is_given flag g.settings || (length value == 0)) (Ok (with_value flag value g))
    (λ e. let parts = neither (is_given flag g.settings) (length value == 0) e in kept_value flag value g parts.0 parts.1 k)

before_keeps : (flag : Option Flag) (g : Given) → IsGiven g → IfOk (option_before flag g) IsGiven
before_keeps None g k = tt
before_keeps (Some flag) g k = guarded (is_given flag g.settings) (Ok (record g { due = Some flag })) (λ e. kept_due g flag e k)

option_keeps : (word : Text) (g : Given) → IsGiven g → IfOk (option_word word g) IsGiven
unfolding option_word
option_keeps word g k =
    either (list_any is_equals word) (option_with (flag_named (before_first is_equals word)) (after_first is_equals word) g) (option_before (flag_named word) g)
    (with_keeps (flag_named (before_first is_equals word)) (after_first is_equals word) g k) (before_keeps (flag_named word) g k)

before_end_keeps : (due : Option Flag) (word : Text) (g : Given) → IfSome due (λ flag. is_given flag g.settings ≡ false) → Full word → IsGiven g
    → IfOk (word_before_end due word g) IsGiven
unfolding word_before_end
before_end_keeps (Some flag) word g new full k = guarded (is_dashed word) (Ok (with_value flag word g)) (λ e. kept_value flag word g new full k)
before_end_keeps None word g new full k =
    either (bytes_eq word (codes "--")) (Ok (record g { ended = true })) (if is_dashed word then option_word word g else Ok (with_word word g))
    (kept_end g k)
    (either (is_dashed word) (option_word word g) (Ok (with_word word g)) (option_keeps word g k) (kept_word word g full k))

argument_keeps : (word : Text) (g : Given) → IsGiven g → IfOk (with_argument g word) IsGiven
unfolding with_argument
argument_keeps word g k =
    guarded (length word == 0) (if g.ended then Ok (with_word word g) else word_before_end g.due word g)
    (λ full. either g.ended (Ok (with_word word g)) (word_before_end g.due word g)
    (kept_word word g full k) (before_end_keeps g.due word g k.due full k))

next_keeps : (r : Result Given WordsFault) (f : Given → Result Given WordsFault) → IfOk r IsGiven
    → ((g : Given) → IsGiven g → IfOk (f g) IsGiven) → IfOk (r >>= f) IsGiven
next_keeps (Ok g) f h k = k g h
next_keeps (Err fault) f h k = tt

arguments_keep : (words : List Text) (g : Given) → IsGiven g → IfOk (fold_result with_argument g words) IsGiven
arguments_keep [] g k = k
arguments_keep (word ∷ words) g k =
    next_keeps (with_argument g word) (λ next. fold_result with_argument next words) (argument_keeps word g k) (λ next. arguments_keep words next)

nothing_is_given : IsGiven nothing_given
nothing_is_given = record { once = tt; values = tt; due = tt; positionals = tt }

pub is_given_by : (words : List Text) (g : Given) → arguments words ≡ Ok g → IsGiven g
is_given_by words g e = subst (λ (r : Result Given WordsFault). IfOk r IsGiven) e (arguments_keep words nothing_given nothing_is_given)
