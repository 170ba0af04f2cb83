use Rattle.std.proofs.Common.{◌≡◌, ◌++◌, map, drop, string_bytes}
use Rattle.command_words.specs.Form.{option_form}
use Rattle.command_words.proofs.layout.push_options.Given as goal

-- the words so far go on with those of the options that are left as at first
abbrev pub invariant-loop-setting : goal.invariant-loop-setting
invariant-loop-setting l =
    map string_bytes l.form.items ++ map option_form (drop l.setting-index l.settings)
    ≡ map string_bytes l.fn.form.items ++ map option_form l.settings
