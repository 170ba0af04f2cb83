use Rattle.std.proofs.Common.{◌≡◌, ◌++◌, map, drop, string_bytes}
use Rattle.command_words.proofs.layout.push_words.Given as goal

-- the words so far go on with those that are left as at first
abbrev pub invariant-loop-word : goal.invariant-loop-word
invariant-loop-word l =
    map string_bytes l.form.items ++ drop l.word-index l.words ≡ map string_bytes l.fn.form.items ++ l.words
