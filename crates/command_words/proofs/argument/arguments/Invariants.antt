use Rattle.std.proofs.Common.{◌≡◌, map, drop}
use Rattle.std.specs.Prelude.{string_bytes}
use Rattle.vocabulary.specs.Answers.{fold_result}
use Rattle.command_words.specs.Arguments.{arguments, with_argument}
use Rattle.command_words.proofs.argument.arguments.Given as goal

-- what is given so far goes on with the words that are left as at first
abbrev pub invariant-loop-word : goal.invariant-loop-word
invariant-loop-word l =
    fold_result with_argument l.given (map string_bytes (drop l.word-index l.words)) ≡ arguments (map string_bytes l.fn.words)
