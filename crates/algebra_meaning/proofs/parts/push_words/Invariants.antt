use Rattle.std.proofs.Common.{◌≡◌, ◌++◌, map, take}
use Rattle.value_algebra.specs.Value.{word_of}
use Rattle.algebra_meaning.proofs.parts.push_words.Given as goal

abbrev pub invariant-loop-value : goal.invariant-loop-value
invariant-loop-value l = l.words ≡ l.initial.words ++ map word_of (take l.value-index l.values)
