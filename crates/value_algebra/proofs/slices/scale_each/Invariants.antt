use Rattle.std.proofs.Common.{◌≡◌, ◌++◌, drop, map, take}
use Rattle.ring_words.specs.Word.{mul}
use Rattle.value_algebra.proofs.slices.scale_each.Given as goal

abbrev pub invariant-loop-word : goal.invariant-loop-word
invariant-loop-word l = l.words ≡ map (mul l.factor) (take l.word-index l.initial.words) ++ drop l.word-index l.initial.words
