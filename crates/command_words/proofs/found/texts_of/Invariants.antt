use Rattle.std.proofs.Common.{◌≡◌, ◌++◌, map, drop}
use Rattle.command_words.proofs.found.texts_of.Given as goal

-- the texts so far go on with those of the words that are left
abbrev pub invariant-loop-word : goal.invariant-loop-word
invariant-loop-word l = l.texts ++ map (λ word. word.now) (drop l.word-index l.words) ≡ map (λ word. word.now) l.words
