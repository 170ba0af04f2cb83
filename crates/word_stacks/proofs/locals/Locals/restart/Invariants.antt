use Rattle.std.proofs.Common.{◌≡◌, take}
use Rattle.word_stacks.proofs.locals.Locals.restart.Given as goal

abbrev pub invariant-loop-value : goal.invariant-loop-value
invariant-loop-value l = l.self ≡ take l.value-index l.args
