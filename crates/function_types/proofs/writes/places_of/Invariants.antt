use Rattle.std.proofs.Common.{◌≡◌, drop}
use Rattle.vocabulary.specs.Answers.{all_ok}
use Rattle.function_types.proofs.Loops.{after_values}
use Rattle.function_types.proofs.writes.places_of.Given as goal

-- the places so far and those that are left give all
abbrev pub invariant-loop-place : goal.invariant-loop-place
invariant-loop-place l = after_values l.places (all_ok (drop l.place-index l.judged)) ≡ all_ok l.judged
