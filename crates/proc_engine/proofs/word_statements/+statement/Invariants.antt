use Rattle.std.proofs.Common.{◌≡◌, ◌++◌, ◌-◌, List, drop, map}
use Rattle.std.specs.List.{range_with_len}
use Rattle.vocabulary.specs.Answers.{fold_result}
use Rattle.algebra_meaning.specs.declared.contribution.Contribution.{Contribution}
use Rattle.algebra_meaning.specs.Assembled.{all_assembled}
use Rattle.algebra_meaning.specs.Element.{call_in, in_order, looped, steps_of, turn}
use Rattle.proc_engine.specs.Running.{point}
use Rattle.proc_engine.proofs.Running.{Left}
use Rattle.proc_engine.proofs.word_statements.+statement.Given as goal

-- the statements that are left lead from here to where all lead
abbrev pub invariant-in_order-loop-one : goal.invariant-in_order-loop-one
invariant-in_order-loop-one g l = (before contributed : List Contribution) → l.initial.sums ≡ all_assembled l.call.sets (before ++ contributed) 0 l.results
    → Left l.call.sets l.results before (in_order (map (steps_of (call_in g.H.HostMeaning.answer l.call)) (drop l.one-index l.body)))
    (in_order (map (steps_of (call_in g.H.HostMeaning.answer l.call)) l.body) (point l.initial.locals contributed)) l.locals l.sums

-- so do the turns that are left
abbrev pub invariant-looped-loop-value : goal.invariant-looped-loop-value
invariant-looped-loop-value g l = (before contributed : List Contribution) → l.initial.sums ≡ all_assembled l.call.sets (before ++ contributed) 0 l.results
    → Left l.call.sets l.results before (λ p. fold_result (turn l.local (map (steps_of (call_in g.H.HostMeaning.answer l.call)) l.body)) p (range_with_len l.value (l.to - l.value)))
    (looped l.local l.fn.bounds.0 l.fn.bounds.1 (map (steps_of (call_in g.H.HostMeaning.answer l.call)) l.body) (point l.initial.locals contributed)) l.locals l.sums
