use Rattle.std.proofs.Common.{◌≡◌, suc, ◌-◌, drop, map}
use Rattle.vocabulary.specs.Answers.{fold_result}
use Rattle.algebra_meaning.specs.Run.{count_up_to, in_order, runs_of, test, while_held, while_up_to}
use Rattle.algebra_meaning.specs.Linked.{linked}
use Rattle.global_algebra.specs.Turns.{counts}
use Rattle.global_algebra.proofs.Order.{step}
use Rattle.global_algebra.proofs.statements.+statement.Given as goal

-- the statements that are left give what all give
abbrev pub invariant-in_order-loop-one : goal.invariant-in_order-loop-one
invariant-in_order-loop-one g l =
    fold_result step l.state (map (runs_of (linked g.H.HostMeaning.answer l.program)) (drop l.one-index l.body)) ≡ in_order (map (runs_of (linked g.H.HostMeaning.answer l.program)) l.body) l.fn.start

-- the turns that are left give what all give
abbrev pub invariant-while_held-loop : goal.invariant-while_held-loop
invariant-while_held-loop g l =
    while_up_to (suc l.fn.start.turns - l.counter) (test (linked g.H.HostMeaning.answer l.program) l.line l.cond) (map (runs_of (linked g.H.HostMeaning.answer l.program)) l.body) l.state
    ≡ while_held (linked g.H.HostMeaning.answer l.program) l.line l.cond (map (runs_of (linked g.H.HostMeaning.answer l.program)) l.body) l.fn.start

abbrev pub invariant-count_up-loop : goal.invariant-count_up-loop
invariant-count_up-loop g l =
    count_up_to (suc l.fn.start.turns - l.counter) l.local l.value l.to (map (runs_of (linked g.H.HostMeaning.answer l.program)) l.body) l.state
    ≡ counts l.local l.fn.from l.to (map (runs_of (linked g.H.HostMeaning.answer l.program)) l.body) l.fn.start
