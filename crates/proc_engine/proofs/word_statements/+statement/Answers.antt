use Rattle.std.proofs.Common.{rules, refl, ◌≡◌, ◌+◌, ◌-◌, List, Err, drop, map}
use Rattle.std.specs.List.{range_with_len}
use Rattle.vocabulary.specs.Answers.{fold_result}
use Rattle.ring_words.specs.declared.trap.TrapKind.{TrapKind}
use Rattle.algebra_meaning.specs.declared.stopped.Stopped.TheVariants.{By}
use Rattle.algebra_meaning.specs.Element.{call_in, Steps, in_order, looped, steps_of, turn}
use Rattle.proc_engine.specs.Running.{point}
use Rattle.proc_engine.proofs.Running.{gone_on, trapped}
use Rattle.proc_engine.proofs.Statements.{assert_runs, assign_runs, var_runs}
use Rattle.proc_engine.proofs.word_statements.+statement.Goals as goal

pub in_order-returns-in_err-statement : goal.in_order-returns-in_err-statement
in_order-returns-in_err-statement g t c before contributed so =
    let call = call_in g.H.HostMeaning.answer c.args.call.now in
    let known = in_order (map (steps_of call) c.args.body.now) (point c.args.locals.now contributed) in
    let h : (kind : TrapKind) → c.in_err-statement.field-0.0 ≡ By kind → known ≡ Err kind =
    λ kind is. trapped call.sets c.args.results.now before known (steps_of call c.one-item.result) (in_order (map (steps_of call) (drop c.loop-one.one-index c.args.body.now))) c.loop-one.locals c.loop-one.sums kind
    (λ p stops left. c.item_laws.ensures.refused (λ start ss. in_order (map (steps_of call) ss) start) (λ start s. steps_of call s start) (record { ends = λ start. refl; goes_on = λ start s ss. refl }) p known c.args.body.now c.loop-one.one-index c.one-item.result kind c.loop-one-test.true c.one-item.is stops left)
    (λ now sums. c.in_err-statement.ensures before now sums kind is)
    (c.loop-one.invariant before contributed so) in
    search rules

pub looped-returns-in_err-turn : goal.looped-returns-in_err-turn
looped-returns-in_err-turn g t c before contributed so =
    let call = call_in g.H.HostMeaning.answer c.args.call.now in
    let body : List Steps = map (steps_of call) c.args.body.now in
    let known = looped c.args.local c.args.bounds.0 c.args.bounds.1 body (point c.args.locals.now contributed) in
    let h : (kind : TrapKind) → c.in_err-turn.field-0.0 ≡ By kind → known ≡ Err kind =
    λ kind is. trapped call.sets c.args.results.now before known (λ p. turn c.args.local body p c.loop-value.value)
    (λ p. fold_result (turn c.args.local body) p (range_with_len c.loop-value.value (c.args.bounds.1 - c.loop-value.value))) c.loop-value.locals c.loop-value.sums kind
    (λ p stops left. c.number_laws.ensures.refused (turn c.args.local body) p known c.loop-value.value c.args.bounds.1 kind c.loop-value-test.true stops left)
    (λ now sums. c.in_err-turn.ensures before now sums kind is)
    (c.loop-value.invariant before contributed so) in
    search rules

pub looped-loop-value-preserved : goal.looped-loop-value-preserved
looped-loop-value-preserved g t c before contributed so =
    let call = call_in g.H.HostMeaning.answer c.args.call.now in
    let body : List Steps = map (steps_of call) c.args.body.now in
    let known = looped c.args.local c.args.bounds.0 c.args.bounds.1 body (point c.args.locals.now contributed) in
    gone_on call.sets c.args.results.now before known (λ p. turn c.args.local body p c.loop-value.value)
    (λ p. fold_result (turn c.args.local body) p (range_with_len c.loop-value.value (c.args.bounds.1 - c.loop-value.value)))
    (λ p. fold_result (turn c.args.local body) p (range_with_len (c.loop-value.value + 1) (c.args.bounds.1 - (c.loop-value.value + 1))))
    c.loop-value.locals c.loop-value.sums c.turn.new.locals c.turn.new.sums
    (λ p q is left. c.number_laws.ensures.taken (turn c.args.local body) p q known c.loop-value.value c.args.bounds.1 c.loop-value-test.true is left)
    c.in_ok-turn.ensures (c.loop-value.invariant before contributed so)

pub statement-returns-in-Var : goal.statement-returns-in-Var
statement-returns-in-Var g t c before contributed so =
    var_runs (call_in g.H.HostMeaning.answer c.args.call.now) c.args.results.now before contributed c.args.statement.now c.in-Var.line c.in-Var.local c.in-Var.value c.new_local.result
    c.args.locals.now c.new_local.new.locals c.args.sums.now c.in-Var.is c.new_local.ensures so

pub statement-returns-in-Assign : goal.statement-returns-in-Assign
statement-returns-in-Assign g t c before contributed so =
    assign_runs (call_in g.H.HostMeaning.answer c.args.call.now) c.args.results.now before contributed c.args.statement.now c.in-Assign.line c.in-Assign.local c.in-Assign.value c.assigned_local.result
    c.args.locals.now c.assigned_local.new.locals c.args.sums.now c.in-Assign.is c.assigned_local.ensures so

pub statement-returns-in-Assert : goal.statement-returns-in-Assert
statement-returns-in-Assert g t c before contributed so =
    assert_runs (call_in g.H.HostMeaning.answer c.args.call.now) c.args.results.now before contributed c.args.statement.now c.in-Assert.line c.in-Assert.cond c.asserted.result
    c.args.locals.now c.args.sums.now c.in-Assert.is c.asserted.ensures so
