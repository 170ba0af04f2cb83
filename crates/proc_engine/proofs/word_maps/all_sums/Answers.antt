use Rattle.std.proofs.Common.{rules, ◌≡◌, ◌<◌, ◌≤◌, ◌+◌, List, Err, sym, ap, ◌∙◌, arith}
use Rattle.hypergraph.specs.Sets.{set_at}
use Rattle.algebra_meaning.specs.declared.contribution.Contribution.{Contribution}
use Rattle.algebra_meaning.specs.declared.stopped.Stopped.TheVariants.{By}
use Rattle.algebra_meaning.specs.declared.stopped.Trapped.{Trapped}
use Rattle.algebra_meaning.specs.Assembled.{all_assembled, contributions_at, mapped, of_element}
use Rattle.algebra_meaning.specs.Linked.{linked}
use Rattle.proc_engine.specs.Running.{those_of}
use Rattle.proc_engine.specs.Sums.{contributed_below}
use Rattle.proc_engine.proofs.Elements.{element_stopped, elements_ended, left_after, next_kept, next_taken}
use Rattle.proc_engine.proofs.word_maps.all_sums.Goals as goal

pub returns-in_err-add_element : goal.returns-in_err-add_element
returns-in_err-add_element g c =
    let a = c.args in
    let before : List Contribution = contributed_below (linked g.H.HostMeaning.answer a.program.now) a.sets.now a.set a.function.now a.args.now c.loop-element.element in
    let h : (trapped : Trapped) → c.in_err-add_element.field-0.0 ≡ By trapped → mapped (linked g.H.HostMeaning.answer a.program.now) a.sets.now a.set a.function.now a.args.now ≡ Err trapped =
    element_stopped c.number_laws.ensures (linked g.H.HostMeaning.answer a.program.now) a.sets.now a.set a.function.now a.args.now before c.loop-element.element c.count-element-end.result c.in_err-add_element.field-0.0
    c.count-element-end.ensures c.loop-element-test.true (c.in_err-add_element.ensures before c.loop-element.invariant.sums) c.loop-element.invariant.left in
    search rules

pub loop-element-preserved : goal.loop-element-preserved
loop-element-preserved g c =
    let a = c.args in
    let n = c.loop-element.element in
    let before : List Contribution = contributed_below (linked g.H.HostMeaning.answer a.program.now) a.sets.now a.set a.function.now a.args.now n in
    let new : List Contribution = those_of (of_element n (contributions_at (linked g.H.HostMeaning.answer a.program.now) a.sets.now a.set a.function.now a.args.now n)) in
    let made = c.in_ok-add_element.ensures before c.loop-element.invariant.sums in
    let under : n < (set_at a.sets.now a.set).count = rw c.count-element-end.ensures at c.loop-element-test.true in
    let more = next_kept (linked g.H.HostMeaning.answer a.program.now) a.sets.now a.set a.function.now a.args.now new n c.loop-element.invariant.taken made.0 in
    record {
      sums = made.1 ∙ ap (λ l. all_assembled a.sets.now l 0 a.function.now.results) (sym more);
      taken = next_taken (linked g.H.HostMeaning.answer a.program.now) a.sets.now a.set a.function.now a.args.now new n c.loop-element.invariant.taken made.0;
      left = left_after c.number_laws.ensures (linked g.H.HostMeaning.answer a.program.now) a.sets.now a.set a.function.now a.args.now before new (contributed_below (linked g.H.HostMeaning.answer a.program.now) a.sets.now a.set a.function.now a.args.now (n + 1))
          _ n (set_at a.sets.now a.set).count under made.0 more c.loop-element.invariant.left;
    }

pub returns : goal.returns
returns g c =
    let a = c.args in
    let past : c.count-element-end.result ≤ c.loop-element.element = omega arith in
    elements_ended c.number_laws.ensures (linked g.H.HostMeaning.answer a.program.now) a.sets.now a.set a.function.now a.args.now (contributed_below (linked g.H.HostMeaning.answer a.program.now) a.sets.now a.set a.function.now a.args.now c.loop-element.element)
    c.loop-element.sums c.loop-element.element c.count-element-end.result c.count-element-end.ensures past c.loop-element.invariant.sums c.loop-element.invariant.left
