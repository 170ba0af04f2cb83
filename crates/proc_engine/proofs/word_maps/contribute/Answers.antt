use Rattle.algebra_meaning.specs.Element.{call_in}
use Rattle.proc_engine.proofs.Running.{element_adds}
use Rattle.proc_engine.proofs.word_maps.contribute.Goals as goal

pub returns : goal.returns
returns g c before so =
    element_adds (call_in g.H.HostMeaning.answer c.args.call.now) c.args.function.now c.args.args.now before c.as_slice.result.now c.items.result.now c.restart.new.self c.args.sums.now c.in_order.result
    c.in_order.new.locals c.in_order.new.sums c.as_slice.ensures c.items.ensures c.in_ok-restart.ensures so c.in_order.ensures
