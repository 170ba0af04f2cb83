use Rattle.std.proofs.Common.{arith}
use Rattle.std.specs.List.{range_with_len}
use Rattle.hypergraph.specs.Sets.{set_at}
use Rattle.set_tables.proofs.Appending.{each-end, each-capacity, each-step}
use Rattle.set_tables.proofs.LinesWritten.{length-range, line_piece, range-at}
use Rattle.set_tables.proofs.writing.write_elements.Goals as goal

pub write_element-requires-clause-capacity : goal.write_element-requires-clause-capacity
write_element-requires-clause-capacity c =
    let value = set_at c.args.sets.now c.args.set in
    each-capacity (line_piece c.args.schema.now value) (range_with_len 0 value.count) c.loop-element.element c.loop-element.element c.args.to.now c.loop-element.to
    (omega (arith, length-range value.count)) (range-at value.count c.loop-element.element (omega arith)) c.requires.capacity c.loop-element.invariant

pub loop-element-preserved : goal.loop-element-preserved
loop-element-preserved c =
    let value = set_at c.args.sets.now c.args.set in
    each-step (line_piece c.args.schema.now value) (range_with_len 0 value.count) c.loop-element.element c.loop-element.element c.args.to.now c.loop-element.to c.write_element.new.to
    (omega (arith, length-range value.count)) (range-at value.count c.loop-element.element (omega arith)) c.loop-element.invariant c.write_element.ensures

pub returns : goal.returns
returns c =
    let value = set_at c.args.sets.now c.args.set in
    each-end (line_piece c.args.schema.now value) (range_with_len 0 value.count) c.loop-element.element c.args.to.now c.loop-element.to (omega (arith, length-range value.count)) c.loop-element.invariant
