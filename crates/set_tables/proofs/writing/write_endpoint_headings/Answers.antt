use Rattle.std.proofs.Common.{arith}
use Rattle.std.specs.List.{range_with_len}
use Rattle.set_tables.proofs.Appending.{each-end, each-capacity, each-step}
use Rattle.set_tables.proofs.LinesWritten.{endpoint_heading_piece, length-range, range-at}
use Rattle.set_tables.proofs.writing.write_endpoint_headings.Goals as goal

pub write_endpoint_heading-requires : goal.write_endpoint_heading-requires
write_endpoint_heading-requires c =
    each-capacity endpoint_heading_piece (range_with_len 0 c.args.arity) c.loop-position.position c.loop-position.position c.args.to.now c.loop-position.to
    (omega (arith, length-range c.args.arity)) (range-at c.args.arity c.loop-position.position c.loop-position-test.true) c.requires c.loop-position.invariant

pub loop-position-preserved : goal.loop-position-preserved
loop-position-preserved c =
    each-step endpoint_heading_piece (range_with_len 0 c.args.arity) c.loop-position.position c.loop-position.position c.args.to.now c.loop-position.to c.write_endpoint_heading.new.to
    (omega (arith, length-range c.args.arity)) (range-at c.args.arity c.loop-position.position c.loop-position-test.true) c.loop-position.invariant c.write_endpoint_heading.ensures

pub returns : goal.returns
returns c =
    each-end endpoint_heading_piece (range_with_len 0 c.args.arity) c.loop-position.position c.args.to.now c.loop-position.to (omega (arith, length-range c.args.arity)) c.loop-position.invariant
