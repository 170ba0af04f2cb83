use Rattle.std.proofs.Common.{◌≡◌, arith}
use Rattle.std.specs.List.{range_with_len}
use Rattle.hypergraph.specs.SetValue.{endpoint_at}
use Rattle.hypergraph.specs.Sets.{set_at}
use Rattle.set_tables.proofs.Appending.{each-end, each-capacity, each-step}
use Rattle.set_tables.proofs.LinesWritten.{endpoint_piece, length-range, range-at}
use Rattle.set_tables.proofs.writing.write_endpoints.Goals as goal

pub write_word-requires-clause-capacity : goal.write_word-requires-clause-capacity
write_word-requires-clause-capacity c =
    let value = set_at c.args.sets.now c.args.set in
    let is : c.from.result ≡ endpoint_at value c.args.element c.loop-position.position = cc (c.from.ensures, c.end-endpoint.ensures.value) in
    rw is
    (each-capacity (endpoint_piece value c.args.element) (range_with_len 0 c.args.arity) c.loop-position.position c.loop-position.position c.args.to.now c.loop-position.to
    (omega (arith, length-range c.args.arity)) (range-at c.args.arity c.loop-position.position c.loop-position-test.true) c.requires.capacity c.loop-position.invariant)

pub loop-position-preserved : goal.loop-position-preserved
loop-position-preserved c =
    let value = set_at c.args.sets.now c.args.set in
    let is : c.from.result ≡ endpoint_at value c.args.element c.loop-position.position = cc (c.from.ensures, c.end-endpoint.ensures.value) in
    each-step (endpoint_piece value c.args.element) (range_with_len 0 c.args.arity) c.loop-position.position c.loop-position.position c.args.to.now c.loop-position.to c.write_word.new.to
    (omega (arith, length-range c.args.arity)) (range-at c.args.arity c.loop-position.position c.loop-position-test.true) c.loop-position.invariant (rw is at c.write_word.ensures)

pub returns : goal.returns
returns c =
    each-end (endpoint_piece (set_at c.args.sets.now c.args.set) c.args.element) (range_with_len 0 c.args.arity) c.loop-position.position c.args.to.now c.loop-position.to
    (omega (arith, length-range c.args.arity)) c.loop-position.invariant
