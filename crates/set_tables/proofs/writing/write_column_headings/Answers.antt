use Rattle.std.proofs.Common.{◌+◌, arith}
use Rattle.std.specs.List.{enumerate_from}
use Rattle.std.proofs.lemmas.List.FromFn.{length-enumerate_from}
use Rattle.set_tables.proofs.Appending.{each-end, each-capacity, each-step}
use Rattle.set_tables.proofs.LinesWritten.{column_heading_piece, numbered-at}
use Rattle.set_tables.proofs.writing.write_column_headings.Goals as goal

pub write_heading-requires : goal.write_heading-requires
write_heading-requires c =
    rw c.as_str.ensures
    (each-capacity column_heading_piece (enumerate_from c.args.arity c.args.columns.now) c.loop-k.k (c.args.arity + c.loop-k.k, c.index-columns-k.result) c.args.to.now c.loop-k.to
    (omega (arith, length-enumerate_from c.args.arity c.args.columns.now)) (numbered-at c.args.arity c.args.columns.now c.loop-k.k c.index-columns-k.result c.loop-k-test.true c.index-columns-k.is)
    c.requires.capacity c.loop-k.invariant)

pub loop-k-preserved : goal.loop-k-preserved
loop-k-preserved c =
    each-step column_heading_piece (enumerate_from c.args.arity c.args.columns.now) c.loop-k.k (c.args.arity + c.loop-k.k, c.index-columns-k.result) c.args.to.now c.loop-k.to c.write_heading.new.to
    (omega (arith, length-enumerate_from c.args.arity c.args.columns.now)) (numbered-at c.args.arity c.args.columns.now c.loop-k.k c.index-columns-k.result c.loop-k-test.true c.index-columns-k.is)
    c.loop-k.invariant (rw c.as_str.ensures at c.write_heading.ensures)

pub returns : goal.returns
returns c =
    each-end column_heading_piece (enumerate_from c.args.arity c.args.columns.now) c.loop-k.k c.args.to.now c.loop-k.to (omega (arith, length-enumerate_from c.args.arity c.args.columns.now)) c.loop-k.invariant
