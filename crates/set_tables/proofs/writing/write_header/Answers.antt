use Rattle.std.proofs.Common.{[], ◌∷◌}
use Rattle.vocabulary.specs.declared.marks.TheConstants.{LINE_FEED}
use Rattle.set_tables.specs.Output.{line}
use Rattle.set_tables.specs.Schema.{headings}
use Rattle.set_tables.specs.WritingSteps.{column_headings_text, endpoint_headings_text}
use Rattle.set_tables.proofs.Appending.{capacity-first, capacity-second, capacity-third, three}
use Rattle.set_tables.proofs.LinesWritten.{header-parts}
use Rattle.set_tables.proofs.writing.write_header.Goals as goal

pub write_endpoint_headings-requires : goal.write_endpoint_headings-requires
write_endpoint_headings-requires c =
    let schema = c.args.schema.now in
    capacity-first c.args.to.now (endpoint_headings_text schema.arity) (column_headings_text schema.arity schema.columns) (LINE_FEED ∷ []) (line (headings schema)) (header-parts schema) c.requires.capacity

pub write_column_headings-requires-clause-capacity : goal.write_column_headings-requires-clause-capacity
write_column_headings-requires-clause-capacity c =
    let schema = c.args.schema.now in
    rw c.items.ensures
    (capacity-second c.args.to.now c.write_endpoint_headings.new.to (endpoint_headings_text schema.arity) (column_headings_text schema.arity schema.columns) (LINE_FEED ∷ []) (line (headings schema))
    (header-parts schema) c.requires.capacity c.write_endpoint_headings.ensures)

pub append-requires : goal.append-requires
append-requires c =
    let schema = c.args.schema.now in
    capacity-third c.args.to.now c.write_endpoint_headings.new.to c.write_column_headings.new.to (endpoint_headings_text schema.arity) (column_headings_text schema.arity schema.columns) (LINE_FEED ∷ [])
    (line (headings schema)) (header-parts schema) c.requires.capacity c.write_endpoint_headings.ensures (rw c.items.ensures at c.write_column_headings.ensures)

pub returns : goal.returns
returns c =
    let schema = c.args.schema.now in
    three c.args.to.now c.write_endpoint_headings.new.to c.write_column_headings.new.to c.append.new.to (endpoint_headings_text schema.arity) (column_headings_text schema.arity schema.columns) (LINE_FEED ∷ [])
    (line (headings schema)) (header-parts schema) c.write_endpoint_headings.ensures (rw c.items.ensures at c.write_column_headings.ensures) c.append.ensures
