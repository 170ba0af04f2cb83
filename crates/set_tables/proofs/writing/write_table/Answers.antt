use Rattle.hypergraph.specs.Sets.{set_at}
use Rattle.set_tables.specs.Output.{element_lines, line, name_line, table_text}
use Rattle.set_tables.specs.Schema.{headings}
use Rattle.set_tables.proofs.Appending.{capacity-first, capacity-second, capacity-third, three}
use Rattle.set_tables.proofs.LinesWritten.{table-parts}
use Rattle.set_tables.proofs.writing.write_table.Goals as goal

pub write_name-requires : goal.write_name-requires
write_name-requires c =
    let schema = c.args.schema.now in
    let value = set_at c.args.sets.now c.args.set in
    rw c.as_str.ensures
    (capacity-first c.args.to.now (name_line schema.name) (line (headings schema)) (element_lines schema value) (table_text schema value) (table-parts schema value) c.requires.capacity)

pub write_header-requires-clause-capacity : goal.write_header-requires-clause-capacity
write_header-requires-clause-capacity c =
    let schema = c.args.schema.now in
    let value = set_at c.args.sets.now c.args.set in
    capacity-second c.args.to.now c.write_name.new.to (name_line schema.name) (line (headings schema)) (element_lines schema value) (table_text schema value) (table-parts schema value) c.requires.capacity
    (rw c.as_str.ensures at c.write_name.ensures)

pub write_elements-requires-clause-capacity : goal.write_elements-requires-clause-capacity
write_elements-requires-clause-capacity c =
    let schema = c.args.schema.now in
    let value = set_at c.args.sets.now c.args.set in
    capacity-third c.args.to.now c.write_name.new.to c.write_header.new.to (name_line schema.name) (line (headings schema)) (element_lines schema value) (table_text schema value) (table-parts schema value)
    c.requires.capacity (rw c.as_str.ensures at c.write_name.ensures) c.write_header.ensures

pub returns : goal.returns
returns c =
    let schema = c.args.schema.now in
    let value = set_at c.args.sets.now c.args.set in
    three c.args.to.now c.write_name.new.to c.write_header.new.to c.write_elements.new.to (name_line schema.name) (line (headings schema)) (element_lines schema value) (table_text schema value)
    (table-parts schema value) (rw c.as_str.ensures at c.write_name.ensures) c.write_header.ensures c.write_elements.ensures
