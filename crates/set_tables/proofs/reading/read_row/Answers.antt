use Rattle.std.proofs.Common.{◌≡◌, ◌∙◌, length, inr, sym, arith}
use Rattle.std.proofs.lemmas.Result.{err_from_is_err_and}
use Rattle.set_tables.specs.Schema.{headings}
use Rattle.set_tables.proofs.ElementsRead.{row-cells, row-endpoints-fail, row-many, row-width, row-words}
use Rattle.set_tables.proofs.reading.read_row.Goals as goal

pub returns-then-row-gt-MOST_ELEMENTS : goal.returns-then-row-gt-MOST_ELEMENTS
returns-then-row-gt-MOST_ELEMENTS c = inr (row-many c.args.schema.now c.args.bound c.args.row c.args.records.now.row c.if-row-gt-MOST_ELEMENTS.true)

pub returns-then-width-width_of : goal.returns-then-width-width_of
returns-then-width-width_of c =
    inr (row-width c.args.schema.now c.args.bound c.args.row c.args.records.now.row c.if-row-gt-MOST_ELEMENTS.false (λ same. c.if-width-width_of.true (c.width.ensures ∙ same ∙ sym c.width_of.ensures.value)))

pub returns-in_err-read_endpoints : goal.returns-in_err-read_endpoints
returns-in_err-read_endpoints c =
    let p = err_from_is_err_and c.from_residual.result c.from_residual.ensures.1 in
    let same : length c.args.records.now.row ≡ length (headings c.args.schema.now) = omega (arith, c.width.ensures, c.width_of.ensures.value, c.if-width-width_of.false) in
    rw (p.1, p.2, row-cells c.args.schema.now c.args.bound c.args.row c.args.records.now.row c.if-row-gt-MOST_ELEMENTS.false same)
    (row-endpoints-fail c.args.schema.now c.args.bound c.args.row c.args.records.now.row c.in_err-read_endpoints.field-0.0 c.in_err-read_endpoints.ensures)

pub returns : goal.returns
returns c =
    let (more, stated, grows) = c.in_ok-read_endpoints.ensures in
    let same : length c.args.records.now.row ≡ length (headings c.args.schema.now) = omega (arith, c.width.ensures, c.width_of.ensures.value, c.if-width-width_of.false) in
    rw (row-cells c.args.schema.now c.args.bound c.args.row c.args.records.now.row c.if-row-gt-MOST_ELEMENTS.false same)
    (row-words c.args.schema.now c.args.bound c.args.row c.args.records.now.row c.args.endpoints.now.items c.read_endpoints.new.endpoints.items more
    c.args.columns.now.items c.read_words.new.columns.items c.read_words.result stated grows (rw c.items.ensures at c.read_words.ensures))
