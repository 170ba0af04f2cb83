use Rattle.std.proofs.Common.{◌∙◌, inr, sym}
use Rattle.std.proofs.lemmas.Result.{err_from_is_err_and}
use Rattle.set_tables.proofs.RowsRead.{others-short}
use Rattle.set_tables.proofs.TableRead.{all-good, gathered-set, no-header, no-records, rows-fail}
use Rattle.set_tables.proofs.reading.read_records.Goals as goal

pub returns-then-not-branch : goal.returns-then-not-branch
returns-then-not-branch c =
    inr (no-records c.args.schema.now c.args.over c.args.bound c.args.records.now.left (rw (c.in_ok-next_row.was, c.if-not-branch.true) at c.next_row.ensures))

pub returns-in_err-check_header : goal.returns-in_err-check_header
returns-in_err-check_header c =
    let first = rw (c.in_ok-next_row.was, c.if-not-branch.false) at c.next_row.ensures in
    let p = err_from_is_err_and c.from_residual-in_err-check_header.result c.from_residual-in_err-check_header.ensures.1 in
    rw (p.1, p.2)
    (inr (no-header c.args.schema.now c.args.over c.args.bound c.args.records.now.left c.next_row.new.self.left c.next_row.new.self.row c.in_err-check_header.field-0.0 first (sym c.in_err-check_header.ensures)))

pub read_rows-requires-clause-short : goal.read_rows-requires-clause-short
read_rows-requires-clause-short c =
    let first = rw (c.in_ok-next_row.was, c.if-not-branch.false) at c.next_row.ensures in
    others-short c.args.records.now.left c.next_row.new.self.left c.next_row.new.self.row first c.requires.short

pub returns-in_err-count : goal.returns-in_err-count
returns-in_err-count c =
    let first = rw (c.in_ok-next_row.was, c.if-not-branch.false) at c.next_row.ensures in
    let p = err_from_is_err_and c.from_residual-in_err-count.result c.from_residual-in_err-count.ensures.1 in
    rw (p.1, p.2)
    (rows-fail c.args.schema.now c.args.over c.args.bound c.args.records.now.left c.next_row.new.self.left c.next_row.new.self.row c.in_err-count.field-0.0 first
    (sym c.check_header.ensures ∙ c.in_ok-check_header.was) c.in_err-count.ensures)

pub new-requires : goal.new-requires
new-requires c =
    rw c.of.ensures
    (gathered-set c.args.schema.now c.args.over c.args.bound c.next_row.new.self.left c.in_ok-count.count c.read_rows.new.endpoints.items c.read_rows.new.columns.items
    c.requires.schema c.requires.few_columns c.requires.over_none c.in_ok-count.ensures)

pub returns : goal.returns
returns c =
    let first = rw (c.in_ok-next_row.was, c.if-not-branch.false) at c.next_row.ensures in
    rw (c.new.ensures, c.of.ensures)
    (all-good c.args.schema.now c.args.over c.args.bound c.args.records.now.left c.next_row.new.self.left c.next_row.new.self.row c.in_ok-count.count
    c.read_rows.new.endpoints.items c.read_rows.new.columns.items first (sym c.check_header.ensures ∙ c.in_ok-check_header.was) c.in_ok-count.ensures)
