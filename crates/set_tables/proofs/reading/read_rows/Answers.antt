use Rattle.std.proofs.lemmas.Result.{err_from_is_err_and}
use Rattle.set_tables.proofs.RowsRead.{first-short, others-short, read-end, read-fail, read-start, read-step, read-width}
use Rattle.set_tables.proofs.reading.read_rows.Goals as goal

pub loop-records-init : goal.loop-records-init
loop-records-init c = record {
  read = read-start c.args.schema.now c.args.bound c.args.records.now.left c.args.endpoints.now.items c.args.columns.now.items c.requires.no_endpoints c.requires.no_words;
  short = c.requires.short;
}

pub read_row-requires-clause-short : goal.read_row-requires-clause-short
read_row-requires-clause-short c =
    let first = rw (c.in_ok-next_row.was, c.if-branch.true) at c.next_row.ensures in
    first-short c.loop-records.records.left c.next_row.new.self.left c.next_row.new.self.row first c.loop-records.invariant.short

pub read_row-requires-clause-as_many : goal.read_row-requires-clause-as_many
read_row-requires-clause-as_many c =
    read-width c.args.schema.now c.args.bound c.args.records.now.left c.loop-records.records.left c.loop-records.count _ _ c.loop-records.invariant.read

pub returns-in_err-read_row : goal.returns-in_err-read_row
returns-in_err-read_row c =
    let first = rw (c.in_ok-next_row.was, c.if-branch.true) at c.next_row.ensures in
    let p = err_from_is_err_and c.from_residual-in_err-read_row.result c.from_residual-in_err-read_row.ensures.1 in
    rw (p.1, p.2)
    (read-fail c.args.schema.now c.args.bound c.args.records.now.left c.loop-records.records.left c.next_row.new.self.left c.next_row.new.self.row c.loop-records.count
    c.loop-records.endpoints.items c.loop-records.columns.items c.in_err-read_row.field-0.0 c.loop-records.invariant.read first c.in_err-read_row.ensures)

pub loop-records-preserved : goal.loop-records-preserved
loop-records-preserved c =
    let first = rw (c.in_ok-next_row.was, c.if-branch.true) at c.next_row.ensures in
    let (element, stated, more-endpoints, more-words) = rw c.in_ok-read_row.was at c.read_row.ensures in
    record {
      read = read-step c.args.schema.now c.args.bound c.args.records.now.left c.loop-records.records.left c.next_row.new.self.left c.next_row.new.self.row c.loop-records.count
          c.loop-records.endpoints.items c.read_row.new.endpoints.items c.loop-records.columns.items c.read_row.new.columns.items element c.loop-records.invariant.read first stated more-endpoints more-words;
      short = others-short c.loop-records.records.left c.next_row.new.self.left c.next_row.new.self.row first c.loop-records.invariant.short;
    }

pub returns : goal.returns
returns c =
    let none = rw (c.in_ok-next_row.was, c.if-branch.false) at c.next_row.ensures in
    read-end c.args.schema.now c.args.bound c.args.records.now.left c.loop-records.records.left c.loop-records.count _ _ c.loop-records.invariant.read none
