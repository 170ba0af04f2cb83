use Rattle.std.proofs.Common.{◌≡◌, [], false, arith, get_or, sym}
use Rattle.std.specs.Str.{bytes_eq}
use Rattle.ring_words.specs.Cell.{without_spaces}
use Rattle.set_tables.specs.Schema.{headings}
use Rattle.set_tables.proofs.Headings.{agrees-differs, agrees-ended, agrees-more}
use Rattle.set_tables.proofs.reading.check_header.Goals.{then-column-width-via-then-column-width, then-column-width-via-else-column-width+then-not-is_heading}
use Rattle.set_tables.proofs.reading.check_header.Goals as goal

pub returns-then-column-width : goal.returns-then-column-width
returns-then-column-width c =
    elim c.then-column-width.branch [
      | then-column-width-via-then-column-width w ↦
          sym (agrees-ended c.args.records.now.row (headings c.args.schema.now) c.loop-column.column (omega (arith, w.if-column-width.true)) (omega arith) c.loop-column.invariant)
      | then-column-width-via-else-column-width+then-not-is_heading w ↦
          let other : bytes_eq (get_or (headings c.args.schema.now) c.loop-column.column []) (without_spaces (get_or c.args.records.now.row c.loop-column.column [])) ≡ false =
          cc (w.cell.ensures, w.trim_spaces.ensures, w.is_heading.ensures, w.if-not-is_heading.true) in
          let within = c.loop-column.invariant.within in
          sym (agrees-differs c.args.records.now.row (headings c.args.schema.now) c.loop-column.column (omega (arith, w.if-column-width.false)) (omega arith) other c.loop-column.invariant)
    ]

pub returns-then-width : goal.returns-then-width
returns-then-width c =
    let within = c.loop-column.invariant.within in
    let column : c.loop-column.column ≡ c.width_of-width.result = omega arith in
    sym (agrees-more c.args.records.now.row (headings c.args.schema.now) c.width_of-width.result (omega (arith, c.if-width.true)) c.width_of-width.ensures.value (rw column at c.loop-column.invariant))
