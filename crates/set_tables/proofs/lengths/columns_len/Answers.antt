use Rattle.std.proofs.Common.{◌≡◌, ◌<◌, ◌∙◌, ℕ, List, length, arith, ap, sym}
use Rattle.std.specs.Prelude.{sum_by}
use Rattle.std.specs.List.{zip}
use Rattle.std.proofs.lemmas.List.{take_all}
use Rattle.std.proofs.lemmas.Slice.Zip.{length-zip}
use Rattle.hypergraph.specs.Sets.{set_at}
use Rattle.set_tables.specs.WritingSteps.{column_size}
use Rattle.set_tables.specs.declared.schema.Column.{Column}
use Rattle.set_tables.proofs.TextSizes.{columns-more, each-more}
use Rattle.set_tables.proofs.lengths.columns_len.Goals as goal

pub column_len-total-requires-clause-few : goal.column_len-total-requires-clause-few
column_len-total-requires-clause-few c = omega (arith, c.column.ensures.len, c.requires.few_elements)

pub loop-column-preserved : goal.loop-column-preserved
loop-column-preserved c =
    let value = set_at c.args.sets.now c.args.set in
    let in' : c.loop-column.column < length value.columns = omega (arith, c.columns-column-end.ensures.value, c.loop-column-test.true) in
    let cells : c.column_len-total.result ≡ column_size c.index-columns-column.result.scale c.column.result.now =
    c.column_len-total.ensures.value ∙ ap (λ (column : Column). column_size column.scale c.column.result.now) (sym c.index-columns-column.is) in
    record {
      value =
          omega (
            arith,
            c.loop-column.invariant.value,
            cells,
            columns-more c.args.columns.now value.columns c.loop-column.column c.index-columns-column.result c.column.result.now (omega (arith, c.requires.as_many)) in' c.index-columns-column.is c.column.ensures.value,
          );
      one_each = each-more value.columns c.loop-column.column value.count c.column.result.now in' c.column.ensures.value c.column.ensures.len c.loop-column.invariant.one_each;
      bound = omega (arith, c.column_len-total.ensures.bound);
    }

pub returns-clause-value : goal.returns-clause-value
returns-clause-value c =
    let value = set_at c.args.sets.now c.args.set in
    let all = zip c.args.columns.now value.columns in
    c.loop-column.invariant.value
    ∙ ap (sum_by (λ (p : Column × List ℕ). column_size p.0.scale p.1)) (take_all c.loop-column.column all (omega (arith, length-zip c.args.columns.now value.columns, c.columns-column-end.ensures.value, c.loop-column-test.false)))

pub returns-clause-one_each : goal.returns-clause-one_each
returns-clause-one_each c =
    let value = set_at c.args.sets.now c.args.set in
    rw (take_all c.loop-column.column value.columns (omega (arith, c.columns-column-end.ensures.value, c.loop-column-test.false))) at c.loop-column.invariant.one_each
