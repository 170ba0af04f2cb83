use Rattle.std.proofs.Common.{◌∙◌, arith, refl}
use Rattle.std.proofs.lemmas.List.{length-set}
use Rattle.hypergraph.specs.Sets.{set_at}
use Rattle.set_tables.proofs.ColumnsFetched.{fetched-all, fetched-another, fetched-none}
use Rattle.set_tables.proofs.writing.fetch_columns.Goals as goal

pub loop-column-init : goal.loop-column-init
loop-column-init c = record {
  fetched = fetched-none (set_at c.args.sets.now c.args.set) _;
  few = omega (arith, c.columns-column-end.ensures.value, c.columns-column-end.ensures.bound);
  slots = refl;
}

pub loop-column-preserved : goal.loop-column-preserved
loop-column-preserved c = record {
  fetched =
      fetched-another (set_at c.args.sets.now c.args.set) c.loop-column.words c.loop-column.column c.column.result (omega (arith, c.loop-column.invariant.few, c.loop-column.invariant.slots))
      (omega arith) c.column.ensures.value c.column.ensures.len c.loop-column.invariant.fetched;
  few = c.loop-column.invariant.few;
  slots = length-set c.loop-column.words c.loop-column.column c.column.result ∙ c.loop-column.invariant.slots;
}

pub returns : goal.returns
returns c = fetched-all (set_at c.args.sets.now c.args.set) c.loop-column.words c.loop-column.column (omega arith) c.loop-column.invariant.fetched
