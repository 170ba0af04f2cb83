use Rattle.std.proofs.Common.{◌∙◌, ◌<◌, length, arith}
use Rattle.std.proofs.lemmas.Result.{err_from_is_err_and}
use Rattle.simit_run.proofs.Texts.{texts_at, texts_more}
use Rattle.simit_run.proofs.writing.put_tables.Goals as goal

pub returns-in_err-put_table-clause-prefix : goal.returns-in_err-put_table-clause-prefix
returns-in_err-put_table-clause-prefix g c =
    let k = c.loop-number.number in
    let schemas = c.args.schemas.now in
    let sets = c.args.sets.now in
    let in' : k < length sets = omega (arith, c.len-number-end.ensures.value) in
    let in2 : k < length schemas = omega (arith, c.requires.tables.as_many) in
    let p = err_from_is_err_and c.from_residual.result c.from_residual.ensures.1 in
    rw p.1 (c.putting_law.ensures.prefix _ _ _ _ _ _ _ c.loop-number.invariant.so_far c.in_err-put_table.ensures.prefix (texts_at schemas sets k in2 in'))

pub loop-number-preserved : goal.loop-number-preserved
loop-number-preserved g c =
    let k = c.loop-number.number in
    let schemas = c.args.schemas.now in
    let sets = c.args.sets.now in
    let in' : k < length sets = omega (arith, c.len-number-end.ensures.value) in
    let in2 : k < length schemas = omega (arith, c.requires.tables.as_many) in
    record {
      so_far = rw (texts_more schemas sets k in2 in') (c.putting_law.ensures.appended _ _ _ _ _ c.loop-number.invariant.so_far c.in_ok-put_table.ensures.whole);
      counted = omega (arith, c.loop-number.invariant.counted, c.in_ok-put_table.ensures.counted);
      capacity = c.in_ok-put_table.ensures.capacity ∙ c.loop-number.invariant.capacity;
    }
