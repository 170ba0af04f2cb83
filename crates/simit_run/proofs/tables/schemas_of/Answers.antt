use Rattle.std.proofs.Common.{◌≡◌, ◌∙◌, length, arith}
use Rattle.simit_run.proofs.SetsRead.{readable-more, readable-one, schemas-all, schemas-more}
use Rattle.simit_run.proofs.tables.schemas_of.Goals as goal

pub loop-number-preserved : goal.loop-number-preserved
loop-number-preserved c =
    let program = c.args.typed.now in
    let k = c.loop-number.number in
    let schema = c.in_ok-schema.field-0 in
    let made = c.in_ok-schema.ensures in
    record {
      made = schemas-more program k c.loop-number.schemas c.push.new.self schema c.loop-number.invariant.made made.value c.in_ok-push.ensures.pushed;
      readable = readable-more program k c.loop-number.invariant.readable (readable-one program k schema made.value made.readable made.few_columns made.columns);
    }

pub returns-clause-value : goal.returns-clause-value
returns-clause-value c =
    let all : c.loop-number.number ≡ length c.args.typed.now.sets = omega (arith, c.set_count-number-end.ensures) in
    c.into_vec.ensures ∙ schemas-all c.args.typed.now c.loop-number.number c.loop-number.schemas all c.loop-number.invariant.made
