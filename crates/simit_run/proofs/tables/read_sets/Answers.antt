use Rattle.std.proofs.Common.{◌≡◌, ◌≤◌, ◌+◌, ◌∙◌, ◌<◌, ◌++◌, [], ◌∷◌, List, ℕ, length, get_or, true, ap, arith, rules}
use Rattle.std.specs.Prelude.{is_ok}
use Rattle.std.proofs.lemmas.List.{length-append}
use Rattle.std.proofs.lemmas.Result.{err_from_is_err_and}
use Rattle.set_tables.specs.declared.schema.Schema.{Schema}
use Rattle.simit_run.proofs.Reading.{sets_all, sets_fail, sets_go_on}
use Rattle.simit_run.proofs.SetsRead.{are_read-push, schema-here, schemas-length}
use Rattle.simit_run.proofs.tables.read_sets.Goals as goal

pub bounds-schemas-number : goal.bounds-schemas-number
bounds-schemas-number g c = omega (arith, ap length c.requires.schemas, schemas-length c.args.typed.now)

pub read_set-requires-clause-schema : goal.read_set-requires-clause-schema
read_set-requires-clause-schema g c =
    let k = c.loop-number.number in
    let schema = c.index-schemas-number.result in
    let many : length c.deref.result.now ≡ k = ap length c.deref.ensures.value ∙ c.loop-number.invariant.many in
    rw many
    (c.index-schemas-number.is ∙ ap (λ (schemas : List Schema). get_or schemas k schema) c.requires.schemas ∙ schema-here c.args.typed.now k schema (omega (arith, c.requires.names)))

pub returns-in_err-set-clause-shows : goal.returns-in_err-set-clause-shows
returns-in_err-set-clause-shows g c =
    let program = c.args.typed.now in
    let names = c.args.names.now in
    let k = c.loop-number.number in
    let before = c.loop-number.invariant in
    let item = c.index-names-number.result in
    let within : k < length names = omega arith in
    let called : List ℕ = c.as_str-name.result.now in
    let same : called ≡ item = c.as_str-name.ensures in
    let p = err_from_is_err_and c.from_residual.result c.from_residual.ensures.1 in
    rw (p.1, p.2)
    (sets_fail program (g.I.Inputs.holds c.args.inputs.now) (g.I.Inputs.holds c.loop-number.inputs) names k c.loop-number.sets.items c.deref.result.now
    item called (g.I.Inputs.faults c.args.inputs.now) (g.I.Inputs.faults c.loop-number.inputs) (g.I.Inputs.faults c.read_set.new.inputs) c.in_err-set.field-0.0
    within c.index-names-number.is before.same_files c.deref.ensures.value same before.counted before.left c.in_err-set.ensures.shows)

pub loop-number-preserved : goal.loop-number-preserved
loop-number-preserved g c =
    let program = c.args.typed.now in
    let names = c.args.names.now in
    let k = c.loop-number.number in
    let before = c.loop-number.invariant in
    let item = c.index-names-number.result in
    let within : k < length names = omega arith in
    let called : List ℕ = c.as_str-name.result.now in
    let same : called ≡ item = c.as_str-name.ensures in
    let good : is_ok c.push.result ≡ true = search rules in
    let pushed : c.push.new.self.items ≡ c.loop-number.sets.items ++ c.in_ok-set.set ∷ [] = rw good at c.push.ensures.items in
    record {
      many = ap length pushed ∙ length-append c.loop-number.sets.items (c.in_ok-set.set ∷ []) ∙ ap (λ n. n + 1) before.many;
      read = rw pushed
          (are_read-push program c.loop-number.sets.items c.in_ok-set.set c.requires.runnable.declared before.read (omega (arith, before.many, c.requires.names))
          (rw (← c.deref.ensures.value) c.in_ok-set.ensures.declared) (rw (← c.deref.ensures.value) c.in_ok-set.ensures.endpoints_below));
      left =
          sets_go_on program (g.I.Inputs.holds c.args.inputs.now) (g.I.Inputs.holds c.loop-number.inputs) names k c.loop-number.sets.items c.deref.result.now
          item called c.push.new.self.items c.in_ok-set.set within c.index-names-number.is before.same_files c.deref.ensures.value same pushed before.left c.in_ok-set.ensures.shows;
      same_files = c.in_ok-set.ensures.same_files ∙ before.same_files;
      counted = omega (arith, c.in_ok-set.ensures.counted, before.counted);
    }

pub returns-clause-shows : goal.returns-clause-shows
returns-clause-shows g c =
    let texts = c.args.names.now in
    let past : length texts ≤ c.loop-number.number = omega (arith, c.loop-number-test.false) in
    sets_all c.args.typed.now (g.I.Inputs.holds c.args.inputs.now) texts c.loop-number.number c.loop-number.sets.items past c.loop-number.invariant.left
