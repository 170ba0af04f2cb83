use Rattle.std.proofs.Common.{◌≡◌, ℕ, ◌+◌, ◌≤◌, List, [], ◌∷◌, ◌++◌, length, sym, ap, ◌∙◌, arith, length-append}
use Rattle.std.specs.Prelude.{min}
use Rattle.std.specs.Vec.Iter.{into_iter_items}
use Rattle.hypergraph.specs.SetValue.{SetValue}
use Rattle.hypergraph.specs.Sets.{set_at}
use Rattle.value_algebra.specs.declared.fields.TheConstants.{PAST_COLUMNS}
use Rattle.value_algebra.proofs.Columns.{assigned, column_set, rest_of, same_count}
use Rattle.value_algebra.proofs.fields.set_columns.Goals as goal

pub loop-words-preserved : goal.loop-words-preserved
loop-words-preserved c =
    let now : List SetValue = c.loop-words.sets in
    let next : List SetValue = c.set_column.new.sets in
    let words : List ℕ = c.in-Some.words in
    let rest : List (List ℕ) = into_iter_items c.next.new.self in
    let items : into_iter_items c.loop-words.words-iterator ≡ words ∷ rest = c.in-Some.ensures.steps.0 in
    let here : min c.loop-words.column PAST_COLUMNS ≡ c.loop-words.column = let bound : c.loop-words.column ≤ PAST_COLUMNS = c.loop-words.invariant.bound in omega arith in
    let count : (set_at next c.args.set).count ≡ (set_at now c.args.set).count =
    same_count now next c.args.set c.loop-words.column words (c.set_column.ensures c.loop-words.column here) in
    let more : length (c.loop-words.yielded ++ words ∷ []) ≡ length c.loop-words.yielded + 1 = simp length-append in
    let one_further : c.further-column.result ≡ min (c.loop-words.column + 1) PAST_COLUMNS = c.further-column.ensures in
    record {
      bound = omega (arith, one_further);
      lengths = rw count (rest_of (set_at now c.args.set).count words rest (rw items at c.loop-words.invariant.lengths));
      column = λ number cut. let so_far = c.loop-words.invariant.column number cut in omega (arith, so_far, more, one_further);
      left = λ number cut.
          ap (λ n. assigned next c.args.set n rest) (omega (arith, more))
          ∙ column_set now next c.args.set (number + length c.loop-words.yielded) words rest (c.set_column.ensures (number + length c.loop-words.yielded) (c.loop-words.invariant.column number cut))
          ∙ ap (assigned now c.args.set (number + length c.loop-words.yielded)) (sym items)
          ∙ c.loop-words.invariant.left number cut;
    }
