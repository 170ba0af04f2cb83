use Rattle.std.proofs.Common.{◌≡◌, ◌≤◌, length, inl, inr, ap, ◌∙◌, arith}
use Rattle.algebra_meaning.specs.declared.contribution.Contribution.{Contribution}
use Rattle.assembly_sums.proofs.Contributed.{sums_added, sums_stay}
use Rattle.assembly_sums.proofs.sums.Sums.add.Goals as goal
use Rattle.assembly_sums.proofs.sums.Sums.add.Goals.{else-index-results-via-then-index-results+else-index-len, else-index-results-via-else-index-results}

pub returns-then-index-len : goal.returns-then-index-len
returns-then-index-len c = λ sets contributed known.
    let x : Contribution = record { result = c.args.number; row = c.args.row; column = c.args.column; block = record { rows = c.args.rows; columns = c.args.columns; words = c.args.words.now } } in
    sums_added c.args.results.now x _ c.index_mut.result.now c.self.inside.values.items c.index_mut.result.now c.add_in.new.value c.region_of-region.result
    c.if-index-results.true c.region_of-region.ensures c.index_mut.ensures.value c.add_in.ensures sets contributed (c.self.view_is ∙ known)

pub returns-else-index-results : goal.returns-else-index-results
returns-else-index-results c = λ sets contributed known.
    let x : Contribution = record { result = c.args.number; row = c.args.row; column = c.args.column; block = record { rows = c.args.rows; columns = c.args.columns; words = c.args.words.now } } in
    sums_stay c.args.results.now x c.args.self.now (elim c.else-index-results.branch [
      | else-index-results-via-then-index-results+else-index-len w ↦
          let kept : length c.self.inside.values.items ≡ length c.args.self.now = ap length c.self.view_is in
          let long : w.len.result ≡ length c.self.inside.values.items = w.len.ensures ∙ c.self.inside.values.ok.0 in
          let past : w.len.result ≤ c.args.number = w.if-index-len.false in
          inr (omega (arith, kept, long, past))
      | else-index-results-via-else-index-results w ↦ inl (omega arith)
    ]) sets contributed known
