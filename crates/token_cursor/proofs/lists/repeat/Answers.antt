use Rattle.std.proofs.Common.{rules, ◌≡◌, ◌∙◌, ◌∷◌, true, [], ◌++◌, arith, refl, inl, inr}
use Rattle.std.specs.Prelude.{Ok, Err}
use Rattle.std.proofs.lemmas.Grind.{common_steps}
use Rattle.sim_grammar.specs.Read.{◌▹◌, starts, skip}
use Rattle.token_cursor.proofs.Repeat.{repeat_more, repeat_done, before_halts, part_halts}
use Rattle.token_cursor.proofs.lists.repeat.Goals as goal
use Rattle.token_cursor.proofs.lists.repeat.Goals.{then-loop-fuel-test+else-is_at_one, else-loop-fuel-test}

pub returns-in_err-skip : goal.returns-in_err-skip
returns-in_err-skip g c = λ reader follows.
    let all = c.loop-fuel.invariant reader follows in
    let begins : starts c.args.starts.now c.loop-fuel.cursor ≡ true = cc in
    let skips = rw c.in_err-skip.was at c.skip.ensures in
    let same : c.from_residual.result ≡ Err c.in_err-skip.field-0.0 = search rules in
    rw (← all, same) (before_halts c.args.starts.now c.args.before.now reader c.loop-fuel.fuel c.loop-fuel.values c.loop-fuel.cursor c.skip.new.self _ c.loop-fuel-test.true begins skips)

pub returns-in_err-part : goal.returns-in_err-part
returns-in_err-part g c = λ reader follows.
    let all = c.loop-fuel.invariant reader follows in
    let begins : starts c.args.starts.now c.loop-fuel.cursor ≡ true = cc in
    let skipped : skip c.args.before.now c.loop-fuel.cursor ≡ Ok c.skip.new.self = rw c.in_ok-skip.was at c.skip.ensures in
    let reads = rw c.in_err-part.was at (follows.reads _ _ c.part.result c.part.ensures) in
    let same : c.from_residual-in_err-part.result ≡ Err c.in_err-part.field-0.0 = search rules in
    rw (← all, same) (part_halts c.args.starts.now c.args.before.now reader c.loop-fuel.fuel c.loop-fuel.values c.loop-fuel.cursor c.part.new.arg2 _ c.loop-fuel-test.true begins c.skip.new.self skipped reads)

pub loop-fuel-preserved : goal.loop-fuel-preserved
loop-fuel-preserved g c = λ reader follows.
    let begins : starts c.args.starts.now c.loop-fuel.cursor ≡ true = cc in
    let skipped : skip c.args.before.now c.loop-fuel.cursor ≡ Ok c.skip.new.self = rw c.in_ok-skip.was at c.skip.ensures in
    let reads = rw c.in_ok-part.was at (follows.reads _ _ c.part.result c.part.ensures) in
    let grown : c.push.new.self ≡ c.loop-fuel.values ++ c.in_ok-part.field-0 ∷ [] = grind (arith, common_steps) in
    rw grown (repeat_more c.args.starts.now (c.args.before.now ▹ reader) c.loop-fuel.fuel c.loop-fuel.values c.loop-fuel.cursor c.part.new.arg2 c.in_ok-part.field-0 c.loop-fuel-test.true begins (rw (skipped, reads) refl)
    ∙ c.loop-fuel.invariant reader follows)

pub returns : goal.returns
returns g c = λ reader follows.
    let all = c.loop-fuel.invariant reader follows in
    elim c.loop-fuel-test.branch [
      | then-loop-fuel-test+else-is_at_one w ↦ rw (← all) (repeat_done _ _ c.loop-fuel.fuel _ _ (inr (cc)))
      | else-loop-fuel-test w ↦ rw (← all) (repeat_done _ _ c.loop-fuel.fuel _ _ (inl (omega arith)))
    ]
