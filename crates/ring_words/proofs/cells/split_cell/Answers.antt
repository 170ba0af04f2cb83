use Rattle.std.proofs.Common.{◌≡◌, ℕ, ◌+◌, not, ◌&&◌, Bool, false, eqb, rules, sym, ap, ◌∙◌, arith, eq-eqb, drop}
use Rattle.std.proofs.lemmas.Bool.Decides.{nat_tests}
use Rattle.std.proofs.lemmas.List.{take_rest}
use Rattle.ring_words.specs.Cell as spec
use Rattle.ring_words.proofs.DigitValues.{filled_whole, whole_and_decimals}
use Rattle.ring_words.proofs.Splits.{HasNoPoint, HasPoint, parts-negative, parts_no_point, parts_point}
use Rattle.ring_words.proofs.cells.split_cell.Goals as goal
use Rattle.ring_words.proofs.cells.split_cell.Goals.{then-negative, else-negative, then-run-eq0-via-then-run-eq0, then-run-eq0-via-else-run-eq0+then-not-starts_with}

no_point : (n : ℕ) (point : Bool) → n ≡ 0 → (not (eqb n 0) && point) ≡ false
no_point n point e = ap (λ b. not b && point) (eq-eqb n 0 e)

after_digits : (n : ℕ) (point : Bool) → point ≡ false → (not (eqb n 0) && point) ≡ false
after_digits n point e = grind arith

pub returns-then-run-eq0-clause-units : goal.returns-then-run-eq0-clause-units
returns-then-run-eq0-clause-units c =
    let rest = c.args.rest.now in
    let sign = c.if-negative.sign in
    let n = c.leading_digits-run.result.size in
    let is : HasNoPoint rest sign n = record {
      sign_is = elim c.if-negative.branch [
        | then-negative w ↦ rw (← c.starts_with-negative.ensures.value, w.if-negative.true) (sym w.sign-is)
        | else-negative w ↦ rw (← c.starts_with-negative.ensures.value, w.if-negative.false) (sym w.sign-is)
      ];
      whole_is = sym (rw take_rest at c.leading_digits-run.ensures.size);
      no_point = elim c.then-run-eq0.branch [
        | then-run-eq0-via-then-run-eq0 w ↦ no_point _ _ w.if-run-eq0.true
        | then-run-eq0-via-else-run-eq0+then-not-starts_with w ↦ after_digits _ _ (sym (rw take_rest at w.starts_with.ensures.value) ∙ w.if-not-starts_with.true)
      ];
    } in
    let split = parts_no_point rest sign n is in
    let value = rw take_rest at c.leading_digits-run.ensures.value in
    rw (split.0, split.1) (c.with_zeros.ensures ∙ filled_whole c.args.d c.leading_digits-run.result.value (spec.digits_at (drop sign rest)) value)

pub returns : goal.returns
returns c =
    let rest = c.args.rest.now in
    let sign = c.if-negative.sign in
    let n = c.leading_digits-run.result.size in
    let m = c.leading_decimals-decimals.result.size in
    let is : HasPoint rest sign n m = record {
      sign_is = elim c.if-negative.branch [
        | then-negative w ↦ rw (← c.starts_with-negative.ensures.value, w.if-negative.true) (sym w.sign-is)
        | else-negative w ↦ rw (← c.starts_with-negative.ensures.value, w.if-negative.false) (sym w.sign-is)
      ];
      whole_is = sym (rw take_rest at c.leading_digits-run.ensures.size);
      not_none = grind (arith, nat_tests);
      point = sym (rw take_rest at c.starts_with.ensures.value) ∙ c.if-not-starts_with.false;
      decimals_is = sym (rw take_rest at c.leading_decimals-decimals.ensures.size);
    } in
    let split = parts_point rest sign n m is in
    let value = rw take_rest at c.leading_digits-run.ensures.value in
    let units = rw take_rest at c.leading_decimals-decimals.ensures.units in
    let fine = rw take_rest at c.leading_decimals-decimals.ensures.too_fine in
    record {
      negative = c.starts_with-negative.ensures.value ∙ sym (parts-negative rest);
      units = rw (split.0, split.1) (whole_and_decimals c.args.d c.leading_digits-run.result.value c.leading_decimals-decimals.result.units (spec.digits_at (drop sign rest)) (spec.digits_at (drop (sign + n + 1) rest)) value units);
      too_fine = fine ∙ ap (spec.is_too_fine c.args.d) (sym split.1);
      size = sym split.2;
      complete = sym split.3;
      within = search rules;
    }
