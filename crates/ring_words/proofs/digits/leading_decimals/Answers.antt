use Rattle.std.proofs.Common.{◌≡◌, ◌-◌, ◌*◌, ◌^◌, ◌<◌, cond, true, length, take, get_or, sym, ap, ◌∙◌, arith, eq-eqb, ne_eqb, length-take-le}
use Rattle.std.specs.Char.{is_ascii_digit}
use Rattle.std.specs.List.{prefix_len}
use Rattle.std.specs.Str.Parse.{digits_value_after}
use Rattle.std.proofs.lemmas.List.Sums.{prefix_len-drop_yes, prefix_len-drop_no, prefix_len-drop_all}
use Rattle.ring_words.specs.Cell as spec
use Rattle.ring_words.proofs.Decimals.{units_more, units_same, fine_before, fine_after}
use Rattle.ring_words.proofs.DigitValues.{filled}
use Rattle.ring_words.proofs.digits.leading_decimals.Goals as goal
use Rattle.ring_words.proofs.digits.leading_decimals.Goals.{then-size-scale, else-size-scale+then-bytes-size-ne-ZERO, else-size-scale+else-bytes-size-ne-ZERO, then-loop-size-test+else-is_ascii_digit, else-loop-size-test}

pub loop-size-preserved : goal.loop-size-preserved
loop-size-preserved c =
    let bytes = c.args.bytes.now in
    let d = c.args.d in
    let at = c.loop-size.size in
    let found = c.loop-size.invariant in
    let digit = c.if-is_ascii_digit.ensures in
    let inside : at < length bytes = omega arith in
    record {
      within = omega arith;
      left = omega (arith, found.left, prefix_len-drop_yes is_ascii_digit bytes at 0 inside (sym digit.value));
      units_are = elim c.if-size-scale.branch [
        | then-size-scale w ↦ w.units-is ∙ w.with_digit-units.ensures ∙ units_more d c.args.whole bytes at c.loop-size.units inside (omega arith) digit.cases.0 digit.cases.1 found.units_are
        | else-size-scale+then-bytes-size-ne-ZERO w ↦ w.units-is ∙ found.units_are ∙ ap (λ ds. spec.cut (digits_value_after 10 c.args.whole ds)) (sym (units_same d bytes at inside (omega arith)))
        | else-size-scale+else-bytes-size-ne-ZERO w ↦ w.units-is ∙ found.units_are ∙ ap (λ ds. spec.cut (digits_value_after 10 c.args.whole ds)) (sym (units_same d bytes at inside (omega arith)))
      ];
      too_fine_is = elim c.if-size-scale.branch [
        | then-size-scale w ↦ w.too_fine-is ∙ found.too_fine_is ∙ sym (fine_before d bytes at inside (omega arith))
        | else-size-scale+then-bytes-size-ne-ZERO w ↦ w.too_fine-is ∙ ap (λ z. cond z (spec.is_too_fine d (take at bytes)) true) (sym (ne_eqb (get_or bytes at 0) 48 (omega arith))) ∙ sym (fine_after d bytes at inside (omega arith))
        | else-size-scale+else-bytes-size-ne-ZERO w ↦ w.too_fine-is ∙ found.too_fine_is ∙ ap (λ z. cond z (spec.is_too_fine d (take at bytes)) true) (sym (eq-eqb (get_or bytes at 0) 48 (omega arith))) ∙ sym (fine_after d bytes at inside (omega arith))
      ];
    }

pub returns-clause-units : goal.returns-clause-units
returns-clause-units c =
    let bytes = c.args.bytes.now in
    let d = c.args.d in
    let at = c.loop-size.size in
    let found = c.loop-size.invariant in
    let done : prefix_len is_ascii_digit bytes ≡ at = elim c.loop-size-test.branch [
      | then-loop-size-test+else-is_ascii_digit w ↦ omega (arith, found.left, prefix_len-drop_no is_ascii_digit bytes at 0 (omega arith) (sym w.is_ascii_digit.ensures.value ∙ w.if-is_ascii_digit.false))
      | else-loop-size-test w ↦ omega (arith, found.left, prefix_len-drop_all is_ascii_digit bytes at (omega arith))
    ] in
    let long : length (take at bytes) ≡ at = length-take-le at bytes found.within in
    c.with_zeros.ensures
    ∙ ap (λ n. spec.cut (c.loop-size.units * 10 ^ n)) c.saturating_sub-missing.ensures
    ∙ ap (λ n. spec.cut (c.loop-size.units * 10 ^ (d - n))) (sym long)
    ∙ filled d c.args.whole c.loop-size.units (take at bytes) found.units_are
    ∙ ap (λ n. spec.cut (digits_value_after 10 c.args.whole (spec.decimals_to d (take n bytes)))) (sym done)
