use Rattle.std.proofs.Common.{◌≡◌, ◌⊎◌, Err, rules}
use Rattle.typed_tree.specs.declared.fault.CheckFault.TheVariants.{Memory}
use Rattle.typed_tree.specs.Expressions.{expression, expressions}
use Rattle.expression_types.proofs.Compositions.{rescale_walks, isqrt_walks, quot_first_refused, quot_second_refused, quot_made, dot_first_refused, dot_second_refused, dot_made, args_refused, field_args_refused, reference_made, row_made}
use Rattle.expression_types.proofs.trees.+expression.Goals as goal

pub expression-returns-in_err-dividend-in-Quot : goal.expression-returns-in_err-dividend-in-Quot
expression-returns-in_err-dividend-in-Quot t c =
    let env = c.args.environment.now in
    let fault = c.in_err-dividend-in-Quot.field-0.0 in
    let part : (fault ≡ Memory) ⊎ (expression env c.in-Quot.dividend c.args.next.now ≡ Err fault) = rw c.get-in-Quot.ensures at c.in_err-dividend-in-Quot.ensures in
    let whole : (fault ≡ Memory) ⊎ (expression env c.args.tree.now c.args.next.now ≡ Err fault) = rw c.in-Quot.is (quot_first_refused env c.in-Quot.line c.in-Quot.dividend c.in-Quot.divisor c.in-Quot.scale c.args.next.now fault part) in
    search (rules, whole)

pub expression-returns-in_err-divisor-in-Quot : goal.expression-returns-in_err-divisor-in-Quot
expression-returns-in_err-divisor-in-Quot t c =
    let env = c.args.environment.now in
    let fault = c.in_err-divisor-in-Quot.field-0.0 in
    let part : (fault ≡ Memory) ⊎ (expression env c.in-Quot.divisor c.expression.new.next ≡ Err fault) = rw c.get-in-Quot-2.ensures at c.in_err-divisor-in-Quot.ensures in
    let whole : (fault ≡ Memory) ⊎ (expression env c.args.tree.now c.args.next.now ≡ Err fault) = rw c.in-Quot.is (quot_second_refused env c.in-Quot.line c.in-Quot.dividend c.in-Quot.divisor c.in-Quot.scale c.args.next.now c.expression.new.next c.in_ok-dividend-in-Quot.dividend fault (rw c.get-in-Quot.ensures at c.in_ok-dividend-in-Quot.ensures) part) in
    search (rules, whole)

pub expression-returns-in_ok-divisor-in-Quot : goal.expression-returns-in_ok-divisor-in-Quot
expression-returns-in_ok-divisor-in-Quot t c = search (rules, quot_made)

pub expression-returns-in_err-left-in-Dot : goal.expression-returns-in_err-left-in-Dot
expression-returns-in_err-left-in-Dot t c =
    let env = c.args.environment.now in
    let fault = c.in_err-left-in-Dot.field-0.0 in
    let part : (fault ≡ Memory) ⊎ (expression env c.in-Dot.left c.args.next.now ≡ Err fault) = rw c.get-in-Dot.ensures at c.in_err-left-in-Dot.ensures in
    let whole : (fault ≡ Memory) ⊎ (expression env c.args.tree.now c.args.next.now ≡ Err fault) = rw c.in-Dot.is (dot_first_refused env c.in-Dot.line c.in-Dot.left c.in-Dot.right c.args.next.now fault part) in
    search (rules, whole)

pub expression-returns-in_err-right-in-Dot : goal.expression-returns-in_err-right-in-Dot
expression-returns-in_err-right-in-Dot t c =
    let env = c.args.environment.now in
    let fault = c.in_err-right-in-Dot.field-0.0 in
    let part : (fault ≡ Memory) ⊎ (expression env c.in-Dot.right c.expression-in-Dot.new.next ≡ Err fault) = rw c.get-in-Dot-2.ensures at c.in_err-right-in-Dot.ensures in
    let whole : (fault ≡ Memory) ⊎ (expression env c.args.tree.now c.args.next.now ≡ Err fault) = rw c.in-Dot.is (dot_second_refused env c.in-Dot.line c.in-Dot.left c.in-Dot.right c.args.next.now c.expression-in-Dot.new.next c.in_ok-left-in-Dot.left fault (rw c.get-in-Dot.ensures at c.in_ok-left-in-Dot.ensures) part) in
    search (rules, whole)

pub expression-returns-in_ok-right-in-Dot : goal.expression-returns-in_ok-right-in-Dot
expression-returns-in_ok-right-in-Dot t c = search (rules, dot_made)

pub expression-returns-in_err-args-in-Ref : goal.expression-returns-in_err-args-in-Ref
expression-returns-in_err-args-in-Ref t c =
    let env = c.args.environment.now in
    let fault = c.in_err-args-in-Ref.field-0.0 in
    let part : (fault ≡ Memory) ⊎ (expressions env c.in-Ref.args c.args.next.now ≡ Err fault) = rw c.as_slice.ensures at c.in_err-args-in-Ref.ensures in
    let whole : (fault ≡ Memory) ⊎ (expression env c.args.tree.now c.args.next.now ≡ Err fault) = rw c.in-Ref.is (args_refused env c.in-Ref.line c.in-Ref.name c.in-Ref.args c.in-Ref.field c.in-Ref.field_args c.in-Ref.rank c.args.next.now fault part) in
    search (rules, whole)

pub expression-returns-in_err-field_args-in-Ref : goal.expression-returns-in_err-field_args-in-Ref
expression-returns-in_err-field_args-in-Ref t c =
    let env = c.args.environment.now in
    let fault = c.in_err-field_args-in-Ref.field-0.0 in
    let part : (fault ≡ Memory) ⊎ (expressions env c.in-Ref.field_args c.expressions.new.next ≡ Err fault) = rw c.as_slice-in-Ref.ensures at c.in_err-field_args-in-Ref.ensures in
    let whole : (fault ≡ Memory) ⊎ (expression env c.args.tree.now c.args.next.now ≡ Err fault) = rw c.in-Ref.is (field_args_refused env c.in-Ref.line c.in-Ref.name c.in-Ref.args c.in-Ref.field c.in-Ref.field_args c.in-Ref.rank c.args.next.now c.expressions.new.next c.in_ok-args-in-Ref.args fault (rw c.as_slice.ensures at c.in_ok-args-in-Ref.ensures) part) in
    search (rules, whole)

pub expression-returns-in_ok-field_args-in-Ref : goal.expression-returns-in_ok-field_args-in-Ref
expression-returns-in_ok-field_args-in-Ref t c = search (rules, reference_made)

pub expression-returns-in-Rescale : goal.expression-returns-in-Rescale
expression-returns-in-Rescale t c =
    rw c.in-Rescale.is (rescale_walks c.args.environment.now c.in-Rescale.line c.in-Rescale.value c.in-Rescale.scale c.args.next.now _ _ (rw c.get-in-Rescale.ensures at c.rescaled.ensures))

pub expression-returns-in-Isqrt : goal.expression-returns-in-Isqrt
expression-returns-in-Isqrt t c =
    rw c.in-Isqrt.is (isqrt_walks c.args.environment.now c.in-Isqrt.line c.in-Isqrt.value c.in-Isqrt.scale c.args.next.now _ _ (rw c.get-in-Isqrt.ensures at c.root.ensures))

pub typed_row-returns : goal.typed_row-returns
typed_row-returns t c = row_made c.args.environment.now c.args.row.now c.args.next.now c.expressions.new.next c.in_ok-entries.entries (rw c.as_slice.ensures at c.in_ok-entries.ensures)
