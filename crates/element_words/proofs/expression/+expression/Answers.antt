use Rattle.std.proofs.Common.{◌≡◌, List, ℕ, [], drop, length, map, ap, sym, ◌∙◌, arith, rules, Ok, Err}
use Rattle.std.proofs.Math.Seq.{take-length}
use Rattle.std.proofs.lemmas.List.{drop_all}
use Rattle.vocabulary.specs.Answers.{fold_result}
use Rattle.ring_words.specs.declared.trap.TrapKind.{TrapKind}
use Rattle.algebra_meaning.specs.declared.stopped.Stopped.TheVariants.{By}
use Rattle.type_rules.specs.Types.{scale_of}
use Rattle.typed_tree.specs.declared.expression.TypedExpr.{TypedExpr}
use Rattle.value_algebra.specs.Value.{number}
use Rattle.typed_tree.specs.declared.expression.TypedForm.{TypedForm}
use Rattle.typed_tree.specs.declared.expression.TypedRow.{out-TypedRow}
use Rattle.algebra_meaning.specs.Expression.{chain, entries, factor_of, form_of, meaning, meanings, part_of, quotient, reference, row_of, scalar_product, term_of, total, hosted}
use Rattle.word_stacks.specs.Stack.{value_of}
use Rattle.word_stacks.specs.Steps.{divided, product_of, total_of, words_meant}
use Rattle.element_words.proofs.Folds.{entries_begun, entry_stopped, factor_multiplied, factor_refused, first_of, stepped, term_added, term_refused, with_word, words_stopped, words_taken}
use Rattle.element_words.proofs.Forms.{form_dot, form_quot, form_ref, dot_first, dot_from, dot_second, quotient_first, quotient_is, quotient_second, quotient_stopped, reference_args, reference_indices, reference_is}
use Rattle.element_words.proofs.Parts.{kept_through, row_above}
use Rattle.element_words.proofs.expression.+expression.Goals as goal

pub total-loop-term-preserved : goal.total-loop-term-preserved
total-loop-term-preserved g t c = record {
  folded = term_added c.expression_laws.ensures (hosted g.H.HostMeaning.answer c.args.scope.now) (total_of c.loop-term.total (drop c.len-base.result c.loop-term.stack.items))
      (value_of c.in_ok-next.next (drop c.len-base.result c.next_total.new.stack.items)) (total (map (term_of (hosted g.H.HostMeaning.answer c.args.scope.now)) c.args.terms.now))
      c.args.terms.now c.loop-term.term-index c.term-item.result c.loop-term-test.true c.term-item.is c.in_ok-next.ensures.value c.loop-term.invariant.folded;
  kept = c.in_ok-next.ensures.kept ∙ c.loop-term.invariant.kept;
  within = c.in_ok-next.ensures.within;
}

pub chain-loop-factor-preserved : goal.chain-loop-factor-preserved
chain-loop-factor-preserved g t c = record {
  folded = factor_multiplied c.expression_laws.ensures (hosted g.H.HostMeaning.answer c.args.scope.now) (product_of c.loop-factor.so_far (drop c.len-base.result c.loop-factor.stack.items))
      (value_of c.in_ok-product.product (drop c.len-base.result c.next_product.new.stack.items)) (chain (map (factor_of (hosted g.H.HostMeaning.answer c.args.scope.now)) c.args.factors.now))
      c.args.factors.now c.loop-factor.factor-index c.factor-item.result c.loop-factor-test.true c.factor-item.is c.in_ok-product.ensures.value c.loop-factor.invariant.folded;
  kept = c.in_ok-product.ensures.kept ∙ c.loop-factor.invariant.kept;
  within = c.in_ok-product.ensures.within;
}

pub push_row-loop-e-init : goal.push_row-loop-e-init
push_row-loop-e-init g t c = record {
  folded = let none : drop (length c.args.stack.now.items) c.args.stack.now.items ≡ [] = drop_all (length c.args.stack.now.items) c.args.stack.now.items (omega arith) in
      ap (λ l. fold_result (stepped with_word) l (map (first_of (hosted g.H.HostMeaning.answer c.args.scope.now)) c.args.expressions.now)) none ∙ entries_begun (hosted g.H.HostMeaning.answer c.args.scope.now) c.args.expressions.now;
  kept = take-length c.args.stack.now.items;
}

pub push_rows-loop-row-preserved : goal.push_rows-loop-row-preserved
push_rows-loop-row-preserved g t c =
    let before : List ℕ = c.args.stack.now.items in
    let old : List ℕ = c.loop-row.stack.items in
    let new : List ℕ = c.push_row.new.stack.items in
    let row = c.row-item.result in
    let meant : words_meant (meanings (hosted g.H.HostMeaning.answer c.args.scope.now) (out-TypedRow row).entries) ≡ Ok (drop (length old) new) = rw c.as_slice.ensures at c.in_ok-push_row.ensures.value in
    record {
      folded = words_taken c.expression_laws.ensures (hosted g.H.HostMeaning.answer c.args.scope.now) (drop (length before) old) (drop (length before) new) (drop (length old) new) (entries (map (row_of (hosted g.H.HostMeaning.answer c.args.scope.now)) c.args.rows.now))
          c.args.rows.now c.loop-row.row-index row c.loop-row-test.true c.row-item.is meant
          (row_above before old new c.loop-row.invariant.kept c.in_ok-push_row.ensures.kept) c.loop-row.invariant.folded;
      kept = kept_through before old new c.loop-row.invariant.kept c.in_ok-push_row.ensures.kept;
    }

pub total-returns-in_err-next-clause-value : goal.total-returns-in_err-next-clause-value
total-returns-in_err-next-clause-value g t c =
    let h : (kind : TrapKind) → c.in_err-next.field-0.0 ≡ By kind → total (map (term_of (hosted g.H.HostMeaning.answer c.args.scope.now)) c.args.terms.now) ≡ Err kind =
    term_refused c.expression_laws.ensures (hosted g.H.HostMeaning.answer c.args.scope.now) (total_of c.loop-term.total (drop c.len-base.result c.loop-term.stack.items)) (total (map (term_of (hosted g.H.HostMeaning.answer c.args.scope.now)) c.args.terms.now))
    c.args.terms.now c.loop-term.term-index c.term-item.result c.in_err-next.field-0.0 c.loop-term-test.true c.term-item.is c.in_err-next.ensures.value c.loop-term.invariant.folded in
    search rules

pub chain-returns-in_err-product-clause-value : goal.chain-returns-in_err-product-clause-value
chain-returns-in_err-product-clause-value g t c =
    let h : (kind : TrapKind) → c.in_err-product.field-0.0 ≡ By kind → chain (map (factor_of (hosted g.H.HostMeaning.answer c.args.scope.now)) c.args.factors.now) ≡ Err kind =
    factor_refused c.expression_laws.ensures (hosted g.H.HostMeaning.answer c.args.scope.now) (product_of c.loop-factor.so_far (drop c.len-base.result c.loop-factor.stack.items)) (chain (map (factor_of (hosted g.H.HostMeaning.answer c.args.scope.now)) c.args.factors.now))
    c.args.factors.now c.loop-factor.factor-index c.factor-item.result c.in_err-product.field-0.0 c.loop-factor-test.true c.factor-item.is c.in_err-product.ensures.value c.loop-factor.invariant.folded in
    search rules

pub push_row-returns-in_err-word-clause-value : goal.push_row-returns-in_err-word-clause-value
push_row-returns-in_err-word-clause-value g t c =
    let scope = hosted g.H.HostMeaning.answer c.args.scope.now in
    let h : (kind : TrapKind) → c.in_err-word.field-0.0 ≡ By kind → words_meant (meanings scope c.args.expressions.now) ≡ Err kind =
    entry_stopped c.item_laws.ensures scope (drop (length c.args.stack.now.items) c.loop-e.stack.items) (words_meant (meanings scope c.args.expressions.now))
    c.args.expressions.now c.loop-e.e-index c.e-item.result c.in_err-word.field-0.0 c.loop-e-test.true c.e-item.is c.in_err-word.ensures.value c.loop-e.invariant.folded in
    search rules

pub push_rows-returns-in_err-push_row-clause-value : goal.push_rows-returns-in_err-push_row-clause-value
push_rows-returns-in_err-push_row-clause-value g t c =
    let row = c.row-item.result in
    let stops : (kind : TrapKind) → c.in_err-push_row.field-0.0 ≡ By kind → words_meant (meanings (hosted g.H.HostMeaning.answer c.args.scope.now) (out-TypedRow row).entries) ≡ Err kind =
    rw c.as_slice.ensures at c.in_err-push_row.ensures.value in
    let h : (kind : TrapKind) → c.in_err-push_row.field-0.0 ≡ By kind → entries (map (row_of (hosted g.H.HostMeaning.answer c.args.scope.now)) c.args.rows.now) ≡ Err kind =
    words_stopped c.expression_laws.ensures (hosted g.H.HostMeaning.answer c.args.scope.now) (drop (length c.args.stack.now.items) c.loop-row.stack.items) (entries (map (row_of (hosted g.H.HostMeaning.answer c.args.scope.now)) c.args.rows.now))
    c.args.rows.now c.loop-row.row-index row c.in_err-push_row.field-0.0 c.loop-row-test.true c.row-item.is stops c.loop-row.invariant.folded in
    search rules

pub form_operand-returns-in_err-args-in-Ref-clause-value : goal.form_operand-returns-in_err-args-in-Ref-clause-value
form_operand-returns-in_err-args-in-Ref-clause-value g t c =
    let h : (kind : TrapKind) → c.in_err-args-in-Ref.field-0.0 ≡ By kind
    → reference (hosted g.H.HostMeaning.answer c.args.scope.now) c.in-Ref.referent (map (part_of (hosted g.H.HostMeaning.answer c.args.scope.now)) c.as_slice.result.now) (map (part_of (hosted g.H.HostMeaning.answer c.args.scope.now)) c.in-Ref.field_args) ≡ Err kind =
    λ kind is. reference_args (hosted g.H.HostMeaning.answer c.args.scope.now) c.in-Ref.referent c.as_slice.result.now c.in-Ref.field_args kind (c.in_err-args-in-Ref.ensures.value kind is) in
    let e : form_of (hosted g.H.HostMeaning.answer c.args.scope.now) c.args.form.now c.args.value_type ≡ reference (hosted g.H.HostMeaning.answer c.args.scope.now) c.in-Ref.referent (map (part_of (hosted g.H.HostMeaning.answer c.args.scope.now)) c.as_slice.result.now) (map (part_of (hosted g.H.HostMeaning.answer c.args.scope.now)) c.in-Ref.field_args) =
    ap (λ (f : TypedForm). form_of (hosted g.H.HostMeaning.answer c.args.scope.now) f c.args.value_type) c.in-Ref.is ∙ form_ref (hosted g.H.HostMeaning.answer c.args.scope.now) c.in-Ref.referent c.in-Ref.args c.in-Ref.field_args c.args.value_type
    ∙ ap (λ l. reference (hosted g.H.HostMeaning.answer c.args.scope.now) c.in-Ref.referent (map (part_of (hosted g.H.HostMeaning.answer c.args.scope.now)) l) (map (part_of (hosted g.H.HostMeaning.answer c.args.scope.now)) c.in-Ref.field_args)) (sym c.as_slice.ensures) in
    let all : (kind : TrapKind) → c.in_err-args-in-Ref.field-0.0 ≡ By kind → form_of (hosted g.H.HostMeaning.answer c.args.scope.now) c.args.form.now c.args.value_type ≡ Err kind = λ kind is. e ∙ h kind is in
    search rules

pub form_operand-returns-in_err-indices-in-Ref-clause-value : goal.form_operand-returns-in_err-indices-in-Ref-clause-value
form_operand-returns-in_err-indices-in-Ref-clause-value g t c =
    let h : (kind : TrapKind) → c.in_err-indices-in-Ref.field-0.0 ≡ By kind
    → reference (hosted g.H.HostMeaning.answer c.args.scope.now) c.in-Ref.referent (map (part_of (hosted g.H.HostMeaning.answer c.args.scope.now)) c.as_slice.result.now) (map (part_of (hosted g.H.HostMeaning.answer c.args.scope.now)) c.as_slice-in-Ref.result.now) ≡ Err kind =
    λ kind is. reference_indices (hosted g.H.HostMeaning.answer c.args.scope.now) c.in-Ref.referent c.as_slice.result.now c.as_slice-in-Ref.result.now c.in_ok-args-in-Ref.args kind c.in_ok-args-in-Ref.ensures.value (c.in_err-indices-in-Ref.ensures.value kind is) in
    let e : form_of (hosted g.H.HostMeaning.answer c.args.scope.now) c.args.form.now c.args.value_type ≡ reference (hosted g.H.HostMeaning.answer c.args.scope.now) c.in-Ref.referent (map (part_of (hosted g.H.HostMeaning.answer c.args.scope.now)) c.as_slice.result.now) (map (part_of (hosted g.H.HostMeaning.answer c.args.scope.now)) c.as_slice-in-Ref.result.now) =
    ap (λ (f : TypedForm). form_of (hosted g.H.HostMeaning.answer c.args.scope.now) f c.args.value_type) c.in-Ref.is ∙ form_ref (hosted g.H.HostMeaning.answer c.args.scope.now) c.in-Ref.referent c.in-Ref.args c.in-Ref.field_args c.args.value_type
    ∙ ap (λ l. reference (hosted g.H.HostMeaning.answer c.args.scope.now) c.in-Ref.referent (map (part_of (hosted g.H.HostMeaning.answer c.args.scope.now)) l) (map (part_of (hosted g.H.HostMeaning.answer c.args.scope.now)) c.in-Ref.field_args)) (sym c.as_slice.ensures)
    ∙ ap (λ l. reference (hosted g.H.HostMeaning.answer c.args.scope.now) c.in-Ref.referent (map (part_of (hosted g.H.HostMeaning.answer c.args.scope.now)) c.as_slice.result.now) (map (part_of (hosted g.H.HostMeaning.answer c.args.scope.now)) l)) (sym c.as_slice-in-Ref.ensures) in
    let all : (kind : TrapKind) → c.in_err-indices-in-Ref.field-0.0 ≡ By kind → form_of (hosted g.H.HostMeaning.answer c.args.scope.now) c.args.form.now c.args.value_type ≡ Err kind = λ kind is. e ∙ h kind is in
    search rules

pub form_operand-returns-in_ok-operand-in-Ref-clause-value : goal.form_operand-returns-in_ok-operand-in-Ref-clause-value
form_operand-returns-in_ok-operand-in-Ref-clause-value g t c =
    let same : c.indices-in-Ref.new.stack.items ≡ c.args.stack.now.items = c.in_ok-indices-in-Ref.ensures.kept ∙ c.in_ok-args-in-Ref.ensures.kept in
    let h : reference (hosted g.H.HostMeaning.answer c.args.scope.now) c.in-Ref.referent (map (part_of (hosted g.H.HostMeaning.answer c.args.scope.now)) c.as_slice.result.now) (map (part_of (hosted g.H.HostMeaning.answer c.args.scope.now)) c.as_slice-in-Ref.result.now)
    ≡ Ok (value_of c.in_ok-operand-in-Ref.operand (drop (length c.args.stack.now.items) c.referred.new.stack.items)) =
    reference_is (hosted g.H.HostMeaning.answer c.args.scope.now) c.in-Ref.referent c.as_slice.result.now c.as_slice-in-Ref.result.now c.in_ok-args-in-Ref.args c.in_ok-indices-in-Ref.indices c.in_ok-args-in-Ref.ensures.value c.in_ok-indices-in-Ref.ensures.value
    ∙ ap Ok (sym c.in_ok-operand-in-Ref.ensures.value ∙ ap (λ l. value_of c.in_ok-operand-in-Ref.operand (drop (length l) c.referred.new.stack.items)) same) in
    let e : form_of (hosted g.H.HostMeaning.answer c.args.scope.now) c.args.form.now c.args.value_type ≡ reference (hosted g.H.HostMeaning.answer c.args.scope.now) c.in-Ref.referent (map (part_of (hosted g.H.HostMeaning.answer c.args.scope.now)) c.as_slice.result.now) (map (part_of (hosted g.H.HostMeaning.answer c.args.scope.now)) c.as_slice-in-Ref.result.now) =
    ap (λ (f : TypedForm). form_of (hosted g.H.HostMeaning.answer c.args.scope.now) f c.args.value_type) c.in-Ref.is ∙ form_ref (hosted g.H.HostMeaning.answer c.args.scope.now) c.in-Ref.referent c.in-Ref.args c.in-Ref.field_args c.args.value_type
    ∙ ap (λ l. reference (hosted g.H.HostMeaning.answer c.args.scope.now) c.in-Ref.referent (map (part_of (hosted g.H.HostMeaning.answer c.args.scope.now)) l) (map (part_of (hosted g.H.HostMeaning.answer c.args.scope.now)) c.in-Ref.field_args)) (sym c.as_slice.ensures)
    ∙ ap (λ l. reference (hosted g.H.HostMeaning.answer c.args.scope.now) c.in-Ref.referent (map (part_of (hosted g.H.HostMeaning.answer c.args.scope.now)) c.as_slice.result.now) (map (part_of (hosted g.H.HostMeaning.answer c.args.scope.now)) l)) (sym c.as_slice-in-Ref.ensures) in
    e ∙ h

pub form_operand-returns-in_err-a-in-Quot-clause-value : goal.form_operand-returns-in_err-a-in-Quot-clause-value
form_operand-returns-in_err-a-in-Quot-clause-value g t c =
    let h : (kind : TrapKind) → c.in_err-a-in-Quot.field-0.0 ≡ By kind → quotient (scale_of c.args.value_type) (part_of (hosted g.H.HostMeaning.answer c.args.scope.now) c.get-in-Quot-3.result.now) (part_of (hosted g.H.HostMeaning.answer c.args.scope.now) c.in-Quot.divisor) ≡ Err kind =
    λ kind is. quotient_first (hosted g.H.HostMeaning.answer c.args.scope.now) (scale_of c.args.value_type) c.get-in-Quot-3.result.now c.in-Quot.divisor kind (c.in_err-a-in-Quot.ensures.value kind is) in
    let e : form_of (hosted g.H.HostMeaning.answer c.args.scope.now) c.args.form.now c.args.value_type ≡ quotient (scale_of c.args.value_type) (part_of (hosted g.H.HostMeaning.answer c.args.scope.now) c.get-in-Quot-3.result.now) (part_of (hosted g.H.HostMeaning.answer c.args.scope.now) c.in-Quot.divisor) =
    ap (λ (f : TypedForm). form_of (hosted g.H.HostMeaning.answer c.args.scope.now) f c.args.value_type) c.in-Quot.is ∙ form_quot (hosted g.H.HostMeaning.answer c.args.scope.now) c.in-Quot.dividend c.in-Quot.divisor c.args.value_type
    ∙ ap (λ (x : TypedExpr). quotient (scale_of c.args.value_type) (part_of (hosted g.H.HostMeaning.answer c.args.scope.now) x) (part_of (hosted g.H.HostMeaning.answer c.args.scope.now) c.in-Quot.divisor)) (sym c.get-in-Quot-3.ensures) in
    let all : (kind : TrapKind) → c.in_err-a-in-Quot.field-0.0 ≡ By kind → form_of (hosted g.H.HostMeaning.answer c.args.scope.now) c.args.form.now c.args.value_type ≡ Err kind = λ kind is. e ∙ h kind is in
    search rules

pub form_operand-returns-in_err-b-in-Quot-clause-value : goal.form_operand-returns-in_err-b-in-Quot-clause-value
form_operand-returns-in_err-b-in-Quot-clause-value g t c =
    let h : (kind : TrapKind) → c.in_err-b-in-Quot.field-0.0 ≡ By kind → quotient (scale_of c.args.value_type) (part_of (hosted g.H.HostMeaning.answer c.args.scope.now) c.get-in-Quot-3.result.now) (part_of (hosted g.H.HostMeaning.answer c.args.scope.now) c.get-in-Quot-4.result.now) ≡ Err kind =
    λ kind is. quotient_second (hosted g.H.HostMeaning.answer c.args.scope.now) (scale_of c.args.value_type) c.get-in-Quot-3.result.now c.get-in-Quot-4.result.now c.in_ok-a-in-Quot.a kind c.in_ok-a-in-Quot.ensures.value (c.in_err-b-in-Quot.ensures.value kind is) in
    let e : form_of (hosted g.H.HostMeaning.answer c.args.scope.now) c.args.form.now c.args.value_type ≡ quotient (scale_of c.args.value_type) (part_of (hosted g.H.HostMeaning.answer c.args.scope.now) c.get-in-Quot-3.result.now) (part_of (hosted g.H.HostMeaning.answer c.args.scope.now) c.get-in-Quot-4.result.now) =
    ap (λ (f : TypedForm). form_of (hosted g.H.HostMeaning.answer c.args.scope.now) f c.args.value_type) c.in-Quot.is ∙ form_quot (hosted g.H.HostMeaning.answer c.args.scope.now) c.in-Quot.dividend c.in-Quot.divisor c.args.value_type
    ∙ ap (λ (x : TypedExpr). quotient (scale_of c.args.value_type) (part_of (hosted g.H.HostMeaning.answer c.args.scope.now) x) (part_of (hosted g.H.HostMeaning.answer c.args.scope.now) c.in-Quot.divisor)) (sym c.get-in-Quot-3.ensures)
    ∙ ap (λ (x : TypedExpr). quotient (scale_of c.args.value_type) (part_of (hosted g.H.HostMeaning.answer c.args.scope.now) c.get-in-Quot-3.result.now) (part_of (hosted g.H.HostMeaning.answer c.args.scope.now) x)) (sym c.get-in-Quot-4.ensures) in
    let all : (kind : TrapKind) → c.in_err-b-in-Quot.field-0.0 ≡ By kind → form_of (hosted g.H.HostMeaning.answer c.args.scope.now) c.args.form.now c.args.value_type ≡ Err kind = λ kind is. e ∙ h kind is in
    search rules

pub form_operand-returns-in_err-word-in-Quot-clause-value : goal.form_operand-returns-in_err-word-in-Quot-clause-value
form_operand-returns-in_err-word-in-Quot-clause-value g t c =
    let from : c.scale_of-from.result ≡ scale_of c.get-in-Quot-3.result.now.node.value_type = c.scale_of-from.ensures ∙ ap (λ (e : TypedExpr). scale_of e.node.value_type) (c.get-in-Quot.ensures ∙ sym c.get-in-Quot-3.ensures) in
    let by : c.scale_of-by.result ≡ scale_of c.get-in-Quot-4.result.now.node.value_type = c.scale_of-by.ensures ∙ ap (λ (e : TypedExpr). scale_of e.node.value_type) (c.get-in-Quot-2.ensures ∙ sym c.get-in-Quot-4.ensures) in
    let same : divided c.in_ok-a-in-Quot.a (scale_of c.get-in-Quot-3.result.now.node.value_type) c.in_ok-b-in-Quot.b (scale_of c.get-in-Quot-4.result.now.node.value_type) (scale_of c.args.value_type)
    ≡ divided c.in_ok-a-in-Quot.a c.scale_of-from.result c.in_ok-b-in-Quot.b c.scale_of-by.result c.scale_of.result =
    ap (λ f. divided c.in_ok-a-in-Quot.a f c.in_ok-b-in-Quot.b (scale_of c.get-in-Quot-4.result.now.node.value_type) (scale_of c.args.value_type)) (sym from)
    ∙ ap (λ f. divided c.in_ok-a-in-Quot.a c.scale_of-from.result c.in_ok-b-in-Quot.b f (scale_of c.args.value_type)) (sym by)
    ∙ ap (λ f. divided c.in_ok-a-in-Quot.a c.scale_of-from.result c.in_ok-b-in-Quot.b c.scale_of-by.result f) (sym c.scale_of.ensures) in
    let h : (kind : TrapKind) → c.in_err-word-in-Quot.field-0.0 ≡ By kind → quotient (scale_of c.args.value_type) (part_of (hosted g.H.HostMeaning.answer c.args.scope.now) c.get-in-Quot-3.result.now) (part_of (hosted g.H.HostMeaning.answer c.args.scope.now) c.get-in-Quot-4.result.now) ≡ Err kind =
    λ kind is. quotient_stopped (hosted g.H.HostMeaning.answer c.args.scope.now) (scale_of c.args.value_type) c.get-in-Quot-3.result.now c.get-in-Quot-4.result.now c.in_ok-a-in-Quot.a c.in_ok-b-in-Quot.b kind c.in_ok-a-in-Quot.ensures.value c.in_ok-b-in-Quot.ensures.value (same ∙ c.in_err-word-in-Quot.ensures kind is) in
    let e : form_of (hosted g.H.HostMeaning.answer c.args.scope.now) c.args.form.now c.args.value_type ≡ quotient (scale_of c.args.value_type) (part_of (hosted g.H.HostMeaning.answer c.args.scope.now) c.get-in-Quot-3.result.now) (part_of (hosted g.H.HostMeaning.answer c.args.scope.now) c.get-in-Quot-4.result.now) =
    ap (λ (f : TypedForm). form_of (hosted g.H.HostMeaning.answer c.args.scope.now) f c.args.value_type) c.in-Quot.is ∙ form_quot (hosted g.H.HostMeaning.answer c.args.scope.now) c.in-Quot.dividend c.in-Quot.divisor c.args.value_type
    ∙ ap (λ (x : TypedExpr). quotient (scale_of c.args.value_type) (part_of (hosted g.H.HostMeaning.answer c.args.scope.now) x) (part_of (hosted g.H.HostMeaning.answer c.args.scope.now) c.in-Quot.divisor)) (sym c.get-in-Quot-3.ensures)
    ∙ ap (λ (x : TypedExpr). quotient (scale_of c.args.value_type) (part_of (hosted g.H.HostMeaning.answer c.args.scope.now) c.get-in-Quot-3.result.now) (part_of (hosted g.H.HostMeaning.answer c.args.scope.now) x)) (sym c.get-in-Quot-4.ensures) in
    let all : (kind : TrapKind) → c.in_err-word-in-Quot.field-0.0 ≡ By kind → form_of (hosted g.H.HostMeaning.answer c.args.scope.now) c.args.form.now c.args.value_type ≡ Err kind = λ kind is. e ∙ h kind is in
    search rules

pub form_operand-returns-in_ok-word-in-Quot-clause-value : goal.form_operand-returns-in_ok-word-in-Quot-clause-value
form_operand-returns-in_ok-word-in-Quot-clause-value g t c =
    let from : c.scale_of-from.result ≡ scale_of c.get-in-Quot-3.result.now.node.value_type = c.scale_of-from.ensures ∙ ap (λ (e : TypedExpr). scale_of e.node.value_type) (c.get-in-Quot.ensures ∙ sym c.get-in-Quot-3.ensures) in
    let by : c.scale_of-by.result ≡ scale_of c.get-in-Quot-4.result.now.node.value_type = c.scale_of-by.ensures ∙ ap (λ (e : TypedExpr). scale_of e.node.value_type) (c.get-in-Quot-2.ensures ∙ sym c.get-in-Quot-4.ensures) in
    let same : divided c.in_ok-a-in-Quot.a (scale_of c.get-in-Quot-3.result.now.node.value_type) c.in_ok-b-in-Quot.b (scale_of c.get-in-Quot-4.result.now.node.value_type) (scale_of c.args.value_type)
    ≡ divided c.in_ok-a-in-Quot.a c.scale_of-from.result c.in_ok-b-in-Quot.b c.scale_of-by.result c.scale_of.result =
    ap (λ f. divided c.in_ok-a-in-Quot.a f c.in_ok-b-in-Quot.b (scale_of c.get-in-Quot-4.result.now.node.value_type) (scale_of c.args.value_type)) (sym from)
    ∙ ap (λ f. divided c.in_ok-a-in-Quot.a c.scale_of-from.result c.in_ok-b-in-Quot.b f (scale_of c.args.value_type)) (sym by)
    ∙ ap (λ f. divided c.in_ok-a-in-Quot.a c.scale_of-from.result c.in_ok-b-in-Quot.b c.scale_of-by.result f) (sym c.scale_of.ensures) in
    let h : quotient (scale_of c.args.value_type) (part_of (hosted g.H.HostMeaning.answer c.args.scope.now) c.get-in-Quot-3.result.now) (part_of (hosted g.H.HostMeaning.answer c.args.scope.now) c.get-in-Quot-4.result.now) ≡ Ok (number c.in_ok-word-in-Quot.word) =
    quotient_is (hosted g.H.HostMeaning.answer c.args.scope.now) (scale_of c.args.value_type) c.get-in-Quot-3.result.now c.get-in-Quot-4.result.now c.in_ok-a-in-Quot.a c.in_ok-b-in-Quot.b c.in_ok-word-in-Quot.word c.in_ok-a-in-Quot.ensures.value c.in_ok-b-in-Quot.ensures.value (same ∙ c.in_ok-word-in-Quot.ensures) in
    let e : form_of (hosted g.H.HostMeaning.answer c.args.scope.now) c.args.form.now c.args.value_type ≡ quotient (scale_of c.args.value_type) (part_of (hosted g.H.HostMeaning.answer c.args.scope.now) c.get-in-Quot-3.result.now) (part_of (hosted g.H.HostMeaning.answer c.args.scope.now) c.get-in-Quot-4.result.now) =
    ap (λ (f : TypedForm). form_of (hosted g.H.HostMeaning.answer c.args.scope.now) f c.args.value_type) c.in-Quot.is ∙ form_quot (hosted g.H.HostMeaning.answer c.args.scope.now) c.in-Quot.dividend c.in-Quot.divisor c.args.value_type
    ∙ ap (λ (x : TypedExpr). quotient (scale_of c.args.value_type) (part_of (hosted g.H.HostMeaning.answer c.args.scope.now) x) (part_of (hosted g.H.HostMeaning.answer c.args.scope.now) c.in-Quot.divisor)) (sym c.get-in-Quot-3.ensures)
    ∙ ap (λ (x : TypedExpr). quotient (scale_of c.args.value_type) (part_of (hosted g.H.HostMeaning.answer c.args.scope.now) c.get-in-Quot-3.result.now) (part_of (hosted g.H.HostMeaning.answer c.args.scope.now) x)) (sym c.get-in-Quot-4.ensures) in
    e ∙ h

pub form_operand-returns-in_err-left-in-Dot-clause-value : goal.form_operand-returns-in_err-left-in-Dot-clause-value
form_operand-returns-in_err-left-in-Dot-clause-value g t c =
    let h : (kind : TrapKind) → c.in_err-left-in-Dot.field-0.0 ≡ By kind → scalar_product (part_of (hosted g.H.HostMeaning.answer c.args.scope.now) c.get-in-Dot.result.now) (part_of (hosted g.H.HostMeaning.answer c.args.scope.now) c.in-Dot.right) ≡ Err kind =
    λ kind is. dot_first (hosted g.H.HostMeaning.answer c.args.scope.now) c.get-in-Dot.result.now c.in-Dot.right kind (c.in_err-left-in-Dot.ensures.value kind is) in
    let e : form_of (hosted g.H.HostMeaning.answer c.args.scope.now) c.args.form.now c.args.value_type ≡ scalar_product (part_of (hosted g.H.HostMeaning.answer c.args.scope.now) c.get-in-Dot.result.now) (part_of (hosted g.H.HostMeaning.answer c.args.scope.now) c.in-Dot.right) =
    ap (λ (f : TypedForm). form_of (hosted g.H.HostMeaning.answer c.args.scope.now) f c.args.value_type) c.in-Dot.is ∙ form_dot (hosted g.H.HostMeaning.answer c.args.scope.now) c.in-Dot.left c.in-Dot.right c.args.value_type
    ∙ ap (λ (x : TypedExpr). scalar_product (part_of (hosted g.H.HostMeaning.answer c.args.scope.now) x) (part_of (hosted g.H.HostMeaning.answer c.args.scope.now) c.in-Dot.right)) (sym c.get-in-Dot.ensures) in
    let all : (kind : TrapKind) → c.in_err-left-in-Dot.field-0.0 ≡ By kind → form_of (hosted g.H.HostMeaning.answer c.args.scope.now) c.args.form.now c.args.value_type ≡ Err kind = λ kind is. e ∙ h kind is in
    search rules

pub form_operand-returns-in_err-product-in-Dot-clause-value : goal.form_operand-returns-in_err-product-in-Dot-clause-value
form_operand-returns-in_err-product-in-Dot-clause-value g t c =
    let n : c.len-base.result ≡ length c.args.stack.now.items = omega arith in
    let left : meaning (hosted g.H.HostMeaning.answer c.args.scope.now) c.get-in-Dot.result.now ≡ Ok (value_of c.in_ok-left-in-Dot.left (drop c.len-base.result c.operand.new.stack.items)) =
    c.in_ok-left-in-Dot.ensures.value ∙ ap (λ m. Ok (value_of c.in_ok-left-in-Dot.left (drop m c.operand.new.stack.items))) (sym n) in
    let h : (kind : TrapKind) → c.in_err-product-in-Dot.field-0.0 ≡ By kind → scalar_product (part_of (hosted g.H.HostMeaning.answer c.args.scope.now) c.get-in-Dot.result.now) (part_of (hosted g.H.HostMeaning.answer c.args.scope.now) c.get-in-Dot-2.result.now) ≡ Err kind =
    λ kind is. dot_second (hosted g.H.HostMeaning.answer c.args.scope.now) c.get-in-Dot.result.now c.get-in-Dot-2.result.now (value_of c.in_ok-left-in-Dot.left (drop c.len-base.result c.operand.new.stack.items)) kind left (c.in_err-product-in-Dot.ensures.value kind is) in
    let e : form_of (hosted g.H.HostMeaning.answer c.args.scope.now) c.args.form.now c.args.value_type ≡ scalar_product (part_of (hosted g.H.HostMeaning.answer c.args.scope.now) c.get-in-Dot.result.now) (part_of (hosted g.H.HostMeaning.answer c.args.scope.now) c.get-in-Dot-2.result.now) =
    ap (λ (f : TypedForm). form_of (hosted g.H.HostMeaning.answer c.args.scope.now) f c.args.value_type) c.in-Dot.is ∙ form_dot (hosted g.H.HostMeaning.answer c.args.scope.now) c.in-Dot.left c.in-Dot.right c.args.value_type
    ∙ ap (λ (x : TypedExpr). scalar_product (part_of (hosted g.H.HostMeaning.answer c.args.scope.now) x) (part_of (hosted g.H.HostMeaning.answer c.args.scope.now) c.in-Dot.right)) (sym c.get-in-Dot.ensures)
    ∙ ap (λ (x : TypedExpr). scalar_product (part_of (hosted g.H.HostMeaning.answer c.args.scope.now) c.get-in-Dot.result.now) (part_of (hosted g.H.HostMeaning.answer c.args.scope.now) x)) (sym c.get-in-Dot-2.ensures) in
    let all : (kind : TrapKind) → c.in_err-product-in-Dot.field-0.0 ≡ By kind → form_of (hosted g.H.HostMeaning.answer c.args.scope.now) c.args.form.now c.args.value_type ≡ Err kind = λ kind is. e ∙ h kind is in
    search rules

pub form_operand-returns-in_ok-product-in-Dot-clause-value : goal.form_operand-returns-in_ok-product-in-Dot-clause-value
form_operand-returns-in_ok-product-in-Dot-clause-value g t c =
    let n : c.len-base.result ≡ length c.args.stack.now.items = omega arith in
    let left : meaning (hosted g.H.HostMeaning.answer c.args.scope.now) c.get-in-Dot.result.now ≡ Ok (value_of c.in_ok-left-in-Dot.left (drop c.len-base.result c.operand.new.stack.items)) =
    c.in_ok-left-in-Dot.ensures.value ∙ ap (λ m. Ok (value_of c.in_ok-left-in-Dot.left (drop m c.operand.new.stack.items))) (sym n) in
    let h : scalar_product (part_of (hosted g.H.HostMeaning.answer c.args.scope.now) c.get-in-Dot.result.now) (part_of (hosted g.H.HostMeaning.answer c.args.scope.now) c.get-in-Dot-2.result.now) ≡ Ok (value_of c.in_ok-product-in-Dot.product (drop (length c.args.stack.now.items) c.scalar_product.new.stack.items)) =
    dot_from (hosted g.H.HostMeaning.answer c.args.scope.now) c.get-in-Dot.result.now c.get-in-Dot-2.result.now (value_of c.in_ok-left-in-Dot.left (drop c.len-base.result c.operand.new.stack.items))
    (value_of c.in_ok-product-in-Dot.product (drop c.len-base.result c.scalar_product.new.stack.items)) left c.in_ok-product-in-Dot.ensures.value
    ∙ ap (λ m. Ok (value_of c.in_ok-product-in-Dot.product (drop m c.scalar_product.new.stack.items))) n in
    let e : form_of (hosted g.H.HostMeaning.answer c.args.scope.now) c.args.form.now c.args.value_type ≡ scalar_product (part_of (hosted g.H.HostMeaning.answer c.args.scope.now) c.get-in-Dot.result.now) (part_of (hosted g.H.HostMeaning.answer c.args.scope.now) c.get-in-Dot-2.result.now) =
    ap (λ (f : TypedForm). form_of (hosted g.H.HostMeaning.answer c.args.scope.now) f c.args.value_type) c.in-Dot.is ∙ form_dot (hosted g.H.HostMeaning.answer c.args.scope.now) c.in-Dot.left c.in-Dot.right c.args.value_type
    ∙ ap (λ (x : TypedExpr). scalar_product (part_of (hosted g.H.HostMeaning.answer c.args.scope.now) x) (part_of (hosted g.H.HostMeaning.answer c.args.scope.now) c.in-Dot.right)) (sym c.get-in-Dot.ensures)
    ∙ ap (λ (x : TypedExpr). scalar_product (part_of (hosted g.H.HostMeaning.answer c.args.scope.now) c.get-in-Dot.result.now) (part_of (hosted g.H.HostMeaning.answer c.args.scope.now) x)) (sym c.get-in-Dot-2.ensures) in
    e ∙ h
