-- What an index expression is lowered to, as a sum that has its value wherever it has a type.
use Rattle.std.proofs.Common.{◌≡◌, ℕ, suc, Bool, true, false, List, [], ◌∷◌, ◌++◌, map, Option, Some, None, Ok, ℤ, pos, ◌+ℤ◌, refl, sym, ap, ◌∙◌, subst}
use Rattle.std.specs.Prelude.{if◌then◌else◌}
use Rattle.vocabulary.specs.Answers.{◌>>=◌, all_ok, fold_result}
use Rattle.ring_words.specs.Word.{word}
use Rattle.sim_syntax.specs.declared.expression.Expr.TheVariants as expr
use Rattle.sim_syntax.specs.declared.expression.SumTerm.{SumTerm}
use Rattle.sim_syntax.specs.declared.statement.IxAtom.{IxAtom}
use Rattle.sim_syntax.specs.declared.statement.IxTerm.{IxTerm}
use Rattle.type_rules.specs.Rules.{same_rule}
use Rattle.typed_tree.specs.declared.environment.Environment.{Environment}
use Rattle.typed_tree.specs.declared.expression.Node.{Node}
use Rattle.typed_tree.specs.declared.expression.TypedExpr.{TypedExpr}
use Rattle.typed_tree.specs.declared.expression.TypedForm.TheVariants as form
use Rattle.typed_tree.specs.declared.expression.TypedTerm.{TypedTerm, roll-TypedTerm}
use Rattle.typed_tree.specs.Steps.{at_line}
use Rattle.typed_tree.specs.Expressions as typed
use Rattle.typed_tree.specs.Expressions.{SignedStep, Chain, chained, expression, node, sum_node, type_of}
use Rattle.value_algebra.specs.declared.value.Value.{Value}
use Rattle.value_algebra.specs.Value.{both}
use Rattle.value_laws.specs.Laws.{EntryLaws}
use Rattle.algebra_meaning.specs.Expression as meant
use Rattle.algebra_meaning.specs.Expression.{Operand, Scope, added, found, total}
use Rattle.chain_forms.specs.declared.chain.Chain as order
use Rattle.chain_forms.specs.ChainForm.{IsChain}
use Rattle.chain_forms.specs.Lowered as lowered_form
use Rattle.chain_forms.specs.Lowered.{lowered_ix, lowered_term, signed, term_line}
use Rattle.chain_forms.specs.Lowering.{lowered_by}
use Rattle.chain_laws.specs.Laws.{IsTermLowered}
use Rattle.expression_forms.specs.Meanings.{MeaningForms, at_node, term_operand}
use Rattle.expression_forms.specs.Typings.{TypingForms, term_step}
use Rattle.index_sums.specs.IndexSums.{Name, Values}
use Rattle.index_meaning.specs.Laws.{HasSizes, AreWithin, IndexTermLaw}
use Rattle.index_meaning.specs.TermSums.{entry_of, term_sum}
use Rattle.index_laws.specs.AtomValues.{atom_value}
use Rattle.index_laws.specs.Fits.{Fits, NamesFit}
use Rattle.index_laws.specs.Laws.{IsSumMeant, MeansSum}
use Rattle.index_laws.specs.SignedSums.{AreAlike, HaveTermSizes, signed_sum, with_sign}
use Rattle.index_laws.proofs.Added.{added_is, alike_itself, are_alike, both_at, both_sizes, first_entry, first_fits, first_sizes, has_alike, join_of, join_word, sum_fits, summed_sizes, within_alike}
use Rattle.index_laws.proofs.Answers.{same_Ok, and_then, at_line_Ok}
use Rattle.index_laws.proofs.Products.{fold_append, map_append}
use Rattle.index_laws.proofs.Terms.{term_found}
use Rattle.index_laws.proofs.Words.{add_again, add_none}

-- ---- equations of definitions

no_sum : (value : IxAtom → Value) (free : List Name) (at : Values) → signed_sum value free [] [] at ≡ pos 0
unfolding signed_sum
no_sum value free at = refl

more_sum : (value : IxAtom → Value) (free : List Name) (t : IxTerm) (terms : List IxTerm) (size : Name → ℕ) (sizes : List (Name → ℕ)) (at : Values)
    → signed_sum value free (t ∷ terms) (size ∷ sizes) at ≡ with_sign t.minus (term_sum value size free t.atoms at) +ℤ signed_sum value free terms sizes at
unfolding signed_sum
more_sum value free t terms size sizes at = refl

sum_unfolds : (line next : ℕ) (steps : List SignedStep) → typed.sum line steps next ≡ (fold_result (typed.with_term line) ([], None, next) steps >>= chained line form.Sum)
unfolding typed.sum
sum_unfolds line next steps = refl

pub sum_means : (terms : List Operand) → meant.sum terms ≡ (total terms >>= λ value. Ok (found value))
unfolding meant.sum
sum_means terms = refl

-- the node of a sum up to its first term has the term's type
first_type : (line : ℕ) (minus : Bool) (e : TypedExpr) (next : ℕ) (n : Node × ℕ) → sum_node line None minus e next ≡ Ok n → type_of e ≡ n.0.value_type
unfolding sum_node
first_type line false e next n is = ap (λ m. m.0.value_type) (same_Ok (e.node, next) n is)
first_type line true e next n is = ap (λ m. m.0.value_type) (same_Ok (node next line (type_of e), suc next) n is)

-- ---- terms and what they are lowered to

data AllLowered (free : List Name) : List IxTerm → List SumTerm → Type 0 where
  no_term : AllLowered free [] []
  another_term : (t : IxTerm) (terms : List IxTerm) (c : order.Chain) (made : List SumTerm) → IsChain t.atoms free c → AllLowered free terms made
      → AllLowered free (t ∷ terms) (signed t c ∷ made)

all_lowered : (law : IsTermLowered) (free : List Name) (line : ℕ) (terms : List IxTerm) (made : List SumTerm) → all_ok (map (lowered_term free line) terms) ≡ Ok made
    → AllLowered free terms made
all_lowered law free line [] made is = subst (AllLowered free []) (same_Ok [] made is) AllLowered.no_term
all_lowered law free line (t ∷ terms) made is =
    let one = and_then (lowered_term free line t) (λ value. all_ok (map (lowered_term free line) terms) >>= λ values. Ok (value ∷ values)) made is in
    let rest = and_then (all_ok (map (lowered_term free line) terms)) (λ values. Ok (one.0 ∷ values)) made one.2 in
    let here = law free line t one.0 one.1 in
    let whole : signed t here.0 ∷ rest.0 ≡ made = ap (λ m. m ∷ rest.0) (sym here.1.2) ∙ same_Ok (one.0 ∷ rest.0) made rest.2 in
    subst (AllLowered free (t ∷ terms)) whole
    (AllLowered.another_term t terms here.0 rest.0 here.1.0 (all_lowered law free line terms rest.0 rest.1))

-- ---- a sum, from left to right

-- what is known after some terms, where what came before means x
record Summed (env : Environment) (scope : Scope) (free : List Name) (size : Name → ℕ) (x : Values → ℤ) (terms : List IxTerm) (end : Chain TypedTerm) : Type 0 where
  last : Node
  is : end.1 ≡ Some last
  value : Value
  meant : total (map (term_operand scope) end.0) ≡ Ok (Some value)
  has_sizes : HasSizes size free value
  term_sizes : List (Name → ℕ)
  sizes : HaveTermSizes (atom_value env scope) size free terms term_sizes
  sum : (at : Values) → AreWithin size at free
      → word (pos (entry_of value free at)) ≡ word (x at +ℤ signed_sum (atom_value env scope) free terms term_sizes at)

module _ (typing : TypingForms) (meanings : MeaningForms) (law : IndexTermLaw) (entries : EntryLaws) (env : Environment) (scope : Scope) (fit : NamesFit env scope) (free : List Name) where
  folded : (line : ℕ) (size : Name → ℕ) (terms : List IxTerm) (made : List SumTerm) → AllLowered free terms made
      → (ts : List TypedTerm) (left : Node) (next : ℕ) (end : Chain TypedTerm) (v : Value) (x : Values → ℤ)
      → fold_result (typed.with_term line) (ts, Some left, next) (map (term_step env) made) ≡ Ok end
      → Fits scope.sets left.value_type v → total (map (term_operand scope) ts) ≡ Ok (Some v) → HasSizes size free v
      → ((at : Values) → AreWithin size at free → word (pos (entry_of v free at)) ≡ word (x at))
      → Summed env scope free size x terms end
  unfolding sum_node
  folded line size none_left none_made AllLowered.no_term ts left next end v x is fits so_far sizes entry =
      subst (λ e. Summed env scope free size x [] e) (same_Ok (ts, Some left, next) end is)
      (record {
        last = left;
        is = refl;
        value = v;
        meant = so_far;
        has_sizes = sizes;
        term_sizes = [];
        sizes = HaveTermSizes.none;
        sum = λ at within. entry at within ∙ ap word (sym (add_none (x at)) ∙ ap (λ z. x at +ℤ z) (sym (no_sum (atom_value env scope) free at)));
      })
  folded line size all all_made (AllLowered.another_term t terms c made ordered rest) ts left next end v x is fits so_far sizes entry =
      let step = and_then (typed.with_term line (ts, Some left, next) (t.minus, expression env (lowered_by c (term_line t) t.atoms)))
      (λ st. fold_result (typed.with_term line) st (map (term_step env) made)) end is in
      let one = and_then (expression env (lowered_by c (term_line t) t.atoms) next)
      (λ v. sum_node line (Some left) t.minus v.0 v.1 >>= λ n. Ok (ts ++ roll-TypedTerm (record { node = n.0; minus = t.minus; value = v.0 }) ∷ [], Some n.0, n.1)) step.0 step.1 in
      let at_number = and_then (sum_node line (Some left) t.minus one.0.0 one.0.1)
      (λ n. Ok (ts ++ roll-TypedTerm (record { node = n.0; minus = t.minus; value = one.0.0 }) ∷ [], Some n.0, n.1)) step.0 one.2 in
      let rule = same_rule left.value_type (type_of one.0.0) in
      let typed_at = and_then (at_line line rule) (λ type. Ok (node one.0.1 line type, suc one.0.1)) at_number.0 at_number.1 in
      let judged = at_line_Ok line rule typed_at.0 typed_at.1 in
      let term = term_found typing meanings law entries env scope free (term_line t) t.atoms c next one.0 fit ordered one.1 in
      let own : Name → ℕ = term.means.size in
      let w : Value = term.means.value in
      let same = summed_sizes scope.sets left.value_type (type_of one.0.0) typed_at.0 v w judged fits term.fits in
      let alike : AreAlike size own free = are_alike size own free v w sizes term.means.has_sizes same.1 same.2 in
      let w_sizes : HasSizes size free w = has_alike size own free w alike term.means.has_sizes in
      let u : Value = both (join_of t.minus) v w in
      let number : Node = node one.0.1 line typed_at.0 in
      let new : TypedTerm = roll-TypedTerm (record { node = number; minus = t.minus; value = one.0.0 }) in
      let state : (ts ++ new ∷ [], Some number, suc one.0.1) ≡ step.0 =
      ap (λ n. (ts ++ roll-TypedTerm (record { node = n.0; minus = t.minus; value = one.0.0 }) ∷ [], Some n.0, n.1)) (same_Ok (number, suc one.0.1) at_number.0 typed_at.2)
      ∙ same_Ok (ts ++ roll-TypedTerm (record { node = at_number.0.0; minus = t.minus; value = one.0.0 }) ∷ [], Some at_number.0.0, at_number.0.1) step.0 at_number.2 in
      let meant_here : total (map (term_operand scope) (ts ++ new ∷ [])) ≡ Ok (Some u) =
      ap total (map_append (term_operand scope) ts (new ∷ []))
      ∙ fold_append meant.with_term None (Some v) (map (term_operand scope) ts) (term_operand scope new ∷ []) so_far
      ∙ ap (λ m. (m >>= λ y. Ok (Some (added (Some v) t.minus y))) >>= λ next. Ok next) term.means.meant
      ∙ ap (λ y. Ok (Some y)) (added_is t.minus v w) in
      let after = folded line size terms made rest (ts ++ new ∷ []) number (suc one.0.1) end u (λ at. x at +ℤ with_sign t.minus (term_sum (atom_value env scope) own free t.atoms at))
      (ap (λ st. fold_result (typed.with_term line) st (map (term_step env) made)) state ∙ step.2)
      (sum_fits entries t.minus scope.sets left.value_type (type_of one.0.0) typed_at.0 v w judged fits term.fits) meant_here
      (both_sizes entries (join_of t.minus) size free v w sizes w_sizes)
      (λ at within. ap (λ n. word (pos n)) (both_at entries (join_of t.minus) size free v w at sizes w_sizes within)
      ∙ join_word t.minus (entry_of v free at) (entry_of w free at) (term_sum (atom_value env scope) own free t.atoms at) (x at) (entry at within)
      (term.means.sum at (within_alike size own at free alike within))) in
      record {
        last = after.last;
        is = after.is;
        value = after.value;
        meant = after.meant;
        has_sizes = after.has_sizes;
        term_sizes = own ∷ after.term_sizes;
        sizes = HaveTermSizes.one_more t terms own after.term_sizes term.means.sizes alike after.sizes;
        sum = λ at within.
            after.sum at within
            ∙ ap word (add_again (x at) (with_sign t.minus (term_sum (atom_value env scope) own free t.atoms at)) (signed_sum (atom_value env scope) free terms after.term_sizes at)
            ∙ ap (λ z. x at +ℤ z) (sym (more_sum (atom_value env scope) free t terms own after.term_sizes at)));
      }

  -- ---- whole sums

  sum_of : (ts : List TypedTerm) (so_far : Option Value) → total (map (term_operand scope) ts) ≡ Ok so_far → meant.sum (map (term_operand scope) ts) ≡ Ok (found so_far)
  sum_of ts so_far is = sum_means (map (term_operand scope) ts) ∙ ap (λ m. m >>= λ value. Ok (found value)) is

  sum_meant : (line next : ℕ) (t : IxTerm) (terms : List IxTerm) (c : order.Chain) (made : List SumTerm) → IsChain t.atoms free c → AllLowered free terms made → (done : TypedExpr × ℕ)
      → expression env (expr.Sum line (signed t c ∷ made)) next ≡ Ok done → MeansSum env scope free (t ∷ terms) done.0
  sum_meant line next t terms c made ordered rest done is =
      let steps : List SignedStep = map (term_step env) made in
      let all : fold_result (typed.with_term line) ([], None, next) ((t.minus, expression env (lowered_by c (term_line t) t.atoms)) ∷ steps) >>= chained line form.Sum ≡ Ok done =
      sym (sum_unfolds line next (map (term_step env) (signed t c ∷ made))) ∙ ap (λ s. s next) (sym (typing.sum_is env line (signed t c ∷ made))) ∙ is in
      let parts = and_then (fold_result (typed.with_term line) ([], None, next) ((t.minus, expression env (lowered_by c (term_line t) t.atoms)) ∷ steps)) (chained line form.Sum) done all in
      let first = and_then (typed.with_term line ([], None, next) (t.minus, expression env (lowered_by c (term_line t) t.atoms))) (λ st. fold_result (typed.with_term line) st steps) parts.0 parts.1 in
      let one = and_then (expression env (lowered_by c (term_line t) t.atoms) next)
      (λ v. sum_node line None t.minus v.0 v.1 >>= λ n. Ok (roll-TypedTerm (record { node = n.0; minus = t.minus; value = v.0 }) ∷ [], Some n.0, n.1)) first.0 first.1 in
      let at_number = and_then (sum_node line None t.minus one.0.0 one.0.1) (λ n. Ok (roll-TypedTerm (record { node = n.0; minus = t.minus; value = one.0.0 }) ∷ [], Some n.0, n.1)) first.0 one.2 in
      let term = term_found typing meanings law entries env scope free (term_line t) t.atoms c next one.0 fit ordered one.1 in
      let own : Name → ℕ = term.means.size in
      let w : Value = term.means.value in
      let number : Node = at_number.0.0 in
      let new : TypedTerm = roll-TypedTerm (record { node = number; minus = t.minus; value = one.0.0 }) in
      let after = folded line own terms made rest (new ∷ []) number at_number.0.1 parts.0 (added None t.minus w)
      (λ at. with_sign t.minus (term_sum (atom_value env scope) own free t.atoms at))
      (ap (λ st. fold_result (typed.with_term line) st steps) (same_Ok (new ∷ [], Some number, at_number.0.1) first.0 at_number.2) ∙ first.2)
      (subst (λ u. Fits scope.sets u (added None t.minus w)) (first_type line t.minus one.0.0 one.0.1 at_number.0 at_number.1)
      (first_fits entries t.minus scope.sets (type_of one.0.0) w term.fits))
      (ap (λ m. (m >>= λ y. Ok (Some (added None t.minus y))) >>= λ next. Ok next) term.means.meant)
      (first_sizes entries t.minus own free w term.means.has_sizes)
      (λ at within. first_entry entries t.minus own free w at (term_sum (atom_value env scope) own free t.atoms at) term.means.has_sizes within (term.means.sum at within)) in
      let ended : chained line form.Sum (parts.0.0, Some after.last, parts.0.2) ≡ Ok done = ap (λ l. chained line form.Sum (parts.0.0, l, parts.0.2)) (sym after.is) ∙ parts.2 in
      let whole : (at_node after.last (form.Sum parts.0.0), parts.0.2) ≡ done = same_Ok (at_node after.last (form.Sum parts.0.0), parts.0.2) done ended in
      subst (λ d. MeansSum env scope free (t ∷ terms) d.0) whole
      (record {
        size = own;
        term_sizes = own ∷ after.term_sizes;
        sizes = HaveTermSizes.one_more t terms own after.term_sizes term.means.sizes (alike_itself own free) after.sizes;
        value = after.value;
        meant = meanings.sum_is scope after.last parts.0.0 ∙ sum_of parts.0.0 (Some after.value) after.meant;
        has_sizes = after.has_sizes;
        sum = λ at within. after.sum at within ∙ ap word (sym (more_sum (atom_value env scope) free t terms own after.term_sizes at));
      })

  -- a term without a minus, alone
  one_meant : (t : IxTerm) (c : order.Chain) → IsChain t.atoms free c → t.minus ≡ false → (next : ℕ) (done : TypedExpr × ℕ)
      → expression env (lowered_by c (term_line t) t.atoms) next ≡ Ok done → MeansSum env scope free (t ∷ []) done.0
  one_meant t c ordered plain next done is =
      let term = term_found typing meanings law entries env scope free (term_line t) t.atoms c next done fit ordered is in
      let own : Name → ℕ = term.means.size in
      record {
        size = own;
        term_sizes = own ∷ [];
        sizes = HaveTermSizes.one_more t [] own [] term.means.sizes (alike_itself own free) HaveTermSizes.none;
        value = term.means.value;
        meant = term.means.meant;
        has_sizes = term.means.has_sizes;
        sum = λ at within. term.means.sum at within ∙ ap word (alone own at (term_sum (atom_value env scope) own free t.atoms at) refl);
      }
    where
      alone : (own : Name → ℕ) (at : Values) (n : ℕ) → n ≡ term_sum (atom_value env scope) own free t.atoms at → pos n ≡ signed_sum (atom_value env scope) free (t ∷ []) (own ∷ []) at
      alone own at n is =
          sym (add_none (pos n)) ∙ ap (λ z. pos n +ℤ z) (sym (no_sum (atom_value env scope) free at))
          ∙ ap (λ minus. with_sign minus n +ℤ signed_sum (atom_value env scope) free [] [] at) (sym plain)
          ∙ ap (λ k. with_sign t.minus k +ℤ signed_sum (atom_value env scope) free [] [] at) is
          ∙ sym (more_sum (atom_value env scope) free t [] own [] at)

  -- a sum without terms has no type
  empty_sum : (line next : ℕ) (done : TypedExpr × ℕ) → expression env (expr.Sum line []) next ≡ Ok done → ⊥
  empty_sum line next done is = nothing (sym (sum_unfolds line next []) ∙ ap (λ s. s next) (sym (typing.sum_is env line [])) ∙ is)
    where
      nothing : (fold_result (typed.with_term line) ([], None, next) [] >>= chained line form.Sum) ≡ Ok done → ⊥
      nothing is = cc

  made_meant : (line : ℕ) (terms : List IxTerm) (made : List SumTerm) → AllLowered free terms made → (next : ℕ) (done : TypedExpr × ℕ)
      → expression env (lowered_form.sum line made) next ≡ Ok done → MeansSum env scope free terms done.0
  unfolding lowered_form.sum
  made_meant line none_left none_made AllLowered.no_term next done is = absurd (empty_sum line next done is)
  made_meant line all all_made (AllLowered.another_term t terms c made ordered rest) next done is = by_rest line t c ordered terms made rest next done is
    where
      by_sign : (line : ℕ) (t : IxTerm) (c : order.Chain) → IsChain t.atoms free c → (next : ℕ) (done : TypedExpr × ℕ) (b : Bool) → t.minus ≡ b
          → expression env (if b then expr.Sum line (signed t c ∷ []) else lowered_by c (term_line t) t.atoms) next ≡ Ok done → MeansSum env scope free (t ∷ []) done.0
      by_sign line t c ordered next done true minus is = sum_meant line next t [] c [] ordered AllLowered.no_term done is
      by_sign line t c ordered next done false plain is = one_meant t c ordered plain next done is

      by_rest : (line : ℕ) (t : IxTerm) (c : order.Chain) → IsChain t.atoms free c → (terms : List IxTerm) (made : List SumTerm) → AllLowered free terms made
          → (next : ℕ) (done : TypedExpr × ℕ) → expression env (lowered_form.sum line (signed t c ∷ made)) next ≡ Ok done → MeansSum env scope free (t ∷ terms) done.0
      by_rest line t c ordered none_left none_made AllLowered.no_term next done is = by_sign line t c ordered next done t.minus refl is
      by_rest line t c ordered all all_made (AllLowered.another_term s terms d made other rest) next done is =
          sum_meant line next t (s ∷ terms) c (signed s d ∷ made) ordered (AllLowered.another_term s terms d made other rest) done is

-- ---- the law

pub sums_meant : (typing : TypingForms) (meanings : MeaningForms) (law : IndexTermLaw) (entries : EntryLaws) (lowered : IsTermLowered) → IsSumMeant
unfolding lowered_ix
sums_meant typing meanings law entries lowered env scope free line terms e next done fit is typed_is =
    let made = and_then (all_ok (map (lowered_term free line) terms)) (λ ms. Ok (lowered_form.sum line ms)) e is in
    let same : lowered_form.sum line made.0 ≡ e = same_Ok (lowered_form.sum line made.0) e made.2 in
    made_meant typing meanings law entries env scope fit free line terms made.0 (all_lowered lowered free line terms made.0 made.1) next done
    (ap (λ x. expression env x next) same ∙ typed_is)
