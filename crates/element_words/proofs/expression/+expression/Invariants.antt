use Rattle.std.proofs.Common.{◌≡◌, ◌≤◌, drop, length, map, take, vec_len}
use Rattle.vocabulary.specs.Answers.{fold_result}
use Rattle.algebra_meaning.specs.Expression.{chain, entries, factor_of, meanings, row_of, term_of, total, with_factor, with_row, with_term, hosted}
use Rattle.word_stacks.specs.References.{with_index}
use Rattle.word_stacks.specs.Steps.{indices_meant, product_of, total_of, words_meant}
use Rattle.element_words.proofs.Folds.{first_of, stepped, with_word}
use Rattle.element_words.proofs.expression.+expression.Given as goal

-- the indices so far and those that are left give all
abbrev pub invariant-indices-loop-e : goal.invariant-indices-loop-e
invariant-indices-loop-e g l = record {
  folded : fold_result (stepped with_index) l.indices (map (first_of (hosted g.H.HostMeaning.answer l.scope)) (drop l.e-index l.expressions)) ≡ indices_meant (meanings (hosted g.H.HostMeaning.answer l.scope) l.expressions);
  kept : l.stack.items ≡ l.initial.stack.items;
}

-- the entries so far, which are above what was on the stack, and those that are left give all
abbrev pub invariant-push_row-loop-e : goal.invariant-push_row-loop-e
invariant-push_row-loop-e g l = record {
  folded : fold_result (stepped with_word) (drop (length l.initial.stack.items) l.stack.items) (map (first_of (hosted g.H.HostMeaning.answer l.scope)) (drop l.e-index l.expressions))
      ≡ words_meant (meanings (hosted g.H.HostMeaning.answer l.scope) l.expressions);
  kept : take (length l.initial.stack.items) l.stack.items ≡ l.initial.stack.items;
}

-- the rows so far and those that are left give all
abbrev pub invariant-push_rows-loop-row : goal.invariant-push_rows-loop-row
invariant-push_rows-loop-row g l = record {
  folded : fold_result with_row (drop (length l.initial.stack.items) l.stack.items) (map (row_of (hosted g.H.HostMeaning.answer l.scope)) (drop l.row-index l.rows)) ≡ entries (map (row_of (hosted g.H.HostMeaning.answer l.scope)) l.rows);
  kept : take (length l.initial.stack.items) l.stack.items ≡ l.initial.stack.items;
}

-- the terms so far and those that are left give all
abbrev pub invariant-total-loop-term : goal.invariant-total-loop-term
invariant-total-loop-term g l = record {
  folded : fold_result with_term (total_of l.total (drop l.base l.stack.items)) (map (term_of (hosted g.H.HostMeaning.answer l.scope)) (drop l.term-index l.terms)) ≡ total (map (term_of (hosted g.H.HostMeaning.answer l.scope)) l.terms);
  kept : take l.base l.stack.items ≡ l.initial.stack.items;
  within : l.base ≤ vec_len l.stack;
}

-- the factors so far and those that are left give all
abbrev pub invariant-chain-loop-factor : goal.invariant-chain-loop-factor
invariant-chain-loop-factor g l = record {
  folded : fold_result with_factor (product_of l.so_far (drop l.base l.stack.items)) (map (factor_of (hosted g.H.HostMeaning.answer l.scope)) (drop l.factor-index l.factors)) ≡ chain (map (factor_of (hosted g.H.HostMeaning.answer l.scope)) l.factors);
  kept : take l.base l.stack.items ≡ l.initial.stack.items;
  within : l.base ≤ vec_len l.stack;
}
