use Rattle.std.proofs.Common.{◌≡◌, drop, map}
use Rattle.vocabulary.specs.Answers.{fold_result}
use Rattle.typed_tree.specs.Expressions.{expression, start, with_term, with_factor}
use Rattle.typed_tree.specs.Steps.{several, with_step}
use Rattle.expression_types.specs.Parts.{factor, row, term}
use Rattle.expression_types.proofs.trees.+expression.Given as goal

-- the expressions so far and those that are left give all
abbrev pub invariant-expressions-loop-tree : goal.invariant-expressions-loop-tree
invariant-expressions-loop-tree l =
    fold_result with_step (l.typed, l.next) (map (expression l.environment) (drop l.tree-index l.trees)) ≡ several (map (expression l.environment) l.trees) l.initial.next

-- the rows so far and those that are left give all
abbrev pub invariant-typed_rows-loop-row : goal.invariant-typed_rows-loop-row
invariant-typed_rows-loop-row l =
    fold_result with_step (l.typed, l.next) (map (row l.environment) (drop l.row-index l.rows)) ≡ several (map (row l.environment) l.rows) l.initial.next

-- the terms so far and those that are left give all
abbrev pub invariant-sum-loop-term : goal.invariant-sum-loop-term
invariant-sum-loop-term l =
    fold_result (with_term l.line) (l.typed, l.last, l.next) (map (term l.environment) (drop l.term-index l.terms))
    ≡ fold_result (with_term l.line) (start l.initial.next) (map (term l.environment) l.terms)

-- the factors so far and those that are left give all
abbrev pub invariant-product-loop-factor : goal.invariant-product-loop-factor
invariant-product-loop-factor l =
    fold_result (with_factor l.line) (l.typed, l.last, l.next) (map (factor l.environment) (drop l.factor-index l.factors))
    ≡ fold_result (with_factor l.line) (start l.initial.next) (map (factor l.environment) l.factors)
