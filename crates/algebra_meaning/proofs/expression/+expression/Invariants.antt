use Rattle.std.proofs.Common.{◌≡◌, drop, map}
use Rattle.vocabulary.specs.Answers.{fold_result}
use Rattle.algebra_meaning.specs.Expression.{chain, entries, factor_of, meanings, part_of, row_of, term_of, total, with_factor, with_row, with_term, with_value, hosted}
use Rattle.algebra_meaning.proofs.expression.+expression.Given as goal

-- the values so far and those that are left give all
abbrev pub invariant-meanings-loop-e : goal.invariant-meanings-loop-e
invariant-meanings-loop-e g l =
    fold_result with_value l.values (map (part_of (hosted g.H.HostMeaning.answer l.scope)) (drop l.e-index l.expressions)) ≡ meanings (hosted g.H.HostMeaning.answer l.scope) l.expressions

-- the rows so far and those that are left give all
abbrev pub invariant-entries-loop-row : goal.invariant-entries-loop-row
invariant-entries-loop-row g l = fold_result with_row l.words (map (row_of (hosted g.H.HostMeaning.answer l.scope)) (drop l.row-index l.rows)) ≡ entries (map (row_of (hosted g.H.HostMeaning.answer l.scope)) l.rows)

-- the terms so far and those that are left give all
abbrev pub invariant-total-loop-term : goal.invariant-total-loop-term
invariant-total-loop-term g l = fold_result with_term l.total (map (term_of (hosted g.H.HostMeaning.answer l.scope)) (drop l.term-index l.terms)) ≡ total (map (term_of (hosted g.H.HostMeaning.answer l.scope)) l.terms)

-- the factors so far and those that are left give all
abbrev pub invariant-chain-loop-factor : goal.invariant-chain-loop-factor
invariant-chain-loop-factor g l =
    fold_result with_factor l.so_far (map (factor_of (hosted g.H.HostMeaning.answer l.scope)) (drop l.factor-index l.factors)) ≡ chain (map (factor_of (hosted g.H.HostMeaning.answer l.scope)) l.factors)
