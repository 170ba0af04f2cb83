-- The cuts of the rules of expressions and conditions.
use Rattle.std.proofs.Common.{ℕ, zero, suc, true, false, [], ◌∷◌, None, refl}
use Rattle.sim_lexer.specs.declared.token.TokenKind.TheVariants.{Name, Number, Keyword}
use Rattle.sim_lexer.specs.declared.token.keyword.TheConstants as keyword
use Rattle.sim_lexer.specs.declared.token.symbol.TheConstants as symbol
use Rattle.sim_syntax.specs.declared.expression.Expr.{Expr}
use Rattle.sim_syntax.specs.declared.condition.CmpOp.TheVariants as op
use Rattle.sim_grammar.specs.Rule.{sym, key, Rule, ◌▸◌}
use Rattle.sim_grammar.specs.Grammar as grammar
use Rattle.sim_grammar.specs.Trees.{number_of, ref_of, field_of_ref, row_of, block_of, rescale_of, quot_of, isqrt_of, dot_of, post_of, factor_of, product_of, term_of, sum_of, cmp_of, conjunction_of, cond_of}
use Rattle.sim_grammar.proofs.Agree.{begin_none}
use Rattle.sim_grammar.proofs.Cuts.{Completed, Cuts, seq-completed, none-completed, left-completed, right-completed, fixed-completed, node-completed, spelt-completed, spelt-cuts, fixed-cuts, seq-cuts, before-cuts, after-cuts, either-cuts, made-cuts, node-cuts, never-cuts, each-cuts, separated-cuts, maybe_some-cuts, whether-cuts}

pub name-cuts : Cuts grammar.NAME grammar.NAME
name-cuts = spelt-cuts Name refl

pub num-cuts : Cuts grammar.NUM grammar.NUM
num-cuts = spelt-cuts Number refl

pub sign-cuts : Cuts grammar.Sign grammar.Sign
sign-cuts = either-cuts (fixed-cuts (sym symbol.PLUS) false refl) (fixed-cuts (sym symbol.MINUS) true refl)

operator-cuts : Cuts grammar.Operator grammar.Operator
operator-cuts = either-cuts (fixed-cuts (sym symbol.STAR) false refl) (fixed-cuts (sym symbol.ENTRYWISE) true refl)

comparison-cuts : Cuts grammar.Comparison grammar.Comparison
comparison-cuts = either-cuts (fixed-cuts (sym symbol.EQUAL) op.Equal refl) (either-cuts (fixed-cuts (sym symbol.DIFFERS) op.Differs refl) (either-cuts (fixed-cuts (sym symbol.LESS) op.Less refl)
    (either-cuts (fixed-cuts (sym symbol.AT_MOST) op.AtMost refl) (either-cuts (fixed-cuts (sym symbol.GREATER) op.Greater refl) (fixed-cuts (sym symbol.AT_LEAST) op.AtLeast refl)))))

module _ {Low High : Rule Expr} (inside : Cuts Low High) where
  pub arguments-cuts : Cuts (grammar.Arguments Low) (grammar.Arguments High)
  arguments-cuts = after-cuts (sym symbol.CLOSE_PAREN) refl (before-cuts (sym symbol.OPEN_PAREN) refl (separated-cuts (sym symbol.COMMA) refl inside))

  field_ref-cuts : Cuts (grammar.FieldRef Low) (grammar.FieldRef High)
  field_ref-cuts = made-cuts field_of_ref (before-cuts (sym symbol.POINT) refl (seq-cuts name-cuts (maybe_some-cuts arguments-cuts)))

  reference-cuts : Cuts (grammar.Reference Low) (grammar.Reference High)
  reference-cuts = node-cuts ref_of (seq-cuts name-cuts (seq-cuts (maybe_some-cuts arguments-cuts) (either-cuts field_ref-cuts (fixed-cuts [] (None, []) refl))))

  parenthesised-cuts : Cuts (grammar.Parenthesised Low) (grammar.Parenthesised High)
  parenthesised-cuts = after-cuts (sym symbol.CLOSE_PAREN) refl (before-cuts (sym symbol.OPEN_PAREN) refl inside)

  row-cuts : Cuts (grammar.Row Low) (grammar.Row High)
  row-cuts = node-cuts row_of (separated-cuts (sym symbol.COMMA) refl inside)

  block-cuts : Cuts (grammar.Block Low) (grammar.Block High)
  block-cuts = node-cuts block_of (after-cuts (sym symbol.CLOSE_BRACKET) refl (before-cuts (sym symbol.OPEN_BRACKET) refl (separated-cuts (sym symbol.SEMICOLON) refl row-cuts)))

  comma_num-cuts : Cuts (sym symbol.COMMA ▸ grammar.NUM) (sym symbol.COMMA ▸ grammar.NUM)
  comma_num-cuts = before-cuts (sym symbol.COMMA) refl num-cuts

  rescale-cuts : Cuts (grammar.Rescale Low) (grammar.Rescale High)
  rescale-cuts = node-cuts rescale_of (after-cuts (sym symbol.CLOSE_PAREN) refl (before-cuts (Keyword keyword.RESCALE ∷ sym symbol.OPEN_PAREN) refl (seq-cuts inside comma_num-cuts)))

  quot-cuts : Cuts (grammar.Quot Low) (grammar.Quot High)
  quot-cuts = node-cuts quot_of (after-cuts (sym symbol.CLOSE_PAREN) refl (before-cuts (Keyword keyword.QUOT ∷ sym symbol.OPEN_PAREN) refl
      (seq-cuts inside (before-cuts (sym symbol.COMMA) refl (seq-cuts inside comma_num-cuts)))))

  isqrt-cuts : Cuts (grammar.Isqrt Low) (grammar.Isqrt High)
  isqrt-cuts = node-cuts isqrt_of (after-cuts (sym symbol.CLOSE_PAREN) refl (before-cuts (Keyword keyword.ISQRT ∷ sym symbol.OPEN_PAREN) refl (seq-cuts inside comma_num-cuts)))

  dot-cuts : Cuts (grammar.Dot Low) (grammar.Dot High)
  dot-cuts = node-cuts dot_of (after-cuts (sym symbol.CLOSE_PAREN) refl (before-cuts (Keyword keyword.DOT ∷ sym symbol.OPEN_PAREN) refl (seq-cuts inside (before-cuts (sym symbol.COMMA) refl inside))))

  atom-cuts : Cuts (grammar.Atom Low) (grammar.Atom High)
  atom-cuts = either-cuts (node-cuts number_of num-cuts) (either-cuts reference-cuts (either-cuts parenthesised-cuts (either-cuts block-cuts
      (either-cuts rescale-cuts (either-cuts quot-cuts (either-cuts isqrt-cuts dot-cuts))))))

  post-cuts : Cuts (grammar.Post Low) (grammar.Post High)
  post-cuts = node-cuts post_of (seq-cuts atom-cuts (whether-cuts (sym symbol.TRANSPOSE) refl))

  factor-cuts : Cuts (grammar.Factor Low) (grammar.Factor High)
  factor-cuts = node-cuts factor_of (seq-cuts operator-cuts post-cuts)

  term-cuts : Cuts (grammar.Term Low) (grammar.Term High)
  term-cuts = node-cuts product_of (seq-cuts post-cuts (each-cuts factor-cuts))

  signed_term-cuts : Cuts (grammar.SignedTerm Low) (grammar.SignedTerm High)
  signed_term-cuts = node-cuts term_of (seq-cuts sign-cuts term-cuts)

  sum-cuts : Cuts (grammar.Sum Low) (grammar.Sum High)
  sum-cuts = node-cuts sum_of (seq-cuts (whether-cuts (sym symbol.MINUS) refl) (seq-cuts term-cuts (each-cuts signed_term-cuts)))

-- a number is an expression that needs none inside
some_sum : {Inner : Rule Expr} → Completed (grammar.Sum Inner) []
some_sum {Inner} = node-completed sum_of (seq-completed (right-completed (fixed-completed [] false refl (begin_none []))) (seq-completed some_term none-completed))
  where
    some_atom : Completed (grammar.Atom Inner) []
    some_atom = left-completed (node-completed number_of (spelt-completed Number refl [] (begin_none (Number ∷ []))))

    some_post : Completed (grammar.Post Inner) []
    some_post = node-completed post_of (seq-completed some_atom (right-completed (fixed-completed [] false refl (begin_none []))))

    some_term : Completed (grammar.Term Inner) []
    some_term = node-completed product_of (seq-completed some_post none-completed)

-- expressions, however deep they are nested
pub expression-cuts : (depth : ℕ) → Cuts (grammar.Expression depth) (grammar.Expression (suc depth))
expression-cuts zero = never-cuts some_sum
expression-cuts (suc depth) = sum-cuts (expression-cuts depth)

-- ---- conditions

module _ {Low High : Rule Expr} (values : Cuts Low High) where
  cmp-cuts : Cuts (grammar.Cmp Low) (grammar.Cmp High)
  cmp-cuts = node-cuts cmp_of (seq-cuts (whether-cuts (key keyword.NOT) refl) (seq-cuts values (seq-cuts comparison-cuts values)))

  conjunction-cuts : Cuts (grammar.Conjunction Low) (grammar.Conjunction High)
  conjunction-cuts = node-cuts conjunction_of (separated-cuts (key keyword.AND) refl cmp-cuts)

  pub condition-cuts : Cuts (grammar.Condition Low) (grammar.Condition High)
  condition-cuts = node-cuts cond_of (separated-cuts (key keyword.OR) refl conjunction-cuts)
