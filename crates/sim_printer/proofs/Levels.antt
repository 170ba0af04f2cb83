-- Expressions at the levels of the grammar: one that may stand at a level may stand at each looser one.
use Rattle.std.proofs.Common.{◌≡◌, false, List, [], ◌∷◌, append-nil, None, refl, sym, subst, ap, ◌∙◌, inr}
use Rattle.sim_lexer.specs.Words.{Word}
use Rattle.sim_lexer.specs.declared.token.TokenKind.TheVariants.{Keyword}
use Rattle.sim_lexer.specs.declared.token.keyword.TheConstants as keyword
use Rattle.sim_lexer.specs.declared.token.symbol.TheConstants as symbol
use Rattle.sim_syntax.specs.declared.expression.Expr.{Expr}
use Rattle.sim_grammar.specs.Rule as rule
use Rattle.sim_grammar.specs.Rule.{Rule, ◌⊗◌, ◌▸◌, ◌◂◌, Each, ◌∣◌, Fixed, Made, At, Node, Separated, MaybeSome, Whether}
use Rattle.sim_grammar.specs.Grammar.{NAME, NUM, Sign, Operator, Arguments, Reference, Row, Block, Atom, Post, Term, Sum}
use Rattle.sim_grammar.specs.Trees.{number_of, ref_of, field_of_ref, row_of, block_of, rescale_of, quot_of, isqrt_of, dot_of, post_of, factor_of, product_of, term_of, sum_of}
use Rattle.sim_printer.specs.FirstLine as first
use Rattle.sim_printer.specs.Printed.{Phrase, Level, atom, transposed, product, sum, phrase, bracketed, is_looser, at_level, expression, expression_words}
use Rattle.sim_printer.proofs.Lightness.{IsLight, IsBalanced, light_without}
use Rattle.sim_printer.proofs.Including as include
use Rattle.sim_printer.proofs.Including.{Includes}
use Rattle.sim_printer.proofs.Balance.{expression_balanced}

-- the rule of a level, where expressions inside are of another rule
abbrev pub rule_at : Level → Rule Expr → Rule Expr
rule_at atom Inner = Atom Inner
rule_at transposed Inner = Post Inner
rule_at product Inner = Term Inner
rule_at sum Inner = Sum Inner

-- ---- from one level to the next

module _ (Inner : Rule Expr) (e : Expr) (ws : List Word) where
  atom_is_post : (Atom Inner).states e ws → (Post Inner).states e ws
  atom_is_post h = ((e, false), refl, record { front = ws; back = []; parts = sym (append-nil ws); first = h; second = inr (refl, refl) })

  post_is_term : (Post Inner).states e ws → (Term Inner).states e ws
  post_is_term h = ((e, []), refl, record { front = ws; back = []; parts = sym (append-nil ws); first = h; second = refl })

  term_is_sum : (Term Inner).states e ws → (Sum Inner).states e ws
  term_is_sum h =
      ((false, (e, [])), refl, record { front = []; back = ws; parts = refl; first = inr (refl, refl); second = record { front = ws; back = []; parts = sym (append-nil ws); first = h; second = refl } })

-- what is printed of an expression, where words of a rule state it that allows at most this level
pub record Kept (Inner : Rule Expr) (most : Level) (e : Expr) (ws : List Word) : Type 0 where
  pub exact : (rule_at (expression e).level Inner).states (first.expression e) (expression_words e)
  pub here : (rule_at most Inner).states (first.expression e) (at_level most (expression e))
  pub light : IsLight (at_level most (expression e)) ws

module _ (Inner : Rule Expr) (e : Expr) (words ws : List Word) (balanced : IsBalanced words) where
  to_transposed : (k : Level) → (rule_at k Inner).states e words → (Atom Inner).states e (bracketed (is_looser k atom) words) → IsLight (bracketed (is_looser k atom) words) ws
      → (Post Inner).states e (bracketed (is_looser k transposed) words) × IsLight (bracketed (is_looser k transposed) words) ws
  to_transposed atom x h l = (atom_is_post Inner e _ h, l)
  to_transposed transposed x h l = (x, light_without words ws balanced l)
  to_transposed product x h l = (atom_is_post Inner e _ h, l)
  to_transposed sum x h l = (atom_is_post Inner e _ h, l)

  to_product : (k : Level) → (rule_at k Inner).states e words → (Post Inner).states e (bracketed (is_looser k transposed) words) → IsLight (bracketed (is_looser k transposed) words) ws
      → (Term Inner).states e (bracketed (is_looser k product) words) × IsLight (bracketed (is_looser k product) words) ws
  to_product atom x h l = (post_is_term Inner e _ h, l)
  to_product transposed x h l = (post_is_term Inner e _ h, l)
  to_product product x h l = (x, light_without words ws balanced l)
  to_product sum x h l = (post_is_term Inner e _ h, l)

  to_sum : (k : Level) → (rule_at k Inner).states e words → (Term Inner).states e (bracketed (is_looser k product) words) → IsLight (bracketed (is_looser k product) words) ws
      → (Sum Inner).states e (bracketed (is_looser k sum) words) × IsLight (bracketed (is_looser k sum) words) ws
  to_sum atom x h l = (term_is_sum Inner e _ h, l)
  to_sum transposed x h l = (term_is_sum Inner e _ h, l)
  to_sum product x h l = (term_is_sum Inner e _ h, l)
  to_sum sum x h l = (x, light_without words ws balanced l)

module _ (Inner : Rule Expr) (e : Expr) (ws : List Word) where
  pub raise_atom : Kept Inner atom e ws → Kept Inner transposed e ws
  raise_atom h =
      let up = to_transposed Inner (first.expression e) (expression_words e) ws (expression_balanced e) (expression e).level h.exact h.here h.light in
      record { exact = h.exact; here = up.0; light = up.1 }

  pub raise_transposed : Kept Inner transposed e ws → Kept Inner product e ws
  raise_transposed h =
      let up = to_product Inner (first.expression e) (expression_words e) ws (expression_balanced e) (expression e).level h.exact h.here h.light in
      record { exact = h.exact; here = up.0; light = up.1 }

  pub raise_product : Kept Inner product e ws → Kept Inner sum e ws
  raise_product h =
      let up = to_sum Inner (first.expression e) (expression_words e) ws (expression_balanced e) (expression e).level h.exact h.here h.light in
      record { exact = h.exact; here = up.0; light = up.1 }

  -- an expression of just this level
  pub kept_at : (most : Level) (words : List Word) → expression e ≡ phrase most words → is_looser most most ≡ false → (rule_at most Inner).states (first.expression e) words → IsLight words ws → Kept Inner most e ws
  kept_at most words is none states light =
      let at : at_level most (expression e) ≡ words = ap (at_level most) is ∙ ap (λ b. bracketed b words) none in
      record {
        exact = subst (λ (p : Phrase). (rule_at p.level Inner).states (first.expression e) p.words) (sym is) states;
        here = subst ((rule_at most Inner).states (first.expression e)) (sym at) states;
        light = subst (λ p. IsLight p ws) (sym at) light;
      }

-- ---- a rule inside that states more

module _ {R S : Rule Expr} (h : Includes R S) where
  includes_list : Includes (MaybeSome (Arguments R)) (MaybeSome (Arguments S))
  includes_list =
      include.either (include.before (rule.sym symbol.CLOSE_PAREN) (include.after (rule.sym symbol.OPEN_PAREN) (include.made (λ values. values.0 ∷ values.1) (include.both h (include.each (include.after (rule.sym symbol.COMMA) h))))))
      (include.same (Fixed [] []))

  includes_reference : Includes (Reference R) (Reference S)
  includes_reference =
      include.node ref_of (include.both (include.same NAME) (include.both includes_list
      (include.either (include.made field_of_ref (include.after (rule.sym symbol.POINT) (include.both (include.same NAME) includes_list))) (include.same (Fixed [] (None, []))))))

  includes_row : Includes (Row R) (Row S)
  includes_row = include.node row_of (include.made (λ values. values.0 ∷ values.1) (include.both h (include.each (include.after (rule.sym symbol.COMMA) h))))

  includes_block : Includes (Block R) (Block S)
  includes_block =
      include.node block_of (include.before (rule.sym symbol.CLOSE_BRACKET) (include.after (rule.sym symbol.OPEN_BRACKET)
      (include.made (λ values. values.0 ∷ values.1) (include.both includes_row (include.each (include.after (rule.sym symbol.SEMICOLON) includes_row))))))

  includes_scaled : Includes (R ⊗ rule.sym symbol.COMMA ▸ NUM) (S ⊗ rule.sym symbol.COMMA ▸ NUM)
  includes_scaled = include.both h (include.same (rule.sym symbol.COMMA ▸ NUM))

  includes_atom : Includes (Atom R) (Atom S)
  includes_atom =
      include.either (include.same (Node number_of NUM)) (include.either includes_reference (include.either
      (include.before (rule.sym symbol.CLOSE_PAREN) (include.after (rule.sym symbol.OPEN_PAREN) h)) (include.either includes_block (include.either
      (include.node rescale_of (include.before (rule.sym symbol.CLOSE_PAREN) (include.after (Keyword keyword.RESCALE ∷ rule.sym symbol.OPEN_PAREN) includes_scaled))) (include.either
      (include.node quot_of (include.before (rule.sym symbol.CLOSE_PAREN) (include.after (Keyword keyword.QUOT ∷ rule.sym symbol.OPEN_PAREN) (include.both h (include.after (rule.sym symbol.COMMA) includes_scaled))))) (include.either
      (include.node isqrt_of (include.before (rule.sym symbol.CLOSE_PAREN) (include.after (Keyword keyword.ISQRT ∷ rule.sym symbol.OPEN_PAREN) includes_scaled)))
      (include.node dot_of (include.before (rule.sym symbol.CLOSE_PAREN) (include.after (Keyword keyword.DOT ∷ rule.sym symbol.OPEN_PAREN) (include.both h (include.after (rule.sym symbol.COMMA) h)))))))))))

  includes_post : Includes (Post R) (Post S)
  includes_post = include.node post_of (include.both includes_atom (include.same (Whether (rule.sym symbol.TRANSPOSE))))

  includes_term : Includes (Term R) (Term S)
  includes_term = include.node product_of (include.both includes_post (include.each (include.node factor_of (include.both (include.same Operator) includes_post))))

  pub includes_sum : Includes (Sum R) (Sum S)
  includes_sum =
      include.node sum_of (include.both (include.same (Whether (rule.sym symbol.MINUS))) (include.both includes_term (include.each (include.node term_of (include.both (include.same Sign) includes_term)))))

  pub includes_level : (k : Level) → Includes (rule_at k R) (rule_at k S)
  includes_level atom = includes_atom
  includes_level transposed = includes_post
  includes_level product = includes_term
  includes_level sum = includes_sum
