-- Transposed values, products, sums, and expressions at any depth keep what is printed of them.
use Rattle.std.proofs.Common.{◌≡◌, ℕ, zero, suc, Bool, true, false, List, [], ◌∷◌, ◌++◌, append-nil, append_assoc, map, refl, sym, subst, ap, ◌∙◌, inl, inr}
use Rattle.std.specs.List.{flat_map}
use Rattle.std.proofs.lemmas.List.Folds.{flat_map-map}
use Rattle.sim_lexer.specs.Words.{Word}
use Rattle.sim_lexer.specs.declared.token.symbol.TheConstants as symbol
use Rattle.sim_syntax.specs.declared.expression.Expr.{Expr}
use Rattle.sim_syntax.specs.declared.expression.Expr.TheVariants as expr
use Rattle.sim_syntax.specs.declared.expression.SumTerm.{SumTerm}
use Rattle.sim_syntax.specs.declared.expression.ProductFactor.{ProductFactor}
use Rattle.sim_grammar.specs.Rule as rule
use Rattle.sim_grammar.specs.Rule.{Rule, Joined, line_of, ◌⊗◌, StateEach, Each, Node, Whether}
use Rattle.sim_grammar.specs.Grammar.{Atom, Post, Factor, Term, SignedTerm, Sum, Expression}
use Rattle.sim_grammar.specs.Trees.{post_of, factor_of, product_of, term_of, sum_of}
use Rattle.sim_printer.specs.FirstLine as first
use Rattle.sim_printer.specs.Printed.{Phrase, Level, atom, transposed, product, sum, phrase, at_level, bracketed, is_looser, whether, factor_words, term_words, expression, expression_words}
use Rattle.sim_printer.specs.Printed.{factor_phrase, term_phrase}
use Rattle.sim_printer.proofs.Equations as is
use Rattle.sim_printer.proofs.Lightness.{IsLight, plain_line}
use Rattle.sim_printer.proofs.Including.{Includes}
use Rattle.sim_printer.proofs.Keeping.{Keeps, HasWords, joined_light, keeps_both, keeps_each, keeps_node, keeps_whether, words_first, words_second, words_node}
use Rattle.sim_printer.proofs.Levels.{Kept, raise_atom, raise_transposed, raise_product, kept_at, includes_sum, includes_level}
use Rattle.sim_printer.proofs.KeptExpressions.{InnerKept, keeps_sign, keeps_operator, words_sign, words_operator, words_atom, kept_atoms}

-- the first line of printed words that are some
line_is : {A : Type 0} (R : rule.Rule A) (v : A) (words ws : List Word) → HasWords R → R.states v words → IsLight words ws → line_of words ≡ 1
line_is R v words ws has states light = plain_line words (has.some v words states) light.plain

module _ {Inner : Rule Expr} (inner : InnerKept Inner) where
  -- ---- transposed values

  words_post : HasWords (Post Inner)
  words_post = words_node post_of (words_first (Whether (rule.sym symbol.TRANSPOSE)) (words_atom inner))

  abbrev PostParts : Rule (Expr × Bool)
  PostParts = Atom Inner ⊗ Whether (rule.sym symbol.TRANSPOSE)

  -- the words of a value and whether it is transposed
  post_states : (value : Expr) (b : Bool) (front back : List Word) → Kept Inner atom value front → (Whether (rule.sym symbol.TRANSPOSE)).states b back
      → PostParts.states (first.expression value, b) (at_level atom (expression value) ++ whether (rule.sym symbol.TRANSPOSE) b)
  post_states value b front back h s = record {
    front = at_level atom (expression value);
    back = whether (rule.sym symbol.TRANSPOSE) b;
    parts = refl;
    first = h.here;
    second = (keeps_whether (rule.sym symbol.TRANSPOSE) refl).states b back s;
  }

  post_by : (value : Expr) (b : Bool) (e : Expr) (ws : List Word) → e ≡ post_of (line_of ws) (value, b) → (j : Joined ((Atom Inner).states value) ((Whether (rule.sym symbol.TRANSPOSE)).states b) ws)
      → Kept Inner atom value j.front → IsLight (at_level atom (expression value) ++ whether (rule.sym symbol.TRANSPOSE) b) ws → Kept Inner transposed e ws
  post_by value false e ws e_is j h light =
      let here : IsLight (at_level atom (expression value)) ws = subst (λ p. IsLight p ws) (append-nil (at_level atom (expression value))) light in
      subst (λ x. Kept Inner transposed x ws) (sym e_is) (raise_atom Inner value ws (record { exact = h.exact; here = h.here; light = here }))
  post_by value true e ws e_is j h light =
      let words : List Word = at_level atom (expression value) ++ whether (rule.sym symbol.TRANSPOSE) true in
      let states : PostParts.states (first.expression value, true) words = post_states value true j.front j.back h j.second in
      let line : line_of words ≡ 1 = line_is PostParts (first.expression value, true) words ws (words_first (Whether (rule.sym symbol.TRANSPOSE)) (words_atom inner)) states light in
      let made : first.expression e ≡ post_of (line_of words) (first.expression value, true) = ap first.expression e_is ∙ is.first-Transposed (line_of ws) value ∙ ap (λ l. expr.Transposed l (first.expression value)) (sym line) in
      kept_at Inner e ws transposed words (ap expression e_is ∙ is.phrase-Transposed (line_of ws) value) refl ((first.expression value, true), made, states) light

  pub kept_post : (e : Expr) (ws : List Word) → (Post Inner).states e ws → Kept Inner transposed e ws
  kept_post e ws (v, e_is, j) =
      let h = kept_atoms inner v.0 j.front j.first in
      post_by v.0 v.1 e ws e_is j h (joined_light (at_level atom (expression v.0)) (whether (rule.sym symbol.TRANSPOSE) v.1) ws j h.light ((keeps_whether (rule.sym symbol.TRANSPOSE) refl).light v.1 j.back j.second))

  keeps_post : Keeps (Post Inner) first.expression (λ e. at_level transposed (expression e))
  keeps_post = record { states = λ e ws s. (kept_post e ws s).here; light = λ e ws s. (kept_post e ws s).light }

  -- ---- products

  abbrev each_factor : List ProductFactor → List Word
  each_factor others = flat_map (λ f. factor_words (factor_phrase f)) others

  keeps_factor : Keeps (Factor Inner) first.product_factor (λ f. factor_words (factor_phrase f))
  keeps_factor =
      keeps_node factor_of (words_first (Post Inner) words_operator) (keeps_both keeps_operator keeps_post)
      (λ line v. is.first-factor line v.0 v.1) (λ line v. ap factor_words (is.factor-is line v.0 v.1))

  words_term : HasWords (Term Inner)
  words_term = words_node product_of (words_first (Each (Factor Inner)) words_post)

  abbrev TermParts : Rule (Expr × List ProductFactor)
  TermParts = Post Inner ⊗ Each (Factor Inner)

  keeps_term_parts : Keeps TermParts (λ v. (first.expression v.0, map first.product_factor v.1)) (λ v. at_level transposed (expression v.0) ++ each_factor v.1)
  keeps_term_parts = keeps_both keeps_post (keeps_each keeps_factor)

  product_phrase : (line : ℕ) (value : Expr) (others : List ProductFactor) → expression (expr.Product line (factor_of line (false, value) ∷ others)) ≡ phrase product (at_level transposed (expression value) ++ each_factor others)
  product_phrase line value others =
      is.phrase-Product line (factor_of line (false, value) ∷ others) ∙ ap (λ (f : Bool × Phrase). phrase product (at_level transposed f.1 ++ flat_map factor_words (map factor_phrase others))) (is.factor-is line false value)
      ∙ ap (λ (ws : List Word). phrase product (at_level transposed (expression value) ++ ws)) (flat_map-map factor_words factor_phrase others)

  product_first : (line : ℕ) (value : Expr) (others : List ProductFactor)
      → first.expression (expr.Product line (factor_of line (false, value) ∷ others)) ≡ expr.Product 1 (factor_of 1 (false, first.expression value) ∷ map first.product_factor others)
  product_first line value others =
      is.first-Product line (factor_of line (false, value) ∷ others) ∙ ap (λ f. expr.Product 1 (f ∷ map first.product_factor others)) (is.first-factor line false value)

  term_by : (value : Expr) (others : List ProductFactor) (e : Expr) (ws : List Word) → e ≡ product_of (line_of ws) (value, others) → TermParts.states (value, others) ws → Kept Inner product e ws
  term_by value [] e ws e_is j =
      let h = kept_post value j.front j.first in
      let all : j.front ≡ ws = sym (append-nil j.front) ∙ ap (λ (t : List Word). j.front ++ t) (sym j.second) ∙ sym j.parts in
      subst (λ x. Kept Inner product x ws) (sym e_is) (raise_transposed Inner value ws (subst (Kept Inner transposed value) all h))
  term_by value (x ∷ xs) e ws e_is j =
      let others : List ProductFactor = x ∷ xs in
      let words : List Word = at_level transposed (expression value) ++ each_factor others in
      let states : TermParts.states (first.expression value, map first.product_factor others) words = keeps_term_parts.states (value, others) ws j in
      let light : IsLight words ws = keeps_term_parts.light (value, others) ws j in
      let line : line_of words ≡ 1 = line_is TermParts (first.expression value, map first.product_factor others) words ws (words_first (Each (Factor Inner)) words_post) states light in
      let made : first.expression e ≡ product_of (line_of words) (first.expression value, map first.product_factor others) =
      ap first.expression e_is ∙ product_first (line_of ws) value others ∙ ap (λ l. expr.Product l (factor_of l (false, first.expression value) ∷ map first.product_factor others)) (sym line) in
      kept_at Inner e ws product words (ap expression e_is ∙ product_phrase (line_of ws) value others) refl ((first.expression value, map first.product_factor others), made, states) light

  pub kept_term : (e : Expr) (ws : List Word) → (Term Inner).states e ws → Kept Inner product e ws
  kept_term e ws (v, e_is, j) = term_by v.0 v.1 e ws e_is j

  keeps_term : Keeps (Term Inner) first.expression (λ e. at_level product (expression e))
  keeps_term = record { states = λ e ws s. (kept_term e ws s).here; light = λ e ws s. (kept_term e ws s).light }

  -- ---- sums

  abbrev each_term : List SumTerm → List Word
  each_term others = flat_map (λ t. term_words (term_phrase t)) others

  keeps_signed : Keeps (SignedTerm Inner) first.sum_term (λ t. term_words (term_phrase t))
  keeps_signed =
      keeps_node term_of (words_first (Term Inner) words_sign) (keeps_both keeps_sign keeps_term)
      (λ line v. is.first-term line v.0 v.1) (λ line v. ap term_words (is.term-is line v.0 v.1))

  abbrev SumParts : Rule (Bool × (Expr × List SumTerm))
  SumParts = Whether (rule.sym symbol.MINUS) ⊗ Term Inner ⊗ Each (SignedTerm Inner)

  words_sum_parts : HasWords SumParts
  words_sum_parts = words_second (Whether (rule.sym symbol.MINUS)) (words_first (Each (SignedTerm Inner)) words_term)

  pub words_sum : HasWords (Sum Inner)
  words_sum = words_node sum_of words_sum_parts

  abbrev parts_words : Bool → Expr → List SumTerm → List Word
  parts_words minus value others = whether (rule.sym symbol.MINUS) minus ++ (at_level product (expression value) ++ each_term others)

  keeps_sum_parts : Keeps SumParts (λ v. (v.0, (first.expression v.1.0, map first.sum_term v.1.1))) (λ v. parts_words v.0 v.1.0 v.1.1)
  keeps_sum_parts = keeps_both (keeps_whether (rule.sym symbol.MINUS) refl) (keeps_both keeps_term (keeps_each keeps_signed))

  sum_phrase : (line : ℕ) (minus : Bool) (value : Expr) (others : List SumTerm) → expression (expr.Sum line (term_of line (minus, value) ∷ others)) ≡ phrase sum (parts_words minus value others)
  sum_phrase line minus value others =
      is.phrase-Sum line (term_of line (minus, value) ∷ others)
      ∙ ap (λ (t : Bool × Phrase). phrase sum (whether (rule.sym symbol.MINUS) t.0 ++ at_level product t.1 ++ flat_map term_words (map term_phrase others))) (is.term-is line minus value)
      ∙ ap (λ (ws : List Word). phrase sum (whether (rule.sym symbol.MINUS) minus ++ at_level product (expression value) ++ ws)) (flat_map-map term_words term_phrase others)
      ∙ ap (phrase sum) (append_assoc (whether (rule.sym symbol.MINUS) minus) (at_level product (expression value)) (each_term others))

  sum_first : (line : ℕ) (minus : Bool) (value : Expr) (others : List SumTerm)
      → first.expression (expr.Sum line (term_of line (minus, value) ∷ others)) ≡ expr.Sum 1 (term_of 1 (minus, first.expression value) ∷ map first.sum_term others)
  sum_first line minus value others =
      is.first-Sum line (term_of line (minus, value) ∷ others) ∙ ap (λ t. expr.Sum 1 (t ∷ map first.sum_term others)) (is.first-term line minus value)

  -- a sum that isn't only its first term
  real_sum : (minus : Bool) (value : Expr) (others : List SumTerm) (e : Expr) (ws : List Word) → e ≡ expr.Sum (line_of ws) (term_of (line_of ws) (minus, value) ∷ others)
      → ((line : ℕ) → sum_of line (minus, (first.expression value, map first.sum_term others)) ≡ expr.Sum line (term_of line (minus, first.expression value) ∷ map first.sum_term others))
      → SumParts.states (minus, (value, others)) ws → Kept Inner sum e ws
  real_sum minus value others e ws e_is whole j =
      let words : List Word = parts_words minus value others in
      let states : SumParts.states (minus, (first.expression value, map first.sum_term others)) words = keeps_sum_parts.states (minus, (value, others)) ws j in
      let light : IsLight words ws = keeps_sum_parts.light (minus, (value, others)) ws j in
      let line : line_of words ≡ 1 = line_is SumParts (minus, (first.expression value, map first.sum_term others)) words ws words_sum_parts states light in
      let made : first.expression e ≡ sum_of (line_of words) (minus, (first.expression value, map first.sum_term others)) =
      ap first.expression e_is ∙ sum_first (line_of ws) minus value others ∙ ap (λ l. expr.Sum l (term_of l (minus, first.expression value) ∷ map first.sum_term others)) (sym line) ∙ sym (whole (line_of words)) in
      kept_at Inner e ws sum words (ap expression e_is ∙ sum_phrase (line_of ws) minus value others) refl ((minus, (first.expression value, map first.sum_term others)), made, states) light

  no_minus : (back : List Word) (ws front : List Word) → (Whether (rule.sym symbol.MINUS)).states false front → ws ≡ front ++ back → back ≡ ws
  no_minus back ws front (inl s) parts = absurd (let h = s.1 in cc)
  no_minus back ws [] (inr s) parts = sym parts
  no_minus back ws (w ∷ front) (inr s) parts = absurd (let h = s.0 in cc)

  sum_by : (minus : Bool) (value : Expr) (others : List SumTerm) (e : Expr) (ws : List Word) → e ≡ sum_of (line_of ws) (minus, (value, others)) → SumParts.states (minus, (value, others)) ws → Kept Inner sum e ws
  sum_by false value [] e ws e_is j =
      let k = j.second in
      let all : k.front ≡ j.back = sym (append-nil k.front) ∙ ap (λ (t : List Word). k.front ++ t) (sym k.second) ∙ sym k.parts in
      let here : k.front ≡ ws = all ∙ no_minus j.back ws j.front j.first j.parts in
      let h = kept_term value k.front k.first in
      subst (λ x. Kept Inner sum x ws) (sym e_is) (raise_product Inner value ws (subst (Kept Inner product value) here h))
  sum_by true value [] e ws e_is j = real_sum true value [] e ws e_is (λ line. refl) j
  sum_by false value (x ∷ xs) e ws e_is j = real_sum false value (x ∷ xs) e ws e_is (λ line. refl) j
  sum_by true value (x ∷ xs) e ws e_is j = real_sum true value (x ∷ xs) e ws e_is (λ line. refl) j

  kept_sum : (e : Expr) (ws : List Word) → (Sum Inner).states e ws → Kept Inner sum e ws
  kept_sum e ws (v, e_is, j) = sum_by v.0 v.1.0 v.1.1 e ws e_is j

  -- the words of an expression at the loosest level are its words
  at_sum : (e : Expr) → at_level sum (expression e) ≡ expression_words e
  at_sum e = by (expression e).level
    where
      by : (k : Level) → bracketed (is_looser k sum) (expression_words e) ≡ expression_words e
      by atom = refl
      by transposed = refl
      by product = refl
      by sum = refl

  pub next_kept : Includes Inner (Sum Inner) → InnerKept (Sum Inner)
  next_kept more = record {
    keeps = record {
      states = λ e ws s. subst ((Sum Inner).states (first.expression e)) (at_sum e) (kept_sum e ws s).here;
      light = λ e ws s. subst (λ p. IsLight p ws) (at_sum e) (kept_sum e ws s).light;
    };
    exact = λ e ws s. (includes_level more (expression e).level).states (first.expression e) (expression_words e) (kept_sum e ws s).exact;
    has = words_sum;
  }

-- ---- expressions at any depth

includes_next : (depth : ℕ) → Includes (Expression depth) (Expression (suc depth))
includes_next zero = record { states = λ e ws s. absurd s }
includes_next (suc depth) = includes_sum (includes_next depth)

pub expression_kept : (depth : ℕ) → InnerKept (Expression depth)
expression_kept zero = record { keeps = record { states = λ e ws s. absurd s; light = λ e ws s. absurd s }; exact = λ e ws s. absurd s; has = record { some = λ e ws s. absurd s } }
expression_kept (suc depth) = next_kept (expression_kept depth) (includes_next depth)
