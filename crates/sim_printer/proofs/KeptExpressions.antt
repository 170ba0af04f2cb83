-- Expressions keep what is printed of them.
use Rattle.std.proofs.Common.{◌≡◌, ℕ, true, false, List, [], ◌∷◌, ◌++◌, append_assoc, map, Option, None, refl, sym, ap, ◌∙◌, arith, inl, inr}
use Rattle.std.specs.Prelude.{◌⊎◌}
use Rattle.sim_lexer.specs.Words.{Word}
use Rattle.sim_lexer.specs.declared.token.TokenKind.{TokenKind}
use Rattle.sim_lexer.specs.declared.token.TokenKind.TheVariants.{Name, Number, Keyword}
use Rattle.sim_lexer.specs.declared.token.keyword.TheConstants as keyword
use Rattle.sim_lexer.specs.declared.token.symbol.TheConstants as symbol
use Rattle.sim_syntax.specs.declared.expression.Expr.{Expr}
use Rattle.sim_grammar.specs.Rule as rule
use Rattle.sim_grammar.specs.Rule.{Rule, Joined, line_of, ◌⊗◌, ◌▸◌, ◌◂◌, StateEach, Each, ◌∣◌, Fixed, Made, At, Node, Never, Separated, MaybeSome, Whether}
use Rattle.sim_grammar.specs.Grammar as grammar
use Rattle.sim_grammar.specs.Grammar.{NAME, NUM, Sign, Operator, Arguments, FieldRef, Reference, Block, Rescale, Quot, Isqrt, Dot, Atom, Post, Factor, Term, SignedTerm, Sum, Expression}
use Rattle.sim_grammar.specs.Trees.{Text, number_of, ref_of, field_of_ref, row_of, block_of, rescale_of, quot_of, isqrt_of, dot_of}
use Rattle.sim_printer.specs.FirstLine as first
use Rattle.sim_printer.specs.Printed.{Phrase, Level, atom, transposed, product, sum, phrase, fixed, number, separated, listed, in_parentheses, bracketed, is_looser, operator, sign, field_words, expression, expression_words}
use Rattle.sim_printer.specs.Printed.{row_phrase}
use Rattle.sim_printer.proofs.Equations as is
use Rattle.sim_printer.proofs.Lightness.{IsLight, light_without}
use Rattle.sim_printer.proofs.Balance.{expression_balanced}
use Rattle.sim_printer.proofs.Including.{Includes}
use Rattle.sim_printer.proofs.Keeping.{Keeps, HasWords, keeps_both, keeps_after, keeps_before, keeps_either, keeps_fixed, keeps_as, keeps_made, keeps_node, keeps_name, keeps_number, keeps_separated, keeps_maybe_some, words_first, words_node, words_after, words_before, words_either, words_spelt, words_fixed, words_separated}
use Rattle.sim_printer.proofs.Levels.{rule_at, Kept, kept_at}

-- what is known of the expressions inside
pub record InnerKept (Inner : Rule Expr) : Type 0 where
  pub keeps : Keeps Inner first.expression expression_words
  pub exact : (e : Expr) (ws : List Word) → Inner.states e ws → (rule_at (expression e).level Inner).states (first.expression e) (expression_words e)
  pub has : HasWords Inner

-- ---- signs

pub keeps_sign : Keeps Sign (λ b. b) sign
keeps_sign = keeps_either (keeps_fixed (rule.sym symbol.PLUS) false refl refl refl) (keeps_fixed (rule.sym symbol.MINUS) true refl refl refl)

pub keeps_operator : Keeps Operator (λ b. b) operator
keeps_operator = keeps_either (keeps_fixed (rule.sym symbol.STAR) false refl refl refl) (keeps_fixed (rule.sym symbol.ENTRYWISE) true refl refl refl)

pub words_sign : HasWords Sign
words_sign = words_either (words_fixed (rule.sym symbol.PLUS) false (omega arith)) (words_fixed (rule.sym symbol.MINUS) true (omega arith))

pub words_operator : HasWords Operator
words_operator = words_either (words_fixed (rule.sym symbol.STAR) false (omega arith)) (words_fixed (rule.sym symbol.ENTRYWISE) true (omega arith))

-- ---- lists of expressions

pub separated_some : {A : Type 0} (R : Rule A) (separator : List TokenKind) (p : A → List Word) (vs : List A) (ws : List Word) → (Separated separator R).states vs ws
    → listed p vs ≡ fixed (rule.sym symbol.OPEN_PAREN) ++ separated (rule.sym symbol.COMMA) p vs ++ fixed (rule.sym symbol.CLOSE_PAREN)
separated_some {A} R separator p vs ws (v, e, j) = ap (listed p) e ∙ sym (ap (λ (xs : List A). fixed (rule.sym symbol.OPEN_PAREN) ++ separated (rule.sym symbol.COMMA) p xs ++ fixed (rule.sym symbol.CLOSE_PAREN)) e)

-- ---- atoms

-- words of an atom
record AtomKept (R : Rule Expr) : Type 0 where
  keeps : Keeps R first.expression expression_words
  level : (e : Expr) (ws : List Word) → R.states e ws → (expression e).level ≡ atom

atoms_either : {R S : Rule Expr} → AtomKept R → AtomKept S → AtomKept (R ∣ S)
atoms_either {R = R} {S = S} h k = record { keeps = keeps_either h.keeps k.keeps; level = either }
  where
    either : (e : Expr) (ws : List Word) → R.states e ws ⊎ S.states e ws → (expression e).level ≡ atom
    either e ws (inl s) = h.level e ws s
    either e ws (inr s) = k.level e ws s

atom_node : {A : Type 0} {R : Rule A} {f : A → A} {p : A → List Word} (make : ℕ → A → Expr) → HasWords R → Keeps R f p → ((line : ℕ) (v : A) → first.expression (make line v) ≡ make 1 (f v))
    → ((line : ℕ) (v : A) → expression (make line v) ≡ phrase atom (p v)) → AtomKept (Node make R)
atom_node make has h same printed = record {
  keeps = keeps_node make has h same (λ line v. ap (λ (ph : Phrase). ph.words) (printed line v));
  level = λ e ws s. ap (λ e. (expression e).level) s.1 ∙ ap (λ (ph : Phrase). ph.level) (printed (line_of ws) s.0);
}

module _ {Inner : Rule Expr} (inner : InnerKept Inner) where
  keeps_arguments : Keeps (Arguments Inner) (map first.expression) (listed expression_words)
  keeps_arguments =
      keeps_as (keeps_before (rule.sym symbol.CLOSE_PAREN) refl (keeps_after (rule.sym symbol.OPEN_PAREN) refl (keeps_separated inner.keeps (rule.sym symbol.COMMA) refl)))
      (λ v ws j. refl) (λ v ws j. separated_some Inner (rule.sym symbol.COMMA) expression_words v j.first.back j.first.second)

  pub keeps_list : Keeps (MaybeSome (Arguments Inner)) (map first.expression) (listed expression_words)
  keeps_list = keeps_maybe_some keeps_arguments refl refl

  abbrev first_field : Option Text × List Expr → Option Text × List Expr
  first_field v = (v.0, map first.expression v.1)

  keeps_field : Keeps (FieldRef Inner ∣ Fixed [] (None, [])) first_field (λ v. field_words v.0 (listed expression_words v.1))
  keeps_field =
      keeps_either (keeps_made field_of_ref (keeps_after (rule.sym symbol.POINT) refl (keeps_both keeps_name keeps_list)) (λ v. refl) (λ v. refl))
      (keeps_fixed [] (None, []) refl refl refl)

  keeps_reference : AtomKept (Reference Inner)
  keeps_reference =
      atom_node ref_of (words_first (MaybeSome (Arguments Inner) ⊗ (FieldRef Inner ∣ Fixed [] (None, []))) (words_spelt Name)) (keeps_both keeps_name (keeps_both keeps_list keeps_field))
      (λ line v. is.first-Ref line v.0 v.1.0 v.1.1.0 v.1.1.1 None) (λ line v. is.phrase-Ref line v.0 v.1.0 v.1.1.0 v.1.1.1 None)

  keeps_number_atom : AtomKept (Node number_of NUM)
  keeps_number_atom = atom_node number_of (words_spelt Number) keeps_number (λ line v. is.first-Number line v) (λ line v. is.phrase-Number line v)

  keeps_row : Keeps (grammar.Row Inner) first.row row_phrase
  keeps_row = keeps_node row_of (words_separated (rule.sym symbol.COMMA) inner.has) (keeps_separated inner.keeps (rule.sym symbol.COMMA) refl) (λ line v. is.first-row line v) (λ line v. is.row-is line v)

  keeps_block : AtomKept (Block Inner)
  keeps_block =
      atom_node block_of (words_before (rule.sym symbol.CLOSE_BRACKET) (words_after (Separated (rule.sym symbol.SEMICOLON) (grammar.Row Inner)) (rule.sym symbol.OPEN_BRACKET) (omega arith)))
      (keeps_before (rule.sym symbol.CLOSE_BRACKET) refl (keeps_after (rule.sym symbol.OPEN_BRACKET) refl (keeps_separated keeps_row (rule.sym symbol.SEMICOLON) refl)))
      (λ line v. is.first-Block line v) (λ line v. is.phrase-Block line v)

  abbrev Scaled : Rule (Expr × Text)
  Scaled = Inner ⊗ rule.sym symbol.COMMA ▸ NUM

  keeps_scaled : Keeps Scaled (λ v. (first.expression v.0, v.1)) (λ v. expression_words v.0 ++ (fixed (rule.sym symbol.COMMA) ++ number v.1))
  keeps_scaled = keeps_both inner.keeps (keeps_after (rule.sym symbol.COMMA) refl keeps_number)

  keeps_rescale : AtomKept (Rescale Inner)
  keeps_rescale =
      atom_node rescale_of (words_before (rule.sym symbol.CLOSE_PAREN) (words_after Scaled (Keyword keyword.RESCALE ∷ rule.sym symbol.OPEN_PAREN) (omega arith)))
      (keeps_before (rule.sym symbol.CLOSE_PAREN) refl (keeps_after (Keyword keyword.RESCALE ∷ rule.sym symbol.OPEN_PAREN) refl keeps_scaled))
      (λ line v. is.first-Rescale line v.0 v.1) (λ line v. is.phrase-Rescale line v.0 v.1 ∙ simp append_assoc)

  keeps_isqrt : AtomKept (Isqrt Inner)
  keeps_isqrt =
      atom_node isqrt_of (words_before (rule.sym symbol.CLOSE_PAREN) (words_after Scaled (Keyword keyword.ISQRT ∷ rule.sym symbol.OPEN_PAREN) (omega arith)))
      (keeps_before (rule.sym symbol.CLOSE_PAREN) refl (keeps_after (Keyword keyword.ISQRT ∷ rule.sym symbol.OPEN_PAREN) refl keeps_scaled))
      (λ line v. is.first-Isqrt line v.0 v.1) (λ line v. is.phrase-Isqrt line v.0 v.1 ∙ simp append_assoc)

  keeps_quot : AtomKept (Quot Inner)
  keeps_quot =
      atom_node quot_of (words_before (rule.sym symbol.CLOSE_PAREN) (words_after (Inner ⊗ rule.sym symbol.COMMA ▸ Scaled) (Keyword keyword.QUOT ∷ rule.sym symbol.OPEN_PAREN) (omega arith)))
      (keeps_before (rule.sym symbol.CLOSE_PAREN) refl (keeps_after (Keyword keyword.QUOT ∷ rule.sym symbol.OPEN_PAREN) refl (keeps_both inner.keeps (keeps_after (rule.sym symbol.COMMA) refl keeps_scaled))))
      (λ line v. is.first-Quot line v.0 v.1.0 v.1.1) (λ line v. is.phrase-Quot line v.0 v.1.0 v.1.1 ∙ simp append_assoc)

  keeps_dot : AtomKept (Dot Inner)
  keeps_dot =
      atom_node dot_of (words_before (rule.sym symbol.CLOSE_PAREN) (words_after (Inner ⊗ rule.sym symbol.COMMA ▸ Inner) (Keyword keyword.DOT ∷ rule.sym symbol.OPEN_PAREN) (omega arith)))
      (keeps_before (rule.sym symbol.CLOSE_PAREN) refl (keeps_after (Keyword keyword.DOT ∷ rule.sym symbol.OPEN_PAREN) refl (keeps_both inner.keeps (keeps_after (rule.sym symbol.COMMA) refl inner.keeps))))
      (λ line v. is.first-Dot line v.0 v.1) (λ line v. is.phrase-Dot line v.0 v.1 ∙ simp append_assoc)

  abbrev Rest : Rule Expr
  Rest = Block Inner ∣ Rescale Inner ∣ Quot Inner ∣ Isqrt Inner ∣ Dot Inner

  keeps_rest : AtomKept Rest
  keeps_rest = atoms_either keeps_block (atoms_either keeps_rescale (atoms_either keeps_quot (atoms_either keeps_isqrt keeps_dot)))

  -- ---- levels

  kept_atom : {R : Rule Expr} → AtomKept R → Includes R (Atom Inner) → (e : Expr) (ws : List Word) → R.states e ws → Kept Inner atom e ws
  kept_atom h into e ws s =
      let whole : expression e ≡ phrase atom (expression_words e) = λ i. record { level = h.level e ws s i; words = expression_words e } in
      kept_at Inner e ws atom (expression_words e) whole refl (into.states (first.expression e) (expression_words e) (h.keeps.states e ws s)) (h.keeps.light e ws s)

  -- an expression in parentheses keeps them where it isn't an atom
  in_brackets : (e : Expr) (ws : List Word) (k : Level) → (rule_at k Inner).states (first.expression e) (expression_words e) → Inner.states (first.expression e) (expression_words e)
      → IsLight (in_parentheses (expression_words e)) ws
      → (Atom Inner).states (first.expression e) (bracketed (is_looser k atom) (expression_words e)) × IsLight (bracketed (is_looser k atom) (expression_words e)) ws
  in_brackets e ws k x s l = by k x
    where
      around : (Atom Inner).states (first.expression e) (in_parentheses (expression_words e))
      around = inr (inr (inl (record {
        front = fixed (rule.sym symbol.OPEN_PAREN) ++ expression_words e;
        back = fixed (rule.sym symbol.CLOSE_PAREN);
        parts = refl;
        first = record { front = fixed (rule.sym symbol.OPEN_PAREN); back = expression_words e; parts = refl; first = refl; second = s };
        second = refl;
      })))

      by : (k : Level) → (rule_at k Inner).states (first.expression e) (expression_words e)
          → (Atom Inner).states (first.expression e) (bracketed (is_looser k atom) (expression_words e)) × IsLight (bracketed (is_looser k atom) (expression_words e)) ws
      by atom x = (x, light_without (expression_words e) ws (expression_balanced e) l)
      by transposed x = (around, l)
      by product x = (around, l)
      by sum x = (around, l)

  kept_parentheses : (e : Expr) (ws : List Word) → (grammar.Parenthesised Inner).states e ws → Kept Inner atom e ws
  kept_parentheses e ws j =
      let whole = keeps_before (rule.sym symbol.CLOSE_PAREN) refl (keeps_after (rule.sym symbol.OPEN_PAREN) refl inner.keeps) in
      let within = j.first.second in
      let exact = inner.exact e j.first.back within in
      let both = in_brackets e ws (expression e).level exact (inner.keeps.states e j.first.back within) (whole.light e ws j) in
      record { exact = exact; here = both.0; light = both.1 }

  pub kept_atoms : (e : Expr) (ws : List Word) → (Atom Inner).states e ws → Kept Inner atom e ws
  kept_atoms e ws (inl s) = kept_atom keeps_number_atom (record { states = λ v ws s. inl s }) e ws s
  kept_atoms e ws (inr (inl s)) = kept_atom keeps_reference (record { states = λ v ws s. inr (inl s) }) e ws s
  kept_atoms e ws (inr (inr (inl s))) = kept_parentheses e ws s
  kept_atoms e ws (inr (inr (inr s))) = kept_atom keeps_rest (record { states = λ v ws s. inr (inr (inr s)) }) e ws s

  pub words_atom : HasWords (Atom Inner)
  words_atom =
      words_either (words_node number_of (words_spelt Number)) (words_either (words_node ref_of (words_first (MaybeSome (Arguments Inner) ⊗ (FieldRef Inner ∣ Fixed [] (None, []))) (words_spelt Name)))
      (words_either (words_before (rule.sym symbol.CLOSE_PAREN) (words_after Inner (rule.sym symbol.OPEN_PAREN) (omega arith)))
      (words_either (words_node block_of (words_before (rule.sym symbol.CLOSE_BRACKET) (words_after (Separated (rule.sym symbol.SEMICOLON) (grammar.Row Inner)) (rule.sym symbol.OPEN_BRACKET) (omega arith))))
      (words_either (words_node rescale_of (words_before (rule.sym symbol.CLOSE_PAREN) (words_after Scaled (Keyword keyword.RESCALE ∷ rule.sym symbol.OPEN_PAREN) (omega arith))))
      (words_either (words_node quot_of (words_before (rule.sym symbol.CLOSE_PAREN) (words_after (Inner ⊗ rule.sym symbol.COMMA ▸ Scaled) (Keyword keyword.QUOT ∷ rule.sym symbol.OPEN_PAREN) (omega arith))))
      (words_either (words_node isqrt_of (words_before (rule.sym symbol.CLOSE_PAREN) (words_after Scaled (Keyword keyword.ISQRT ∷ rule.sym symbol.OPEN_PAREN) (omega arith))))
      (words_node dot_of (words_before (rule.sym symbol.CLOSE_PAREN) (words_after (Inner ⊗ rule.sym symbol.COMMA ▸ Inner) (Keyword keyword.DOT ∷ rule.sym symbol.OPEN_PAREN) (omega arith))))))))))
