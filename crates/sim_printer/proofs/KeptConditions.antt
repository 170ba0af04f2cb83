-- Conditions, index expressions and right sides keep what is printed of them.
use Rattle.std.proofs.Common.{◌≡◌, List, [], ◌∷◌, ◌++◌, append_assoc, map, refl, sym, ap, ◌∙◌, arith}
use Rattle.std.specs.List.{flat_map}
use Rattle.std.proofs.lemmas.List.{map-id}
use Rattle.sim_lexer.specs.Words.{Word}
use Rattle.sim_lexer.specs.declared.token.TokenKind.TheVariants.{Name, Number, Keyword}
use Rattle.sim_lexer.specs.declared.token.keyword.TheConstants as keyword
use Rattle.sim_lexer.specs.declared.token.symbol.TheConstants as symbol
use Rattle.sim_syntax.specs.declared.expression.Expr.{Expr}
use Rattle.sim_syntax.specs.declared.condition.CmpOp.TheVariants as op
use Rattle.sim_syntax.specs.declared.statement.Stmt.{Stmt}
use Rattle.sim_syntax.specs.declared.statement.Right.{Right}
use Rattle.sim_syntax.specs.declared.statement.IxTerm.{IxTerm}
use Rattle.sim_grammar.specs.Rule as rule
use Rattle.sim_grammar.specs.Rule.{Rule, ◌⊗◌, ◌▸◌, ◌◂◌, Each, ◌∣◌, Fixed, Made, Node, Separated, OneOrTwo, Maybe, MaybeSome, Whether}
use Rattle.sim_grammar.specs.Grammar as grammar
use Rattle.sim_grammar.specs.Grammar.{NAME, NUM, Comparison, Arguments}
use Rattle.sim_grammar.specs.Trees.{cmp_of, conjunction_of, cond_of, literal_of, named_of, place_of, target_of, map_of, value_of, ix_number_of, ix_named_of, ix_term_of, ix_of}
use Rattle.sim_printer.specs.FirstLine as first
use Rattle.sim_printer.specs.Printed.{fixed, name, separated, listed, whether, comparison, cmp_words, conjunction_words, cond_words, field_name, target_words, index_words, index_in_parentheses, place_words, ix_atom_words, ix_product_words, ix_term_words, ix_sum_words, right_words}
use Rattle.sim_printer.proofs.Keeping.{Keeps, HasWords, keeps_both, keeps_after, keeps_before, keeps_each, keeps_either, keeps_fixed, keeps_as, keeps_made, keeps_node, keeps_name, keeps_number, keeps_separated, keeps_one_or_two, keeps_maybe, keeps_maybe_some, keeps_whether, words_first, words_second, words_node, words_after, words_before, words_either, words_spelt, words_separated}
use Rattle.sim_printer.proofs.KeptExpressions.{InnerKept, keeps_sign, words_sign, keeps_list}

-- ---- conditions

keeps_comparison : Keeps Comparison (λ o. o) comparison
keeps_comparison =
    keeps_either (keeps_fixed (rule.sym symbol.EQUAL) op.Equal refl refl refl) (keeps_either (keeps_fixed (rule.sym symbol.DIFFERS) op.Differs refl refl refl)
    (keeps_either (keeps_fixed (rule.sym symbol.LESS) op.Less refl refl refl) (keeps_either (keeps_fixed (rule.sym symbol.AT_MOST) op.AtMost refl refl refl)
    (keeps_either (keeps_fixed (rule.sym symbol.GREATER) op.Greater refl refl refl) (keeps_fixed (rule.sym symbol.AT_LEAST) op.AtLeast refl refl refl)))))

module _ {Value : Rule Expr} (value : InnerKept Value) where
  words_cmp : HasWords (grammar.Cmp Value)
  words_cmp = words_node cmp_of (words_second (Whether (rule.key keyword.NOT)) (words_first (Comparison ⊗ Value) value.has))

  keeps_cmp : Keeps (grammar.Cmp Value) first.cmp cmp_words
  keeps_cmp =
      keeps_node cmp_of (words_second (Whether (rule.key keyword.NOT)) (words_first (Comparison ⊗ Value) value.has))
      (keeps_both (keeps_whether (rule.key keyword.NOT) refl) (keeps_both value.keeps (keeps_both keeps_comparison value.keeps)))
      (λ line v. refl) (λ line v. simp append_assoc)

  keeps_conjunction : Keeps (grammar.Conjunction Value) first.conjunction conjunction_words
  keeps_conjunction = keeps_node conjunction_of (words_separated (rule.key keyword.AND) words_cmp) (keeps_separated keeps_cmp (rule.key keyword.AND) refl) (λ line v. refl) (λ line v. refl)

  words_conjunction : HasWords (grammar.Conjunction Value)
  words_conjunction = words_node conjunction_of (words_separated (rule.key keyword.AND) words_cmp)

  pub keeps_cond : Keeps (grammar.Condition Value) first.cond cond_words
  keeps_cond = keeps_node cond_of (words_separated (rule.key keyword.OR) words_conjunction) (keeps_separated keeps_conjunction (rule.key keyword.OR) refl) (λ line v. refl) (λ line v. refl)

-- ---- names

-- a list in parentheses that isn't empty
pub listed_cons : {A : Type 0} (p : A → List Word) (vs : List A) (v : A × List A) → vs ≡ v.0 ∷ v.1
    → listed p vs ≡ fixed (rule.sym symbol.OPEN_PAREN) ++ separated (rule.sym symbol.COMMA) p vs ++ fixed (rule.sym symbol.CLOSE_PAREN)
listed_cons {A} p vs v e = ap (listed p) e ∙ sym (ap (λ (xs : List A). fixed (rule.sym symbol.OPEN_PAREN) ++ separated (rule.sym symbol.COMMA) p xs ++ fixed (rule.sym symbol.CLOSE_PAREN)) e)

pub keeps_names : Keeps (OneOrTwo (rule.sym symbol.COMMA) NAME) (λ names. names) (separated (rule.sym symbol.COMMA) name)
keeps_names = keeps_as (keeps_one_or_two keeps_name (rule.sym symbol.COMMA) refl) (λ v ws s. sym (map-id v)) (λ v ws s. refl)

keeps_indices : Keeps grammar.Indices (λ names. names) (listed name)
keeps_indices =
    keeps_as (keeps_before (rule.sym symbol.CLOSE_PAREN) refl (keeps_after (rule.sym symbol.OPEN_PAREN) refl keeps_names)) (λ v ws j. refl)
    (λ v ws j. listed_cons name v j.first.second.0 j.first.second.1)

keeps_field_name : Keeps (Maybe grammar.FieldName) (λ field. field) field_name
keeps_field_name = keeps_maybe (keeps_after (rule.sym symbol.POINT) refl keeps_name) (λ v. refl) refl (λ v. refl) refl

pub keeps_target : Keeps grammar.Target first.target target_words
keeps_target = keeps_node target_of (words_first (Maybe grammar.FieldName) (words_spelt Name)) (keeps_both keeps_name keeps_field_name) (λ line v. refl) (λ line v. refl)

-- ---- places

keeps_index : Keeps grammar.Index first.index index_words
keeps_index =
    keeps_either (keeps_node literal_of (words_spelt Number) keeps_number (λ line v. refl) (λ line v. refl))
    (keeps_node named_of (words_spelt Name) keeps_name (λ line v. refl) (λ line v. refl))

keeps_optional_index : Keeps (Maybe (rule.sym symbol.OPEN_PAREN ▸ grammar.Index ◂ rule.sym symbol.CLOSE_PAREN)) first.optional_index index_in_parentheses
keeps_optional_index =
    keeps_maybe (keeps_before (rule.sym symbol.CLOSE_PAREN) refl (keeps_after (rule.sym symbol.OPEN_PAREN) refl keeps_index)) (λ v. refl) refl (λ v. refl) refl

pub keeps_place : Keeps grammar.Place first.place place_words
keeps_place =
    keeps_node place_of (words_first (Maybe (rule.sym symbol.OPEN_PAREN ▸ grammar.Index ◂ rule.sym symbol.CLOSE_PAREN)) (words_spelt Name)) (keeps_both keeps_name keeps_optional_index)
    (λ line v. refl) (λ line v. refl)

-- ---- index expressions

keeps_ix_atom : Keeps grammar.IxAtom first.ix_atom ix_atom_words
keeps_ix_atom =
    keeps_either (keeps_node ix_number_of (words_spelt Number) keeps_number (λ line v. refl) (λ line v. refl))
    (keeps_node ix_named_of (words_first (Maybe grammar.FieldName ⊗ MaybeSome grammar.Indices) (words_spelt Name))
    (keeps_both keeps_name (keeps_both keeps_field_name (keeps_maybe_some keeps_indices refl refl))) (λ line v. refl) (λ line v. simp append_assoc))

words_ix_atom : HasWords grammar.IxAtom
words_ix_atom =
    words_either (words_node ix_number_of (words_spelt Number)) (words_node ix_named_of (words_first (Maybe grammar.FieldName ⊗ MaybeSome grammar.Indices) (words_spelt Name)))

keeps_ix_product : Keeps grammar.IxProduct (map first.ix_atom) (separated (rule.sym symbol.STAR) ix_atom_words)
keeps_ix_product = keeps_separated keeps_ix_atom (rule.sym symbol.STAR) refl

keeps_ix_term : Keeps grammar.IxTerm first.ix_term ix_term_words
keeps_ix_term = keeps_node ix_term_of (words_first grammar.IxProduct words_sign) (keeps_both keeps_sign keeps_ix_product) (λ line v. refl) (λ line v. refl)

abbrev first_term_words : IxTerm → List Word
first_term_words term = whether (rule.sym symbol.MINUS) term.minus ++ ix_product_words term

keeps_first_term : Keeps grammar.FirstIxTerm first.ix_term first_term_words
keeps_first_term =
    keeps_node ix_term_of (words_second (Whether (rule.sym symbol.MINUS)) (words_separated (rule.sym symbol.STAR) words_ix_atom))
    (keeps_both (keeps_whether (rule.sym symbol.MINUS) refl) keeps_ix_product) (λ line v. refl) (λ line v. refl)

keeps_ix_sum : Keeps grammar.IxSum (map first.ix_term) ix_sum_words
keeps_ix_sum = keeps_made (λ terms. terms.0 ∷ terms.1) (keeps_both keeps_first_term (keeps_each keeps_ix_term)) (λ v. refl) (λ v. refl)

keeps_ix : Keeps grammar.Ix first.right right_words
keeps_ix =
    keeps_node ix_of (words_after (MaybeSome (OneOrTwo (rule.sym symbol.COMMA) NAME) ⊗ rule.sym symbol.CLOSE_PAREN ▸ grammar.IxSum) (Keyword keyword.IX ∷ rule.sym symbol.OPEN_PAREN) (omega arith))
    (keeps_after (Keyword keyword.IX ∷ rule.sym symbol.OPEN_PAREN) refl (keeps_both (keeps_maybe_some keeps_names refl refl) (keeps_after (rule.sym symbol.CLOSE_PAREN) refl keeps_ix_sum)))
    (λ line v. refl) (λ line v. simp append_assoc)

-- ---- right sides

module _ {Value : Rule Expr} (Inside : Rule Stmt) (value : InnerKept Value) where
  pub keeps_map : Keeps (grammar.Map Value Inside) first.right right_words
  keeps_map =
      keeps_node map_of
      (words_before (Keyword keyword.REDUCE ∷ rule.sym symbol.PLUS) (words_after (NAME ⊗ MaybeSome (Arguments Value) ⊗ rule.key keyword.TO ▸ NAME) (rule.key keyword.MAP) (omega arith)))
      (keeps_before (Keyword keyword.REDUCE ∷ rule.sym symbol.PLUS) refl (keeps_after (rule.key keyword.MAP) refl
      (keeps_both keeps_name (keeps_both (keeps_list value) (keeps_after (rule.key keyword.TO) refl keeps_name)))))
      (λ line v. refl) (λ line v. simp append_assoc)

  keeps_right : Keeps (grammar.Right Value Inside) first.right right_words
  keeps_right = keeps_either keeps_map (keeps_either keeps_ix (keeps_made value_of value.keeps (λ v. refl) (λ v. refl)))

  -- the further parts, each after a comma, and the right side
  abbrev pub sides_words : {A : Type 0} → (A → List Word) → List A × Right → List Word
  sides_words p v = flat_map (λ y. fixed (rule.sym symbol.COMMA) ++ p y) v.0 ++ (fixed (rule.sym symbol.ASSIGN) ++ right_words v.1)

  sides_more : {A : Type 0} (p : A → List Word) (v : List A × Right) (parts : A × List A) → v.0 ≡ parts.0 ∷ parts.1
      → sides_words p v ≡ fixed (rule.sym symbol.COMMA) ++ (separated (rule.sym symbol.COMMA) p v.0 ++ (fixed (rule.sym symbol.ASSIGN) ++ right_words v.1))
  sides_more {A} p v parts e =
      let side : List Word = fixed (rule.sym symbol.ASSIGN) ++ right_words v.1 in
      ap (λ (xs : List A). flat_map (λ y. fixed (rule.sym symbol.COMMA) ++ p y) xs ++ side) e ∙ sym (ap (λ (xs : List A). fixed (rule.sym symbol.COMMA) ++ (separated (rule.sym symbol.COMMA) p xs ++ side)) e)

  pub keeps_sides : {A : Type 0} {Part : Rule A} {f : A → A} {p : A → List Word} → Keeps Part f p → Keeps (grammar.Sides Value Inside Part) (λ v. (map f v.0, first.right v.1)) (sides_words p)
  keeps_sides {p = p} part =
      keeps_either (keeps_made (λ side. ([], side)) (keeps_after (rule.sym symbol.ASSIGN) refl keeps_right) (λ v. refl) (λ v. refl))
      (keeps_as (keeps_after (rule.sym symbol.COMMA) refl (keeps_both (keeps_separated part (rule.sym symbol.COMMA) refl) (keeps_after (rule.sym symbol.ASSIGN) refl keeps_map)))
      (λ v ws j. refl) (λ v ws j. sides_more p v j.second.first.0 j.second.first.1))
