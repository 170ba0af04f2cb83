-- What is printed of the first parts of a list, and of one part more.
use Rattle.std.proofs.Common.{◌≡◌, ℕ, ◌+◌, ◌<◌, ◌≤◌, Bool, true, false, nat_eq, List, [], ◌∷◌, ◌++◌, append-nil, append_assoc, length, take, take_all, get_or, map, refl, sym, subst, ap, ◌∙◌, arith}
use Rattle.std.specs.List.{flat_map}
use Rattle.std.proofs.lemmas.Grind.{flat_map-append}
use Rattle.std.proofs.lemmas.List.{map-append, length-map, length-take-le}
use Rattle.std.proofs.lemmas.Bool.Decides.{nat_tests}
use Rattle.std.proofs.lemmas.List.Folds.{flat_map-map}
use Rattle.sim_lexer.specs.Words.{Word}
use Rattle.sim_lexer.specs.declared.token.TokenKind.{TokenKind}
use Rattle.sim_lexer.specs.declared.token.symbol.TheConstants as symbol
use Rattle.sim_grammar.specs.Rule.{sym as sym_of}
use Rattle.sim_syntax.specs.declared.expression.Expr.TheFolds as folds
use Rattle.sim_syntax.specs.declared.expression.SumTerm.{SumTerm}
use Rattle.sim_syntax.specs.declared.expression.ProductFactor.{ProductFactor}
use Rattle.sim_printer.specs.Printed.{Phrase, product, transposed, fixed, whether, separated, listed, at_level, expression, node, factor_of_node, row_words, term_of_node, factor_phrase, term_phrase, factor_words, product_words, term_words, sum_words, expression_words, name, ix_sum_words, ix_term_words, ix_product_words, right_words, else_words, all_words, statement_words}
use Rattle.sim_lexer.specs.declared.token.TokenKind.TheVariants.{Keyword}
use Rattle.sim_lexer.specs.declared.token.keyword.TheConstants as keyword
use Rattle.sim_syntax.specs.declared.expression.Expr.{Expr}
use Rattle.sim_syntax.specs.declared.statement.Stmt.{Stmt}
use Rattle.sim_syntax.specs.declared.statement.Right.TheVariants as right
use Rattle.sim_printer.specs.Grown.{Grown, before_part_words, before_factor_words, before_term_words}
use Rattle.sim_printer.proofs.Growing.{grown_none, grown_both, take_next}

-- words that are made of parts one after the other, where only the first part differs
pub record Builds {A : Type 0} (words : List A → List Word) (part : Bool → A → List Word) : Type 0 where
  pub nothing : words [] ≡ []
  pub next : (xs : List A) (x : A) (is_first : Bool) → is_first ≡ nat_eq (length xs) 0 → words (xs ++ x ∷ []) ≡ words xs ++ part is_first x

not_first : {A : Type 0} (y : A) (xs : List A) (b : Bool) → b ≡ nat_eq (length (y ∷ xs)) 0 → b ≡ false
not_first y xs b e = e ∙ (grind (arith, nat_tests))

builds_from : {A : Type 0} (words : List A → List Word) (first other : A → List Word) (part : Bool → A → List Word)
    → words [] ≡ [] → ((x : A) (xs : List A) → words (x ∷ xs) ≡ first x ++ flat_map other xs) → ((x : A) → part true x ≡ first x) → ((x : A) → part false x ≡ other x) → Builds words part
builds_from {A} words first other part none some is_first is_other = record { nothing = none; next = next }
  where
    next : (xs : List A) (x : A) (b : Bool) → b ≡ nat_eq (length xs) 0 → words (xs ++ x ∷ []) ≡ words xs ++ part b x
    next [] x b e = some x [] ∙ append-nil (first x) ∙ sym (is_first x) ∙ ap (λ (ws : List Word). ws ++ part true x) (sym none) ∙ ap (λ c. words [] ++ part c x) (sym e)
    next (y ∷ xs) x b e =
        some y (xs ++ x ∷ []) ∙ ap (λ (ws : List Word). first y ++ ws) (flat_map-append other xs (x ∷ []) ∙ ap (λ (ws : List Word). flat_map other xs ++ ws) (append-nil (other x)))
        ∙ sym (append_assoc (first y) (flat_map other xs) (other x)) ∙ ap (λ (ws : List Word). (first y ++ flat_map other xs) ++ ws) (sym (is_other x)) ∙ ap (λ (ws : List Word). ws ++ part false x) (sym (some y xs))
        ∙ ap (λ c. words (y ∷ xs) ++ part c x) (sym (not_first y xs b e))

builds_map : {A B : Type 0} (words : List B → List Word) (part : Bool → B → List Word) (g : A → B) → Builds words part → Builds (λ xs. words (map g xs)) (λ b x. part b (g x))
builds_map words part g h = record {
  nothing = h.nothing;
  next = λ xs x b e. ap words (map-append g xs (x ∷ [])) ∙ h.next (map g xs) (g x) b (e ∙ ap (λ n. nat_eq n 0) (sym (length-map xs g)));
}

pub separated_builds : {A B : Type 0} (kinds : List TokenKind) (p : B → List Word) (g : A → B) → Builds (λ xs. separated kinds p (map g xs)) (λ b x. before_part_words b kinds ++ p (g x))
separated_builds kinds p g = builds_map (separated kinds p) (λ b x. before_part_words b kinds ++ p x) g (builds_from (separated kinds p) p (λ y. fixed kinds ++ p y) (λ b x. before_part_words b kinds ++ p x) refl (λ x xs. refl) (λ x. refl) (λ x. refl))

pub separated_plain : {B : Type 0} (kinds : List TokenKind) (p : B → List Word) → Builds (separated kinds p) (λ b x. before_part_words b kinds ++ p x)
separated_plain kinds p = builds_from (separated kinds p) p (λ y. fixed kinds ++ p y) (λ b x. before_part_words b kinds ++ p x) refl (λ x xs. refl) (λ x. refl) (λ x. refl)

pub ix_builds : Builds ix_sum_words (λ b t. before_term_words b t.minus ++ ix_product_words t)
ix_builds = builds_from ix_sum_words (λ t. whether (sym_of symbol.MINUS) t.minus ++ ix_product_words t) ix_term_words (λ b t. before_term_words b t.minus ++ ix_product_words t) refl (λ x xs. refl) (λ x. refl) (λ x. refl)

-- the words of all statements inside another
pub inner_all : (a b : List ℕ) (all : List Stmt) (i : ℕ) → length all ≤ i → Grown a b (flat_map statement_words (take i all)) → Grown a b (all_words (map statement_words all))
inner_all a b all i le h = subst (Grown a b) (sym (flat_map-map (λ words. words) statement_words all)) (subst (λ (ss : List Stmt). Grown a b (flat_map statement_words ss)) (take_all i all le) h)

-- the words of a map, from those of its call and of its sum
pub map_grown : (a b c : List ℕ) (func : List ℕ) (args : List Expr) (set : List ℕ) (line : ℕ)
    → Grown a b (fixed (Keyword keyword.MAP ∷ []) ++ name func ++ listed expression_words args) → Grown b c (fixed (Keyword keyword.TO ∷ []) ++ name set ++ fixed (Keyword keyword.REDUCE ∷ sym_of symbol.PLUS))
    → Grown a c (right_words (right.Map line func args set))
map_grown a b c func args set line h k =
    subst (Grown a c) (simp append_assoc) (grown_both a b c (fixed (Keyword keyword.MAP ∷ []) ++ name func ++ listed expression_words args) (fixed (Keyword keyword.TO ∷ []) ++ name set ++ fixed (Keyword keyword.REDUCE ∷ sym_of symbol.PLUS)) h k)

-- an else without statements has no words
pub else_none : (a : List ℕ) (all : List Stmt) → all ≡ [] → Grown a a (else_words (map statement_words all))
else_none a all e = subst (λ (ss : List Stmt). Grown a a (else_words (map statement_words ss))) (sym e) (grown_none a)

pub product_builds : {A : Type 0} (g : A → Bool × Phrase) → Builds (λ xs. product_words (map g xs)) (λ b x. before_factor_words b (g x).0 ++ at_level transposed (g x).1)
product_builds g = builds_map product_words (λ b f. before_factor_words b f.0 ++ at_level transposed f.1) g
    (builds_from product_words (λ f. at_level transposed f.1) factor_words (λ b f. before_factor_words b f.0 ++ at_level transposed f.1) refl (λ x xs. refl) (λ x. refl) (λ x. refl))

pub sum_builds : {A : Type 0} (g : A → Bool × Phrase) → Builds (λ xs. sum_words (map g xs)) (λ b x. before_term_words b (g x).0 ++ at_level product (g x).1)
sum_builds g = builds_map sum_words (λ b t. before_term_words b t.0 ++ at_level product t.1) g
    (builds_from sum_words (λ t. whether (sym_of symbol.MINUS) t.0 ++ at_level product t.1) term_words (λ b t. before_term_words b t.0 ++ at_level product t.1) refl (λ x xs. refl) (λ x. refl) (λ x. refl))

-- ---- terms and factors

pub term_out : (b : Bool) (t : SumTerm) → before_term_words b (term_phrase t).0 ++ at_level product (term_phrase t).1 ≡ before_term_words b t.minus ++ at_level product (expression t.value)
term_out b t =
    ap (λ (p : Bool × Phrase). before_term_words b p.0 ++ at_level product p.1) (folds.fold_out-SumTerm Phrase (Bool × Phrase) (List Word) (Bool × Phrase) node factor_of_node row_words term_of_node t)

pub factor_out : (b : Bool) (f : ProductFactor) → before_factor_words b (factor_phrase f).0 ++ at_level transposed (factor_phrase f).1 ≡ before_factor_words b f.entrywise ++ at_level transposed (expression f.value)
factor_out b f =
    ap (λ (p : Bool × Phrase). before_factor_words b p.0 ++ at_level transposed p.1) (folds.fold_out-ProductFactor Phrase (Bool × Phrase) (List Word) (Bool × Phrase) node factor_of_node row_words term_of_node f)

-- ---- a loop over the parts

-- the words of the first parts stand after what was there at the start
pub record SoFar {A : Type 0} (words : List A → List Word) (start now : List ℕ) (xs : List A) (i : ℕ) (is_first : Bool) : Type 0 where
  pub grown : Grown start now (words (take i xs))
  pub first : is_first ≡ nat_eq i 0

pub so_far_start : {A : Type 0} (words : List A → List Word) (part : Bool → A → List Word) (a : List ℕ) (xs : List A) → Builds words part → SoFar words a a xs 0 true
so_far_start words part a xs h = record { grown = subst (Grown a a) (sym h.nothing) (grown_none a); first = refl }

module _ {A : Type 0} (words : List A → List Word) (part : Bool → A → List Word) (builds : Builds words part) (s a m e : List ℕ) (xs : List A) (i : ℕ) (b : Bool) where
  pub so_far_next : (x : A) (p q : List Word) → SoFar words s a xs i b → i < length xs → x ≡ get_or xs i x → Grown a m p → Grown m e q → p ++ q ≡ part b x → SoFar words s e xs (i + 1) false
  so_far_next x p q h lt is before here made =
      let size : length (take i xs) ≡ i = length-take-le i xs (omega arith) in
      let first : b ≡ nat_eq (length (take i xs)) 0 = h.first ∙ ap (λ n. nat_eq n 0) (sym size) in
      let more : words (take (i + 1) xs) ≡ words (take i xs) ++ (p ++ q) = ap words (take_next xs i x lt is) ∙ builds.next (take i xs) x b first ∙ ap (λ (ws : List Word). words (take i xs) ++ ws) (sym made) in
      record {
        grown = subst (Grown s e) (sym more) (grown_both s a e (words (take i xs)) (p ++ q) h.grown (grown_both a m e p q before here));
        first = not_zero i;
      }
    where
      not_zero : (n : ℕ) → false ≡ nat_eq (n + 1) 0
      not_zero n = grind (arith, nat_tests)

  pub so_far_all : SoFar words s a xs i b → length xs ≤ i → Grown s a (words xs)
  so_far_all h le = subst (λ ys. Grown s a (words ys)) (take_all i xs le) h.grown
