-- The words of an expression close as many brackets as they open.
use Rattle.std.proofs.Common.{Bool, true, false, List, [], ◌∷◌, ◌++◌, map, Option, Some, None, refl, sym, subst}
use Rattle.std.specs.Prelude.{⊤}
use Rattle.std.specs.List.{flat_map}
use Rattle.sim_lexer.specs.Words.{Word}
use Rattle.sim_lexer.specs.declared.token.TokenKind.{TokenKind}
use Rattle.sim_lexer.specs.declared.token.TokenKind.TheVariants.{Symbol}
use Rattle.sim_lexer.specs.declared.token.symbol.TheConstants as symbol
use Rattle.sim_syntax.specs.declared.expression.Expr as tree
use Rattle.sim_syntax.specs.declared.expression.Expr.TheOpen.{Expr-F, Row-F, SumTerm-F, ProductFactor-F}
use Rattle.sim_syntax.specs.declared.expression.Expr.TheFolds as folds
use Rattle.sim_syntax.specs.declared.expression.Row as tree_row
use Rattle.sim_syntax.specs.declared.expression.SumTerm as tree_term
use Rattle.sim_syntax.specs.declared.expression.ProductFactor as tree_factor
use Rattle.sim_grammar.specs.Rule as rule
use Rattle.sim_grammar.specs.Trees.{Text}
use Rattle.sim_printer.specs.Printed.{Phrase, Level, atom, transposed, product, fixed, number, separated, listed, in_parentheses, bracketed, at_level, is_looser, whole, field_words, factor_words, product_words, term_words, sum_words, whether, operator, sign, node, factor_of_node, row_words, term_of_node, expression, expression_words}
use Rattle.sim_printer.specs.Printed.{row_phrase, factor_phrase, term_phrase}
use Rattle.sim_printer.proofs.Lightness.{IsBalanced, balanced_append, balanced_around}

-- ---- lists

abbrev EachBalanced : {A : Type 0} → (A → List Word) → List A → Type 0
EachBalanced p [] = ⊤
EachBalanced p (x ∷ xs) = IsBalanced (p x) × EachBalanced p xs

flat_balanced : {A : Type 0} (p : A → List Word) (xs : List A) → EachBalanced p xs → IsBalanced (flat_map p xs)
flat_balanced p [] h = λ d. refl
flat_balanced p (x ∷ xs) h = balanced_append (p x) (flat_map p xs) h.0 (flat_balanced p xs h.1)

each_after : {A : Type 0} (kinds : List TokenKind) (p : A → List Word) (xs : List A) → IsBalanced (fixed kinds) → EachBalanced p xs → EachBalanced (λ x. fixed kinds ++ p x) xs
each_after kinds p [] e h = tt
each_after kinds p (x ∷ xs) e h = (balanced_append (fixed kinds) (p x) e h.0, each_after kinds p xs e h.1)

separated_balanced : {A : Type 0} (kinds : List TokenKind) (p : A → List Word) (xs : List A) → IsBalanced (fixed kinds) → EachBalanced p xs → IsBalanced (separated kinds p xs)
separated_balanced kinds p [] e h = λ d. refl
separated_balanced kinds p (x ∷ xs) e h = balanced_append (p x) (flat_map (λ y. fixed kinds ++ p y) xs) h.0 (flat_balanced (λ y. fixed kinds ++ p y) xs (each_after kinds p xs e h.1))

parentheses_balanced : (ws : List Word) → IsBalanced ws → IsBalanced (in_parentheses ws)
parentheses_balanced ws h = balanced_around (Symbol symbol.OPEN_PAREN) (Symbol symbol.CLOSE_PAREN) ws refl refl refl h

listed_balanced : {A : Type 0} (p : A → List Word) (xs : List A) → EachBalanced p xs → IsBalanced (listed p xs)
listed_balanced p [] h = λ d. refl
listed_balanced p (x ∷ xs) h = parentheses_balanced (separated (rule.sym symbol.COMMA) p (x ∷ xs)) (separated_balanced (rule.sym symbol.COMMA) p (x ∷ xs) (λ d. refl) h)

-- ---- levels

bracketed_balanced : (b : Bool) (ws : List Word) → IsBalanced ws → IsBalanced (bracketed b ws)
bracketed_balanced true ws h = parentheses_balanced ws h
bracketed_balanced false ws h = h

level_balanced : (most : Level) (p : Phrase) → IsBalanced p.words → IsBalanced (at_level most p)
level_balanced most p h = bracketed_balanced (is_looser p.level most) p.words h

operator_balanced : (b : Bool) → IsBalanced (operator b)
operator_balanced true = λ d. refl
operator_balanced false = λ d. refl

sign_balanced : (b : Bool) → IsBalanced (sign b)
sign_balanced true = λ d. refl
sign_balanced false = λ d. refl

minus_balanced : (b : Bool) → IsBalanced (whether (rule.sym symbol.MINUS) b)
minus_balanced true = λ d. refl
minus_balanced false = λ d. refl

abbrev part : Bool × Phrase → List Word
part p = p.1.words

factors_balanced : (fs : List (Bool × Phrase)) → EachBalanced part fs → IsBalanced (flat_map factor_words fs)
factors_balanced [] h = λ d. refl
factors_balanced (f ∷ fs) h = balanced_append (factor_words f) (flat_map factor_words fs) (balanced_append (operator f.0) (at_level transposed f.1) (operator_balanced f.0) (level_balanced transposed f.1 h.0)) (factors_balanced fs h.1)

product_balanced : (fs : List (Bool × Phrase)) → EachBalanced part fs → IsBalanced (product_words fs)
product_balanced [] h = λ d. refl
product_balanced (f ∷ fs) h = balanced_append (at_level transposed f.1) (flat_map factor_words fs) (level_balanced transposed f.1 h.0) (factors_balanced fs h.1)

terms_balanced : (ts : List (Bool × Phrase)) → EachBalanced part ts → IsBalanced (flat_map term_words ts)
terms_balanced [] h = λ d. refl
terms_balanced (t ∷ ts) h = balanced_append (term_words t) (flat_map term_words ts) (balanced_append (sign t.0) (at_level product t.1) (sign_balanced t.0) (level_balanced product t.1 h.0)) (terms_balanced ts h.1)

sum_balanced : (ts : List (Bool × Phrase)) → EachBalanced part ts → IsBalanced (sum_words ts)
sum_balanced [] h = λ d. refl
sum_balanced (t ∷ ts) h =
    balanced_append (whether (rule.sym symbol.MINUS) t.0 ++ at_level product t.1) (flat_map term_words ts)
    (balanced_append (whether (rule.sym symbol.MINUS) t.0) (at_level product t.1) (minus_balanced t.0) (level_balanced product t.1 h.0)) (terms_balanced ts h.1)

field_balanced : (field : Option Text) (ws : List Word) → IsBalanced ws → IsBalanced (field_words field ws)
field_balanced None ws h = λ d. refl
field_balanced (Some text) ws h = h

-- two parts in parentheses
pair_balanced : (a b : List Word) → IsBalanced a → IsBalanced b → IsBalanced (in_parentheses (a ++ fixed (rule.sym symbol.COMMA) ++ b))
pair_balanced a b h k = parentheses_balanced (a ++ fixed (rule.sym symbol.COMMA) ++ b) (balanced_append (a ++ fixed (rule.sym symbol.COMMA)) b (balanced_append a (fixed (rule.sym symbol.COMMA)) h (λ d. refl)) k)

-- ---- trees

-- a child with the fact of it
abbrev E : Type 0
E = (e : tree.Expr) × IsBalanced (expression e).words

abbrev F : Type 0
F = (f : tree_factor.ProductFactor) × IsBalanced (part (factor_phrase f))

abbrev R : Type 0
R = (r : tree_row.Row) × IsBalanced (row_phrase r)

abbrev T : Type 0
T = (t : tree_term.SumTerm) × IsBalanced (part (term_phrase t))

each_of : {A B : Type 0} (g : A → B) (p : B → List Word) (xs : List ((a : A) × IsBalanced (p (g a)))) → EachBalanced p (map g (map (λ x. x.0) xs))
each_of g p [] = tt
each_of g p (x ∷ xs) = (x.1, each_of g p xs)

abbrev plain : Expr-F E F R T → Expr-F tree.Expr tree_factor.ProductFactor tree_row.Row tree_term.SumTerm
plain y = tree.map-Expr E F R T tree.Expr tree_factor.ProductFactor tree_row.Row tree_term.SumTerm (λ e. e.0) (λ e. e.0) (λ e. e.0) (λ e. e.0) y

abbrev printed_node : Expr-F tree.Expr tree_factor.ProductFactor tree_row.Row tree_term.SumTerm → Expr-F Phrase (Bool × Phrase) (List Word) (Bool × Phrase)
printed_node x = tree.map-Expr tree.Expr tree_factor.ProductFactor tree_row.Row tree_term.SumTerm Phrase (Bool × Phrase) (List Word) (Bool × Phrase) expression factor_phrase row_phrase term_phrase x

node_balanced : (y : Expr-F E F R T) → IsBalanced (node (printed_node (plain y))).words
unfolding node
node_balanced (Expr-F.Number line digits) = λ d. refl
node_balanced (Expr-F.Ref line text args field field_args rank) =
    balanced_append (listed whole (map expression (map (λ a. a.0) args))) (field_words field (listed whole (map expression (map (λ a. a.0) field_args))))
    (listed_balanced whole (map expression (map (λ a. a.0) args)) (each_of expression whole args))
    (field_balanced field (listed whole (map expression (map (λ a. a.0) field_args))) (listed_balanced whole (map expression (map (λ a. a.0) field_args)) (each_of expression whole field_args)))
node_balanced (Expr-F.Block line rows) =
    let parts : List (List Word) = map row_phrase (map (λ r. r.0) rows) in
    balanced_around (Symbol symbol.OPEN_BRACKET) (Symbol symbol.CLOSE_BRACKET) (separated (rule.sym symbol.SEMICOLON) (λ row. row) parts) refl refl refl
    (separated_balanced (rule.sym symbol.SEMICOLON) (λ row. row) parts (λ d. refl) (each_of row_phrase (λ row. row) rows))
node_balanced (Expr-F.Sum line terms) = sum_balanced (map term_phrase (map (λ t. t.0) terms)) (each_of term_phrase part terms)
node_balanced (Expr-F.Product line factors) = product_balanced (map factor_phrase (map (λ f. f.0) factors)) (each_of factor_phrase part factors)
node_balanced (Expr-F.Transposed line value) = balanced_append (at_level atom (expression value.0)) (fixed (rule.sym symbol.TRANSPOSE)) (level_balanced atom (expression value.0) value.1) (λ d. refl)
node_balanced (Expr-F.Rescale line value scale) = pair_balanced (expression_words value.0) (number scale) value.1 (λ d. refl)
node_balanced (Expr-F.Quot line dividend divisor scale) =
    let comma : List Word = fixed (rule.sym symbol.COMMA) in
    pair_balanced (expression_words dividend.0 ++ comma ++ expression_words divisor.0) (number scale)
    (balanced_append (expression_words dividend.0 ++ comma) (expression_words divisor.0) (balanced_append (expression_words dividend.0) comma dividend.1 (λ d. refl)) divisor.1) (λ d. refl)
node_balanced (Expr-F.Isqrt line value scale) = pair_balanced (expression_words value.0) (number scale) value.1 (λ d. refl)
node_balanced (Expr-F.Dot line left right) = pair_balanced (expression_words left.0) (expression_words right.0) left.1 right.1

expression_layer : (y : Expr-F E F R T) → IsBalanced (expression (tree.roll-Expr (plain y))).words
expression_layer y =
    subst (λ (p : Phrase). IsBalanced p.words) (sym (folds.fold-roll-Expr Phrase (Bool × Phrase) (List Word) (Bool × Phrase) node factor_of_node row_words term_of_node (plain y))) (node_balanced y)

factor_layer : (y : ProductFactor-F E F R T) → IsBalanced (part (factor_phrase (tree_factor.roll-ProductFactor (record { line = y.line; entrywise = y.entrywise; value = y.value.0 }))))
factor_layer y =
    subst (λ (p : Bool × Phrase). IsBalanced (part p)) (sym (folds.fold-roll-ProductFactor Phrase (Bool × Phrase) (List Word) (Bool × Phrase) node factor_of_node row_words term_of_node (record { line = y.line; entrywise = y.entrywise; value = y.value.0 }))) y.value.1

row_layer : (y : Row-F E F R T) → IsBalanced (row_phrase (tree_row.roll-Row (record { line = y.line; entries = map (λ e. e.0) y.entries })))
row_layer y =
    subst IsBalanced (sym (folds.fold-roll-Row Phrase (Bool × Phrase) (List Word) (Bool × Phrase) node factor_of_node row_words term_of_node (record { line = y.line; entries = map (λ e. e.0) y.entries })))
    (separated_balanced (rule.sym symbol.COMMA) whole (map expression (map (λ e. e.0) y.entries)) (λ d. refl) (each_of expression whole y.entries))

term_layer : (y : SumTerm-F E F R T) → IsBalanced (part (term_phrase (tree_term.roll-SumTerm (record { line = y.line; minus = y.minus; value = y.value.0 }))))
term_layer y =
    subst (λ (p : Bool × Phrase). IsBalanced (part p)) (sym (folds.fold-roll-SumTerm Phrase (Bool × Phrase) (List Word) (Bool × Phrase) node factor_of_node row_words term_of_node (record { line = y.line; minus = y.minus; value = y.value.0 }))) y.value.1

pub expression_balanced : (e : tree.Expr) → IsBalanced (expression_words e)
expression_balanced = folds.ind-Expr
    (λ e. IsBalanced (expression e).words) (λ f. IsBalanced (part (factor_phrase f))) (λ r. IsBalanced (row_phrase r)) (λ t. IsBalanced (part (term_phrase t)))
    (λ x y is. subst (λ z. IsBalanced (expression (tree.roll-Expr z)).words) is (expression_layer y))
    (λ x y is. subst (λ z. IsBalanced (part (factor_phrase (tree_factor.roll-ProductFactor z)))) is (factor_layer y))
    (λ x y is. subst (λ z. IsBalanced (row_phrase (tree_row.roll-Row z))) is (row_layer y))
    (λ x y is. subst (λ z. IsBalanced (part (term_phrase (tree_term.roll-SumTerm z)))) is (term_layer y))
