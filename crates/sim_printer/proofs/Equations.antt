-- What is printed of each expression, and how it is on the first line.
use Rattle.std.proofs.Common.{◌≡◌, ℕ, Bool, List, [], ◌∷◌, ◌++◌, map, Option, refl, sym, ap, ◌∙◌}
use Rattle.std.proofs.lemmas.List.Folds.{flat_map-map}
use Rattle.sim_lexer.specs.Words.{Word}
use Rattle.sim_lexer.specs.declared.token.TokenKind.{TokenKind}
use Rattle.sim_lexer.specs.declared.token.keyword.TheConstants as keyword
use Rattle.sim_lexer.specs.declared.token.symbol.TheConstants as symbol
use Rattle.sim_syntax.specs.declared.expression.Expr.{Expr}
use Rattle.sim_syntax.specs.declared.expression.Expr.TheVariants as expr
use Rattle.sim_syntax.specs.declared.expression.Expr.TheOpen.{Expr-F}
use Rattle.sim_syntax.specs.declared.expression.Expr.TheFolds as folds
use Rattle.sim_syntax.specs.declared.expression.Row.{Row, roll-Row}
use Rattle.sim_syntax.specs.declared.expression.SumTerm.{SumTerm, roll-SumTerm}
use Rattle.sim_syntax.specs.declared.expression.ProductFactor.{ProductFactor, roll-ProductFactor}
use Rattle.sim_grammar.specs.Rule as rule
use Rattle.sim_grammar.specs.Trees.{Text}
use Rattle.sim_printer.specs.FirstLine as first
use Rattle.sim_printer.specs.Printed.{Phrase, atom, transposed, product, sum, phrase, fixed, name, number, separated, listed, in_parentheses, at_level, whole, field_words, product_words, sum_words, node, factor_of_node, row_words, term_of_node, row_phrase, factor_phrase, term_phrase, expression, expression_words}

-- ---- lists

pub separated-map : {A B : Type 0} (separator : List TokenKind) (h : B → List Word) (g : A → B) (xs : List A) → separated separator h (map g xs) ≡ separated separator (λ x. h (g x)) xs
separated-map separator h g [] = refl
separated-map separator h g (x ∷ xs) = ap (λ (ws : List Word). h (g x) ++ ws) (flat_map-map (λ y. fixed separator ++ h y) g xs)

pub listed-map : {A B : Type 0} (h : B → List Word) (g : A → B) (xs : List A) → listed h (map g xs) ≡ listed (λ x. h (g x)) xs
listed-map h g [] = refl
listed-map h g (x ∷ xs) = ap in_parentheses (separated-map (rule.sym symbol.COMMA) h g (x ∷ xs))

-- ---- what is printed

pub phrase-Number : (line : ℕ) (digits : Text) → expression (expr.Number line digits) ≡ phrase atom (number digits)
unfolding node
phrase-Number line digits = ap expression (sym (expr.rolls-Number line digits)) ∙ folds.fold-roll-Expr Phrase (Bool × Phrase) (List Word) (Bool × Phrase) node factor_of_node row_words term_of_node (Expr-F.Number line digits)

pub phrase-Ref : (line : ℕ) (text : Text) (args : List Expr) (field : Option Text) (field_args : List Expr) (rank : Option ℕ) → expression (expr.Ref line text args field field_args rank) ≡ phrase atom (name text ++ listed expression_words args ++ field_words field (listed expression_words field_args))
unfolding node
phrase-Ref line text args field field_args rank = ap expression (sym (expr.rolls-Ref line text args field field_args rank)) ∙ folds.fold-roll-Expr Phrase (Bool × Phrase) (List Word) (Bool × Phrase) node factor_of_node row_words term_of_node (Expr-F.Ref line text args field field_args rank)
    ∙ ap (λ (ws : List Word). phrase atom (name text ++ ws ++ field_words field (listed whole (map expression field_args)))) (listed-map whole expression args)
    ∙ ap (λ (ws : List Word). phrase atom (name text ++ listed expression_words args ++ field_words field ws)) (listed-map whole expression field_args)

pub phrase-Block : (line : ℕ) (rows : List Row) → expression (expr.Block line rows) ≡ phrase atom (fixed (rule.sym symbol.OPEN_BRACKET) ++ separated (rule.sym symbol.SEMICOLON) row_phrase rows ++ fixed (rule.sym symbol.CLOSE_BRACKET))
unfolding node
phrase-Block line rows = ap expression (sym (expr.rolls-Block line rows)) ∙ folds.fold-roll-Expr Phrase (Bool × Phrase) (List Word) (Bool × Phrase) node factor_of_node row_words term_of_node (Expr-F.Block line rows)
    ∙ ap (λ (ws : List Word). phrase atom (fixed (rule.sym symbol.OPEN_BRACKET) ++ ws ++ fixed (rule.sym symbol.CLOSE_BRACKET))) (separated-map (rule.sym symbol.SEMICOLON) (λ row. row) row_phrase rows)

pub phrase-Sum : (line : ℕ) (terms : List SumTerm) → expression (expr.Sum line terms) ≡ phrase sum (sum_words (map term_phrase terms))
unfolding node
phrase-Sum line terms = ap expression (sym (expr.rolls-Sum line terms)) ∙ folds.fold-roll-Expr Phrase (Bool × Phrase) (List Word) (Bool × Phrase) node factor_of_node row_words term_of_node (Expr-F.Sum line terms)

pub phrase-Product : (line : ℕ) (factors : List ProductFactor) → expression (expr.Product line factors) ≡ phrase product (product_words (map factor_phrase factors))
unfolding node
phrase-Product line factors = ap expression (sym (expr.rolls-Product line factors)) ∙ folds.fold-roll-Expr Phrase (Bool × Phrase) (List Word) (Bool × Phrase) node factor_of_node row_words term_of_node (Expr-F.Product line factors)

pub phrase-Transposed : (line : ℕ) (value : Expr) → expression (expr.Transposed line value) ≡ phrase transposed (at_level atom (expression value) ++ fixed (rule.sym symbol.TRANSPOSE))
unfolding node
phrase-Transposed line value = ap expression (sym (expr.rolls-Transposed line value)) ∙ folds.fold-roll-Expr Phrase (Bool × Phrase) (List Word) (Bool × Phrase) node factor_of_node row_words term_of_node (Expr-F.Transposed line value)

pub phrase-Rescale : (line : ℕ) (value : Expr) (scale : Text) → expression (expr.Rescale line value scale) ≡ phrase atom (fixed (rule.key keyword.RESCALE) ++ in_parentheses (expression_words value ++ fixed (rule.sym symbol.COMMA) ++ number scale))
unfolding node
phrase-Rescale line value scale = ap expression (sym (expr.rolls-Rescale line value scale)) ∙ folds.fold-roll-Expr Phrase (Bool × Phrase) (List Word) (Bool × Phrase) node factor_of_node row_words term_of_node (Expr-F.Rescale line value scale)

pub phrase-Quot : (line : ℕ) (dividend : Expr) (divisor : Expr) (scale : Text) → expression (expr.Quot line dividend divisor scale) ≡ phrase atom (fixed (rule.key keyword.QUOT) ++ in_parentheses (expression_words dividend ++ fixed (rule.sym symbol.COMMA) ++ expression_words divisor ++ fixed (rule.sym symbol.COMMA) ++ number scale))
unfolding node
phrase-Quot line dividend divisor scale = ap expression (sym (expr.rolls-Quot line dividend divisor scale)) ∙ folds.fold-roll-Expr Phrase (Bool × Phrase) (List Word) (Bool × Phrase) node factor_of_node row_words term_of_node (Expr-F.Quot line dividend divisor scale)

pub phrase-Isqrt : (line : ℕ) (value : Expr) (scale : Text) → expression (expr.Isqrt line value scale) ≡ phrase atom (fixed (rule.key keyword.ISQRT) ++ in_parentheses (expression_words value ++ fixed (rule.sym symbol.COMMA) ++ number scale))
unfolding node
phrase-Isqrt line value scale = ap expression (sym (expr.rolls-Isqrt line value scale)) ∙ folds.fold-roll-Expr Phrase (Bool × Phrase) (List Word) (Bool × Phrase) node factor_of_node row_words term_of_node (Expr-F.Isqrt line value scale)

pub phrase-Dot : (line : ℕ) (left : Expr) (right : Expr) → expression (expr.Dot line left right) ≡ phrase atom (fixed (rule.key keyword.DOT) ++ in_parentheses (expression_words left ++ fixed (rule.sym symbol.COMMA) ++ expression_words right))
unfolding node
phrase-Dot line left right = ap expression (sym (expr.rolls-Dot line left right)) ∙ folds.fold-roll-Expr Phrase (Bool × Phrase) (List Word) (Bool × Phrase) node factor_of_node row_words term_of_node (Expr-F.Dot line left right)

pub row-is : (line : ℕ) (entries : List Expr) → row_phrase (roll-Row (record { line = line; entries = entries })) ≡ separated (rule.sym symbol.COMMA) expression_words entries
row-is line entries = folds.fold-roll-Row Phrase (Bool × Phrase) (List Word) (Bool × Phrase) node factor_of_node row_words term_of_node (record { line = line; entries = entries }) ∙ separated-map (rule.sym symbol.COMMA) whole expression entries

pub factor-is : (line : ℕ) (entrywise : Bool) (value : Expr) → factor_phrase (roll-ProductFactor (record { line = line; entrywise = entrywise; value = value })) ≡ (entrywise, expression value)
factor-is line entrywise value = folds.fold-roll-ProductFactor Phrase (Bool × Phrase) (List Word) (Bool × Phrase) node factor_of_node row_words term_of_node (record { line = line; entrywise = entrywise; value = value })

pub term-is : (line : ℕ) (minus : Bool) (value : Expr) → term_phrase (roll-SumTerm (record { line = line; minus = minus; value = value })) ≡ (minus, expression value)
term-is line minus value = folds.fold-roll-SumTerm Phrase (Bool × Phrase) (List Word) (Bool × Phrase) node factor_of_node row_words term_of_node (record { line = line; minus = minus; value = value })

-- ---- the first line

pub first-Number : (line : ℕ) (digits : Text) → first.expression (expr.Number line digits) ≡ expr.Number 1 digits
unfolding first.node
first-Number line digits = ap first.expression (sym (expr.rolls-Number line digits)) ∙ folds.fold-roll-Expr Expr ProductFactor Row SumTerm first.node first.factor_node first.row_node first.term_node (Expr-F.Number line digits)

pub first-Ref : (line : ℕ) (text : Text) (args : List Expr) (field : Option Text) (field_args : List Expr) (rank : Option ℕ) → first.expression (expr.Ref line text args field field_args rank) ≡ expr.Ref 1 text (map first.expression args) field (map first.expression field_args) rank
unfolding first.node
first-Ref line text args field field_args rank = ap first.expression (sym (expr.rolls-Ref line text args field field_args rank)) ∙ folds.fold-roll-Expr Expr ProductFactor Row SumTerm first.node first.factor_node first.row_node first.term_node (Expr-F.Ref line text args field field_args rank)

pub first-Block : (line : ℕ) (rows : List Row) → first.expression (expr.Block line rows) ≡ expr.Block 1 (map first.row rows)
unfolding first.node
first-Block line rows = ap first.expression (sym (expr.rolls-Block line rows)) ∙ folds.fold-roll-Expr Expr ProductFactor Row SumTerm first.node first.factor_node first.row_node first.term_node (Expr-F.Block line rows)

pub first-Sum : (line : ℕ) (terms : List SumTerm) → first.expression (expr.Sum line terms) ≡ expr.Sum 1 (map first.sum_term terms)
unfolding first.node
first-Sum line terms = ap first.expression (sym (expr.rolls-Sum line terms)) ∙ folds.fold-roll-Expr Expr ProductFactor Row SumTerm first.node first.factor_node first.row_node first.term_node (Expr-F.Sum line terms)

pub first-Product : (line : ℕ) (factors : List ProductFactor) → first.expression (expr.Product line factors) ≡ expr.Product 1 (map first.product_factor factors)
unfolding first.node
first-Product line factors = ap first.expression (sym (expr.rolls-Product line factors)) ∙ folds.fold-roll-Expr Expr ProductFactor Row SumTerm first.node first.factor_node first.row_node first.term_node (Expr-F.Product line factors)

pub first-Transposed : (line : ℕ) (value : Expr) → first.expression (expr.Transposed line value) ≡ expr.Transposed 1 (first.expression value)
unfolding first.node
first-Transposed line value = ap first.expression (sym (expr.rolls-Transposed line value)) ∙ folds.fold-roll-Expr Expr ProductFactor Row SumTerm first.node first.factor_node first.row_node first.term_node (Expr-F.Transposed line value)

pub first-Rescale : (line : ℕ) (value : Expr) (scale : Text) → first.expression (expr.Rescale line value scale) ≡ expr.Rescale 1 (first.expression value) scale
unfolding first.node
first-Rescale line value scale = ap first.expression (sym (expr.rolls-Rescale line value scale)) ∙ folds.fold-roll-Expr Expr ProductFactor Row SumTerm first.node first.factor_node first.row_node first.term_node (Expr-F.Rescale line value scale)

pub first-Quot : (line : ℕ) (dividend : Expr) (divisor : Expr) (scale : Text) → first.expression (expr.Quot line dividend divisor scale) ≡ expr.Quot 1 (first.expression dividend) (first.expression divisor) scale
unfolding first.node
first-Quot line dividend divisor scale = ap first.expression (sym (expr.rolls-Quot line dividend divisor scale)) ∙ folds.fold-roll-Expr Expr ProductFactor Row SumTerm first.node first.factor_node first.row_node first.term_node (Expr-F.Quot line dividend divisor scale)

pub first-Isqrt : (line : ℕ) (value : Expr) (scale : Text) → first.expression (expr.Isqrt line value scale) ≡ expr.Isqrt 1 (first.expression value) scale
unfolding first.node
first-Isqrt line value scale = ap first.expression (sym (expr.rolls-Isqrt line value scale)) ∙ folds.fold-roll-Expr Expr ProductFactor Row SumTerm first.node first.factor_node first.row_node first.term_node (Expr-F.Isqrt line value scale)

pub first-Dot : (line : ℕ) (left : Expr) (right : Expr) → first.expression (expr.Dot line left right) ≡ expr.Dot 1 (first.expression left) (first.expression right)
unfolding first.node
first-Dot line left right = ap first.expression (sym (expr.rolls-Dot line left right)) ∙ folds.fold-roll-Expr Expr ProductFactor Row SumTerm first.node first.factor_node first.row_node first.term_node (Expr-F.Dot line left right)

pub first-row : (line : ℕ) (entries : List Expr) → first.row (roll-Row (record { line = line; entries = entries })) ≡ roll-Row (record { line = 1; entries = map first.expression entries })
first-row line entries = folds.fold-roll-Row Expr ProductFactor Row SumTerm first.node first.factor_node first.row_node first.term_node (record { line = line; entries = entries })

pub first-factor : (line : ℕ) (entrywise : Bool) (value : Expr) → first.product_factor (roll-ProductFactor (record { line = line; entrywise = entrywise; value = value })) ≡ roll-ProductFactor (record { line = 1; entrywise = entrywise; value = first.expression value })
first-factor line entrywise value = folds.fold-roll-ProductFactor Expr ProductFactor Row SumTerm first.node first.factor_node first.row_node first.term_node (record { line = line; entrywise = entrywise; value = value })

pub first-term : (line : ℕ) (minus : Bool) (value : Expr) → first.sum_term (roll-SumTerm (record { line = line; minus = minus; value = value })) ≡ roll-SumTerm (record { line = 1; minus = minus; value = first.expression value })
first-term line minus value = folds.fold-roll-SumTerm Expr ProductFactor Row SumTerm first.node first.factor_node first.row_node first.term_node (record { line = line; minus = minus; value = value })
