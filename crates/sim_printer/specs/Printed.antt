-- Printed: the words of a tree, all on one line. Parentheses stand only where the grammar needs them.
use Rattle.std.specs.Prelude.{Bool, true, false, List, [], ◌∷◌, ◌++◌, map, Option, Some, None, slice_index_or}
use Rattle.std.specs.List.{flat_map}
use Rattle.sim_lexer.specs.Tokens.{keywords, symbols}
use Rattle.sim_lexer.specs.Words.{Word}
use Rattle.sim_lexer.specs.declared.token.TokenKind.{TokenKind}
use Rattle.sim_lexer.specs.declared.token.TokenKind.TheVariants.{Name, Number, Keyword, Symbol}
use Rattle.sim_lexer.specs.declared.token.keyword.TheConstants as keyword
use Rattle.sim_lexer.specs.declared.token.symbol.TheConstants as symbol
use Rattle.sim_syntax.specs.declared.expression.Expr.{Expr}
use Rattle.sim_syntax.specs.declared.expression.Expr.TheOpen.{Expr-F, Row-F, SumTerm-F, ProductFactor-F}
use Rattle.sim_syntax.specs.declared.expression.Expr.TheFolds.{fold-Expr, fold-Row, fold-SumTerm, fold-ProductFactor}
use Rattle.sim_syntax.specs.declared.expression.Row.{Row}
use Rattle.sim_syntax.specs.declared.expression.SumTerm.{SumTerm}
use Rattle.sim_syntax.specs.declared.expression.ProductFactor.{ProductFactor}
use Rattle.sim_syntax.specs.declared.condition.Cond.{Cond}
use Rattle.sim_syntax.specs.declared.condition.Conjunction.{Conjunction}
use Rattle.sim_syntax.specs.declared.condition.Cmp.{Cmp}
use Rattle.sim_syntax.specs.declared.condition.CmpOp.{CmpOp}
use Rattle.sim_syntax.specs.declared.condition.CmpOp.TheVariants as op
use Rattle.sim_syntax.specs.declared.statement.Stmt.{Stmt}
use Rattle.sim_syntax.specs.declared.statement.Stmt.TheOpen.{Stmt-F}
use Rattle.sim_syntax.specs.declared.statement.Stmt.TheFolds.{fold-Stmt}
use Rattle.sim_syntax.specs.declared.statement.Target.{Target}
use Rattle.sim_syntax.specs.declared.statement.Place.{Place}
use Rattle.sim_syntax.specs.declared.statement.Index.{Index}
use Rattle.sim_syntax.specs.declared.statement.Index.TheVariants as index
use Rattle.sim_syntax.specs.declared.statement.Right.{Right}
use Rattle.sim_syntax.specs.declared.statement.Right.TheVariants as right
use Rattle.sim_syntax.specs.declared.statement.IxTerm.{IxTerm}
use Rattle.sim_syntax.specs.declared.statement.IxAtom.{IxAtom}
use Rattle.sim_syntax.specs.declared.statement.IxAtom.TheVariants as ix_atom
use Rattle.sim_syntax.specs.declared.declaration.Decl.{Decl}
use Rattle.sim_syntax.specs.declared.declaration.Decl.TheVariants as decl
use Rattle.sim_syntax.specs.declared.declaration.Field.{Field}
use Rattle.sim_syntax.specs.declared.declaration.Local.{Local}
use Rattle.sim_syntax.specs.declared.declaration.Local.TheVariants as local
use Rattle.sim_syntax.specs.declared.declaration.Param.{Param}
use Rattle.sim_syntax.specs.declared.declaration.ParamKind.{ParamKind}
use Rattle.sim_syntax.specs.declared.declaration.ParamKind.TheVariants as kind
use Rattle.sim_syntax.specs.declared.declaration.ResultDecl.{ResultDecl}
use Rattle.sim_syntax.specs.declared.program.Program.{Program}
use Rattle.sim_grammar.specs.Rule.{sym, key}
use Rattle.sim_grammar.specs.Trees.{Text}

-- ---- words

-- how a keyword or a symbol is spelled
unfoldable pub spelling : TokenKind → Text
spelling (Keyword n) = slice_index_or keywords n []
spelling (Symbol n) = slice_index_or symbols n []
spelling other = []

abbrev pub word : TokenKind → Text → Word
word kind text = record { kind = kind; text = text; line = 1 }

-- the words of these keywords and symbols
abbrev pub fixed : List TokenKind → List Word
fixed kinds = map (λ kind. word kind (spelling kind)) kinds

abbrev pub name : Text → List Word
name text = word Name text ∷ []

abbrev pub number : Text → List Word
number digits = word Number digits ∷ []

-- fixed words, or none
abbrev pub whether : List TokenKind → Bool → List Word
whether kinds true = fixed kinds
whether kinds false = []

abbrev pub sign : Bool → List Word
sign true = fixed (sym symbol.MINUS)
sign false = fixed (sym symbol.PLUS)

abbrev pub in_parentheses : List Word → List Word
in_parentheses words = fixed (sym symbol.OPEN_PAREN) ++ words ++ fixed (sym symbol.CLOSE_PAREN)

abbrev pub comma : List Word
comma = fixed (sym symbol.COMMA)

-- two parts in parentheses, a part and a number, two parts and a number
abbrev pub pair_words : List Word → List Word → List Word
pair_words left right = in_parentheses (left ++ comma ++ right)

abbrev pub scaled_words : List Word → Text → List Word
scaled_words value scale = pair_words value (number scale)

abbrev pub quotient_words : List Word → List Word → Text → List Word
quotient_words dividend divisor scale = in_parentheses (dividend ++ comma ++ divisor ++ comma ++ number scale)

-- the words of each, with a separator between
abbrev pub separated : {A : Type 0} → List TokenKind → (A → List Word) → List A → List Word
separated separator words [] = []
separated separator words (x ∷ xs) = words x ++ flat_map (λ y. fixed separator ++ words y) xs

-- the words of each in parentheses, or none where there are none
abbrev pub listed : {A : Type 0} → (A → List Word) → List A → List Word
listed words [] = []
listed words (x ∷ xs) = in_parentheses (separated (sym symbol.COMMA) words (x ∷ xs))

-- ---- expressions

-- what an expression is, from what holds together most: an atom, a transposed one, a product, a sum
pub data Level : Type 0 where
  atom : Level
  transposed : Level
  product : Level
  sum : Level

-- the words of an expression without parentheses around it
pub record Phrase : Type 0 where
  pub level : Level
  pub words : List Word

abbrev pub phrase : Level → List Word → Phrase
phrase level words = record { level = level; words = words }

-- whether one level holds less together than another
abbrev pub is_looser : Level → Level → Bool
is_looser atom most = false
is_looser transposed atom = true
is_looser transposed most = false
is_looser product atom = true
is_looser product transposed = true
is_looser product most = false
is_looser sum sum = false
is_looser sum most = true

abbrev pub bracketed : Bool → List Word → List Word
bracketed true words = in_parentheses words
bracketed false words = words

-- the words of an expression where at most this level may stand
abbrev pub at_level : Level → Phrase → List Word
at_level most phrase = bracketed (is_looser phrase.level most) phrase.words

-- the field of a reference, with its arguments
abbrev pub field_words : Option Text → List Word → List Word
field_words None args = []
field_words (Some field) args = fixed (sym symbol.POINT) ++ name field ++ args

-- a factor is whether it is multiplied entry by entry, and its value
abbrev pub operator : Bool → List Word
operator true = fixed (sym symbol.ENTRYWISE)
operator false = fixed (sym symbol.STAR)

abbrev pub factor_words : Bool × Phrase → List Word
factor_words factor = operator factor.0 ++ at_level transposed factor.1

-- the first factor has no operator
abbrev pub product_words : List (Bool × Phrase) → List Word
product_words [] = []
product_words (first ∷ others) = at_level transposed first.1 ++ flat_map factor_words others

-- a term is whether it has a minus, and its value
abbrev pub term_words : Bool × Phrase → List Word
term_words term = sign term.0 ++ at_level product term.1

-- the first term has no plus
abbrev pub sum_words : List (Bool × Phrase) → List Word
sum_words [] = []
sum_words (first ∷ others) = whether (sym symbol.MINUS) first.0 ++ at_level product first.1 ++ flat_map term_words others

abbrev pub whole : Phrase → List Word
whole phrase = phrase.words

-- one node, with the phrases of its children
unfoldable pub node : Expr-F Phrase (Bool × Phrase) (List Word) (Bool × Phrase) → Phrase
node (Expr-F.Number line digits) = phrase atom (number digits)
node (Expr-F.Ref line text args field field_args rank) = phrase atom (name text ++ listed whole args ++ field_words field (listed whole field_args))
node (Expr-F.Block line rows) = phrase atom (fixed (sym symbol.OPEN_BRACKET) ++ separated (sym symbol.SEMICOLON) (λ row. row) rows ++ fixed (sym symbol.CLOSE_BRACKET))
node (Expr-F.Sum line terms) = phrase sum (sum_words terms)
node (Expr-F.Product line factors) = phrase product (product_words factors)
node (Expr-F.Transposed line value) = phrase transposed (at_level atom value ++ fixed (sym symbol.TRANSPOSE))
node (Expr-F.Rescale line value scale) = phrase atom (fixed (key keyword.RESCALE) ++ scaled_words value.words scale)
node (Expr-F.Quot line dividend divisor scale) = phrase atom (fixed (key keyword.QUOT) ++ quotient_words dividend.words divisor.words scale)
node (Expr-F.Isqrt line value scale) = phrase atom (fixed (key keyword.ISQRT) ++ scaled_words value.words scale)
node (Expr-F.Dot line left right) = phrase atom (fixed (key keyword.DOT) ++ pair_words left.words right.words)

abbrev pub factor_of_node : ProductFactor-F Phrase (Bool × Phrase) (List Word) (Bool × Phrase) → Bool × Phrase
factor_of_node factor = (factor.entrywise, factor.value)

abbrev pub row_words : Row-F Phrase (Bool × Phrase) (List Word) (Bool × Phrase) → List Word
row_words row = separated (sym symbol.COMMA) whole row.entries

abbrev pub term_of_node : SumTerm-F Phrase (Bool × Phrase) (List Word) (Bool × Phrase) → Bool × Phrase
term_of_node term = (term.minus, term.value)

abbrev pub expression : Expr → Phrase
expression = fold-Expr Phrase (Bool × Phrase) (List Word) (Bool × Phrase) node factor_of_node row_words term_of_node

abbrev pub row_phrase : Row → List Word
row_phrase = fold-Row Phrase (Bool × Phrase) (List Word) (Bool × Phrase) node factor_of_node row_words term_of_node

abbrev pub factor_phrase : ProductFactor → Bool × Phrase
factor_phrase = fold-ProductFactor Phrase (Bool × Phrase) (List Word) (Bool × Phrase) node factor_of_node row_words term_of_node

abbrev pub term_phrase : SumTerm → Bool × Phrase
term_phrase = fold-SumTerm Phrase (Bool × Phrase) (List Word) (Bool × Phrase) node factor_of_node row_words term_of_node

abbrev pub expression_words : Expr → List Word
expression_words e = (expression e).words

-- ---- conditions

abbrev pub comparison : CmpOp → List Word
comparison op.Equal = fixed (sym symbol.EQUAL)
comparison op.Differs = fixed (sym symbol.DIFFERS)
comparison op.Less = fixed (sym symbol.LESS)
comparison op.AtMost = fixed (sym symbol.AT_MOST)
comparison op.Greater = fixed (sym symbol.GREATER)
comparison op.AtLeast = fixed (sym symbol.AT_LEAST)

abbrev pub cmp_words : Cmp → List Word
cmp_words cmp = whether (key keyword.NOT) cmp.negated ++ expression_words cmp.left ++ comparison cmp.op ++ expression_words cmp.right

abbrev pub conjunction_words : Conjunction → List Word
conjunction_words conjunction = separated (key keyword.AND) cmp_words conjunction.parts

abbrev pub cond_words : Cond → List Word
cond_words cond = separated (key keyword.OR) conjunction_words cond.parts

-- ---- statements

abbrev pub field_name : Option Text → List Word
field_name None = []
field_name (Some field) = fixed (sym symbol.POINT) ++ name field

abbrev pub target_words : Target → List Word
target_words target = name target.name ++ field_name target.field

abbrev pub index_words : Index → List Word
index_words (index.Literal line digits) = number digits
index_words (index.Named line text) = name text

abbrev pub index_in_parentheses : Option Index → List Word
index_in_parentheses None = []
index_in_parentheses (Some index) = in_parentheses (index_words index)

abbrev pub place_words : Place → List Word
place_words place = name place.name ++ index_in_parentheses place.index

abbrev pub ix_atom_words : IxAtom → List Word
ix_atom_words (ix_atom.Number line digits) = number digits
ix_atom_words (ix_atom.Named line text field indices) = name text ++ field_name field ++ listed name indices

abbrev pub ix_product_words : IxTerm → List Word
ix_product_words term = separated (sym symbol.STAR) ix_atom_words term.atoms

abbrev pub ix_term_words : IxTerm → List Word
ix_term_words term = sign term.minus ++ ix_product_words term

-- the first term has no plus
abbrev pub ix_sum_words : List IxTerm → List Word
ix_sum_words [] = []
ix_sum_words (first ∷ others) = whether (sym symbol.MINUS) first.minus ++ ix_product_words first ++ flat_map ix_term_words others

abbrev pub right_words : Right → List Word
right_words (right.Map line func args set) = fixed (key keyword.MAP) ++ name func ++ listed expression_words args ++ fixed (key keyword.TO) ++ name set ++ fixed (Keyword keyword.REDUCE ∷ sym symbol.PLUS)
right_words (right.Ix line free terms) = fixed (key keyword.IX) ++ in_parentheses (separated (sym symbol.COMMA) name free) ++ ix_sum_words terms
right_words (right.Value value) = expression_words value

-- the words of one after the other
abbrev pub all_words : List (List Word) → List Word
all_words parts = flat_map (λ words. words) parts

-- an absent one for an empty one
abbrev pub else_words : List (List Word) → List Word
else_words [] = []
else_words (first ∷ others) = fixed (key keyword.ELSE) ++ all_words (first ∷ others)

-- one statement, with the words of those in it
unfoldable pub statement_node : Stmt-F (List Word) → List Word
statement_node (Stmt-F.Var line names right) = fixed (key keyword.VAR) ++ separated (sym symbol.COMMA) name names ++ fixed (sym symbol.ASSIGN) ++ right_words right ++ fixed (sym symbol.SEMICOLON)
statement_node (Stmt-F.Assign line targets right) = separated (sym symbol.COMMA) target_words targets ++ fixed (sym symbol.ASSIGN) ++ right_words right ++ fixed (sym symbol.SEMICOLON)
statement_node (Stmt-F.Write line result places value) =
    name result ++ in_parentheses (separated (sym symbol.COMMA) place_words places) ++ fixed (sym symbol.ASSIGN) ++ expression_words value ++ fixed (sym symbol.SEMICOLON)
statement_node (Stmt-F.ConstFor line text from to body) =
    fixed (key keyword.FOR) ++ name text ++ fixed (key keyword.IN) ++ number from ++ fixed (sym symbol.COLON) ++ number to ++ all_words body ++ fixed (key keyword.END)
statement_node (Stmt-F.For line text from to body) =
    fixed (key keyword.FOR) ++ name text ++ fixed (key keyword.IN) ++ expression_words from ++ fixed (sym symbol.COLON) ++ expression_words to ++ all_words body ++ fixed (key keyword.END)
statement_node (Stmt-F.While line cond body) = fixed (key keyword.WHILE) ++ cond_words cond ++ all_words body ++ fixed (key keyword.END)
statement_node (Stmt-F.If line cond body otherwise) = fixed (key keyword.IF) ++ cond_words cond ++ all_words body ++ else_words otherwise ++ fixed (key keyword.END)
statement_node (Stmt-F.Assert line cond) = fixed (key keyword.ASSERT) ++ cond_words cond ++ fixed (sym symbol.SEMICOLON)

abbrev pub statement_words : Stmt → List Word
statement_words = fold-Stmt (List Word) statement_node

-- ---- declarations

abbrev pub int_words : Text → List Word
int_words scale = fixed (key keyword.INT) ++ in_parentheses (number scale)

abbrev pub in_brackets : List Word → List Word
in_brackets words = fixed (sym symbol.OPEN_BRACKET) ++ words ++ fixed (sym symbol.CLOSE_BRACKET)

abbrev pub local_words : Local → List Word
local_words (local.Int line scale) = int_words scale
local_words (local.Vector line side scale) = fixed (key keyword.VECTOR) ++ in_brackets (number side) ++ in_parentheses (int_words scale)
local_words (local.Matrix line rows columns scale) =
    fixed (key keyword.MATRIX) ++ in_brackets (number rows ++ fixed (sym symbol.COMMA) ++ number columns) ++ in_parentheses (int_words scale)

abbrev pub kind_words : ParamKind → List Word
kind_words (kind.Int line scale) = int_words scale
kind_words (kind.Element line element) = name element
kind_words (kind.Ends line element count) = in_parentheses (name element ++ fixed (sym symbol.STAR) ++ number count)

abbrev pub param_words : Param → List Word
param_words param = name param.name ++ fixed (sym symbol.COLON) ++ kind_words param.kind

-- a vector over the set of the rows, or a matrix over it and the set of the columns
abbrev pub shape_words : Text → Option Text → Local → List Word
shape_words rows None block = fixed (key keyword.VECTOR) ++ in_brackets (name rows) ++ in_parentheses (local_words block)
shape_words rows (Some columns) block = fixed (key keyword.MATRIX) ++ in_brackets (name rows ++ fixed (sym symbol.COMMA) ++ name columns) ++ in_parentheses (local_words block)

abbrev pub result_words : ResultDecl → List Word
result_words result = name result.name ++ fixed (sym symbol.COLON) ++ shape_words result.rows result.columns result.block

abbrev pub field_decl_words : Field → List Word
field_decl_words field = name field.name ++ fixed (sym symbol.COLON) ++ local_words field.local ++ fixed (sym symbol.SEMICOLON)

abbrev pub declaration_words : Decl → List Word
declaration_words (decl.Element line text fields) = fixed (key keyword.ELEMENT) ++ name text ++ flat_map field_decl_words fields ++ fixed (key keyword.END)
declaration_words (decl.Set line text element ends) =
    fixed (key keyword.EXTERN) ++ name text ++ fixed (Symbol symbol.COLON ∷ Keyword keyword.SET ∷ sym symbol.OPEN_BRACE) ++ name element ++ fixed (sym symbol.CLOSE_BRACE)
    ++ listed name ends ++ fixed (sym symbol.SEMICOLON)
declaration_words (decl.Host line text args result) =
    fixed (Keyword keyword.EXTERN ∷ key keyword.FUNC) ++ name text ++ in_parentheses (separated (sym symbol.COMMA) int_words args) ++ fixed (sym symbol.ARROW) ++ int_words result ++ fixed (sym symbol.SEMICOLON)
declaration_words (decl.Func line text params results body) =
    fixed (key keyword.FUNC) ++ name text ++ in_parentheses (separated (sym symbol.COMMA) param_words params) ++ fixed (sym symbol.ARROW)
    ++ in_parentheses (separated (sym symbol.COMMA) result_words results) ++ flat_map statement_words body ++ fixed (key keyword.END)

-- the words of a program, without the end of the text
abbrev pub printed : Program → List Word
printed program = flat_map declaration_words program.decls ++ fixed (Keyword keyword.PROC ∷ key keyword.MAIN) ++ flat_map statement_words program.body ++ fixed (key keyword.END)
