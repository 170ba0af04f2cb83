-- How declarations and programs are read off the front of the words.
use Rattle.std.specs.Prelude.{ℕ, ◌-◌, List, [], ◌∷◌, length, Option, Result, Ok, Err}
use Rattle.sim_lexer.specs.Words.{Word}
use Rattle.sim_lexer.specs.declared.token.TokenKind.TheVariants.{Name, Number, Keyword, Symbol, End}
use Rattle.sim_lexer.specs.declared.token.keyword.TheConstants as keyword
use Rattle.sim_lexer.specs.declared.token.symbol.TheConstants as symbol
use Rattle.sim_syntax.specs.declared.declaration.Decl.{Decl}
use Rattle.sim_syntax.specs.declared.declaration.Field.{Field}
use Rattle.sim_syntax.specs.declared.declaration.Local.{Local}
use Rattle.sim_syntax.specs.declared.declaration.Param.{Param}
use Rattle.sim_syntax.specs.declared.declaration.ParamKind.{ParamKind}
use Rattle.sim_syntax.specs.declared.declaration.ResultDecl.{ResultDecl}
use Rattle.sim_syntax.specs.declared.program.Program.{Program}
use Rattle.sim_grammar.specs.Rule.{sym, key}
use Rattle.sim_grammar.specs.Trees.{Text, int_of, vector_of, matrix_of, int_kind_of, element_kind_of, ends_kind_of, param_of, vector_result_of, matrix_result_of, result_of, field_of, element_of, set_of, host_of, func_of, program_of}
use Rattle.sim_grammar.specs.Read.{Read, Reader, spelt, ◌⊛◌, ◌▹◌, ◌◃◌, each, choose, made, at, node, separated, maybe_some}
use Rattle.sim_grammar.specs.ReadExpressions.{all_names}
use Rattle.sim_grammar.specs.ReadFunctions.{func_body}
use Rattle.sim_grammar.specs.ReadMain.{main_body}

abbrev name : Reader Text
name = spelt Name

abbrev digits : Reader Text
digits = spelt Number

-- ---- declarations
unfoldable pub int : Reader Text
int = (Keyword keyword.INT ∷ sym symbol.OPEN_PAREN) ▹ digits ◃ sym symbol.CLOSE_PAREN

unfoldable pub vector_local : Reader Local
vector_local = node vector_of ((Keyword keyword.VECTOR ∷ sym symbol.OPEN_BRACKET) ▹ digits ⊛ (Symbol symbol.CLOSE_BRACKET ∷ sym symbol.OPEN_PAREN) ▹ int ◃ sym symbol.CLOSE_PAREN)

unfoldable pub matrix_local : Reader Local
matrix_local = node matrix_of ((Keyword keyword.MATRIX ∷ sym symbol.OPEN_BRACKET) ▹ digits ⊛ sym symbol.COMMA ▹ digits ⊛ (Symbol symbol.CLOSE_BRACKET ∷ sym symbol.OPEN_PAREN) ▹ int ◃ sym symbol.CLOSE_PAREN)

unfoldable pub int_local : Reader Local
int_local = node int_of int

unfoldable pub local : Reader Local
local = choose (key keyword.INT) int_local (choose (key keyword.VECTOR) vector_local matrix_local)

unfoldable pub ends_kind : Reader ParamKind
ends_kind = node ends_kind_of (sym symbol.OPEN_PAREN ▹ name ⊛ sym symbol.STAR ▹ digits ◃ sym symbol.CLOSE_PAREN)

unfoldable pub int_kind : Reader ParamKind
int_kind = node int_kind_of int

unfoldable pub element_kind : Reader ParamKind
element_kind = node element_kind_of name

unfoldable pub param_kind : Reader ParamKind
param_kind = choose (key keyword.INT) int_kind (choose (Name ∷ []) element_kind ends_kind)

unfoldable pub param : Reader Param
param = node param_of (name ⊛ sym symbol.COLON ▹ param_kind)

unfoldable pub params : Reader (List Param)
params = separated (sym symbol.COMMA) param

unfoldable pub vector_shape : Reader (Text × (Option Text × Local))
vector_shape = made vector_result_of ((Keyword keyword.VECTOR ∷ sym symbol.OPEN_BRACKET) ▹ name ⊛ (Symbol symbol.CLOSE_BRACKET ∷ sym symbol.OPEN_PAREN) ▹ local ◃ sym symbol.CLOSE_PAREN)

unfoldable pub matrix_shape : Reader (Text × (Option Text × Local))
matrix_shape = made matrix_result_of ((Keyword keyword.MATRIX ∷ sym symbol.OPEN_BRACKET) ▹ name ⊛ sym symbol.COMMA ▹ name ⊛ (Symbol symbol.CLOSE_BRACKET ∷ sym symbol.OPEN_PAREN) ▹ local ◃ sym symbol.CLOSE_PAREN)

unfoldable pub shape : Reader (Text × (Option Text × Local))
shape = choose (key keyword.VECTOR) vector_shape matrix_shape

unfoldable pub result : Reader ResultDecl
result = node result_of (name ⊛ sym symbol.COLON ▹ shape)

unfoldable pub results : Reader (List ResultDecl)
results = separated (sym symbol.COMMA) result

unfoldable pub field : Reader Field
field = node field_of (name ⊛ sym symbol.COLON ▹ local ◃ sym symbol.SEMICOLON)

unfoldable pub fields : Reader (List Field)
fields = each (Name ∷ []) field

unfoldable pub element : Reader Decl
element = node element_of (key keyword.ELEMENT ▹ name ⊛ fields ◃ key keyword.END)

unfoldable pub ends : Reader (List Text)
ends = sym symbol.OPEN_PAREN ▹ all_names ◃ sym symbol.CLOSE_PAREN

unfoldable pub maybe_ends : Reader (List Text)
maybe_ends = maybe_some (sym symbol.OPEN_PAREN) ends

unfoldable pub set : ℕ → Reader Decl
set line = made (set_of line) (name ⊛ (Symbol symbol.COLON ∷ Keyword keyword.SET ∷ sym symbol.OPEN_BRACE) ▹ name ⊛ sym symbol.CLOSE_BRACE ▹ maybe_ends ◃ sym symbol.SEMICOLON)

unfoldable pub ints : Reader (List Text)
ints = separated (sym symbol.COMMA) int

unfoldable pub host : ℕ → Reader Decl
host line = made (host_of line) (key keyword.FUNC ▹ name ⊛ sym symbol.OPEN_PAREN ▹ ints ⊛ (Symbol symbol.CLOSE_PAREN ∷ sym symbol.ARROW) ▹ int ◃ sym symbol.SEMICOLON)

unfoldable pub extern_decl : Reader Decl
extern_decl = at (λ line. key keyword.EXTERN ▹ choose (Name ∷ []) (set line) (host line))

unfoldable pub func : ℕ → Reader Decl
func depth = node func_of (key keyword.FUNC ▹ name ⊛ sym symbol.OPEN_PAREN ▹ params
    ⊛ (Symbol symbol.CLOSE_PAREN ∷ Symbol symbol.ARROW ∷ sym symbol.OPEN_PAREN) ▹ results
    ⊛ sym symbol.CLOSE_PAREN ▹ func_body depth ◃ key keyword.END)

unfoldable pub declaration : ℕ → Reader Decl
declaration depth = choose (key keyword.ELEMENT) element (choose (key keyword.EXTERN) extern_decl (func depth))

unfoldable pub declarations : ℕ → Reader (List Decl)
declarations depth = each (Keyword keyword.ELEMENT ∷ Keyword keyword.EXTERN ∷ key keyword.FUNC) (declaration depth)

unfoldable pub program : ℕ → Reader Program
program depth = node program_of (declarations depth ⊛ (Keyword keyword.PROC ∷ key keyword.MAIN) ▹ main_body depth ◃ key keyword.END)

-- a program and the end of the text
unfoldable pub program_text : ℕ → Reader Program
program_text depth = program depth ◃ (End ∷ [])

-- the program, or the place of the word that can't go on, counted from the first
abbrev pub answered : ℕ → Read Program → Result Program ℕ
answered count (Ok read) = Ok read.0
answered count (Err stuck) = Err (count - length stuck)

-- the program of a text's words, or the place where they stop being a cut of one: each level of nesting takes a word or more,
-- so no text nests deeper than it has words
unfoldable pub program_in : List Word → Result Program ℕ
program_in words = answered (length words) (program_text (length words) words)
