-- The grammar of programs: which words state which tree, and which are cuts of a program. Above each rule stands the line of
-- the grammar that it is.
--
-- { } repeats, [ ] is optional, ( ) groups alternatives. Two alternatives that begin alike are written as one, with
-- their ends as alternatives.
use Rattle.std.specs.Prelude.{◌≡◌, ℕ, zero, suc, ◌+◌, ◌<◌, Bool, true, false, List, [], ◌∷◌, length, take, Option, None}
use Rattle.sim_lexer.specs.Words.{Word}
use Rattle.sim_lexer.specs.declared.token.TokenKind.TheVariants.{Name, Number, Keyword, Symbol, End}
use Rattle.sim_lexer.specs.declared.token.keyword.TheConstants as keyword
use Rattle.sim_lexer.specs.declared.token.symbol.TheConstants as symbol
use Rattle.sim_syntax.specs.declared.expression.Expr.{Expr}
use Rattle.sim_syntax.specs.declared.expression.Row as row
use Rattle.sim_syntax.specs.declared.expression.SumTerm.{SumTerm}
use Rattle.sim_syntax.specs.declared.expression.ProductFactor.{ProductFactor}
use Rattle.sim_syntax.specs.declared.condition.Cond as cond
use Rattle.sim_syntax.specs.declared.condition.Conjunction as conjunction
use Rattle.sim_syntax.specs.declared.condition.Cmp as cmp
use Rattle.sim_syntax.specs.declared.condition.CmpOp.{CmpOp}
use Rattle.sim_syntax.specs.declared.condition.CmpOp.TheVariants as op
use Rattle.sim_syntax.specs.declared.statement.Stmt.{Stmt}
use Rattle.sim_syntax.specs.declared.statement.Target as target
use Rattle.sim_syntax.specs.declared.statement.Place as place
use Rattle.sim_syntax.specs.declared.statement.Index as index
use Rattle.sim_syntax.specs.declared.statement.Right as right
use Rattle.sim_syntax.specs.declared.statement.IxTerm as ix_term
use Rattle.sim_syntax.specs.declared.statement.IxAtom as ix_atom
use Rattle.sim_syntax.specs.declared.declaration.Decl as decl
use Rattle.sim_syntax.specs.declared.declaration.Field as field
use Rattle.sim_syntax.specs.declared.declaration.Local as local
use Rattle.sim_syntax.specs.declared.declaration.Param as param
use Rattle.sim_syntax.specs.declared.declaration.ParamKind as kind
use Rattle.sim_syntax.specs.declared.declaration.ResultDecl.{ResultDecl}
use Rattle.sim_syntax.specs.declared.program.Program as program
use Rattle.sim_grammar.specs.Rule.{Rule, sym, key, Spelt, ◌⊗◌, ◌▸◌, ◌◂◌, Each, ◌∣◌, Fixed, Made, At, Node, Never, Separated, OneOrTwo, Maybe, MaybeSome, Whether}
use Rattle.sim_grammar.specs.Trees.{Text, number_of, ref_of, field_of_ref, row_of, block_of, rescale_of, quot_of, isqrt_of, dot_of, post_of, factor_of, product_of, term_of, sum_of, cmp_of, conjunction_of, cond_of, if_of, assert_of, literal_of, named_of, place_of, local_var_of, named_stmt_of, const_for_of, target_of, map_of, value_of, var_of, assign_of, while_of, for_of, ix_number_of, ix_named_of, ix_term_of, ix_of, int_of, vector_of, matrix_of, int_kind_of, element_kind_of, ends_kind_of, param_of, vector_result_of, matrix_result_of, result_of, field_of, element_of, set_of, host_of, func_of, program_of}

-- ( "+" | "-" ), whether it is a minus
abbrev pub Sign : Rule Bool
Sign = Fixed (sym symbol.PLUS) false ∣ Fixed (sym symbol.MINUS) true

-- ( "*" | ".*" ), whether it is entry by entry
abbrev pub Operator : Rule Bool
Operator = Fixed (sym symbol.STAR) false ∣ Fixed (sym symbol.ENTRYWISE) true

-- ( "==" | "!=" | "<" | "<=" | ">" | ">=" )
abbrev pub Comparison : Rule CmpOp
Comparison = Fixed (sym symbol.EQUAL) op.Equal ∣ Fixed (sym symbol.DIFFERS) op.Differs ∣ Fixed (sym symbol.LESS) op.Less ∣ Fixed (sym symbol.AT_MOST) op.AtMost
    ∣ Fixed (sym symbol.GREATER) op.Greater ∣ Fixed (sym symbol.AT_LEAST) op.AtLeast

abbrev pub NAME : Rule Text
NAME = Spelt Name

abbrev pub NUM : Rule Text
NUM = Spelt Number

-- ---- expressions; those inside are of a rule
module _ (Inner : Rule Expr) where
  -- list = "(" expr { "," expr } ")"
  abbrev pub Arguments : Rule (List Expr)
  Arguments = sym symbol.OPEN_PAREN ▸ Separated (sym symbol.COMMA) Inner ◂ sym symbol.CLOSE_PAREN

  -- "." NAME [ list ]
  abbrev pub FieldRef : Rule (Option Text × List Expr)
  FieldRef = Made field_of_ref (sym symbol.POINT ▸ NAME ⊗ MaybeSome Arguments)

  -- ref = NAME [ list ] [ "." NAME [ list ] ]
  abbrev pub Reference : Rule Expr
  Reference = Node ref_of (NAME ⊗ MaybeSome Arguments ⊗ (FieldRef ∣ Fixed [] (None, [])))

  -- "(" expr ")"
  abbrev pub Parenthesised : Rule Expr
  Parenthesised = sym symbol.OPEN_PAREN ▸ Inner ◂ sym symbol.CLOSE_PAREN

  -- row = expr { "," expr }
  abbrev pub Row : Rule row.Row
  Row = Node row_of (Separated (sym symbol.COMMA) Inner)

  -- "[" row { ";" row } "]"
  abbrev pub Block : Rule Expr
  Block = Node block_of (sym symbol.OPEN_BRACKET ▸ Separated (sym symbol.SEMICOLON) Row ◂ sym symbol.CLOSE_BRACKET)

  -- "rescale" "(" expr "," NUM ")"
  abbrev pub Rescale : Rule Expr
  Rescale = Node rescale_of ((Keyword keyword.RESCALE ∷ sym symbol.OPEN_PAREN) ▸ Inner ⊗ sym symbol.COMMA ▸ NUM ◂ sym symbol.CLOSE_PAREN)

  -- "quot" "(" expr "," expr "," NUM ")"
  abbrev pub Quot : Rule Expr
  Quot = Node quot_of ((Keyword keyword.QUOT ∷ sym symbol.OPEN_PAREN) ▸ Inner ⊗ sym symbol.COMMA ▸ Inner ⊗ sym symbol.COMMA ▸ NUM ◂ sym symbol.CLOSE_PAREN)

  -- "isqrt" "(" expr "," NUM ")"
  abbrev pub Isqrt : Rule Expr
  Isqrt = Node isqrt_of ((Keyword keyword.ISQRT ∷ sym symbol.OPEN_PAREN) ▸ Inner ⊗ sym symbol.COMMA ▸ NUM ◂ sym symbol.CLOSE_PAREN)

  -- "dot" "(" expr "," expr ")"
  abbrev pub Dot : Rule Expr
  Dot = Node dot_of ((Keyword keyword.DOT ∷ sym symbol.OPEN_PAREN) ▸ Inner ⊗ sym symbol.COMMA ▸ Inner ◂ sym symbol.CLOSE_PAREN)

  -- atom = NUM | ref | "(" expr ")" | "[" .. "]" | "rescale" .. | "quot" .. | "isqrt" .. | "dot" ..
  abbrev pub Atom : Rule Expr
  Atom = Node number_of NUM ∣ Reference ∣ Parenthesised ∣ Block ∣ Rescale ∣ Quot ∣ Isqrt ∣ Dot

  -- post = atom [ "'" ]
  abbrev pub Post : Rule Expr
  Post = Node post_of (Atom ⊗ Whether (sym symbol.TRANSPOSE))

  -- ( "*" | ".*" ) post
  abbrev pub Factor : Rule ProductFactor
  Factor = Node factor_of (Operator ⊗ Post)

  -- term = post { ( "*" | ".*" ) post }
  abbrev pub Term : Rule Expr
  Term = Node product_of (Post ⊗ Each Factor)

  -- ( "+" | "-" ) term
  abbrev pub SignedTerm : Rule SumTerm
  SignedTerm = Node term_of (Sign ⊗ Term)

  -- expr = [ "-" ] term { ( "+" | "-" ) term }
  abbrev pub Sum : Rule Expr
  Sum = Node sum_of (Whether (sym symbol.MINUS) ⊗ Term ⊗ Each SignedTerm)

-- an expression in which others are nested less than so deep
abbrev pub Expression : ℕ → Rule Expr
Expression zero = Never
Expression (suc depth) = Sum (Expression depth)

-- ---- conditions
module _ (Value : Rule Expr) where
  -- cmp = [ "not" ] expr ( "==" | "!=" | "<" | "<=" | ">" | ">=" ) expr
  abbrev pub Cmp : Rule cmp.Cmp
  Cmp = Node cmp_of (Whether (key keyword.NOT) ⊗ Value ⊗ Comparison ⊗ Value)

  -- conj = cmp { "and" cmp }
  abbrev pub Conjunction : Rule conjunction.Conjunction
  Conjunction = Node conjunction_of (Separated (key keyword.AND) Cmp)

  -- cond = conj { "or" conj }
  abbrev pub Condition : Rule cond.Cond
  Condition = Node cond_of (Separated (key keyword.OR) Conjunction)

-- ---- statements; their values and the statements inside are of a rule
module _ (Value : Rule Expr) (Inside : Rule Stmt) where
  -- [ "else" { stmt } ]
  abbrev pub Else : Rule (List Stmt)
  Else = MaybeSome (key keyword.ELSE ▸ Each Inside)

  -- "if" cond { stmt } [ "else" { stmt } ] "end"
  abbrev pub If : Rule Stmt
  If = Node if_of (key keyword.IF ▸ Condition Value ⊗ Each Inside ⊗ Else ◂ key keyword.END)

  -- "assert" cond ";"
  abbrev pub Assert : Rule Stmt
  Assert = Node assert_of (key keyword.ASSERT ▸ Condition Value ◂ sym symbol.SEMICOLON)

-- ( NUM | NAME )
abbrev pub Index : Rule index.Index
Index = Node literal_of NUM ∣ Node named_of NAME

-- place = NAME [ "(" ( NUM | NAME ) ")" ]
abbrev pub Place : Rule place.Place
Place = Node place_of (NAME ⊗ Maybe (sym symbol.OPEN_PAREN ▸ Index ◂ sym symbol.CLOSE_PAREN))

module _ (Value : Rule Expr) (Inside : Rule Stmt) where
  -- "var" NAME "=" expr ";"
  abbrev pub LocalVar : Rule Stmt
  LocalVar = Node local_var_of (key keyword.VAR ▸ NAME ⊗ sym symbol.ASSIGN ▸ Value ◂ sym symbol.SEMICOLON)

  -- "(" place [ "," place ] ")"
  abbrev pub Places : Rule (List place.Place)
  Places = sym symbol.OPEN_PAREN ▸ OneOrTwo (sym symbol.COMMA) Place ◂ sym symbol.CLOSE_PAREN

  -- NAME "=" expr ";" | NAME "(" place [ "," place ] ")" "=" expr ";"
  abbrev pub NamedStmt : Rule Stmt
  NamedStmt = Node named_stmt_of (NAME ⊗ Maybe Places ⊗ sym symbol.ASSIGN ▸ Value ◂ sym symbol.SEMICOLON)

  -- "for" NAME "in" NUM ":" NUM { fstmt } "end"
  abbrev pub ConstFor : Rule Stmt
  ConstFor = Node const_for_of (key keyword.FOR ▸ NAME ⊗ key keyword.IN ▸ NUM ⊗ sym symbol.COLON ▸ NUM ⊗ Each Inside ◂ key keyword.END)

  -- fstmt = "var" .. | "for" .. | "if" .. | "assert" .. | NAME ..
  abbrev pub FuncStmt : Rule Stmt
  FuncStmt = LocalVar ∣ ConstFor ∣ If Value Inside ∣ Assert Value Inside ∣ NamedStmt

-- a statement of a function in which others, and expressions, are nested less than so deep
abbrev pub FuncStatement : ℕ → Rule Stmt
FuncStatement zero = Never
FuncStatement (suc depth) = FuncStmt (Expression depth) (FuncStatement depth)

-- ---- index expressions

-- "(" NAME [ "," NAME ] ")"
abbrev pub Indices : Rule (List Text)
Indices = sym symbol.OPEN_PAREN ▸ OneOrTwo (sym symbol.COMMA) NAME ◂ sym symbol.CLOSE_PAREN

-- "." NAME
abbrev pub FieldName : Rule Text
FieldName = sym symbol.POINT ▸ NAME

-- ixatom = NUM | NAME [ "." NAME ] [ "(" NAME [ "," NAME ] ")" ]
abbrev pub IxAtom : Rule ix_atom.IxAtom
IxAtom = Node ix_number_of NUM ∣ Node ix_named_of (NAME ⊗ Maybe FieldName ⊗ MaybeSome Indices)

-- ixterm = ixatom { "*" ixatom }
abbrev pub IxProduct : Rule (List ix_atom.IxAtom)
IxProduct = Separated (sym symbol.STAR) IxAtom

-- ( "+" | "-" ) ixterm
abbrev pub IxTerm : Rule ix_term.IxTerm
IxTerm = Node ix_term_of (Sign ⊗ IxProduct)

-- [ "-" ] ixterm
abbrev pub FirstIxTerm : Rule ix_term.IxTerm
FirstIxTerm = Node ix_term_of (Whether (sym symbol.MINUS) ⊗ IxProduct)

-- ixsum = [ "-" ] ixterm { ( "+" | "-" ) ixterm }
abbrev pub IxSum : Rule (List ix_term.IxTerm)
IxSum = Made (λ terms. terms.0 ∷ terms.1) (FirstIxTerm ⊗ Each IxTerm)

-- ix = "ix" "(" [ NAME [ "," NAME ] ] ")" ixsum
abbrev pub Ix : Rule right.Right
Ix = Node ix_of ((Keyword keyword.IX ∷ sym symbol.OPEN_PAREN) ▸ MaybeSome (OneOrTwo (sym symbol.COMMA) NAME) ⊗ sym symbol.CLOSE_PAREN ▸ IxSum)

-- ---- statements of the main procedure

-- target = NAME [ "." NAME ]
abbrev pub Target : Rule target.Target
Target = Node target_of (NAME ⊗ Maybe FieldName)

module _ (Value : Rule Expr) (Inside : Rule Stmt) where
  -- map = "map" NAME [ "(" expr { "," expr } ")" ] "to" NAME "reduce" "+"
  abbrev pub Map : Rule right.Right
  Map = Node map_of (key keyword.MAP ▸ NAME ⊗ MaybeSome (Arguments Value) ⊗ key keyword.TO ▸ NAME ◂ (Keyword keyword.REDUCE ∷ sym symbol.PLUS))

  -- right = map | ix | expr
  abbrev pub Right : Rule right.Right
  Right = Map ∣ Ix ∣ Made value_of Value

  -- "=" right | "," part { "," part } "=" map: the further parts, and the right side
  abbrev pub Sides : {A : Type 0} → Rule A → Rule (List A × right.Right)
  Sides Part = Made (λ side. ([], side)) (sym symbol.ASSIGN ▸ Right) ∣ sym symbol.COMMA ▸ Separated (sym symbol.COMMA) Part ⊗ sym symbol.ASSIGN ▸ Map

  -- "var" NAME "=" right ";" | "var" NAME "," NAME { "," NAME } "=" map ";"
  abbrev pub Var : Rule Stmt
  Var = Node var_of (key keyword.VAR ▸ NAME ⊗ Sides NAME ◂ sym symbol.SEMICOLON)

  -- target "=" right ";" | target "," target { "," target } "=" map ";"
  abbrev pub Assign : Rule Stmt
  Assign = Node assign_of (Target ⊗ Sides Target ◂ sym symbol.SEMICOLON)

  -- "while" cond { mstmt } "end"
  abbrev pub While : Rule Stmt
  While = Node while_of (key keyword.WHILE ▸ Condition Value ⊗ Each Inside ◂ key keyword.END)

  -- "for" NAME "in" expr ":" expr { mstmt } "end"
  abbrev pub For : Rule Stmt
  For = Node for_of (key keyword.FOR ▸ NAME ⊗ key keyword.IN ▸ Value ⊗ sym symbol.COLON ▸ Value ⊗ Each Inside ◂ key keyword.END)

  -- mstmt = "var" .. | "while" .. | "for" .. | "if" .. | "assert" .. | target ..
  abbrev pub MainStmt : Rule Stmt
  MainStmt = Var ∣ While ∣ For ∣ If Value Inside ∣ Assert Value Inside ∣ Assign

-- a statement of the main procedure in which others, and expressions, are nested less than so deep
abbrev pub MainStatement : ℕ → Rule Stmt
MainStatement zero = Never
MainStatement (suc depth) = MainStmt (Expression depth) (MainStatement depth)

-- ---- declarations

-- int = "int" "(" NUM ")"
abbrev pub Int : Rule Text
Int = (Keyword keyword.INT ∷ sym symbol.OPEN_PAREN) ▸ NUM ◂ sym symbol.CLOSE_PAREN

-- local = int | "vector" "[" NUM "]" "(" int ")" | "matrix" "[" NUM "," NUM "]" "(" int ")"
abbrev pub Local : Rule local.Local
Local = Node int_of Int
    ∣ Node vector_of ((Keyword keyword.VECTOR ∷ sym symbol.OPEN_BRACKET) ▸ NUM ⊗ (Symbol symbol.CLOSE_BRACKET ∷ sym symbol.OPEN_PAREN) ▸ Int ◂ sym symbol.CLOSE_PAREN)
    ∣ Node matrix_of ((Keyword keyword.MATRIX ∷ sym symbol.OPEN_BRACKET) ▸ NUM ⊗ sym symbol.COMMA ▸ NUM ⊗ (Symbol symbol.CLOSE_BRACKET ∷ sym symbol.OPEN_PAREN) ▸ Int ◂ sym symbol.CLOSE_PAREN)

-- ( int | NAME | "(" NAME "*" NUM ")" )
abbrev pub ParamKind : Rule kind.ParamKind
ParamKind = Node int_kind_of Int ∣ Node element_kind_of NAME ∣ Node ends_kind_of (sym symbol.OPEN_PAREN ▸ NAME ⊗ sym symbol.STAR ▸ NUM ◂ sym symbol.CLOSE_PAREN)

-- param = NAME ":" ( int | NAME | "(" NAME "*" NUM ")" )
abbrev pub Param : Rule param.Param
Param = Node param_of (NAME ⊗ sym symbol.COLON ▸ ParamKind)

-- ( "vector" "[" NAME "]" "(" local ")" | "matrix" "[" NAME "," NAME "]" "(" local ")" )
abbrev pub Shape : Rule (Text × (Option Text × local.Local))
Shape = Made vector_result_of ((Keyword keyword.VECTOR ∷ sym symbol.OPEN_BRACKET) ▸ NAME ⊗ (Symbol symbol.CLOSE_BRACKET ∷ sym symbol.OPEN_PAREN) ▸ Local ◂ sym symbol.CLOSE_PAREN)
    ∣ Made matrix_result_of ((Keyword keyword.MATRIX ∷ sym symbol.OPEN_BRACKET) ▸ NAME ⊗ sym symbol.COMMA ▸ NAME ⊗ (Symbol symbol.CLOSE_BRACKET ∷ sym symbol.OPEN_PAREN) ▸ Local ◂ sym symbol.CLOSE_PAREN)

-- result = NAME ":" ( "vector" .. | "matrix" .. )
abbrev pub Result : Rule ResultDecl
Result = Node result_of (NAME ⊗ sym symbol.COLON ▸ Shape)

-- NAME ":" local ";"
abbrev pub Field : Rule field.Field
Field = Node field_of (NAME ⊗ sym symbol.COLON ▸ Local ◂ sym symbol.SEMICOLON)

-- "element" NAME { NAME ":" local ";" } "end"
abbrev pub Element : Rule decl.Decl
Element = Node element_of (key keyword.ELEMENT ▸ NAME ⊗ Each Field ◂ key keyword.END)

-- "(" NAME { "," NAME } ")"
abbrev pub Ends : Rule (List Text)
Ends = sym symbol.OPEN_PAREN ▸ Separated (sym symbol.COMMA) NAME ◂ sym symbol.CLOSE_PAREN

-- NAME ":" "set" "{" NAME "}" [ "(" NAME { "," NAME } ")" ] ";"
abbrev pub Set : ℕ → Rule decl.Decl
Set line = Made (set_of line) (NAME ⊗ (Symbol symbol.COLON ∷ Keyword keyword.SET ∷ sym symbol.OPEN_BRACE) ▸ NAME ⊗ sym symbol.CLOSE_BRACE ▸ MaybeSome Ends ◂ sym symbol.SEMICOLON)

-- "func" NAME "(" int { "," int } ")" "->" int ";"
abbrev pub Host : ℕ → Rule decl.Decl
Host line = Made (host_of line) (key keyword.FUNC ▸ NAME ⊗ sym symbol.OPEN_PAREN ▸ Separated (sym symbol.COMMA) Int ⊗ (Symbol symbol.CLOSE_PAREN ∷ sym symbol.ARROW) ▸ Int ◂ sym symbol.SEMICOLON)

-- "extern" NAME .. | "extern" "func" ..
abbrev pub Extern : Rule decl.Decl
Extern = At (λ line. key keyword.EXTERN ▸ (Set line ∣ Host line))

-- "func" NAME "(" param { "," param } ")" "->" "(" result { "," result } ")" { fstmt } "end"
abbrev pub Func : ℕ → Rule decl.Decl
Func depth = Node func_of (key keyword.FUNC ▸ NAME ⊗ sym symbol.OPEN_PAREN ▸ Separated (sym symbol.COMMA) Param
    ⊗ (Symbol symbol.CLOSE_PAREN ∷ Symbol symbol.ARROW ∷ sym symbol.OPEN_PAREN) ▸ Separated (sym symbol.COMMA) Result
    ⊗ sym symbol.CLOSE_PAREN ▸ Each (FuncStatement depth) ◂ key keyword.END)

-- decl = "element" .. | "extern" .. | "func" ..
abbrev pub Declaration : ℕ → Rule decl.Decl
Declaration depth = Element ∣ Extern ∣ Func depth

-- { decl } "proc" "main" { mstmt } "end"
abbrev pub Program : ℕ → Rule program.Program
Program depth = Node program_of (Each (Declaration depth) ⊗ (Keyword keyword.PROC ∷ key keyword.MAIN) ▸ Each (MainStatement depth) ◂ key keyword.END)

-- a program and the end of the text, in which statements and expressions are nested less than so deep
abbrev pub ProgramText : ℕ → Rule program.Program
ProgramText depth = Program depth ◂ (End ∷ [])

-- the words of a text derive a program, however deep its statements and expressions are nested
abbrev pub Derives : program.Program → List Word → Type 0
Derives program words = (depth : ℕ) × (ProgramText depth).states program words

-- the words are a cut of a program: more words after them may make them one, whatever they are
abbrev pub IsCut : List Word → Type 0
IsCut words = (depth : ℕ) × (ProgramText depth).cuts words

-- no words derive two programs
abbrev pub IsUnambiguous : Type 0
IsUnambiguous = (words : List Word) (program other : program.Program) → Derives program words → Derives other words → program ≡ other

-- the place of the word at which words stop being a cut of a program: those before it are one, and with it they are none
pub record IsPlace (words : List Word) (place : ℕ) : Type 0 where
  pub within : place < length words
  pub before : IsCut (take place words)
  pub breaks : ¬ IsCut (take (place + 1) words)
