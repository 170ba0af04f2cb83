-- Values that have the size of a type.
use Rattle.std.specs.Prelude.{◌≡◌, ℕ, ◌*◌, List, [], Option, Ok}
use Rattle.hypergraph.specs.SetValue.{SetValue}
use Rattle.hypergraph.specs.Sets.{set_at}
use Rattle.type_rules.specs.declared.types.BlockShape.TheVariants as block
use Rattle.type_rules.specs.declared.types.NodeType.{NodeType}
use Rattle.type_rules.specs.declared.types.NodeType.TheVariants as type
use Rattle.typed_tree.specs.declared.environment.Environment.{Environment}
use Rattle.typed_tree.specs.declared.expression.Referent.{Referent}
use Rattle.typed_tree.specs.Cost.{entries_in}
use Rattle.typed_tree.specs.Expressions.{name_rule}
use Rattle.typed_tree.specs.Names.{Name}
use Rattle.value_algebra.specs.declared.value.Value.{Value}
use Rattle.value_laws.specs.Laws.{IsWhole}
use Rattle.algebra_meaning.specs.Assembled.{height, width}
use Rattle.algebra_meaning.specs.Expression.{Scope, referred}

-- the rows and columns of a value of a type, over sets: a system vector has an entry for each entry of each element's block
abbrev pub rows_of : List SetValue → NodeType → ℕ
rows_of sets (type.Local block scale) = height block
rows_of sets (type.SystemVector set block scale) = (set_at sets set).count * entries_in block
rows_of sets (type.SystemMatrix rows columns block scale) = (set_at sets rows).count * height block

abbrev pub columns_of : List SetValue → NodeType → ℕ
columns_of sets (type.Local block scale) = width block
columns_of sets (type.SystemVector set block scale) = 1
columns_of sets (type.SystemMatrix rows columns block scale) = (set_at sets columns).count * width block

-- no block of a system matrix is a vector
abbrev pub HasBlocks : NodeType → Type 0
HasBlocks (type.SystemMatrix rows columns (block.Vector side) scale) = ⊥
HasBlocks other = Unit {0}

pub record Fits (sets : List SetValue) (type : NodeType) (value : Value) : Type 0 where
  pub whole : IsWhole value
  pub rows : value.rows ≡ rows_of sets type
  pub columns : value.columns ≡ columns_of sets type
  pub blocks : HasBlocks type

-- what each name stands for, without indices, has the size of its type
abbrev pub NamesFit : Environment → Scope → Type 0
NamesFit env scope =
    (name : Name) (field : Option Name) (what : Referent) (type : NodeType) → name_rule env name [] field [] ≡ Ok (what, type) → Fits scope.sets type (referred scope what [] [])
