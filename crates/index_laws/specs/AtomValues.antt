-- What the atoms of an index term stand for: numbers, and names without their indices.
use Rattle.std.specs.Prelude.{[], Ok, Err}
use Rattle.sim_syntax.specs.declared.statement.IxAtom.{IxAtom}
use Rattle.sim_syntax.specs.declared.statement.IxAtom.TheVariants as atom
use Rattle.typed_tree.specs.declared.environment.Environment.{Environment}
use Rattle.typed_tree.specs.Expressions.{Found, name_rule, word_or_zero}
use Rattle.typed_tree.specs.Literals.{literal_word}
use Rattle.value_algebra.specs.declared.value.Value.{Value}
use Rattle.value_algebra.specs.Value.{number}
use Rattle.algebra_meaning.specs.Expression.{Scope, no_value, referred}

abbrev pub value_found : Scope → Found → Value
value_found scope (Ok what) = referred scope what.0 [] []
value_found scope (Err kind) = no_value

abbrev pub atom_value : Environment → Scope → IxAtom → Value
atom_value env scope (atom.Number line digits) = number (word_or_zero (literal_word digits))
atom_value env scope (atom.Named line name field indices) = value_found scope (name_rule env name [] field [])
