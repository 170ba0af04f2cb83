-- The set of a name.
use Rattle.std.proofs.Common.{◌≡◌, ◌<◌, ℕ, List, [], length, Option, None, Some, sym, subst}
use Rattle.std.specs.Prelude.{IfSome}
use Rattle.std.proofs.lemmas.List.Quantifiers.{position-Some}
use Rattle.std.specs.Str.{bytes_eq}
use Rattle.typed_tree.specs.declared.program.TypedProgram.{TypedProgram}
use Rattle.typed_tree.specs.declared.program.TypedSet.{TypedSet}
use Rattle.block_types.specs.Readings.{find_set}

no_set : TypedSet
no_set = record { name = []; shape = record { element = 0; over = None; arity = 0 } }

-- it is one of the program
pub within : (program : TypedProgram) (name : List ℕ) (number : ℕ) → find_set program name ≡ Some number → number < length program.sets
within program name number is = (position-Some (λ (set : TypedSet). bytes_eq set.name name) program.sets number no_set is).0

-- as many sets have the chosen one
pub among : (chosen : Option ℕ) {many more : ℕ} → more ≡ many → IfSome chosen (λ number. number < many) → IfSome chosen (λ number. number < more)
among chosen same within = subst (λ n. IfSome chosen (λ number. number < n)) (sym same) within
