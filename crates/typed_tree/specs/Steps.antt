-- Steps of the walk over a program: from a state to what stands there and the state after it, or the first fault.
use Rattle.std.specs.Prelude.{◌≡◌, ◌⊎◌, ℕ, List, [], ◌∷◌, ◌++◌, Option, Some, None, Result, Ok, Err}
use Rattle.vocabulary.specs.Answers.{◌>>=◌, fold_result}
use Rattle.type_rules.specs.declared.types.TypeKind.{TypeKind}
use Rattle.typed_tree.specs.declared.fault.CheckFault.{CheckFault}
use Rattle.typed_tree.specs.declared.fault.CheckFault.TheVariants.{IllTyped, Memory}

abbrev pub Step : Type 0 → Type 0 → Type 0
Step S A = S → Result (A × S) CheckFault

-- what a rule answers at a node of this line
abbrev pub at_line : {A : Type 0} → ℕ → Result A TypeKind → Result A CheckFault
at_line line (Ok value) = Ok value
at_line line (Err fault) = Err (IllTyped line fault)

-- one more, after those so far
abbrev pub with_step : {S A : Type 0} → List A × S → Step S A → Result (List A × S) CheckFault
with_step so_far step = step so_far.1 >>= λ next. Ok (so_far.0 ++ next.0 ∷ [], next.1)

-- several, one after the other
abbrev pub several : {S A : Type 0} → List (Step S A) → Step S (List A)
several steps start = fold_result with_step ([], start) steps

-- what a call answers that leaves this state: what is known and the state after it, its first fault, or out of memory
abbrev pub Walks : {S A : Type 0} → Result (A × S) CheckFault → Result A CheckFault → S → Type 0
Walks known (Ok value) after = known ≡ Ok (value, after)
Walks known (Err fault) after = (fault ≡ Memory) ⊎ (known ≡ Err fault)

-- the same of a call that changes the state alone
abbrev pub Leads : {S : Type 0} → Result S CheckFault → Result (Unit {0}) CheckFault → S → Type 0
Leads known (Ok value) after = known ≡ Ok after
Leads known (Err fault) after = (fault ≡ Memory) ⊎ (known ≡ Err fault)
