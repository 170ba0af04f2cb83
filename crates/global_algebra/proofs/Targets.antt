-- Targets that get values, from left to right.
use Rattle.std.proofs.Common.{◌≡◌, ℕ, ◌+◌, ◌<◌, ◌≤◌, List, [], ◌∷◌, length, drop, get_or, refl, sym, ap, ◌∙◌}
use Rattle.std.proofs.lemmas.List.{drop_more, drop_all}
use Rattle.std.specs.List.{zip}
use Rattle.typed_tree.specs.declared.main_procedure.TypedTarget.{TypedTarget}
use Rattle.value_algebra.specs.declared.value.Value.{Value}
use Rattle.algebra_meaning.specs.declared.state.State.{State}
use Rattle.algebra_meaning.specs.Linked.{LinkedProgram}
use Rattle.algebra_meaning.specs.Run.{all_assigned, assigned}

no_values : (ts : List TypedTarget) → zip {X = Value} ts [] ≡ []
no_values [] = refl
no_values (t ∷ ts) = refl

pub target_assigned : (program : LinkedProgram) (state after known : State) (ts : List TypedTarget) (values rest : List Value) (i : ℕ) (t : TypedTarget) (value : Value)
    → i < length ts → t ≡ get_or ts i t → values ≡ value ∷ rest → after ≡ assigned program state (t, value)
    → all_assigned program state (zip (drop i ts) values) ≡ known → all_assigned program after (zip (drop (i + 1) ts) rest) ≡ known
target_assigned program state after known ts values rest i t value below here items is so_far =
    ap (λ s. all_assigned program s (zip (drop (i + 1) ts) rest)) is
    ∙ sym (ap (λ l. all_assigned program state (zip l values)) (drop_more ts i t below ∙ ap (λ y. y ∷ drop (i + 1) ts) (sym here))
    ∙ ap (λ l. all_assigned program state (zip (t ∷ drop (i + 1) ts) l)) items)
    ∙ so_far

pub no_target : (program : LinkedProgram) (state known : State) (ts : List TypedTarget) (values : List Value) (i : ℕ)
    → length ts ≤ i → all_assigned program state (zip (drop i ts) values) ≡ known → state ≡ known
no_target program state known ts values i past so_far = sym (ap (λ l. all_assigned program state (zip l values)) (drop_all i ts past)) ∙ so_far

pub no_value_left : (program : LinkedProgram) (state known : State) (ts : List TypedTarget) (values : List Value) (i : ℕ)
    → values ≡ [] → all_assigned program state (zip (drop i ts) values) ≡ known → state ≡ known
no_value_left program state known ts values i none so_far =
    sym (ap (λ l. all_assigned program state (zip (drop i ts) l)) none ∙ ap (all_assigned program state) (no_values (drop i ts))) ∙ so_far
