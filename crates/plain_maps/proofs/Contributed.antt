-- Elements one after the other.
use Rattle.std.proofs.Common.{◌≡◌, ℕ, ◌+◌, ◌-◌, ◌<◌, ◌≤◌, List, ◌++◌, Result, Ok, Err, sym, ap, ◌∙◌}
use Rattle.std.specs.List.{range_with_len}
use Rattle.vocabulary.specs.Answers.{◌>>=◌, fold_result}
use Rattle.hypergraph.specs.SetValue.{SetValue}
use Rattle.typed_tree.specs.declared.function.TypedFunction.{TypedFunction}
use Rattle.value_algebra.specs.declared.value.Value.{Value}
use Rattle.algebra_meaning.specs.declared.contribution.Contribution.{Contribution}
use Rattle.algebra_meaning.specs.declared.stopped.Stopped.{Stopped}
use Rattle.algebra_meaning.specs.declared.stopped.Stopped.TheVariants.{By}
use Rattle.algebra_meaning.specs.declared.stopped.Trapped.{Trapped}
use Rattle.algebra_meaning.specs.Assembled.{contributions_at, of_element, with_element}
use Rattle.algebra_meaning.specs.Linked.{LinkedProgram}
use Rattle.loop_laws.specs.Loops.{NumberLaws}

pub element_taken : NumberLaws (List Contribution) Trapped → (program : LinkedProgram) (sets : List SetValue) (set : ℕ) (function : TypedFunction) (args : List Value)
    (before after contributed : List Contribution) (known : Result (List Contribution) Trapped) (n to : ℕ)
    → n < to → of_element n (contributions_at program sets set function args n) ≡ Ok contributed → after ≡ before ++ contributed
    → fold_result (with_element program sets set function args) before (range_with_len n (to - n)) ≡ known
    → fold_result (with_element program sets set function args) after (range_with_len (n + 1) (to - (n + 1))) ≡ known
element_taken laws program sets set function args before after contributed known n to below is more so_far =
    laws.taken (with_element program sets set function args) before after known n to below
    (ap (λ (r : Result (List Contribution) Trapped). r >>= λ c. Ok (before ++ c)) is ∙ ap Ok (sym more)) so_far

pub element_stopped : NumberLaws (List Contribution) Trapped → (program : LinkedProgram) (sets : List SetValue) (set : ℕ) (function : TypedFunction) (args : List Value)
    (before : List Contribution) (known : Result (List Contribution) Trapped) (n to : ℕ) (stopped : Stopped Trapped)
    → n < to → ((trapped : Trapped) → stopped ≡ By trapped → of_element n (contributions_at program sets set function args n) ≡ Err trapped)
    → fold_result (with_element program sets set function args) before (range_with_len n (to - n)) ≡ known
    → (trapped : Trapped) → stopped ≡ By trapped → known ≡ Err trapped
element_stopped laws program sets set function args before known n to stopped below stops so_far trapped is =
    laws.refused (with_element program sets set function args) before known n to trapped below
    (ap (λ (r : Result (List Contribution) Trapped). r >>= λ c. Ok (before ++ c)) (stops trapped is)) so_far

pub elements_ended : NumberLaws (List Contribution) Trapped → (program : LinkedProgram) (sets : List SetValue) (set : ℕ) (function : TypedFunction) (args : List Value)
    (before : List Contribution) (known : Result (List Contribution) Trapped) (n to : ℕ)
    → to ≤ n → fold_result (with_element program sets set function args) before (range_with_len n (to - n)) ≡ known → known ≡ Ok before
elements_ended laws program sets set function args before known n to past so_far =
    laws.ended (with_element program sets set function args) before known n to past so_far
