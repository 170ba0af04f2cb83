-- Results that are assembled one after the other.
use Rattle.std.proofs.Common.{◌≡◌, ℕ, suc, ◌+◌, ◌<◌, ◌≤◌, List, [], ◌∷◌, ◌++◌, length, drop, get_or, sym, ap, ◌∙◌, arith, append_assoc, append-nil}
use Rattle.std.proofs.lemmas.List.{drop_more, drop_all}
use Rattle.hypergraph.specs.SetValue.{SetValue}
use Rattle.typed_tree.specs.declared.function.TypedResult.{TypedResult}
use Rattle.value_algebra.specs.declared.value.Value.{Value}
use Rattle.algebra_meaning.specs.declared.contribution.Contribution.{Contribution}
use Rattle.algebra_meaning.specs.Assembled.{assembled, all_assembled}

pub result_assembled : (sets : List SetValue) (contributed : List Contribution) (values grown : List Value) (value : Value) (known : List Value) (results : List TypedResult) (i : ℕ) (result : TypedResult)
    → i < length results → result ≡ get_or results i result → value ≡ assembled sets contributed i result → grown ≡ values ++ value ∷ []
    → values ++ all_assembled sets contributed i (drop i results) ≡ known → grown ++ all_assembled sets contributed (i + 1) (drop (i + 1) results) ≡ known
result_assembled sets contributed values grown value known results i result below here is more so_far =
    let rest : List Value = all_assembled sets contributed (suc i) (drop (i + 1) results) in
    let from : drop i results ≡ result ∷ drop (i + 1) results = drop_more results i result below ∙ ap (λ y. y ∷ drop (i + 1) results) (sym here) in
    let number : i + 1 ≡ suc i = omega arith in
    ap (λ n. grown ++ all_assembled sets contributed n (drop (i + 1) results)) number
    ∙ ap (λ l. l ++ rest) more
    ∙ append_assoc values (value ∷ []) rest
    ∙ ap (λ v. values ++ v ∷ rest) is
    ∙ ap (λ l. values ++ all_assembled sets contributed i l) (sym from)
    ∙ so_far

pub results_ended : (sets : List SetValue) (contributed : List Contribution) (values known : List Value) (results : List TypedResult) (i : ℕ)
    → length results ≤ i → values ++ all_assembled sets contributed i (drop i results) ≡ known → values ≡ known
results_ended sets contributed values known results i past so_far =
    sym (ap (λ l. values ++ all_assembled sets contributed i l) (drop_all i results past) ∙ append-nil values) ∙ so_far
