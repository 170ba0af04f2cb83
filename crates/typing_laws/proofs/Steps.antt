-- Steps one after the other: when they answer a value, and which.
use Rattle.std.proofs.Common.{◌≡◌, ℕ, List, [], ◌∷◌, ◌++◌, Result, Ok, Err, refl, sym, ap, ◌∙◌, append_assoc}
use Rattle.std.proofs.lemmas.List.{append-nil}
use Rattle.vocabulary.specs.Answers.{◌>>=◌, fold_result}
use Rattle.type_rules.specs.declared.types.TypeKind.{TypeKind}
use Rattle.typed_tree.specs.declared.fault.CheckFault.{CheckFault}
use Rattle.typed_tree.specs.Steps.{Step, at_line, with_step, several}

-- ---- answers

abbrev answer : {A : Type 0} (E : Type 0) → A → Result A E
answer E x = Ok x

pub same_Ok : {A E : Type 0} (x y : A) → answer E x ≡ answer E y → x ≡ y
same_Ok x y same = cc

-- what goes on to a value had one to go on from
pub and_then : {A B E : Type 0} (r : Result A E) (f : A → Result B E) (b : B) → (r >>= f) ≡ Ok b → (a : A) × (r ≡ Ok a) × (f a ≡ Ok b)
and_then (Ok a) f b is = (a, refl, is)
and_then (Err fault) f b is = absurd (cc)

pub then_is : {A B E : Type 0} (r : Result A E) (f : A → Result B E) (a : A) (b : Result B E) → r ≡ Ok a → f a ≡ b → (r >>= f) ≡ b
then_is r f a b here next = ap (λ o. o >>= f) here ∙ next

pub at_line_Ok : {A : Type 0} (line : ℕ) (r : Result A TypeKind) (a : A) → at_line line r ≡ Ok a → r ≡ Ok a
at_line_Ok line (Ok x) a is = cc
at_line_Ok line (Err kind) a is = absurd (cc)

-- ---- several

-- an answer with others before it
abbrev after : {S A : Type 0} → List A → Result (List A × S) CheckFault → Result (List A × S) CheckFault
after so_far done = done >>= λ d. Ok (so_far ++ d.0, d.1)

after_after : {S A : Type 0} (so_far more : List A) (done : Result (List A × S) CheckFault) → after (so_far ++ more) done ≡ after so_far (after more done)
after_after so_far more (Ok d) = ap (λ l. Ok (l, d.1)) (append_assoc so_far more d.0)
after_after so_far more (Err fault) = refl

by_first : {S A : Type 0} (so_far : List A) (steps : List (Step S A)) → ((l : List A) (s : S) → fold_result with_step (l, s) steps ≡ after l (several steps s))
    → (first : Result (A × S) CheckFault)
    → ((first >>= λ next. Ok (so_far ++ next.0 ∷ [], next.1)) >>= λ next. fold_result with_step next steps)
    ≡ after so_far ((first >>= λ next. Ok (next.0 ∷ [], next.1)) >>= λ next. fold_result with_step next steps)
by_first so_far steps here (Ok next) =
    here (so_far ++ next.0 ∷ []) next.1 ∙ after_after so_far (next.0 ∷ []) (several steps next.1)
    ∙ ap (after so_far) (sym (here (next.0 ∷ []) next.1))
by_first so_far steps here (Err fault) = refl

from_here : {S A : Type 0} (so_far : List A) (start : S) (steps : List (Step S A))
    → fold_result with_step (so_far, start) steps ≡ after so_far (several steps start)
from_here so_far start [] = ap (λ l. Ok (l, start)) (sym (append-nil so_far))
from_here so_far start (step ∷ steps) = by_first so_far steps (λ l s. from_here l s steps) (step start)

-- the first, and then the others
pub several_more : {S A : Type 0} (step : Step S A) (steps : List (Step S A)) (start : S) (one : A × S) (others : List A × S)
    → step start ≡ Ok one → several steps one.1 ≡ Ok others → several (step ∷ steps) start ≡ Ok (one.0 ∷ others.0, others.1)
several_more step steps start one others here next =
    ap (λ r. (r >>= λ n. Ok (n.0 ∷ [], n.1)) >>= λ n. fold_result with_step n steps) here
    ∙ from_here (one.0 ∷ []) one.1 steps ∙ ap (after (one.0 ∷ [])) next

pub several_split : {S A : Type 0} (step : Step S A) (steps : List (Step S A)) (start : S) (done : List A × S)
    → several (step ∷ steps) start ≡ Ok done
    → (one : A × S) × (others : List A × S) × (step start ≡ Ok one) × (several steps one.1 ≡ Ok others) × ((one.0 ∷ others.0, others.1) ≡ done)
several_split step steps start done is =
    let outer = and_then (step start >>= λ n. Ok (n.0 ∷ [], n.1)) (λ n. fold_result with_step n steps) done is in
    let inner = and_then (step start) (λ n. Ok (n.0 ∷ [], n.1)) outer.0 outer.1 in
    let rest : fold_result with_step (inner.0.0 ∷ [], inner.0.1) steps ≡ Ok done =
    ap (λ n. fold_result with_step n steps) (same_Ok (inner.0.0 ∷ [], inner.0.1) outer.0 inner.2) ∙ outer.2 in
    let last = and_then (several steps inner.0.1) (λ d. Ok (inner.0.0 ∷ [] ++ d.0, d.1)) done (sym (from_here (inner.0.0 ∷ []) inner.0.1 steps) ∙ rest) in
    (inner.0, last.0, inner.1, last.1, same_Ok (inner.0.0 ∷ last.0.0, last.0.1) done last.2)
