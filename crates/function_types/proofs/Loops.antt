-- Loops over statements and over places.
use Rattle.std.proofs.Common.{◌≡◌, ◌⊎◌, ℕ, ◌+◌, ◌<◌, ◌≤◌, List, [], ◌∷◌, ◌++◌, append_assoc, append-nil, map, Result, Ok, Err, length, drop, get_or, refl, sym, ap, ◌∙◌, inl, inr}
use Rattle.std.proofs.lemmas.List.{drop_more, drop_all}
use Rattle.vocabulary.specs.Answers.{◌>>=◌, all_ok, fold_result}
use Rattle.typed_tree.specs.declared.fault.CheckFault.{CheckFault}
use Rattle.typed_tree.specs.declared.fault.CheckFault.TheVariants.{IllTyped, Memory}
use Rattle.type_rules.specs.declared.types.TypeKind.{TypeKind}
use Rattle.typed_tree.specs.Steps.{Step, at_line, with_step}

-- a fault that is known, or out of memory, is one also along an equation
fault_along : {A B : Type 0} (known : Result A CheckFault) (whole : Result B CheckFault) (fault : CheckFault)
    → (known ≡ Err fault → whole ≡ Err fault) → (fault ≡ Memory) ⊎ (known ≡ Err fault) → (fault ≡ Memory) ⊎ (whole ≡ Err fault)
fault_along known whole fault along (inl memory) = inl memory
fault_along known whole fault along (inr is) = inr (along is)

-- ---- several steps

-- the steps that are left, at one of them
at_step : {A S X : Type 0} (f : X → Step S A) (values : List A) (state : S) (xs : List X) (i : ℕ) (x : X)
    → i < length xs → x ≡ get_or xs i x
    → fold_result with_step (values, state) (map f (drop i xs))
    ≡ (with_step (values, state) (f x) >>= λ next. fold_result with_step next (map f (drop (i + 1) xs)))
at_step f values state xs i x below here =
    ap (λ l. fold_result with_step (values, state) (map f l)) (drop_more xs i x below ∙ ap (λ y. y ∷ drop (i + 1) xs) (sym here))

-- a step is taken
pub step_taken : {A S X : Type 0} (f : X → Step S A) (values grown : List A) (state after : S) (known : Result (List A × S) CheckFault) (xs : List X) (i : ℕ) (x : X) (value : A)
    → i < length xs → x ≡ get_or xs i x → f x state ≡ Ok (value, after) → grown ≡ values ++ value ∷ []
    → fold_result with_step (values, state) (map f (drop i xs)) ≡ known → fold_result with_step (grown, after) (map f (drop (i + 1) xs)) ≡ known
step_taken f values grown state after known xs i x value below here gives more so_far =
    ap (λ vs. fold_result with_step (vs, after) (map f (drop (i + 1) xs))) more
    ∙ sym (at_step f values state xs i x below here
    ∙ ap (λ r. (r >>= λ next. Ok (values ++ next.0 ∷ [], next.1)) >>= λ next. fold_result with_step next (map f (drop (i + 1) xs))) gives)
    ∙ so_far

-- a step is refused
pub step_refused : {A S X : Type 0} (f : X → Step S A) (values : List A) (state : S) (known : Result (List A × S) CheckFault) (xs : List X) (i : ℕ) (x : X) (fault : CheckFault)
    → i < length xs → x ≡ get_or xs i x → (fault ≡ Memory) ⊎ (f x state ≡ Err fault)
    → fold_result with_step (values, state) (map f (drop i xs)) ≡ known → (fault ≡ Memory) ⊎ (known ≡ Err fault)
step_refused f values state known xs i x fault below here gives so_far =
    fault_along (f x state) known fault (λ is.
    sym so_far ∙ at_step f values state xs i x below here
    ∙ ap (λ r. (r >>= λ next. Ok (values ++ next.0 ∷ [], next.1)) >>= λ next. fold_result with_step next (map f (drop (i + 1) xs))) is) gives

-- no step is left
pub steps_ended : {A S X : Type 0} (f : X → Step S A) (values : List A) (state : S) (known : Result (List A × S) CheckFault) (xs : List X) (i : ℕ)
    → length xs ≤ i → fold_result with_step (values, state) (map f (drop i xs)) ≡ known → known ≡ Ok (values, state)
steps_ended f values state known xs i past so_far =
    sym so_far ∙ ap (λ l. fold_result with_step (values, state) (map f l)) (drop_all i xs past)

-- ---- the values of a list, after those so far

pub after_values : {A E : Type 0} → List A → Result (List A) E → Result (List A) E
after_values values rest = rest >>= λ others. Ok (values ++ others)

regrouped : {A E : Type 0} (values : List A) (value : A) (rest : Result (List A) E)
    → after_values (values ++ value ∷ []) rest ≡ after_values values (rest >>= λ others. Ok (value ∷ others))
unfolding after_values
regrouped values value (Ok others) = ap Ok (append_assoc values (value ∷ []) others)
regrouped values value (Err fault) = refl

-- the values that are left, at one of them
at_value : {A E : Type 0} (values : List A) (xs : List (Result A E)) (i : ℕ) (other x : Result A E)
    → i < length xs → get_or xs i other ≡ x
    → after_values values (all_ok (drop i xs)) ≡ after_values values (x >>= λ value. all_ok (drop (i + 1) xs) >>= λ others. Ok (value ∷ others))
at_value values xs i other x below here =
    ap (λ l. after_values values (all_ok l)) (drop_more xs i other below ∙ ap (λ y. y ∷ drop (i + 1) xs) here)

-- a value is there
pub value_taken : {A E : Type 0} (values grown : List A) (known : Result (List A) E) (xs : List (Result A E)) (i : ℕ) (other : Result A E) (value : A)
    → i < length xs → get_or xs i other ≡ Ok value → grown ≡ values ++ value ∷ []
    → after_values values (all_ok (drop i xs)) ≡ known → after_values grown (all_ok (drop (i + 1) xs)) ≡ known
value_taken values grown known xs i other value below here more so_far =
    ap (λ vs. after_values vs (all_ok (drop (i + 1) xs))) more
    ∙ regrouped values value (all_ok (drop (i + 1) xs))
    ∙ sym (at_value values xs i other (Ok value) below here)
    ∙ so_far

-- a value isn't there
value_refused : {A E : Type 0} (values : List A) (known : Result (List A) E) (xs : List (Result A E)) (i : ℕ) (other : Result A E) (fault : E)
    → i < length xs → get_or xs i other ≡ Err fault
    → after_values values (all_ok (drop i xs)) ≡ known → known ≡ Err fault
unfolding after_values
value_refused values known xs i other fault below here so_far = sym so_far ∙ at_value values xs i other (Err fault) below here

-- no value is left
values_ended : {A E : Type 0} (values : List A) (known : Result (List A) E) (xs : List (Result A E)) (i : ℕ)
    → length xs ≤ i → after_values values (all_ok (drop i xs)) ≡ known → known ≡ Ok values
unfolding after_values
values_ended values known xs i past so_far =
    sym so_far ∙ ap (λ l. after_values values (all_ok l)) (drop_all i xs past) ∙ ap Ok (append-nil values)

-- all values, before any
pub all_values : {A E : Type 0} (rest : Result (List A) E) → after_values [] rest ≡ rest
unfolding after_values
all_values (Ok values) = refl
all_values (Err fault) = refl

-- ---- places, judged at a line

-- a place is none
pub place_refused : {A : Type 0} (line : ℕ) (values : List A) (known : Result (List A) TypeKind) (xs : List (Result A TypeKind)) (i : ℕ) (other : Result A TypeKind) (kind : TypeKind)
    → i < length xs → get_or xs i other ≡ Err kind
    → after_values values (all_ok (drop i xs)) ≡ known → at_line line known ≡ Err (IllTyped line kind)
place_refused line values known xs i other kind below here so_far = ap (at_line line) (value_refused values known xs i other kind below here so_far)

-- no place is left
pub places_ended : {A : Type 0} (line : ℕ) (values : List A) (known : Result (List A) TypeKind) (xs : List (Result A TypeKind)) (i : ℕ)
    → length xs ≤ i → after_values values (all_ok (drop i xs)) ≡ known → at_line line known ≡ Ok values
places_ended line values known xs i past so_far = ap (at_line line) (values_ended values known xs i past so_far)

-- the places of a result
pub numbered_places : {A : Type 0} (line number : ℕ) (places : Result (List A) TypeKind) (values : List A) → at_line line places ≡ Ok values
    → at_line {A = ℕ × List A} line (places >>= λ ps. Ok (number, ps)) ≡ Ok (number, values)
numbered_places {A} line number (Ok others) values is = let same : others ≡ values = cc in ap (λ (vs : List A). Ok (number, vs)) same
numbered_places line number (Err kind) values is = cc

pub refused_places : {A : Type 0} (line number : ℕ) (places : Result (List A) TypeKind) (fault : CheckFault) → at_line line places ≡ Err fault
    → at_line {A = ℕ × List A} line (places >>= λ ps. Ok (number, ps)) ≡ Err fault
refused_places line number (Ok others) fault is = cc
refused_places line number (Err kind) fault is = cc
