-- Elements one after the other.
use Rattle.std.proofs.Common.{◌≡◌, ℕ, ◌+◌, ◌-◌, ◌<◌, ◌≤◌, List, [], ◌∷◌, ◌++◌, Result, Ok, Err, sym, ap, refl, ◌∙◌, arith}
use Rattle.std.specs.List.{range_with_len}
use Rattle.std.proofs.lemmas.List.{map-id}
use Rattle.std.proofs.lemmas.List.FromFn.{map-range_with_len_more}
use Rattle.vocabulary.specs.Answers.{◌>>=◌, fold_result}
use Rattle.hypergraph.specs.SetValue.{SetValue}
use Rattle.hypergraph.specs.Sets.{set_at}
use Rattle.typed_tree.specs.declared.function.TypedFunction.{TypedFunction}
use Rattle.value_algebra.specs.declared.value.Value.{Value}
use Rattle.algebra_meaning.specs.declared.contribution.Contribution.{Contribution}
use Rattle.algebra_meaning.specs.declared.stopped.Stopped.{Stopped}
use Rattle.algebra_meaning.specs.declared.stopped.Stopped.TheVariants.{By}
use Rattle.algebra_meaning.specs.declared.stopped.Trapped.{Trapped}
use Rattle.algebra_meaning.specs.Assembled.{all_assembled, all_contributions, contributions_at, mapped, of_element, with_element}
use Rattle.algebra_meaning.specs.Linked.{LinkedProgram}
use Rattle.loop_laws.specs.Loops.{NumberLaws}
use Rattle.proc_engine.specs.Running.{those_of}
use Rattle.proc_engine.specs.Sums.{below, contributed_below}

-- ---- numbers that are counted up

-- the next number
range_more : (n : ℕ) → range_with_len 0 (n + 1) ≡ range_with_len 0 n ++ n ∷ []
range_more n = simp map-id at (map-range_with_len_more (λ (x : ℕ). x) 0 n n (omega arith))

last_step : {A E : Type 0} (r : Result A E) → (r >>= λ next. Ok next) ≡ r
last_step (Ok value) = refl
last_step (Err fault) = refl

-- steps after a first one, and then one more
steps_after : {A E : Type 0} (step : A → ℕ → Result A E) (ys : List ℕ) (x : ℕ) (first : Result A E)
    → ((value : A) → fold_result step value (ys ++ x ∷ []) ≡ (fold_result step value ys >>= λ so_far. step so_far x))
    → (first >>= λ next. fold_result step next (ys ++ x ∷ [])) ≡ ((first >>= λ next. fold_result step next ys) >>= λ so_far. step so_far x)
steps_after step ys x (Ok value) so = so value
steps_after step ys x (Err fault) so = refl

-- a fold over one more
fold_more : {A E : Type 0} (step : A → ℕ → Result A E) (start : A) (xs : List ℕ) (x : ℕ)
    → fold_result step start (xs ++ x ∷ []) ≡ (fold_result step start xs >>= λ so_far. step so_far x)
fold_more step start [] x = last_step (step start x)
fold_more step start (y ∷ ys) x = steps_after step ys x (step start y) (λ value. fold_more step value ys x)

-- ---- elements

abbrev pub Step : Type 0
Step = List Contribution → ℕ → Result (List Contribution) Trapped

-- where those so far are known and the next one contributes, those with it are known
with_next : (step : Step) (before after : List Contribution) (n : ℕ) → fold_result step [] (range_with_len 0 n) ≡ Ok before → step before n ≡ Ok after
    → fold_result step [] (range_with_len 0 (n + 1)) ≡ Ok after
with_next step before after n taken next =
    ap (fold_result step []) (range_more n) ∙ fold_more step [] (range_with_len 0 n) n ∙ ap (λ (r : Result (List Contribution) Trapped). r >>= λ so_far. step so_far n) taken ∙ next

-- an element is added
element_added : (program : LinkedProgram) (sets : List SetValue) (set : ℕ) (function : TypedFunction) (args : List Value) (contributed : List Contribution) (n : ℕ)
    → below program sets set function args n ≡ Ok (contributed_below program sets set function args n)
    → of_element n (contributions_at program sets set function args n) ≡ Ok contributed
    → below program sets set function args (n + 1) ≡ Ok (contributed_below program sets set function args n ++ contributed)
element_added program sets set function args contributed n taken is =
    with_next (with_element program sets set function args) (contributed_below program sets set function args n) (contributed_below program sets set function args n ++ contributed) n taken
    (ap (λ (r : Result (List Contribution) Trapped). r >>= λ c. Ok (contributed_below program sets set function args n ++ c)) is)

-- one that is known is what is kept
kept : (program : LinkedProgram) (sets : List SetValue) (set : ℕ) (function : TypedFunction) (args : List Value) (known : List Contribution) (n : ℕ)
    → below program sets set function args n ≡ Ok known → contributed_below program sets set function args n ≡ known
kept program sets set function args known n is = ap those_of is

-- an element is added to those below it
pub next_taken : (program : LinkedProgram) (sets : List SetValue) (set : ℕ) (function : TypedFunction) (args : List Value) (contributed : List Contribution) (n : ℕ)
    → below program sets set function args n ≡ Ok (contributed_below program sets set function args n)
    → of_element n (contributions_at program sets set function args n) ≡ Ok contributed
    → below program sets set function args (n + 1) ≡ Ok (contributed_below program sets set function args (n + 1))
next_taken program sets set function args contributed n taken is =
    let more : below program sets set function args (n + 1) ≡ Ok (contributed_below program sets set function args n ++ contributed) = element_added program sets set function args contributed n taken is in
    more ∙ ap Ok (sym (kept program sets set function args (contributed_below program sets set function args n ++ contributed) (n + 1) more))

pub next_kept : (program : LinkedProgram) (sets : List SetValue) (set : ℕ) (function : TypedFunction) (args : List Value) (contributed : List Contribution) (n : ℕ)
    → below program sets set function args n ≡ Ok (contributed_below program sets set function args n)
    → of_element n (contributions_at program sets set function args n) ≡ Ok contributed
    → contributed_below program sets set function args (n + 1) ≡ contributed_below program sets set function args n ++ contributed
next_kept program sets set function args contributed n taken is =
    kept program sets set function args (contributed_below program sets set function args n ++ contributed) (n + 1) (element_added program sets set function args contributed n taken is)

-- those that are left, after one
pub left_after : NumberLaws (List Contribution) Trapped → (program : LinkedProgram) (sets : List SetValue) (set : ℕ) (function : TypedFunction) (args : List Value) (before contributed after : List Contribution)
    (known : Result (List Contribution) Trapped) (n to : ℕ)
    → n < to → of_element n (contributions_at program sets set function args n) ≡ Ok contributed → after ≡ before ++ contributed
    → fold_result (with_element program sets set function args) before (range_with_len n (to - n)) ≡ known
    → fold_result (with_element program sets set function args) after (range_with_len (n + 1) (to - (n + 1))) ≡ known
left_after laws program sets set function args before contributed after known n to under is more so_far =
    laws.taken (with_element program sets set function args) before after known n to under
    (ap (λ (r : Result (List Contribution) Trapped). r >>= λ c. Ok (before ++ c)) is ∙ ap Ok (sym more)) so_far

-- all elements are left
pub elements_begun : (program : LinkedProgram) (sets : List SetValue) (set : ℕ) (function : TypedFunction) (args : List Value)
    → fold_result (with_element program sets set function args) [] (range_with_len 0 ((set_at sets set).count - 0)) ≡ all_contributions program sets set function args
unfolding all_contributions
elements_begun program sets set function args =
    ap (λ n. fold_result (with_element program sets set function args) [] (range_with_len 0 n)) (let all : (set_at sets set).count - 0 ≡ (set_at sets set).count = omega arith in all)

-- an element traps
pub element_stopped : NumberLaws (List Contribution) Trapped → (program : LinkedProgram) (sets : List SetValue) (set : ℕ) (function : TypedFunction) (args : List Value) (before : List Contribution) (n end : ℕ)
    (stopped : Stopped Trapped)
    → end ≡ (set_at sets set).count → n < end → ((trapped : Trapped) → stopped ≡ By trapped → of_element n (contributions_at program sets set function args n) ≡ Err trapped)
    → fold_result (with_element program sets set function args) before (range_with_len n ((set_at sets set).count - n)) ≡ all_contributions program sets set function args
    → (trapped : Trapped) → stopped ≡ By trapped → mapped program sets set function args ≡ Err trapped
unfolding mapped
element_stopped laws program sets set function args before n end stopped last under stops so_far trapped is =
    let within : n < (set_at sets set).count = rw last at under in
    ap (λ (r : Result (List Contribution) Trapped). r >>= λ contributed. Ok (all_assembled sets contributed 0 function.results))
    (laws.refused (with_element program sets set function args) before (all_contributions program sets set function args) n (set_at sets set).count trapped within
    (ap (λ (r : Result (List Contribution) Trapped). r >>= λ c. Ok (before ++ c)) (stops trapped is)) so_far)

-- no element is left
pub elements_ended : NumberLaws (List Contribution) Trapped → (program : LinkedProgram) (sets : List SetValue) (set : ℕ) (function : TypedFunction) (args : List Value) (before : List Contribution) (sums : List Value) (n end : ℕ)
    → end ≡ (set_at sets set).count → end ≤ n → sums ≡ all_assembled sets before 0 function.results
    → fold_result (with_element program sets set function args) before (range_with_len n ((set_at sets set).count - n)) ≡ all_contributions program sets set function args
    → mapped program sets set function args ≡ Ok sums
unfolding mapped
elements_ended laws program sets set function args before sums n end last past is so_far =
    let beyond : (set_at sets set).count ≤ n = rw last at past in
    ap (λ (r : Result (List Contribution) Trapped). r >>= λ contributed. Ok (all_assembled sets contributed 0 function.results))
    (laws.ended (with_element program sets set function args) before (all_contributions program sets set function args) n (set_at sets set).count beyond so_far)
    ∙ ap Ok (sym is)
