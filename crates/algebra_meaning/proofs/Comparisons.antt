-- Comparisons, one after the other.
use Rattle.std.proofs.Common.{◌≡◌, ℕ, ◌+◌, ◌<◌, ◌≤◌, Bool, ◌&&◌, ◌||◌, List, map, Result, Ok, Err, length, drop, get_or, refl, sym, ap, ◌∙◌}
use Rattle.vocabulary.specs.Answers.{fold_result}
use Rattle.ring_words.specs.declared.trap.TrapKind.{TrapKind}
use Rattle.algebra_meaning.specs.declared.stopped.Stopped.{Stopped}
use Rattle.algebra_meaning.specs.declared.stopped.Stopped.TheVariants.{By}
use Rattle.algebra_meaning.specs.Expression.{and_also, or_else}
use Rattle.loop_laws.specs.Loops.{ItemLaws}

pub and_taken : {X : Type 0} → ItemLaws Bool X TrapKind → (f : X → Result Bool TrapKind) (all next one : Bool) (known : Result Bool TrapKind) (xs : List X) (i : ℕ) (x : X)
    → i < length xs → x ≡ get_or xs i x → f x ≡ Ok one → next ≡ (all && one)
    → fold_result and_also all (map f (drop i xs)) ≡ known → fold_result and_also next (map f (drop (i + 1) xs)) ≡ known
and_taken laws f all next one known xs i x below here is gives so_far =
    laws.taken (λ so_far xs. fold_result and_also so_far (map f xs)) (λ so_far x. and_also so_far (f x)) (record { ends = λ so_far. refl; goes_on = λ so_far x xs. refl }) all next known xs i x below here (ap (and_also all) is ∙ ap Ok (sym gives)) so_far

pub and_stopped : {X : Type 0} → ItemLaws Bool X TrapKind → (f : X → Result Bool TrapKind) (all : Bool) (known : Result Bool TrapKind) (xs : List X) (i : ℕ) (x : X) (stopped : Stopped TrapKind)
    → i < length xs → x ≡ get_or xs i x → ((kind : TrapKind) → stopped ≡ By kind → f x ≡ Err kind)
    → fold_result and_also all (map f (drop i xs)) ≡ known → (kind : TrapKind) → stopped ≡ By kind → known ≡ Err kind
and_stopped laws f all known xs i x stopped below here stops so_far kind is =
    laws.refused (λ so_far xs. fold_result and_also so_far (map f xs)) (λ so_far x. and_also so_far (f x)) (record { ends = λ so_far. refl; goes_on = λ so_far x xs. refl }) all known xs i x kind below here (ap (and_also all) (stops kind is)) so_far

pub and_ended : {X : Type 0} → ItemLaws Bool X TrapKind → (f : X → Result Bool TrapKind) (all : Bool) (known : Result Bool TrapKind) (xs : List X) (i : ℕ)
    → length xs ≤ i → fold_result and_also all (map f (drop i xs)) ≡ known → known ≡ Ok all
and_ended laws f all known xs i past so_far = laws.ended (λ so_far xs. fold_result and_also so_far (map f xs)) (λ so_far x. and_also so_far (f x)) (record { ends = λ so_far. refl; goes_on = λ so_far x xs. refl }) all known xs i past so_far

pub or_taken : {X : Type 0} → ItemLaws Bool X TrapKind → (f : X → Result Bool TrapKind) (any next one : Bool) (known : Result Bool TrapKind) (xs : List X) (i : ℕ) (x : X)
    → i < length xs → x ≡ get_or xs i x → f x ≡ Ok one → next ≡ (any || one)
    → fold_result or_else any (map f (drop i xs)) ≡ known → fold_result or_else next (map f (drop (i + 1) xs)) ≡ known
or_taken laws f any next one known xs i x below here is gives so_far =
    laws.taken (λ so_far xs. fold_result or_else so_far (map f xs)) (λ so_far x. or_else so_far (f x)) (record { ends = λ so_far. refl; goes_on = λ so_far x xs. refl }) any next known xs i x below here (ap (or_else any) is ∙ ap Ok (sym gives)) so_far

pub or_stopped : {X : Type 0} → ItemLaws Bool X TrapKind → (f : X → Result Bool TrapKind) (any : Bool) (known : Result Bool TrapKind) (xs : List X) (i : ℕ) (x : X) (stopped : Stopped TrapKind)
    → i < length xs → x ≡ get_or xs i x → ((kind : TrapKind) → stopped ≡ By kind → f x ≡ Err kind)
    → fold_result or_else any (map f (drop i xs)) ≡ known → (kind : TrapKind) → stopped ≡ By kind → known ≡ Err kind
or_stopped laws f any known xs i x stopped below here stops so_far kind is =
    laws.refused (λ so_far xs. fold_result or_else so_far (map f xs)) (λ so_far x. or_else so_far (f x)) (record { ends = λ so_far. refl; goes_on = λ so_far x xs. refl }) any known xs i x kind below here (ap (or_else any) (stops kind is)) so_far

pub or_ended : {X : Type 0} → ItemLaws Bool X TrapKind → (f : X → Result Bool TrapKind) (any : Bool) (known : Result Bool TrapKind) (xs : List X) (i : ℕ)
    → length xs ≤ i → fold_result or_else any (map f (drop i xs)) ≡ known → known ≡ Ok any
or_ended laws f any known xs i past so_far = laws.ended (λ so_far xs. fold_result or_else so_far (map f xs)) (λ so_far x. or_else so_far (f x)) (record { ends = λ so_far. refl; goes_on = λ so_far x xs. refl }) any known xs i past so_far
