-- Answers: a value, or the first fault on the way to it, and what a call answers of it where memory may run out.
use Rattle.std.specs.Prelude.{◌≡◌, ◌⊎◌, List, [], ◌∷◌, Result, Ok, Err}

infixl 10 ◌>>=◌
-- the value of the first goes on to the second; a fault ends it
abbrev pub ◌>>=◌ : {A B E : Type 0} → Result A E → (A → Result B E) → Result B E
(Ok x) >>= f = f x
(Err fault) >>= f = Err fault

-- a fold over a list, up to its first fault
abbrev pub fold_result : {A B E : Type 0} → (A → B → Result A E) → A → List B → Result A E
fold_result step start [] = Ok start
fold_result step start (x ∷ xs) = step start x >>= λ next. fold_result step next xs

-- the values of a list, or its first fault
abbrev pub all_ok : {A E : Type 0} → List (Result A E) → Result (List A) E
all_ok [] = Ok []
all_ok (x ∷ xs) = x >>= λ value. all_ok xs >>= λ values. Ok (value ∷ values)

-- an answer is what is known, unless memory ran out
abbrev pub Answers : {A E : Type 0} → E → Result A E → Result A E → Type 0
Answers memory known (Ok x) = known ≡ Ok x
Answers memory known (Err fault) = (fault ≡ memory) ⊎ (known ≡ Err fault)
