-- Judgements of lists: each of the one list with its own of the other, one after the other.
use Rattle.std.specs.Prelude.{List, [], ◌∷◌}

-- R x y before after: at what is known before, y is judged of x, and so much is known after
pub data InTurn {S A B : Type 0} (R : A → B → S → S → Type 0) : List A → List B → S → S → Type 0 where
  none : (here : S) → InTurn R [] [] here here
  one_more : (x : A) (xs : List A) (y : B) (ys : List B) (before between after : S)
      → R x y before between → InTurn R xs ys between after → InTurn R (x ∷ xs) (y ∷ ys) before after

-- each of the one list with its own of the other
pub data Matched {A B : Type 0} (R : A → B → Type 0) : List A → List B → Type 0 where
  none : Matched R [] []
  one_more : (x : A) (xs : List A) (y : B) (ys : List B) → R x y → Matched R xs ys → Matched R (x ∷ xs) (y ∷ ys)

-- each of a list
abbrev pub Each : {A : Type 0} → (A → Type 0) → List A → Type 0
Each P [] = Unit {0}
Each P (x ∷ xs) = P x × Each P xs
