-- A list of pieces, up to one of them and after it.
use Rattle.std.proofs.Common.{◌≡◌, ℕ, zero, suc, ◌+◌, ◌<◌, List, [], ◌∷◌, ◌++◌, length, get_or, take, drop, ap, sym, refl, ◌∙◌, add-one, arith, append_assoc, append-nil}
use Rattle.std.specs.List.{concat}
use Rattle.std.specs.Prelude.{Result, Ok, Err, OnOk, OnErr, true, false}
use Rattle.std.specs.Result.{is_err}

-- a list of pieces is those before one, that one, and those after it
pub concat_at : (pieces : List (List ℕ)) (i : ℕ) → i < length pieces
    → concat pieces ≡ concat (take i pieces) ++ get_or pieces i [] ++ concat (drop (suc i) pieces)
concat_at [] i h = absurd (omega arith)
concat_at (p ∷ pieces) zero h = refl
concat_at (p ∷ pieces) (suc i) h = ap (λ v. p ++ v) (concat_at pieces i (omega arith)) ∙ regroup p (concat (take i pieces)) (get_or pieces i []) (concat (drop (suc i) pieces))
  where
    regroup : (a b c d : List ℕ) → a ++ ((b ++ c) ++ d) ≡ ((a ++ b) ++ c) ++ d
    regroup a b c d = sym (append_assoc a (b ++ c) d) ∙ ap (λ v. v ++ d) (sym (append_assoc a b c))

up_to : (pieces : List (List ℕ)) (i : ℕ) → i < length pieces → concat (take (suc i) pieces) ≡ concat (take i pieces) ++ get_or pieces i []
up_to [] i h = absurd (omega arith)
up_to (p ∷ pieces) zero h = append-nil p
up_to (p ∷ pieces) (suc i) h = ap (λ v. p ++ v) (up_to pieces i (omega arith)) ∙ sym (append_assoc p (concat (take i pieces)) (get_or pieces i []))

-- the pieces before one and that one
pub concat_more : (pieces : List (List ℕ)) (i : ℕ) → i < length pieces → concat (take (i + 1) pieces) ≡ concat (take i pieces) ++ get_or pieces i []
concat_more pieces i h = ap (λ n. concat (take n pieces)) (add-one i) ∙ up_to pieces i h

-- what holds of a result that is no error, and of one that is
pub from_ok : {P T E : Type 0} (r : Result T E) → is_err r ≡ false → OnOk r P → P
from_ok (Ok x) e h = h
from_ok (Err x) e h = cc e

pub from_err : {P T E : Type 0} (r : Result T E) → is_err r ≡ true → OnErr r P → P
from_err (Ok x) e h = cc e
from_err (Err x) e h = h
