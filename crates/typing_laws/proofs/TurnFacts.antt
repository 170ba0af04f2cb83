-- Lists of which each is judged in its turn: if one answers just what is judged, so do several.
use Rattle.std.proofs.Common.{◌≡◌, List, [], ◌∷◌, map, Ok, refl, subst}
use Rattle.typed_tree.specs.Steps.{Step, several}
use Rattle.typing_laws.specs.Lists.{InTurn}
use Rattle.typing_laws.proofs.Steps.{same_Ok, several_more, several_split}

pub in_turn_only : {S A B : Type 0} (R : A → B → S → S → Type 0) (f : A → Step S B)
    → ((x : A) (y : B) (before after : S) → R x y before after → f x before ≡ Ok (y, after))
    → (xs : List A) (ys : List B) (before after : S) → InTurn R xs ys before after → several (map f xs) before ≡ Ok (ys, after)
in_turn_only R f only xs ys before after (InTurn.none here) = refl
in_turn_only R f only xs ys before after (InTurn.one_more x xs' y ys' before' between after' one others) =
    several_more (f x) (map f xs') before' (y, between) (ys', after') (only x y before' between one) (in_turn_only R f only xs' ys' between after' others)

pub in_turn_typed : {S A B : Type 0} (R : A → B → S → S → Type 0) (f : A → Step S B)
    → ((x : A) (before : S) (done : B × S) → f x before ≡ Ok done → R x done.0 before done.1)
    → (xs : List A) (before : S) (done : List B × S) → several (map f xs) before ≡ Ok done → InTurn R xs done.0 before done.1
in_turn_typed R f typed [] before done is = subst (λ d. InTurn R [] d.0 before d.1) (same_Ok ([], before) done is) (InTurn.none before)
in_turn_typed R f typed (x ∷ xs) before done is =
    let s = several_split (f x) (map f xs) before done is in
    subst (λ d. InTurn R (x ∷ xs) d.0 before d.1) s.4
    (InTurn.one_more x xs s.0.0 s.1.0 before s.0.1 s.1.1 (typed x before s.0 s.2) (in_turn_typed R f typed xs s.0.1 s.1 s.3))
