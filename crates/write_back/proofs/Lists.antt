-- Lists that grow by what one item after the other gives.
use Rattle.std.proofs.Common.{◌≡◌, ℕ, ◌+◌, ◌<◌, List, [], ◌∷◌, ◌++◌, take, length, get_or, sym, ap, ◌∙◌}
use Rattle.std.specs.List.{flat_map}
use Rattle.std.proofs.lemmas.List.{flat_map_more, take_more}

-- what another item of a list gives
pub items_grown : {A X : Type 0} (f : X → List A) (xs : List X) (old new : List A) (i : ℕ) (x : X) → i < length xs → x ≡ get_or xs i x
    → old ≡ flat_map f (take i xs) → new ≡ old ++ f x → new ≡ flat_map f (take (i + 1) xs)
items_grown f xs old new i x within here so_far grown =
    grown ∙ ap (λ l. l ++ f x) so_far ∙ flat_map_more f [] (take i xs) x
    ∙ ap (λ y. flat_map f (take i xs ++ y ∷ [])) here ∙ ap (flat_map f) (sym (take_more xs i x within))
