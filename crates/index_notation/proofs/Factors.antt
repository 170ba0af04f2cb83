-- Products of factors that are taken from a list's end.
use Rattle.std.proofs.Common.{◌≡◌, ℕ, Bool, false, List, [], ◌∷◌, ◌++◌, map, length, reverse, refl, sym, ap, ◌∙◌, subst}
use Rattle.std.specs.Prelude.{slice_get, Some, None}
use Rattle.std.specs.List.{remove}
use Rattle.std.proofs.lemmas.List.{reverse-append, reverse-reverse, append_assoc, nil_from_length}
use Rattle.sim_syntax.specs.declared.expression.Expr.{Expr}
use Rattle.sim_syntax.specs.declared.expression.Expr.TheVariants as expr
use Rattle.sim_syntax.specs.declared.expression.ProductFactor.{ProductFactor}
use Rattle.chain_forms.specs.Lowering.{factor, factors_of, product, nested, dot}

turned : (left new : List Expr) (x : Expr) → left ≡ new ++ x ∷ [] → reverse left ≡ x ∷ reverse new
turned left new x is = ap reverse is ∙ reverse-append new (x ∷ [])

itself : (xs left : List Expr) → left ≡ reverse xs → xs ≡ reverse left
itself xs left is = sym (reverse-reverse xs) ∙ ap reverse (sym is)

-- ---- the factors of a product

pub no_factor : (line : ℕ) (entrywise : Bool) (xs left : List Expr) → left ≡ reverse xs → left ≡ [] → [] ≡ factors_of line entrywise xs
no_factor line entrywise xs left is none = sym (ap (factors_of line entrywise) (itself xs left is ∙ ap reverse none))

pub first_taken : (line : ℕ) (entrywise : Bool) (xs left new : List Expr) (x : Expr) (list : List ProductFactor) → left ≡ reverse xs → left ≡ new ++ x ∷ []
    → list ≡ factor line false x ∷ [] → factors_of line entrywise xs ≡ list ++ map (factor line entrywise) (reverse new)
first_taken line entrywise xs left new x list is taken has =
    ap (factors_of line entrywise) (itself xs left is ∙ turned left new x taken)
    ∙ ap (λ done. done ++ map (factor line entrywise) (reverse new)) (sym has)

pub taken : (line : ℕ) (entrywise : Bool) (known list next : List ProductFactor) (left new : List Expr) (x : Expr) → left ≡ new ++ x ∷ []
    → next ≡ list ++ factor line entrywise x ∷ []
    → known ≡ list ++ map (factor line entrywise) (reverse left) → known ≡ next ++ map (factor line entrywise) (reverse new)
taken line entrywise known list next left new x is has so_far =
    so_far ∙ ap (λ l. list ++ map (factor line entrywise) l) (turned left new x is)
    ∙ sym (append_assoc list (factor line entrywise x ∷ []) (map (factor line entrywise) (reverse new)))
    ∙ ap (λ done. done ++ map (factor line entrywise) (reverse new)) (sym has)

end_nil : (list : List ProductFactor) → list ++ [] ≡ list
end_nil [] = refl
end_nil (x ∷ list) = ap (λ rest. x ∷ rest) (end_nil list)

pub ended : (line : ℕ) (entrywise : Bool) (known list : List ProductFactor) (left : List Expr) → length left ≡ 0
    → known ≡ list ++ map (factor line entrywise) (reverse left) → list ≡ known
ended line entrywise known list left none so_far =
    sym (so_far ∙ ap (λ l. list ++ map (factor line entrywise) (reverse l)) (nil_from_length left none) ∙ end_nil list)

-- ---- one factor, or others

pub other_factors : (line : ℕ) (entrywise : Bool) (xs : List Expr) → (length xs ≡ 1 → ⊥) → product line entrywise xs ≡ expr.Product line (factors_of line entrywise xs)
unfolding product
other_factors line entrywise [] other = refl
other_factors line entrywise (x ∷ []) other = absurd (other refl)
other_factors line entrywise (x ∷ y ∷ xs) other = refl

-- ---- nested products

pub none_nested : (line : ℕ) (xs : List Expr) → xs ≡ [] → product line false xs ≡ nested line xs
unfolding nested
none_nested line xs none = subst (λ l. product line false l ≡ nested line l) (sym none) refl

pub last_nested : (line : ℕ) (xs new : List Expr) (x : Expr) → xs ≡ new ++ x ∷ [] → nested line xs ≡ nested line (new ++ x ∷ [])
last_nested line xs new x is = ap (nested line) is

joined : (line : ℕ) (front : List Expr) (e f : Expr) → nested line (front ++ e ∷ f ∷ []) ≡ nested line (front ++ product line false (e ∷ f ∷ []) ∷ [])
unfolding nested
joined line [] e f = refl
joined line (x ∷ []) e f = refl
joined line (x ∷ y ∷ front) e f = ap (λ rest. product line false (x ∷ rest ∷ [])) (joined line (y ∷ front) e f)

pub one_nested : (line : ℕ) (known value next e : Expr) (left new : List Expr) → left ≡ new ++ e ∷ [] → next ≡ product line false (e ∷ value ∷ [])
    → known ≡ nested line (left ++ value ∷ []) → known ≡ nested line (new ++ next ∷ [])
one_nested line known value next e left new is has so_far =
    so_far ∙ ap (λ l. nested line (l ++ value ∷ [])) is ∙ ap (nested line) (append_assoc new (e ∷ []) (value ∷ []))
    ∙ joined line new e value ∙ ap (λ x. nested line (new ++ x ∷ [])) (sym has)

pub all_nested : (line : ℕ) (known value : Expr) (left : List Expr) → length left ≡ 0 → known ≡ nested line (left ++ value ∷ []) → value ≡ known
unfolding nested
all_nested line known value left none so_far = sym (so_far ∙ ap (λ l. nested line (l ++ value ∷ [])) (nil_from_length left none))

-- ---- scalar products

pub none_dotted : (line : ℕ) (xs : List Expr) → xs ≡ [] → product line false xs ≡ dot line xs
unfolding dot
none_dotted line xs none = subst (λ l. product line false l ≡ dot line l) (sym none) refl

pub dotted : (line : ℕ) (xs rest : List Expr) (x e f : Expr) → slice_get xs 0 ≡ Some x → rest ≡ remove xs 0 → e ≡ x → f ≡ nested line rest
    → expr.Dot line e f ≡ dot line xs
unfolding dot
dotted line [] rest x e f is has left right = let none : None ≡ Some x = is in cc none
dotted line (y ∷ xs) rest x e f is has left right =
    let first : Some y ≡ Some x = is in
    let same : y ≡ x = cc in
    let others : rest ≡ xs = has in
    ap (λ v. expr.Dot line v f) (left ∙ sym same) ∙ ap (expr.Dot line y) (right ∙ ap (nested line) others)
