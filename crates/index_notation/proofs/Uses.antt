-- Factors that are appended one after the other.
use Rattle.std.proofs.Common.{◌≡◌, ℕ, ◌+◌, ◌<◌, ◌≤◌, Bool, true, false, List, [], ◌∷◌, ◌++◌, map, length, drop, get_or, refl, sym, ap, ◌∙◌}
use Rattle.std.specs.Prelude.{slice_get, not, if◌then◌else◌, cond}
use Rattle.std.specs.List.{filter, flat_map}
use Rattle.std.proofs.lemmas.List.{append_assoc, drop_more, drop_all}
use Rattle.std.proofs.lemmas.List.Concat.{flat_map-cons}
use Rattle.sim_syntax.specs.declared.expression.Expr.{Expr}
use Rattle.sim_syntax.specs.declared.statement.IxAtom.{IxAtom}
use Rattle.chain_forms.specs.declared.chain.Link.{Link}
use Rattle.chain_forms.specs.Atoms.{is_factor, indices_of}
use Rattle.chain_forms.specs.Lowering.{made, used_at, used, scalars, group_product}
use Rattle.index_notation.proofs.Scans.{from_item}

end_nil : {A : Type 0} (list : List A) → list ++ [] ≡ list
end_nil [] = refl
end_nil (x ∷ list) = ap (λ rest. x ∷ rest) (end_nil list)

-- ---- the factors of links

used_from : (atoms : List IxAtom) (links : List Link) (k : ℕ) (l : Link) → k < length links
    → used atoms (drop k links) ≡ used_at (get_or links k l) (slice_get atoms (get_or links k l).factor) ++ used atoms (drop (k + 1) links)
unfolding used
used_from atoms links k l below =
    ap (flat_map (λ l. used_at l (slice_get atoms l.factor))) (drop_more links k l below)
    ∙ flat_map-cons (λ l. used_at l (slice_get atoms l.factor)) (get_or links k l) (drop (k + 1) links)

pub used_taken : (atoms : List IxAtom) (links : List Link) (k : ℕ) (l : Link) (known factors next : List Expr) → k < length links
    → next ≡ factors ++ used_at (get_or links k l) (slice_get atoms (get_or links k l).factor)
    → known ≡ factors ++ used atoms (drop k links) → known ≡ next ++ used atoms (drop (k + 1) links)
used_taken atoms links k l known factors next below has so_far =
    so_far ∙ ap (λ rest. factors ++ rest) (used_from atoms links k l below)
    ∙ sym (append_assoc factors (used_at (get_or links k l) (slice_get atoms (get_or links k l).factor)) (used atoms (drop (k + 1) links)))
    ∙ ap (λ done. done ++ used atoms (drop (k + 1) links)) (sym has)

pub used_ended : (atoms : List IxAtom) (links : List Link) (k : ℕ) (known factors : List Expr) → length links ≤ k
    → known ≡ factors ++ used atoms (drop k links) → factors ≡ known
unfolding used
used_ended atoms links k known factors past so_far =
    sym (so_far ∙ ap (λ rest. factors ++ used atoms rest) (drop_all k links past) ∙ end_nil factors)

pub used_after : (atoms : List IxAtom) (l : Link) (rest : List Link) (factors more : List Expr) → factors ≡ used_at l (slice_get atoms l.factor)
    → more ≡ factors ++ used atoms rest → more ≡ used atoms (l ∷ rest)
unfolding used
used_after atoms l rest factors more first has =
    has ∙ ap (λ f. f ++ flat_map (λ l. used_at l (slice_get atoms l.factor)) rest) first
    ∙ sym (flat_map-cons (λ l. used_at l (slice_get atoms l.factor)) l rest)

-- ---- numbers and scalars

scalars_from : (atoms : List IxAtom) (k : ℕ) (a : IxAtom) (b : Bool) → k < length atoms → a ≡ get_or atoms k a → is_factor (indices_of a) ≡ b
    → scalars (drop k atoms) ≡ (if b then scalars (drop (k + 1) atoms) else made a ∷ scalars (drop (k + 1) atoms))
unfolding scalars
scalars_from atoms k a b below here is = ap scalars (from_item atoms k a below here) ∙ by_kind (is_factor (indices_of a)) ∙ ap (λ c. if c then scalars (drop (k + 1) atoms) else made a ∷ scalars (drop (k + 1) atoms)) is
  where
    by_kind : (c : Bool) → map made (cond (not c) (a ∷ filter (λ a. not (is_factor (indices_of a))) (drop (k + 1) atoms)) (filter (λ a. not (is_factor (indices_of a))) (drop (k + 1) atoms)))
        ≡ (if c then scalars (drop (k + 1) atoms) else made a ∷ scalars (drop (k + 1) atoms))
    by_kind true = refl
    by_kind false = refl

pub scalar_taken : (atoms : List IxAtom) (k : ℕ) (a : IxAtom) (e : Expr) (known factors next : List Expr) → k < length atoms → a ≡ get_or atoms k a
    → is_factor (indices_of a) ≡ false → e ≡ made a → next ≡ factors ++ e ∷ []
    → known ≡ factors ++ scalars (drop k atoms) → known ≡ next ++ scalars (drop (k + 1) atoms)
scalar_taken atoms k a e known factors next below here is makes has so_far =
    so_far ∙ ap (λ rest. factors ++ rest) (scalars_from atoms k a false below here is ∙ ap (λ x. x ∷ scalars (drop (k + 1) atoms)) (sym makes))
    ∙ sym (append_assoc factors (e ∷ []) (scalars (drop (k + 1) atoms)))
    ∙ ap (λ done. done ++ scalars (drop (k + 1) atoms)) (sym has)

pub factor_passed : (atoms : List IxAtom) (k : ℕ) (a : IxAtom) (known factors : List Expr) → k < length atoms → a ≡ get_or atoms k a
    → is_factor (indices_of a) ≡ true
    → known ≡ factors ++ scalars (drop k atoms) → known ≡ factors ++ scalars (drop (k + 1) atoms)
factor_passed atoms k a known factors below here is so_far =
    so_far ∙ ap (λ rest. factors ++ rest) (scalars_from atoms k a true below here is)

pub scalars_ended : (atoms : List IxAtom) (k : ℕ) (known factors : List Expr) → length atoms ≤ k
    → known ≡ factors ++ scalars (drop k atoms) → factors ≡ known
unfolding scalars
scalars_ended atoms k known factors past so_far =
    sym (so_far ∙ ap (λ rest. factors ++ scalars rest) (drop_all k atoms past) ∙ end_nil factors)

-- ---- groups

pub group_taken : (line : ℕ) (atoms : List IxAtom) (groups : List (List Link)) (k : ℕ) (group : List Link) (e : Expr) (known products next : List Expr)
    → k < length groups → group ≡ get_or groups k group → e ≡ group_product line atoms group → next ≡ products ++ e ∷ []
    → known ≡ products ++ map (group_product line atoms) (drop k groups) → known ≡ next ++ map (group_product line atoms) (drop (k + 1) groups)
group_taken line atoms groups k group e known products next below here makes has so_far =
    so_far ∙ ap (λ rest. products ++ map (group_product line atoms) rest) (from_item groups k group below here)
    ∙ ap (λ x. products ++ x ∷ map (group_product line atoms) (drop (k + 1) groups)) (sym makes)
    ∙ sym (append_assoc products (e ∷ []) (map (group_product line atoms) (drop (k + 1) groups)))
    ∙ ap (λ done. done ++ map (group_product line atoms) (drop (k + 1) groups)) (sym has)

pub groups_ended : (line : ℕ) (atoms : List IxAtom) (groups : List (List Link)) (k : ℕ) (known products : List Expr) → length groups ≤ k
    → known ≡ products ++ map (group_product line atoms) (drop k groups) → products ≡ known
groups_ended line atoms groups k known products past so_far =
    sym (so_far ∙ ap (λ rest. products ++ map (group_product line atoms) rest) (drop_all k groups past) ∙ end_nil products)
