-- How often positions stand among links.
use Rattle.std.proofs.Common.{◌≡◌, ℕ, ◌+◌, ◌≤◌, List, [], ◌∷◌, ◌++◌, refl, sym, ap, ◌∙◌, arith, inl, inr}
use Rattle.std.specs.Prelude.{◌==◌, ◌⊎◌, min}
use Rattle.std.proofs.lemmas.Bool.{eq-eqb, ne_eqb}
use Rattle.std.proofs.lemmas.List.Sums.{sum_by-cons, sum_by-append}
use Rattle.sim_syntax.specs.declared.statement.IxAtom.{IxAtom}
use Rattle.chain_forms.specs.declared.chain.Link.{Link}
use Rattle.chain_forms.specs.Atoms.{Name, indices_at, one_if}
use Rattle.chain_forms.specs.ChainForm.{Beside, Leads, times_in, least, first_of, last_of}

pub times_more : (p : ℕ) (l : Link) (links : List Link) → times_in p (l ∷ links) ≡ one_if (l.factor == p) + times_in p links
unfolding times_in
times_more p l links = sum_by-cons (λ l. one_if (l.factor == p)) l links

pub times_joined : (p : ℕ) (xs ys : List Link) → times_in p (xs ++ ys) ≡ times_in p xs + times_in p ys
unfolding times_in
times_joined p xs ys = sum_by-append (λ l. one_if (l.factor == p)) xs ys

pub times_none : (p : ℕ) → times_in p [] ≡ 0
unfolding times_in
times_none p = refl

pub here : (p : ℕ) (l : Link) (links : List Link) → l.factor ≡ p → 1 ≤ times_in p (l ∷ links)
here p l links is =
    let one : one_if (l.factor == p) ≡ 1 = ap one_if (eq-eqb l.factor p is) in
    let more = times_more p l links in omega arith

pub elsewhere : (p : ℕ) (l : Link) (links : List Link) → (l.factor ≡ p → ⊥) → times_in p (l ∷ links) ≡ times_in p links
elsewhere p l links other =
    let none : one_if (l.factor == p) ≡ 0 = ap one_if (ne_eqb l.factor p other) in
    let more = times_more p l links in omega arith

pub later : (p : ℕ) (l : Link) (links : List Link) → 1 ≤ times_in p links → 1 ≤ times_in p (l ∷ links)
later p l links some = let more = times_more p l links in omega arith

-- ---- factors have indices

pub has_indices : (atoms : List IxAtom) (l : Link) (i : Name) (out : List Name) → Beside atoms l i out → indices_at atoms l.factor ≡ [] → ⊥
has_indices atoms l i out (Beside.vector p j are) none = let two : j ∷ [] ≡ [] = sym are ∙ none in cc two
has_indices atoms l i out (Beside.straight p j k are) none = let two : j ∷ k ∷ [] ≡ [] = sym are ∙ none in cc two
has_indices atoms l i out (Beside.against p j k are) none = let two : k ∷ j ∷ [] ≡ [] = sym are ∙ none in cc two

not_there : (atoms : List IxAtom) (p : ℕ) (l : Link) (i : Name) (out : List Name) → Beside atoms l i out → indices_at atoms p ≡ [] → l.factor ≡ p → ⊥
not_there atoms p l i out beside none is = has_indices atoms l i out beside (ap (indices_at atoms) is ∙ none)

pub never : (atoms : List IxAtom) (free end : List Name) (i : Name) (links : List Link) (p : ℕ) → Leads atoms free end i links → indices_at atoms p ≡ []
    → times_in p links ≡ 0
never atoms free end i links p (Leads.last l j beside) none = elsewhere p l [] (not_there atoms p l j end beside none) ∙ times_none p
never atoms free end i links p (Leads.further l rest j k beside summed others) none =
    elsewhere p l rest (not_there atoms p l j (k ∷ []) beside none) ∙ never atoms free end k rest p others none

-- ---- the first factor of some, and the last

least_stands : (m : ℕ) (links : List Link) → (least m links ≡ m) ⊎ (1 ≤ times_in (least m links) links)
unfolding least
least_stands m [] = inl refl
least_stands m (l ∷ links) = elim (least_stands (min m l.factor) links) [
  | inl is ↦ by_less (is_less_or_not m l.factor) is
  | inr stands ↦ inr (later (least (min m l.factor) links) l links stands)
]
  where
    is_less_or_not : (a b : ℕ) → (min a b ≡ a) ⊎ (min a b ≡ b)
    is_less_or_not a b = elim (min_is a b) [ inl x ↦ inl x | inr y ↦ inr y ]
      where
        min_is : (a b : ℕ) → (min a b ≡ a) ⊎ (min a b ≡ b)
        min_is a b = grind arith

    by_less : ((min m l.factor ≡ m) ⊎ (min m l.factor ≡ l.factor)) → least (min m l.factor) links ≡ min m l.factor
        → (least (min m l.factor) links ≡ m) ⊎ (1 ≤ times_in (least (min m l.factor) links) (l ∷ links))
    by_less (inl first) is = inl (is ∙ first)
    by_less (inr last) is = inr (here (least (min m l.factor) links) l links (sym (is ∙ last)))

pub first_stands : (l : Link) (links : List Link) → 1 ≤ times_in (first_of (l ∷ links)) (l ∷ links)
first_stands l links = elim (least_stands l.factor links) [
  | inl is ↦ here (least l.factor links) l links (sym is)
  | inr stands ↦ later (least l.factor links) l links stands
]

pub last_stands : (l : Link) (links : List Link) → 1 ≤ times_in (last_of l links) (l ∷ links)
last_stands l [] = here l.factor l [] refl
last_stands l (k ∷ links) = later (last_of k links) l (k ∷ links) (last_stands k links)
