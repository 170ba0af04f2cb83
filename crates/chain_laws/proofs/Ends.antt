-- With no free index, and with two: the ordering there is, is the one that is found.
use Rattle.std.proofs.Common.{◌≡◌, ℕ, zero, suc, ◌+◌, ◌<◌, ◌≤◌, Bool, true, false, ◌||◌, ◌&&◌, List, [], ◌∷◌, length, Option, Some, None, refl, sym, ap, ◌∙◌, subst, arith, inl, inr}
use Rattle.std.specs.Prelude.{◌⊎◌, if◌then◌else◌}
use Rattle.std.specs.List.{list_all, range_with_len}
use Rattle.std.specs.Option.{option_map, option_and_then}
use Rattle.std.specs.Str.{bytes_eq}
use Rattle.std.proofs.lemmas.Bool.{eq-eqb, cases_eq, cases_lt}
use Rattle.sim_syntax.specs.declared.statement.IxAtom.{IxAtom}
use Rattle.chain_forms.specs.declared.chain.Chain.TheVariants as chain
use Rattle.chain_forms.specs.declared.chain.Link.{Link}
use Rattle.chain_forms.specs.Atoms.{Name, indices_of, indices_at, is_factor, is_among, one_if, atoms_with}
use Rattle.chain_forms.specs.ChainForm.{link, Beside, Leads, IsSimple, IsSummed, times_in, last_of}
use Rattle.chain_forms.specs.Following.{other_with, followed, is_vector, first_vector, after_vector, from_vector, between_free, is_ordered, are_ordered}
use Rattle.chain_laws.proofs.Names.{true_or_false, name_is, other_name, first_among, later_among, some_is}
use Rattle.chain_laws.proofs.Counts.{Has, the_other, no_other, other_is}
use Rattle.chain_laws.proofs.Complete.{fits, head_factor, has_entry, two_of, complete}
use Rattle.chain_laws.proofs.Sound.{Vector, first_is, past_end, last_factor, not_empty, at_most_once}
use Rattle.chain_laws.proofs.Times.{times_more, times_none, here, elsewhere}

pub not_both : (b : Bool) → b ≡ true → b ≡ false → ⊥
not_both true is not_is = cc not_is
not_both false is not_is = cc is

-- ---- each factor once

all_range : (test : ℕ → Bool) (a n : ℕ) → ((p : ℕ) → test p ≡ true) → list_all test (range_with_len a n) ≡ true
all_range test a zero pass = refl
all_range test a (suc n) pass = ap (λ b. b && list_all test (range_with_len (a + 1) n)) (pass a) ∙ all_range test (a + 1) n pass

abbrev pub Times : List IxAtom → List Link → Type 0
Times atoms links = (p : ℕ) → times_in p links ≡ one_if (is_factor (indices_at atoms p))

pub passes : (atoms : List IxAtom) (links : List Link) → Times atoms links → are_ordered atoms links ≡ true
unfolding are_ordered
passes atoms links times =
    all_range (is_ordered atoms links) 0 (length atoms) (λ p. eq-eqb (times_in p links) (one_if (is_factor (indices_at atoms p))) (times p))

pub once : (atoms : List IxAtom) (links : List Link) → Times atoms links → (p : ℕ) → times_in p links ≤ 1
once atoms links times p = at_most_once (is_factor (indices_at atoms p)) (times_in p links) (times p)

pub never_past : (atoms : List IxAtom) (links : List Link) → Times atoms links → (p : ℕ) → length atoms ≤ p → times_in p links ≡ 0
never_past atoms links times p past = times p ∙ ap (λ indices. one_if (is_factor indices)) (past_end atoms p past)

has_factor : (i : Name) (indices : List Name) → is_among i indices ≡ true → is_factor indices ≡ true
has_factor i [] has = let none : false ≡ true = has in cc none
has_factor i (j ∷ indices) has = refl

-- an atom with an index is ordered
pub stands : (atoms : List IxAtom) (links : List Link) (i : Name) (p : ℕ) → Times atoms links → Has i atoms p → 1 ≤ times_in p links
stands atoms links i p times has =
    let one = times p ∙ ap one_if (has_factor i (indices_at atoms p) has) in
    let e : times_in p links ≡ 1 = one in omega arith

pub within : (i : Name) (atoms : List IxAtom) (p : ℕ) → Has i atoms p → p < length atoms
within i atoms p has = elim (cases_lt p (length atoms)) [
  | inl below ↦ below
  | inr past ↦ let none : false ≡ true = sym (ap (is_among i) (past_end atoms p past)) ∙ has in cc none
]

-- ---- only the first factor has the free index

among_one : (i j : Name) → is_among i (j ∷ []) ≡ true → i ≡ j
among_one i j among = elim (true_or_false (bytes_eq i j)) [
  | inl same ↦ name_is i j same
  | inr other ↦ let none : false ≡ true = sym (ap (λ b. b || false) other) ∙ among in cc none
]

among_two : (i j k : Name) → is_among i (j ∷ k ∷ []) ≡ true → (i ≡ j) ⊎ (i ≡ k)
among_two i j k among = elim (true_or_false (bytes_eq i j)) [
  | inl same ↦ inl (name_is i j same)
  | inr other ↦ inr (among_one i k (sym (ap (λ b. b || is_among i (k ∷ [])) other) ∙ among))
]

among_beside : (atoms : List IxAtom) (l : Link) (i k : Name) (out : List Name) → Beside atoms l k out → Has i atoms l.factor → (i ≡ k) ⊎ (is_among i out ≡ true)
among_beside atoms l i k out (Beside.vector p j are) has = inl (among_one i j (sym (ap (is_among i) are) ∙ has))
among_beside atoms l i k out (Beside.straight p j m are) has = elim (among_two i j m (sym (ap (is_among i) are) ∙ has)) [
  | inl same ↦ inl same
  | inr same ↦ inr (subst (λ n. is_among i (n ∷ []) ≡ true) same (first_among i []))
]
among_beside atoms l i k out (Beside.against p j m are) has = elim (among_two i m j (sym (ap (is_among i) are) ∙ has)) [
  | inl same ↦ inr (subst (λ n. is_among i (n ∷ []) ≡ true) same (first_among i []))
  | inr same ↦ inl same
]

here_or_later : (p : ℕ) (l : Link) (rest : List Link) → 1 ≤ times_in p (l ∷ rest) → (l.factor ≡ p) ⊎ (1 ≤ times_in p rest)
here_or_later p l rest some = elim (cases_eq l.factor p) [
  | inl same ↦ inl same
  | inr other ↦ inr (let e = elsewhere p l rest other in omega arith)
]

nowhere : (p : ℕ) → 1 ≤ times_in p [] → ⊥
nowhere p some = let none = times_none p in omega arith

summed_differs : (free : List Name) (i k : Name) → is_among i free ≡ true → is_among k free ≡ false → i ≡ k → ⊥
summed_differs free i k is_free summed same = not_both (is_among k free) (ap (λ n. is_among n free) (sym same) ∙ is_free) summed

none_in : (atoms : List IxAtom) (free end : List Name) (i k : Name) (links : List Link) (p : ℕ) → Leads atoms free end k links → (i ≡ k → ⊥)
    → is_among i free ≡ true → is_among i end ≡ false → Has i atoms p → 1 ≤ times_in p links → ⊥
none_in atoms free end i k links p (Leads.last l j beside) differ is_free not_end has some = elim (here_or_later p l [] some) [
  | inl same ↦ elim (among_beside atoms l i j end beside (subst (Has i atoms) (sym same) has)) [
    | inl is ↦ differ is
    | inr among ↦ not_both (is_among i end) among not_end
  ]
  | inr more ↦ nowhere p more
]
none_in atoms free end i k links p (Leads.further l rest j m beside summed others) differ is_free not_end has some = elim (here_or_later p l rest some) [
  | inl same ↦ elim (among_beside atoms l i j (m ∷ []) beside (subst (Has i atoms) (sym same) has)) [
    | inl is ↦ differ is
    | inr among ↦ summed_differs free i m is_free summed (among_one i m among)
  ]
  | inr more ↦ none_in atoms free end i m rest p others (summed_differs free i m is_free summed) is_free not_end has more
]

pub only_head : (atoms : List IxAtom) (free end : List Name) (i : Name) (links : List Link) (p : ℕ) → Leads atoms free end i links
    → is_among i free ≡ true → is_among i end ≡ false → Has i atoms p → 1 ≤ times_in p links → p ≡ head_factor links
only_head atoms free end i links p (Leads.last l j beside) is_free not_end has some = elim (here_or_later p l [] some) [
  | inl same ↦ sym same
  | inr more ↦ absurd (nowhere p more)
]
only_head atoms free end i links p (Leads.further l rest j m beside summed others) is_free not_end has some = elim (here_or_later p l rest some) [
  | inl same ↦ sym same
  | inr more ↦ absurd (none_in atoms free end j m rest p others (summed_differs free j m is_free summed) is_free not_end has more)
]

pub enters : (atoms : List IxAtom) (free end : List Name) (i : Name) (links : List Link) → Leads atoms free end i links → Has i atoms (head_factor links)
enters atoms free end i links (Leads.last l j beside) = has_entry atoms l j end beside
enters atoms free end i links (Leads.further l rest j k beside summed others) = has_entry atoms l j (k ∷ []) beside

pub head_in : (atoms : List IxAtom) (free end : List Name) (i : Name) (links : List Link) → Leads atoms free end i links → 1 ≤ times_in (head_factor links) links
head_in atoms free end i links (Leads.last l j beside) = here l.factor l [] refl
head_in atoms free end i links (Leads.further l rest j k beside summed others) = here l.factor l rest refl

-- ---- with two free indices

abbrev pub Twice : List IxAtom → List Name → Type 0
Twice atoms free = (i : Name) → IsSummed free i → (atoms_with i atoms ≡ 0) ⊎ (atoms_with i atoms ≡ 2)

pub two_found : (atoms : List IxAtom) (i j : Name) (links : List Link) → ((p : ℕ) → IsSimple (indices_at atoms p)) → Twice atoms (i ∷ j ∷ [])
    → (i ≡ j → ⊥) → Leads atoms (i ∷ j ∷ []) (j ∷ []) i links → Times atoms links → between_free i j atoms ≡ Some (chain.Matrices links)
two_found atoms i j links simple twice differ lead times =
    ap (λ b. if b then None else option_map chain.Matrices
    (option_and_then (λ first. followed (i ∷ j ∷ []) (Some j) atoms (length atoms) first i) (other_with i (length atoms) 0 atoms))) (other_name i j differ)
    ∙ ap (λ o. option_map chain.Matrices (option_and_then (λ first. followed (i ∷ j ∷ []) (Some j) atoms (length atoms) first i) o))
    (by_found (other_with i (length atoms) 0 atoms) refl)
    ∙ ap (option_map chain.Matrices)
    (complete atoms (i ∷ j ∷ []) (Some j) simple twice (λ k is. subst (λ n. is_among n (i ∷ j ∷ []) ≡ true) (some_is j k is) (later_among j i (j ∷ []) (first_among j [])))
    i links lead (once atoms links times) (length atoms) (fits (length atoms) links (once atoms links times) (never_past atoms links times)))
  where
    by_found : (o : Option ℕ) → other_with i (length atoms) 0 atoms ≡ o → o ≡ Some (head_factor links)
    by_found None none =
        let has = enters atoms (i ∷ j ∷ []) (j ∷ []) i links lead in
        let at = no_other i (length atoms) 0 atoms none (head_factor links) has in
        let below = within i atoms (head_factor links) has in
        absurd (omega (arith, at, below))
    by_found (Some r) found =
        let other = other_is i (length atoms) 0 atoms r found in
        let same : other.0 ≡ r = omega (arith, other.1.0) in
        let has : Has i atoms r = subst (Has i atoms) same other.1.1 in
        ap Some (only_head atoms (i ∷ j ∷ []) (j ∷ []) i links r lead (first_among i (j ∷ [])) (ap (λ b. b || false) (other_name i j differ)) has
        (stands atoms links i r times has))

-- ---- with none

vector_has : (indices : List Name) → is_vector indices ≡ true → is_factor indices ≡ true
vector_has [] is = cc is
vector_has (i ∷ indices) is = refl

none_first : (atoms : List IxAtom) (k : ℕ) → first_vector k atoms ≡ None → (r : ℕ) → Vector atoms r → ⊥
unfolding first_vector
none_first [] k none r vector = let no' : false ≡ true = vector in cc no'
none_first (a ∷ atoms) k none r vector = elim (true_or_false (is_vector (indices_of a))) [
  | inl is ↦ let no' : Some k ≡ None = sym (ap (λ b. if b then Some k else first_vector (k + 1) atoms) is) ∙ none in cc no'
  | inr is ↦ by_position r vector is (none_first atoms (k + 1) (sym (ap (λ b. if b then Some k else first_vector (k + 1) atoms) is) ∙ none))
]
  where
    by_position : (r : ℕ) → Vector (a ∷ atoms) r → is_vector (indices_of a) ≡ false → ((r : ℕ) → Vector atoms r → ⊥) → ⊥
    by_position zero vector is rest = not_both (is_vector (indices_of a)) vector is
    by_position (suc r) vector is rest = rest r vector

pub no_vector : (atoms : List IxAtom) → Times atoms [] → from_vector atoms (first_vector 0 atoms) ≡ Some chain.Empty
no_vector atoms times = by_found (first_vector 0 atoms) refl
  where
    by_found : (o : Option ℕ) → first_vector 0 atoms ≡ o → from_vector atoms o ≡ Some chain.Empty
    by_found None none = refl
    by_found (Some u) found =
        let first = first_is atoms 0 u found in
        let one = times first.0 ∙ ap one_if (vector_has (indices_at atoms first.0) first.1.1) in
        let nothing = times_none first.0 in
        let e : 0 ≡ 1 = sym nothing ∙ one in
        let no' : ⊥ = omega (arith, e) in absurd no'

two_indices : (atoms : List IxAtom) (l : Link) (i j : Name) → Beside atoms l i (j ∷ []) → Vector atoms l.factor → ⊥
two_indices atoms l i j (Beside.straight p a b are) vector = let no' : false ≡ true = sym (ap is_vector are) ∙ vector in cc no'
two_indices atoms l i j (Beside.against p a b are) vector = let no' : false ≡ true = sym (ap is_vector are) ∙ vector in cc no'

vectors_last : (atoms : List IxAtom) (free : List Name) (i : Name) (links : List Link) (r : ℕ) → Leads atoms free [] i links → Vector atoms r → 1 ≤ times_in r links
    → r ≡ last_factor links
vectors_last atoms free i links r (Leads.last l j beside) vector some = elim (here_or_later r l [] some) [
  | inl same ↦ sym same
  | inr more ↦ absurd (nowhere r more)
]
vectors_last atoms free i links r (Leads.further l rest j k beside summed others) vector some = elim (here_or_later r l rest some) [
  | inl same ↦ absurd (two_indices atoms l j k beside (subst (Vector atoms) (sym same) vector))
  | inr more ↦
      let parts = not_empty atoms free [] k rest others in
      subst (λ q. r ≡ last_of l q) (sym parts.2) (subst (λ q. r ≡ last_factor q) parts.2 (vectors_last atoms free k rest r others vector more))
]

first_found : (atoms : List IxAtom) (p : ℕ) (i : Name) (rest : List Link) → Vector atoms p → Leads atoms [] [] i rest → Times atoms (link p false ∷ rest)
    → p < last_of (link p false) rest → first_vector 0 atoms ≡ Some p
first_found atoms p i rest vector lead times before = by_found (first_vector 0 atoms) refl
  where
    at_last : (r : ℕ) → Vector atoms r → (r ≡ p → ⊥) → r ≡ last_of (link p false) rest
    at_last r is other =
        let one = times r ∙ ap one_if (vector_has (indices_at atoms r) is) in
        let e = elsewhere r (link p false) rest (λ same. other (sym same)) in
        let some : 1 ≤ times_in r rest = omega (arith, one) in
        let parts = not_empty atoms [] [] i rest lead in
        subst (λ q. r ≡ last_of (link p false) q) (sym parts.2) (subst (λ q. r ≡ last_factor q) parts.2 (vectors_last atoms [] i rest r lead is some))

    by_found : (o : Option ℕ) → first_vector 0 atoms ≡ o → o ≡ Some p
    by_found None none = absurd (none_first atoms 0 none p vector)
    by_found (Some u) found =
        let first = first_is atoms 0 u found in
        let same : u ≡ first.0 = omega (arith, first.1.0) in
        elim (cases_eq u p) [
          | inl is ↦ ap Some is
          | inr other ↦
              let end = at_last u (subst (Vector atoms) (sym same) first.1.1) other in
              let past : p < first.0 = omega (arith, end, before, same) in
              absurd (not_both (is_vector (indices_at atoms p)) vector (first.1.2 p past))
        ]

pub between_found : (atoms : List IxAtom) (p : ℕ) (i : Name) (rest : List Link) → ((q : ℕ) → IsSimple (indices_at atoms q)) → Twice atoms []
    → indices_at atoms p ≡ i ∷ [] → Leads atoms [] [] i rest → Times atoms (link p false ∷ rest) → p < last_of (link p false) rest
    → from_vector atoms (first_vector 0 atoms) ≡ Some (chain.Between (link p false) rest)
between_found atoms p i rest simple twice are lead times before =
    let has : Has i atoms p = ap (is_among i) are ∙ first_among i [] in
    let differ : p ≡ head_factor rest → ⊥ = λ same.
    let more = times_more p (link p false) rest in
    let alone = here p (link p false) [] refl in
    let one = times_more p (link p false) [] in
    let nothing = times_none p in
    let o = once atoms (link p false ∷ rest) times p in
    let head : 1 ≤ times_in p rest = subst (λ q. 1 ≤ times_in q rest) (sym same) (head_in atoms [] [] i rest lead) in
    absurd (omega arith) in
    let once_rest : (q : ℕ) → times_in q rest ≤ 1 = λ q. let more = times_more q (link p false) rest in let o = once atoms (link p false ∷ rest) times q in omega arith in
    let past_rest : (q : ℕ) → length atoms ≤ q → times_in q rest ≡ 0 =
    λ q past. let more = times_more q (link p false) rest in let n = never_past atoms (link p false ∷ rest) times q past in omega arith in
    ap (from_vector atoms) (first_found atoms p i rest (ap is_vector are) lead times before)
    ∙ ap (after_vector atoms p) are
    ∙ ap (λ o. option_map (λ rest. chain.Between (link p false) rest) (option_and_then (λ next. followed [] None atoms (length atoms) next i) o))
    (the_other i atoms p (head_factor rest) (two_of atoms i p (twice i refl) has) differ has (enters atoms [] [] i rest lead))
    ∙ ap (option_map (λ rest. chain.Between (link p false) rest))
    (complete atoms [] None simple twice (λ k is. let no' : None ≡ Some k = is in cc no') i rest lead once_rest (length atoms)
    (fits (length atoms) rest once_rest past_rest))
