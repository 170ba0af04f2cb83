-- What leads from the first factor to the end is found by following shared indices.
use Rattle.std.proofs.Common.{◌≡◌, ℕ, zero, suc, ◌+◌, ◌≤◌, Bool, true, false, List, [], ◌∷◌, length, Option, Some, None, refl, sym, ap, ◌∙◌, subst, arith, inl, inr}
use Rattle.std.specs.Prelude.{◌==◌, ◌⊎◌, not, cond, if◌then◌else◌}
use Rattle.std.specs.List.{filter}
use Rattle.std.specs.Option.{option_map, option_and_then}
use Rattle.std.specs.Str.{bytes_eq}
use Rattle.std.proofs.lemmas.Bool.{cases_eq}
use Rattle.sim_syntax.specs.declared.statement.IxAtom.{IxAtom}
use Rattle.chain_forms.specs.declared.chain.Link.{Link}
use Rattle.chain_forms.specs.Atoms.{Name, indices_at, is_among, one_if, atoms_with}
use Rattle.chain_forms.specs.ChainForm.{link, Beside, Leads, IsSimple, IsSummed, times_in}
use Rattle.chain_forms.specs.Following.{followed, onward, link_at, leaving, other_with, is_end}
use Rattle.chain_laws.proofs.Names.{same_name, other_name, first_among, later_among}
use Rattle.chain_laws.proofs.Leading.{as_list}
use Rattle.chain_laws.proofs.Counts.{Has, one_with, the_other}
use Rattle.chain_laws.proofs.Times.{times_more, times_none, here}

-- ---- as many links as there are positions at most

abbrev without : ℕ → List Link → List Link
without p links = filter (λ l. not (l.factor == p)) links

parted : (p : ℕ) (links : List Link) → length links ≡ length (without p links) + times_in p links
parted p [] = let none = times_none p in omega arith
parted p (l ∷ links) = let rest = parted p links in let more = times_more p l links in by_test (l.factor == p) rest more
  where
    by_test : (b : Bool) → length links ≡ length (without p links) + times_in p links → times_in p (l ∷ links) ≡ one_if b + times_in p links
        → suc (length links) ≡ length (cond (not b) (l ∷ without p links) (without p links)) + times_in p (l ∷ links)
    by_test true rest more = omega arith
    by_test false rest more = omega arith

fewer : (p q : ℕ) (links : List Link) → times_in q (without p links) ≤ times_in q links
fewer p q [] = omega arith
fewer p q (l ∷ links) = by_test (l.factor == p) (fewer p q links) (times_more q l links) (times_more q l (without p links))
  where
    by_test : (b : Bool) → times_in q (without p links) ≤ times_in q links → times_in q (l ∷ links) ≡ one_if (l.factor == q) + times_in q links
        → times_in q (l ∷ without p links) ≡ one_if (l.factor == q) + times_in q (without p links)
        → times_in q (cond (not b) (l ∷ without p links) (without p links)) ≤ times_in q (l ∷ links)
    by_test true rest more less = omega arith
    by_test false rest more less = omega arith

gone : (p : ℕ) (links : List Link) → times_in p (without p links) ≡ 0
gone p [] = times_none p
gone p (l ∷ links) = by_test (l.factor == p) refl (gone p links) (times_more p l (without p links))
  where
    by_test : (b : Bool) → (l.factor == p) ≡ b → times_in p (without p links) ≡ 0 → times_in p (l ∷ without p links) ≡ one_if (l.factor == p) + times_in p (without p links)
        → times_in p (cond (not b) (l ∷ without p links) (without p links)) ≡ 0
    by_test true is rest more = rest
    by_test false is rest more = let none : one_if (l.factor == p) ≡ 0 = ap one_if is in omega arith

pub fits : (n : ℕ) (links : List Link) → ((p : ℕ) → times_in p links ≤ 1) → ((p : ℕ) → n ≤ p → times_in p links ≡ 0) → length links ≤ n
fits zero [] once none = omega arith
fits zero (l ∷ links) once none = let one = here l.factor l links refl in let no' = none l.factor (omega arith) in absurd (omega arith)
fits (suc n) links once none =
    let split = parted n links in
    let one = once n in
    let rest = fits n (without n links) (λ p. let less = fewer n p links in let o = once p in omega arith) (λ p from. no_more p from) in
    omega arith
  where
    no_more : (p : ℕ) → n ≤ p → times_in p (without n links) ≡ 0
    no_more p from = elim (cases_eq n p) [
      | inl same ↦ subst (λ q. times_in q (without n links) ≡ 0) same (gone n links)
      | inr differ ↦ let less = fewer n p links in let no' = none p (omega (arith, differ)) in omega arith
    ]

-- ---- links

abbrev pub head_factor : List Link → ℕ
head_factor [] = 0
head_factor (l ∷ rest) = l.factor

pub has_entry : (atoms : List IxAtom) (l : Link) (i : Name) (out : List Name) → Beside atoms l i out → Has i atoms l.factor
has_entry atoms l i out (Beside.vector p j are) = ap (is_among j) are ∙ first_among j []
has_entry atoms l i out (Beside.straight p j k are) = ap (is_among j) are ∙ first_among j (k ∷ [])
has_entry atoms l i out (Beside.against p j k are) = ap (is_among j) are ∙ later_among j k (j ∷ []) (first_among j [])

pub has_exit : (atoms : List IxAtom) (l : Link) (i j : Name) → Beside atoms l i (j ∷ []) → Has j atoms l.factor
has_exit atoms l i j (Beside.straight p a b are) = ap (is_among b) are ∙ later_among b a (b ∷ []) (first_among b [])
has_exit atoms l i j (Beside.against p a b are) = ap (is_among b) are ∙ first_among b (a ∷ [])

matrix_differ : (i j : Name) → IsSimple (i ∷ j ∷ []) → i ≡ j → ⊥
matrix_differ i j (IsSimple.matrix a b differ) = differ

abbrev first : List Name → Option Name
first [] = None
first (i ∷ rest) = Some i

link_found : (atoms : List IxAtom) (l : Link) (i : Name) (out : List Name) → Beside atoms l i out → IsSimple (indices_at atoms l.factor)
    → (link_at i l.factor (indices_at atoms l.factor) ≡ Some l) × (leaving l (indices_at atoms l.factor) ≡ first out)
link_found atoms l i out (Beside.vector p j are) simple =
    (ap (link_at j p) are ∙ ap (λ b. if b then Some (link p false) else None) (same_name j j refl), ap (leaving (link p false)) are)
link_found atoms l i out (Beside.straight p j k are) simple = (
  ap (link_at j p) are ∙ ap (λ b. if b then Some (link p false) else if bytes_eq j k then Some (link p true) else None) (same_name j j refl),
  ap (leaving (link p false)) are,
)
link_found atoms l i out (Beside.against p j k are) simple =
    let differ = matrix_differ k j (subst IsSimple are simple) in (
      ap (link_at j p) are
          ∙ ap (λ b. if b then Some (link p false) else if bytes_eq j j then Some (link p true) else None) (other_name j k (λ same. differ (sym same)))
          ∙ ap (λ b. if b then Some (link p true) else None) (same_name j j refl),
      ap (leaving (link p true)) are,
    )

entering : (atoms : List IxAtom) (free end : List Name) (i : Name) (links : List Link) → Leads atoms free end i links → Has i atoms (head_factor links)
entering atoms free end i links (Leads.last l j beside) = has_entry atoms l j end beside
entering atoms free end i links (Leads.further l rest j k beside summed others) = has_entry atoms l j (k ∷ []) beside

head_stands : (atoms : List IxAtom) (free end : List Name) (i : Name) (links : List Link) → Leads atoms free end i links → 1 ≤ times_in (head_factor links) links
head_stands atoms free end i links (Leads.last l j beside) = here l.factor l [] refl
head_stands atoms free end i links (Leads.further l rest j k beside summed others) = here l.factor l rest refl

first_end : (end : Option Name) → first (as_list end) ≡ end
first_end None = refl
first_end (Some j) = refl

on_end : (free : List Name) (end : Option Name) (atoms : List IxAtom) (from_there : ℕ → Name → Option (List Link)) (l : Link)
    → onward free end atoms from_there l end ≡ Some (l ∷ [])
on_end free None atoms from_there l = refl
on_end free (Some j) atoms from_there l = ap (λ b. if b then Some (l ∷ []) else if is_among j free then None
    else option_map (λ rest. l ∷ rest) (option_and_then (λ next. from_there next j) (other_with j l.factor 0 atoms))) (same_name j j refl)

by_tests : (free : List Name) (end : Option Name) (atoms : List IxAtom) (from_there : ℕ → Name → Option (List Link)) (l : Link) (j : Name)
    → is_end end j ≡ false → is_among j free ≡ false
    → onward free end atoms from_there l (Some j) ≡ option_map (λ rest. l ∷ rest) (option_and_then (λ next. from_there next j) (other_with j l.factor 0 atoms))
by_tests free None atoms from_there l j not_end summed =
    ap (λ b. if b then None else option_map (λ rest. l ∷ rest) (option_and_then (λ next. from_there next j) (other_with j l.factor 0 atoms))) summed
by_tests free (Some k) atoms from_there l j not_end summed =
    ap (λ b. if b then Some (l ∷ []) else if is_among j free then None
    else option_map (λ rest. l ∷ rest) (option_and_then (λ next. from_there next j) (other_with j l.factor 0 atoms))) not_end
    ∙ ap (λ b. if b then None else option_map (λ rest. l ∷ rest) (option_and_then (λ next. from_there next j) (other_with j l.factor 0 atoms))) summed

not_the_end : (free : List Name) (end : Option Name) (j : Name) → ((k : Name) → end ≡ Some k → is_among k free ≡ true) → is_among j free ≡ false → is_end end j ≡ false
not_the_end free None j end_free summed = refl
not_the_end free (Some k) j end_free summed =
    other_name j k (λ same. not_both (is_among j free) (ap (λ n. is_among n free) same ∙ end_free k refl) summed)
  where
    not_both : (b : Bool) → b ≡ true → b ≡ false → ⊥
    not_both true is not_is = cc not_is
    not_both false is not_is = cc is

pub two_of : (atoms : List IxAtom) (i : Name) (p : ℕ) → ((atoms_with i atoms ≡ 0) ⊎ (atoms_with i atoms ≡ 2)) → Has i atoms p → atoms_with i atoms ≡ 2
two_of atoms i p (inl none) has = let one = one_with i atoms p has in absurd (omega (arith, none))
two_of atoms i p (inr two) has = two

pub complete : (atoms : List IxAtom) (free : List Name) (end : Option Name)
    → ((p : ℕ) → IsSimple (indices_at atoms p)) → ((i : Name) → IsSummed free i → (atoms_with i atoms ≡ 0) ⊎ (atoms_with i atoms ≡ 2))
    → ((k : Name) → end ≡ Some k → is_among k free ≡ true)
    → (i : Name) (links : List Link) → Leads atoms free (as_list end) i links → ((p : ℕ) → times_in p links ≤ 1)
    → (most : ℕ) → length links ≤ most → followed free end atoms most (head_factor links) i ≡ Some links
unfolding followed
complete atoms free end simple twice end_free i links (Leads.last l j beside) once zero enough = absurd (omega arith)
complete atoms free end simple twice end_free i links (Leads.last l j beside) once (suc most) enough =
    let found = link_found atoms l j (as_list end) beside (simple l.factor) in
    ap (option_and_then (λ k. onward free end atoms (followed free end atoms most) k (leaving k (indices_at atoms l.factor)))) found.0
    ∙ ap (onward free end atoms (followed free end atoms most) l) (found.1 ∙ first_end end)
    ∙ on_end free end atoms (followed free end atoms most) l
complete atoms free end simple twice end_free i links (Leads.further l rest j k beside summed others) once zero enough = absurd (omega arith)
complete atoms free end simple twice end_free i links (Leads.further l rest j k beside summed others) once (suc most) enough =
    let found = link_found atoms l j (k ∷ []) beside (simple l.factor) in
    let exit = has_exit atoms l j k beside in
    let next = entering atoms free (as_list end) k rest others in
    let differ : l.factor ≡ head_factor rest → ⊥ = λ same.
    let more = times_more l.factor l rest in
    let alone = here l.factor l [] refl in
    let one = times_more l.factor l [] in
    let nothing = times_none l.factor in
    let o = once l.factor in
    let head : 1 ≤ times_in l.factor rest = subst (λ q. 1 ≤ times_in q rest) (sym same) (head_stands atoms free (as_list end) k rest others) in
    absurd (omega arith) in
    let other = the_other k atoms l.factor (head_factor rest) (two_of atoms k l.factor (twice k summed) exit) differ exit next in
    ap (option_and_then (λ m. onward free end atoms (followed free end atoms most) m (leaving m (indices_at atoms l.factor)))) found.0
    ∙ ap (onward free end atoms (followed free end atoms most) l) found.1
    ∙ by_tests free end atoms (followed free end atoms most) l k (not_the_end free end k end_free summed) summed
    ∙ ap (λ o. option_map (λ rest. l ∷ rest) (option_and_then (λ next. followed free end atoms most next k) o)) other
    ∙ ap (option_map (λ rest. l ∷ rest))
    (complete atoms free end simple twice end_free k rest others (λ p. let more = times_more p l rest in let o = once p in omega arith) most (omega arith))
