-- What is found by following shared indices leads from the first factor to the end.
use Rattle.std.proofs.Common.{◌≡◌, ℕ, zero, suc, Bool, true, false, List, [], ◌∷◌, Option, Some, None, refl, sym, ap, ◌∙◌, subst}
use Rattle.std.specs.Prelude.{if◌then◌else◌}
use Rattle.std.specs.Option.{option_map, option_and_then}
use Rattle.std.specs.Str.{bytes_eq}
use Rattle.sim_syntax.specs.declared.statement.IxAtom.{IxAtom}
use Rattle.chain_forms.specs.declared.chain.Link.{Link}
use Rattle.chain_forms.specs.Atoms.{Name, indices_at, is_among}
use Rattle.chain_forms.specs.ChainForm.{link, Beside, Leads}
use Rattle.chain_forms.specs.Following.{followed, onward, link_at, leaving, other_with, is_end}
use Rattle.chain_laws.proofs.Names.{name_is, and_then_some, map_some, if_some, if_not_some, some_is}

-- the end as what the last factor has beside the index by which it is entered
abbrev pub as_list : Option Name → List Name
as_list None = []
as_list (Some i) = i ∷ []

second : (atoms : List IxAtom) (i : Name) (p : ℕ) (j k : Name) (l : Link) → indices_at atoms p ≡ j ∷ k ∷ [] → (first : Bool) → bytes_eq i j ≡ first
    → (if first then Some (link p false) else if bytes_eq i k then Some (link p true) else None) ≡ Some l
    → Beside atoms l i (as_list (leaving l (j ∷ k ∷ [])))
second atoms i p j k l are true is found =
    let same = name_is i j is in
    subst (λ m. Beside atoms m i (as_list (leaving m (j ∷ k ∷ [])))) (some_is (link p false) l found)
    (Beside.straight p i k (are ∙ ap (λ n. n ∷ k ∷ []) (sym same)))
second atoms i p j k l are false is found =
    let last = if_some (bytes_eq i k) (Some (link p true)) l found in
    let same = name_is i k last.0 in
    subst (λ m. Beside atoms m i (as_list (leaving m (j ∷ k ∷ [])))) (some_is (link p true) l last.1)
    (Beside.against p i j (are ∙ ap (λ n. j ∷ n ∷ []) (sym same)))

pub entered : (atoms : List IxAtom) (i : Name) (p : ℕ) (indices : List Name) (l : Link) → indices_at atoms p ≡ indices → link_at i p indices ≡ Some l
    → Beside atoms l i (as_list (leaving l indices))
entered atoms i p [] l are found = cc found
entered atoms i p (j ∷ []) l are found =
    let first = if_some (bytes_eq i j) (Some (link p false)) l found in
    let same = name_is i j first.0 in
    subst (λ m. Beside atoms m i []) (some_is (link p false) l first.1) (Beside.vector p i (are ∙ ap (λ n. n ∷ []) (sym same)))
entered atoms i p (j ∷ k ∷ []) l are found = second atoms i p j k l are (bytes_eq i j) refl found
entered atoms i p (j ∷ k ∷ m ∷ more) l are found = cc found

at_end : (atoms : List IxAtom) (free : List Name) (end : Option Name) (l : Link) (i k : Name) → Beside atoms l i (k ∷ []) → is_end end k ≡ true
    → Leads atoms free (as_list end) i (l ∷ [])
at_end atoms free None l i k beside is = cc is
at_end atoms free (Some j) l i k beside is = Leads.last l i (subst (λ n. Beside atoms l i (n ∷ [])) (name_is k j is) beside)

module _ (atoms : List IxAtom) (free : List Name) (end : Option Name) where
  abbrev from_other : (ℕ → Name → Option (List Link)) → Link → Name → Option (List Link)
  from_other from_there l k = option_map (λ rest. l ∷ rest) (option_and_then (λ next. from_there next k) (other_with k l.factor 0 atoms))

  past_end : (from_there : ℕ → Name → Option (List Link)) (l : Link) (i k : Name) (links : List Link)
      → ((q : ℕ) (j : Name) (rest : List Link) → from_there q j ≡ Some rest → Leads atoms free (as_list end) j rest)
      → Beside atoms l i (k ∷ []) → (if is_among k free then None else from_other from_there l k) ≡ Some links
      → Leads atoms free (as_list end) i links
  past_end from_there l i k links goes_on beside found =
      let summed = if_not_some (is_among k free) (from_other from_there l k) links found in
      let rest = map_some (option_and_then (λ next. from_there next k) (other_with k l.factor 0 atoms)) (λ rest. l ∷ rest) links summed.1 in
      let next = and_then_some (other_with k l.factor 0 atoms) (λ next. from_there next k) rest.0 rest.1.0 in
      subst (Leads atoms free (as_list end) i) rest.1.1 (Leads.further l rest.0 i k beside summed.0 (goes_on next.0 k rest.0 next.1.1))

  by_end : (from_there : ℕ → Name → Option (List Link)) (l : Link) (i k : Name) (links : List Link) (b : Bool)
      → ((q : ℕ) (j : Name) (rest : List Link) → from_there q j ≡ Some rest → Leads atoms free (as_list end) j rest)
      → Beside atoms l i (k ∷ []) → is_end end k ≡ b → (if b then Some (l ∷ []) else if is_among k free then None else from_other from_there l k) ≡ Some links
      → Leads atoms free (as_list end) i links
  by_end from_there l i k links true goes_on beside ends found =
      subst (Leads atoms free (as_list end) i) (some_is (l ∷ []) links found) (at_end atoms free end l i k beside ends)
  by_end from_there l i k links false goes_on beside ends found = past_end from_there l i k links goes_on beside found

onward_leads : (atoms : List IxAtom) (free : List Name) (end : Option Name) (from_there : ℕ → Name → Option (List Link)) (l : Link) (i : Name) (out : Option Name) (links : List Link)
    → ((q : ℕ) (j : Name) (rest : List Link) → from_there q j ≡ Some rest → Leads atoms free (as_list end) j rest)
    → Beside atoms l i (as_list out) → onward free end atoms from_there l out ≡ Some links
    → Leads atoms free (as_list end) i links
onward_leads atoms free None from_there l i None links goes_on beside found =
    subst (Leads atoms free [] i) (some_is (l ∷ []) links found) (Leads.last l i beside)
onward_leads atoms free (Some j) from_there l i None links goes_on beside found = cc found
onward_leads atoms free None from_there l i (Some k) links goes_on beside found = by_end atoms free None from_there l i k links false goes_on beside refl found
onward_leads atoms free (Some j) from_there l i (Some k) links goes_on beside found =
    by_end atoms free (Some j) from_there l i k links (bytes_eq k j) goes_on beside refl found

pub leads : (atoms : List IxAtom) (free : List Name) (end : Option Name) (most p : ℕ) (i : Name) (links : List Link)
    → followed free end atoms most p i ≡ Some links → Leads atoms free (as_list end) i links
unfolding followed
leads atoms free end zero p i links found = cc found
leads atoms free end (suc most) p i links found =
    let l = and_then_some (link_at i p (indices_at atoms p)) (λ l. onward free end atoms (followed free end atoms most) l (leaving l (indices_at atoms p))) links found in
    onward_leads atoms free end (followed free end atoms most) l.0 i (leaving l.0 (indices_at atoms p)) links
    (λ q j rest is. leads atoms free end most q j rest is) (entered atoms i p (indices_at atoms p) l.0 refl l.1.0) l.1.1
