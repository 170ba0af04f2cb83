-- Where the definition gives no ordering there is none: one in another order could be put into that of the text.
use Rattle.std.proofs.Common.{◌≡◌, ℕ, ◌+◌, ◌<◌, ◌≤◌, false, List, [], ◌∷◌, Some, None, refl, sym, ap, ◌∙◌, subst, arith, inl, inr}
use Rattle.std.specs.Prelude.{not, nat_lt}
use Rattle.std.proofs.lemmas.Bool.{cases_eq, cases_lt}
use Rattle.sim_syntax.specs.declared.statement.IxAtom.{IxAtom}
use Rattle.chain_forms.specs.declared.chain.Chain.{Chain}
use Rattle.chain_forms.specs.declared.chain.Chain.TheVariants as chain
use Rattle.chain_forms.specs.declared.chain.Link.{Link}
use Rattle.chain_forms.specs.Atoms.{Name, indices_at, is_factor, one_if}
use Rattle.chain_forms.specs.ChainForm.{link, Beside, Leads, AllLead, Ordered, links_of, times_in, first_of, last_of, IsChain, InTextOrder}
use Rattle.chain_forms.specs.Following.{with_group}
use Rattle.chain_laws.specs.Laws.{IsRefused}
use Rattle.chain_laws.proofs.Names.{true_or_false}
use Rattle.chain_laws.proofs.Ends.{once, Times}
use Rattle.chain_laws.proofs.Only.{only}
use Rattle.chain_laws.proofs.Sorting.{Sorted, sorted_put, leads_put, ascending, put_before, put_after, put_alone, all_links, times_of}
use Rattle.chain_laws.proofs.Sound.{not_empty}
use Rattle.chain_laws.proofs.Times.{times_more, times_none, here, last_stands}

-- ---- groups in the order of their first factors

sorted : List (List Link) → List (List Link)
sorted [] = []
sorted (g ∷ gs) = with_group g (sorted gs)

times_put : (p : ℕ) (group : List Link) (gs : List (List Link)) → times_in p (all_links (with_group group gs)) ≡ times_in p group + times_in p (all_links gs)
times_put p group [] = ap (λ l. times_in p (all_links l)) (put_alone group) ∙ times_of p group []
times_put p group (g ∷ gs) = elim (true_or_false (nat_lt (first_of group) (first_of g))) [
  | inl less ↦ ap (λ l. times_in p (all_links l)) (put_before group g gs less) ∙ times_of p group (g ∷ gs)
  | inr after ↦
      let rest = times_put p group gs in let one = times_of p g (with_group group gs) in let two = times_of p g gs in
      ap (λ l. times_in p (all_links l)) (put_after group g gs after) ∙ omega arith
]

times_sorted : (p : ℕ) (gs : List (List Link)) → times_in p (all_links (sorted gs)) ≡ times_in p (all_links gs)
unfolding sorted
times_sorted p [] = refl
times_sorted p (g ∷ gs) =
    let put = times_put p g (sorted gs) in let rest = times_sorted p gs in let one = times_of p g gs in omega arith

is_sorted : (gs : List (List Link)) → Sorted (sorted gs)
unfolding sorted
is_sorted [] = Sorted.none
is_sorted (g ∷ gs) = sorted_put g (sorted gs) (is_sorted gs)

leads_sorted : (atoms : List IxAtom) (free : List Name) (i : Name) (gs : List (List Link)) → AllLead atoms free i gs → AllLead atoms free i (sorted gs)
unfolding sorted
leads_sorted atoms free i [] AllLead.none = AllLead.none
leads_sorted atoms free i (g ∷ gs) (AllLead.one_more a b lead others) = leads_put atoms free i g (sorted gs) lead (leads_sorted atoms free i gs others)

some_put : (group : List Link) (gs : List (List Link)) → (g : List Link) × (others : List (List Link)) × (with_group group gs ≡ g ∷ others)
some_put group [] = (group, [], put_alone group)
some_put group (g ∷ gs) = elim (true_or_false (nat_lt (first_of group) (first_of g))) [
  | inl less ↦ (group, g ∷ gs, put_before group g gs less)
  | inr after ↦ (g, with_group group gs, put_after group g gs after)
]

-- ---- chains in the other direction

abbrev turned : Link → Link
turned l = link l.factor (not l.against)

turn_beside : (atoms : List IxAtom) (l : Link) (i j : Name) → Beside atoms l i (j ∷ []) → Beside atoms (turned l) j (i ∷ [])
turn_beside atoms l i j (Beside.straight p a b are) = Beside.against p b a are
turn_beside atoms l i j (Beside.against p a b are) = Beside.straight p b a are

abbrev Turned : List IxAtom → ℕ → List Link → List Link → Type 0
Turned atoms end links behind =
    (p : ℕ) × (i : Name) × (rest : List Link)
    × (indices_at atoms p ≡ i ∷ []) × Leads atoms [] [] i rest × (last_of (link p false) rest ≡ end) × (p ≡ last_of (link 0 false) links)
    × ((q : ℕ) → times_in q (link p false ∷ rest) ≡ times_in q links + times_in q behind)

last_more : (l k : Link) (rest : List Link) (atoms : List IxAtom) (i : Name) → Leads atoms [] [] i rest → last_of l rest ≡ last_of k rest
last_more l k rest atoms i lead =
    let some = not_empty atoms [] [] i rest lead in
    subst (λ r. last_of l r ≡ last_of k r) (sym some.2) refl

turn : (atoms : List IxAtom) (end : ℕ) (i : Name) (links behind : List Link) → Leads atoms [] [] i links → Leads atoms [] [] i behind
    → last_of (link 0 false) behind ≡ end → Turned atoms end links behind
turn atoms end i links behind (Leads.last l j (Beside.vector p k are)) back is = (
  p,
  k,
  behind,
  are,
  back,
  last_more (link p false) (link 0 false) behind atoms k back ∙ is,
  refl,
  λ q. let more = times_more q (link p false) behind in let one = times_more q (link p false) [] in let none = times_none q in omega arith,
)
turn atoms end i links behind (Leads.further l rest j k beside summed others) back is =
    let t = turn atoms end k rest (turned l ∷ behind) others (Leads.further (turned l) behind k j (turn_beside atoms l j k beside) refl back)
    (last_more (turned l) (link 0 false) behind atoms j back ∙ is) in (
      t.0,
      t.1,
      t.2,
      t.3,
      t.4,
      t.5,
      t.6 ∙ last_more (link 0 false) l rest atoms k others,
      λ q. let was = t.7 q in let more = times_more q l rest in let other = times_more q (turned l) behind in omega arith,
    )

-- ---- each ordering, put into the order of the text

abbrev Canonical : List IxAtom → List Name → Type 0
Canonical atoms free = (c : Chain) × (IsChain atoms free c × InTextOrder c)

with_order : (atoms : List IxAtom) (free : List Name) (c d : Chain) → IsChain atoms free c → Ordered atoms free d → Times atoms (links_of d) → IsChain atoms free d
with_order atoms free c d is ordered times = record { simple = is.simple; twice = is.twice; all = times; ordered = ordered }

turned_round : (atoms : List IxAtom) (p : ℕ) (j : Name) (rest : List Link) → IsChain atoms [] (chain.Between (link p false) rest) → indices_at atoms p ≡ j ∷ []
    → Leads atoms [] [] j rest → last_of (link p false) rest < p → Canonical atoms []
turned_round atoms p j rest is are lead before =
    let t = turn atoms p j rest (link p false ∷ []) lead (Leads.last (link p false) j (Beside.vector p j are)) refl in
    let c : Chain = chain.Between (link t.0 false) t.2 in
    let ordered : Ordered atoms [] c = Ordered.between_vectors (link t.0 false) t.2 t.1 (Beside.vector t.0 t.1 t.3) t.4 in
    let times : Times atoms (links_of c) = λ q.
    let was = t.7 q in let more = times_more q (link p false) rest in let one = times_more q (link p false) [] in let none = times_none q in
    let all : times_in q (link p false ∷ rest) ≡ one_if (is_factor (indices_at atoms q)) = is.all q in
    let same : times_in q (link t.0 false ∷ t.2) ≡ times_in q (link p false ∷ rest) = omega arith in
    same ∙ all in
    let first : t.0 ≡ last_of (link p false) rest = t.6 ∙ last_more (link 0 false) (link p false) rest atoms j lead in
    let end : last_of (link t.0 false) t.2 ≡ p = t.5 in
    let less : t.0 < last_of (link t.0 false) t.2 = omega (arith, first, end, before) in
    (c, (with_order atoms [] (chain.Between (link p false) rest) c is ordered times, less))

not_twice : (atoms : List IxAtom) (p : ℕ) (j : Name) (rest : List Link) → IsChain atoms [] (chain.Between (link p false) rest) → Leads atoms [] [] j rest
    → p ≡ last_of (link p false) rest → ⊥
not_twice atoms p j rest is lead same =
    let some = not_empty atoms [] [] j rest lead in
    let end : 1 ≤ times_in (last_of (link p false) rest) rest =
    subst (λ r. 1 ≤ times_in (last_of (link p false) r) r) (sym some.2) (last_stands some.0 some.1) in
    let here_too : 1 ≤ times_in p rest = subst (λ q. 1 ≤ times_in q rest) (sym same) end in
    let more = times_more p (link p false) rest in
    let alone = here p (link p false) [] refl in
    let one = times_more p (link p false) [] in
    let none = times_none p in
    let o = once atoms (link p false ∷ rest) is.all p in
    omega arith

grouped : (atoms : List IxAtom) (i : Name) (group : List Link) (others : List (List Link)) → IsChain atoms (i ∷ []) (chain.Groups (group ∷ others))
    → AllLead atoms (i ∷ []) i (group ∷ others) → Canonical atoms (i ∷ [])
unfolding sorted
grouped atoms i group others is lead =
    let some = some_put group (sorted others) in
    let times : Times atoms (all_links (sorted (group ∷ others))) = λ p. times_sorted p (group ∷ others) ∙ is.all p in
    let leads = leads_sorted atoms (i ∷ []) i (group ∷ others) lead in
    let order = ascending atoms (i ∷ []) i (sorted (group ∷ others)) (is_sorted (group ∷ others)) leads (once atoms (all_links (sorted (group ∷ others))) times) in (
      chain.Groups (some.0 ∷ some.1),
      (
        with_order atoms (i ∷ []) (chain.Groups (group ∷ others)) (chain.Groups (some.0 ∷ some.1)) is
            (Ordered.in_groups i some.0 some.1 (subst (AllLead atoms (i ∷ []) i) some.2 leads))
            (subst (λ gs. Times atoms (all_links gs)) some.2 times),
        subst (λ gs. InTextOrder (chain.Groups gs)) some.2 order,
      ),
    )

canonical : (atoms : List IxAtom) (free : List Name) (c : Chain) → IsChain atoms free c → Ordered atoms free c → Canonical atoms free
canonical atoms free c is Ordered.no_factors = (chain.Empty, (is, tt))
canonical atoms free c is (Ordered.between_vectors first rest i (Beside.vector p j are) lead) = elim (cases_lt p (last_of (link p false) rest)) [
  | inl less ↦ (chain.Between (link p false) rest, (is, less))
  | inr past ↦ elim (cases_eq p (last_of (link p false) rest)) [
    | inl same ↦ absurd (not_twice atoms p j rest is lead same)
    | inr other ↦ turned_round atoms p j rest is are lead (omega (arith, past, other))
  ]
]
canonical atoms free c is (Ordered.in_groups i group others lead) = grouped atoms i group others is lead
canonical atoms free c is (Ordered.between_indices i j links differ lead) = (chain.Matrices links, (is, tt))

pub refused : IsRefused
refused free atoms c none is =
    let order = canonical atoms free c is is.ordered in
    let there : None ≡ Some order.0 = sym none ∙ only free atoms order.0 order.1.0 order.1.1 in
    cc there
