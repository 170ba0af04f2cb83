-- Groups that are put in the order of their first factors.
use Rattle.std.proofs.Common.{◌≡◌, ℕ, ◌+◌, ◌<◌, ◌≤◌, Bool, true, false, List, [], ◌∷◌, map, refl, sym, ap, ◌∙◌, subst, arith, inl, inr}
use Rattle.std.specs.Prelude.{if◌then◌else◌, nat_lt, ◌⊎◌}
use Rattle.std.proofs.lemmas.Bool.{cases_eq, cases_lt}
use Rattle.std.specs.List.{flat_map}
use Rattle.std.proofs.lemmas.Bool.Decides.{Decides-ltb}
use Rattle.std.proofs.lemmas.List.Concat.{flat_map-cons}
use Rattle.sim_syntax.specs.declared.statement.IxAtom.{IxAtom}
use Rattle.chain_forms.specs.declared.chain.Link.{Link}
use Rattle.chain_forms.specs.Atoms.{Name}
use Rattle.chain_forms.specs.ChainForm.{Leads, AllLead, times_in, first_of, Ascending}
use Rattle.chain_forms.specs.Following.{with_group}
use Rattle.chain_laws.proofs.Names.{true_or_false}
use Rattle.chain_laws.proofs.Sound.{not_empty}
use Rattle.chain_laws.proofs.Times.{times_joined, first_stands}

-- no group has a first factor before a position
pub data Above (m : ℕ) : List (List Link) → Type 0 where
  none : Above m []
  one_more : (g : List Link) (gs : List (List Link)) → m ≤ first_of g → Above m gs → Above m (g ∷ gs)

pub data Sorted : List (List Link) → Type 0 where
  none : Sorted []
  one_more : (g : List Link) (gs : List (List Link)) → Above (first_of g) gs → Sorted gs → Sorted (g ∷ gs)

pub lower : (m n : ℕ) (gs : List (List Link)) → m ≤ n → Above n gs → Above m gs
lower m n [] le Above.none = Above.none
lower m n (g ∷ gs) le (Above.one_more h hs above others) = Above.one_more g gs (omega arith) (lower m n gs le others)

-- where a group is put: before another one, or after it
pub put_before : (group g : List Link) (gs : List (List Link)) → nat_lt (first_of group) (first_of g) ≡ true → with_group group (g ∷ gs) ≡ group ∷ g ∷ gs
unfolding with_group
put_before group g gs less = ap (λ b. if b then group ∷ g ∷ gs else g ∷ with_group group gs) less

pub put_after : (group g : List Link) (gs : List (List Link)) → nat_lt (first_of group) (first_of g) ≡ false → with_group group (g ∷ gs) ≡ g ∷ with_group group gs
unfolding with_group
put_after group g gs not_less = ap (λ b. if b then group ∷ g ∷ gs else g ∷ with_group group gs) not_less

pub put_alone : (group : List Link) → with_group group [] ≡ group ∷ []
unfolding with_group
put_alone group = refl

pub is_less : (m n : ℕ) → nat_lt m n ≡ true → m < n
is_less m n = (Decides-ltb m n).0

pub not_less : (m n : ℕ) → nat_lt m n ≡ false → n ≤ m
not_less m n is = elim (cases m n) [
  | inl less ↦ absurd (differ (nat_lt m n) ((Decides-ltb m n).1 less) is)
  | inr le ↦ le
]
  where
    differ : (b : Bool) → b ≡ true → b ≡ false → ⊥
    differ true is not_is = cc not_is
    differ false is not_is = cc is

    cases : (m n : ℕ) → (m < n) ⊎ (n ≤ m)
    cases m n = cases_lt m n

above_put : (m : ℕ) (group : List Link) (gs : List (List Link)) → m ≤ first_of group → Above m gs → Above m (with_group group gs)
above_put m group [] le Above.none = subst (Above m) (sym (put_alone group)) (Above.one_more group [] le Above.none)
above_put m group (g ∷ gs) le (Above.one_more h hs above others) = elim (true_or_false (nat_lt (first_of group) (first_of g))) [
  | inl less ↦ subst (Above m) (sym (put_before group g gs less)) (Above.one_more group (g ∷ gs) le (Above.one_more g gs above others))
  | inr not_less' ↦ subst (Above m) (sym (put_after group g gs not_less')) (Above.one_more g (with_group group gs) above (above_put m group gs le others))
]

pub sorted_put : (group : List Link) (gs : List (List Link)) → Sorted gs → Sorted (with_group group gs)
sorted_put group [] Sorted.none = subst Sorted (sym (put_alone group)) (Sorted.one_more group [] Above.none Sorted.none)
sorted_put group (g ∷ gs) (Sorted.one_more h hs above others) = elim (true_or_false (nat_lt (first_of group) (first_of g))) [
  | inl less ↦ subst Sorted (sym (put_before group g gs less))
      (Sorted.one_more group (g ∷ gs)
      (let below = is_less (first_of group) (first_of g) less in
      Above.one_more g gs (omega (arith, below)) (lower (first_of group) (first_of g) gs (omega (arith, below)) above))
      (Sorted.one_more g gs above others))
  | inr after ↦ subst Sorted (sym (put_after group g gs after))
      (Sorted.one_more g (with_group group gs) (above_put (first_of g) group gs (not_less (first_of group) (first_of g) after) above) (sorted_put group gs others))
]

pub leads_put : (atoms : List IxAtom) (free : List Name) (i : Name) (group : List Link) (gs : List (List Link)) → Leads atoms free [] i group → AllLead atoms free i gs
    → AllLead atoms free i (with_group group gs)
leads_put atoms free i group [] lead AllLead.none = subst (AllLead atoms free i) (sym (put_alone group)) (AllLead.one_more group [] lead AllLead.none)
leads_put atoms free i group (g ∷ gs) lead (AllLead.one_more h hs first others) = elim (true_or_false (nat_lt (first_of group) (first_of g))) [
  | inl less ↦ subst (AllLead atoms free i) (sym (put_before group g gs less)) (AllLead.one_more group (g ∷ gs) lead (AllLead.one_more g gs first others))
  | inr after ↦ subst (AllLead atoms free i) (sym (put_after group g gs after)) (AllLead.one_more g (with_group group gs) first (leads_put atoms free i group gs lead others))
]

-- ---- groups that share no factor

abbrev pub all_links : List (List Link) → List Link
all_links groups = flat_map (λ group. group) groups

pub times_of : (p : ℕ) (g : List Link) (gs : List (List Link)) → times_in p (all_links (g ∷ gs)) ≡ times_in p g + times_in p (all_links gs)
times_of p g gs = ap (times_in p) (flat_map-cons (λ group. group) g gs) ∙ times_joined p g (all_links gs)

pub begins : (atoms : List IxAtom) (free : List Name) (i : Name) (g : List Link) → Leads atoms free [] i g → 1 ≤ times_in (first_of g) g
begins atoms free i g lead =
    let some = not_empty atoms free [] i g lead in
    subst (λ l. 1 ≤ times_in (first_of l) l) (sym some.2) (first_stands some.0 some.1)

ascends : (m n : ℕ) (a b c : ℕ) → m ≤ n → (m ≡ n → 2 ≤ a + (b + c)) → a + (b + c) ≤ 1 → m < n
ascends m n a b c le twice once = elim (cases_eq m n) [
  | inl same ↦ let more = twice same in absurd (omega arith)
  | inr differ ↦ omega (arith, differ)
]

pub ascending : (atoms : List IxAtom) (free : List Name) (i : Name) (gs : List (List Link)) → Sorted gs → AllLead atoms free i gs
    → ((p : ℕ) → times_in p (all_links gs) ≤ 1) → Ascending (map first_of gs)
ascending atoms free i [] Sorted.none AllLead.none once = Ascending.none
ascending atoms free i (g ∷ []) (Sorted.one_more a as' above sorted) (AllLead.one_more b bs lead others) once = Ascending.one (first_of g)
ascending atoms free i (g ∷ h ∷ gs) (Sorted.one_more a as' (Above.one_more c cs le above) sorted) (AllLead.one_more b bs lead (AllLead.one_more d ds next others)) once =
    let f = first_of g in
    let joined = times_of f g (h ∷ gs) in
    let more = times_of f h gs in
    let at_most = once f in
    let first = begins atoms free i g lead in
    Ascending.one_more f (first_of h) (map first_of gs)
    (ascends f (first_of h) (times_in f g) (times_in f h) (times_in f (all_links gs)) le
    (λ same. let second : 1 ≤ times_in f h = subst (λ q. 1 ≤ times_in q h) (sym same) (begins atoms free i h next) in omega arith)
    (omega arith))
    (ascending atoms free i (h ∷ gs) sorted (AllLead.one_more h gs next others)
    (λ p. let j = times_of p g (h ∷ gs) in let o = once p in omega arith))
