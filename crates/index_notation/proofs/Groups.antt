-- Groups in the order of their first factors.
use Rattle.std.proofs.Common.{◌≡◌, ℕ, ◌+◌, ◌<◌, ◌≤◌, true, false, List, [], ◌∷◌, ◌++◌, length, drop, take, get_or, Option, Some, None, sym, ap, ◌∙◌, arith}
use Rattle.std.specs.Prelude.{if◌then◌else◌, nat_lt}
use Rattle.std.proofs.lemmas.List.{drop_all, take_all, take_more, append_assoc}
use Rattle.std.specs.Option.{option_and_then}
use Rattle.sim_syntax.specs.declared.statement.IxAtom.{IxAtom}
use Rattle.chain_forms.specs.declared.chain.Link.{Link}
use Rattle.chain_forms.specs.ChainForm.{first_of}
use Rattle.chain_forms.specs.Atoms.{Name, indices_of, is_among}
use Rattle.chain_forms.specs.Following.{with_group, groups_from, followed}
use Rattle.index_notation.proofs.Scans.{from_item}

-- the groups before a place, and then another one among the rest
abbrev pub passing : List Link → List (List Link) → ℕ → List (List Link)
passing group groups k = take k groups ++ with_group group (drop k groups)

step : (group : List Link) (groups : List (List Link)) (k : ℕ) (g : List Link) → k < length groups → g ≡ get_or groups k g
    → with_group group (drop k groups)
    ≡ (if nat_lt (first_of group) (first_of g) then group ∷ g ∷ drop (k + 1) groups else g ∷ with_group group (drop (k + 1) groups))
unfolding with_group
step group groups k g below here = ap (with_group group) (from_item groups k g below here)

pub placed : (group : List Link) (groups : List (List Link)) (k : ℕ) (g : List Link) (known : List (List Link)) → k < length groups → g ≡ get_or groups k g
    → nat_lt (first_of group) (first_of g) ≡ true → known ≡ passing group groups k → known ≡ take k groups ++ group ∷ drop k groups
placed group groups k g known below here less so_far =
    so_far ∙ ap (λ rest. take k groups ++ rest)
    (step group groups k g below here ∙ ap (λ b. if b then group ∷ g ∷ drop (k + 1) groups else g ∷ with_group group (drop (k + 1) groups)) less
    ∙ ap (λ rest. group ∷ rest) (sym (from_item groups k g below here)))

pub passed : (group : List Link) (groups : List (List Link)) (k : ℕ) (g : List Link) (known : List (List Link)) → k < length groups → g ≡ get_or groups k g
    → nat_lt (first_of group) (first_of g) ≡ false → known ≡ passing group groups k → known ≡ passing group groups (k + 1)
passed group groups k g known below here not_less so_far =
    so_far ∙ ap (λ rest. take k groups ++ rest)
    (step group groups k g below here ∙ ap (λ b. if b then group ∷ g ∷ drop (k + 1) groups else g ∷ with_group group (drop (k + 1) groups)) not_less)
    ∙ sym (append_assoc (take k groups) (g ∷ []) (with_group group (drop (k + 1) groups)))
    ∙ ap (λ front. front ++ with_group group (drop (k + 1) groups)) (ap (λ x. take k groups ++ x ∷ []) here ∙ sym (take_more groups k g below))

pub last : (group : List Link) (groups : List (List Link)) (k : ℕ) (known : List (List Link)) → length groups ≤ k → known ≡ passing group groups k
    → known ≡ take (length groups) groups ++ group ∷ drop (length groups) groups
unfolding with_group
last group groups k known past so_far =
    so_far ∙ ap (λ rest. take k groups ++ with_group group rest) (drop_all k groups past)
    ∙ ap (λ front. front ++ group ∷ []) (take_all k groups past ∙ sym (take_all (length groups) groups (let same : length groups ≤ length groups = omega arith in same)))
    ∙ ap (λ rest. take (length groups) groups ++ group ∷ rest) (sym (drop_all (length groups) groups (let same : length groups ≤ length groups = omega arith in same)))

-- ---- the groups that begin with the atoms from a position on

begun_from : (i : Name) (all : List IxAtom) (k : ℕ) (x : IxAtom) (groups : List (List Link)) → k < length all → x ≡ get_or all k x
    → groups_from i all k (drop k all) groups
    ≡ (if is_among i (indices_of x)
    then option_and_then (λ group. groups_from i all (k + 1) (drop (k + 1) all) (with_group group groups)) (followed (i ∷ []) None all (length all) k i)
    else groups_from i all (k + 1) (drop (k + 1) all) groups)
unfolding groups_from
begun_from i all k x groups below here = ap (λ atoms. groups_from i all k atoms groups) (from_item all k x below here)

pub skipped : (i : Name) (all : List IxAtom) (k : ℕ) (x : IxAtom) (groups : List (List Link)) (known : Option (List (List Link))) → k < length all → x ≡ get_or all k x
    → is_among i (indices_of x) ≡ false
    → groups_from i all k (drop k all) groups ≡ known → groups_from i all (k + 1) (drop (k + 1) all) groups ≡ known
skipped i all k x groups known below here other so_far =
    sym (begun_from i all k x groups below here
    ∙ ap (λ b. if b
    then option_and_then (λ group. groups_from i all (k + 1) (drop (k + 1) all) (with_group group groups)) (followed (i ∷ []) None all (length all) k i)
    else groups_from i all (k + 1) (drop (k + 1) all) groups) other) ∙ so_far

begins : (i : Name) (all : List IxAtom) (k : ℕ) (x : IxAtom) (groups : List (List Link)) (free : List Name) (group : Option (List Link)) → k < length all → x ≡ get_or all k x
    → is_among i (indices_of x) ≡ true → free ≡ i ∷ [] → group ≡ followed free None all (length all) k i
    → groups_from i all k (drop k all) groups
    ≡ option_and_then (λ group. groups_from i all (k + 1) (drop (k + 1) all) (with_group group groups)) group
begins i all k x groups free group below here among is found =
    begun_from i all k x groups below here
    ∙ ap (λ b. if b
    then option_and_then (λ group. groups_from i all (k + 1) (drop (k + 1) all) (with_group group groups)) (followed (i ∷ []) None all (length all) k i)
    else groups_from i all (k + 1) (drop (k + 1) all) groups) among
    ∙ ap (option_and_then (λ group. groups_from i all (k + 1) (drop (k + 1) all) (with_group group groups)))
    (ap (λ f. followed f None all (length all) k i) (sym is) ∙ sym found)

pub taken : (i : Name) (all : List IxAtom) (k : ℕ) (x : IxAtom) (groups next : List (List Link)) (free : List Name) (group : List Link) (known : Option (List (List Link)))
    → k < length all → x ≡ get_or all k x
    → is_among i (indices_of x) ≡ true → free ≡ i ∷ [] → Some group ≡ followed free None all (length all) k i → next ≡ with_group group groups
    → groups_from i all k (drop k all) groups ≡ known → groups_from i all (k + 1) (drop (k + 1) all) next ≡ known
taken i all k x groups next free group known below here among is found has so_far =
    ap (groups_from i all (k + 1) (drop (k + 1) all)) has ∙ sym (begins i all k x groups free (Some group) below here among is found) ∙ so_far

pub missing : (i : Name) (all : List IxAtom) (k : ℕ) (x : IxAtom) (groups : List (List Link)) (free : List Name) (known : Option (List (List Link)))
    → k < length all → x ≡ get_or all k x
    → is_among i (indices_of x) ≡ true → free ≡ i ∷ [] → None ≡ followed free None all (length all) k i
    → groups_from i all k (drop k all) groups ≡ known → None ≡ known
missing i all k x groups free known below here among is found so_far =
    sym (begins i all k x groups free None below here among is found) ∙ so_far

pub ended : (i : Name) (all : List IxAtom) (k : ℕ) (groups : List (List Link)) (known : Option (List (List Link))) → length all ≤ k
    → groups_from i all k (drop k all) groups ≡ known → Some groups ≡ known
unfolding groups_from
ended i all k groups known past so_far = sym (ap (λ atoms. groups_from i all k atoms groups) (drop_all k all past)) ∙ so_far
