-- With one free index: the groups there are, are those that are found.
use Rattle.std.proofs.Common.{◌≡◌, ℕ, suc, ◌+◌, ◌<◌, ◌≤◌, Bool, true, false, List, [], ◌∷◌, map, length, Some, None, refl, sym, ap, ◌∙◌, subst, arith, inl, inr}
use Rattle.std.specs.Prelude.{if◌then◌else◌, cond, nat_lt}
use Rattle.std.specs.List.{filter}
use Rattle.std.specs.Option.{option_and_then}
use Rattle.std.proofs.lemmas.Bool.{cases_eq, cases_lt}
use Rattle.std.proofs.lemmas.Bool.Decides.{Decides-ltb}
use Rattle.sim_syntax.specs.declared.statement.IxAtom.{IxAtom}
use Rattle.chain_forms.specs.declared.chain.Link.{Link}
use Rattle.chain_forms.specs.Atoms.{Name, indices_of, indices_at, is_among}
use Rattle.chain_forms.specs.ChainForm.{Leads, AllLead, IsSimple, times_in, first_of, Ascending}
use Rattle.chain_forms.specs.Following.{followed, with_group, groups_from}
use Rattle.chain_laws.proofs.Names.{true_or_false, not_true, first_among}
use Rattle.chain_laws.proofs.Counts.{Has}
use Rattle.chain_laws.proofs.Complete.{fits, head_factor, complete}
use Rattle.chain_laws.proofs.Ends.{Times, Twice, not_both, once, never_past, stands, within, only_head, enters, head_in}
use Rattle.chain_laws.proofs.Times.{times_none}
use Rattle.chain_laws.proofs.Sorting.{put_before, put_after, put_alone, is_less, all_links, times_of}

-- groups that begin before a position
abbrev begun : ℕ → List (List Link) → List (List Link)
begun k gs = filter (λ g. nat_lt (head_factor g) k) gs

less_is : (m n : ℕ) → m < n → nat_lt m n ≡ true
less_is m n = (Decides-ltb m n).1

not_less_is : (m n : ℕ) → n ≤ m → nat_lt m n ≡ false
not_less_is m n le = not_true (nat_lt m n) (λ is. let below = is_less m n is in absurd (omega arith))

begun_more : (k : ℕ) (g : List Link) (gs : List (List Link)) → head_factor g < k → begun k (g ∷ gs) ≡ g ∷ begun k gs
begun_more k g gs below = ap (λ b. cond b (g ∷ begun k gs) (begun k gs)) (less_is (head_factor g) k below)

begun_same : (k : ℕ) (g : List Link) (gs : List (List Link)) → k ≤ head_factor g → begun k (g ∷ gs) ≡ begun k gs
begun_same k g gs past = ap (λ b. cond b (g ∷ begun k gs) (begun k gs)) (not_less_is (head_factor g) k past)

-- all groups have their first factors after a position
data After (m : ℕ) : List (List Link) → Type 0 where
  no_group : After m []
  one_more : (g : List Link) (gs : List (List Link)) → m < first_of g → After m gs → After m (g ∷ gs)

after_later : (m n : ℕ) (gs : List (List Link)) → m < n → After n gs → After m gs
after_later m n [] less After.no_group = After.no_group
after_later m n (g ∷ gs) less (After.one_more h hs below others) = After.one_more g gs (omega arith) (after_later m n gs less others)

after_begun : (m k : ℕ) (gs : List (List Link)) → After m gs → After m (begun k gs)
after_begun m k [] After.no_group = After.no_group
after_begun m k (g ∷ gs) (After.one_more h hs below others) = by_test (nat_lt (head_factor g) k) (after_begun m k gs others)
  where
    by_test : (b : Bool) → After m (begun k gs) → After m (cond b (g ∷ begun k gs) (begun k gs))
    by_test true rest = After.one_more g (begun k gs) below rest
    by_test false rest = rest

ascending_rest : (m : ℕ) (rest : List ℕ) → Ascending (m ∷ rest) → Ascending rest
ascending_rest m [] (Ascending.one n) = Ascending.none
ascending_rest m (n ∷ rest) (Ascending.one_more a b c less others) = others

ascending_after : (g : List Link) (gs : List (List Link)) → Ascending (first_of g ∷ map first_of gs) → After (first_of g) gs
ascending_after g [] is = After.no_group
ascending_after g (h ∷ gs) (Ascending.one_more a b c less others) =
    After.one_more h gs less (after_later (first_of g) (first_of h) gs less (ascending_after h gs others))

put_first : (group : List Link) (gs : List (List Link)) → After (first_of group) gs → with_group group gs ≡ group ∷ gs
put_first group [] After.no_group = put_alone group
put_first group (g ∷ gs) (After.one_more h hs below others) = put_before group g gs (less_is (first_of group) (first_of g) below)

module _ (all : List IxAtom) (i : Name) where
  abbrev Lead : List Link → Type 0
  Lead g = Leads all (i ∷ []) [] i g

  abbrev All : List (List Link) → Type 0
  All gs = AllLead all (i ∷ []) i gs

  abbrev Apart : List (List Link) → Type 0
  Apart gs = (p : ℕ) → times_in p (all_links gs) ≤ 1

  head_of : (g : List Link) (p : ℕ) → Lead g → Has i all p → 1 ≤ times_in p g → p ≡ head_factor g
  head_of g p lead has some = only_head all (i ∷ []) [] i g p lead (first_among i []) refl has some

  -- a group that begins at a position stands where the position does
  head_elsewhere : (k : ℕ) (g : List Link) → Lead g → times_in k g ≡ 0 → head_factor g ≡ k → ⊥
  head_elsewhere k g lead none same =
      let some : 1 ≤ times_in k g = subst (λ q. 1 ≤ times_in q g) same (head_in all (i ∷ []) [] i g lead) in omega arith

  same_begun : (k : ℕ) (gs : List (List Link)) → All gs → times_in k (all_links gs) ≡ 0 → begun (k + 1) gs ≡ begun k gs
  same_begun k [] AllLead.none none = refl
  same_begun k (g ∷ gs) (AllLead.one_more a b lead others) none =
      let joined = times_of k g gs in
      let differ = head_elsewhere k g lead (omega arith) in
      let rest = same_begun k gs others (omega arith) in
      elim (cases_lt (head_factor g) k) [
        | inl below ↦ begun_more (k + 1) g gs (omega (arith, below)) ∙ ap (λ r. g ∷ r) rest ∙ sym (begun_more k g gs below)
        | inr past ↦ begun_same (k + 1) g gs (let apart : head_factor g ≡ k → ⊥ = differ in omega (arith, past, apart)) ∙ rest ∙ sym (begun_same k g gs past)
      ]

  begun_unless : (k : ℕ) (gs : List (List Link)) → All gs → (Has i all k → ⊥) → begun (k + 1) gs ≡ begun k gs
  begun_unless k [] AllLead.none has_not = refl
  begun_unless k (g ∷ gs) (AllLead.one_more a b lead others) has_not =
      let differ : head_factor g ≡ k → ⊥ = λ same. has_not (subst (Has i all) same (enters all (i ∷ []) [] i g lead)) in
      let rest = begun_unless k gs others has_not in
      elim (cases_lt (head_factor g) k) [
        | inl below ↦ begun_more (k + 1) g gs (omega (arith, below)) ∙ ap (λ r. g ∷ r) rest ∙ sym (begun_more k g gs below)
        | inr past ↦ begun_same (k + 1) g gs (omega (arith, past, differ)) ∙ rest ∙ sym (begun_same k g gs past)
      ]

  -- the group that begins at a position is put among those that begin before it
  abbrev Put : ℕ → List (List Link) → Type 0
  Put k gs = (g : List Link) × ((Lead g × (head_factor g ≡ k) × ((p : ℕ) → times_in p g ≤ times_in p (all_links gs)))
      × ((m : ℕ) → After m gs → m < first_of g) × (with_group g (begun k gs) ≡ begun (k + 1) gs))

  put : (k : ℕ) (gs : List (List Link)) → All gs → Ascending (map first_of gs) → Apart gs → Has i all k → 1 ≤ times_in k (all_links gs) → Put k gs
  put k [] AllLead.none is apart has some = absurd (no_links k some)
    where
      no_links : (p : ℕ) → 1 ≤ times_in p [] → ⊥
      no_links p some = let none = times_none p in omega arith
  put k (g ∷ gs) (AllLead.one_more a b lead others) is apart has some =
      let joined = times_of k g gs in
      let at_most = apart k in
      elim (cases_eq (times_in k (all_links gs)) 0) [
        | inl none ↦
            let same = head_of g k lead has (omega (arith, none)) in (
              g,
              (
                (lead, sym same, λ p. let j = times_of p g gs in omega arith),
                (λ m after. first_after m g gs after),
                ap (with_group g) (begun_same k g gs (omega (arith, same)))
                    ∙ put_first g (begun k gs) (after_begun (first_of g) k gs (ascending_after g gs is))
                    ∙ ap (λ r. g ∷ r) (sym (same_begun k gs others none))
                    ∙ sym (begun_more (k + 1) g gs (omega (arith, same))),
              ),
            )
        | inr more ↦
            let rest = put k gs others (ascending_rest (first_of g) (map first_of gs) is) (λ p. let j = times_of p g gs in let o = apart p in omega arith) has (omega (arith, more)) in
            let differ = head_elsewhere k g lead (omega (arith, more)) in
            let above = rest.1.1 (first_of g) (ascending_after g gs is) in (
              rest.0,
              (
                (rest.1.0.0, rest.1.0.1, λ p. let j = times_of p g gs in let r = rest.1.0.2 p in omega arith),
                (λ m after. rest.1.1 m (others_after m g gs after)),
                elim (cases_lt (head_factor g) k) [
                  | inl below ↦
                      ap (with_group rest.0) (begun_more k g gs below)
                      ∙ put_after rest.0 g (begun k gs) (not_less_is (first_of rest.0) (first_of g) (omega (arith, above)))
                      ∙ ap (λ r. g ∷ r) rest.1.2 ∙ sym (begun_more (k + 1) g gs (omega (arith, below)))
                  | inr past ↦
                      ap (with_group rest.0) (begun_same k g gs past) ∙ rest.1.2
                      ∙ sym (begun_same (k + 1) g gs (let other : head_factor g ≡ k → ⊥ = differ in omega (arith, past, other)))
                ],
              ),
            )
      ]
    where
      first_after : (m : ℕ) (g : List Link) (gs : List (List Link)) → After m (g ∷ gs) → m < first_of g
      first_after m g gs (After.one_more h hs below rest) = below

      others_after : (m : ℕ) (g : List Link) (gs : List (List Link)) → After m (g ∷ gs) → After m gs
      others_after m g gs (After.one_more h hs below rest) = rest

  -- before the first position none begins, and past the last one all have begun
  none_begun : (gs : List (List Link)) → begun 0 gs ≡ []
  none_begun [] = refl
  none_begun (g ∷ gs) = begun_same 0 g gs (omega arith) ∙ none_begun gs

  all_begun : (gs : List (List Link)) → All gs → begun (length all) gs ≡ gs
  all_begun [] AllLead.none = refl
  all_begun (g ∷ gs) (AllLead.one_more a b lead others) =
      begun_more (length all) g gs (within i all (head_factor g) (enters all (i ∷ []) [] i g lead)) ∙ ap (λ r. g ∷ r) (all_begun gs others)

  found_at : (gs : List (List Link)) → ((p : ℕ) → IsSimple (indices_at all p)) → Twice all (i ∷ []) → Times all (all_links gs) → (g : List Link) → Lead g
      → ((p : ℕ) → times_in p g ≤ times_in p (all_links gs)) → followed (i ∷ []) None all (length all) (head_factor g) i ≡ Some g
  found_at gs simple twice times g lead fewer =
      let apart : (p : ℕ) → times_in p g ≤ 1 = λ p. let less = fewer p in let o = once all (all_links gs) times p in omega arith in
      complete all (i ∷ []) None simple twice (λ k is. let no' : None ≡ Some k = is in cc no') i g lead apart (length all)
      (fits (length all) g apart (λ p past. let less = fewer p in let n = never_past all (all_links gs) times p past in omega arith))

  from_position : (gs : List (List Link)) → ((p : ℕ) → IsSimple (indices_at all p)) → Twice all (i ∷ []) → Times all (all_links gs) → All gs
      → Ascending (map first_of gs) → (k : ℕ) (atoms : List IxAtom) → ((r : ℕ) → indices_at atoms r ≡ indices_at all (k + r)) → k + length atoms ≡ length all
      → groups_from i all k atoms (begun k gs) ≡ Some gs
  unfolding groups_from
  from_position gs simple twice times lead is k [] same whole =
      let end : k ≡ length all = omega arith in ap Some (ap (λ n. begun n gs) end ∙ all_begun gs lead)
  from_position gs simple twice times lead is k (a ∷ atoms) same whole =
      let here : indices_of a ≡ indices_at all k = same 0 ∙ ap (indices_at all) (let e : k + 0 ≡ k = omega arith in e) in
      let rest : (r : ℕ) → indices_at atoms r ≡ indices_at all (k + 1 + r) =
      λ r. same (suc r) ∙ ap (indices_at all) (let e : k + suc r ≡ k + 1 + r = omega arith in e) in
      let left : k + 1 + length atoms ≡ length all = omega arith in
      let goes_on = from_position gs simple twice times lead is (k + 1) atoms rest left in
      elim (true_or_false (is_among i (indices_of a))) [
        | inl among ↦
            let has : Has i all k = sym (ap (is_among i) here) ∙ among in
            let group = put k gs lead is (once all (all_links gs) times) has (stands all (all_links gs) i k times has) in
            ap (λ b. if b
            then option_and_then (λ group. groups_from i all (k + 1) atoms (with_group group (begun k gs))) (followed (i ∷ []) None all (length all) k i)
            else groups_from i all (k + 1) atoms (begun k gs)) among
            ∙ ap (option_and_then (λ group. groups_from i all (k + 1) atoms (with_group group (begun k gs))))
            (ap (λ p. followed (i ∷ []) None all (length all) p i) (sym group.1.0.1) ∙ found_at gs simple twice times group.0 group.1.0.0 group.1.0.2)
            ∙ ap (groups_from i all (k + 1) atoms) group.1.2 ∙ goes_on
        | inr other ↦
            ap (λ b. if b
            then option_and_then (λ group. groups_from i all (k + 1) atoms (with_group group (begun k gs))) (followed (i ∷ []) None all (length all) k i)
            else groups_from i all (k + 1) atoms (begun k gs)) other
            ∙ ap (groups_from i all (k + 1) atoms) (sym (begun_unless k gs lead (λ has. not_both (is_among i (indices_of a)) (ap (is_among i) here ∙ has) other))) ∙ goes_on
      ]

  pub groups_found : (gs : List (List Link)) → ((p : ℕ) → IsSimple (indices_at all p)) → Twice all (i ∷ []) → Times all (all_links gs) → All gs
      → Ascending (map first_of gs) → groups_from i all 0 all [] ≡ Some gs
  groups_found gs simple twice times lead is =
      ap (groups_from i all 0 all) (sym (none_begun gs))
      ∙ from_position gs simple twice times lead is 0 all (λ r. ap (indices_at all) (let e : r ≡ 0 + r = omega arith in e)) (omega arith)
