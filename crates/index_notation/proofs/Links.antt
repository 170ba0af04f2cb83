-- Links that are appended one by one while shared indices are followed.
use Rattle.std.proofs.Common.{◌≡◌, ℕ, zero, suc, ◌+◌, ◌-◌, ◌<◌, ◌≤◌, Bool, true, false, List, [], ◌∷◌, ◌++◌, Option, Some, None, refl, sym, ap, ◌∙◌, arith}
use Rattle.std.specs.Option.{option_map, option_and_then}
use Rattle.std.specs.Prelude.{if◌then◌else◌}
use Rattle.std.proofs.lemmas.List.{append_assoc}
use Rattle.sim_syntax.specs.declared.statement.IxAtom.{IxAtom}
use Rattle.chain_forms.specs.declared.chain.Link.{Link}
use Rattle.chain_forms.specs.Atoms.{Name, indices_at, is_among}
use Rattle.index_notation.specs.Parts.{to_vector}
use Rattle.chain_forms.specs.Following.{followed, onward, link_at, leaving, other_with, is_end}

abbrev pub before : List Link → Option (List Link) → Option (List Link)
before links others = option_map (λ rest. links ++ rest) others

before_one : (links : List Link) (l : Link) (others : Option (List Link))
    → before links (option_map (λ rest. l ∷ rest) others) ≡ before (links ++ l ∷ []) others
before_one links l None = refl
before_one links l (Some rest) = ap Some (sym (append_assoc links (l ∷ []) rest))

module _ (free : List Name) (end : Option Name) (atoms : List IxAtom) where
  -- one more link: what `followed` says of a factor
  abbrev from_factor : ℕ → ℕ → Name → Option (List Link)
  from_factor = followed free end atoms

  one_more : (most factor : ℕ) (i : Name) (l : Link) → link_at i factor (indices_at atoms factor) ≡ Some l
      → from_factor (suc most) factor i ≡ onward free end atoms (from_factor most) l (leaving l (indices_at atoms factor))
  unfolding followed
  one_more most factor i l is = ap (λ o. option_and_then (λ k. onward free end atoms (from_factor most) k (leaving k (indices_at atoms factor))) o) is

  fewer : (n counter : ℕ) → counter < n → n - counter ≡ suc (n - (counter + 1))
  fewer n counter below = omega arith

  -- no index of the factor is the one by which it is entered
  pub not_entered : (known : Option (List Link)) (links : List Link) (n counter factor : ℕ) (i : Name) (indices : List Name) → counter < n
      → indices ≡ indices_at atoms factor → None ≡ link_at i factor indices
      → known ≡ before links (from_factor (n - counter) factor i) → None ≡ known
  unfolding followed
  not_entered known links n counter factor i indices below are none so_far =
      sym (so_far ∙ ap (λ m. before links (from_factor m factor i)) (fewer n counter below)
      ∙ ap (λ o. before links (option_and_then (λ k. onward free end atoms (from_factor (n - (counter + 1))) k (leaving k (indices_at atoms factor))) o))
      (ap (link_at i factor) (sym are) ∙ sym none))

  onward_from : (known : Option (List Link)) (links : List Link) (n counter factor : ℕ) (i : Name) (indices : List Name) (l : Link) (out : Option Name) → counter < n
      → indices ≡ indices_at atoms factor → Some l ≡ link_at i factor indices → out ≡ leaving l indices
      → known ≡ before links (from_factor (n - counter) factor i)
      → known ≡ before links (onward free end atoms (from_factor (n - (counter + 1))) l out)
  onward_from known links n counter factor i indices l out below are is leaves so_far =
      so_far ∙ ap (λ m. before links (from_factor m factor i)) (fewer n counter below)
      ∙ ap (before links) (one_more (n - (counter + 1)) factor i l (ap (link_at i factor) (sym are) ∙ sym is)
      ∙ ap (onward free end atoms (from_factor (n - (counter + 1))) l) (ap (leaving l) (sym are) ∙ sym leaves))

  at_vector : (end : Option Name) (links : List Link) (from_there : ℕ → Name → Option (List Link)) (l : Link)
      → before links (onward free end atoms from_there l None) ≡ to_vector end (links ++ l ∷ [])
  at_vector None links from_there l = refl
  at_vector (Some j) links from_there l = refl

  -- a vector is the last
  pub ended : (known : Option (List Link)) (links more : List Link) (n counter factor : ℕ) (i : Name) (indices : List Name) (l : Link) → counter < n
      → indices ≡ indices_at atoms factor → Some l ≡ link_at i factor indices → None ≡ leaving l indices → more ≡ links ++ l ∷ []
      → known ≡ before links (from_factor (n - counter) factor i) → to_vector end more ≡ known
  ended known links more n counter factor i indices l below are is leaves has so_far =
      ap (to_vector end) has
      ∙ sym (onward_from known links n counter factor i indices l None below are is leaves so_far
      ∙ at_vector end links (from_factor (n - (counter + 1))) l)

  -- what is said of a factor with another index
  go_on : (from_there : ℕ → Name → Option (List Link)) (l : Link) (j : Name) → Option (List Link)
  go_on from_there l j = option_map (λ rest. l ∷ rest) (option_and_then (λ next. from_there next j) (other_with j l.factor 0 atoms))

  by_tests : (from_there : ℕ → Name → Option (List Link)) (l : Link) (j : Name)
      → onward free end atoms from_there l (Some j) ≡ (if is_end end j then Some (l ∷ []) else if is_among j free then None else go_on from_there l j)
  unfolding go_on
  by_tests from_there l j = by_end end
    where
      by_end : (end : Option Name) → onward free end atoms from_there l (Some j)
          ≡ (if is_end end j then Some (l ∷ []) else if is_among j free then None else go_on from_there l j)
      by_end None = refl
      by_end (Some k) = refl

  -- the end is reached
  pub reached : (known : Option (List Link)) (links more : List Link) (n counter factor : ℕ) (i j : Name) (indices : List Name) (l : Link) → counter < n
      → indices ≡ indices_at atoms factor → Some l ≡ link_at i factor indices → Some j ≡ leaving l indices → more ≡ links ++ l ∷ []
      → is_end end j ≡ true
      → known ≡ before links (from_factor (n - counter) factor i) → Some more ≡ known
  reached known links more n counter factor i j indices l below are is leaves has ends so_far =
      ap Some has
      ∙ sym (onward_from known links n counter factor i indices l (Some j) below are is leaves so_far
      ∙ ap (before links) (by_tests (from_factor (n - (counter + 1))) l j
      ∙ ap (λ b. if b then Some (l ∷ []) else if is_among j free then None else go_on (from_factor (n - (counter + 1))) l j) ends))

  past_end : (known : Option (List Link)) (links : List Link) (n counter factor : ℕ) (i j : Name) (indices : List Name) (l : Link) (b : Bool) → counter < n
      → indices ≡ indices_at atoms factor → Some l ≡ link_at i factor indices → Some j ≡ leaving l indices
      → is_end end j ≡ false → is_among j free ≡ b
      → known ≡ before links (from_factor (n - counter) factor i)
      → known ≡ before links (if b then None else go_on (from_factor (n - (counter + 1))) l j)
  past_end known links n counter factor i j indices l b below are is leaves not_end free_is so_far =
      onward_from known links n counter factor i indices l (Some j) below are is leaves so_far
      ∙ ap (before links) (by_tests (from_factor (n - (counter + 1))) l j
      ∙ ap (λ b. if b then Some (l ∷ []) else if is_among j free then None else go_on (from_factor (n - (counter + 1))) l j) not_end
      ∙ ap (λ b. if b then None else go_on (from_factor (n - (counter + 1))) l j) free_is)

  -- the index is free
  pub not_summed : (known : Option (List Link)) (links : List Link) (n counter factor : ℕ) (i j : Name) (indices : List Name) (l : Link) → counter < n
      → indices ≡ indices_at atoms factor → Some l ≡ link_at i factor indices → Some j ≡ leaving l indices
      → is_end end j ≡ false → is_among j free ≡ true
      → known ≡ before links (from_factor (n - counter) factor i) → None ≡ known
  not_summed known links n counter factor i j indices l below are is leaves not_end is_free so_far =
      sym (past_end known links n counter factor i j indices l true below are is leaves not_end is_free so_far)

  -- no other factor has the index
  pub alone : (known : Option (List Link)) (links : List Link) (n counter factor : ℕ) (i j : Name) (indices : List Name) (l : Link) → counter < n
      → indices ≡ indices_at atoms factor → Some l ≡ link_at i factor indices → Some j ≡ leaving l indices
      → is_end end j ≡ false → is_among j free ≡ false → None ≡ other_with j l.factor 0 atoms
      → known ≡ before links (from_factor (n - counter) factor i) → None ≡ known
  unfolding go_on
  alone known links n counter factor i j indices l below are is leaves not_end summed none so_far =
      sym (past_end known links n counter factor i j indices l false below are is leaves not_end summed so_far
      ∙ ap (λ o. before links (option_map (λ rest. l ∷ rest) (option_and_then (λ next. from_factor (n - (counter + 1)) next j) o))) (sym none))

  -- the other factor is next
  pub shared : (known : Option (List Link)) (links more : List Link) (n counter factor next : ℕ) (i j : Name) (indices : List Name) (l : Link) → counter < n
      → indices ≡ indices_at atoms factor → Some l ≡ link_at i factor indices → Some j ≡ leaving l indices → more ≡ links ++ l ∷ []
      → is_end end j ≡ false → is_among j free ≡ false → Some next ≡ other_with j l.factor 0 atoms
      → known ≡ before links (from_factor (n - counter) factor i) → known ≡ before more (from_factor (n - (counter + 1)) next j)
  unfolding go_on
  shared known links more n counter factor next i j indices l below are is leaves has not_end summed here so_far =
      past_end known links n counter factor i j indices l false below are is leaves not_end summed so_far
      ∙ ap (λ o. before links (option_map (λ rest. l ∷ rest) (option_and_then (λ next. from_factor (n - (counter + 1)) next j) o))) (sym here)
      ∙ before_one links l (from_factor (n - (counter + 1)) next j)
      ∙ ap (λ done. before done (from_factor (n - (counter + 1)) next j)) (sym has)

  -- there are as many links as atoms, and none is the last
  pub too_many : (known : Option (List Link)) (links : List Link) (n counter factor : ℕ) (i : Name) → n ≤ counter
      → known ≡ before links (from_factor (n - counter) factor i) → None ≡ known
  unfolding followed
  too_many known links n counter factor i past so_far =
      sym (so_far ∙ ap (λ m. before links (from_factor m factor i)) (let none : n - counter ≡ zero = omega arith in none))
