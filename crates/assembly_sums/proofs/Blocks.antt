-- Blocks that are added row after row.
use Rattle.std.proofs.Common.{subst, ◌≡◌, ◌⊎◌, inl, inr, ℕ, ◌+◌, ◌-◌, ◌*◌, ◌≤◌, ◌<◌, List, length, drop, get_or, refl, sym, ap, ◌∙◌, arith}
use Rattle.std.proofs.lemmas.Bool.{cases_eq, cases_lt}
use Rattle.std.proofs.lemmas.List.{get_or-drop}
use Rattle.std.proofs.Math.Nat.{mul-le-mul_right}
use Rattle.ring_words.specs.Word.{add}
use Rattle.assembly_sums.specs.declared.block.Region.{Region}
use Rattle.assembly_sums.specs.Added.{WordsAdded, BlockAdded}

-- the rows of a region up to below one
abbrev pub up_to : Region → ℕ → Region
up_to region row = record { top = region.top; bottom = row; left = region.left; right = region.right }

-- an earlier row ends before a later one begins
pub row_before : (row later columns column : ℕ) → row < later → column < columns → row * columns + column < later * columns
row_before row later columns column before within = grind arith

-- a place that isn't in a row of a region is before it or after it
off_row : (row column here left right columns : ℕ) → column < columns → right ≤ columns → ((row ≡ here) → (column < left) ⊎ (right ≤ column))
    → (row * columns + column < here * columns + left) ⊎ (here * columns + right ≤ row * columns + column)
off_row row column here left right columns within fits off = elim (cases_eq row here) [
  | inl e ↦ let same : row * columns ≡ here * columns = ap (λ n. n * columns) e in elim (off e) [
    | inl before ↦ inl (omega (arith, same))
    | inr after ↦ inr (omega (arith, same))
  ]
  | inr other ↦ elim (cases_lt row here) [
    | inl before ↦ inl (omega (arith, row_before row here columns column before within))
    | inr not_before ↦ let later : here < row = omega arith in inr (omega (arith, row_before here row columns 0 later (omega arith), mul-le-mul_right columns later))
  ]
]

-- no row is added yet
pub block_begun : (region : Region) (columns : ℕ) (block : List ℕ) (block_columns : ℕ) (old : List ℕ) → BlockAdded (up_to region region.top) columns block block_columns old old
block_begun region columns block block_columns old = record {
  same_length = refl;
  inside = λ row column in' there. absurd (let t = in'.top in let b = in'.bottom in omega (arith, t, b));
  outside = λ row column within away. refl;
}

-- another row is
pub block_more : (region : Region) (columns : ℕ) (block : List ℕ) (block_columns here : ℕ) (rest old now new : List ℕ)
    → BlockAdded (up_to region here) columns block block_columns old now → region.top ≤ here → region.right ≤ columns
    → rest ≡ drop ((here - region.top) * block_columns) block
    → WordsAdded (here * columns + region.left) (here * columns + region.right) rest now new
    → BlockAdded (up_to region (here + 1)) columns block block_columns old new
block_more region columns block block_columns here rest old now new so_far from fits is added = record {
  same_length = added.same_length ∙ so_far.same_length;
  inside = λ row column in' there.
      let top : region.top ≤ row = in'.top in
      let bottom : row < here + 1 = in'.bottom in
      let left : region.left ≤ column = in'.left in
      let right : column < region.right = in'.right in
      elim (cases_eq row here) [
        | inl e ↦
            let this : here * columns + column < length old = subst (λ n. n * columns + column < length old) e there in
            let amount : ℕ → ℕ = λ n. get_or block ((n - region.top) * block_columns + (column - region.left)) 0 in
            let before : get_or now (here * columns + column) 0 ≡ get_or old (here * columns + column) 0 =
            so_far.outside here column (omega arith) (λ place. let above : here < here = place.bottom in absurd (omega arith)) in
            let offset : here * columns + column - (here * columns + region.left) ≡ column - region.left = omega arith in
            let word : get_or rest (here * columns + column - (here * columns + region.left)) 0 ≡ amount here =
            ap (λ n. get_or rest n 0) offset ∙ ap (λ l. get_or l (column - region.left) 0) is ∙ get_or-drop ((here - region.top) * block_columns) block (column - region.left) 0 in
            let here_added : get_or new (here * columns + column) 0 ≡ add (get_or old (here * columns + column) 0) (amount here) =
            added.inside (here * columns + column) (omega arith) (omega arith) (omega (arith, so_far.same_length)) ∙ ap (λ n. add n (get_or rest (here * columns + column - (here * columns + region.left)) 0)) before
            ∙ ap (λ n. add (get_or old (here * columns + column) 0) n) word in
            subst (λ n. get_or new (n * columns + column) 0 ≡ add (get_or old (n * columns + column) 0) (amount n)) (sym e) here_added
        | inr other ↦
            let before : row < here = omega arith in
            added.outside (row * columns + column) (off_row row column here region.left region.right columns (omega arith) fits (λ e. absurd (other e)))
            ∙ so_far.inside row column (record { top = top; bottom = before; left = left; right = right }) there
      ];
  outside = λ row column within away.
      let beside : (row ≡ here) → (column < region.left) ⊎ (region.right ≤ column) = λ e. elim (cases_lt column region.left) [
        | inl before ↦ inl before
        | inr from_left ↦ elim (cases_lt column region.right) [
          | inl inside ↦ absurd (away (record { top = omega arith; bottom = omega arith; left = from_left; right = inside }))
          | inr after ↦ inr after
        ]
      ] in
      added.outside (row * columns + column) (off_row row column here region.left region.right columns within fits beside)
      ∙ so_far.outside row column within (λ place. away (record { top = place.top; bottom = (let below : row < here = place.bottom in omega arith); left = place.left; right = place.right }));
}

-- all are
pub block_done : (region : Region) (columns : ℕ) (block : List ℕ) (block_columns here : ℕ) (old new : List ℕ)
    → BlockAdded (up_to region here) columns block block_columns old new → here ≡ region.bottom → BlockAdded region columns block block_columns old new
block_done region columns block block_columns here old new added all = subst (λ n. BlockAdded (up_to region n) columns block block_columns old new) all added
