-- The links of a chain: their values, and how often an index stands in them.
use Rattle.std.proofs.Common.{◌≡◌, ℕ, zero, suc, ◌+◌, ◌*◌, ◌<◌, Bool, true, false, List, [], ◌∷◌, ◌++◌, refl, sym, ap, ◌∙◌, inl, inr, subst, arith}
use Rattle.std.specs.Prelude.{◌⊎◌, ◌||◌}
use Rattle.std.specs.List.{flat_map}
use Rattle.std.specs.Str.{bytes_eq}
use Rattle.std.proofs.lemmas.List.Concat.{flat_map-cons}
use Rattle.std.proofs.lemmas.Bool.{cases_Bool, true≢false}
use Rattle.std.proofs.lemmas.Slice.Eq.{bytes_eq-Decides}
use Rattle.sim_syntax.specs.declared.statement.IxAtom.{IxAtom}
use Rattle.index_sums.specs.IndexSums.{Name, Values, with_index, product_by, times}
use Rattle.index_sums.specs.Laws.{Lacks}
use Rattle.chain_forms.specs.declared.chain.Link.{Link}
use Rattle.chain_forms.specs.Atoms.{indices_at, is_among, one_if}
use Rattle.chain_forms.specs.ChainForm.{IsSimple, Beside, Leads, AllLead}
use Rattle.chain_forms.specs.ChainForm.Leads.{last, further}
use Rattle.value_algebra.specs.declared.value.Value.{Value}
use Rattle.value_algebra.specs.Value.{word_at, number, transposed}
use Rattle.value_laws.specs.Laws.{IsWhole, EntryLaws}
use Rattle.index_meaning.specs.Laws.{HasSizes, HaveSizes}
use Rattle.index_meaning.specs.LoweredValues.{value_at, used_value}
use Rattle.index_meaning.specs.TermSums.{entry_of}
use Rattle.index_meaning.proofs.Basics.{entry_lacks, one_if-false, counted, counted_is, times-append}

-- ---- the values of atoms by their positions

pub sizes_at : (size : Name → ℕ) (value : IxAtom → Value) (atoms : List IxAtom) → HaveSizes size value atoms
    → (position : ℕ) → HasSizes size (indices_at atoms position) (value_at value atoms position)
sizes_at size value atoms HaveSizes.none position = HasSizes.scalar (number 0) refl refl refl
sizes_at size value all (HaveSizes.one_more a atoms has more) zero = has
sizes_at size value all (HaveSizes.one_more a atoms has more) (suc position) = sizes_at size value atoms more position

-- the entry of the factor at a position
abbrev pub entry_at : (IxAtom → Value) → List IxAtom → ℕ → Values → ℕ
entry_at value atoms position = entry_of (value_at value atoms position) (indices_at atoms position)

-- the product of links' entries
abbrev pub links_product : (IxAtom → Value) → List IxAtom → List Link → Values → ℕ
links_product value atoms links at = product_by (λ l. entry_at value atoms l.factor at) links

-- ---- one link

-- a link that leads from an index to another, and one that ends, as a value with rows and columns
pub record Passes (value : IxAtom → Value) (size : Name → ℕ) (atoms : List IxAtom) (l : Link) (i j : Name) : Type 0 where
  pub whole : IsWhole (used_value value atoms l)
  pub rows : (used_value value atoms l).rows ≡ size i
  pub columns : (used_value value atoms l).columns ≡ size j
  pub entry : (at : Values) → at i < size i → at j < size j → entry_at value atoms l.factor at ≡ word_at (used_value value atoms l) (at i) (at j)

pub record Ends (value : IxAtom → Value) (size : Name → ℕ) (atoms : List IxAtom) (l : Link) (i : Name) : Type 0 where
  pub whole : IsWhole (used_value value atoms l)
  pub rows : (used_value value atoms l).rows ≡ size i
  pub columns : (used_value value atoms l).columns ≡ 1
  pub entry : (at : Values) → entry_at value atoms l.factor at ≡ word_at (used_value value atoms l) (at i) 0

abbrev pub Sized : (IxAtom → Value) → (Name → ℕ) → List IxAtom → Type 0
Sized value size atoms = (position : ℕ) → HasSizes size (indices_at atoms position) (value_at value atoms position)

vector_sizes : {size : Name → ℕ} {v : Value} (i : Name) → HasSizes size (i ∷ []) v → IsWhole v × (v.rows ≡ size i) × (v.columns ≡ 1)
vector_sizes k (HasSizes.vector i v whole rows columns) = (whole, rows, columns)

matrix_sizes : {size : Name → ℕ} {v : Value} (i j : Name) → HasSizes size (i ∷ j ∷ []) v → IsWhole v × (v.rows ≡ size i) × (v.columns ≡ size j)
matrix_sizes k n (HasSizes.matrix i j v whole rows columns) = (whole, rows, columns)

transposed_rows : (v : Value) → (transposed v).rows ≡ v.columns
unfolding transposed
transposed_rows v = refl

transposed_columns : (v : Value) → (transposed v).columns ≡ v.rows
unfolding transposed
transposed_columns v = refl

module _ (entries : EntryLaws) (value : IxAtom → Value) (size : Name → ℕ) (atoms : List IxAtom) (sized : Sized value size atoms) where
  pub ends : (l : Link) (i : Name) → Beside atoms l i [] → Ends value size atoms l i
  ends l k (Beside.vector factor i is) =
      let known = vector_sizes i (subst (λ names. HasSizes size names (value_at value atoms factor)) is (sized factor)) in
      record { whole = known.0; rows = known.1; columns = known.2; entry = λ at. ap (λ names. entry_of (value_at value atoms factor) names at) is }

  pub passes : (l : Link) (i j : Name) → Beside atoms l i (j ∷ []) → Passes value size atoms l i j
  passes l k n (Beside.straight factor i j is) =
      let known = matrix_sizes i j (subst (λ names. HasSizes size names (value_at value atoms factor)) is (sized factor)) in
      record { whole = known.0; rows = known.1; columns = known.2; entry = λ at i_in j_in. ap (λ names. entry_of (value_at value atoms factor) names at) is }
  passes l k n (Beside.against factor i j is) =
      let known = matrix_sizes j i (subst (λ names. HasSizes size names (value_at value atoms factor)) is (sized factor)) in
      record {
        whole = entries.transposed_whole (value_at value atoms factor);
        rows = transposed_rows (value_at value atoms factor) ∙ known.2;
        columns = transposed_columns (value_at value atoms factor) ∙ known.1;
        entry = λ at i_in j_in. ap (λ names. entry_of (value_at value atoms factor) names at) is
            ∙ sym (entries.transposed_entry (value_at value atoms factor) (at j) (at i) (subst (λ n. at j < n) (sym known.1) j_in) (subst (λ n. at i < n) (sym known.2) i_in));
      }

-- ---- how often an index stands in links

-- in how many links
abbrev pub stands_in : List IxAtom → Name → List Link → ℕ
stands_in atoms z [] = 0
stands_in atoms z (l ∷ links) = one_if (is_among z (indices_at atoms l.factor)) + stands_in atoms z links

-- the indices that links share
abbrev pub shared : {atoms : List IxAtom} {free end : List Name} {i : Name} {links : List Link} → Leads atoms free end i links → List Name
shared (last l i is) = []
shared (further l rest i j is summed more) = j ∷ shared more

none_added : (n : ℕ) → n ≡ 0 + n
none_added n = omega arith

either_once : (z i j : Name) → bytes_eq i j ≡ false → one_if (bytes_eq z i || (bytes_eq z j || false)) ≡ one_if (bytes_eq z i) + one_if (bytes_eq z j || false)
either_once z i j differ = by_case (cases_Bool (bytes_eq z i)) (cases_Bool (bytes_eq z j))
  where
    by_case : (bytes_eq z i ≡ true) ⊎ (bytes_eq z i ≡ false) → (bytes_eq z j ≡ true) ⊎ (bytes_eq z j ≡ false)
        → one_if (bytes_eq z i || (bytes_eq z j || false)) ≡ one_if (bytes_eq z i) + one_if (bytes_eq z j || false)
    by_case (inl first) (inl second) =
        absurd (true≢false (sym ((bytes_eq-Decides i j).1 (sym ((bytes_eq-Decides z i).0 first) ∙ (bytes_eq-Decides z j).0 second)) ∙ differ))
    by_case (inl first) (inr second) =
        ap (λ b. one_if (b || (bytes_eq z j || false))) first ∙ sym (ap (λ b. one_if b + one_if (bytes_eq z j || false)) first ∙ ap (λ b. 1 + one_if (b || false)) second)
    by_case (inr first) other =
        ap (λ b. one_if (b || (bytes_eq z j || false))) first ∙ none_added (one_if (bytes_eq z j || false)) ∙ sym (ap (λ b. one_if b + one_if (bytes_eq z j || false)) first)

differ_names : (i j : Name) → (i ≡ j → ⊥) → bytes_eq i j ≡ false
differ_names i j differ = by_case (cases_Bool (bytes_eq i j))
  where
    by_case : (bytes_eq i j ≡ true) ⊎ (bytes_eq i j ≡ false) → bytes_eq i j ≡ false
    by_case (inl same) = absurd (differ ((bytes_eq-Decides i j).0 same))
    by_case (inr differs) = differs

pub simple_matrix : (i j : Name) → IsSimple (i ∷ j ∷ []) → bytes_eq i j ≡ false
simple_matrix k n (IsSimple.matrix i j differ) = differ_names i j differ

-- a link has the index by which it is entered, and what is beside
pub link_stands : (atoms : List IxAtom) → ((position : ℕ) → IsSimple (indices_at atoms position)) → (z : Name) (l : Link) (i : Name) (rest : List Name)
    → Beside atoms l i rest → one_if (is_among z (indices_at atoms l.factor)) ≡ one_if (bytes_eq z i) + one_if (is_among z rest)
link_stands atoms simple z l k rest (Beside.vector factor i is) =
    ap (λ names. one_if (is_among z names)) is ∙ alone (bytes_eq z i)
  where
    alone : (b : Bool) → one_if (b || false) ≡ one_if b + 0
    alone true = refl
    alone false = refl
link_stands atoms simple z l k rest (Beside.straight factor i j is) =
    ap (λ names. one_if (is_among z names)) is ∙ either_once z i j (simple_matrix i j (subst IsSimple is (simple factor)))
link_stands atoms simple z l k rest (Beside.against factor i j is) =
    ap (λ names. one_if (is_among z names)) is ∙ either_once z j i (simple_matrix j i (subst IsSimple is (simple factor)))
    ∙ swapped (bytes_eq z j) (bytes_eq z i)
  where
    swapped : (a b : Bool) → one_if a + one_if (b || false) ≡ one_if b + one_if (a || false)
    swapped true true = refl
    swapped true false = refl
    swapped false true = refl
    swapped false false = refl

-- links that lead on have the index by which they are entered, each shared one twice, and the end
pub links_stand : (atoms : List IxAtom) → ((position : ℕ) → IsSimple (indices_at atoms position)) → (z : Name) (free end : List Name) (i : Name) (links : List Link)
    → (leads : Leads atoms free end i links)
    → stands_in atoms z links ≡ one_if (bytes_eq z i) + 2 * times bytes_eq z (shared leads) + one_if (is_among z end)
links_stand atoms simple z free end k links (last l i is) =
    let one : one_if (is_among z (indices_at atoms l.factor)) ≡ one_if (bytes_eq z i) + one_if (is_among z end) = link_stands atoms simple z l i end is in
    omega (arith, one)
links_stand atoms simple z free end k links (further l rest i j is summed more) =
    let here : one_if (is_among z (indices_at atoms l.factor)) ≡ one_if (bytes_eq z i) + one_if (is_among z (j ∷ [])) = link_stands atoms simple z l i (j ∷ []) is in
    let later : stands_in atoms z rest ≡ one_if (bytes_eq z j) + 2 * times bytes_eq z (shared more) + one_if (is_among z end) = links_stand atoms simple z free end j rest more in
    let same : counted (bytes_eq z j) ≡ one_if (bytes_eq z j) = counted_is (bytes_eq z j) in
    let alone : one_if (is_among z (j ∷ [])) ≡ one_if (bytes_eq z j) = only (bytes_eq z j) in
    omega (arith, here, later, same, alone)
  where
    only : (b : Bool) → one_if (b || false) ≡ one_if b
    only true = refl
    only false = refl

-- an index that stands in no link is lacked by their product
pub product_lacks : (value : IxAtom → Value) (atoms : List IxAtom) (z : Name) (links : List Link) → stands_in atoms z links ≡ 0 → Lacks z (links_product value atoms links)
product_lacks value atoms z [] none at k = refl
product_lacks value atoms z (l ∷ links) none at k =
    let first : one_if (is_among z (indices_at atoms l.factor)) ≡ 0 = omega (arith, none) in
    let rest : stands_in atoms z links ≡ 0 = omega (arith, none) in
    ap (λ n. n * links_product value atoms links (with_index at z k))
    (entry_lacks (value_at value atoms l.factor) (indices_at atoms l.factor) z (one_if-false (is_among z (indices_at atoms l.factor)) first) at k)
    ∙ ap (λ n. entry_at value atoms l.factor at * n) (product_lacks value atoms z links rest at k)

-- ---- groups

-- the indices that the links of groups share
abbrev pub group_names : {atoms : List IxAtom} {free : List Name} {i : Name} {groups : List (List Link)} → AllLead atoms free i groups → List Name
group_names (AllLead.none) = []
group_names (AllLead.one_more group groups leads more) = shared leads ++ group_names more

abbrev pub all_links : List (List Link) → List Link
all_links groups = flat_map (λ group. group) groups

stand_append : (atoms : List IxAtom) (z : Name) (links others : List Link) → stands_in atoms z (links ++ others) ≡ stands_in atoms z links + stands_in atoms z others
stand_append atoms z [] others = omega arith
stand_append atoms z (l ∷ links) others =
    let rest : stands_in atoms z (links ++ others) ≡ stands_in atoms z links + stands_in atoms z others = stand_append atoms z links others in omega (arith, rest)

-- an index that isn't the free one stands twice where the groups share it
pub groups_stand : (atoms : List IxAtom) → ((position : ℕ) → IsSimple (indices_at atoms position)) → (free : List Name) (i z : Name) (groups : List (List Link))
    → (all : AllLead atoms free i groups) → bytes_eq z i ≡ false → stands_in atoms z (all_links groups) ≡ 2 * times bytes_eq z (group_names all)
groups_stand atoms simple free i z none_left (AllLead.none) differ = refl
groups_stand atoms simple free i z all (AllLead.one_more group groups leads more) differ =
    let first : stands_in atoms z group ≡ one_if (bytes_eq z i) + 2 * times bytes_eq z (shared leads) + one_if (is_among z []) = links_stand atoms simple z free [] i group leads in
    let no : one_if (bytes_eq z i) ≡ 0 = ap one_if differ in
    let rest : stands_in atoms z (all_links groups) ≡ 2 * times bytes_eq z (group_names more) = groups_stand atoms simple free i z groups more differ in
    let names : times bytes_eq z (shared leads ++ group_names more) ≡ times bytes_eq z (shared leads) + times bytes_eq z (group_names more) =
    times-append bytes_eq z (shared leads) (group_names more) in
    ap (stands_in atoms z) (flat_map-cons (λ g. g) group groups) ∙ stand_append atoms z group (all_links groups) ∙ omega (arith, first, no, rest, names)
