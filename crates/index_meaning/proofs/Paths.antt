-- Products along links are sums over the indices that the links share.
use Rattle.std.proofs.Common.{◌≡◌, ℕ, ◌+◌, ◌*◌, ◌%◌, ◌^◌, ◌<◌, Bool, true, false, List, [], ◌∷◌, ◌++◌, refl, sym, ap, ◌∙◌, subst, arith}
use Rattle.std.specs.Prelude.{◌||◌, map, sum_by}
use Rattle.std.specs.List.{range_with_len}
use Rattle.std.proofs.Math.Path.{fun_ext}
use Rattle.std.proofs.lemmas.List.Concat.{flat_map-cons}
use Rattle.std.specs.Str.{bytes_eq}
use Rattle.std.proofs.Math.Nat.{mod-mod}
use Rattle.vocabulary.specs.Sums.{SumLaws, DoubleSumLaws, RangeSumLaws}
use Rattle.ring_words.specs.Word.{mul}
use Rattle.sim_syntax.specs.declared.statement.IxAtom.{IxAtom}
use Rattle.index_sums.specs.IndexSums.{Name, Values, with_index, over_all, times}
use Rattle.index_sums.specs.Laws.{Lacks, LacksAll, IndexSumLaws, ProductLaws}
use Rattle.chain_forms.specs.declared.chain.Link.{Link}
use Rattle.chain_forms.specs.Atoms.{indices_at, is_among, one_if}
use Rattle.chain_forms.specs.ChainForm.{IsSimple, Beside, Leads, AllLead}
use Rattle.chain_forms.specs.ChainForm.Leads.{last, further}
use Rattle.value_algebra.specs.declared.value.Value.{Value}
use Rattle.value_algebra.specs.Value.{word_at, word_of, both, row_times_column, product, dot}
use Rattle.value_laws.specs.Laws.{IsWhole, EntryLaws}
use Rattle.index_meaning.specs.LoweredValues.{value_at, used_value, used_values, nested_value, product_from, entrywise_from, group_value}
use Rattle.index_meaning.proofs.Basics.{times_congruent, congruent_below, at_index, at_other, other_order, lacks_each, entry_lacks, one_if-false, counted, counted_is, same_name, times-append}
use Rattle.index_meaning.proofs.Links.{entry_at, links_product, Sized, Passes, Ends, passes, ends, stands_in, shared, link_stands, links_stand, product_lacks, group_names, all_links, groups_stand}

-- no name stands twice
abbrev pub Different : List Name → Type 0
Different names = (z : Name) → times bytes_eq z names < 2

-- an index at the front stands nowhere else, and the others differ
pub different_rest : (i : Name) (names : List Name) → Different (i ∷ names) → Different names
different_rest i names differ z = omega (arith, differ z)

pub front_once : (i : Name) (names : List Name) → Different (i ∷ names) → times bytes_eq i names ≡ 0
front_once i names differ =
    let itself : counted (bytes_eq i i) ≡ 1 = ap counted (same_name i) in omega (arith, differ i, itself)

counted-false : (b : Bool) → counted b ≡ 0 → b ≡ false
counted-false true zero_is = absurd (omega (arith, zero_is))
counted-false false zero_is = refl

pub front_differs : (i j : Name) (names : List Name) → Different (i ∷ j ∷ names) → bytes_eq i j ≡ false
front_differs i j names differ = counted-false (bytes_eq i j) (omega (arith, front_once i (j ∷ names) differ))

product_shape : (l r : Value) → ((product l r).rows ≡ l.rows) × ((product l r).columns ≡ r.columns)
unfolding product
product_shape l r = (refl, refl)

pub mul_is : (a b : ℕ) → mul a b ≡ a * b % 2 ^ 64
unfolding mul
mul_is a b = refl

module _ (sums : SumLaws ℕ) (double : DoubleSumLaws ℕ ℕ) (ranges : RangeSumLaws) (index : IndexSumLaws) (products : ProductLaws Link) (entries : EntryLaws)
    (value : IxAtom → Value) (size : Name → ℕ) (atoms : List IxAtom) (sized : Sized value size atoms)
    (simple : (position : ℕ) → IsSimple (indices_at atoms position)) where
  -- the entry of a link that leads from one index to another lacks all further ones
  entry_lacks_shared : (l : Link) (i j : Name) (names : List Name) → Beside atoms l i (j ∷ []) → Different (i ∷ j ∷ names) → LacksAll names (entry_at value atoms l.factor)
  entry_lacks_shared l i j names is differ =
      lacks_each names (entry_at value atoms l.factor)
      (λ z stands. entry_lacks (value_at value atoms l.factor) (indices_at atoms l.factor) z (one_if-false (is_among z (indices_at atoms l.factor)) (none z stands)))
    where
      alone : (b : Bool) → one_if (b || false) ≡ one_if b
      alone true = refl
      alone false = refl

      none : (z : Name) → 0 < times bytes_eq z names → one_if (is_among z (indices_at atoms l.factor)) ≡ 0
      none z stands =
          let both : one_if (is_among z (indices_at atoms l.factor)) ≡ one_if (bytes_eq z i) + one_if (is_among z (j ∷ [])) = link_stands atoms simple z l i (j ∷ []) is in
          let first : counted (bytes_eq z i) ≡ one_if (bytes_eq z i) = counted_is (bytes_eq z i) in
          let second : counted (bytes_eq z j) ≡ one_if (bytes_eq z j) = counted_is (bytes_eq z j) in
          let only : one_if (is_among z (j ∷ [])) ≡ one_if (bytes_eq z j) = alone (bytes_eq z j) in
          omega (arith, both, first, second, only, stands, differ z)

  -- the sum over all values of the shared indices of the product of all entries
  abbrev pub path_sum : {free end : List Name} {i : Name} {links : List Link} → Leads atoms free end i links → Values → ℕ
  path_sum {links = links} leads at = over_all size (shared leads) (links_product value atoms links) at

  -- a first link, and the path after it
  further_sum : (free end : List Name) (l : Link) (rest : List Link) (i j : Name) (is : Beside atoms l i (j ∷ [])) (more : Leads atoms free end j rest) (at : Values)
      → at i < size i → Different (i ∷ j ∷ shared more)
      → over_all size (j ∷ shared more) (λ v. entry_at value atoms l.factor v * links_product value atoms rest v) at
      ≡ sum_by (λ k. word_at (used_value value atoms l) (at i) k * path_sum more (with_index at j k)) (range_with_len 0 (size j))
  further_sum free end l rest i j is more at i_in differ =
      ranges.same_below (size j) (λ k. over_all size (shared more) (λ v. entry_at value atoms l.factor v * links_product value atoms rest v) (with_index at j k))
      (λ k. word_at (used_value value atoms l) (at i) k * path_sum more (with_index at j k))
      (λ k below.
      index.scaled size (shared more) (entry_at value atoms l.factor) (links_product value atoms rest) (with_index at j k) (entry_lacks_shared l i j (shared more) is differ)
      ∙ ap (λ n. n * path_sum more (with_index at j k)) (entry k below))
    where
      link : Passes value size atoms l i j
      link = passes entries value size atoms sized l i j is

      other : (k : ℕ) → with_index at j k i ≡ at i
      other k = at_other at j k i (other_order i j (front_differs i j (shared more) differ))

      entry : (k : ℕ) → k < size j → entry_at value atoms l.factor (with_index at j k) ≡ word_at (used_value value atoms l) (at i) k
      entry k below =
          link.entry (with_index at j k) (subst (λ n. n < size i) (sym (other k)) i_in) (subst (λ n. n < size j) (sym (at_index at j k)) below)
          ∙ ap (λ n. word_at (used_value value atoms l) n (with_index at j k j)) (other k) ∙ ap (word_at (used_value value atoms l) (at i)) (at_index at j k)

  -- ---- nested products

  -- what a nested product is
  pub record IsColumn (v : Value) (count : ℕ) : Type 0 where
    pub whole : IsWhole v
    pub rows : v.rows ≡ count
    pub columns : v.columns ≡ 1

  nested_more : (u : Value) (free end : List Name) (j : Name) (rest : List Link) → Leads atoms free end j rest
      → nested_value (u ∷ used_values value atoms rest) ≡ product u (nested_value (used_values value atoms rest))
  nested_more u free end j rest (last l i is) = refl
  nested_more u free end j rest (further l more i k is summed leads) = refl

  abbrev pub nested_of : List Link → Value
  nested_of links = nested_value (used_values value atoms links)

  pub nested_column : (free : List Name) (i : Name) (links : List Link) → Leads atoms free [] i links → IsColumn (nested_of links) (size i)
  nested_column free k links (last l i is) =
      let link = ends entries value size atoms sized l i is in record { whole = link.whole; rows = link.rows; columns = link.columns }
  nested_column free k links (further l rest i j is summed more) =
      let link = passes entries value size atoms sized l i j is in
      let inner = nested_column free j rest more in
      let u = used_value value atoms l in
      let shape = product_shape u (nested_of rest) in
      subst (λ v. IsColumn v (size i)) (sym (nested_more u free [] j rest more))
      (record { whole = entries.product_whole u (nested_of rest); rows = shape.0 ∙ link.rows; columns = shape.1 ∙ inner.columns })

  pub nested_sum : (free : List Name) (i : Name) (links : List Link) (leads : Leads atoms free [] i links) (at : Values) → at i < size i → Different (i ∷ shared leads)
      → word_at (nested_of links) (at i) 0 % 2 ^ 64 ≡ path_sum leads at % 2 ^ 64
  nested_sum free k links (last l i is) at i_in differ =
      let link = ends entries value size atoms sized l i is in
      ap (λ n. n % 2 ^ 64) (sym (link.entry at) ∙ times_one (entry_at value atoms l.factor at))
    where
      times_one : (n : ℕ) → n ≡ n * 1
      times_one n = omega arith
  nested_sum free k links (further l rest i j is summed more) at i_in differ =
      let link = passes entries value size atoms sized l i j is in
      let u : Value = used_value value atoms l in
      let w : Value = nested_of rest in
      let inner = nested_column free j rest more in
      let later : (n : ℕ) → n < size j → word_at w n 0 % 2 ^ 64 ≡ path_sum more (with_index at j n) % 2 ^ 64 =
      λ n below. ap (λ r. word_at w r 0 % 2 ^ 64) (sym (at_index at j n))
      ∙ nested_sum free j rest more (with_index at j n) (subst (λ r. r < size j) (sym (at_index at j n)) below) (different_rest i (j ∷ shared more) differ) in
      ap (λ v. word_at v (at i) 0 % 2 ^ 64) (nested_more u free [] j rest more)
      ∙ ap (λ n. n % 2 ^ 64) (entries.product_entry u w (at i) 0 (subst (λ n. at i < n) (sym link.rows) i_in) (subst (λ n. 0 < n) (sym inner.columns) (omega arith)))
      ∙ mod-mod (row_times_column u w (at i) 0) (2 ^ 64)
      ∙ ap (λ n. sum_by (λ m. word_at u (at i) m * word_at w m 0) (range_with_len 0 n) % 2 ^ 64) link.columns
      ∙ congruent_below sums ranges (2 ^ 64) (size j) (λ m. word_at u (at i) m * word_at w m 0) (λ m. word_at u (at i) m * path_sum more (with_index at j m))
      (λ m below. times_congruent (2 ^ 64) (word_at u (at i) m) (word_at u (at i) m) (word_at w m 0) (path_sum more (with_index at j m)) refl (later m below))
      ∙ ap (λ n. n % 2 ^ 64) (sym (further_sum free [] l rest i j is more at i_in differ))

  -- ---- a vector, and the path from its index

  vector_lacks_shared : (l : Link) (i : Name) (names : List Name) → Beside atoms l i [] → Different (i ∷ names) → LacksAll names (entry_at value atoms l.factor)
  vector_lacks_shared l i names is differ =
      lacks_each names (entry_at value atoms l.factor)
      (λ z stands. entry_lacks (value_at value atoms l.factor) (indices_at atoms l.factor) z (one_if-false (is_among z (indices_at atoms l.factor)) (none z stands)))
    where
      none : (z : Name) → 0 < times bytes_eq z names → one_if (is_among z (indices_at atoms l.factor)) ≡ 0
      none z stands =
          let one : one_if (is_among z (indices_at atoms l.factor)) ≡ one_if (bytes_eq z i) + one_if (is_among z []) = link_stands atoms simple z l i [] is in
          let first : counted (bytes_eq z i) ≡ one_if (bytes_eq z i) = counted_is (bytes_eq z i) in
          omega (arith, one, first, stands, differ z)

  pub between_sum : (free : List Name) (l : Link) (i : Name) (links : List Link) (is : Beside atoms l i []) (leads : Leads atoms free [] i links) (at : Values)
      → Different (i ∷ shared leads)
      → word_of (dot (used_value value atoms l) (nested_of links)) % 2 ^ 64
      ≡ over_all size (i ∷ shared leads) (λ v. entry_at value atoms l.factor v * links_product value atoms links v) at % 2 ^ 64
  between_sum free l i links is leads at differ =
      let u : Value = used_value value atoms l in
      let w : Value = nested_of links in
      ap (λ n. n % 2 ^ 64) (entries.dot_is u w first.whole column.whole first.columns column.columns (first.rows ∙ sym column.rows))
      ∙ mod-mod (sum_by (λ row. word_at u row 0 * word_at w row 0) (range_with_len 0 u.rows)) (2 ^ 64)
      ∙ ap (λ n. sum_by (λ row. word_at u row 0 * word_at w row 0) (range_with_len 0 n) % 2 ^ 64) first.rows
      ∙ congruent_below sums ranges (2 ^ 64) (size i) (λ row. word_at u row 0 * word_at w row 0)
      (λ row. over_all size (shared leads) (λ v. entry_at value atoms l.factor v * links_product value atoms links v) (with_index at i row)) same
    where
      first : Ends value size atoms l i
      first = ends entries value size atoms sized l i is

      column : IsColumn (nested_of links) (size i)
      column = nested_column free i links leads

      same : (row : ℕ) → row < size i
          → (word_at (used_value value atoms l) row 0 * word_at (nested_of links) row 0) % 2 ^ 64
          ≡ over_all size (shared leads) (λ v. entry_at value atoms l.factor v * links_product value atoms links v) (with_index at i row) % 2 ^ 64
      same row below =
          let there : with_index at i row i ≡ row = at_index at i row in
          times_congruent (2 ^ 64) (word_at (used_value value atoms l) row 0) (entry_at value atoms l.factor (with_index at i row)) (word_at (nested_of links) row 0)
          (path_sum leads (with_index at i row))
          (ap (λ n. n % 2 ^ 64) (sym (first.entry (with_index at i row) ∙ ap (λ r. word_at (used_value value atoms l) r 0) there)))
          (ap (λ r. word_at (nested_of links) r 0 % 2 ^ 64) (sym there)
          ∙ nested_sum free i links leads (with_index at i row) (subst (λ r. r < size i) (sym there) below) differ)
          ∙ ap (λ n. n % 2 ^ 64)
          (sym (index.scaled size (shared leads) (entry_at value atoms l.factor) (links_product value atoms links) (with_index at i row) (vector_lacks_shared l i (shared leads) is differ)))

  -- ---- matrices from one free index to another

  -- what a product of matrices is
  pub record IsBlock (v : Value) (height width : ℕ) : Type 0 where
    pub whole : IsWhole v
    pub rows : v.rows ≡ height
    pub columns : v.columns ≡ width

  product_block : (acc u : Value) (height middle width : ℕ) → IsBlock acc height middle → IsBlock u middle width → IsBlock (product acc u) height width
  product_block acc u height middle width first second =
      let shape = product_shape acc u in
      record { whole = entries.product_whole acc u; rows = shape.0 ∙ first.rows; columns = shape.1 ∙ second.columns }

  pub from_block : (free : List Name) (e i : Name) (links : List Link) → Leads atoms free (e ∷ []) i links → (acc : Value) (height : ℕ) → IsBlock acc height (size i)
      → IsBlock (product_from acc (used_values value atoms links)) height (size e)
  from_block free e k links (last l i is) acc height first =
      let link = passes entries value size atoms sized l i e is in
      product_block acc (used_value value atoms l) height (size i) (size e) first (record { whole = link.whole; rows = link.rows; columns = link.columns })
  from_block free e k links (further l rest i j is summed more) acc height first =
      let link = passes entries value size atoms sized l i j is in
      from_block free e j rest more (product acc (used_value value atoms l)) height
      (product_block acc (used_value value atoms l) height (size i) (size j) first (record { whole = link.whole; rows = link.rows; columns = link.columns }))

  -- the entry of a product, as a sum over the numbers below a size
  product_word : (acc u : Value) (height middle width r c : ℕ) → IsBlock acc height middle → IsBlock u middle width → r < height → c < width
      → word_at (product acc u) r c ≡ sum_by (λ k. word_at acc r k * word_at u k c) (range_with_len 0 middle) % 2 ^ 64
  product_word acc u height middle width r c first second r_in c_in =
      entries.product_entry acc u r c (subst (λ n. r < n) (sym first.rows) r_in) (subst (λ n. c < n) (sym second.columns) c_in)
      ∙ ap (λ n. sum_by (λ k. word_at acc r k * word_at u k c) (range_with_len 0 n) % 2 ^ 64) first.columns

  -- sums of sums, with a factor that belongs to one of them
  regrouped : (n h : ℕ) (a : ℕ → ℕ) (u : ℕ → ℕ → ℕ) (p : ℕ → ℕ)
      → sum_by (λ m. sum_by (λ k. a k * u k m) (range_with_len 0 n) * p m) (range_with_len 0 h)
      ≡ sum_by (λ k. a k * sum_by (λ m. u k m * p m) (range_with_len 0 h)) (range_with_len 0 n)
  regrouped n h a u p =
      sums.same_terms (λ m. sum_by (λ k. a k * u k m) (range_with_len 0 n) * p m) (λ m. sum_by (λ k. p m * (a k * u k m)) (range_with_len 0 n)) (range_with_len 0 h)
      (λ m. swapped (sum_by (λ k. a k * u k m) (range_with_len 0 n)) (p m) ∙ sym (sums.scaled (p m) (λ k. a k * u k m) (range_with_len 0 n)))
      ∙ double.exchanged (λ m k. p m * (a k * u k m)) (range_with_len 0 h) (range_with_len 0 n)
      ∙ sums.same_terms (λ k. sum_by (λ m. p m * (a k * u k m)) (range_with_len 0 h)) (λ k. a k * sum_by (λ m. u k m * p m) (range_with_len 0 h)) (range_with_len 0 n)
      (λ k. sums.same_terms (λ m. p m * (a k * u k m)) (λ m. a k * (u k m * p m)) (range_with_len 0 h) (λ m. turned (p m) (a k) (u k m))
      ∙ sums.scaled (a k) (λ m. u k m * p m) (range_with_len 0 h))
    where
      swapped : (a b : ℕ) → a * b ≡ b * a
      swapped a b = grind (arith)

      turned : (a b c : ℕ) → a * (b * c) ≡ b * (c * a)
      turned a b c = grind (arith)

  times_one : (n : ℕ) → n ≡ n * 1
  times_one n = omega arith

  -- an index that stands nowhere on a path and isn't its end
  path_lacks : (free : List Name) (e i j : Name) (rest : List Link) (more : Leads atoms free (e ∷ []) j rest) → Different (i ∷ j ∷ shared more) → bytes_eq i e ≡ false
      → Lacks i (path_sum more)
  path_lacks free e i j rest more differ apart =
      let count : stands_in atoms i rest ≡ one_if (bytes_eq i j) + 2 * times bytes_eq i (shared more) + one_if (is_among i (e ∷ [])) =
      links_stand atoms simple i free (e ∷ []) j rest more in
      let first : counted (bytes_eq i j) ≡ one_if (bytes_eq i j) = counted_is (bytes_eq i j) in
      let end : one_if (is_among i (e ∷ [])) ≡ 0 = ap (λ b. one_if (b || false)) apart in
      index.lacking size (shared more) i (links_product value atoms rest)
      (product_lacks value atoms i rest (omega (arith, count, first, end, front_once i (j ∷ shared more) differ)))

  apart_from : (e i : Name) (names : List Name) → times bytes_eq e (i ∷ names) ≡ 0 → bytes_eq e i ≡ false
  apart_from e i names none = counted-false (bytes_eq e i) (omega (arith, none))

  pub matrices_from : (free : List Name) (e i : Name) (links : List Link) (leads : Leads atoms free (e ∷ []) i links) (acc : Value) (height r : ℕ) (at : Values)
      → IsBlock acc height (size i) → r < height → at e < size e → Different (i ∷ shared leads) → times bytes_eq e (i ∷ shared leads) ≡ 0
      → word_at (product_from acc (used_values value atoms links)) r (at e) % 2 ^ 64
      ≡ sum_by (λ k. word_at acc r k * path_sum leads (with_index at i k)) (range_with_len 0 (size i)) % 2 ^ 64
  matrices_from free e n links (last l i is) acc height r at first r_in e_in differ none =
      let link = passes entries value size atoms sized l i e is in
      let u : Value = used_value value atoms l in
      let apart : bytes_eq i e ≡ false = other_order e i (apart_from e i [] none) in
      ap (λ n. n % 2 ^ 64)
      (product_word acc u height (size i) (size e) r (at e) first (record { whole = link.whole; rows = link.rows; columns = link.columns }) r_in e_in)
      ∙ mod-mod (sum_by (λ k. word_at acc r k * word_at u k (at e)) (range_with_len 0 (size i))) (2 ^ 64)
      ∙ ap (λ n. n % 2 ^ 64)
      (ranges.same_below (size i) (λ k. word_at acc r k * word_at u k (at e)) (λ k. word_at acc r k * (entry_at value atoms l.factor (with_index at i k) * 1))
      (λ k below.
      ap (λ n. word_at acc r k * n)
      (sym (link.entry (with_index at i k) (subst (λ n. n < size i) (sym (at_index at i k)) below) (subst (λ n. n < size e) (sym (at_other at i k e apart)) e_in)
      ∙ ap (λ n. word_at u n (with_index at i k e)) (at_index at i k) ∙ ap (word_at u k) (at_other at i k e apart))
      ∙ times_one (entry_at value atoms l.factor (with_index at i k)))))
  matrices_from free e n links (further l rest i j is summed more) acc height r at first r_in e_in differ none =
      let link = passes entries value size atoms sized l i j is in
      let u : Value = used_value value atoms l in
      let second : IsBlock u (size i) (size j) = record { whole = link.whole; rows = link.rows; columns = link.columns } in
      let apart : bytes_eq i e ≡ false = other_order e i (apart_from e i (j ∷ shared more) none) in
      let P : ℕ → ℕ = λ m. path_sum more (with_index at j m) in
      matrices_from free e j rest more (product acc u) height r at (product_block acc u height (size i) (size j) first second) r_in e_in
      (different_rest i (j ∷ shared more) differ) (omega (arith, none))
      ∙ congruent_below sums ranges (2 ^ 64) (size j) (λ m. word_at (product acc u) r m * P m)
      (λ m. sum_by (λ k. word_at acc r k * word_at u k m) (range_with_len 0 (size i)) * P m)
      (λ m below. times_congruent (2 ^ 64) (word_at (product acc u) r m) (sum_by (λ k. word_at acc r k * word_at u k m) (range_with_len 0 (size i))) (P m) (P m)
      (ap (λ n. n % 2 ^ 64) (product_word acc u height (size i) (size j) r m first second r_in below)
      ∙ mod-mod (sum_by (λ k. word_at acc r k * word_at u k m) (range_with_len 0 (size i))) (2 ^ 64))
      refl)
      ∙ ap (λ n. n % 2 ^ 64)
      (regrouped (size i) (size j) (word_at acc r) (word_at u) P
      ∙ ranges.same_below (size i) (λ k. word_at acc r k * sum_by (λ m. word_at u k m * P m) (range_with_len 0 (size j)))
      (λ k. word_at acc r k * over_all size (j ∷ shared more) (λ v. entry_at value atoms l.factor v * links_product value atoms rest v) (with_index at i k))
      (λ k below. ap (λ n. word_at acc r k * n) (inner i j l rest is more apart differ k below)))
    where
      inner : (i j : Name) (l : Link) (rest : List Link) (is : Beside atoms l i (j ∷ [])) (more : Leads atoms free (e ∷ []) j rest) → bytes_eq i e ≡ false
          → Different (i ∷ j ∷ shared more) → (k : ℕ) → k < size i
          → sum_by (λ m. word_at (used_value value atoms l) k m * path_sum more (with_index at j m)) (range_with_len 0 (size j))
          ≡ over_all size (j ∷ shared more) (λ v. entry_at value atoms l.factor v * links_product value atoms rest v) (with_index at i k)
      inner i j l rest is more apart differ k below =
          let here : with_index at i k i ≡ k = at_index at i k in
          sums.same_terms (λ m. word_at (used_value value atoms l) k m * path_sum more (with_index at j m))
          (λ m. word_at (used_value value atoms l) (with_index at i k i) m * path_sum more (with_index (with_index at i k) j m)) (range_with_len 0 (size j))
          (λ m.
          ap (λ n. word_at (used_value value atoms l) n m * path_sum more (with_index at j m)) (sym here)
          ∙ ap (λ n. word_at (used_value value atoms l) (with_index at i k i) m * n)
          (sym (ap (path_sum more) (index.either_order at i j k m (front_differs i j (shared more) differ)) ∙ path_lacks free e i j rest more differ apart (with_index at j m) k)))
          ∙ sym (further_sum free (e ∷ []) l rest i j is more (with_index at i k) (subst (λ n. n < size i) (sym here) below) differ)

  pub matrices_sum : (free : List Name) (e i : Name) (l : Link) (links : List Link) (leads : Leads atoms free (e ∷ []) i (l ∷ links)) (at : Values)
      → at i < size i → at e < size e → Different (i ∷ shared leads) → times bytes_eq e (i ∷ shared leads) ≡ 0
      → word_at (product_from (used_value value atoms l) (used_values value atoms links)) (at i) (at e) % 2 ^ 64 ≡ path_sum leads at % 2 ^ 64
  matrices_sum free e n first links (last l i is) at i_in e_in differ none =
      let link = passes entries value size atoms sized l i e is in
      ap (λ n. n % 2 ^ 64) (sym (link.entry at i_in e_in) ∙ times_one (entry_at value atoms l.factor at))
  matrices_sum free e n first links (further l rest i j is summed more) at i_in e_in differ none =
      let link = passes entries value size atoms sized l i j is in
      matrices_from free e j rest more (used_value value atoms l) (size i) (at i) at (record { whole = link.whole; rows = link.rows; columns = link.columns }) i_in e_in
      (different_rest i (j ∷ shared more) differ) (omega (arith, none))
      ∙ ap (λ n. n % 2 ^ 64) (sym (further_sum free (e ∷ []) l rest i j is more at i_in differ))

  pub matrices_block : (free : List Name) (e i : Name) (l : Link) (links : List Link) (leads : Leads atoms free (e ∷ []) i (l ∷ links))
      → IsBlock (product_from (used_value value atoms l) (used_values value atoms links)) (size i) (size e)
  matrices_block free e n first links (last l i is) =
      let link = passes entries value size atoms sized l i e is in record { whole = link.whole; rows = link.rows; columns = link.columns }
  matrices_block free e n first links (further l rest i j is summed more) =
      let link = passes entries value size atoms sized l i j is in
      from_block free e j rest more (used_value value atoms l) (size i) (record { whole = link.whole; rows = link.rows; columns = link.columns })

  -- ---- groups from one free index

  -- the product of the groups' sums
  abbrev pub group_sums : {free : List Name} {i : Name} {groups : List (List Link)} → AllLead atoms free i groups → Values → ℕ
  group_sums (AllLead.none) at = 1
  group_sums (AllLead.one_more group groups leads more) at = path_sum leads at * group_sums more at

  pub groups_sum : (free : List Name) (i : Name) (groups : List (List Link)) (all : AllLead atoms free i groups) (at : Values) → Different (i ∷ group_names all)
      → over_all size (group_names all) (links_product value atoms (all_links groups)) at ≡ group_sums all at
  groups_sum free i none_left (AllLead.none) at differ = refl
  groups_sum free i all (AllLead.one_more group groups leads more) at differ =
      ap (λ links. over_all size (shared leads ++ group_names more) (links_product value atoms links) at) (flat_map-cons (λ g. g) group groups)
      ∙ ap (λ f. over_all size (shared leads ++ group_names more) f at)
      (fun_ext (λ v. products.appended (λ l. entry_at value atoms l.factor v) group (all_links groups)))
      ∙ index.separated size (shared leads) (group_names more) (links_product value atoms group) (links_product value atoms (all_links groups)) at
      (lacks_each (group_names more) (links_product value atoms group) (λ z stands. product_lacks value atoms z group (first_lacks group leads more differ z stands)))
      (lacks_each (shared leads) (links_product value atoms (all_links groups))
      (λ z stands. product_lacks value atoms z (all_links groups) (rest_lacks group groups leads more differ z stands)))
      ∙ ap (λ n. path_sum leads at * n) (groups_sum free i groups more at (rest_differ group groups leads more differ))
    where
      rest_differ : (group : List Link) (groups : List (List Link)) (leads : Leads atoms free [] i group) (more : AllLead atoms free i groups)
          → Different (i ∷ shared leads ++ group_names more) → Different (i ∷ group_names more)
      rest_differ group groups leads more differ z =
          let names : times bytes_eq z (shared leads ++ group_names more) ≡ times bytes_eq z (shared leads) + times bytes_eq z (group_names more) =
          times-append bytes_eq z (shared leads) (group_names more) in
          omega (arith, names, differ z)

      first_lacks : (group : List Link) {groups : List (List Link)} (leads : Leads atoms free [] i group) (more : AllLead atoms free i groups)
          → Different (i ∷ shared leads ++ group_names more) → (z : Name) → 0 < times bytes_eq z (group_names more) → stands_in atoms z group ≡ 0
      first_lacks group leads more differ z stands =
          let names : times bytes_eq z (shared leads ++ group_names more) ≡ times bytes_eq z (shared leads) + times bytes_eq z (group_names more) =
          times-append bytes_eq z (shared leads) (group_names more) in
          let count : stands_in atoms z group ≡ one_if (bytes_eq z i) + 2 * times bytes_eq z (shared leads) + one_if (is_among z []) = links_stand atoms simple z free [] i group leads in
          let same : counted (bytes_eq z i) ≡ one_if (bytes_eq z i) = counted_is (bytes_eq z i) in
          omega (arith, names, count, same, stands, differ z)

      rest_lacks : (group : List Link) (groups : List (List Link)) (leads : Leads atoms free [] i group) (more : AllLead atoms free i groups)
          → Different (i ∷ shared leads ++ group_names more) → (z : Name) → 0 < times bytes_eq z (shared leads) → stands_in atoms z (all_links groups) ≡ 0
      rest_lacks group groups leads more differ z stands =
          let names : times bytes_eq z (shared leads ++ group_names more) ≡ times bytes_eq z (shared leads) + times bytes_eq z (group_names more) =
          times-append bytes_eq z (shared leads) (group_names more) in
          let apart : bytes_eq z i ≡ false = counted-false (bytes_eq z i) (omega (arith, names, differ z, stands)) in
          let count : stands_in atoms z (all_links groups) ≡ 2 * times bytes_eq z (group_names more) = groups_stand atoms simple free i z groups more apart in
          omega (arith, names, count, stands, differ z)

  -- groups multiplied entry by entry
  joined_column : (acc w : Value) (count : ℕ) → IsColumn acc count → IsColumn w count → IsColumn (both mul acc w) count
  joined_column acc w count first second =
      record {
        whole = entries.both_whole mul acc w first.whole second.whole (first.rows ∙ sym second.rows) (first.columns ∙ sym second.columns);
        rows = first.rows;
        columns = first.columns;
      }

  pub entrywise_column : (free : List Name) (i : Name) (groups : List (List Link)) → AllLead atoms free i groups → (acc : Value) → IsColumn acc (size i)
      → IsColumn (entrywise_from acc (map (group_value value atoms) groups)) (size i)
  entrywise_column free i none_left (AllLead.none) acc first = first
  entrywise_column free i all (AllLead.one_more group groups leads more) acc first =
      entrywise_column free i groups more (both mul acc (nested_of group)) (joined_column acc (nested_of group) (size i) first (nested_column free i group leads))

  pub entrywise_sum : (free : List Name) (i : Name) (groups : List (List Link)) (all : AllLead atoms free i groups) (at : Values) (acc : Value) → IsColumn acc (size i)
      → at i < size i → Different (i ∷ group_names all)
      → word_at (entrywise_from acc (map (group_value value atoms) groups)) (at i) 0 % 2 ^ 64 ≡ (word_at acc (at i) 0 * group_sums all at) % 2 ^ 64
  entrywise_sum free i none_left (AllLead.none) at acc first i_in differ = ap (λ n. n % 2 ^ 64) (times_one (word_at acc (at i) 0))
  entrywise_sum free i all (AllLead.one_more group groups leads more) at acc first i_in differ =
      let w : Value = nested_of group in
      let second : IsColumn w (size i) = nested_column free i group leads in
      let names : (z : Name) → times bytes_eq z (shared leads ++ group_names more) ≡ times bytes_eq z (shared leads) + times bytes_eq z (group_names more) =
      λ z. times-append bytes_eq z (shared leads) (group_names more) in
      entrywise_sum free i groups more at (both mul acc w) (joined_column acc w (size i) first second) i_in (λ z. omega (arith, names z, differ z))
      ∙ times_congruent (2 ^ 64) (word_at (both mul acc w) (at i) 0) (word_at acc (at i) 0 * path_sum leads at) (group_sums more at) (group_sums more at)
      (ap (λ n. n % 2 ^ 64)
      (entries.both_entry mul acc w (at i) 0 first.whole second.whole (first.rows ∙ sym second.rows) (first.columns ∙ sym second.columns)
      (subst (λ n. at i < n) (sym first.rows) i_in) (subst (λ n. 0 < n) (sym first.columns) (omega arith))
      ∙ mul_is (word_at acc (at i) 0) (word_at w (at i) 0))
      ∙ mod-mod (word_at acc (at i) 0 * word_at w (at i) 0) (2 ^ 64)
      ∙ times_congruent (2 ^ 64) (word_at acc (at i) 0) (word_at acc (at i) 0) (word_at w (at i) 0) (path_sum leads at) refl
      (nested_sum free i group leads at i_in (λ z. omega (arith, names z, differ z))))
      refl
      ∙ ap (λ n. n % 2 ^ 64) (assoc (word_at acc (at i) 0) (path_sum leads at) (group_sums more at))
    where
      assoc : (a b c : ℕ) → a * b * c ≡ a * (b * c)
      assoc a b c = grind (arith)
