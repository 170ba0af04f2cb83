-- What a chain is lowered to, as an expression that has its value wherever it has a type.
use Rattle.std.proofs.Common.{◌≡◌, ℕ, true, false, List, [], ◌∷◌, ◌++◌, map, Option, Some, None, refl, sym, ap, ◌∙◌, subst}
use Rattle.std.specs.Prelude.{slice_get}
use Rattle.std.specs.Option.{option_map_or}
use Rattle.std.specs.List.{flat_map}
use Rattle.std.proofs.lemmas.List.Concat.{flat_map-cons}
use Rattle.ring_words.specs.Word.{mul}
use Rattle.sim_syntax.specs.declared.expression.Expr as tree
use Rattle.sim_syntax.specs.declared.expression.Expr.TheVariants as expr
use Rattle.sim_syntax.specs.declared.statement.IxAtom.{IxAtom}
use Rattle.typed_tree.specs.declared.environment.Environment.{Environment}
use Rattle.value_algebra.specs.declared.value.Value.{Value}
use Rattle.value_algebra.specs.Value.{number, both, product, transposed, dot}
use Rattle.value_laws.specs.Laws.{EntryLaws}
use Rattle.algebra_meaning.specs.Expression.{Scope}
use Rattle.chain_forms.specs.declared.chain.Chain.{Chain}
use Rattle.chain_forms.specs.declared.chain.Chain.TheVariants as chain
use Rattle.chain_forms.specs.declared.chain.Link.{Link}
use Rattle.chain_forms.specs.Atoms.{Name, indices_of, indices_at}
use Rattle.chain_forms.specs.ChainForm.{IsSimple, Beside, Leads, AllLead, links_of}
use Rattle.chain_forms.specs.ChainForm.Leads.{last, further}
use Rattle.chain_forms.specs.Lowering as lowering
use Rattle.chain_forms.specs.Lowering.{factor, made, turned, used, used_at, nested}
use Rattle.expression_forms.specs.Meanings.{MeaningForms}
use Rattle.expression_forms.specs.Typings.{TypingForms}
use Rattle.index_meaning.specs.Agreement.{HasShape, first_rows, NextAgrees, LinksAgree, GroupsAgree, ChainAgrees}
use Rattle.index_meaning.specs.LoweredValues.{value_at, used_value, used_values, nested_value, product_from, entrywise_from, group_value}
use Rattle.index_laws.specs.AtomValues.{atom_value}
use Rattle.index_laws.specs.Fits.{NamesFit}
use Rattle.index_laws.proofs.Atoms.{shaped_sound, turned_sound, dot_sound}
use Rattle.index_laws.proofs.Products.{Sound, Combines, Factors, Facts, product_sound}

-- the value of each factor of links has its shape
pub data AllShaped (value : IxAtom → Value) (atoms : List IxAtom) : List Link → Type 0 where
  no_link : AllShaped value atoms []
  another_link : (l : Link) (links : List Link) → HasShape (indices_at atoms l.factor) (value_at value atoms l.factor) → AllShaped value atoms links → AllShaped value atoms (l ∷ links)

-- a fact for another
pub with_fact : (env : Environment) (scope : Scope) (rank : ℕ) (e : tree.Expr) (v : Value) (fact other : Type 0) → (fact → other) → Sound env scope rank e v fact → Sound env scope rank e v other
with_fact env scope rank e v fact other change sound next done is = let here = sound next done is in (here.0, change here.1)

-- the expression of a link
abbrev pub link_expr : List IxAtom → Link → tree.Expr
link_expr atoms l = option_map_or (turned l.against) (slice_get atoms l.factor) (expr.Number 0 [])

-- the atom at a position that has indices
atom_there : (o : Option IxAtom) (i : Name) (names : List Name) → option_map_or indices_of o [] ≡ i ∷ names → (a : IxAtom) × (o ≡ Some a) × (indices_of a ≡ i ∷ names)
atom_there None i names is = absurd (cc)
atom_there (Some a) i names is = (a, refl, is)

pub used_more : (atoms : List IxAtom) (l : Link) (links : List Link) (a : IxAtom) → slice_get atoms l.factor ≡ Some a
    → used atoms (l ∷ links) ≡ link_expr atoms l ∷ used atoms links
unfolding used
used_more atoms l links a is =
    flat_map-cons (λ l. used_at l (slice_get atoms l.factor)) l links
    ∙ ap (λ o. used_at l o ++ flat_map (λ l. used_at l (slice_get atoms l.factor)) links) is
    ∙ ap (λ o. option_map_or (turned l.against) o (expr.Number 0 []) ∷ flat_map (λ l. used_at l (slice_get atoms l.factor)) links) (sym is)

no_links : (atoms : List IxAtom) → used atoms [] ≡ []
unfolding used
no_links atoms = refl

pub beside_atom : (atoms : List IxAtom) (l : Link) (i : Name) (rest : List Name) → Beside atoms l i rest → (a : IxAtom) × (slice_get atoms l.factor ≡ Some a)
beside_atom atoms l k rest (Beside.vector factor i is) = let a = atom_there (slice_get atoms factor) i [] is in (a.0, a.1)
beside_atom atoms l k rest (Beside.straight factor i j is) = let a = atom_there (slice_get atoms factor) i (j ∷ []) is in (a.0, a.1)
beside_atom atoms l k rest (Beside.against factor i j is) = let a = atom_there (slice_get atoms factor) j (i ∷ []) is in (a.0, a.1)

pub used_leading : (atoms : List IxAtom) (free end : List Name) (i : Name) (links : List Link) → Leads atoms free end i links → used atoms links ≡ map (link_expr atoms) links
used_leading atoms free end k links (last l i is) =
    let a = beside_atom atoms l i end is in used_more atoms l [] a.0 a.1 ∙ ap (λ es. link_expr atoms l ∷ es) (no_links atoms)
used_leading atoms free end k links (further l rest i j is summed more) =
    let a = beside_atom atoms l i (j ∷ []) is in used_more atoms l rest a.0 a.1 ∙ ap (λ es. link_expr atoms l ∷ es) (used_leading atoms free end j rest more)

-- ---- expressions of two and of more

nested_two : (line : ℕ) (e f : tree.Expr) (es : List tree.Expr)
    → nested line (e ∷ f ∷ es) ≡ expr.Product line (factor line false e ∷ map (factor line false) (nested line (f ∷ es) ∷ []))
unfolding nested lowering.product
nested_two line e f es = refl

nested_one : (line : ℕ) (e : tree.Expr) → nested line (e ∷ []) ≡ e
unfolding nested
nested_one line e = refl

pub product_one : (line : ℕ) (e : tree.Expr) → lowering.product line false (e ∷ []) ≡ e
unfolding lowering.product
product_one line e = refl

pub product_more : (line : ℕ) (e f : tree.Expr) (es : List tree.Expr)
    → lowering.product line false (e ∷ f ∷ es) ≡ expr.Product line (factor line false e ∷ map (factor line false) (f ∷ es))
unfolding lowering.product
product_more line e f es = refl

entrywise_one : (line : ℕ) (e : tree.Expr) → lowering.product line true (e ∷ []) ≡ e
unfolding lowering.product
entrywise_one line e = refl

entrywise_more : (line : ℕ) (e f : tree.Expr) (es : List tree.Expr)
    → lowering.product line true (e ∷ f ∷ es) ≡ expr.Product line (factor line false e ∷ map (factor line true) (f ∷ es))
unfolding lowering.product
entrywise_more line e f es = refl

product_rows : (l r : Value) → (product l r).rows ≡ l.rows
unfolding product
product_rows l r = refl

product_columns : (l r : Value) → (product l r).columns ≡ r.columns
unfolding product
product_columns l r = refl

module _ (typing : TypingForms) (meanings : MeaningForms) (entries : EntryLaws) (env : Environment) (scope : Scope) (fit : NamesFit env scope)
    (atoms : List IxAtom) (simple : (position : ℕ) → IsSimple (indices_at atoms position)) where
  abbrev pub LinkShape : Link → Type 0
  LinkShape l = HasShape (indices_at atoms l.factor) (value_at (atom_value env scope) atoms l.factor)

  -- ---- one link

  atom_sound : (position : ℕ) (a : IxAtom) → slice_get atoms position ≡ Some a
      → Sound env scope (lowering.rank_of (indices_of a)) (made a) (atom_value env scope a) (HasShape (indices_at atoms position) (value_at (atom_value env scope) atoms position))
  atom_sound position a is =
      subst (λ o. Sound env scope (lowering.rank_of (indices_of a)) (made a) (atom_value env scope a) (HasShape (option_map_or indices_of o []) (option_map_or (atom_value env scope) o (number 0)))) (sym is)
      (shaped_sound typing meanings entries env scope fit a (subst (λ o. IsSimple (option_map_or indices_of o [])) is (simple position)))

  pub vector_link : (l : Link) (i : Name) → Beside atoms l i [] → Sound env scope 1 (link_expr atoms l) (used_value (atom_value env scope) atoms l) (LinkShape l)
  vector_link l k (Beside.vector factor i is) =
      let a = atom_there (slice_get atoms factor) i [] is in
      subst (λ o. Sound env scope 1 (option_map_or (turned false) o (expr.Number 0 [])) (option_map_or (atom_value env scope) o (number 0)) (LinkShape (record { factor = factor; against = false }))) (sym a.1)
      (subst (λ names. Sound env scope (lowering.rank_of names) (made a.0) (atom_value env scope a.0) (LinkShape (record { factor = factor; against = false }))) a.2 (atom_sound factor a.0 a.1))

  pub matrix_link : (l : Link) (i j : Name) → Beside atoms l i (j ∷ []) → Sound env scope 2 (link_expr atoms l) (used_value (atom_value env scope) atoms l) (LinkShape l)
  matrix_link l k n (Beside.straight factor i j is) =
      let a = atom_there (slice_get atoms factor) i (j ∷ []) is in
      subst (λ o. Sound env scope 2 (option_map_or (turned false) o (expr.Number 0 [])) (option_map_or (atom_value env scope) o (number 0)) (LinkShape (record { factor = factor; against = false }))) (sym a.1)
      (subst (λ names. Sound env scope (lowering.rank_of names) (made a.0) (atom_value env scope a.0) (LinkShape (record { factor = factor; against = false }))) a.2 (atom_sound factor a.0 a.1))
  matrix_link l k n (Beside.against factor i j is) =
      let a = atom_there (slice_get atoms factor) j (i ∷ []) is in
      subst (λ o. Sound env scope 2 (option_map_or (turned true) o (expr.Number 0 [])) (transposed (option_map_or (atom_value env scope) o (number 0))) (LinkShape (record { factor = factor; against = true }))) (sym a.1)
      (turned_sound typing meanings entries env scope (lowering.line_of a.0) (made a.0) (atom_value env scope a.0) (LinkShape (record { factor = factor; against = true }))
      (subst (λ names. Sound env scope (lowering.rank_of names) (made a.0) (atom_value env scope a.0) (LinkShape (record { factor = factor; against = true }))) a.2 (atom_sound factor a.0 a.1)))

  -- ---- nested products

  abbrev pub nested_of : List Link → Value
  nested_of links = nested_value (used_values (atom_value env scope) atoms links)

  abbrev pub used_of : Link → Value
  used_of l = used_value (atom_value env scope) atoms l

  -- what holds of links
  abbrev pub LinksHold : List Link → Type 0
  LinksHold links = AllShaped (atom_value env scope) atoms links × LinksAgree (atom_value env scope) atoms links

  nested_rows : (free end : List Name) (i : Name) (links : List Link) → Leads atoms free end i links → (nested_of links).rows ≡ first_rows (atom_value env scope) atoms links
  nested_rows free end k links (last l i is) = refl
  nested_rows free end k links (further l rest i j is summed (last m n was)) = product_rows (used_of l) (nested_of (m ∷ []))
  nested_rows free end k links (further l rest i j is summed (further m others n o was summed_too more)) = product_rows (used_of l) (nested_of (m ∷ others))

  next_holds : (free end : List Name) (j : Name) (l : Link) (rest : List Link) → Leads atoms free end j rest → (used_of l).columns ≡ first_rows (atom_value env scope) atoms rest
      → NextAgrees (atom_value env scope) atoms l rest
  next_holds free end k l links (last m j is) agrees = agrees
  next_holds free end k l links (further m rest j n is summed more) agrees = agrees

  pub nested_sound : (line : ℕ) (free : List Name) (i : Name) (links : List Link) → Leads atoms free [] i links
      → Sound env scope 1 (nested line (map (link_expr atoms) links)) (nested_of links) (LinksHold links)
  nested_sound line free k links (last l i is) =
      subst (λ e. Sound env scope 1 e (used_of l) (LinksHold (l ∷ []))) (sym (nested_one line (link_expr atoms l)))
      (with_fact env scope 1 (link_expr atoms l) (used_of l) (LinkShape l) (LinksHold (l ∷ [])) (λ shape. (AllShaped.another_link l [] shape AllShaped.no_link, (tt, tt))) (vector_link l i is))
  nested_sound line free k links (further l rest i j is summed more) =
      by_rest line free i j l rest is more (nested_sound line free j rest more) (nested_rows free [] j rest more)
    where
      applied_to : (line : ℕ) (i j : Name) (l : Link) (is : Beside atoms l i (j ∷ [])) (e : tree.Expr) (w : Value) (fact : Type 0) → Sound env scope 1 e w fact
          → Sound env scope 1 (expr.Product line (factor line false (link_expr atoms l) ∷ map (factor line false) (e ∷ []))) (product (used_of l) w)
          (LinkShape l × (fact × ((used_of l).columns ≡ w.rows) × Unit {0}))
      applied_to line i j l is e w fact sound =
          product_sound typing meanings entries env scope line false 2 1 (link_expr atoms l) (e ∷ []) (used_of l) (product (used_of l) w) (LinkShape l) (matrix_link l i j is)
          (Factors.another 2 1 1 1 (used_of l) w (product (used_of l) w) e [] fact Combines.applying sound (Factors.ended 1 (product (used_of l) w)))

      by_rest : (line : ℕ) (free : List Name) (i j : Name) (l : Link) (rest : List Link) (is : Beside atoms l i (j ∷ [])) (more : Leads atoms free [] j rest)
          → Sound env scope 1 (nested line (map (link_expr atoms) rest)) (nested_of rest) (LinksHold rest)
          → (nested_of rest).rows ≡ first_rows (atom_value env scope) atoms rest
          → Sound env scope 1 (nested line (map (link_expr atoms) (l ∷ rest))) (nested_of (l ∷ rest)) (LinksHold (l ∷ rest))
      by_rest line free i k l links is (last m j was) sound rows =
          subst (λ e. Sound env scope 1 e (product (used_of l) (nested_of (m ∷ []))) (LinksHold (l ∷ m ∷ []))) (sym (nested_two line (link_expr atoms l) (link_expr atoms m) []))
          (with_fact env scope 1 (expr.Product line (factor line false (link_expr atoms l) ∷ map (factor line false) (nested line (link_expr atoms m ∷ []) ∷ []))) (product (used_of l) (nested_of (m ∷ [])))
          (LinkShape l × (LinksHold (m ∷ []) × ((used_of l).columns ≡ (nested_of (m ∷ [])).rows) × Unit {0})) (LinksHold (l ∷ m ∷ []))
          (λ facts. (AllShaped.another_link l (m ∷ []) facts.0 facts.1.0.0, (facts.1.1, facts.1.0.1)))
          (applied_to line i j l is (nested line (link_expr atoms m ∷ [])) (nested_of (m ∷ [])) (LinksHold (m ∷ [])) sound))
      by_rest line free i k l links is (further m others j n was summed_too later) sound rows =
          subst (λ e. Sound env scope 1 e (product (used_of l) (nested_of (m ∷ others))) (LinksHold (l ∷ m ∷ others))) (sym (nested_two line (link_expr atoms l) (link_expr atoms m) (map (link_expr atoms) others)))
          (with_fact env scope 1 (expr.Product line (factor line false (link_expr atoms l) ∷ map (factor line false) (nested line (map (link_expr atoms) (m ∷ others)) ∷ [])))
          (product (used_of l) (nested_of (m ∷ others)))
          (LinkShape l × (LinksHold (m ∷ others) × ((used_of l).columns ≡ (nested_of (m ∷ others)).rows) × Unit {0})) (LinksHold (l ∷ m ∷ others))
          (λ facts. (AllShaped.another_link l (m ∷ others) facts.0 facts.1.0.0, (facts.1.1 ∙ rows, facts.1.0.1)))
          (applied_to line i j l is (nested line (map (link_expr atoms) (m ∷ others))) (nested_of (m ∷ others)) (LinksHold (m ∷ others)) sound))

  -- ---- products of matrices

  matrices_after : (free : List Name) (e i : Name) (links : List Link) → Leads atoms free (e ∷ []) i links → (acc : Value)
      → Factors env scope false 2 acc (map (link_expr atoms) links) 2 (product_from acc (used_values (atom_value env scope) atoms links))
  matrices_after free e k links (last l i is) acc =
      Factors.another 2 2 2 2 acc (used_of l) (product acc (used_of l)) (link_expr atoms l) [] (LinkShape l) Combines.multiplying (matrix_link l i e is) (Factors.ended 2 (product acc (used_of l)))
  matrices_after free e k links (further l rest i j is summed more) acc =
      Factors.another 2 2 2 2 acc (used_of l) (product_from (product acc (used_of l)) (used_values (atom_value env scope) atoms rest)) (link_expr atoms l) (map (link_expr atoms) rest) (LinkShape l)
      Combines.multiplying (matrix_link l i j is) (matrices_after free e j rest more (product acc (used_of l)))

  matrices_hold : (free : List Name) (e i : Name) (links : List Link) (leads : Leads atoms free (e ∷ []) i links) (acc : Value) → Facts (matrices_after free e i links leads acc)
      → AllShaped (atom_value env scope) atoms links × (acc.columns ≡ first_rows (atom_value env scope) atoms links) × LinksAgree (atom_value env scope) atoms links
  unfolding matrices_after
  matrices_hold free e k links (last l i is) acc facts = (AllShaped.another_link l [] facts.0 AllShaped.no_link, facts.1, (tt, tt))
  matrices_hold free e k links (further l rest i j is summed more) acc facts =
      let later = matrices_hold free e j rest more (product acc (used_of l)) facts.2 in (
        AllShaped.another_link l rest facts.0 later.0,
        facts.1,
        (next_holds free (e ∷ []) j l rest more (sym (product_columns acc (used_of l)) ∙ later.1), later.2),
      )

  pub matrices_sound : (line : ℕ) (free : List Name) (e i : Name) (l : Link) (links : List Link) → Leads atoms free (e ∷ []) i (l ∷ links)
      → Sound env scope 2 (lowering.product line false (map (link_expr atoms) (l ∷ links))) (product_from (used_of l) (used_values (atom_value env scope) atoms links)) (LinksHold (l ∷ links))
  matrices_sound line free e k first links (last l i is) =
      subst (λ o. Sound env scope 2 o (used_of l) (LinksHold (l ∷ []))) (sym (product_one line (link_expr atoms l)))
      (with_fact env scope 2 (link_expr atoms l) (used_of l) (LinkShape l) (LinksHold (l ∷ [])) (λ shape. (AllShaped.another_link l [] shape AllShaped.no_link, (tt, tt))) (matrix_link l i e is))
  matrices_sound line free e k first links (further l rest i j is summed more) =
      subst (λ o. Sound env scope 2 o (product_from (used_of l) (used_values (atom_value env scope) atoms rest)) (LinksHold (l ∷ rest))) (sym (several line l rest free e j more))
      (with_fact env scope 2 (expr.Product line (factor line false (link_expr atoms l) ∷ map (factor line false) (map (link_expr atoms) rest)))
      (product_from (used_of l) (used_values (atom_value env scope) atoms rest)) (LinkShape l × Facts (matrices_after free e j rest more (used_of l))) (LinksHold (l ∷ rest))
      (λ facts. let later = matrices_hold free e j rest more (used_of l) facts.1 in
      (AllShaped.another_link l rest facts.0 later.0, (next_holds free (e ∷ []) j l rest more later.1, later.2)))
      (product_sound typing meanings entries env scope line false 2 2 (link_expr atoms l) (map (link_expr atoms) rest) (used_of l)
      (product_from (used_of l) (used_values (atom_value env scope) atoms rest)) (LinkShape l) (matrix_link l i j is) (matrices_after free e j rest more (used_of l))))
    where
      several : (line : ℕ) (l : Link) (rest : List Link) (free : List Name) (e j : Name) → Leads atoms free (e ∷ []) j rest
          → lowering.product line false (map (link_expr atoms) (l ∷ rest)) ≡ expr.Product line (factor line false (link_expr atoms l) ∷ map (factor line false) (map (link_expr atoms) rest))
      several line l links free e k (last m j was) = product_more line (link_expr atoms l) (link_expr atoms m) []
      several line l links free e k (further m others j n was summed_too later) = product_more line (link_expr atoms l) (link_expr atoms m) (map (link_expr atoms) others)

  -- ---- groups

  abbrev pub group_expr : ℕ → List Link → tree.Expr
  group_expr line group = nested line (map (link_expr atoms) group)

  groups_after : (line : ℕ) (free : List Name) (i : Name) (groups : List (List Link)) → AllLead atoms free i groups → (acc : Value)
      → Factors env scope true 1 acc (map (group_expr line) groups) 1 (entrywise_from acc (map (group_value (atom_value env scope) atoms) groups))
  groups_after line free i none_left (AllLead.none) acc = Factors.ended 1 acc
  groups_after line free i all (AllLead.one_more group groups leads more) acc =
      Factors.another 1 1 1 1 acc (nested_of group) (entrywise_from (both mul acc (nested_of group)) (map (group_value (atom_value env scope) atoms) groups)) (group_expr line group)
      (map (group_expr line) groups) (LinksHold group) Combines.joining (nested_sound line free i group leads) (groups_after line free i groups more (both mul acc (nested_of group)))

  shaped_append : (links others : List Link) → AllShaped (atom_value env scope) atoms links → AllShaped (atom_value env scope) atoms others → AllShaped (atom_value env scope) atoms (links ++ others)
  shaped_append none_left others AllShaped.no_link more = more
  shaped_append all others (AllShaped.another_link l links shape rest) more = AllShaped.another_link l (links ++ others) shape (shaped_append links others rest more)

  groups_hold : (line : ℕ) (free : List Name) (i : Name) (groups : List (List Link)) (all : AllLead atoms free i groups) (acc : Value) (rows : ℕ) → acc.rows ≡ rows
      → Facts (groups_after line free i groups all acc)
      → AllShaped (atom_value env scope) atoms (flat_map (λ group. group) groups) × GroupsAgree (atom_value env scope) atoms rows groups
  unfolding groups_after
  groups_hold line free i none_left (AllLead.none) acc rows is facts = (AllShaped.no_link, tt)
  groups_hold line free i all (AllLead.one_more group groups leads more) acc rows is facts =
      let later = groups_hold line free i groups more (both mul acc (nested_of group)) rows is facts.2 in (
        subst (AllShaped (atom_value env scope) atoms) (sym (flat_map-cons (λ group. group) group groups)) (shaped_append group (flat_map (λ group. group) groups) facts.0.0 later.0),
        (sym (nested_rows free [] i group leads) ∙ sym facts.1 ∙ is, facts.0.1, later.1),
      )

  -- what holds of a chain
  abbrev pub ChainHolds : Chain → Type 0
  ChainHolds ordering = AllShaped (atom_value env scope) atoms (links_of ordering) × ChainAgrees (atom_value env scope) atoms ordering

  pub groups_sound : (line : ℕ) (i : Name) (group : List Link) (others : List (List Link)) → AllLead atoms (i ∷ []) i (group ∷ others)
      → Sound env scope 1 (lowering.product line true (map (group_expr line) (group ∷ others)))
      (entrywise_from (nested_of group) (map (group_value (atom_value env scope) atoms) others)) (ChainHolds (chain.Groups (group ∷ others)))
  groups_sound line i g gs (AllLead.one_more group groups leads more) = by_more groups more
    where
      one : Sound env scope 1 (group_expr line group) (nested_of group) (LinksHold group)
      one = nested_sound line (i ∷ []) i group leads

      whole : (groups : List (List Link)) → AllShaped (atom_value env scope) atoms group → AllShaped (atom_value env scope) atoms (flat_map (λ g. g) groups)
          → AllShaped (atom_value env scope) atoms (flat_map (λ g. g) (group ∷ groups))
      whole groups first rest =
          subst (AllShaped (atom_value env scope) atoms) (sym (flat_map-cons (λ g. g) group groups)) (shaped_append group (flat_map (λ g. g) groups) first rest)

      by_more : (groups : List (List Link)) → AllLead atoms (i ∷ []) i groups
          → Sound env scope 1 (lowering.product line true (map (group_expr line) (group ∷ groups))) (entrywise_from (nested_of group) (map (group_value (atom_value env scope) atoms) groups))
          (ChainHolds (chain.Groups (group ∷ groups)))
      by_more [] leading =
          subst (λ o. Sound env scope 1 o (nested_of group) (ChainHolds (chain.Groups (group ∷ [])))) (sym (entrywise_one line (group_expr line group)))
          (with_fact env scope 1 (group_expr line group) (nested_of group) (LinksHold group) (ChainHolds (chain.Groups (group ∷ [])))
          (λ facts. (whole [] facts.0 AllShaped.no_link, (facts.1, tt))) one)
      by_more (h ∷ hs) leading =
          subst (λ o. Sound env scope 1 o (entrywise_from (nested_of group) (map (group_value (atom_value env scope) atoms) (h ∷ hs))) (ChainHolds (chain.Groups (group ∷ h ∷ hs))))
          (sym (entrywise_more line (group_expr line group) (group_expr line h) (map (group_expr line) hs)))
          (with_fact env scope 1 (expr.Product line (factor line false (group_expr line group) ∷ map (factor line true) (map (group_expr line) (h ∷ hs))))
          (entrywise_from (nested_of group) (map (group_value (atom_value env scope) atoms) (h ∷ hs)))
          (LinksHold group × Facts (groups_after line (i ∷ []) i (h ∷ hs) leading (nested_of group))) (ChainHolds (chain.Groups (group ∷ h ∷ hs)))
          (λ facts.
          let later = groups_hold line (i ∷ []) i (h ∷ hs) leading (nested_of group) (first_rows (atom_value env scope) atoms group) (nested_rows (i ∷ []) [] i group leads) facts.1 in
          (whole (h ∷ hs) facts.0.0 later.0, (facts.0.1, later.1)))
          (product_sound typing meanings entries env scope line true 1 1 (group_expr line group) (map (group_expr line) (h ∷ hs)) (nested_of group)
          (entrywise_from (nested_of group) (map (group_value (atom_value env scope) atoms) (h ∷ hs))) (LinksHold group) one
          (groups_after line (i ∷ []) i (h ∷ hs) leading (nested_of group))))

  -- ---- a vector and what comes after it

  pub between_sound : (line : ℕ) (first : Link) (rest : List Link) (i : Name) → Beside atoms first i [] → Leads atoms [] [] i rest
      → Sound env scope 0 (lowering.dot line (map (link_expr atoms) (first ∷ rest))) (dot (used_of first) (nested_of rest)) (ChainHolds (chain.Between first rest))
  unfolding lowering.dot
  between_sound line first rest i is leads =
      with_fact env scope 0 (expr.Dot line (link_expr atoms first) (nested line (map (link_expr atoms) rest))) (dot (used_of first) (nested_of rest))
      (LinkShape first × LinksHold rest × ((used_of first).rows ≡ (nested_of rest).rows)) (ChainHolds (chain.Between first rest))
      (λ facts. (AllShaped.another_link first rest facts.0 facts.1.0, (facts.2 ∙ nested_rows [] [] i rest leads, facts.1.1)))
      (dot_sound typing meanings entries env scope line (link_expr atoms first) (nested line (map (link_expr atoms) rest)) (used_of first) (nested_of rest) (LinkShape first) (LinksHold rest)
      (vector_link first i is) (nested_sound line [] i rest leads))
