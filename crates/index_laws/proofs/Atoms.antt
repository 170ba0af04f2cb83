-- Atoms, transposed matrices and scalar products as expressions that have a value wherever they have a type.
use Rattle.std.proofs.Common.{◌≡◌, ℕ, Bool, true, false, List, [], ◌∷◌, Option, None, Some, Result, Ok, Err, refl, sym, ap, ◌∙◌, subst}
use Rattle.std.specs.Prelude.{not, if◌then◌else◌, nat_lt}
use Rattle.vocabulary.specs.Answers.{◌>>=◌}
use Rattle.vocabulary.specs.declared.limits.TheConstants.{MOST_FIELD_SCALE}
use Rattle.sim_syntax.specs.declared.expression.Expr as tree
use Rattle.sim_syntax.specs.declared.expression.Expr.TheVariants as expr
use Rattle.sim_syntax.specs.declared.statement.IxAtom.{IxAtom}
use Rattle.sim_syntax.specs.declared.statement.IxAtom.TheVariants as atom
use Rattle.type_rules.specs.Rules.{call_rule, literal_rule, rank_rule, has_rank, transposed_rule, dot_rule, is_missing}
use Rattle.type_rules.specs.declared.types.BlockShape.TheVariants as block
use Rattle.type_rules.specs.declared.types.NodeType.{NodeType}
use Rattle.type_rules.specs.declared.types.NodeType.TheVariants as type
use Rattle.type_rules.specs.declared.types.TypeKind.{TypeKind}
use Rattle.type_rules.specs.declared.types.TypeKind.TheVariants as kind
use Rattle.typed_tree.specs.declared.environment.Environment.{Environment}
use Rattle.typed_tree.specs.declared.names.HostArguments.{HostArguments}
use Rattle.typed_tree.specs.declared.names.HostArguments.TheVariants as arguments
use Rattle.typed_tree.specs.declared.names.HostSignature.{HostSignature}
use Rattle.typed_tree.specs.declared.expression.Referent.{Referent}
use Rattle.typed_tree.specs.declared.expression.Referent.TheVariants as referent
use Rattle.typed_tree.specs.declared.expression.TypedExpr.{TypedExpr}
use Rattle.typed_tree.specs.declared.expression.TypedForm.{TypedForm}
use Rattle.typed_tree.specs.declared.expression.TypedForm.TheVariants as form
use Rattle.typed_tree.specs.Literals.{decimals_of, literal_word}
use Rattle.typed_tree.specs.Names.{Name}
use Rattle.typed_tree.specs.Steps.{Step, at_line}
use Rattle.typed_tree.specs.Expressions as typed
use Rattle.typed_tree.specs.Expressions.{called_or_named, expression, found, host_named, name_rule, node, numbered, ranked, reference_rule, scales_of, type_of, unary, binary, word_or_zero}
use Rattle.value_algebra.specs.declared.value.Value.{Value}
use Rattle.value_algebra.specs.Value.{number, transposed, dot}
use Rattle.value_laws.specs.Laws.{EntryLaws}
use Rattle.algebra_meaning.specs.Expression as meant
use Rattle.algebra_meaning.specs.Expression.{Scope, meaning, referred, transposed_part, scalar_product}
use Rattle.chain_forms.specs.Atoms.{indices_of}
use Rattle.chain_forms.specs.ChainForm.{IsSimple}
use Rattle.chain_forms.specs.Lowering.{made, rank_of}
use Rattle.expression_forms.specs.Meanings.{MeaningForms, part_is}
use Rattle.expression_forms.specs.Typings.{TypingForms}
use Rattle.index_meaning.specs.Agreement.{HasShape}
use Rattle.index_laws.specs.AtomValues.{atom_value, value_found}
use Rattle.index_laws.specs.Fits.{Fits, NamesFit}
use Rattle.index_laws.proofs.Answers.{same_Ok, and_then, at_line_Ok}
use Rattle.index_laws.proofs.Products.{IsSound, Sound}
use Rattle.index_laws.proofs.Rules as rules
use Rattle.index_laws.proofs.Rules.{Gives, Ranked}

number_unfolds : (line : ℕ) (digits : List ℕ) (next : ℕ)
    → typed.number line digits next ≡ (at_line line (literal_rule (decimals_of digits) (literal_word digits)) >>= λ t. Ok (numbered next line t (form.Number (word_or_zero (literal_word digits)))))
unfolding typed.number
number_unfolds line digits next = refl

reference_unfolds : (env : Environment) (line : ℕ) (name : Name) (field : Option Name) (rank : Option ℕ) (next : ℕ)
    → typed.reference env line name [] field [] rank next ≡ (at_line line (reference_rule env name [] field [] rank) >>= λ what. Ok (numbered next line what.1 (form.Ref what.0 [] [])))
unfolding typed.reference
reference_unfolds env line name field rank next = refl

pub literal_type : (scale : ℕ) (word : Option ℕ) (t : NodeType) → literal_rule scale word ≡ Ok t → type.Local block.Number scale ≡ t
unfolding literal_rule
literal_type scale word t is = by_tests (nat_lt MOST_FIELD_SCALE scale) (is_missing word) is
  where
    by_tests : (a b : Bool) → (if a then Err kind.Scale else if b then Err kind.TooLarge else Ok (type.Local block.Number scale)) ≡ Ok t → type.Local block.Number scale ≡ t
    by_tests true b answers = absurd (cc)
    by_tests false true answers = absurd (cc)
    by_tests false false answers = same_Ok (type.Local block.Number scale) t answers

pub ranked_type : (t : NodeType) (rank : ℕ) (u : NodeType) → rank_rule t rank ≡ Ok u → (has_rank t rank ≡ true) × (t ≡ u)
unfolding rank_rule
ranked_type t rank u is = by_test (has_rank t rank) is
  where
    by_test : (b : Bool) → (if not b then Err kind.Shape else Ok t) ≡ Ok u → (b ≡ true) × (t ≡ u)
    by_test true answers = (refl, same_Ok t u answers)
    by_test false answers = absurd (cc)

-- a host function is called with arguments, and so a name without any isn't one
no_call : (number scale : ℕ) (given : HostArguments) (w : Referent × NodeType) → found (referent.Host number) (call_rule (scales_of given) scale []) ≡ Ok w → ⊥
unfolding call_rule
no_call number scale (arguments.One first) w is = cc
no_call number scale (arguments.Two first second) w is = cc

named_alone : (env : Environment) (host : Option HostSignature) (name : Name) (field : Option Name) (w : Referent × NodeType)
    → called_or_named env host name [] field [] ≡ Ok w → name_rule env name [] field [] ≡ Ok w
unfolding called_or_named
named_alone env None name field w is = is
named_alone env (Some host) name field w is = absurd (no_call host.number host.scale host.arguments w is)

pub reference_means : (scope : Scope) (what : Referent) → meant.reference scope what [] [] ≡ Ok (referred scope what [] [])
unfolding meant.reference
reference_means scope what = refl

turned_means : (scope : Scope) (t : TypedExpr) (v : Value) → meaning scope t ≡ Ok v → transposed_part (part_is scope t) ≡ Ok (transposed v)
unfolding transposed_part
turned_means scope t v is = ap (λ m. m >>= λ x. Ok (transposed x)) is

dot_means : (scope : Scope) (t u : TypedExpr) (v w : Value) → meaning scope t ≡ Ok v → meaning scope u ≡ Ok w → scalar_product (part_is scope t) (part_is scope u) ≡ Ok (dot v w)
unfolding scalar_product
dot_means scope t u v w first second =
    ap (λ m. m >>= λ l. meaning scope u >>= λ r. Ok (dot l r)) first ∙ ap (λ m. m >>= λ r. Ok (dot v r)) second

unary_unfolds : (rule : NodeType → Result NodeType TypeKind) (make : TypedExpr → TypedForm) (line next : ℕ) (value : Step ℕ TypedExpr)
    → unary rule make line value next ≡ (value next >>= λ v. at_line line (rule (type_of v.0)) >>= λ t. Ok (numbered v.1 line t (make v.0)))
unfolding unary
unary_unfolds rule make line next value = refl

binary_unfolds : (rule : NodeType → NodeType → Result NodeType TypeKind) (make : TypedExpr → TypedExpr → TypedForm) (line next : ℕ) (left right : Step ℕ TypedExpr)
    → binary rule make line left right next
    ≡ (left next >>= λ l. right l.1 >>= λ r. at_line line (rule (type_of l.0) (type_of r.0)) >>= λ t. Ok (numbered r.1 line t (make l.0 r.0)))
unfolding binary
binary_unfolds rule make line next left right = refl

module _ (typing : TypingForms) (meanings : MeaningForms) (entries : EntryLaws) (env : Environment) (scope : Scope) where
  number_sound : (line : ℕ) (digits : List ℕ) → Sound env scope 0 (expr.Number line digits) (number (word_or_zero (literal_word digits))) (Unit {0})
  number_sound line digits next done is =
      let rule = literal_rule (decimals_of digits) (literal_word digits) in
      let form_here : TypedForm = form.Number (word_or_zero (literal_word digits)) in
      let all : (at_line line rule >>= λ t. Ok (numbered next line t form_here)) ≡ Ok done =
      sym (number_unfolds line digits next) ∙ ap (λ s. s next) (sym (typing.number_is env line digits)) ∙ is in
      let t = and_then (at_line line rule) (λ t. Ok (numbered next line t form_here)) done all in
      let known : type.Local block.Number (decimals_of digits) ≡ t.0 = literal_type (decimals_of digits) (literal_word digits) t.0 (at_line_Ok line rule t.0 t.1) in
      let whole : numbered next line (type.Local block.Number (decimals_of digits)) form_here ≡ done = ap (λ u. numbered next line u form_here) known ∙ same_Ok (numbered next line t.0 form_here) done t.2 in
      subst (λ d. IsSound scope 0 d.0 (number (word_or_zero (literal_word digits))) × Unit {0}) whole (
        record {
          meant = meanings.number_is scope (node next line (type.Local block.Number (decimals_of digits))) (word_or_zero (literal_word digits));
          ranked = refl;
          fits = record { whole = refl; rows = refl; columns = refl; blocks = tt };
        },
        tt,
      )

  name_sound : NamesFit env scope → (line : ℕ) (name : Name) (field : Option Name) (rank : ℕ)
      → Sound env scope rank (expr.Ref line name [] field [] (Some rank)) (value_found scope (name_rule env name [] field [])) (Unit {0})
  name_sound fit line name field rank next done is =
      let rule = reference_rule env name [] field [] (Some rank) in
      let all : (at_line line rule >>= λ what. Ok (numbered next line what.1 (form.Ref what.0 [] []))) ≡ Ok done =
      sym (reference_unfolds env line name field (Some rank) next) ∙ ap (λ s. s next) (sym (typing.reference_is env line name [] field [] (Some rank))) ∙ is in
      let what = and_then (at_line line rule) (λ what. Ok (numbered next line what.1 (form.Ref what.0 [] []))) done all in
      let called = and_then (called_or_named env (host_named env name field []) name [] field []) (ranked (Some rank)) what.0 (at_line_Ok line rule what.0 what.1) in
      let seen : (w : Referent × NodeType) × (name_rule env name [] field [] ≡ Ok w) × (ranked (Some rank) w ≡ Ok what.0) =
      (called.0, named_alone env (host_named env name field []) name field called.0 called.1, called.2) in
      let one = and_then (rank_rule seen.0.1 rank) (λ t. Ok (seen.0.0, t)) what.0 seen.2 in
      let same = ranked_type seen.0.1 rank one.0 one.1 in
      let stands : seen.0 ≡ what.0 = ap (λ t. (seen.0.0, t)) same.1 ∙ same_Ok (seen.0.0, one.0) what.0 one.2 in
      let whole : numbered next line seen.0.1 (form.Ref seen.0.0 [] []) ≡ done =
      ap (λ w. numbered next line w.1 (form.Ref w.0 [] [])) stands ∙ same_Ok (numbered next line what.0.1 (form.Ref what.0.0 [] [])) done what.2 in
      subst (λ d. IsSound scope rank d.0 (value_found scope (name_rule env name [] field [])) × Unit {0}) whole (
        record {
          meant = meanings.reference_is scope (node next line seen.0.1) seen.0.0 [] [] ∙ reference_means scope seen.0.0 ∙ ap (λ f. Ok (value_found scope f)) (sym seen.1);
          ranked = same.0;
          fits = subst (λ f. Fits scope.sets seen.0.1 (value_found scope f)) (sym seen.1) (fit name field seen.0.0 seen.0.1 seen.1);
        },
        tt,
      )

  pub made_sound : NamesFit env scope → (a : IxAtom) → Sound env scope (rank_of (indices_of a)) (made a) (atom_value env scope a) (Unit {0})
  made_sound fit (atom.Number line digits) = number_sound line digits
  made_sound fit (atom.Named line name field indices) = name_sound fit line name field (rank_of indices)

  pub turned_sound : (line : ℕ) (e : tree.Expr) (v : Value) (fact : Type 0) → Sound env scope 2 e v fact → Sound env scope 2 (expr.Transposed line e) (transposed v) fact
  turned_sound line e v fact sound next done is =
      let all : (expression env e next >>= λ v. at_line line (transposed_rule (type_of v.0)) >>= λ t. Ok (numbered v.1 line t (form.Transposed v.0))) ≡ Ok done =
      sym (unary_unfolds transposed_rule form.Transposed line next (expression env e)) ∙ ap (λ s. s next) (sym (typing.transposed_is env line e)) ∙ is in
      let one = and_then (expression env e next) (λ v. at_line line (transposed_rule (type_of v.0)) >>= λ t. Ok (numbered v.1 line t (form.Transposed v.0))) done all in
      let t = and_then (at_line line (transposed_rule (type_of one.0.0))) (λ t. Ok (numbered one.0.1 line t (form.Transposed one.0.0))) done one.2 in
      let here = sound next one.0 one.1 in
      let given = rules.turned entries scope.sets (type_of one.0.0) t.0 v here.0.ranked here.0.fits (at_line_Ok line (transposed_rule (type_of one.0.0)) t.0 t.1) in
      subst (λ d. IsSound scope 2 d.0 (transposed v) × fact) (same_Ok (numbered one.0.1 line t.0 (form.Transposed one.0.0)) done t.2) (
        record {
          meant = meanings.transposed_is scope (node one.0.1 line t.0) one.0.0 ∙ turned_means scope one.0.0 v here.0.meant;
          ranked = given.ranked;
          fits = given.fits;
        },
        here.1,
      )

  pub dot_sound : (line : ℕ) (e f : tree.Expr) (v w : Value) (fact other : Type 0) → Sound env scope 1 e v fact → Sound env scope 1 f w other
      → Sound env scope 0 (expr.Dot line e f) (dot v w) (fact × other × (v.rows ≡ w.rows))
  dot_sound line e f v w fact other first second next done is =
      let all : (expression env e next >>= λ l. expression env f l.1 >>= λ r. at_line line (dot_rule (type_of l.0) (type_of r.0)) >>= λ t. Ok (numbered r.1 line t (form.Dot l.0 r.0))) ≡ Ok done =
      sym (binary_unfolds dot_rule form.Dot line next (expression env e) (expression env f)) ∙ ap (λ s. s next) (sym (typing.dot_is env line e f)) ∙ is in
      let l = and_then (expression env e next) (λ l. expression env f l.1 >>= λ r. at_line line (dot_rule (type_of l.0) (type_of r.0)) >>= λ t. Ok (numbered r.1 line t (form.Dot l.0 r.0))) done all in
      let r = and_then (expression env f l.0.1) (λ r. at_line line (dot_rule (type_of l.0.0) (type_of r.0)) >>= λ t. Ok (numbered r.1 line t (form.Dot l.0.0 r.0))) done l.2 in
      let t = and_then (at_line line (dot_rule (type_of l.0.0) (type_of r.0.0))) (λ t. Ok (numbered r.0.1 line t (form.Dot l.0.0 r.0.0))) done r.2 in
      let here = first next l.0 l.1 in
      let there = second l.0.1 r.0 r.1 in
      let given = rules.dotted entries scope.sets (type_of l.0.0) (type_of r.0.0) t.0 v w here.0.ranked here.0.fits there.0.ranked there.0.fits
      (at_line_Ok line (dot_rule (type_of l.0.0) (type_of r.0.0)) t.0 t.1) in
      subst (λ d. IsSound scope 0 d.0 (dot v w) × (fact × other × (v.rows ≡ w.rows))) (same_Ok (numbered r.0.1 line t.0 (form.Dot l.0.0 r.0.0)) done t.2) (
        record {
          meant = meanings.dot_is scope (node r.0.1 line t.0) l.0.0 r.0.0 ∙ dot_means scope l.0.0 r.0.0 v w here.0.meant there.0.meant;
          ranked = given.0.ranked;
          fits = given.0.fits;
        },
        (here.1, there.1, given.1),
      )

  -- the same, with the shape that its value has by the number of its indices
  pub shape_of : (names : List Name) → IsSimple names → (t : TypedExpr) (v : Value) → IsSound scope (rank_of names) t v → HasShape names v
  shape_of names IsSimple.scalar t v sound = by_type (type_of t) (rules.number_type (type_of t) sound.ranked) sound.fits
    where
      by_type : (u : NodeType) → rules.IsNumber u → Fits scope.sets u v → HasShape [] v
      by_type u (rules.IsNumber.number scale) fits = HasShape.scalar v fits.whole fits.rows fits.columns
  shape_of names (IsSimple.vector i) t v sound = by_type (type_of t) (rules.vector_type (type_of t) sound.ranked) sound.fits
    where
      by_type : (u : NodeType) → rules.IsVector u → Fits scope.sets u v → HasShape (i ∷ []) v
      by_type u (rules.IsVector.vector set b scale) fits = HasShape.vector i v fits.whole fits.columns
  shape_of names (IsSimple.matrix i j differ) t v sound = HasShape.matrix i j v sound.fits.whole

  pub shaped_sound : NamesFit env scope → (a : IxAtom) → IsSimple (indices_of a)
      → Sound env scope (rank_of (indices_of a)) (made a) (atom_value env scope a) (HasShape (indices_of a) (atom_value env scope a))
  shaped_sound fit a simple next done is =
      let here = made_sound fit a next done is in (here.0, shape_of (indices_of a) simple done.0 (atom_value env scope a) here.0)
