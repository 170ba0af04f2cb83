-- Declarations and programs keep what is printed of them.
use Rattle.std.proofs.Common.{◌≡◌, ℕ, List, ◌∷◌, ◌++◌, append_assoc, Option, refl, sym, subst, ap, ◌∙◌, arith, inl, inr}
use Rattle.std.specs.Prelude.{◌⊎◌}
use Rattle.std.specs.List.{flat_map}
use Rattle.std.proofs.lemmas.List.{map-id}
use Rattle.sim_lexer.specs.Words.{Word}
use Rattle.sim_lexer.specs.declared.token.TokenKind.{TokenKind}
use Rattle.sim_lexer.specs.declared.token.TokenKind.TheVariants.{Name, Keyword, Symbol}
use Rattle.sim_lexer.specs.declared.token.keyword.TheConstants as keyword
use Rattle.sim_lexer.specs.declared.token.symbol.TheConstants as symbol
use Rattle.sim_syntax.specs.declared.declaration.Decl.{Decl}
use Rattle.sim_syntax.specs.declared.declaration.Local.{Local}
use Rattle.sim_grammar.specs.Rule as rule
use Rattle.sim_grammar.specs.Rule.{Rule, Are, Joined, line_of, ◌⊗◌, ◌▸◌, ◌◂◌, Each, ◌∣◌, Made, Node, Separated, MaybeSome}
use Rattle.sim_grammar.specs.Grammar as grammar
use Rattle.sim_grammar.specs.Grammar.{NAME, NUM, Int, FuncStatement, MainStatement}
use Rattle.sim_grammar.specs.Trees.{Text, int_of, vector_of, matrix_of, int_kind_of, element_kind_of, ends_kind_of, param_of, vector_result_of, matrix_result_of, result_of, field_of, element_of, set_of, host_of, func_of, program_of}
use Rattle.sim_printer.specs.FirstLine as first
use Rattle.sim_printer.specs.Printed.{fixed, name, separated, listed, int_words, local_words, kind_words, param_words, shape_words, result_words, field_decl_words, declaration_words, statement_words, printed}
use Rattle.sim_printer.proofs.Lightness.{IsLight, light_fixed}
use Rattle.sim_printer.proofs.Keeping.{Keeps, HasWords, joined_light, keeps_both, keeps_after, keeps_before, keeps_each, keeps_either, keeps_as, keeps_made, keeps_node, keeps_name, keeps_number, keeps_separated, keeps_maybe_some, words_first, words_second, words_after, words_before, words_spelt}
use Rattle.sim_printer.proofs.KeptConditions.{listed_cons}
use Rattle.sim_printer.proofs.KeptStatements.{func_statement_kept, main_statement_kept}

-- ---- numbers and blocks

keeps_int : Keeps Int (λ scale. scale) int_words
keeps_int =
    keeps_as (keeps_before (rule.sym symbol.CLOSE_PAREN) refl (keeps_after (Keyword keyword.INT ∷ rule.sym symbol.OPEN_PAREN) refl keeps_number)) (λ v ws s. refl) (λ v ws s. refl)

words_int : HasWords Int
words_int = words_before (rule.sym symbol.CLOSE_PAREN) (words_after NUM (Keyword keyword.INT ∷ rule.sym symbol.OPEN_PAREN) (omega arith))

abbrev before_block : List TokenKind
before_block = Symbol symbol.CLOSE_BRACKET ∷ rule.sym symbol.OPEN_PAREN

keeps_local : Keeps grammar.Local first.local local_words
keeps_local =
    keeps_either (keeps_node int_of words_int keeps_int (λ line v. refl) (λ line v. refl)) (keeps_either
    (keeps_node vector_of (words_before (rule.sym symbol.CLOSE_PAREN) (words_after (NUM ⊗ before_block ▸ Int) (Keyword keyword.VECTOR ∷ rule.sym symbol.OPEN_BRACKET) (omega arith)))
    (keeps_before (rule.sym symbol.CLOSE_PAREN) refl (keeps_after (Keyword keyword.VECTOR ∷ rule.sym symbol.OPEN_BRACKET) refl (keeps_both keeps_number (keeps_after before_block refl keeps_int))))
    (λ line v. refl) (λ line v. refl))
    (keeps_node matrix_of (words_before (rule.sym symbol.CLOSE_PAREN) (words_after (NUM ⊗ rule.sym symbol.COMMA ▸ NUM ⊗ before_block ▸ Int) (Keyword keyword.MATRIX ∷ rule.sym symbol.OPEN_BRACKET) (omega arith)))
    (keeps_before (rule.sym symbol.CLOSE_PAREN) refl
    (keeps_after (Keyword keyword.MATRIX ∷ rule.sym symbol.OPEN_BRACKET) refl (keeps_both keeps_number (keeps_after (rule.sym symbol.COMMA) refl (keeps_both keeps_number (keeps_after before_block refl keeps_int))))))
    (λ line v. refl) (λ line v. refl)))

-- ---- parameters and results

keeps_kind : Keeps grammar.ParamKind first.param_kind kind_words
keeps_kind =
    keeps_either (keeps_node int_kind_of words_int keeps_int (λ line v. refl) (λ line v. refl)) (keeps_either
    (keeps_node element_kind_of (words_spelt Name) keeps_name (λ line v. refl) (λ line v. refl))
    (keeps_node ends_kind_of (words_before (rule.sym symbol.CLOSE_PAREN) (words_after (NAME ⊗ rule.sym symbol.STAR ▸ NUM) (rule.sym symbol.OPEN_PAREN) (omega arith)))
    (keeps_before (rule.sym symbol.CLOSE_PAREN) refl (keeps_after (rule.sym symbol.OPEN_PAREN) refl (keeps_both keeps_name (keeps_after (rule.sym symbol.STAR) refl keeps_number))))
    (λ line v. refl) (λ line v. refl)))

keeps_param : Keeps grammar.Param first.param param_words
keeps_param = keeps_node param_of (words_first (rule.sym symbol.COLON ▸ grammar.ParamKind) (words_spelt Name)) (keeps_both keeps_name (keeps_after (rule.sym symbol.COLON) refl keeps_kind)) (λ line v. refl) (λ line v. refl)

abbrev first_shape : Text × (Option Text × Local) → Text × (Option Text × Local)
first_shape v = (v.0, (v.1.0, first.local v.1.1))

keeps_shape : Keeps grammar.Shape first_shape (λ v. shape_words v.0 v.1.0 v.1.1)
keeps_shape =
    keeps_either
    (keeps_made vector_result_of (keeps_before (rule.sym symbol.CLOSE_PAREN) refl (keeps_after (Keyword keyword.VECTOR ∷ rule.sym symbol.OPEN_BRACKET) refl (keeps_both keeps_name (keeps_after before_block refl keeps_local))))
    (λ v. refl) (λ v. refl))
    (keeps_made matrix_result_of (keeps_before (rule.sym symbol.CLOSE_PAREN) refl
    (keeps_after (Keyword keyword.MATRIX ∷ rule.sym symbol.OPEN_BRACKET) refl (keeps_both keeps_name (keeps_after (rule.sym symbol.COMMA) refl (keeps_both keeps_name (keeps_after before_block refl keeps_local))))))
    (λ v. refl) (λ v. refl))

keeps_result : Keeps grammar.Result first.result result_words
keeps_result =
    keeps_node result_of (words_first (rule.sym symbol.COLON ▸ grammar.Shape) (words_spelt Name)) (keeps_both keeps_name (keeps_after (rule.sym symbol.COLON) refl keeps_shape))
    (λ line v. refl) (λ line v. refl)

keeps_field_decl : Keeps grammar.Field first.field field_decl_words
keeps_field_decl =
    keeps_node field_of (words_before (rule.sym symbol.SEMICOLON) (words_first (rule.sym symbol.COLON ▸ grammar.Local) (words_spelt Name)))
    (keeps_before (rule.sym symbol.SEMICOLON) refl (keeps_both keeps_name (keeps_after (rule.sym symbol.COLON) refl keeps_local))) (λ line v. refl) (λ line v. refl)

-- ---- declarations

keeps_element : Keeps grammar.Element first.declaration declaration_words
keeps_element =
    keeps_node element_of (words_before (rule.key keyword.END) (words_after (NAME ⊗ Each grammar.Field) (rule.key keyword.ELEMENT) (omega arith)))
    (keeps_before (rule.key keyword.END) refl (keeps_after (rule.key keyword.ELEMENT) refl (keeps_both keeps_name (keeps_each keeps_field_decl)))) (λ line v. refl) (λ line v. refl)

keeps_ends : Keeps (MaybeSome grammar.Ends) (λ ends. ends) (listed name)
keeps_ends =
    keeps_maybe_some
    (keeps_as (keeps_before (rule.sym symbol.CLOSE_PAREN) refl (keeps_after (rule.sym symbol.OPEN_PAREN) refl (keeps_separated keeps_name (rule.sym symbol.COMMA) refl)))
    (λ v ws j. sym (map-id v)) (λ v ws j. listed_cons name v j.first.second.0 j.first.second.1))
    refl refl

abbrev after_set_name : List TokenKind
after_set_name = Symbol symbol.COLON ∷ Keyword keyword.SET ∷ rule.sym symbol.OPEN_BRACE

-- a set, without the word before it
abbrev SetParts : Rule (Text × (Text × List Text))
SetParts = NAME ⊗ after_set_name ▸ NAME ⊗ rule.sym symbol.CLOSE_BRACE ▸ MaybeSome grammar.Ends ◂ rule.sym symbol.SEMICOLON

abbrev set_words : Text × (Text × List Text) → List Word
set_words v = (name v.0 ++ (fixed after_set_name ++ (name v.1.0 ++ (fixed (rule.sym symbol.CLOSE_BRACE) ++ listed name v.1.1)))) ++ fixed (rule.sym symbol.SEMICOLON)

keeps_set : Keeps SetParts (λ v. (v.0, (v.1.0, v.1.1))) set_words
keeps_set =
    keeps_before (rule.sym symbol.SEMICOLON) refl (keeps_both keeps_name (keeps_after after_set_name refl (keeps_both keeps_name (keeps_after (rule.sym symbol.CLOSE_BRACE) refl keeps_ends))))

abbrev after_args : List TokenKind
after_args = Symbol symbol.CLOSE_PAREN ∷ rule.sym symbol.ARROW

-- a host function, without the word before it
abbrev HostParts : Rule (Text × (List Text × Text))
HostParts = rule.key keyword.FUNC ▸ NAME ⊗ rule.sym symbol.OPEN_PAREN ▸ Separated (rule.sym symbol.COMMA) Int ⊗ after_args ▸ Int ◂ rule.sym symbol.SEMICOLON

abbrev host_words : Text × (List Text × Text) → List Word
host_words v =
    (fixed (rule.key keyword.FUNC) ++ (name v.0 ++ (fixed (rule.sym symbol.OPEN_PAREN) ++ (separated (rule.sym symbol.COMMA) int_words v.1.0 ++ (fixed after_args ++ int_words v.1.1))))) ++ fixed (rule.sym symbol.SEMICOLON)

keeps_ints : Keeps (Separated (rule.sym symbol.COMMA) Int) (λ scales. scales) (separated (rule.sym symbol.COMMA) int_words)
keeps_ints = keeps_as (keeps_separated keeps_int (rule.sym symbol.COMMA) refl) (λ v ws s. sym (map-id v)) (λ v ws s. refl)

keeps_host : Keeps HostParts (λ v. (v.0, (v.1.0, v.1.1))) host_words
keeps_host =
    keeps_before (rule.sym symbol.SEMICOLON) refl (keeps_after (rule.key keyword.FUNC) refl
    (keeps_both keeps_name (keeps_after (rule.sym symbol.OPEN_PAREN) refl (keeps_both keeps_ints (keeps_after after_args refl keeps_int)))))

abbrev extern : List Word
extern = fixed (rule.key keyword.EXTERN)

host_regroup : (a b o x c r i s : List Word) → a ++ b ++ (o ++ x ++ c) ++ r ++ i ++ s ≡ a ++ (b ++ (o ++ ((x ++ (c ++ (r ++ i))) ++ s)))
host_regroup a b o x c r i s = simp append_assoc

func_regroup : (a b o x c r y z e : List Word) → a ++ b ++ (o ++ x ++ c) ++ r ++ (o ++ y ++ c) ++ z ++ e ≡ a ++ (b ++ (o ++ ((x ++ (c ++ (r ++ (o ++ (y ++ (c ++ z)))))) ++ e)))
func_regroup a b o x c r y z e = simp append_assoc

module _ (line : ℕ) where
  extern_set : (v : Text × (Text × List Text)) → declaration_words (set_of line v) ≡ extern ++ set_words v
  extern_set v = refl

  extern_host : (v : Text × (List Text × Text)) → declaration_words (host_of line v) ≡ extern ++ host_words v
  extern_host v =
      host_regroup (fixed (Keyword keyword.EXTERN ∷ rule.key keyword.FUNC)) (name v.0) (fixed (rule.sym symbol.OPEN_PAREN)) (separated (rule.sym symbol.COMMA) int_words v.1.0) (fixed (rule.sym symbol.CLOSE_PAREN))
      (fixed (rule.sym symbol.ARROW)) (int_words v.1.1) (fixed (rule.sym symbol.SEMICOLON))

-- what is known of a declaration that follows the word extern
record FollowsExtern (d : Decl) (back : List Word) : Type 0 where
  words : List Word
  whole : declaration_words d ≡ extern ++ words
  states : (grammar.Set 1 ∣ grammar.Host 1).states (first.declaration d) words
  light : IsLight words back

follows_extern : (line : ℕ) (d : Decl) (back : List Word) → (grammar.Set line).states d back ⊎ (grammar.Host line).states d back → FollowsExtern d back
follows_extern line d back (inl (v, d_is, s)) = record {
  words = set_words v;
  whole = ap declaration_words d_is ∙ extern_set line v;
  states = inl (v, ap first.declaration d_is, keeps_set.states v back s);
  light = keeps_set.light v back s;
}
follows_extern line d back (inr (v, d_is, s)) = record {
  words = host_words v;
  whole = ap declaration_words d_is ∙ extern_host line v;
  states = inr (v, ap first.declaration d_is, keeps_host.states v back s);
  light = keeps_host.light v back s;
}

keeps_extern : Keeps grammar.Extern first.declaration declaration_words
keeps_extern = record {
  states = λ d ws j.
      let h = follows_extern (line_of ws) d j.back j.second in
      subst (grammar.Extern.states (first.declaration d)) (sym h.whole) (record { front = extern; back = h.words; parts = refl; first = refl; second = h.states });
  light = λ d ws j.
      let h = follows_extern (line_of ws) d j.back j.second in
      subst (λ p. IsLight p ws) (sym h.whole) (joined_light extern h.words ws j (light_fixed (rule.key keyword.EXTERN) j.front refl j.first) h.light);
}

abbrev before_results : List TokenKind
before_results = Symbol symbol.CLOSE_PAREN ∷ Symbol symbol.ARROW ∷ rule.sym symbol.OPEN_PAREN

keeps_func : (depth : ℕ) → Keeps (grammar.Func depth) first.declaration declaration_words
keeps_func depth =
    keeps_node func_of
    (words_before (rule.key keyword.END) (words_after (NAME ⊗ rule.sym symbol.OPEN_PAREN ▸ Separated (rule.sym symbol.COMMA) grammar.Param
    ⊗ before_results ▸ Separated (rule.sym symbol.COMMA) grammar.Result ⊗ rule.sym symbol.CLOSE_PAREN ▸ Each (FuncStatement depth)) (rule.key keyword.FUNC) (omega arith)))
    (keeps_before (rule.key keyword.END) refl (keeps_after (rule.key keyword.FUNC) refl (keeps_both keeps_name (keeps_after (rule.sym symbol.OPEN_PAREN) refl
    (keeps_both (keeps_separated keeps_param (rule.sym symbol.COMMA) refl) (keeps_after before_results refl
    (keeps_both (keeps_separated keeps_result (rule.sym symbol.COMMA) refl) (keeps_after (rule.sym symbol.CLOSE_PAREN) refl (keeps_each (func_statement_kept depth))))))))))
    (λ line v. refl)
    (λ line v. func_regroup (fixed (rule.key keyword.FUNC)) (name v.0) (fixed (rule.sym symbol.OPEN_PAREN)) (separated (rule.sym symbol.COMMA) param_words v.1.0) (fixed (rule.sym symbol.CLOSE_PAREN))
    (fixed (rule.sym symbol.ARROW)) (separated (rule.sym symbol.COMMA) result_words v.1.1.0) (flat_map statement_words v.1.1.1) (fixed (rule.key keyword.END)))

keeps_declaration : (depth : ℕ) → Keeps (grammar.Declaration depth) first.declaration declaration_words
keeps_declaration depth = keeps_either keeps_element (keeps_either keeps_extern (keeps_func depth))

pub program_kept : (depth : ℕ) → Keeps (grammar.Program depth) first.on_first_line printed
program_kept depth =
    keeps_node program_of
    (words_before (rule.key keyword.END) (words_second (Each (grammar.Declaration depth)) (words_after (Each (MainStatement depth)) (Keyword keyword.PROC ∷ rule.key keyword.MAIN) (omega arith))))
    (keeps_before (rule.key keyword.END) refl (keeps_both (keeps_each (keeps_declaration depth)) (keeps_after (Keyword keyword.PROC ∷ rule.key keyword.MAIN) refl (keeps_each (main_statement_kept depth)))))
    (λ line v. refl) (λ line v. simp append_assoc)
