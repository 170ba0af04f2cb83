-- Statements keep what is printed of them.
use Rattle.std.proofs.Common.{◌≡◌, ℕ, zero, suc, List, [], ◌∷◌, ◌++◌, append_assoc, map, Option, Some, None, refl, sym, subst, ap, ◌∙◌, arith, inl, inr}
use Rattle.std.specs.List.{flat_map}
use Rattle.std.proofs.lemmas.List.{map-id}
use Rattle.std.proofs.lemmas.List.Folds.{flat_map-map}
use Rattle.sim_lexer.specs.Words.{Word}
use Rattle.sim_lexer.specs.declared.token.TokenKind.{TokenKind}
use Rattle.sim_lexer.specs.declared.token.TokenKind.TheVariants.{Name}
use Rattle.sim_lexer.specs.declared.token.keyword.TheConstants as keyword
use Rattle.sim_lexer.specs.declared.token.symbol.TheConstants as symbol
use Rattle.sim_syntax.specs.declared.expression.Expr.{Expr}
use Rattle.sim_syntax.specs.declared.condition.Cond.{Cond}
use Rattle.sim_syntax.specs.declared.statement.Stmt.{Stmt}
use Rattle.sim_syntax.specs.declared.statement.Stmt.TheVariants as stmt
use Rattle.sim_syntax.specs.declared.statement.Stmt.TheOpen.{Stmt-F}
use Rattle.sim_syntax.specs.declared.statement.Stmt.TheFolds as folds
use Rattle.sim_syntax.specs.declared.statement.Right.{Right}
use Rattle.sim_syntax.specs.declared.statement.Place.{Place}
use Rattle.sim_syntax.specs.declared.statement.Target.{Target}
use Rattle.sim_grammar.specs.Rule as rule
use Rattle.sim_grammar.specs.Rule.{Rule, Are, Joined, ◌⊗◌, ◌▸◌, ◌◂◌, StateEach, Each, ◌∣◌, Fixed, Made, Node, Separated, OneOrTwo, Maybe, MaybeSome, Whether}
use Rattle.sim_grammar.specs.Grammar as grammar
use Rattle.sim_grammar.specs.Grammar.{NAME, NUM, Condition, Expression, FuncStatement, MainStatement}
use Rattle.sim_grammar.specs.Trees.{Text, target_of, if_of, assert_of, local_var_of, named_stmt_of, const_for_of, var_of, assign_of, while_of, for_of}
use Rattle.sim_printer.specs.FirstLine as first
use Rattle.sim_printer.specs.Printed.{fixed, name, number, separated, in_parentheses, cond_words, target_words, place_words, right_words, expression_words, all_words, else_words, statement_node, statement_words}
use Rattle.sim_printer.proofs.Lightness.{IsLight, light_nothing, light_fixed}
use Rattle.sim_printer.proofs.Keeping.{Keeps, HasWords, joined_light, keeps_both, keeps_after, keeps_before, keeps_each, keeps_either, keeps_node, keeps_name, keeps_number, keeps_one_or_two, keeps_maybe, words_first, words_after, words_before, words_spelt, words_node}
use Rattle.sim_printer.proofs.KeptExpressions.{InnerKept}
use Rattle.sim_printer.proofs.KeptSums.{expression_kept}
use Rattle.sim_printer.proofs.KeptConditions.{keeps_cond, keeps_target, keeps_place, keeps_sides}

-- ---- what is printed of each statement

abbrev comma : List TokenKind
comma = rule.sym symbol.COMMA

abbrev semicolon : List Word
semicolon = fixed (rule.sym symbol.SEMICOLON)

abbrev assign : List Word
assign = fixed (rule.sym symbol.ASSIGN)

abbrev ends : List Word
ends = fixed (rule.key keyword.END)

abbrev body_words : List Stmt → List Word
body_words body = flat_map statement_words body

abbrev otherwise_words : List Stmt → List Word
otherwise_words [] = []
otherwise_words (x ∷ xs) = fixed (rule.key keyword.ELSE) ++ body_words (x ∷ xs)

body-is : (body : List Stmt) → all_words (map statement_words body) ≡ body_words body
body-is body = flat_map-map (λ words. words) statement_words body

otherwise-is : (body : List Stmt) → else_words (map statement_words body) ≡ otherwise_words body
otherwise-is [] = refl
otherwise-is (x ∷ xs) = ap (λ (ws : List Word). fixed (rule.key keyword.ELSE) ++ ws) (body-is (x ∷ xs))

words-Var : (line : ℕ) (names : List Text) (right : Right) → statement_words (stmt.Var line names right) ≡ fixed (rule.key keyword.VAR) ++ separated comma name names ++ assign ++ right_words right ++ semicolon
unfolding statement_node
words-Var line names right = ap statement_words (sym (stmt.rolls-Var line names right)) ∙ folds.fold-roll-Stmt (List Word) statement_node (Stmt-F.Var line names right)

words-Assign : (line : ℕ) (targets : List Target) (right : Right) → statement_words (stmt.Assign line targets right) ≡ separated comma target_words targets ++ assign ++ right_words right ++ semicolon
unfolding statement_node
words-Assign line targets right = ap statement_words (sym (stmt.rolls-Assign line targets right)) ∙ folds.fold-roll-Stmt (List Word) statement_node (Stmt-F.Assign line targets right)

words-Write : (line : ℕ) (result : Text) (places : List Place) (value : Expr)
    → statement_words (stmt.Write line result places value) ≡ name result ++ in_parentheses (separated comma place_words places) ++ assign ++ expression_words value ++ semicolon
unfolding statement_node
words-Write line result places value = ap statement_words (sym (stmt.rolls-Write line result places value)) ∙ folds.fold-roll-Stmt (List Word) statement_node (Stmt-F.Write line result places value)

words-ConstFor : (line : ℕ) (text from to : Text) (body : List Stmt) → statement_words (stmt.ConstFor line text from to body)
    ≡ fixed (rule.key keyword.FOR) ++ name text ++ fixed (rule.key keyword.IN) ++ number from ++ fixed (rule.sym symbol.COLON) ++ number to ++ body_words body ++ ends
unfolding statement_node
words-ConstFor line text from to body =
    ap statement_words (sym (stmt.rolls-ConstFor line text from to body)) ∙ folds.fold-roll-Stmt (List Word) statement_node (Stmt-F.ConstFor line text from to body)
    ∙ ap (λ (ws : List Word). fixed (rule.key keyword.FOR) ++ name text ++ fixed (rule.key keyword.IN) ++ number from ++ fixed (rule.sym symbol.COLON) ++ number to ++ ws ++ ends) (body-is body)

words-For : (line : ℕ) (text : Text) (from to : Expr) (body : List Stmt) → statement_words (stmt.For line text from to body)
    ≡ fixed (rule.key keyword.FOR) ++ name text ++ fixed (rule.key keyword.IN) ++ expression_words from ++ fixed (rule.sym symbol.COLON) ++ expression_words to ++ body_words body ++ ends
unfolding statement_node
words-For line text from to body =
    ap statement_words (sym (stmt.rolls-For line text from to body)) ∙ folds.fold-roll-Stmt (List Word) statement_node (Stmt-F.For line text from to body)
    ∙ ap (λ (ws : List Word). fixed (rule.key keyword.FOR) ++ name text ++ fixed (rule.key keyword.IN) ++ expression_words from ++ fixed (rule.sym symbol.COLON) ++ expression_words to ++ ws ++ ends) (body-is body)

words-While : (line : ℕ) (cond : Cond) (body : List Stmt) → statement_words (stmt.While line cond body) ≡ fixed (rule.key keyword.WHILE) ++ cond_words cond ++ body_words body ++ ends
unfolding statement_node
words-While line cond body =
    ap statement_words (sym (stmt.rolls-While line cond body)) ∙ folds.fold-roll-Stmt (List Word) statement_node (Stmt-F.While line cond body)
    ∙ ap (λ (ws : List Word). fixed (rule.key keyword.WHILE) ++ cond_words cond ++ ws ++ ends) (body-is body)

words-If : (line : ℕ) (cond : Cond) (body otherwise : List Stmt) → statement_words (stmt.If line cond body otherwise) ≡ fixed (rule.key keyword.IF) ++ cond_words cond ++ body_words body ++ otherwise_words otherwise ++ ends
unfolding statement_node
words-If line cond body otherwise =
    ap statement_words (sym (stmt.rolls-If line cond body otherwise)) ∙ folds.fold-roll-Stmt (List Word) statement_node (Stmt-F.If line cond body otherwise)
    ∙ ap (λ (ws : List Word). fixed (rule.key keyword.IF) ++ cond_words cond ++ ws ++ else_words (map statement_words otherwise) ++ ends) (body-is body)
    ∙ ap (λ (ws : List Word). fixed (rule.key keyword.IF) ++ cond_words cond ++ body_words body ++ ws ++ ends) (otherwise-is otherwise)

words-Assert : (line : ℕ) (cond : Cond) → statement_words (stmt.Assert line cond) ≡ fixed (rule.key keyword.ASSERT) ++ cond_words cond ++ semicolon
unfolding statement_node
words-Assert line cond = ap statement_words (sym (stmt.rolls-Assert line cond)) ∙ folds.fold-roll-Stmt (List Word) statement_node (Stmt-F.Assert line cond)

-- ---- each statement on the first line

first-Var : (line : ℕ) (names : List Text) (right : Right) → first.statement (stmt.Var line names right) ≡ stmt.Var 1 names (first.right right)
unfolding first.statement_node
first-Var line names right = ap first.statement (sym (stmt.rolls-Var line names right)) ∙ folds.fold-roll-Stmt Stmt first.statement_node (Stmt-F.Var line names right)

first-Assign : (line : ℕ) (targets : List Target) (right : Right) → first.statement (stmt.Assign line targets right) ≡ stmt.Assign 1 (map first.target targets) (first.right right)
unfolding first.statement_node
first-Assign line targets right = ap first.statement (sym (stmt.rolls-Assign line targets right)) ∙ folds.fold-roll-Stmt Stmt first.statement_node (Stmt-F.Assign line targets right)

first-Write : (line : ℕ) (result : Text) (places : List Place) (value : Expr) → first.statement (stmt.Write line result places value) ≡ stmt.Write 1 result (map first.place places) (first.expression value)
unfolding first.statement_node
first-Write line result places value = ap first.statement (sym (stmt.rolls-Write line result places value)) ∙ folds.fold-roll-Stmt Stmt first.statement_node (Stmt-F.Write line result places value)

first-ConstFor : (line : ℕ) (text from to : Text) (body : List Stmt) → first.statement (stmt.ConstFor line text from to body) ≡ stmt.ConstFor 1 text from to (map first.statement body)
unfolding first.statement_node
first-ConstFor line text from to body = ap first.statement (sym (stmt.rolls-ConstFor line text from to body)) ∙ folds.fold-roll-Stmt Stmt first.statement_node (Stmt-F.ConstFor line text from to body)

first-For : (line : ℕ) (text : Text) (from to : Expr) (body : List Stmt) → first.statement (stmt.For line text from to body) ≡ stmt.For 1 text (first.expression from) (first.expression to) (map first.statement body)
unfolding first.statement_node
first-For line text from to body = ap first.statement (sym (stmt.rolls-For line text from to body)) ∙ folds.fold-roll-Stmt Stmt first.statement_node (Stmt-F.For line text from to body)

first-While : (line : ℕ) (cond : Cond) (body : List Stmt) → first.statement (stmt.While line cond body) ≡ stmt.While 1 (first.cond cond) (map first.statement body)
unfolding first.statement_node
first-While line cond body = ap first.statement (sym (stmt.rolls-While line cond body)) ∙ folds.fold-roll-Stmt Stmt first.statement_node (Stmt-F.While line cond body)

first-If : (line : ℕ) (cond : Cond) (body otherwise : List Stmt) → first.statement (stmt.If line cond body otherwise) ≡ stmt.If 1 (first.cond cond) (map first.statement body) (map first.statement otherwise)
unfolding first.statement_node
first-If line cond body otherwise = ap first.statement (sym (stmt.rolls-If line cond body otherwise)) ∙ folds.fold-roll-Stmt Stmt first.statement_node (Stmt-F.If line cond body otherwise)

first-Assert : (line : ℕ) (cond : Cond) → first.statement (stmt.Assert line cond) ≡ stmt.Assert 1 (first.cond cond)
unfolding first.statement_node
first-Assert line cond = ap first.statement (sym (stmt.rolls-Assert line cond)) ∙ folds.fold-roll-Stmt Stmt first.statement_node (Stmt-F.Assert line cond)

-- ---- rules

regroup : (a b c d e : List Word) → a ++ b ++ c ++ d ++ e ≡ (a ++ (b ++ (c ++ d))) ++ e
regroup a b c d e = simp append_assoc

abbrev first_places : Option (List Place) → Option (List Place)
first_places None = None
first_places (Some places) = Some (map first.place places)

abbrev places_words : Option (List Place) → List Word
places_words None = []
places_words (Some places) = fixed (rule.sym symbol.OPEN_PAREN) ++ separated comma place_words places ++ fixed (rule.sym symbol.CLOSE_PAREN)

-- the words of an else without statements are left out
light_else : (ws : List Word) → Joined (Are (rule.key keyword.ELSE)) (λ back. back ≡ []) ws → IsLight [] ws
light_else ws j =
    let whole = joined_light (fixed (rule.key keyword.ELSE)) [] ws j (light_fixed (rule.key keyword.ELSE) j.front refl j.first) (subst (IsLight []) (sym j.second) light_nothing) in
    record { few = let f = whole.few in omega arith; ends = λ d. whole.ends d; within = λ d h. tt; spelled = λ h. tt; plain = tt }

module _ {Value : Rule Expr} {Inside : Rule Stmt} (value : InnerKept Value) (inside : Keeps Inside first.statement statement_words) where
  keeps_body : Keeps (Each Inside) (map first.statement) body_words
  keeps_body = keeps_each inside

  some_else : Keeps (rule.key keyword.ELSE ▸ Each Inside) (map first.statement) (λ body. fixed (rule.key keyword.ELSE) ++ body_words body)
  some_else = keeps_after (rule.key keyword.ELSE) refl keeps_body

  else_states : (body : List Stmt) (ws : List Word) → (grammar.Else Value Inside).states body ws → (grammar.Else Value Inside).states (map first.statement body) (otherwise_words body)
  else_states [] ws s = inr (refl, refl)
  else_states (x ∷ xs) ws (inl j) = inl (some_else.states (x ∷ xs) ws j)
  else_states (x ∷ xs) ws (inr s) = absurd (let h = s.1 in cc)

  else_light : (body : List Stmt) (ws : List Word) → (grammar.Else Value Inside).states body ws → IsLight (otherwise_words body) ws
  else_light [] ws (inl j) = light_else ws j
  else_light [] ws (inr s) = light_fixed [] ws refl s.0
  else_light (x ∷ xs) ws (inl j) = some_else.light (x ∷ xs) ws j
  else_light (x ∷ xs) ws (inr s) = absurd (let h = s.1 in cc)

  keeps_else : Keeps (grammar.Else Value Inside) (map first.statement) otherwise_words
  keeps_else = record { states = else_states; light = else_light }

  keeps_if : Keeps (grammar.If Value Inside) first.statement statement_words
  keeps_if =
      keeps_node if_of (words_before (rule.key keyword.END) (words_after (Condition Value ⊗ Each Inside ⊗ grammar.Else Value Inside) (rule.key keyword.IF) (omega arith)))
      (keeps_before (rule.key keyword.END) refl (keeps_after (rule.key keyword.IF) refl (keeps_both (keeps_cond value) (keeps_both keeps_body keeps_else))))
      (λ line v. first-If line v.0 v.1.0 v.1.1) (λ line v. words-If line v.0 v.1.0 v.1.1 ∙ simp append_assoc)

  keeps_assert : Keeps (grammar.Assert Value Inside) first.statement statement_words
  keeps_assert =
      keeps_node assert_of (words_before (rule.sym symbol.SEMICOLON) (words_after (Condition Value) (rule.key keyword.ASSERT) (omega arith)))
      (keeps_before (rule.sym symbol.SEMICOLON) refl (keeps_after (rule.key keyword.ASSERT) refl (keeps_cond value))) (λ line v. first-Assert line v) (λ line v. words-Assert line v)

  -- ---- functions

  keeps_local_var : Keeps (grammar.LocalVar Value Inside) first.statement statement_words
  keeps_local_var =
      keeps_node local_var_of (words_before (rule.sym symbol.SEMICOLON) (words_after (NAME ⊗ rule.sym symbol.ASSIGN ▸ Value) (rule.key keyword.VAR) (omega arith)))
      (keeps_before (rule.sym symbol.SEMICOLON) refl (keeps_after (rule.key keyword.VAR) refl (keeps_both keeps_name (keeps_after (rule.sym symbol.ASSIGN) refl value.keeps))))
      (λ line v. first-Var line (v.0 ∷ []) _) (λ line v. words-Var line (v.0 ∷ []) _ ∙ simp append_assoc)

  keeps_places : Keeps (Maybe (grammar.Places Value Inside)) first_places places_words
  keeps_places =
      keeps_maybe (keeps_before (rule.sym symbol.CLOSE_PAREN) refl (keeps_after (rule.sym symbol.OPEN_PAREN) refl (keeps_one_or_two keeps_place comma refl))) (λ v. refl) refl (λ v. refl) refl

  abbrev NamedParts : Rule (Text × (Option (List Place) × Expr))
  NamedParts = NAME ⊗ Maybe (grammar.Places Value Inside) ⊗ rule.sym symbol.ASSIGN ▸ Value

  named_first : (line : ℕ) (text : Text) (places : Option (List Place)) (e : Expr) → first.statement (named_stmt_of line (text, (places, e))) ≡ named_stmt_of 1 (text, (first_places places, first.expression e))
  named_first line text None e = first-Assign line _ _
  named_first line text (Some places) e = first-Write line text places e

  named_words : (line : ℕ) (text : Text) (places : Option (List Place)) (e : Expr) → statement_words (named_stmt_of line (text, (places, e))) ≡ (name text ++ (places_words places ++ (assign ++ expression_words e))) ++ semicolon
  named_words line text None e = words-Assign line _ _
  named_words line text (Some places) e = words-Write line text places e ∙ regroup (name text) (in_parentheses (separated comma place_words places)) assign (expression_words e) semicolon

  keeps_named : Keeps (grammar.NamedStmt Value Inside) first.statement statement_words
  keeps_named =
      keeps_node named_stmt_of (words_before (rule.sym symbol.SEMICOLON) (words_first (Maybe (grammar.Places Value Inside) ⊗ rule.sym symbol.ASSIGN ▸ Value) (words_spelt Name)))
      (keeps_before (rule.sym symbol.SEMICOLON) refl (keeps_both keeps_name (keeps_both keeps_places (keeps_after (rule.sym symbol.ASSIGN) refl value.keeps))))
      (λ line v. named_first line v.0 v.1.0 v.1.1) (λ line v. named_words line v.0 v.1.0 v.1.1)

  keeps_const_for : Keeps (grammar.ConstFor Value Inside) first.statement statement_words
  keeps_const_for =
      keeps_node const_for_of (words_before (rule.key keyword.END) (words_after (NAME ⊗ rule.key keyword.IN ▸ NUM ⊗ rule.sym symbol.COLON ▸ NUM ⊗ Each Inside) (rule.key keyword.FOR) (omega arith)))
      (keeps_before (rule.key keyword.END) refl (keeps_after (rule.key keyword.FOR) refl
      (keeps_both keeps_name (keeps_after (rule.key keyword.IN) refl (keeps_both keeps_number (keeps_after (rule.sym symbol.COLON) refl (keeps_both keeps_number keeps_body)))))))
      (λ line v. first-ConstFor line v.0 v.1.0 v.1.1.0 v.1.1.1) (λ line v. words-ConstFor line v.0 v.1.0 v.1.1.0 v.1.1.1)

  keeps_func_stmt : Keeps (grammar.FuncStmt Value Inside) first.statement statement_words
  keeps_func_stmt = keeps_either keeps_local_var (keeps_either keeps_const_for (keeps_either keeps_if (keeps_either keeps_assert keeps_named)))

  -- ---- the main procedure

  keeps_var : Keeps (grammar.Var Value Inside) first.statement statement_words
  keeps_var =
      keeps_node var_of (words_before (rule.sym symbol.SEMICOLON) (words_after (NAME ⊗ grammar.Sides Value Inside NAME) (rule.key keyword.VAR) (omega arith)))
      (keeps_before (rule.sym symbol.SEMICOLON) refl (keeps_after (rule.key keyword.VAR) refl (keeps_both keeps_name (keeps_sides Inside value keeps_name))))
      (λ line v. first-Var line (v.0 ∷ v.1.0) v.1.1 ∙ ap (λ (names : List Text). stmt.Var 1 (v.0 ∷ names) (first.right v.1.1)) (sym (map-id v.1.0)))
      (λ line v. words-Var line (v.0 ∷ v.1.0) v.1.1 ∙ simp append_assoc)

  keeps_assign : Keeps (grammar.Assign Value Inside) first.statement statement_words
  keeps_assign =
      keeps_node assign_of (words_before (rule.sym symbol.SEMICOLON) (words_first (grammar.Sides Value Inside grammar.Target) words_target))
      (keeps_before (rule.sym symbol.SEMICOLON) refl (keeps_both keeps_target (keeps_sides Inside value keeps_target)))
      (λ line v. first-Assign line (v.0 ∷ v.1.0) v.1.1) (λ line v. words-Assign line (v.0 ∷ v.1.0) v.1.1 ∙ simp append_assoc)
    where
      words_target : HasWords grammar.Target
      words_target = words_node target_of (words_first (Maybe grammar.FieldName) (words_spelt Name))

  keeps_while : Keeps (grammar.While Value Inside) first.statement statement_words
  keeps_while =
      keeps_node while_of (words_before (rule.key keyword.END) (words_after (Condition Value ⊗ Each Inside) (rule.key keyword.WHILE) (omega arith)))
      (keeps_before (rule.key keyword.END) refl (keeps_after (rule.key keyword.WHILE) refl (keeps_both (keeps_cond value) keeps_body)))
      (λ line v. first-While line v.0 v.1) (λ line v. words-While line v.0 v.1)

  keeps_for : Keeps (grammar.For Value Inside) first.statement statement_words
  keeps_for =
      keeps_node for_of (words_before (rule.key keyword.END) (words_after (NAME ⊗ rule.key keyword.IN ▸ Value ⊗ rule.sym symbol.COLON ▸ Value ⊗ Each Inside) (rule.key keyword.FOR) (omega arith)))
      (keeps_before (rule.key keyword.END) refl (keeps_after (rule.key keyword.FOR) refl
      (keeps_both keeps_name (keeps_after (rule.key keyword.IN) refl (keeps_both value.keeps (keeps_after (rule.sym symbol.COLON) refl (keeps_both value.keeps keeps_body)))))))
      (λ line v. first-For line v.0 v.1.0 v.1.1.0 v.1.1.1) (λ line v. words-For line v.0 v.1.0 v.1.1.0 v.1.1.1 ∙ simp append_assoc)

  keeps_main_stmt : Keeps (grammar.MainStmt Value Inside) first.statement statement_words
  keeps_main_stmt = keeps_either keeps_var (keeps_either keeps_while (keeps_either keeps_for (keeps_either keeps_if (keeps_either keeps_assert keeps_assign))))

-- ---- statements at any depth

pub func_statement_kept : (depth : ℕ) → Keeps (FuncStatement depth) first.statement statement_words
func_statement_kept zero = record { states = λ v ws s. absurd s; light = λ v ws s. absurd s }
func_statement_kept (suc depth) = keeps_func_stmt (expression_kept depth) (func_statement_kept depth)

pub main_statement_kept : (depth : ℕ) → Keeps (MainStatement depth) first.statement statement_words
main_statement_kept zero = record { states = λ v ws s. absurd s; light = λ v ws s. absurd s }
main_statement_kept (suc depth) = keeps_main_stmt (expression_kept depth) (main_statement_kept depth)
