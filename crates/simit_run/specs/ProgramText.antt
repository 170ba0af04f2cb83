-- Which typed program a text states.
use Rattle.std.specs.Prelude.{ℕ, List, drop, Result}
use Rattle.std.specs.Result.{result_map_both}
use Rattle.vocabulary.specs.Answers.{◌>>=◌}
use Rattle.sim_lexer.specs.Tokens.{line_at, tokens}
use Rattle.sim_lexer.specs.Words.{Word, words_of}
use Rattle.sim_lexer.specs.declared.token.LexFault.{LexFault}
use Rattle.sim_grammar.specs.ReadProgram.{program_in}
use Rattle.sim_grammar.specs.Rule.{line_of}
use Rattle.chain_forms.specs.Lowered.{lowered}
use Rattle.host_table.specs.declared.table.HostName.{HostName}
use Rattle.sim_syntax.specs.declared.program.Program as tree
use Rattle.typed_tree.specs.Typed.{typed}
use Rattle.typed_tree.specs.declared.program.TypedProgram.{TypedProgram}
use Rattle.typed_tree.specs.declared.fault.CheckFault.{CheckFault}
use Rattle.typed_tree.specs.declared.fault.CheckFault.TheVariants as check
use Rattle.run_notes.specs.Notes.{offset_of}
use Rattle.run_notes.specs.declared.failure.Refusal.{Refusal}
use Rattle.run_notes.specs.declared.failure.Refusal.TheVariants.{Words, Lexical, Syntax, NotAChain, IllTyped}

-- a lexical fault of a text as a refusal, with the line of the byte that it names
abbrev pub lexical : {A : Type 0} → List ℕ → Result A LexFault → Result A Refusal
lexical source result = result_map_both (λ x. x) (λ fault. Lexical (line_at source (offset_of fault)) fault) result

-- the place where words stop being a cut of a program as a refusal, with the line of the word there
abbrev pub syntactic : {A : Type 0} → List Word → Result A ℕ → Result A Refusal
syntactic words result = result_map_both (λ x. x) (λ place. Syntax (line_of (drop place words)) place) result

-- the line of an index expression that isn't in chain form as a refusal
abbrev pub chained : {A : Type 0} → Result A ℕ → Result A Refusal
chained result = result_map_both (λ x. x) NotAChain result

-- why a tree isn't typed, as a refusal; no definition runs out of memory
abbrev pub ill_typed : CheckFault → Refusal
ill_typed (check.IllTyped line kind) = IllTyped line kind
ill_typed check.Memory = Words

abbrev pub typing : {A : Type 0} → Result A CheckFault → Result A Refusal
typing result = result_map_both (λ x. x) ill_typed result

-- the tree of a text, or the first reason why it has none: a lexical fault, or words that derive no tree
unfoldable pub tree_of : List ℕ → Result tree.Program Refusal
tree_of source = do
  ts ← lexical source (tokens source)
  syntactic (words_of source ts) (program_in (words_of source ts))

-- the typed program of a text, by the names of the host functions, or the first reason why it has none: it has no tree, an index expression that isn't in chain form,
-- or a node without a type once its index expressions are products
unfoldable pub typed_of : List HostName → List ℕ → Result TypedProgram Refusal
typed_of hosts source = do
  tree ← tree_of source
  program ← chained (lowered tree)
  typing (typed hosts program)
