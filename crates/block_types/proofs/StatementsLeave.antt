-- Statements declare neither element types nor sets.
use Rattle.std.proofs.Common.{◌≡◌, ℕ, List, refl, ◌∙◌}
use Rattle.sim_syntax.specs.declared.declaration.Param.{Param}
use Rattle.sim_syntax.specs.declared.declaration.ResultDecl.{ResultDecl}
use Rattle.sim_syntax.specs.declared.statement.Stmt.{Stmt}
use Rattle.type_rules.specs.declared.types.NodeType.{NodeType}
use Rattle.typed_tree.specs.declared.environment.Walk.{Walk}
use Rattle.typed_tree.specs.declared.function.FunctionStmt.{FunctionStmt}
use Rattle.typed_tree.specs.declared.function.ParameterType.{ParameterType}
use Rattle.typed_tree.specs.declared.main_procedure.MainStmt.{MainStmt}
use Rattle.typed_tree.specs.Names.{Name}
use Rattle.typed_tree.specs.MainProcedure.{with_variable}
use Rattle.typed_tree.specs.Walking.{with_nodes}
use Rattle.typing_laws.specs.Declarations.{AreResults, IsParameter}
use Rattle.typing_laws.specs.FunctionStatements.{AreStatementTypings, IsBodyTyping, IsStatementTyping}
use Rattle.typing_laws.specs.Lists.{InTurn}
use Rattle.typing_laws.specs.MainStatements.{AreDeclared, AreMainTypings, IsMainBodyTyping, IsMainTyping}
use Rattle.typing_laws.specs.Scopes.{leaving, past}

-- the same element types and sets are declared before and after
pub record Leaves (before after : Walk) : Type 0 where
  pub elements : after.environment.declarations.elements ≡ before.environment.declarations.elements
  pub sets : after.environment.declarations.sets ≡ before.environment.declarations.sets

pub on : (before between after : Walk) → Leaves before between → Leaves between after → Leaves before after
on before between after first second = record { elements = second.elements ∙ first.elements; sets = second.sets ∙ first.sets }

-- ---- functions

pub parameter_leaves : (p : Param) (type : ParameterType) (before after : Walk) → IsParameter p type before after → Leaves before after
parameter_leaves p type before after (IsParameter.scalar_parameter q line digits scale walk is whole new) = record { elements = refl; sets = refl }
parameter_leaves p type before after (IsParameter.element_parameter q line name element walk is means new) = record { elements = refl; sets = refl }
parameter_leaves p type before after (IsParameter.ends_parameter q line name digits element count walk is means size new) = record { elements = refl; sets = refl }

pub parameters_leave : (ps : List Param) (types : List ParameterType) (before after : Walk) → InTurn IsParameter ps types before after → Leaves before after
parameters_leave ps types before after (InTurn.none here) = record { elements = refl; sets = refl }
parameters_leave ps types before after (InTurn.one_more p rest type others walk between end one next) =
    on walk between end (parameter_leaves p type walk between one) (parameters_leave rest others between end next)

pub results_leave : (number : ℕ) (rs : List ResultDecl) (types : List NodeType) (before after : Walk) → AreResults number rs types before after → Leaves before after
results_leave number rs types before after (AreResults.none n walk) = record { elements = refl; sets = refl }
results_leave number rs types before after (AreResults.one_more n r rest type others walk end is new next) =
    let more = results_leave _ rest others _ end next in
    record { elements = more.elements; sets = more.sets }

mutual
  statement_leaves : (s : Stmt) (t : FunctionStmt) (before after : Walk) → IsStatementTyping s t before after → Leaves before after
  statement_leaves s t before after (IsStatementTyping.variable line name e v walk to typed new few) = record { elements = refl; sets = refl }
  statement_leaves s t before after (IsStatementTyping.assignment line target e v local type same walk to typed plain means rule few) = record { elements = refl; sets = refl }
  statement_leaves s t before after (IsStatementTyping.write line name places e v result type block same written walk to typed means matched has rule few) =
      record { elements = refl; sets = refl }
  statement_leaves s t before after (IsStatementTyping.loop line name from_digits to_digits from to body done walk inner from_is to_is below few new typed room) =
      let inside = statements_leave body done _ inner typed in
      record { elements = inside.elements; sets = inside.sets }
  statement_leaves s t before after (IsStatementTyping.choice line cond body otherwise tested done other walk to first second typed one two room) =
      let first_leaves = statements_leave body done (with_nodes walk to) first one in
      let second_leaves = statements_leave otherwise other (leaving walk first) second two in
      record { elements = second_leaves.elements ∙ first_leaves.elements; sets = second_leaves.sets ∙ first_leaves.sets }
  statement_leaves s t before after (IsStatementTyping.assertion line cond tested walk to typed room) = record { elements = refl; sets = refl }

  statements_leave : (body : List Stmt) (done : List FunctionStmt) (before after : Walk) → AreStatementTypings body done before after → Leaves before after
  statements_leave body done before after (AreStatementTypings.none walk) = record { elements = refl; sets = refl }
  statements_leave body done before after (AreStatementTypings.one_more s rest t more walk between end here next) =
      on walk between end (statement_leaves s t walk between here) (statements_leave rest more between end next)

pub body_leaves : (body : List Stmt) (done : List FunctionStmt) (before after : Walk) → IsBodyTyping body done before after → Leaves before after
body_leaves body done before after (IsBodyTyping.body b d walk inner typed) =
    let leaves = statements_leave b d walk inner typed in
    record { elements = leaves.elements; sets = leaves.sets }

-- ---- the main procedure

variables_leave : (names : List Name) (types : List NodeType) (numbers : List ℕ) (before after : Walk) → AreDeclared names types numbers before after → Leaves before after
unfolding with_variable
variables_leave names types numbers before after (AreDeclared.none walk) = record { elements = refl; sets = refl }
variables_leave names types numbers before after (AreDeclared.one_more name others type rest more walk end new next) =
    let leaves = variables_leave others rest more (with_variable walk name type) end next in
    record { elements = leaves.elements; sets = leaves.sets }

mutual
  main_statement_leaves : (s : Stmt) (t : MainStmt) (before after : Walk) → IsMainTyping s t before after → Leaves before after
  main_statement_leaves s t before after (IsMainTyping.variables line names r side types numbers walk to end typed room declared) =
      let leaves = variables_leave names types numbers (past (with_nodes walk to)) end declared in
      record { elements = leaves.elements; sets = leaves.sets }
  main_statement_leaves s t before after (IsMainTyping.assignment line targets r side types us walk to typed are room) = record { elements = refl; sets = refl }
  main_statement_leaves s t before after (IsMainTyping.repetition line c body tested done walk to inner typed one room) =
      let leaves = main_statements_leave body done (with_nodes walk to) inner one in
      record { elements = leaves.elements; sets = leaves.sets }
  main_statement_leaves s t before after (IsMainTyping.loop line name from to body f u done walk middle end inner first second f_is u_is new typed room) =
      let leaves = main_statements_leave body done _ inner typed in
      record { elements = leaves.elements; sets = leaves.sets }
  main_statement_leaves s t before after (IsMainTyping.choice line c body otherwise tested done other walk to first second typed one two room) =
      let first_leaves = main_statements_leave body done (with_nodes walk to) first one in
      let second_leaves = main_statements_leave otherwise other (leaving walk first) second two in
      record { elements = second_leaves.elements ∙ first_leaves.elements; sets = second_leaves.sets ∙ first_leaves.sets }
  main_statement_leaves s t before after (IsMainTyping.assertion line c tested walk to typed room) = record { elements = refl; sets = refl }

  main_statements_leave : (body : List Stmt) (done : List MainStmt) (before after : Walk) → AreMainTypings body done before after → Leaves before after
  main_statements_leave body done before after (AreMainTypings.none walk) = record { elements = refl; sets = refl }
  main_statements_leave body done before after (AreMainTypings.one_more s rest t more walk between end here next) =
      on walk between end (main_statement_leaves s t walk between here) (main_statements_leave rest more between end next)

pub main_body_leaves : (body : List Stmt) (done : List MainStmt) (before after : Walk) → IsMainBodyTyping body done before after → Leaves before after
main_body_leaves body done before after (IsMainBodyTyping.body b d walk inner typed) =
    let leaves = main_statements_leave b d walk inner typed in
    record { elements = leaves.elements; sets = leaves.sets }
