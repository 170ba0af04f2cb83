-- The declaration of a function, by the parts that were judged.
use Rattle.std.proofs.Common.{◌≡◌, ℕ, List, [], map, Result, Ok, Err, refl, sym, subst}
use Rattle.vocabulary.specs.Answers.{◌>>=◌, fold_result}
use Rattle.sim_syntax.specs.declared.declaration.Param.{Param}
use Rattle.sim_syntax.specs.declared.declaration.ResultDecl.{ResultDecl}
use Rattle.sim_syntax.specs.declared.statement.Stmt.{Stmt}
use Rattle.type_rules.specs.declared.types.NodeType.{NodeType}
use Rattle.typed_tree.specs.declared.environment.Walk.{Walk}
use Rattle.typed_tree.specs.declared.fault.CheckFault.{CheckFault}
use Rattle.typed_tree.specs.declared.function.FunctionStmt.{FunctionStmt}
use Rattle.typed_tree.specs.declared.function.ParameterType.{ParameterType}
use Rattle.typed_tree.specs.Names.{Name}
use Rattle.typed_tree.specs.Steps.{Leads, several}
use Rattle.typed_tree.specs.Walking.{ended}
use Rattle.typed_tree.specs.Functions.{statements}
use Rattle.typed_tree.specs.Declarations.{func_decl, parameter_step, with_function, with_result}
use Rattle.declaration_types.specs.Functions.{concluded, judged, known_before}

-- what is made of a value where there is no fault
made_of : {A B : Type 0} (r : Result (Unit {0}) CheckFault) (made : A) (f : A → B) → ((r >>= λ _. Ok made) >>= λ x. Ok (f x)) ≡ (r >>= λ _. Ok (f made))
made_of (Ok u) made f = refl
made_of (Err fault) made f = refl

concluded_so : (line : ℕ) (name : Name) (params : List Param) (results : List ResultDecl) (body : List Stmt) (walk after_params after_results after : Walk)
    (ps : List ParameterType) (rs : List NodeType) (b : List FunctionStmt)
    → several (map parameter_step params) walk ≡ Ok (ps, after_params) → fold_result with_result ([], after_params) results ≡ Ok (rs, after_results)
    → statements body after_results ≡ Ok (b, after)
    → func_decl line name params results body walk ≡ concluded line name (known_before name walk) ps rs b after
unfolding func_decl judged concluded
concluded_so line name params results body walk after_params after_results after ps rs b e1 e2 e3 =
    rw (e1, e2, e3) (sym (made_of _ _ (λ f. with_function (ended walk after) f)))

-- a function is declared once its parts were judged
pub concludes : (line : ℕ) (name : Name) (params : List Param) (results : List ResultDecl) (body : List Stmt) (walk after_params after_results after last : Walk)
    (ps : List ParameterType) (rs : List NodeType) (b : List FunctionStmt) (r : Result (Unit {0}) CheckFault)
    → several (map parameter_step params) walk ≡ Ok (ps, after_params) → fold_result with_result ([], after_params) results ≡ Ok (rs, after_results)
    → statements body after_results ≡ Ok (b, after) → Leads (concluded line name (known_before name walk) ps rs b after) r last
    → Leads (func_decl line name params results body walk) r last
concludes line name params results body walk after_params after_results after last ps rs b r e1 e2 e3 leads =
    subst (λ known. Leads known r last) (sym (concluded_so line name params results body walk after_params after_results after ps rs b e1 e2 e3)) leads
