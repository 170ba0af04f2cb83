-- What a function does at one element of the set to which it is mapped: what it contributes, write after write, or its first trap.
use Rattle.std.specs.Prelude.{ℕ, ◌-◌, List, [], ◌∷◌, ◌++◌, map, slice_get, slice_set, take, Option, Some, None, Result, Ok, Err, if◌then◌else◌}
use Rattle.std.specs.List.{range_with_len}
use Rattle.vocabulary.specs.Answers.{◌>>=◌, fold_result}
use Rattle.ring_words.specs.declared.trap.TrapKind.{TrapKind}
use Rattle.ring_words.specs.declared.trap.TrapKind.TheVariants.{Assertion}
use Rattle.hypergraph.specs.SetValue.{SetValue}
use Rattle.typed_tree.specs.declared.condition.TypedCond.{TypedCond}
use Rattle.typed_tree.specs.declared.expression.TypedExpr.{TypedExpr}
use Rattle.typed_tree.specs.declared.function.FunctionStmt.{FunctionStmt}
use Rattle.typed_tree.specs.declared.function.FunctionStmt.TheOpen.{FunctionStmt-F}
use Rattle.typed_tree.specs.declared.function.FunctionStmt.TheFolds.{fold-FunctionStmt}
use Rattle.typed_tree.specs.declared.function.PlaceIndex.{PlaceIndex}
use Rattle.typed_tree.specs.declared.function.PlaceIndex.TheVariants as index
use Rattle.typed_tree.specs.declared.function.TypedFunction.{TypedFunction}
use Rattle.typed_tree.specs.declared.function.WrittenPlace.{WrittenPlace}
use Rattle.typed_tree.specs.declared.function.WrittenPlace.TheVariants as place
use Rattle.typed_tree.specs.declared.program.TypedProgram.{TypedProgram}
use Rattle.value_algebra.specs.declared.value.Value.{Value}
use Rattle.algebra_meaning.specs.declared.context.ElementContext.{ElementContext}
use Rattle.algebra_meaning.specs.declared.contribution.Contribution.{Contribution}
use Rattle.algebra_meaning.specs.declared.contribution.Point.{Point}
use Rattle.value_algebra.specs.Value.{number, word_of}
use Rattle.algebra_meaning.specs.Linked.{Answer, LinkedProgram, linked}
use Rattle.algebra_meaning.specs.Expression.{Scope, meaning, holds, value_at, end_of}

abbrev pub Steps : Type 0
Steps = Point → Result Point TrapKind

-- what stays the same while a function runs at an element
pub record Call : Type 0 where
  pub program : LinkedProgram
  pub sets : List SetValue
  pub place : ElementContext

-- where a function of a typed program runs, with what host functions answer
pub record Site : Type 0 where
  pub program : TypedProgram
  pub sets : List SetValue
  pub place : ElementContext

abbrev pub call_in : Answer → Site → Call
call_in answer site = record { program = linked answer site.program; sets = site.sets; place = site.place }

-- what the names of an expression stand for, by the locals
abbrev pub scope_of : Call → List Value → Scope
scope_of call locals = record { program = call.program; sets = call.sets; variables = []; locals = locals; place = Some call.place }

-- ---- statements

-- a local of this number gets a value: a new one, and those after it are gone
abbrev pub with_local : List Value → ℕ → Value → List Value
with_local locals local value = take local locals ++ value ∷ []

abbrev pub value_in : Call → Point → TypedExpr → Result Value TrapKind
value_in call point e = meaning (scope_of call point.locals) e

unfoldable pub new_local : Call → ℕ → TypedExpr → Steps
new_local call local e point =
    value_in call point e >>= λ value. Ok (record { locals = with_local point.locals local value; contributed = point.contributed })

unfoldable pub assigned_local : Call → ℕ → TypedExpr → Steps
assigned_local call local e point =
    value_in call point e >>= λ value. Ok (record { locals = slice_set point.locals local value; contributed = point.contributed })

abbrev pub position_of : List Value → PlaceIndex → ℕ
position_of locals (index.Literal number) = number
position_of locals (index.Turn local range) = word_of (value_at locals local)

-- the element that a place names
abbrev pub element_at : Call → List Value → Option WrittenPlace → ℕ
element_at call locals None = 0
element_at call locals (Some place.Element) = call.place.element
element_at call locals (Some (place.Endpoint index)) = end_of call.sets call.place (position_of locals index)

unfoldable pub contributes : Call → ℕ → List WrittenPlace → TypedExpr → Steps
contributes call result places e point =
    value_in call point e >>= λ value. Ok (record {
      locals = point.locals;
      contributed = point.contributed ++ record {
        result = result;
        row = element_at call point.locals (slice_get places 0);
        column = element_at call point.locals (slice_get places 1);
        block = value;
      } ∷ [];
    })

-- several steps, one after the other
abbrev pub in_order : List Steps → Steps
in_order steps point = fold_result (λ so_far step. step so_far) point steps

-- a turn of a loop, whose variable has this value
abbrev pub turn : ℕ → List Steps → Point → ℕ → Result Point TrapKind
turn local body point value = in_order body (record { locals = with_local point.locals local (number value); contributed = point.contributed })

unfoldable pub looped : ℕ → ℕ → ℕ → List Steps → Steps
looped local from to body point = fold_result (turn local body) point (range_with_len from (to - from))

unfoldable pub chosen : Call → TypedCond → List Steps → List Steps → Steps
chosen call cond body otherwise point =
    holds (scope_of call point.locals) cond >>= λ held. in_order (if held then body else otherwise) point

unfoldable pub asserted : Call → TypedCond → Steps
asserted call cond point =
    holds (scope_of call point.locals) cond >>= λ held. if held then Ok point else Err Assertion

unfoldable pub statement_steps : Call → FunctionStmt-F Steps → Steps
statement_steps call (FunctionStmt-F.Var line local value) = new_local call local value
statement_steps call (FunctionStmt-F.Assign line local value) = assigned_local call local value
statement_steps call (FunctionStmt-F.Write line result places value) = contributes call result places value
statement_steps call (FunctionStmt-F.Loop line local from to body) = looped local from to body
statement_steps call (FunctionStmt-F.If line cond body otherwise) = chosen call cond body otherwise
statement_steps call (FunctionStmt-F.Assert line cond) = asserted call cond

abbrev pub steps_of : Call → FunctionStmt → Steps
steps_of call = fold-FunctionStmt Steps (statement_steps call)

-- what a function contributes at an element, by the values of its scalar arguments, or its first trap
unfoldable pub contributions : Call → TypedFunction → List Value → Result (List Contribution) TrapKind
contributions call function args =
    in_order (map (steps_of call) function.body) (record { locals = args; contributed = [] }) >>= λ done. Ok done.contributed
