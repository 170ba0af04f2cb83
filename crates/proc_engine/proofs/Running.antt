-- A function that goes on from one point to the next, with sums of what was contributed.
use Rattle.std.proofs.Common.{◌≡◌, List, [], ◌∷◌, ◌++◌, map, Result, Ok, Err, sym, ap, ◌∙◌, refl, subst, append_assoc, append-nil}
use Rattle.vocabulary.specs.Answers.{◌>>=◌}
use Rattle.ring_words.specs.declared.trap.TrapKind.{TrapKind}
use Rattle.hypergraph.specs.SetValue.{SetValue}
use Rattle.typed_tree.specs.declared.function.FunctionStmt.{FunctionStmt}
use Rattle.typed_tree.specs.declared.function.TypedFunction.{TypedFunction}
use Rattle.typed_tree.specs.declared.function.TypedResult.{TypedResult}
use Rattle.value_algebra.specs.declared.value.Value.{Value}
use Rattle.algebra_meaning.specs.declared.contribution.Contribution.{Contribution}
use Rattle.algebra_meaning.specs.declared.contribution.Point.{Point}
use Rattle.algebra_meaning.specs.declared.stopped.Stopped.{Stopped}
use Rattle.algebra_meaning.specs.Assembled.{all_assembled}
use Rattle.algebra_meaning.specs.Element.{Call, Steps, contributions, in_order, steps_of}
use Rattle.proc_engine.specs.Running.{Adds, Runs, contributed_in, point, those_of}

-- where a point is known, and the sums are those of what was contributed up to there
abbrev pub Reached : List SetValue → List TypedResult → List Contribution → Result Point TrapKind → List Value → List Value → Type 0
Reached sets results before known locals sums =
    (known ≡ Ok (point locals (contributed_in known))) × (sums ≡ all_assembled sets (before ++ contributed_in known) 0 results)

-- the steps that are left lead from here to what is known
abbrev pub Left : List SetValue → List TypedResult → List Contribution → Steps → Result Point TrapKind → List Value → List Value → Type 0
Left sets results before rest known locals sums =
    (contributed : List Contribution) × (rest (point locals contributed) ≡ known) × (sums ≡ all_assembled sets (before ++ contributed) 0 results)

pub reached : (sets : List SetValue) (results : List TypedResult) (before contributed : List Contribution) (known : Result Point TrapKind) (locals sums : List Value)
    → known ≡ Ok (point locals contributed) → sums ≡ all_assembled sets (before ++ contributed) 0 results → Reached sets results before known locals sums
reached sets results before contributed known locals sums is so =
    let same : contributed_in known ≡ contributed = ap contributed_in is in
    (is ∙ ap (λ c. Ok (point locals c)) (sym same), so ∙ ap (λ c. all_assembled sets (before ++ c) 0 results) (sym same))

-- one more contribution, after those of this element
pub written : (sets : List SetValue) (results : List TypedResult) (before contributed : List Contribution) (one : Contribution) (known : Result Point TrapKind) (locals sums : List Value)
    → known ≡ Ok (point locals (contributed ++ one ∷ [])) → sums ≡ all_assembled sets ((before ++ contributed) ++ one ∷ []) 0 results → Reached sets results before known locals sums
written sets results before contributed one known locals sums is so =
    reached sets results before (contributed ++ one ∷ []) known locals sums is
    (so ∙ ap (λ l. all_assembled sets l 0 results) (append_assoc before contributed (one ∷ [])))

-- a step is taken
pub gone_on : (sets : List SetValue) (results : List TypedResult) (before : List Contribution) (known : Result Point TrapKind) (step now after : Steps) (locals sums next_locals next_sums : List Value)
    → ((p q : Point) → step p ≡ Ok q → now p ≡ known → after q ≡ known)
    → ((before contributed : List Contribution) → sums ≡ all_assembled sets (before ++ contributed) 0 results → Reached sets results before (step (point locals contributed)) next_locals next_sums)
    → Left sets results before now known locals sums → Left sets results before after known next_locals next_sums
gone_on sets results before known step now after locals sums next_locals next_sums law steps (contributed, is, so) =
    let made : Reached sets results before (step (point locals contributed)) next_locals next_sums = steps before contributed so in
    (contributed_in (step (point locals contributed)), law (point locals contributed) (point next_locals (contributed_in (step (point locals contributed)))) made.0 is, made.1)

-- a step traps
pub trapped : (sets : List SetValue) (results : List TypedResult) (before : List Contribution) (known : Result Point TrapKind) (step now : Steps) (locals sums : List Value) (kind : TrapKind)
    → ((p : Point) → step p ≡ Err kind → now p ≡ known → known ≡ Err kind)
    → ((contributed : List Contribution) → sums ≡ all_assembled sets (before ++ contributed) 0 results → step (point locals contributed) ≡ Err kind)
    → Left sets results before now known locals sums → known ≡ Err kind
trapped sets results before known step now locals sums kind law steps (contributed, is, so) = law (point locals contributed) (steps contributed so) is

-- ---- a whole element

abbrev pub contributed_by : Result Point TrapKind → Result (List Contribution) TrapKind
contributed_by (Ok done) = Ok done.contributed
contributed_by (Err kind) = Err kind

by_steps : (known : Result Point TrapKind) → (known >>= λ done. Ok done.contributed) ≡ contributed_by known
by_steps (Ok done) = refl
by_steps (Err kind) = refl

adds : (sets : List SetValue) (results : List TypedResult) (before : List Contribution) (known : Result Point TrapKind) (all : Result (List Contribution) TrapKind)
    (result : Result (Unit {0}) (Stopped TrapKind)) (locals sums : List Value)
    → all ≡ contributed_by known → Runs sets results before known result locals sums → Adds sets results before all result sums
adds sets results before known all (Ok done) locals sums is runs =
    let whole : all ≡ Ok (contributed_in known) = is ∙ ap contributed_by runs.0 in
    let same : those_of all ≡ contributed_in known = ap those_of whole in
    (whole ∙ ap Ok (sym same), runs.1 ∙ ap (λ c. all_assembled sets (before ++ c) 0 results) (sym same))
adds sets results before known all (Err stopped) locals sums is runs = λ kind by. is ∙ ap contributed_by (runs kind by)

pub element_adds : (call : Call) (function : TypedFunction) (args : List Value) (before : List Contribution) (body : List FunctionStmt) (results : List TypedResult) (start old : List Value)
    (result : Result (Unit {0}) (Stopped TrapKind)) (locals sums : List Value)
    → body ≡ function.body → results ≡ function.results → start ≡ args → old ≡ all_assembled call.sets before 0 function.results
    → ((before contributed : List Contribution) → old ≡ all_assembled call.sets (before ++ contributed) 0 results
    → Runs call.sets results before (in_order (map (steps_of call) body) (point start contributed)) result locals sums)
    → Adds call.sets function.results before (contributions call function args) result sums
unfolding contributions
element_adds call function args before body results start old result locals sums of_body of_results of_args so runs =
    let begun : old ≡ all_assembled call.sets (before ++ []) 0 results =
    so ∙ ap (λ r. all_assembled call.sets before 0 r) (sym of_results) ∙ ap (λ c. all_assembled call.sets c 0 results) (sym (append-nil before)) in
    let same : contributions call function args ≡ contributed_by (in_order (map (steps_of call) body) (point start [])) =
    by_steps (in_order (map (steps_of call) function.body) (point args []))
    ∙ ap (λ b. contributed_by (in_order (map (steps_of call) b) (point args []))) (sym of_body)
    ∙ ap (λ l. contributed_by (in_order (map (steps_of call) body) (point l []))) (sym of_args) in
    subst (λ r. Adds call.sets r before (contributions call function args) result sums) of_results
    (adds call.sets results before (in_order (map (steps_of call) body) (point start [])) (contributions call function args) result locals sums same (runs before [] begun))
