-- Statements one after the other, and the turns of loops.
use Rattle.std.proofs.Common.{◌≡◌, ℕ, ◌+◌, ◌-◌, ◌<◌, ◌≤◌, List, map, Result, Ok, Err, length, drop, get_or, refl}
use Rattle.std.specs.List.{range_with_len}
use Rattle.vocabulary.specs.Answers.{fold_result}
use Rattle.ring_words.specs.declared.trap.TrapKind.{TrapKind}
use Rattle.typed_tree.specs.declared.function.FunctionStmt.{FunctionStmt}
use Rattle.algebra_meaning.specs.declared.contribution.Point.{Point}
use Rattle.algebra_meaning.specs.declared.stopped.Stopped.{Stopped}
use Rattle.algebra_meaning.specs.declared.stopped.Stopped.TheVariants.{By}
use Rattle.algebra_meaning.specs.Element.{Call, Steps, in_order, steps_of, turn}
use Rattle.loop_laws.specs.Loops.{ItemLaws, NumberLaws}

pub statement_taken : ItemLaws Point FunctionStmt TrapKind → (call : Call) (before after : Point) (known : Result Point TrapKind) (ss : List FunctionStmt) (i : ℕ) (s : FunctionStmt)
    → i < length ss → s ≡ get_or ss i s → steps_of call s before ≡ Ok after
    → in_order (map (steps_of call) (drop i ss)) before ≡ known → in_order (map (steps_of call) (drop (i + 1) ss)) after ≡ known
statement_taken laws call before after known ss i s below here gives so_far =
    laws.taken (λ start ss. in_order (map (steps_of call) ss) start) (λ start s. steps_of call s start) (record { ends = λ start. refl; goes_on = λ start s ss. refl }) before after known ss i s below here gives so_far

pub statement_stopped : ItemLaws Point FunctionStmt TrapKind → (call : Call) (before : Point) (known : Result Point TrapKind) (ss : List FunctionStmt) (i : ℕ) (s : FunctionStmt) (stopped : Stopped TrapKind)
    → i < length ss → s ≡ get_or ss i s → ((kind : TrapKind) → stopped ≡ By kind → steps_of call s before ≡ Err kind)
    → in_order (map (steps_of call) (drop i ss)) before ≡ known → (kind : TrapKind) → stopped ≡ By kind → known ≡ Err kind
statement_stopped laws call before known ss i s stopped below here stops so_far kind is =
    laws.refused (λ start ss. in_order (map (steps_of call) ss) start) (λ start s. steps_of call s start) (record { ends = λ start. refl; goes_on = λ start s ss. refl }) before known ss i s kind below here (stops kind is) so_far

pub statements_ended : ItemLaws Point FunctionStmt TrapKind → (call : Call) (before : Point) (known : Result Point TrapKind) (ss : List FunctionStmt) (i : ℕ)
    → length ss ≤ i → in_order (map (steps_of call) (drop i ss)) before ≡ known → known ≡ Ok before
statements_ended laws call before known ss i past so_far =
    laws.ended (λ start ss. in_order (map (steps_of call) ss) start) (λ start s. steps_of call s start) (record { ends = λ start. refl; goes_on = λ start s ss. refl }) before known ss i past so_far

pub turn_taken : NumberLaws Point TrapKind → (local : ℕ) (body : List Steps) (before after : Point) (known : Result Point TrapKind) (n to : ℕ)
    → n < to → turn local body before n ≡ Ok after
    → fold_result (turn local body) before (range_with_len n (to - n)) ≡ known → fold_result (turn local body) after (range_with_len (n + 1) (to - (n + 1))) ≡ known
turn_taken laws local body before after known n to below gives so_far = laws.taken (turn local body) before after known n to below gives so_far

pub turn_stopped : NumberLaws Point TrapKind → (local : ℕ) (body : List Steps) (before : Point) (known : Result Point TrapKind) (n to : ℕ) (stopped : Stopped TrapKind)
    → n < to → ((kind : TrapKind) → stopped ≡ By kind → turn local body before n ≡ Err kind)
    → fold_result (turn local body) before (range_with_len n (to - n)) ≡ known → (kind : TrapKind) → stopped ≡ By kind → known ≡ Err kind
turn_stopped laws local body before known n to stopped below stops so_far kind is =
    laws.refused (turn local body) before known n to kind below (stops kind is) so_far

pub turns_ended : NumberLaws Point TrapKind → (local : ℕ) (body : List Steps) (before : Point) (known : Result Point TrapKind) (n to : ℕ)
    → to ≤ n → fold_result (turn local body) before (range_with_len n (to - n)) ≡ known → known ≡ Ok before
turns_ended laws local body before known n to past so_far = laws.ended (turn local body) before known n to past so_far
