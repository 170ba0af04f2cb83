-- Loops of the main procedure, turn after turn, within a bound on their turns.
use Rattle.std.proofs.Common.{◌≡◌, ℕ, suc, zero, ◌+◌, ◌-◌, ◌<◌, ◌≤◌, Bool, true, false, List, Result, Ok, Err, sym, ap, ◌∙◌, arith, if◌then◌else◌}
use Rattle.vocabulary.specs.Answers.{◌>>=◌}
use Rattle.ring_words.specs.Word.{add, is_less}
use Rattle.typed_tree.specs.declared.condition.TypedCond.{TypedCond}
use Rattle.value_algebra.specs.Value.{number}
use Rattle.algebra_meaning.specs.declared.state.State.{State}
use Rattle.algebra_meaning.specs.declared.stopped.Stop.{Stop}
use Rattle.algebra_meaning.specs.declared.stopped.Stop.TheVariants.{Spent}
use Rattle.algebra_meaning.specs.declared.stopped.Stopped.{Stopped}
use Rattle.algebra_meaning.specs.declared.stopped.Stopped.TheVariants.{By}
use Rattle.algebra_meaning.specs.Element.{with_local}
use Rattle.algebra_meaning.specs.Linked.{LinkedProgram}
use Rattle.algebra_meaning.specs.Run.{Runs, count_up_to, test, turn, while_held, while_up_to, with_locals}
use Rattle.global_algebra.specs.Turns.{counts}

-- one less of a bound that isn't passed
one_left : (bound counter : ℕ) → counter < bound → bound - counter ≡ suc (bound - (counter + 1))
one_left bound counter below = omega arith

none_left : (bound counter : ℕ) → bound ≤ counter → bound - counter ≡ zero
none_left bound counter past = omega arith

all_left : (bound : ℕ) → bound - 0 ≡ bound
all_left bound = omega arith

-- ---- turns while a condition holds

abbrev After : (Bool → Result State Stop) → Result Bool Stop → Result State Stop
After next tested = tested >>= next

-- what a loop does next, where its condition holds or not
abbrev while_next : ℕ → (State → Result Bool Stop) → List Runs → State → Bool → Result State Stop
while_next bound condition body state held = if held then turn body state >>= while_up_to bound condition body else Ok state

while_is : (bound counter : ℕ) (condition : State → Result Bool Stop) (body : List Runs) (state : State) (known : Result State Stop) (tested : Result Bool Stop)
    → counter < bound → condition state ≡ tested → while_up_to (bound - counter) condition body state ≡ known
    → (tested >>= while_next (bound - (counter + 1)) condition body state) ≡ known
while_is bound counter condition body state known tested below is so_far =
    sym (ap (λ n. while_up_to n condition body state) (one_left bound counter below)
    ∙ ap (After (while_next (bound - (counter + 1)) condition body state)) is)
    ∙ so_far

pub while_begun : (program : LinkedProgram) (line : ℕ) (cond : TypedCond) (body : List Runs) (state : State)
    → while_up_to (suc state.turns - 0) (test program line cond) body state ≡ while_held program line cond body state
unfolding while_held
while_begun program line cond body state = ap (λ n. while_up_to n (test program line cond) body state) (all_left (suc state.turns))

pub while_on : (bound counter : ℕ) (condition : State → Result Bool Stop) (body : List Runs) (state after : State) (known : Result State Stop) (held : Bool)
    → counter < bound → condition state ≡ Ok held → held ≡ true → turn body state ≡ Ok after → while_up_to (bound - counter) condition body state ≡ known
    → while_up_to (bound - (counter + 1)) condition body after ≡ known
while_on bound counter condition body state after known held below is holds ran so_far =
    sym (ap (λ (r : Result State Stop). r >>= while_up_to (bound - (counter + 1)) condition body) ran)
    ∙ while_is bound counter condition body state known (Ok true) below (is ∙ ap Ok holds) so_far

pub while_over : (bound counter : ℕ) (condition : State → Result Bool Stop) (body : List Runs) (state : State) (known : Result State Stop) (held : Bool)
    → counter < bound → condition state ≡ Ok held → held ≡ false → while_up_to (bound - counter) condition body state ≡ known → known ≡ Ok state
while_over bound counter condition body state known held below is fails so_far =
    sym (while_is bound counter condition body state known (Ok false) below (is ∙ ap Ok fails) so_far)

pub while_untested : (bound counter : ℕ) (condition : State → Result Bool Stop) (body : List Runs) (state : State) (known : Result State Stop) (stopped : Stopped Stop)
    → counter < bound → ((cause : Stop) → stopped ≡ By cause → condition state ≡ Err cause)
    → while_up_to (bound - counter) condition body state ≡ known → (cause : Stop) → stopped ≡ By cause → known ≡ Err cause
while_untested bound counter condition body state known stopped below stops so_far cause is =
    sym (while_is bound counter condition body state known (Err cause) below (stops cause is) so_far)

pub while_stopped : (bound counter : ℕ) (condition : State → Result Bool Stop) (body : List Runs) (state : State) (known : Result State Stop) (held : Bool) (stopped : Stopped Stop)
    → counter < bound → condition state ≡ Ok held → held ≡ true → ((cause : Stop) → stopped ≡ By cause → turn body state ≡ Err cause)
    → while_up_to (bound - counter) condition body state ≡ known → (cause : Stop) → stopped ≡ By cause → known ≡ Err cause
while_stopped bound counter condition body state known held stopped below is holds stops so_far cause by =
    sym (while_is bound counter condition body state known (Ok true) below (is ∙ ap Ok holds) so_far)
    ∙ ap (λ (r : Result State Stop). r >>= while_up_to (bound - (counter + 1)) condition body) (stops cause by)

pub while_spent : (bound counter : ℕ) (condition : State → Result Bool Stop) (body : List Runs) (state : State) (known : Result State Stop)
    → bound ≤ counter → while_up_to (bound - counter) condition body state ≡ known → known ≡ Err Spent
while_spent bound counter condition body state known past so_far =
    sym so_far ∙ ap (λ n. while_up_to n condition body state) (none_left bound counter past)

-- ---- turns with the values of a variable

-- the state in which a turn with a value begins
abbrev pub counting : ℕ → ℕ → State → State
counting local value state = with_locals state (with_local state.locals local (number value))

abbrev count_next : ℕ → ℕ → ℕ → ℕ → List Runs → State → Bool → Result State Stop
count_next bound local from to body state due =
    if due then turn body (counting local from state) >>= count_up_to bound local (add from 1) to body else Ok state

count_is : (bound counter local from to : ℕ) (body : List Runs) (state : State) (known : Result State Stop) (due : Bool)
    → counter < bound → is_less from to ≡ due → count_up_to (bound - counter) local from to body state ≡ known
    → count_next (bound - (counter + 1)) local from to body state due ≡ known
count_is bound counter local from to body state known due below is so_far =
    sym (ap (λ n. count_up_to n local from to body state) (one_left bound counter below)
    ∙ ap (count_next (bound - (counter + 1)) local from to body state) is)
    ∙ so_far

pub count_begun : (local from to : ℕ) (body : List Runs) (state : State) → count_up_to (suc state.turns - 0) local from to body state ≡ counts local from to body state
unfolding counts
count_begun local from to body state = ap (λ n. count_up_to n local from to body state) (all_left (suc state.turns))

pub count_on : (bound counter local from next to : ℕ) (body : List Runs) (state after : State) (known : Result State Stop)
    → counter < bound → next ≡ add from 1 → is_less from to ≡ true → turn body (counting local from state) ≡ Ok after
    → count_up_to (bound - counter) local from to body state ≡ known → count_up_to (bound - (counter + 1)) local next to body after ≡ known
count_on bound counter local from next to body state after known below further due ran so_far =
    ap (λ n. count_up_to (bound - (counter + 1)) local n to body after) further
    ∙ sym (ap (λ (r : Result State Stop). r >>= count_up_to (bound - (counter + 1)) local (add from 1) to body) ran)
    ∙ count_is bound counter local from to body state known true below due so_far

pub count_over : (bound counter local from to : ℕ) (body : List Runs) (state : State) (known : Result State Stop)
    → counter < bound → is_less from to ≡ false → count_up_to (bound - counter) local from to body state ≡ known → known ≡ Ok state
count_over bound counter local from to body state known below due so_far =
    sym (count_is bound counter local from to body state known false below due so_far)

pub count_stopped : (bound counter local from to : ℕ) (body : List Runs) (state : State) (known : Result State Stop) (stopped : Stopped Stop)
    → counter < bound → is_less from to ≡ true → ((cause : Stop) → stopped ≡ By cause → turn body (counting local from state) ≡ Err cause)
    → count_up_to (bound - counter) local from to body state ≡ known → (cause : Stop) → stopped ≡ By cause → known ≡ Err cause
count_stopped bound counter local from to body state known stopped below due stops so_far cause by =
    sym (count_is bound counter local from to body state known true below due so_far)
    ∙ ap (λ (r : Result State Stop). r >>= count_up_to (bound - (counter + 1)) local (add from 1) to body) (stops cause by)

pub count_spent : (bound counter local from to : ℕ) (body : List Runs) (state : State) (known : Result State Stop)
    → bound ≤ counter → count_up_to (bound - counter) local from to body state ≡ known → known ≡ Err Spent
count_spent bound counter local from to body state known past so_far =
    sym so_far ∙ ap (λ n. count_up_to n local from to body state) (none_left bound counter past)
