-- What is known goes on from each statement of a run to the next, and into the statements inside.
use Rattle.std.proofs.Common.{◌⊎◌, ℕ, suc, ◌≤◌, List, length, Result, Ok, Err, subst, inl, inr}
use Rattle.sim_syntax.specs.declared.statement.Stmt.{Stmt}
use Rattle.typed_tree.specs.declared.condition.TypedCond.{TypedCond}
use Rattle.typed_tree.specs.declared.environment.Walk.{Walk}
use Rattle.typed_tree.specs.declared.main_procedure.MainStmt.{MainStmt}
use Rattle.typed_tree.specs.declared.main_procedure.MainStmt.TheVariants as stmt
use Rattle.typed_tree.specs.declared.names.Meaning.TheVariants as meaning
use Rattle.algebra_meaning.specs.Linked.{LinkedProgram}
use Rattle.typed_tree.specs.Names.{Name}
use Rattle.typed_tree.specs.Walking.{naming_local, with_nodes}
use Rattle.typing_laws.specs.MainStatements.{IsMainTyping, AreMainTypings}
use Rattle.typing_laws.specs.Scopes.{IsNew, leaving, past}
use Rattle.algebra_meaning.specs.declared.state.State.{State}
use Rattle.algebra_meaning.specs.declared.stopped.Stop.{Stop}
use Rattle.index_laws.specs.Sizes.{AreSized, SumsAreSized}
use Rattle.run_laws.specs.Runs.{RunsTo, Repeats, Counts, AllRunTo}
use Rattle.run_laws.specs.Shapes.{StatementsChangeWords}
use Rattle.run_sizes.specs.Reaches.{Begun, Comes, ComesCounting, AllCome, in_turn_of, with_turns}
use Rattle.run_sizes.proofs.Assigned.{AreProper, declared_known, right_fits, targets_known}
use Rattle.run_sizes.proofs.Known.{KnownIn, known_again, known_counting, known_later, known_over}
use Rattle.run_sizes.proofs.Names.{GoesOn, counter_grows, goes_on, in_turn, left, list_grows, statement_grows}
use Rattle.run_sizes.proofs.Ran.{var_ran, assign_ran, while_ran, for_ran, if_ran, assert_ran}

-- ---- loops

abbrev EndsIn : (State → Type 0) → Result State Stop → Type 0
EndsIn P (Ok after) = P after
EndsIn P (Err stop) = Unit {0}

repeated : (program : LinkedProgram) (P : State → Type 0) (line : ℕ) (cond : TypedCond) (body : List MainStmt) (before : State) (outcome : Result State Stop)
    → ((state : State) (left : ℕ) (after : State) → P state → AllRunTo program body (with_turns state left) (Ok after) → P after)
    → Repeats program line cond body before outcome → P before → EndsIn P outcome
repeated program P line cond body before outcome turn (Repeats.while_traps l c b kind state held) here = tt
repeated program P line cond body before outcome turn (Repeats.while_ends l c b state held) here = here
repeated program P line cond body before outcome turn (Repeats.while_spent l c b state held none) here = tt
repeated program P line cond body before outcome turn (Repeats.while_stops l c b few stop state held one runs) here = tt
repeated program P line cond body before outcome turn (Repeats.while_goes_on l c b few state between end held one runs others) here =
    repeated program P l c b between end turn others (turn state few between here runs)

counted : (program : LinkedProgram) (P : State → Type 0) (local to : ℕ) (body : List MainStmt) (from : ℕ) (before : State) (outcome : Result State Stop)
    → ((state : State) (from left : ℕ) (after : State) → P state → AllRunTo program body (in_turn_of state local from left) (Ok after) → P after)
    → Counts program local to body from before outcome → P before → EndsIn P outcome
counted program P local to body from before outcome turn (Counts.for_ends i n b word state less) here = here
counted program P local to body from before outcome turn (Counts.for_spent i n b word state less none) here = tt
counted program P local to body from before outcome turn (Counts.for_stops i n b word few stop state less one runs) here = tt
counted program P local to body from before outcome turn (Counts.for_goes_on i n b word few state between end less one runs others) here =
    counted program P i n b _ between end turn others (turn state word few between here runs)

-- ---- statements

-- there are no more variables than the program has
abbrev IsWithin : LinkedProgram → Walk → Type 0
IsWithin program walk = length walk.environment.declarations.variables ≤ length program.typed.variables

within : (program : LinkedProgram) (before after : Walk) → GoesOn before after → IsWithin program after → IsWithin program before
within program before after grows few =
    in_turn (length before.environment.declarations.variables) (length after.environment.declarations.variables) (length program.typed.variables) grows.count few

again : (program : LinkedProgram) (walk inner : Walk) (state after : State) → GoesOn walk inner → KnownIn program walk state → KnownIn program inner after → KnownIn program walk after
again program walk inner state after grows here there =
    known_again program state.sets after.sets walk.environment inner.environment walk.locals inner.locals state.variables state.locals after.variables after.locals grows here there

later : (program : LinkedProgram) (walk inner : Walk) (state : State) → GoesOn walk inner → KnownIn program walk state → KnownIn program (leaving walk inner) state
later program walk inner state grows here =
    known_later program state.sets walk.environment inner.environment walk.locals inner.locals state.variables state.locals grows here

abbrev counter : Walk → ℕ → Name → Walk
counter walk end name = naming_local (with_nodes walk end) name (meaning.Counter walk.locals)

counter_on : (walk inner : Walk) (end : ℕ) (name : Name) → IsNew walk name → GoesOn (counter walk end name) inner → GoesOn walk inner
counter_on walk inner end name new grows =
    goes_on walk.environment (counter walk end name).environment inner.environment walk.locals (suc walk.locals) inner.locals (counter_grows walk name new) grows

first_left : (walk first second : Walk) → GoesOn walk first → GoesOn (leaving walk first) second → GoesOn walk second
first_left walk first second one other =
    goes_on walk.environment (leaving walk first).environment second.environment walk.locals walk.locals second.locals
    (left walk.environment first.environment walk.locals first.locals one) other

counting : (program : LinkedProgram) (walk : Walk) (end : ℕ) (name : Name) (state : State) (from few : ℕ) → KnownIn program walk state
    → KnownIn program (counter walk end name) (in_turn_of state walk.locals from few)
counting program walk end name state from few here =
    known_counting program state.sets walk.environment walk.locals state.variables state.locals name from here

module _ (program : LinkedProgram) where
  mutual
    -- statements of which one begins go on in what is known
    pub come_on : (body : List Stmt) (done : List MainStmt) (walk after : Walk) (state : State) (begun : Begun) → AllCome program body done walk after state begun → GoesOn walk after
    come_on body done walk after state begun (AllCome.first s rest t more here between last now it comes others) =
        goes_on here.environment between.environment last.environment here.locals between.locals last.locals (comes_on s t here between now it comes)
        (list_grows rest more between last others)
    come_on body done walk after state begun (AllCome.later s rest t more here between last now next it typed ran comes) =
        goes_on here.environment between.environment last.environment here.locals between.locals last.locals (statement_grows s t here between typed)
        (come_on rest more between last next it comes)

    comes_on : (s : Stmt) (t : MainStmt) (walk after : Walk) (state : State) (begun : Begun) → Comes program s t walk after state begun → GoesOn walk after
    comes_on s t walk after state begun (Comes.begins s' t' here end now typed) = statement_grows s' t' here end typed
    comes_on s t walk after state begun (Comes.in_while line cond body tested done here to inner now turns it typed held one comes) =
        left here.environment inner.environment here.locals inner.locals (come_on body done (with_nodes here to) inner (with_turns now turns) it comes)
    comes_on s t walk after state begun (Comes.while_goes_on line cond body tested done here to inner now between turns it typed bodies held one ran comes) =
        left here.environment inner.environment here.locals inner.locals (list_grows body done (with_nodes here to) inner bodies)
    comes_on s t walk after state begun (Comes.in_for line name from to body f u done here middle last inner a b now it first second new from_is to_is comes) =
        left here.environment inner.environment here.locals inner.locals (counter_on here inner last name new (counting_on _ _ body done (counter here last name) inner _ now it comes))
    comes_on s t walk after state begun (Comes.in_body line cond body otherwise tested done other here to first second now it typed two held comes) =
        left here.environment second.environment here.locals second.locals
        (first_left here first second (come_on body done (with_nodes here to) first now it comes) (list_grows otherwise other (leaving here first) second two))
    comes_on s t walk after state begun (Comes.in_otherwise line cond body otherwise tested done other here to first second now it typed one held comes) =
        left here.environment second.environment here.locals second.locals
        (first_left here first second (list_grows body done (with_nodes here to) first one) (come_on otherwise other (leaving here first) second now it comes))

    counting_on : (local to : ℕ) (body : List Stmt) (done : List MainStmt) (walk inner : Walk) (from : ℕ) (state : State) (begun : Begun)
        → ComesCounting program local to body done walk inner from state begun → GoesOn walk inner
    counting_on local to body done walk inner from state begun (ComesCounting.this_turn i n b d here end word turns now it less one comes) =
        come_on b d here end (in_turn_of now i word turns) it comes
    counting_on local to body done walk inner from state begun (ComesCounting.later_turn i n b d here end word turns now between it typed less one ran comes) =
        list_grows b d here end typed

-- after one of two lists of statements
chosen : (program : LinkedProgram) (walk first second : Walk) (state end : State) → GoesOn walk first → GoesOn (leaving walk first) second → (A B : Type 0) → KnownIn program walk state
    → (A → KnownIn program first end) → (B → KnownIn program (leaving walk first) state → KnownIn program second end) → A ⊎ B
    → KnownIn program (past (leaving walk second)) end
chosen program walk first second state end grows more A B known by_first by_second (inl ran) =
    later program walk second end (first_left walk first second grows more) (again program walk first state end grows known (by_first ran))
chosen program walk first second state end grows more A B known by_first by_second (inr ran) =
    let begun = later program walk first state grows known in
    later program (leaving walk first) second end more (again program (leaving walk first) second state end more begun (by_second ran begun))

module _ (sized : AreSized) (sums : SumsAreSized) (changes : StatementsChangeWords) (program : LinkedProgram) (proper : AreProper program.typed.functions) where
  mutual
    statement_known : (s : Stmt) (t : MainStmt) (walk after : Walk) (state end : State) → IsMainTyping s t walk after → RunsTo program t state (Ok end)
        → IsWithin program after → KnownIn program walk state → KnownIn program after end
    statement_known s t walk after state end (IsMainTyping.variables line names r side types numbers here to last typed room declared) runs few known =
        let done = var_ran program state end line numbers side runs in
        let fit = right_fits sized program proper here.environment here.locals state line r side types here.nodes to done.values known typed done.yields in
        known_over program state.sets end.sets last.environment last.locals end.variables end.locals (changes program (stmt.Var line numbers side) state end runs)
        (declared_known sums program state.sets names types numbers (past (with_nodes here to)) last done.values state end few declared done.changed fit known)
    statement_known s t walk after state end (IsMainTyping.assignment line targets r side types us here to typed are room) runs few known =
        let done = assign_ran program state end line us side runs in
        let fit = right_fits sized program proper here.environment here.locals state line r side types here.nodes to done.values known typed done.yields in
        known_over program state.sets end.sets here.environment here.locals end.variables end.locals (changes program (stmt.Assign line us side) state end runs)
        (targets_known sums program state.sets here.environment here.locals targets types us done.values state end few are done.changed fit known)
    statement_known s t walk after state end (IsMainTyping.repetition line cond body tested done here to inner typed one room) runs few known =
        let grows = list_grows body done (with_nodes here to) inner one in
        later program here inner end grows
        (repeated program (KnownIn program here) line tested done state (Ok end)
        (λ turn few' next known' ran. again program here inner turn next grows known' (list_known body done (with_nodes here to) inner (with_turns turn few') next one ran few known'))
        (while_ran program state end line tested done runs) known)
    statement_known s t walk after state end (IsMainTyping.loop line name from to body f u done here middle last inner first second f_is u_is new typed room) runs few known =
        let grows = counter_on here inner last name new (list_grows body done (counter here last name) inner typed) in
        let went = for_ran program state end line here.locals f u done runs in
        later program here inner end grows
        (counted program (KnownIn program here) here.locals went.to done went.from state (Ok end)
        (λ turn word few' next known' ran.
        again program here inner turn next grows known'
        (list_known body done (counter here last name) inner (in_turn_of turn here.locals word few') next typed ran few (counting program here last name turn word few' known')))
        went.counts known)
    statement_known s t walk after state end (IsMainTyping.choice line cond body otherwise tested done other here to first second typed one two room) runs few known =
        let grows = list_grows body done (with_nodes here to) first one in
        let more = list_grows otherwise other (leaving here first) second two in
        chosen program here first second state end grows more (AllRunTo program done state (Ok end)) (AllRunTo program other state (Ok end)) known
        (λ ran. list_known body done (with_nodes here to) first state end one ran (within program (leaving here first) second more few) known)
        (λ ran begun. list_known otherwise other (leaving here first) second state end two ran few begun)
        (if_ran program state end line tested done other runs)
    statement_known s t walk after state end (IsMainTyping.assertion line cond tested here to typed room) runs few known =
        subst (KnownIn program here) (assert_ran program state end line tested runs) known

    list_known : (body : List Stmt) (done : List MainStmt) (walk after : Walk) (state end : State) → AreMainTypings body done walk after → AllRunTo program done state (Ok end)
        → IsWithin program after → KnownIn program walk state → KnownIn program after end
    list_known body done walk after state end (AreMainTypings.none here) (AllRunTo.none now) few known = known
    list_known body done walk after state end (AreMainTypings.one_more s rest t more here between last one others) (AllRunTo.one_more u us now next outcome first goes) few known =
        let so_far = statement_known s t here between now next one first (within program between last (list_grows rest more between last others) few) known in
        list_known rest more between last next end others goes few so_far

  -- ---- statements that begin

  mutual
    begun_known : (s : Stmt) (t : MainStmt) (walk after : Walk) (state : State) (begun : Begun) → Comes program s t walk after state begun
        → IsWithin program after → KnownIn program walk state → KnownIn program begun.walk begun.state
    begun_known s t walk after state begun (Comes.begins s' t' here end now typed) few known = known
    begun_known s t walk after state begun (Comes.in_while line cond body tested done here to inner now turns it typed held one comes) few known =
        list_begun body done (with_nodes here to) inner (with_turns now turns) it comes few known
    begun_known s t walk after state begun (Comes.while_goes_on line cond body tested done here to inner now between turns it typed bodies held one ran comes) few known =
        begun_known _ _ here (past (leaving here inner)) between it comes few
        (again program here inner now between (list_grows body done (with_nodes here to) inner bodies) known
        (list_known body done (with_nodes here to) inner (with_turns now turns) between bodies ran few known))
    begun_known s t walk after state begun (Comes.in_for line name from to body f u done here middle last inner a b now it first second new from_is to_is comes) few known =
        counting_begun here.locals _ body done (counter here last name) inner _ now it here comes few
        (λ grows turn next known' there. again program here inner turn next (counter_on here inner last name new grows) known' there)
        (λ turn word few' known'. counting program here last name turn word few' known') known
    begun_known s t walk after state begun (Comes.in_body line cond body otherwise tested done other here to first second now it typed two held comes) few known =
        list_begun body done (with_nodes here to) first now it comes (within program (leaving here first) second (list_grows otherwise other (leaving here first) second two) few) known
    begun_known s t walk after state begun (Comes.in_otherwise line cond body otherwise tested done other here to first second now it typed one held comes) few known =
        list_begun otherwise other (leaving here first) second now it comes few
        (later program here first now (list_grows body done (with_nodes here to) first one) known)

    counting_begun : (local to : ℕ) (body : List Stmt) (done : List MainStmt) (walk inner : Walk) (from : ℕ) (state : State) (begun : Begun) (base : Walk)
        → ComesCounting program local to body done walk inner from state begun → IsWithin program inner
        → (GoesOn walk inner → (turn next : State) → KnownIn program base turn → KnownIn program inner next → KnownIn program base next)
        → ((turn : State) (word few : ℕ) → KnownIn program base turn → KnownIn program walk (in_turn_of turn local word few))
        → KnownIn program base state → KnownIn program begun.walk begun.state
    counting_begun local to body done walk inner from state begun base (ComesCounting.this_turn i n b d here end word turns now it less one comes) few leave enter known =
        list_begun b d here end (in_turn_of now i word turns) it comes few (enter now word turns known)
    counting_begun local to body done walk inner from state begun base (ComesCounting.later_turn i n b d here end word turns now between it typed less one ran comes) few leave enter known =
        counting_begun i n b d here end _ between it base comes few leave enter
        (leave (list_grows b d here end typed) now between known
        (list_known b d here end (in_turn_of now i word turns) between typed ran few (enter now word turns known)))

    pub list_begun : (body : List Stmt) (done : List MainStmt) (walk after : Walk) (state : State) (begun : Begun) → AllCome program body done walk after state begun
        → IsWithin program after → KnownIn program walk state → KnownIn program begun.walk begun.state
    list_begun body done walk after state begun (AllCome.first s rest t more here between last now it comes others) few known =
        begun_known s t here between now it comes (within program between last (list_grows rest more between last others) few) known
    list_begun body done walk after state begun (AllCome.later s rest t more here between last now next it typed ran comes) few known =
        list_begun rest more between last next it comes few
        (statement_known s t here between now next typed ran (within program between last (come_on program rest more between last next it comes) few) known)
