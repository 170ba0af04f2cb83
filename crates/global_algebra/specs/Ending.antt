-- How a run ends.
use Rattle.std.specs.Prelude.{ℕ, nat_lt, List, Result, Ok, Err, if◌then◌else◌}
use Rattle.hypergraph.specs.SetValue.{SetValue}
use Rattle.dense_sizes.specs.DenseWords.{dense_words}
use Rattle.dense_sizes.specs.declared.limit.TheConstants.{MOST_DENSE_WORDS}
use Rattle.algebra_meaning.specs.Linked.{LinkedProgram}
use Rattle.algebra_meaning.specs.Run.{run}
use Rattle.algebra_meaning.specs.declared.stopped.Stop.{Stop}
use Rattle.algebra_meaning.specs.declared.stopped.Stop.TheVariants as stop
use Rattle.global_algebra.specs.declared.ending.Ending.{Ending}
use Rattle.global_algebra.specs.declared.ending.Ending.TheVariants.{Done, Trap, Spent}
use Rattle.global_algebra.specs.declared.plain_run.PlainFault.{PlainFault}
use Rattle.global_algebra.specs.declared.plain_run.PlainFault.TheVariants.{OverDense}

-- the ending of a run: the sets after it, or why it stopped before its end
abbrev pub ending_of : Result (List SetValue) Stop → Ending
ending_of (Ok sets) = Done sets
ending_of (Err (stop.Trap line element kind)) = Trap line element kind
ending_of (Err stop.Spent) = Spent

-- the ending of a run whose dense matrices have few enough words
unfoldable pub plain_answer : LinkedProgram → List SetValue → ℕ → Result Ending PlainFault
plain_answer program sets turns = if nat_lt MOST_DENSE_WORDS (dense_words program.typed sets) then Err OverDense else Ok (ending_of (run program sets turns))
