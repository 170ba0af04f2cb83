-- What the run of a typed program leaves of sets, or why it leaves none.
use Rattle.std.specs.Prelude.{ℕ, nat_lt, List, Result, Ok, Err, if◌then◌else◌}
use Rattle.vocabulary.specs.Answers.{◌>>=◌}
use Rattle.hypergraph.specs.SetValue.{SetValue}
use Rattle.algebra_meaning.specs.Linked.{LinkedProgram}
use Rattle.algebra_meaning.specs.Run.{run}
use Rattle.algebra_meaning.specs.declared.stopped.Stop.TheVariants as stop
use Rattle.dense_sizes.specs.DenseWords.{dense_words}
use Rattle.dense_sizes.specs.declared.limit.TheConstants.{MOST_DENSE_WORDS}
use Rattle.global_algebra.specs.Ending.{ending_of}
use Rattle.global_algebra.specs.declared.ending.Ending.{Ending}
use Rattle.global_algebra.specs.declared.ending.Ending.TheVariants.{Done, Trap, Spent}
use Rattle.run_notes.specs.declared.failure.Refusal.{Refusal}
use Rattle.run_notes.specs.declared.failure.Refusal.TheVariants.{DenseWords, Stopped}

-- how a run with so many turns ends, where its dense matrices are within their limit
unfoldable pub ending_within : LinkedProgram → ℕ → List SetValue → Result Ending Refusal
ending_within program turns sets = if nat_lt MOST_DENSE_WORDS (dense_words program.typed sets) then Err DenseWords else Ok (ending_of (run program sets turns))

-- the sets that an ending leaves; a trap and spent turns leave none
abbrev pub sets_left : Ending → Result (List SetValue) Refusal
sets_left (Done after) = Ok after
sets_left (Trap line element kind) = Err (Stopped (stop.Trap line element kind))
sets_left Spent = Err (Stopped stop.Spent)

-- the sets after a run with so many turns, or why there are none
unfoldable pub sets_after : LinkedProgram → ℕ → List SetValue → Result (List SetValue) Refusal
sets_after program turns sets = ending_within program turns sets >>= sets_left
