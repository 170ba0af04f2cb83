-- What the ending of a run says of it.
use Rattle.std.proofs.Common.{◌≡◌, ℕ, true, false, List, Result, Ok, Err, sym, ap, ◌∙◌}
use Rattle.std.specs.Prelude.{Bool, nat_lt, if◌then◌else◌}
use Rattle.hypergraph.specs.SetValue.{SetValue}
use Rattle.algebra_meaning.specs.Linked.{LinkedProgram}
use Rattle.algebra_meaning.specs.Run.{run}
use Rattle.algebra_meaning.specs.declared.stopped.Stop.{Stop}
use Rattle.algebra_meaning.specs.declared.stopped.Stop.TheVariants as stop
use Rattle.dense_sizes.specs.DenseWords.{dense_words}
use Rattle.dense_sizes.specs.declared.limit.TheConstants.{MOST_DENSE_WORDS}
use Rattle.global_algebra.specs.Ending.{ending_of}
use Rattle.global_algebra.specs.declared.ending.Ending.{Ending}
use Rattle.simit_run.specs.Running.{ending_within, sets_left}
use Rattle.simit_run.specs.Stage.{refused}
use Rattle.run_notes.specs.declared.failure.Refusal.TheVariants.{DenseWords}

-- a run whose ending leaves sets has these sets
ok-of : (outcome : Result (List SetValue) Stop) (after : List SetValue) → refused (sets_left (ending_of outcome)) ≡ Ok after → outcome ≡ Ok after
ok-of (Ok sets) after left = cc left
ok-of (Err (stop.Trap line element kind)) after left = cc left
ok-of (Err stop.Spent) after left = cc left

within-limit : (over : Bool) (outcome : Result (List SetValue) Stop) (ending : Ending) → refused (if over then Err DenseWords else Ok (ending_of outcome)) ≡ Ok ending → ending ≡ ending_of outcome
within-limit true outcome ending is = cc is
within-limit false outcome ending is = cc is

pub ran : (program : LinkedProgram) (turns : ℕ) (sets : List SetValue) (ending : Ending) (after : List SetValue) → refused (ending_within program turns sets) ≡ Ok ending → Ok after ≡ refused (sets_left ending)
    → run program sets turns ≡ Ok after
unfolding ending_within
ran program turns sets ending after is left =
    ok-of (run program sets turns) after
    (ap (λ e. refused (sets_left e)) (sym (within-limit (nat_lt MOST_DENSE_WORDS (dense_words program.typed sets)) (run program sets turns) ending is)) ∙ sym left)
