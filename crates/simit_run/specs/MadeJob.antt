-- What is put out of a made job: one line.
use Rattle.std.specs.Prelude.{ℕ, ◌*◌, List, [], ◌∷◌, codes, decimal, Result, Ok}
use Rattle.std.specs.List.{concat}
use Rattle.vocabulary.specs.Answers.{◌>>=◌}
use Rattle.ring_words.specs.Cell.{text}
use Rattle.hypergraph.specs.SetValue.{SetValue, column_at}
use Rattle.hypergraph.specs.Sets.{set_at}
use Rattle.job_maker.specs.Job.{made_sets}
use Rattle.job_maker.specs.Program as job
use Rattle.job_maker.specs.Weighted.{weighted_sum}
use Rattle.command_words.specs.declared.number.TheConstants.{DEFAULT_TURNS}
use Rattle.algebra_meaning.specs.Linked.{linked}
use Rattle.simit_run.specs.Hosts.{Hosts}
use Rattle.simit_run.specs.ProgramText.{typed_of}
use Rattle.simit_run.specs.Running.{sets_after}
use Rattle.run_notes.specs.declared.failure.Refusal.{Refusal}

-- how many points and springs a job has, and the weighted sum of its forces after the run, read with its sign
abbrev pub job_line : ℕ → List SetValue → List ℕ
job_line points after = concat (
    codes "points " ∷ decimal points ∷ codes " springs " ∷ decimal (2 * points)
    ∷ codes " weighted " ∷ text 0 (weighted_sum (column_at (set_at after 0) 1)) ∷ codes "\n" ∷ [])

-- the line of the job of a seed and a number of points, whose program runs on the sets that are made; or why there is none
unfoldable pub made_line : Hosts → ℕ → ℕ → Result (List ℕ) Refusal
made_line hosts seed points = do
  program ← typed_of hosts.names job.program
  after ← sets_after (linked hosts.answer program) DEFAULT_TURNS (made_sets seed points)
  Ok (job_line points after)
