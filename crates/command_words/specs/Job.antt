-- How large a made job is that words may state.
use Rattle.std.specs.Prelude.{◌≤◌}
use Rattle.job_maker.specs.declared.made.TheConstants.{MOST_POINTS}
use Rattle.command_words.specs.declared.command.Words.{Words}
use Rattle.command_words.specs.declared.command.Words.TheVariants.{Make}

-- a made job has 1 to so many points
abbrev pub HasPoints : Words → Type 0
HasPoints (Make seed points workers) = (1 ≤ points) × (points ≤ MOST_POINTS)
HasPoints other = Unit {0}
