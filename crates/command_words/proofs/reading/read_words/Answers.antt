use Rattle.std.proofs.Common.{sym}
use Rattle.command_words.proofs.Accepted.{is_accepted}
use Rattle.command_words.proofs.reading.read_words.Goals as goal

pub parsed-requires : goal.parsed-requires
parsed-requires c =
    is_accepted _ _ c.in_ok-given-in-len1-up.given c.in_ok-verb-in-len1-up.verb c.in_ok-given-in-len1-up.ensures (sym c.in_ok-verb-in-len1-up.ensures)
