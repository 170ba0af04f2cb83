use Rattle.std.proofs.Common.{arith, ◌≡◌, ◌++◌, ◌+◌, ℕ, List, take, length, length-append}
use Rattle.std.proofs.lemmas.List.{length-take}
use Rattle.simit_io.proofs.TakenBytes.{IsAt-take, IsAt-after}
use Rattle.simit_io.proofs.reading.read_all.Goals as goal

pub returns-in-Ok-clause-one_past : goal.returns-in-Ok-clause-one_past
returns-in-Ok-clause-one_past g c =
    let next : List ℕ = take c.in-Ok.size c.take_up_to.new.buf in
    let all : length (c.chunks.bytes.items ++ next) ≡ c.args.limit + 1 = simp (length-append, length-take) (omega (arith, c.in-Ok.ensures.bound, c.take_up_to.auto.buf, c.chunks.bytes.ok.0)) in
    λ _. IsAt-after _ _ _ _ _ (IsAt-take _ _ _ _ _ _ c.chunks.invariant.taken c.in-Ok.ensures.taken) all
