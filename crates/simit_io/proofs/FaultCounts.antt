-- What follows for an object whose bytes are unknown and that counts a fault exactly where a call of it fails.
use Rattle.std.proofs.Common.{ℕ, List, Result, Ok, Err, None, OnOk, OnErr, arith}
use Rattle.std.specs.Bool.{⊤}
use Rattle.std.specs.Io.KnownBytes.{ReadConsumes}
use Rattle.simit_io.specs.Inputs.{Rose, CountsFailure}

pub Rose-CountsFailure : {T E : Type 0} (result : Result T E) (before now : ℕ) → CountsFailure result before now → OnErr result (Rose before now)
Rose-CountsFailure (Ok x) before now counts = tt
Rose-CountsFailure (Err e) before now counts = omega (arith, counts)

pub OnOk-⊤ : {T E : Type 0} (result : Result T E) → OnOk result ⊤
OnOk-⊤ (Ok x) = tt
OnOk-⊤ (Err e) = tt

pub OnErr-⊤ : {T E : Type 0} (result : Result T E) → OnErr result ⊤
OnErr-⊤ (Ok x) = tt
OnErr-⊤ (Err e) = tt

pub ReadConsumes-None : {E : Type 0} (result : Result ℕ E) (bytes : List ℕ) → ReadConsumes None None result bytes
ReadConsumes-None (Ok n) bytes = (tt, λ _ _. tt)
ReadConsumes-None (Err e) bytes = tt
