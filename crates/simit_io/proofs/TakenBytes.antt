-- The bytes of a file that are taken part by part.
use Rattle.std.proofs.Common.{◌≡◌, ℕ, ◌∙◌, ap, sym, List, ◌++◌, length, drop, append_assoc, append-nil, Option, Some, None}
use Rattle.std.specs.Bool.{⊤}
use Rattle.std.specs.Io.KnownBytes.{Consumes, IsAtEnd}
use Rattle.std.proofs.Math.Seq.{drop-append_seam}
use Rattle.simit_io.specs.Inputs.{Files, Reads, IsLeftAfter}

-- where the files are known, the bytes taken so far and those that are left are the file of that name
abbrev pub IsAt : Option Files → List ℕ → List ℕ → Option (List ℕ) → Type 0
IsAt None name done left = ⊤
IsAt (Some files) name done None = ⊥
IsAt (Some files) name done (Some left) = files name ≡ Some (done ++ left)

-- the next bytes are taken
pub IsAt-take : (holds : Option Files) (name done bytes : List ℕ) (left now : Option (List ℕ)) → IsAt holds name done left → Consumes left now bytes → IsAt holds name (done ++ bytes) now
IsAt-take None name done bytes left now at taken = tt
IsAt-take (Some files) name done bytes None now at taken = absurd at
IsAt-take (Some files) name done bytes (Some left) None at taken = absurd taken
IsAt-take (Some files) name done bytes (Some left) (Some now) at taken =
    at ∙ ap (λ v. Some (done ++ v)) taken ∙ ap Some (sym (append_assoc done bytes now))

-- at the end the whole file is taken
pub IsAt-end : (holds : Option Files) (name done : List ℕ) (left : Option (List ℕ)) → IsAt holds name done left → IsAtEnd left → Reads holds name done
IsAt-end None name done left at end = tt
IsAt-end (Some files) name done None at end = absurd at
IsAt-end (Some files) name done (Some left) at end = at ∙ ap (λ v. Some (done ++ v)) end ∙ ap Some (append-nil done)

-- what is left are the bytes after those that were taken
pub IsAt-after : (holds : Option Files) (name done : List ℕ) (size : ℕ) (left : Option (List ℕ)) → IsAt holds name done left → length done ≡ size → IsLeftAfter holds name size left
IsAt-after None name done size left at sized = tt
IsAt-after (Some files) name done size None at sized = absurd at
IsAt-after (Some files) name done size (Some left) at sized =
    rw at (ap Some (sym (drop-append_seam done left)) ∙ ap (λ n. Some (drop n (done ++ left))) sized)
