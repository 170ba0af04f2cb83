-- Inputs: which files they hold, what a reading of one gives, and what a count of faults shows.
-- The files of some inputs are known and those of others unknown; so are the bytes that are left of the open file.
use Rattle.std.specs.Prelude.{◌≡◌, ℕ, ◌+◌, ◌-◌, ◌^◌, ◌<◌, ◌≤◌, min, List, Option, None, Some, IsSomeAnd, option_map, Result, MatchResult, ⊤, length, drop}

-- the bytes of the file of each name, or none where it is missing
abbrev pub Files : Type 0
Files = List ℕ → Option (List ℕ)

-- one more; a count at the end of its type stands still
abbrev pub raised : ℕ → ℕ
raised count = min (count + 1) (2 ^ 64 - 1)

-- a fault was counted
abbrev pub Rose : ℕ → ℕ → Type 0
Rose before now = raised before ≤ now

-- a call counts a fault exactly where it fails
abbrev pub CountsFailure : {T E : Type 0} → Result T E → ℕ → ℕ → Type 0
CountsFailure result before now = MatchResult result (λ _. now ≡ before) (λ _. now ≡ raised before)

-- it is known that there is no file of that name
abbrev pub IsMissing : Option Files → List ℕ → Type 0
IsMissing None name = ⊥
IsMissing (Some files) name = files name ≡ None

-- where the files are known, the one of that name is there and has exactly these bytes
abbrev pub Reads : Option Files → List ℕ → List ℕ → Type 0
Reads None name bytes = ⊤
Reads (Some files) name bytes = files name ≡ Some bytes

-- where the files are known, the one of that name is there and has more bytes than the limit
abbrev pub IsLonger : Option Files → List ℕ → ℕ → Type 0
IsLonger None name limit = ⊤
IsLonger (Some files) name limit = IsSomeAnd (files name) (λ bytes. limit < length bytes)

-- where the files are known, the bytes left to be read are the whole file of that name
abbrev pub Opens : Option Files → List ℕ → Option (List ℕ) → Type 0
Opens None name left = ⊤
Opens (Some files) name left = left ≡ files name

-- where the files are known, what is left to be read is the file of that name without its first bytes, as many as the size
abbrev pub IsLeftAfter : Option Files → List ℕ → ℕ → Option (List ℕ) → Type 0
IsLeftAfter None name size left = ⊤
IsLeftAfter (Some files) name size left = left ≡ option_map (λ bytes. drop size bytes) (files name)
