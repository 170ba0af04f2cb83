-- Inputs over memory: files that are given whole, calls that fail by their numbers, and short takes.
use Rattle.std.specs.Prelude.{◌≡◌, ◌-◌, ◌<◌, ◌≤◌, ℕ, ⊤, min, List, [], length, drop, slice_get, find, bytes_eq, Option, None, Some, option_map, unwrap_or}
use Rattle.simit_io.specs.Inputs.{Files}
use Rattle.simit_io.specs.declared.mem_inputs.MemFile.{MemFile}
use Rattle.simit_io.specs.declared.mem_inputs.OpenFile.{OpenFile}

-- inputs over memory as contracts see them
pub record InputsState : Type 0 where
  pub files : List MemFile
  -- the numbers of the calls that fail
  pub fail : List ℕ
  -- the most bytes that a take gives
  pub most : ℕ
  -- the bytes of the open file that are not yet read
  pub left : List ℕ
  -- how many calls of open and take there were, which is the next one's number
  pub calls : ℕ
  pub faults : ℕ

-- of two files of one name the first is the one that is held
abbrev pub file_named : List MemFile → Files
file_named files name = option_map (λ file. file.bytes) (find (λ file. bytes_eq file.name name) files)

-- what no call changes
pub record IsSameSetting (old new : InputsState) : Type 0 where
  pub files : new.files ≡ old.files
  pub fail : new.fail ≡ old.fail
  pub most : new.most ≡ old.most

-- the bytes of the file at that index
abbrev pub bytes_at : List MemFile → ℕ → List ℕ
bytes_at files index = unwrap_or (option_map (λ file. file.bytes) (slice_get files index)) []

-- the bytes of the open file that are not yet read
abbrev pub unread_bytes : List MemFile → Option OpenFile → List ℕ
unread_bytes files None = []
unread_bytes files (Some file) = let bytes = bytes_at files file.index in drop (length bytes - file.left) bytes

-- the open file is one of the files, and no more of it is left than it has
abbrev pub IsOpenIn : List MemFile → Option OpenFile → Type 0
IsOpenIn files None = ⊤
IsOpenIn files (Some file) = (file.index < length files) × (file.left ≤ length (bytes_at files file.index))

-- how many bytes a take that doesn't fail gives for a buffer of that size
abbrev pub taken_of : InputsState → ℕ → ℕ
taken_of state size = min size (min state.most (length state.left))
