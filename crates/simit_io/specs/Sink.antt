-- Sinks: what is written to them, which is known of some and unknown of others.
use Rattle.std.specs.Prelude.{◌≡◌, ℕ, List, ◌++◌, Option, None, Some, ⊤}

-- where what is written is known after, it was known before, and these bytes were appended
abbrev pub Puts : Option (List ℕ) → Option (List ℕ) → List ℕ → Type 0
Puts old None bytes = ⊤
Puts None (Some new) bytes = ⊥
Puts (Some old) (Some new) bytes = new ≡ old ++ bytes

-- the list begins with the prefix
abbrev pub IsPrefixOf : List ℕ → List ℕ → Type 0
IsPrefixOf prefix bytes = (suffix : List ℕ) × (bytes ≡ prefix ++ suffix)

-- some prefix of these bytes was put
abbrev pub PutsPrefix : Option (List ℕ) → Option (List ℕ) → List ℕ → Type 0
PutsPrefix old new bytes = (prefix : List ℕ) × IsPrefixOf prefix bytes × Puts old new prefix
