-- How loops go through new names.
use Rattle.std.proofs.Common.{◌≡◌, ℕ, ◌+◌, ◌<◌, ◌≤◌, true, false, not, ◌&&◌, ◌||◌, List, [], ◌∷◌, length, drop, get_or, refl, sym, ap, ◌∙◌}
use Rattle.std.proofs.lemmas.List.{drop_all}
use Rattle.type_rules.specs.declared.types.NodeType.{NodeType}
use Rattle.typed_tree.specs.declared.environment.Walk.{Walk}
use Rattle.typed_tree.specs.declared.names.Meaning.TheVariants.{Taken}
use Rattle.typed_tree.specs.Names.{Known, Name, is_known, with_meaning}
use Rattle.typed_tree.specs.MainProcedure.{are_new, with_variable, with_variables}
use Rattle.main_types.proofs.Steps.{from_here}

-- a name that is new
pub new_more : (known before : Known) (names : List Name) (i : ℕ) (name : Name)
    → i < length names → name ≡ get_or names i name → (is_known known name || is_known before name) ≡ false
    → are_new known (with_meaning before name Taken) (drop (i + 1) names) ≡ are_new known before (drop i names)
new_more known before names i name below here new =
    sym (ap (are_new known before) (from_here names i name below here)
    ∙ ap (λ b. not b && are_new known (with_meaning before name Taken) (drop (i + 1) names)) new)

-- a name that isn't
pub not_new : (known before : Known) (names : List Name) (i : ℕ) (name : Name)
    → i < length names → name ≡ get_or names i name → (is_known known name || is_known before name) ≡ true
    → are_new known before (drop i names) ≡ false
not_new known before names i name below here taken =
    ap (are_new known before) (from_here names i name below here)
    ∙ ap (λ b. not b && are_new known (with_meaning before name Taken) (drop (i + 1) names)) taken

-- no name is left
pub new_done : (known before : Known) (names : List Name) (i : ℕ) → length names ≤ i → are_new known before (drop i names) ≡ true
new_done known before names i past = ap (are_new known before) (drop_all i names past)

-- ---- variables

-- another variable
pub variable_more : (walk : Walk) (names : List Name) (i : ℕ) (name : Name) (types rest : List NodeType) (type : NodeType)
    → i < length names → name ≡ get_or names i name → types ≡ type ∷ rest
    → with_variables (with_variable walk name type) (drop (i + 1) names) rest ≡ with_variables walk (drop i names) types
variable_more walk names i name types rest type below here first =
    sym (ap (λ l. with_variables walk l types) (from_here names i name below here) ∙ ap (with_variables walk (name ∷ drop (i + 1) names)) first)

-- no type is left
pub no_type_left : (walk : Walk) (names : List Name) → with_variables walk names [] ≡ walk
no_type_left walk [] = refl
no_type_left walk (name ∷ names) = refl

-- no name is left
pub no_name_left : (walk : Walk) (names : List Name) (i : ℕ) (types : List NodeType) → length names ≤ i → with_variables walk (drop i names) types ≡ walk
no_name_left walk names i types past = ap (λ l. with_variables walk l types) (drop_all i names past)
