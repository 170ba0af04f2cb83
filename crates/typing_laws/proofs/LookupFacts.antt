-- What is found of an element type or a set by its name.
use Rattle.std.proofs.Common.{◌≡◌, ℕ, false, Option, Some, None, refl, ap, ◌∙◌}
use Rattle.std.specs.Prelude.{slice_get}
use Rattle.std.specs.Option.{is_none, option_map}
use Rattle.typed_tree.specs.declared.environment.Declarations.{Declarations}
use Rattle.typed_tree.specs.declared.names.Meaning.{Meaning}
use Rattle.typed_tree.specs.declared.names.Meaning.TheVariants as meaning
use Rattle.typed_tree.specs.declared.program.SetShape.{SetShape}
use Rattle.typed_tree.specs.declared.program.TypedSet.{TypedSet}
use Rattle.typed_tree.specs.Lookups.{element_meant, set_meant}

pub element_meant_split : (m : Option Meaning) → is_none (element_meant m) ≡ false → (n : ℕ) × (m ≡ Some (meaning.Element n))
element_meant_split (Some (meaning.Element n)) is = (n, refl)
element_meant_split other is = absurd (cc)

pub set_meant_split : (known : Declarations) (m : Option Meaning) → is_none (set_meant known m) ≡ false
    → (n : ℕ) × (set : TypedSet) × (m ≡ Some (meaning.Set n)) × (slice_get known.sets n ≡ Some set)
set_meant_split known (Some (meaning.Set n)) is = by_found (slice_get known.sets n) refl is
  where
    by_found : (o : Option TypedSet) → slice_get known.sets n ≡ o → is_none {T = ℕ × SetShape} (option_map (λ set. (n, set.shape)) o) ≡ false
        → (k : ℕ) × (set : TypedSet) × (Some (meaning.Set n) ≡ Some (meaning.Set k)) × (slice_get known.sets k ≡ Some set)
    by_found None at answers = absurd (cc)
    by_found (Some set) at answers = (n, set, refl, at)
set_meant_split known other is = absurd (cc)

pub set_meant_is : (known : Declarations) (m : Option Meaning) (n : ℕ) (set : TypedSet) → m ≡ Some (meaning.Set n) → slice_get known.sets n ≡ Some set
    → set_meant known m ≡ Some (n, set.shape)
set_meant_is known m n set means at = ap (set_meant known) means ∙ ap (option_map (λ s. (n, s.shape))) at
