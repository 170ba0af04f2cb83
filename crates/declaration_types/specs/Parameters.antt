-- The kinds of parameters, by whether their names are taken.
use Rattle.std.specs.Prelude.{ℕ, Bool, [], ◌∷◌, Option, Result, Ok}
use Rattle.std.specs.Option.{is_none}
use Rattle.vocabulary.specs.Answers.{◌>>=◌}
use Rattle.vocabulary.specs.declared.limits.TheConstants.{MOST_SCALE}
use Rattle.type_rules.specs.Rules.{declared_rule, first_kind, or_zero}
use Rattle.type_rules.specs.Types.{scale_of}
use Rattle.type_rules.specs.declared.types.TypeKind.{TypeKind}
use Rattle.type_rules.specs.declared.types.TypeKind.TheVariants as kind
use Rattle.typed_tree.specs.declared.function.ParameterType.{ParameterType}
use Rattle.typed_tree.specs.declared.function.ParameterType.TheVariants as parameter
use Rattle.typed_tree.specs.Declarations.{count_fault, faultless, taken, unless}

abbrev pub scalar_rule : Bool → Option ℕ → Result ParameterType TypeKind
scalar_rule is_taken scale = unless (taken is_taken) (declared_rule MOST_SCALE [] scale) >>= λ type. Ok (parameter.Scalar (scale_of type))

abbrev pub element_rule : Bool → Option ℕ → Result ParameterType TypeKind
element_rule is_taken of =
    faultless (first_kind ((kind.Unknown, is_none of) ∷ (kind.Twice, is_taken) ∷ [])) >>= λ _. Ok (parameter.Element (or_zero of))

abbrev pub ends_rule : Bool → Option ℕ → Option ℕ → Result ParameterType TypeKind
ends_rule is_taken of count =
    faultless (count_fault (is_none of) is_taken count) >>= λ _. Ok (parameter.Ends (record { element = or_zero of; count = or_zero count }))
