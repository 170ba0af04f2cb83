-- Answers that are values.
use Rattle.std.proofs.Common.{◌≡◌, ℕ, Bool, true, false, Some, Result, Ok, Err, refl}
use Rattle.std.specs.Prelude.{if◌then◌else◌}
use Rattle.vocabulary.specs.Answers.{◌>>=◌}
use Rattle.type_rules.specs.declared.types.TypeKind.{TypeKind}
use Rattle.typed_tree.specs.Steps.{at_line}

abbrev answer : {A : Type 0} (E : Type 0) → A → Result A E
answer E x = Ok x

pub same_Ok : {A E : Type 0} (x y : A) → answer E x ≡ answer E y → x ≡ y
same_Ok x y same = cc

pub same_Some : {A : Type 0} (x y : A) → Some x ≡ Some y → x ≡ y
same_Some x y same = cc

-- what goes on to a value had one to go on from
pub and_then : {A B E : Type 0} (r : Result A E) (f : A → Result B E) (b : B) → (r >>= f) ≡ Ok b → (a : A) × (r ≡ Ok a) × (f a ≡ Ok b)
and_then (Ok a) f b is = (a, refl, is)
and_then (Err fault) f b is = absurd (cc)

pub at_line_Ok : {A : Type 0} (line : ℕ) (r : Result A TypeKind) (a : A) → at_line line r ≡ Ok a → r ≡ Ok a
at_line_Ok line (Ok x) a is = cc
at_line_Ok line (Err kind) a is = absurd (cc)

-- a rule whose test passed
pub passed : {A : Type 0} (test : Bool) (kind : TypeKind) (rest : Result A TypeKind) (a : A) → (if test then Err kind else rest) ≡ Ok a → (test ≡ false) × (rest ≡ Ok a)
passed true kind rest a is = absurd (cc)
passed false kind rest a is = (refl, is)
