-- Comparisons of words.
use Rattle.std.proofs.Common.{◌≡◌, ℕ, Result, Ok, Err, ap, ◌∙◌}
use Rattle.vocabulary.specs.Answers.{◌>>=◌}
use Rattle.ring_words.specs.declared.trap.TrapKind.{TrapKind}
use Rattle.typed_tree.specs.declared.condition.TypedCmp.{TypedCmp}
use Rattle.value_algebra.specs.Value.{word_of}
use Rattle.algebra_meaning.specs.Expression.{Meant, Scope, comparison, held, meaning}
use Rattle.word_stacks.specs.References.{first_meant}

one : {B : Type 0} (m : Meant) (f : ℕ → Result B TrapKind) (a : ℕ) → first_meant m ≡ Ok a → (m >>= λ v. f (word_of v)) ≡ f a
one (Ok v) f a is = let same : word_of v ≡ a = cc in ap f same
one (Err kind) f a is = absurd (cc)

one_stopped : {B : Type 0} (m : Meant) (f : ℕ → Result B TrapKind) (kind : TrapKind) → first_meant m ≡ Err kind → (m >>= λ v. f (word_of v)) ≡ Err kind
one_stopped (Ok v) f kind is = absurd (cc)
one_stopped (Err trap) f kind is = let same : trap ≡ kind = cc in ap (λ t. Err t) same

pub comparison_is : (scope : Scope) (cmp : TypedCmp) (a b : ℕ) → first_meant (meaning scope cmp.left) ≡ Ok a → first_meant (meaning scope cmp.right) ≡ Ok b
    → comparison scope cmp ≡ Ok (held cmp.negated cmp.op a b)
unfolding comparison
comparison_is scope cmp a b first second =
    one (meaning scope cmp.left) (λ x. meaning scope cmp.right >>= λ r. Ok (held cmp.negated cmp.op x (word_of r))) a first
    ∙ one (meaning scope cmp.right) (λ y. Ok (held cmp.negated cmp.op a y)) b second

pub comparison_first : (scope : Scope) (cmp : TypedCmp) (kind : TrapKind) → first_meant (meaning scope cmp.left) ≡ Err kind → comparison scope cmp ≡ Err kind
unfolding comparison
comparison_first scope cmp kind first = one_stopped (meaning scope cmp.left) (λ x. meaning scope cmp.right >>= λ r. Ok (held cmp.negated cmp.op x (word_of r))) kind first

pub comparison_second : (scope : Scope) (cmp : TypedCmp) (a : ℕ) (kind : TrapKind) → first_meant (meaning scope cmp.left) ≡ Ok a → first_meant (meaning scope cmp.right) ≡ Err kind
    → comparison scope cmp ≡ Err kind
unfolding comparison
comparison_second scope cmp a kind first second =
    one (meaning scope cmp.left) (λ x. meaning scope cmp.right >>= λ r. Ok (held cmp.negated cmp.op x (word_of r))) a first
    ∙ one_stopped (meaning scope cmp.right) (λ y. Ok (held cmp.negated cmp.op a y)) kind second
