-- Texts to which words are appended.
use Rattle.std.proofs.Common.{◌≡◌, ℕ, zero, suc, ◌+◌, ◌<◌, ◌≤◌, List, [], ◌∷◌, ◌++◌, append-nil, append_assoc, length, take, take_all, get_or, sym, subst, ap, ◌∙◌, arith}
use Rattle.std.specs.List.{flat_map}
use Rattle.std.proofs.lemmas.Grind.{flat_map-append}
use Rattle.vocabulary.specs.declared.marks.TheConstants.{SPACE}
use Rattle.sim_lexer.specs.Joined.{joined}
use Rattle.sim_lexer.specs.Words.{Word}
use Rattle.std.specs.Prelude.{⊤, OnOk, Result, Ok, Err}
use Rattle.vocabulary.specs.declared.no_memory.NoMemory.{NoMemory}
use Rattle.sim_printer.specs.Grown.{Grown}

pub grown_none : (a : List ℕ) → Grown a a []
grown_none a = record { is = sym (append-nil a) }

pub grown_both : (a b c : List ℕ) (p q : List Word) → Grown a b p → Grown b c q → Grown a c (p ++ q)
grown_both a b c p q h k = record {
  is = k.is ∙ ap (λ (t : List ℕ). t ++ joined q) h.is ∙ append_assoc a (joined p) (joined q) ∙ ap (λ (t : List ℕ). a ++ t) (sym (flat_map-append (λ (w : Word). w.text ++ SPACE ∷ []) p q));
}

pub take_next : {A : Type 0} (xs : List A) (i : ℕ) (x : A) → i < length xs → x ≡ get_or xs i x → take (i + 1) xs ≡ take i xs ++ x ∷ []
take_next (y ∷ xs) zero x lt is = ap (λ (z : _). z ∷ []) (sym is)
take_next (y ∷ xs) (suc i) x lt is =
    let e : suc i + 1 ≡ suc (i + 1) = omega arith in
    ap (λ k. take k (y ∷ xs)) e ∙ ap (λ zs. y ∷ zs) (take_next xs i x (omega arith) is)
take_next [] i x lt is = absurd (omega arith)

-- the words of one part more
pub grown_more : {A : Type 0} (f : A → List Word) (xs : List A) (i : ℕ) (x : A) (a b c : List ℕ) → i < length xs → x ≡ get_or xs i x → Grown a b (flat_map f (take i xs)) → Grown b c (f x) → Grown a c (flat_map f (take (i + 1) xs))
grown_more f xs i x a b c lt is h k =
    let words : flat_map f (take (i + 1) xs) ≡ flat_map f (take i xs) ++ f x =
    ap (flat_map f) (take_next xs i x lt is) ∙ flat_map-append f (take i xs) (x ∷ []) ∙ ap (λ (ws : List Word). flat_map f (take i xs) ++ ws) (append-nil (f x)) in
    subst (Grown a c) (sym words) (grown_both a b c (flat_map f (take i xs)) (f x) h k)

-- the words of all parts
pub grown_all : {A : Type 0} (f : A → List Word) (xs : List A) (i : ℕ) (a b : List ℕ) → length xs ≤ i → Grown a b (flat_map f (take i xs)) → Grown a b (flat_map f xs)
grown_all f xs i a b le h = subst (λ ys. Grown a b (flat_map f ys)) (take_all i xs le) h

-- a last call that may run out of memory
pub grown_last : (r : Result ⊤ NoMemory) (a b c : List ℕ) (p q : List Word) → Grown a b p → OnOk r (Grown b c q) → OnOk r (Grown a c (p ++ q))
grown_last (Ok u) a b c p q h k = grown_both a b c p q h k
grown_last (Err e) a b c p q h k = tt
