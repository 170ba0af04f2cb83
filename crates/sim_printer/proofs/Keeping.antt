-- Rules that keep what is printed: where words state a value, the printed words state the same value on the first line, and are no heavier.
use Rattle.std.proofs.Common.{◌≡◌, ℕ, ◌<◌, true, false, List, [], ◌∷◌, ◌++◌, append-nil, length, map, Option, Some, None, refl, sym, subst, ap, ◌∙◌, arith, inl, inr}
use Rattle.std.specs.Prelude.{◌⊎◌}
use Rattle.std.specs.List.{flat_map}
use Rattle.std.proofs.lemmas.List.{length-append, length-map}
use Rattle.sim_lexer.specs.Words.{Word}
use Rattle.sim_lexer.specs.declared.token.TokenKind.{TokenKind}
use Rattle.sim_lexer.specs.declared.token.TokenKind.TheVariants.{Name, Number, End}
use Rattle.sim_grammar.specs.Rule.{Rule, Are, Spelt, Joined, line_of, ◌⊗◌, ◌▸◌, ◌◂◌, StateEach, Each, ◌∣◌, Fixed, Made, Node, Separated, OneOrTwo, Maybe, MaybeSome, Whether}
use Rattle.sim_printer.specs.Printed.{fixed, word, whether, separated}
use Rattle.sim_printer.proofs.Lightness.{IsLight, light_nothing, light_append, light_fixed, fixed_are, are_fixed, plain_line}

pub record Keeps {A : Type 0} (R : Rule A) (first : A → A) (words : A → List Word) : Type 0 where
  pub states : (v : A) (ws : List Word) → R.states v ws → R.states (first v) (words v)
  pub light : (v : A) (ws : List Word) → R.states v ws → IsLight (words v) ws

-- the words that state a value are some
pub record HasWords {A : Type 0} (R : Rule A) : Type 0 where
  pub some : (v : A) (ws : List Word) → R.states v ws → 0 < length ws

-- ---- one after the other

pub joined_light : {Front Back : List Word → Type 0} (p q ws : List Word) (j : Joined Front Back ws) → IsLight p j.front → IsLight q j.back → IsLight (p ++ q) ws
joined_light p q ws j h g = subst (IsLight (p ++ q)) (sym j.parts) (light_append p j.front q j.back h g)

module _ {A B : Type 0} {R : Rule A} {S : Rule B} {f : A → A} {g : B → B} {p : A → List Word} {q : B → List Word} where
  pub keeps_both : Keeps R f p → Keeps S g q → Keeps (R ⊗ S) (λ v. (f v.0, g v.1)) (λ v. p v.0 ++ q v.1)
  keeps_both h k = record {
    states = λ v ws j. record { front = p v.0; back = q v.1; parts = refl; first = h.states v.0 j.front j.first; second = k.states v.1 j.back j.second };
    light = λ v ws j. joined_light (p v.0) (q v.1) ws j (h.light v.0 j.front j.first) (k.light v.1 j.back j.second);
  }

module _ {A : Type 0} {R : Rule A} {f : A → A} {p : A → List Word} (kinds : List TokenKind) where
  pub keeps_after : are_fixed kinds ≡ true → Keeps R f p → Keeps (kinds ▸ R) f (λ v. fixed kinds ++ p v)
  keeps_after e h = record {
    states = λ v ws j. record { front = fixed kinds; back = p v; parts = refl; first = fixed_are kinds; second = h.states v j.back j.second };
    light = λ v ws j. joined_light (fixed kinds) (p v) ws j (light_fixed kinds j.front e j.first) (h.light v j.back j.second);
  }

  pub keeps_before : are_fixed kinds ≡ true → Keeps R f p → Keeps (R ◂ kinds) f (λ v. p v ++ fixed kinds)
  keeps_before e h = record {
    states = λ v ws j. record { front = p v; back = fixed kinds; parts = refl; first = h.states v j.front j.first; second = fixed_are kinds };
    light = λ v ws j. joined_light (p v) (fixed kinds) ws j (h.light v j.front j.first) (light_fixed kinds j.back e j.second);
  }

module _ {A : Type 0} {R : Rule A} {f : A → A} {p : A → List Word} (h : Keeps R f p) where
  each_states : (vs : List A) (ws : List Word) → StateEach R.states vs ws → StateEach R.states (map f vs) (flat_map p vs)
  each_states [] ws e = refl
  each_states (v ∷ vs) ws j = record { front = p v; back = flat_map p vs; parts = refl; first = h.states v j.front j.first; second = each_states vs j.back j.second }

  each_light : (vs : List A) (ws : List Word) → StateEach R.states vs ws → IsLight (flat_map p vs) ws
  each_light [] ws e = subst (IsLight []) (sym e) light_nothing
  each_light (v ∷ vs) ws j = joined_light (p v) (flat_map p vs) ws j (h.light v j.front j.first) (each_light vs j.back j.second)

  pub keeps_each : Keeps (Each R) (map f) (flat_map p)
  keeps_each = record { states = each_states; light = each_light }

-- ---- alternatives

module _ {A : Type 0} {R S : Rule A} {f : A → A} {p : A → List Word} where
  either_states : Keeps R f p → Keeps S f p → (v : A) (ws : List Word) → R.states v ws ⊎ S.states v ws → R.states (f v) (p v) ⊎ S.states (f v) (p v)
  either_states h k v ws (inl s) = inl (h.states v ws s)
  either_states h k v ws (inr s) = inr (k.states v ws s)

  either_light : Keeps R f p → Keeps S f p → (v : A) (ws : List Word) → R.states v ws ⊎ S.states v ws → IsLight (p v) ws
  either_light h k v ws (inl s) = h.light v ws s
  either_light h k v ws (inr s) = k.light v ws s

  pub keeps_either : Keeps R f p → Keeps S f p → Keeps (R ∣ S) f p
  keeps_either h k = record { states = either_states h k; light = either_light h k }

pub keeps_fixed : {A : Type 0} {f : A → A} {p : A → List Word} (kinds : List TokenKind) (value : A) → are_fixed kinds ≡ true → f value ≡ value → p value ≡ fixed kinds → Keeps (Fixed kinds value) f p
keeps_fixed {f = f} {p = p} kinds value e same printed = record {
  states = λ v ws s. (subst (Are kinds) (sym (ap p s.1 ∙ printed)) (fixed_are kinds), ap f s.1 ∙ same);
  light = λ v ws s. subst (λ q. IsLight q ws) (sym (ap p s.1 ∙ printed)) (light_fixed kinds ws e s.0);
}

-- ---- values

-- the same function of the words, written in another way
pub keeps_as : {A : Type 0} {R : Rule A} {f g : A → A} {p q : A → List Word} → Keeps R f p → ((v : A) (ws : List Word) → R.states v ws → g v ≡ f v) → ((v : A) (ws : List Word) → R.states v ws → q v ≡ p v) → Keeps R g q
keeps_as {R = R} {p = p} {q = q} h same printed = record {
  states = λ v ws s. subst (λ x. R.states x (q v)) (sym (same v ws s)) (subst (R.states _) (sym (printed v ws s)) (h.states v ws s));
  light = λ v ws s. subst (λ x. IsLight x ws) (sym (printed v ws s)) (h.light v ws s);
}

module _ {A B : Type 0} {R : Rule A} {f : A → A} {p : A → List Word} {g : B → B} {q : B → List Word} where
  pub keeps_made : (make : A → B) → Keeps R f p → ((v : A) → g (make v) ≡ make (f v)) → ((v : A) → q (make v) ≡ p v) → Keeps (Made make R) g q
  keeps_made make h same printed = record {
    states = λ b ws s. (f s.0, ap g s.1 ∙ same s.0, subst (R.states (f s.0)) (sym (ap q s.1 ∙ printed s.0)) (h.states s.0 ws s.2));
    light = λ b ws s. subst (λ x. IsLight x ws) (sym (ap q s.1 ∙ printed s.0)) (h.light s.0 ws s.2);
  }

  pub keeps_node : (make : ℕ → A → B) → HasWords R → Keeps R f p → ((line : ℕ) (v : A) → g (make line v) ≡ make 1 (f v)) → ((line : ℕ) (v : A) → q (make line v) ≡ p v) → Keeps (Node make R) g q
  keeps_node make has h same printed = record {
    states = λ b ws s.
        let is : q b ≡ p s.0 = ap q s.1 ∙ printed (line_of ws) s.0 in
        let states : R.states (f s.0) (p s.0) = h.states s.0 ws s.2 in
        let line : line_of (p s.0) ≡ 1 = plain_line (p s.0) (has.some (f s.0) (p s.0) states) (h.light s.0 ws s.2).plain in
        let made : g b ≡ make (line_of (p s.0)) (f s.0) = ap g s.1 ∙ same (line_of ws) s.0 ∙ ap (λ l. make l (f s.0)) (sym line) in
        subst (λ x. (Node make R).states (g b) x) (sym is) (f s.0, made, states);
    light = λ b ws s. subst (λ x. IsLight x ws) (sym (ap q s.1 ∙ printed (line_of ws) s.0)) (h.light s.0 ws s.2);
  }

-- ---- single words

pub keeps_spelt : (kind : TokenKind) → ¬ (kind ≡ End) → Keeps (Spelt kind) (λ text. text) (λ text. word kind text ∷ [])
keeps_spelt kind other = record {
  states = λ text ws s. (1, refl);
  light = λ text ws s. subst (IsLight (word kind text ∷ [])) (sym s.1) (record { few = omega arith; ends = λ d. refl; within = λ d h. h; spelled = λ h. h; plain = (refl, other, tt) });
}

pub keeps_name : Keeps (Spelt Name) (λ text. text) (λ text. word Name text ∷ [])
keeps_name = keeps_spelt Name (λ e. absurd cc)

pub keeps_number : Keeps (Spelt Number) (λ text. text) (λ text. word Number text ∷ [])
keeps_number = keeps_spelt Number (λ e. absurd cc)

-- ---- lists and options

module _ {A : Type 0} {R : Rule A} {f : A → A} {p : A → List Word} (h : Keeps R f p) where
  pub keeps_separated : (separator : List TokenKind) → are_fixed separator ≡ true → Keeps (Separated separator R) (map f) (separated separator p)
  keeps_separated separator e = keeps_made (λ values. values.0 ∷ values.1) (keeps_both h (keeps_each (keeps_after separator e h))) (λ v. refl) (λ v. refl)

  one_or_none : (separator : List TokenKind) → are_fixed separator ≡ true → Keeps (Made (λ value. value ∷ []) (separator ▸ R) ∣ Fixed [] []) (map f) (flat_map (λ y. fixed separator ++ p y))
  one_or_none separator e = keeps_either (keeps_made (λ value. value ∷ []) (keeps_after separator e h) (λ v. refl) (λ v. append-nil (fixed separator ++ p v))) (keeps_fixed [] [] refl refl refl)

  pub keeps_one_or_two : (separator : List TokenKind) → are_fixed separator ≡ true → Keeps (OneOrTwo separator R) (map f) (separated separator p)
  keeps_one_or_two separator e = keeps_made (λ values. values.0 ∷ values.1) (keeps_both h (one_or_none separator e)) (λ v. refl) (λ v. refl)

  pub keeps_maybe : {g : Option A → Option A} {q : Option A → List Word} → ((v : A) → g (Some v) ≡ Some (f v)) → g None ≡ None → ((v : A) → q (Some v) ≡ p v) → q None ≡ [] → Keeps (Maybe R) g q
  keeps_maybe same none printed nothing = keeps_either (keeps_made (λ value. Some value) h same printed) (keeps_fixed [] None refl none nothing)

pub keeps_maybe_some : {A : Type 0} {R : Rule (List A)} {f : List A → List A} {p : List A → List Word} → Keeps R f p → f [] ≡ [] → p [] ≡ [] → Keeps (MaybeSome R) f p
keeps_maybe_some h none nothing = keeps_either h (keeps_fixed [] [] refl none nothing)

pub keeps_whether : (kinds : List TokenKind) → are_fixed kinds ≡ true → Keeps (Whether kinds) (λ b. b) (whether kinds)
keeps_whether kinds e = keeps_either (keeps_fixed kinds true e refl refl) (keeps_fixed [] false refl refl refl)

-- ---- some words

same_length : (kinds : List TokenKind) (front : List Word) → Are kinds front → length front ≡ length kinds
same_length kinds front are = sym (length-map front (λ (w : Word). w.kind)) ∙ ap length are

pub words_first : {A B : Type 0} {R : Rule A} (S : Rule B) → HasWords R → HasWords (R ⊗ S)
words_first S h = record { some = λ v ws j. let k = h.some v.0 j.front j.first in omega (arith, ap length j.parts, length-append j.front j.back) }

pub words_second : {A B : Type 0} (R : Rule A) {S : Rule B} → HasWords S → HasWords (R ⊗ S)
words_second R h = record { some = λ v ws j. let k = h.some v.1 j.back j.second in omega (arith, ap length j.parts, length-append j.front j.back) }

pub words_made : {A B : Type 0} {R : Rule A} (make : A → B) → HasWords R → HasWords (Made make R)
words_made make h = record { some = λ v ws s. h.some s.0 ws s.2 }

pub words_node : {A B : Type 0} {R : Rule A} (make : ℕ → A → B) → HasWords R → HasWords (Node make R)
words_node make h = record { some = λ v ws s. h.some s.0 ws s.2 }

pub words_after : {A : Type 0} (R : Rule A) (kinds : List TokenKind) → 0 < length kinds → HasWords (kinds ▸ R)
words_after R kinds lt = record { some = λ v ws j. omega (arith, ap length j.parts, length-append j.front j.back, same_length kinds j.front j.first) }

pub words_before : {A : Type 0} {R : Rule A} (kinds : List TokenKind) → HasWords R → HasWords (R ◂ kinds)
words_before kinds h = record { some = λ v ws j. let k = h.some v j.front j.first in omega (arith, ap length j.parts, length-append j.front j.back) }

pub words_fixed : {A : Type 0} (kinds : List TokenKind) (value : A) → 0 < length kinds → HasWords (Fixed kinds value)
words_fixed kinds value lt = record { some = λ v ws s. omega (arith, same_length kinds ws s.0) }

pub words_either : {A : Type 0} {R S : Rule A} → HasWords R → HasWords S → HasWords (R ∣ S)
words_either {A = A} {R = R} {S = S} h k = record { some = either }
  where
    either : (v : A) (ws : List Word) → R.states v ws ⊎ S.states v ws → 0 < length ws
    either v ws (inl s) = h.some v ws s
    either v ws (inr s) = k.some v ws s

pub words_spelt : (kind : TokenKind) → HasWords (Spelt kind)
words_spelt kind = record { some = λ v ws s. omega (arith, ap length s.1) }

pub words_separated : {A : Type 0} {R : Rule A} (separator : List TokenKind) → HasWords R → HasWords (Separated separator R)
words_separated {R = R} separator h = words_made (λ values. values.0 ∷ values.1) (words_first (Each (separator ▸ R)) h)
