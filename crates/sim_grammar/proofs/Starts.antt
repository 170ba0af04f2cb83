-- What the first word of words tells: tests of its kind.
use Rattle.std.proofs.Common.{◌≡◌, Bool, true, false, cond, ◌&&◌, ◌||◌, List, [], ◌∷◌, ◌++◌, refl, sym, subst, ap, ◌∙◌, eq-eqb, inl, inr}
use Rattle.std.specs.Prelude.{◌⊎◌, not}
use Rattle.std.specs.List.{list_all}
use Rattle.std.proofs.lemmas.Bool.{eqb-true, or_cases, or_parts, or_left, or_right, and_parts, false_from_ne_true}
use Rattle.std.proofs.lemmas.List.Folds.{list_any-append}
use Rattle.sim_lexer.specs.Words.{Word}
use Rattle.sim_lexer.specs.declared.token.TokenKind.{TokenKind}
use Rattle.sim_lexer.specs.declared.token.TokenKind.TheVariants.{Name, Number, Keyword, Symbol, End}
use Rattle.sim_grammar.specs.Read.{is_kind, among, starts}

-- ---- kinds

pub is_kind-same : (a b : TokenKind) → is_kind a b ≡ true → a ≡ b
is_kind-same (Keyword m) (Keyword n) h = ap Keyword (eqb-true m n h)
is_kind-same (Symbol m) (Symbol n) h = ap Symbol (eqb-true m n h)
is_kind-same Name Name h = refl
is_kind-same Number Number h = refl
is_kind-same End End h = refl
is_kind-same a b h = cc

pub is_kind-self : (a : TokenKind) → is_kind a a ≡ true
is_kind-self (Keyword m) = eq-eqb m m refl
is_kind-self (Symbol m) = eq-eqb m m refl
is_kind-self Name = refl
is_kind-self Number = refl
is_kind-self End = refl

-- ---- lists of kinds

-- no kind is in both lists
abbrev pub apart : List TokenKind → List TokenKind → Bool
apart kinds others = list_all (λ kind. not (among others kind)) kinds

-- each kind of the first list is in the second
abbrev pub within : List TokenKind → List TokenKind → Bool
within kinds others = list_all (λ kind. among others kind) kinds

not-true : (b : Bool) → not b ≡ true → b ≡ false
not-true true h = absurd (cc)
not-true false h = refl

among-apart : (kinds others : List TokenKind) (kind : TokenKind) → apart kinds others ≡ true → among kinds kind ≡ true → among others kind ≡ false
among-apart [] others kind h is = absurd (cc)
among-apart (first ∷ kinds) others kind h is =
    let parts = and_parts (not (among others first)) (apart kinds others) h in
    elim (or_cases (is_kind kind first) (among kinds kind) is) [
      | inl here ↦ subst (λ k. among others k ≡ false) (sym (is_kind-same kind first here)) (not-true (among others first) parts.0)
      | inr there ↦ among-apart kinds others kind parts.1 there
    ]

among-within : (kinds others : List TokenKind) (kind : TokenKind) → within kinds others ≡ true → among kinds kind ≡ true → among others kind ≡ true
among-within [] others kind h is = absurd (cc)
among-within (first ∷ kinds) others kind h is =
    let parts = and_parts (among others first) (within kinds others) h in
    elim (or_cases (is_kind kind first) (among kinds kind) is) [
      | inl here ↦ subst (λ k. among others k ≡ true) (sym (is_kind-same kind first here)) parts.0
      | inr there ↦ among-within kinds others kind parts.1 there
    ]

-- ---- the first word

pub starts-front : (kinds others : List TokenKind) (front rest : List Word) → starts kinds front ≡ true → starts others (front ++ rest) ≡ starts others front
starts-front kinds others [] rest h = absurd (cc)
starts-front kinds others (t ∷ front) rest h = refl

pub starts-append : (kinds : List TokenKind) (front rest : List Word) → starts kinds front ≡ true → starts kinds (front ++ rest) ≡ true
starts-append kinds front rest h = starts-front kinds kinds front rest h ∙ h

pub starts-both : (kinds others : List TokenKind) (words : List Word) → starts (kinds ++ others) words ≡ (starts kinds words || starts others words)
starts-both kinds others [] = refl
starts-both kinds others (t ∷ words) = list_any-append (is_kind t.kind) kinds others

pub starts-left : (kinds others : List TokenKind) (words : List Word) → starts kinds words ≡ true → starts (kinds ++ others) words ≡ true
starts-left kinds others words h = starts-both kinds others words ∙ or_left (starts kinds words) (starts others words) h

pub starts-right : (kinds others : List TokenKind) (words : List Word) → starts others words ≡ true → starts (kinds ++ others) words ≡ true
starts-right kinds others words h = starts-both kinds others words ∙ or_right (starts kinds words) (starts others words) h

pub starts-neither : (kinds others : List TokenKind) (words : List Word) → starts (kinds ++ others) words ≡ false → (starts kinds words ≡ false) × (starts others words ≡ false)
starts-neither kinds others words h = or_parts (starts kinds words) (starts others words) (sym (starts-both kinds others words) ∙ h)

pub starts-apart : (kinds others : List TokenKind) (words : List Word) → apart kinds others ≡ true → starts kinds words ≡ true → starts others words ≡ false
starts-apart kinds others [] h is = refl
starts-apart kinds others (t ∷ words) h is = among-apart kinds others t.kind h is

pub starts-within : (kinds others : List TokenKind) (words : List Word) → within kinds others ≡ true → starts kinds words ≡ true → starts others words ≡ true
starts-within kinds others [] h is = absurd (cc)
starts-within kinds others (t ∷ words) h is = among-within kinds others t.kind h is

pub starts-without : (kinds others : List TokenKind) (words : List Word) → within kinds others ≡ true → starts others words ≡ false → starts kinds words ≡ false
starts-without kinds others words h not = false_from_ne_true (starts kinds words) (λ is. let has = starts-within kinds others words h is in cc)

-- ---- what may stand at the front

-- words begin with one of these kinds, or there may be none
abbrev pub Opens : Bool → List TokenKind → List Word → Type 0
Opens empty kinds front = (starts kinds front ≡ true) ⊎ ((empty ≡ true) × (front ≡ []))

-- those of one list, and where there may be none those of the other
abbrev pub or_if : Bool → List TokenKind → List TokenKind → List TokenKind
or_if empty kinds others = kinds ++ cond empty others []

pub opens_first : (empty : Bool) (kinds others : List TokenKind) (words : List Word) → starts kinds words ≡ true → starts (or_if empty kinds others) words ≡ true
opens_first empty kinds others words h = starts-left kinds (cond empty others []) words h

pub opens_later : (empty : Bool) (kinds others : List TokenKind) (words : List Word) → empty ≡ true → starts others words ≡ true → starts (or_if empty kinds others) words ≡ true
opens_later true kinds others words e h = starts-right kinds others words h
opens_later false kinds others words e h = absurd (cc)

-- where nothing of either list stands, nothing of the first stands
pub stops_first : (empty : Bool) (kinds others : List TokenKind) (words : List Word) → starts (or_if empty kinds others) words ≡ false → starts kinds words ≡ false
stops_first empty kinds others words h = (starts-neither kinds (cond empty others []) words h).0

pub stops_later : (empty : Bool) (kinds others : List TokenKind) (words : List Word) → empty ≡ true → starts (or_if empty kinds others) words ≡ false → starts others words ≡ false
stops_later true kinds others words e h = (starts-neither kinds others words h).1
stops_later false kinds others words e h = absurd (cc)

-- what stands after a part is none of what would go on, where the next part doesn't begin so and, if there is none of it, the rest doesn't
pub next_stops : (empty : Bool) (firsts stops after : List TokenKind) (back rest : List Word) → Opens empty firsts back → apart firsts stops ≡ true
    → starts (or_if empty after stops) rest ≡ false → starts stops (back ++ rest) ≡ false
next_stops empty firsts stops after back rest (inl h) apart_is stop = starts-front firsts stops back rest h ∙ starts-apart firsts stops back apart_is h
next_stops empty firsts stops after back rest (inr none) apart_is stop = ap (λ t. starts stops (t ++ rest)) none.1 ∙ stops_later empty after stops rest none.0 stop

pub opens_both : (e d : Bool) (f g : List TokenKind) (front back : List Word) → Opens e f front → Opens d g back → Opens (e && d) (or_if e f g) (front ++ back)
opens_both e d f g front back (inl h) next = inl (opens_first e f g (front ++ back) (starts-append f front back h))
opens_both e d f g front back (inr none) (inl h) = inl (ap (λ t. starts (or_if e f g) (t ++ back)) none.1 ∙ opens_later e f g back none.0 h)
opens_both e d f g front back (inr none) (inr empty) = inr (let one = none.0 in let two = empty.0 in (rw (one, two) refl, let a = none.1 in let b = empty.1 in rw (a, b) refl))

-- ---- the end of the text

-- whether an end stands among words
abbrev pub has_end : List Word → Bool
has_end [] = false
has_end (w ∷ ws) = is_kind w.kind End || has_end ws

-- whether the kind of the end is among kinds
abbrev pub ends : List TokenKind → Bool
ends [] = false
ends (kind ∷ kinds) = is_kind kind End || ends kinds

pub has_end-append : (front back : List Word) → has_end front ≡ false → has_end back ≡ false → has_end (front ++ back) ≡ false
has_end-append [] back none other = other
has_end-append (w ∷ front) back none other =
    let parts = or_parts (is_kind w.kind End) (has_end front) none in
    let here = parts.0 in
    rw here (has_end-append front back parts.1 other)
