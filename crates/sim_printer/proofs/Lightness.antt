-- When printed words are no heavier than words of a source: no more words, no deeper brackets, as well spelled.
use Rattle.std.proofs.Common.{◌≡◌, ℕ, ◌+◌, ◌-◌, ◌<◌, ◌≤◌, Bool, true, false, ◌&&◌, List, [], ◌∷◌, ◌++◌, length, refl, sym, subst, ap, ◌∙◌, arith, cond}
use Rattle.std.specs.Prelude.{⊤}
use Rattle.std.proofs.lemmas.List.{length-append}
use Rattle.sim_lexer.specs.Tokens.{Spells, depth_after_kind, opens, closes}
use Rattle.sim_lexer.specs.Joined.{StaysWithin}
use Rattle.sim_lexer.specs.Words.{Word}
use Rattle.sim_lexer.specs.declared.token.TokenKind.{TokenKind}
use Rattle.sim_lexer.specs.declared.token.TokenKind.TheVariants.{Name, Number, Keyword, Symbol, End}
use Rattle.sim_lexer.specs.declared.token.symbol.TheConstants as symbol
use Rattle.sim_grammar.specs.Rule.{Are, kinds_of, line_of, sym as symbol_kind}
use Rattle.sim_printer.specs.Printed.{fixed, spelling, in_parentheses}

-- ---- depths

-- how many brackets and blocks are open after words
abbrev pub after : ℕ → List Word → ℕ
after d [] = d
after d (w ∷ ws) = after (depth_after_kind d w.kind) ws

abbrev pub Within : ℕ → List Word → Type 0
Within d ws = StaysWithin d (kinds_of ws)

after-append : (d : ℕ) (a b : List Word) → after d (a ++ b) ≡ after (after d a) b
after-append d [] b = refl
after-append d (w ∷ a) b = after-append (depth_after_kind d w.kind) a b

pub within_first : (d : ℕ) (a b : List Word) → Within d (a ++ b) → Within d a
within_first d [] b h = tt
within_first d (w ∷ a) b h = (h.0, within_first (depth_after_kind d w.kind) a b h.1)

within_second : (d : ℕ) (a b : List Word) → Within d (a ++ b) → Within (after d a) b
within_second d [] b h = h
within_second d (w ∷ a) b h = within_second (depth_after_kind d w.kind) a b h.1

within_both : (d : ℕ) (a b : List Word) → Within d a → Within (after d a) b → Within d (a ++ b)
within_both d [] b h g = g
within_both d (w ∷ a) b h g = (h.0, within_both (depth_after_kind d w.kind) a b h.1 g)

-- ---- words alone

abbrev pub AreSpelled : List Word → Type 0
AreSpelled [] = ⊤
AreSpelled (w ∷ ws) = Spells w.kind w.text × AreSpelled ws

pub spelled_first : (a b : List Word) → AreSpelled (a ++ b) → AreSpelled a
spelled_first [] b h = tt
spelled_first (w ∷ a) b h = (h.0, spelled_first a b h.1)

spelled_second : (a b : List Word) → AreSpelled (a ++ b) → AreSpelled b
spelled_second [] b h = h
spelled_second (w ∷ a) b h = spelled_second a b h.1

spelled_both : (a b : List Word) → AreSpelled a → AreSpelled b → AreSpelled (a ++ b)
spelled_both [] b h g = g
spelled_both (w ∷ a) b h g = (h.0, spelled_both a b h.1 g)

-- on the first line, and not the end
abbrev pub ArePlain : List Word → Type 0
ArePlain [] = ⊤
ArePlain (w ∷ ws) = (w.line ≡ 1) × (¬ (w.kind ≡ End)) × ArePlain ws

plain_both : (a b : List Word) → ArePlain a → ArePlain b → ArePlain (a ++ b)
plain_both [] b h g = g
plain_both (w ∷ a) b h g = (h.0, h.1, plain_both a b h.2 g)

pub plain_line : (ws : List Word) → 0 < length ws → ArePlain ws → line_of ws ≡ 1
plain_line [] some h = absurd (omega arith)
plain_line (w ∷ ws) some h = h.0

-- ---- printed words and words of a source

pub record IsLight (printed words : List Word) : Type 0 where
  pub few : length printed ≤ length words
  pub ends : (d : ℕ) → after d printed ≡ after d words
  pub within : (d : ℕ) → Within d words → Within d printed
  pub spelled : AreSpelled words → AreSpelled printed
  pub plain : ArePlain printed

pub light_nothing : IsLight [] []
light_nothing = record { few = omega arith; ends = λ d. refl; within = λ d h. h; spelled = λ h. h; plain = tt }

pub light_append : (p w q v : List Word) → IsLight p w → IsLight q v → IsLight (p ++ q) (w ++ v)
light_append p w q v h g = record {
  few = let a = h.few in let b = g.few in omega (arith, length-append p q, length-append w v);
  ends = λ d. after-append d p q ∙ ap (λ e. after e q) (h.ends d) ∙ g.ends (after d w) ∙ sym (after-append d w v);
  within = λ d all. within_both d p q (h.within d (within_first d w v all))
      (subst (λ (e : ℕ). Within e q) (sym (h.ends d)) (g.within (after d w) (within_second d w v all)));
  spelled = λ all. spelled_both p q (h.spelled (spelled_first w v all)) (g.spelled (spelled_second w v all));
  plain = plain_both p q h.plain g.plain;
}

-- ---- keywords and symbols

abbrev pub is_fixed : TokenKind → Bool
is_fixed (Keyword n) = true
is_fixed (Symbol n) = true
is_fixed other = false

abbrev pub are_fixed : List TokenKind → Bool
are_fixed [] = true
are_fixed (kind ∷ kinds) = is_fixed kind && are_fixed kinds

fixed_spelled : (kind : TokenKind) (text : List ℕ) → is_fixed kind ≡ true → Spells kind text → Spells kind (spelling kind)
unfolding spelling
fixed_spelled (Keyword n) text e h = (h.0, refl)
fixed_spelled (Symbol n) text e h = (h.0, refl)
fixed_spelled Name text e h = absurd cc
fixed_spelled Number text e h = absurd cc
fixed_spelled End text e h = absurd cc

fixed_no_end : (kind : TokenKind) → is_fixed kind ≡ true → ¬ (kind ≡ End)
fixed_no_end (Keyword n) e = λ h. absurd cc
fixed_no_end (Symbol n) e = λ h. absurd cc
fixed_no_end Name e = absurd cc
fixed_no_end Number e = absurd cc
fixed_no_end End e = absurd cc

both_first : (a b : Bool) → (a && b) ≡ true → a ≡ true
both_first true b e = refl
both_first false b e = absurd cc

both_second : (a b : Bool) → (a && b) ≡ true → b ≡ true
both_second true b e = e
both_second false b e = absurd cc

light_kinds : (ws : List Word) → are_fixed (kinds_of ws) ≡ true → IsLight (fixed (kinds_of ws)) ws
light_kinds [] e = light_nothing
light_kinds (w ∷ ws) e =
    let h = light_kinds ws (both_second (is_fixed w.kind) (are_fixed (kinds_of ws)) e) in
    let here = both_first (is_fixed w.kind) (are_fixed (kinds_of ws)) e in
    record {
      few = let f = h.few in omega arith;
      ends = λ d. h.ends (depth_after_kind d w.kind);
      within = λ d all. (all.0, h.within (depth_after_kind d w.kind) all.1);
      spelled = λ all. (fixed_spelled w.kind w.text here all.0, h.spelled all.1);
      plain = (refl, fixed_no_end w.kind here, h.plain);
    }

pub light_fixed : (kinds : List TokenKind) (ws : List Word) → are_fixed kinds ≡ true → Are kinds ws → IsLight (fixed kinds) ws
light_fixed kinds ws e are = subst (λ (ks : List TokenKind). IsLight (fixed ks) ws) are (light_kinds ws (ap are_fixed are ∙ e))

pub fixed_are : (kinds : List TokenKind) → Are kinds (fixed kinds)
fixed_are [] = refl
fixed_are (kind ∷ kinds) = ap (λ ks. kind ∷ ks) (fixed_are kinds)

-- ---- parentheses

-- words that leave as many brackets and blocks open as they find
abbrev pub IsBalanced : List Word → Type 0
IsBalanced ws = (d : ℕ) → after d ws ≡ d

pub balanced_append : (a b : List Word) → IsBalanced a → IsBalanced b → IsBalanced (a ++ b)
balanced_append a b h g = λ d. after-append d a b ∙ ap (λ e. after e b) (h d) ∙ g d

-- one more bracket around balanced words
pub balanced_around : (opening closing : TokenKind) (ws : List Word) → opens opening ≡ true → opens closing ≡ false → closes closing ≡ true → IsBalanced ws
    → IsBalanced (fixed (opening ∷ []) ++ ws ++ fixed (closing ∷ []))
balanced_around opening closing ws o n c h = λ d.
    let deeper : depth_after_kind d opening ≡ d + 1 = rw o refl in
    let inside : after (depth_after_kind d opening) ws ≡ d + 1 = h (depth_after_kind d opening) ∙ deeper in
    let back : depth_after_kind (d + 1) closing ≡ d = rw (n, c) (omega arith) in
    after-append (depth_after_kind d opening) ws (fixed (closing ∷ [])) ∙ ap (λ e. depth_after_kind e closing) inside ∙ back

-- the depth is monotone
deeper_after : (d e : ℕ) (kind : TokenKind) → d ≤ e → depth_after_kind d kind ≤ depth_after_kind e kind
deeper_after d e kind le = go (opens kind) (closes kind)
  where
    go : (o c : Bool) → cond o (d + 1) (cond c (d - 1) d) ≤ cond o (e + 1) (cond c (e - 1) e)
    go true c = omega arith
    go false true = omega arith
    go false false = omega arith

within_less : (d e : ℕ) (ws : List Word) → d ≤ e → Within e ws → Within d ws
within_less d e [] le h = tt
within_less d e (w ∷ ws) le h =
    let deep = deeper_after d e w.kind le in
    let here = h.0 in
    (omega arith, within_less (depth_after_kind d w.kind) (depth_after_kind e w.kind) ws deep h.1)

plain_before : (a b : List Word) → ArePlain (a ++ b) → ArePlain a
plain_before [] b h = tt
plain_before (v ∷ a) b h = (h.0, h.1, plain_before a b h.2)

-- parentheses around balanced words may be left out
pub light_without : (p w : List Word) → IsBalanced p → IsLight (in_parentheses p) w → IsLight p w
light_without p w balanced h =
    let closing : List Word = fixed (symbol_kind symbol.CLOSE_PAREN) in
    record {
      few = let f = h.few in omega (arith, length-append p closing);
      ends = λ d. balanced d ∙ sym (balanced_around (Symbol symbol.OPEN_PAREN) (Symbol symbol.CLOSE_PAREN) p refl refl refl balanced d) ∙ h.ends d;
      within = λ d all. within_less d (d + 1) p (omega arith) (within_first (d + 1) p closing (h.within d all).1);
      spelled = λ all. spelled_first p closing (h.spelled all).1;
      plain = plain_before p closing (h.plain).2;
    }
