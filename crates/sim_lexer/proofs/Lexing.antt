-- What the lexer's steps keep of the definitions.
use Rattle.std.proofs.Common.{◌≡◌, ℕ, zero, suc, ◌+◌, ◌-◌, ◌<◌, ◌≤◌, Bool, true, false, cond, List, [], ◌∷◌, ◌++◌, append_assoc, length, length-take, get_or, take, drop, Option, Some, None, option_map, Result, Ok, Err, IsAscii, refl, sym, subst, ap, ◌∙◌, arith, inl, inr}
use Rattle.std.specs.Prelude.{count_by, IfSome}
use Rattle.std.specs.Char.{is_ascii_digit}
use Rattle.std.proofs.lemmas.Bool.{cases_lt}
use Rattle.std.proofs.lemmas.Bool.Decides.{nat_tests}
use Rattle.std.proofs.lemmas.List.{length_push, get_or-take, get_or_past}
use Rattle.std.proofs.Math.Seq.{take-add}
use Rattle.std.proofs.lemmas.List.Sums.{sum_by-append, prefix_len_passes}
use Rattle.vocabulary.specs.Answers.{◌>>=◌}
use Rattle.vocabulary.specs.declared.limits.TheConstants.{MOST_TOKENS, MOST_DEPTH}
use Rattle.sim_lexer.specs.declared.token.Token.{Token}
use Rattle.sim_lexer.specs.declared.token.TokenKind.{TokenKind}
use Rattle.sim_lexer.specs.declared.token.TokenKind.TheVariants.{Name, Number, Keyword, Symbol, End}
use Rattle.sim_lexer.specs.declared.token.LexFault.{LexFault}
use Rattle.sim_lexer.specs.declared.token.LexFault.TheVariants.{TooMany}
use Rattle.sim_lexer.specs.Tokens.{gap_len, comment_len, symbols, is_line_feed, is_letter, is_name_byte, name_len, number_len, word_kind, symbol_at, symbol_token_at, line_at, token_at, token_after, located, tokens_from, tokens, LiesIn, is_name, is_end, depth_after}

-- what is left of a gap, inside a comment or outside
abbrev pub gap_left : Bool → List ℕ → ℕ
gap_left inside text = cond inside (comment_len text) (gap_len text)

-- the line of a later offset: the line feeds in between are added
pub line_moves : (text : List ℕ) (a b : ℕ) → a ≤ b → line_at text a + count_by is_line_feed (take (b - a) (drop a text)) ≡ line_at text b
line_moves text a b le =
    let feed : ℕ → ℕ = λ x. cond (is_line_feed x) 1 0 in
    let split : take b text ≡ take a text ++ take (b - a) (drop a text) = ap (λ n. take n text) (let e : b ≡ a + (b - a) = omega arith in e) ∙ take-add a (b - a) text in
    let counts : count_by is_line_feed (take b text) ≡ count_by is_line_feed (take a text) + count_by is_line_feed (take (b - a) (drop a text)) =
    ap (count_by is_line_feed) split ∙ sum_by-append feed (take a text) (take (b - a) (drop a text)) in
    omega (arith, counts)

-- the token that is found after a gap is the one of the definition
pub token_found : (text : List ℕ) (offset gap : ℕ) (token : Token) (size : ℕ) → gap ≡ gap_len (drop offset text) → token_at (drop (offset + gap) text) ≡ Some (token.kind, size)
    → token.from ≡ offset + gap → token.to ≡ offset + gap + size → token.line ≡ line_at text (offset + gap) → Ok token ≡ token_after text offset
unfolding token_after
token_found text offset gap token size gap_is at_is from_is to_is line_is =
    let made : token ≡ record { kind = token.kind; from = offset + gap; to = offset + gap + size; line = line_at text (offset + gap) } = λ i. record { kind = token.kind; from = from_is i; to = to_is i; line = line_is i } in
    let located_at : ℕ → Result Token LexFault = λ g. located text (offset + g) (token_at (drop (offset + g) text)) in
    let found : located_at gap ≡ Ok (record { kind = token.kind; from = offset + gap; to = offset + gap + size; line = line_at text (offset + gap) }) = ap (located text (offset + gap)) at_is in
    ap (λ (t : Token). Ok t) made ∙ sym found ∙ ap located_at gap_is

-- ---- the bytes of a name

name_byte_is_low : (b : ℕ) → is_name_byte b ≡ true → b < 128
name_byte_is_low b passes = grind (arith, nat_tests)

name_is_ascii : (text : List ℕ) → IsAscii (take (name_len text) text)
name_is_ascii text i =
    elim (cases_lt i (name_len text)) [
      | inl lt ↦ rw (get_or-take (name_len text) text i 0 lt) (name_byte_is_low (get_or text i 0) (prefix_len_passes is_name_byte text i 0 lt))
      | inr le ↦ rw (get_or_past (take (name_len text) text) i 0 (omega (arith, length-take {A = ℕ}))) (omega arith)
    ]

-- where a text begins with a name, the name's bytes are ASCII
abbrev NamesAscii : List ℕ → Option (TokenKind × ℕ) → Type 0
NamesAscii text found = IfSome found (λ token. is_name token.0 ≡ true → IsAscii (take token.1 text))

found_is_ascii : (text : List ℕ) → NamesAscii text (token_at text)
unfolding token_at
found_is_ascii [] = λ named. absurd (cc)
found_is_ascii (b ∷ rest) = by (is_letter b) (is_ascii_digit b)
  where
    symbol : (found : Option ℕ) → NamesAscii (b ∷ rest) (option_map (λ n. (Symbol n, length (get_or symbols n []))) found)
    symbol None = tt
    symbol (Some n) = λ named. absurd (cc)

    by : (letter digit : Bool) → NamesAscii (b ∷ rest) (cond letter (Some (word_kind (take (name_len (b ∷ rest)) (b ∷ rest)), name_len (b ∷ rest))) (cond digit (Some (Number, number_len (b ∷ rest))) (symbol_token_at (b ∷ rest))))
    by true digit = λ named. name_is_ascii (b ∷ rest)
    by false true = λ named. absurd (cc)
    by false false = symbol (symbol_at (b ∷ rest))

-- the token that is found at a offset lies in the text
pub found_lies : (text : List ℕ) (offset : ℕ) (token : Token) (size : ℕ) → token_at (drop offset text) ≡ Some (token.kind, size)
    → token.from ≡ offset → token.to ≡ offset + size → offset + size ≤ length text → LiesIn text token
found_lies text offset token size at_is from_is to_is fits = record {
  order = omega arith;
  within = omega arith;
  ascii = λ named.
      let long : size ≡ token.to - token.from = omega arith in
      let name : IsAscii (take size (drop offset text)) = subst (NamesAscii (drop offset text)) at_is (found_is_ascii (drop offset text)) named in
      subst (λ n. IsAscii (take n (drop token.from text))) long (rw from_is name);
}

-- ---- the first tokens of a text

-- these tokens, and then those that are known
abbrev pub prepended : List Token → Result (List Token) LexFault → Result (List Token) LexFault
prepended first known = known >>= λ others. Ok (first ++ others)

-- the loop's invariant: these tokens are the first of the text, last is the last of them, or stands for the text's start
pub record Begins (text : List ℕ) (tokens_so_far : List Token) (last : Token) (depth : ℕ) : Type 0 where
  pub goes_on : prepended tokens_so_far (tokens_from (MOST_TOKENS - length tokens_so_far) text last.to depth) ≡ tokens text
  pub few : length tokens_so_far ≤ MOST_TOKENS
  pub last_lies : LiesIn text last
  pub line : last.line ≡ line_at text last.from
  pub depth_within : depth ≤ MOST_DEPTH

-- ---- the ways from one token on

pub is_end-other : (kind : TokenKind) → (kind ≡ End → ⊥) → is_end kind ≡ false
is_end-other Name differs = refl
is_end-other Number differs = refl
is_end-other (Keyword n) differs = refl
is_end-other (Symbol n) differs = refl
is_end-other End differs = absurd (differs refl)

module _ (text : List ℕ) (offset depth : ℕ) where
  token_fails : (fuel : ℕ) (e : LexFault) → token_after text offset ≡ Err e → tokens_from fuel text offset depth ≡ Err e
  unfolding tokens_from
  token_fails zero e h = rw h refl
  token_fails (suc fuel) e h = rw h refl

  module _ (token : Token) (found : token_after text offset ≡ Ok token) where
    no_fuel : tokens_from 0 text offset depth ≡ Err (TooMany token.from)
    unfolding tokens_from
    no_fuel = rw found refl

    depth_fails : (fuel : ℕ) (e : LexFault) → depth_after depth token ≡ Err e → tokens_from (suc fuel) text offset depth ≡ Err e
    unfolding tokens_from
    depth_fails fuel e h = rw (found, h) refl

    module _ (next_depth : ℕ) (within : depth_after depth token ≡ Ok next_depth) where
      text_ends : (fuel : ℕ) → token.kind ≡ End → tokens_from (suc fuel) text offset depth ≡ Ok (token ∷ [])
      unfolding tokens_from
      text_ends fuel e = rw (found, within, e) refl

      text_goes_on : (fuel : ℕ) → (token.kind ≡ End → ⊥) → tokens_from (suc fuel) text offset depth ≡ (tokens_from fuel text token.to next_depth >>= λ others. Ok (token ∷ others))
      unfolding tokens_from
      text_goes_on fuel differs = rw (found, within, is_end-other token.kind differs) refl

prepended-cons : (first : List Token) (token : Token) (known : Result (List Token) LexFault) → prepended first (known >>= λ others. Ok (token ∷ others)) ≡ prepended (first ++ token ∷ []) known
prepended-cons first token (Ok others) = ap (λ (ts : List Token). Ok ts) (sym (append_assoc first (token ∷ []) others))
prepended-cons first token (Err e) = refl

prepended-nil : (known : Result (List Token) LexFault) → prepended [] known ≡ known
prepended-nil (Ok others) = refl
prepended-nil (Err e) = refl

abbrev before_first : Token
before_first = record { kind = End; from = 0; to = 0; line = 1 }

begins_nil : (text : List ℕ) → Begins text [] before_first 0
unfolding tokens
begins_nil text = record {
  goes_on = prepended-nil (tokens_from MOST_TOKENS text 0 0);
  few = omega arith;
  last_lies = record { order = omega arith; within = omega arith; ascii = λ named. cc };
  line = refl;
  depth_within = omega arith;
}

pub begins_empty : (text : List ℕ) (none : List Token) → none ≡ [] → Begins text none before_first 0
begins_empty text none e = subst (λ (ts : List Token). Begins text ts before_first 0) (sym e) (begins_nil text)

-- ---- what the loop answers, and keeps

module _ {text : List ℕ} {so_far : List Token} {last : Token} {depth : ℕ} (so : Begins text so_far last depth) where
  pub token_fault : (e : LexFault) → token_after text last.to ≡ Err e → tokens text ≡ Err e
  token_fault e h = sym so.goes_on ∙ ap (prepended so_far) (token_fails text last.to depth (MOST_TOKENS - length so_far) e h)

  pub too_many : (token : Token) → token_after text last.to ≡ Ok token → length so_far ≡ MOST_TOKENS → tokens text ≡ Err (TooMany token.from)
  too_many token found full =
      let fuel : MOST_TOKENS - length so_far ≡ 0 = omega arith in
      sym so.goes_on ∙ ap (λ r. prepended so_far (tokens_from r text last.to depth)) fuel ∙ ap (prepended so_far) (no_fuel text last.to depth token found)

  module _ (token : Token) (found : token_after text last.to ≡ Ok token) (not_full : length so_far < MOST_TOKENS) where
    fuel_is : MOST_TOKENS - length so_far ≡ suc (MOST_TOKENS - (length so_far + 1))
    fuel_is = omega arith

    from_next : prepended so_far (tokens_from (suc (MOST_TOKENS - (length so_far + 1))) text last.to depth) ≡ tokens text
    from_next = ap (λ r. prepended so_far (tokens_from r text last.to depth)) (sym fuel_is) ∙ so.goes_on

    pub depth_fault : (e : LexFault) → depth_after depth token ≡ Err e → tokens text ≡ Err e
    depth_fault e h = sym from_next ∙ ap (prepended so_far) (depth_fails text last.to depth token found (MOST_TOKENS - (length so_far + 1)) e h)

    pub done : (next_depth : ℕ) (all : List Token) → depth_after depth token ≡ Ok next_depth → token.kind ≡ End → all ≡ so_far ++ token ∷ [] → tokens text ≡ Ok all
    done next_depth all within e pushed = sym from_next ∙ ap (prepended so_far) (text_ends text last.to depth token found next_depth within (MOST_TOKENS - (length so_far + 1)) e) ∙ ap (λ (ts : List Token). Ok ts) (sym pushed)

    pub goes_on : (next_depth : ℕ) (all : List Token) → depth_after depth token ≡ Ok next_depth → (token.kind ≡ End → ⊥) → all ≡ so_far ++ token ∷ []
        → LiesIn text token → token.line ≡ line_at text token.from → next_depth ≤ MOST_DEPTH → Begins text all token next_depth
    goes_on next_depth all within differs pushed lies line deep =
        let size : length all ≡ length so_far + 1 = ap length pushed ∙ length_push so_far token in
        let left : MOST_TOKENS - length all ≡ MOST_TOKENS - (length so_far + 1) = omega arith in
        let rest : ℕ → Result (List Token) LexFault = λ r. tokens_from r text token.to next_depth in
        record {
          goes_on = ap (λ r. prepended all (rest r)) left ∙ ap (λ (ts : List Token). prepended ts (rest (MOST_TOKENS - (length so_far + 1)))) pushed
              ∙ sym (prepended-cons so_far token (rest (MOST_TOKENS - (length so_far + 1))))
              ∙ sym (ap (prepended so_far) (text_goes_on text last.to depth token found next_depth within (MOST_TOKENS - (length so_far + 1)) differs))
              ∙ from_next;
          few = omega arith;
          last_lies = lies;
          line = line;
          depth_within = deep;
        }
