-- The laws of the definition: a text is its tokens' bytes with gaps between, each token is the longest, and what a reader can rely on.
use Rattle.std.proofs.Common.{◌≡◌, ℕ, zero, suc, ◌+◌, ◌-◌, ◌<◌, ◌≤◌, Bool, true, false, cond, ◌&&◌, List, [], ◌∷◌, ◌++◌, append_assoc, length, get_or, take, drop, Option, Some, None, Result, Ok, Err, refl, sym, subst, ap, ◌∙◌, arith, inl, inr}
use Rattle.std.specs.Prelude.{All, ◌⊎◌, ◌↔◌, slice_range, position, bytes_eq, nat_lt, nat_eq, codes, Contains, slice_index_or, option_map}
use Rattle.std.specs.List.{list_all, starts_with, prefix_len, position_or_len}
use Rattle.std.specs.Char.{is_ascii_digit}
use Rattle.std.proofs.lemmas.Slice.Eq.{bytes_eq-Decides, starts_is}
use Rattle.std.proofs.lemmas.Bool.{eqb-true, cases_lt, lt-ltb, le-ltb, ltb-true}
use Rattle.std.proofs.lemmas.Bool.Decides.{Decides-eqb}
use Rattle.std.proofs.lemmas.List.Elements.{All-cons, All-nil}
use Rattle.std.proofs.Math.Seq.{take-add}
use Rattle.vocabulary.specs.Answers.{◌>>=◌}
use Rattle.vocabulary.specs.declared.limits.TheConstants.{MOST_TOKENS, MOST_NAME_BYTES}
use Rattle.vocabulary.specs.declared.marks.TheConstants.{LINE_FEED, POINT}
use Rattle.sim_lexer.specs.declared.token.Token.{Token}
use Rattle.sim_lexer.specs.declared.token.LexFault.{LexFault}
use Rattle.sim_lexer.specs.declared.token.LexFault.TheVariants.{LongName, TooMany}
use Rattle.sim_lexer.specs.declared.token.TokenKind.{TokenKind}
use Rattle.sim_lexer.specs.declared.token.TokenKind.TheVariants.{Name, Number, Keyword, Symbol, End}
use Rattle.std.proofs.lemmas.List.{length-take-le, length-append, length-drop, take_at}
use Rattle.std.proofs.lemmas.List.Sums.{prefix_len-le-length, passes_at_first, fails_before_first}
use Rattle.sim_lexer.specs.Tokens.{byte, gap_len, comment_len, is_blank, is_percent, is_line_feed, is_one_line, IsGap, nothing, blank, comment, IsLastGap, closed, left_open, Separates, Spells, IsWord, IsNumber, AreDigits, digits_len, is_name, is_letter, is_name_byte, name_len, number_len, kind_of_keyword, word_kind, keywords, symbols, symbol_at, symbol_token_at, token_at, token_after, located, line_at, IsSpelled, IsLongest, LiesIn, EndsOnce, IsCut, depth_after, tokens_from, tokens, is_end}
use Rattle.sim_lexer.proofs.Lexing.{found_lies}
use Rattle.sim_lexer.proofs.LongestTokens.{IsLexeme, IsLongestAt, lexeme_from_spelled, word_is_longest, number_is_longest, symbol_is_longest}

-- the byte with which a comment begins
abbrev percent : ℕ
percent = byte (codes "%")

-- ---- gaps

take-first : (n b : ℕ) (text : List ℕ) → take (1 + n) (b ∷ text) ≡ b ∷ take n text
take-first n b text = ap (λ k. take k (b ∷ text)) (let e : 1 + n ≡ suc n = omega arith in e)

-- the first n bytes are a gap, and a closed one where the text goes on after them
pub record GapAt (text : List ℕ) (n : ℕ) : Type 0 where
  pub within : n ≤ length text
  pub last : IsLastGap (take n text)
  pub inner : n < length text → IsGap (take n text)

-- the first n bytes end a comment: its words alone up to the text's end, or with a line feed and a gap after it
record ClosedAt (text : List ℕ) (n : ℕ) (words : List ℕ) : Type 0 where
  gap : List ℕ
  parts : take n text ≡ words ++ LINE_FEED ∷ gap
  last : IsLastGap gap
  inner : n < length text → IsGap gap

record CommentAt (text : List ℕ) (n : ℕ) : Type 0 where
  within : n ≤ length text
  words : List ℕ
  one_line : is_one_line words ≡ true
  ends : ClosedAt text n words ⊎ ((take n text ≡ words) × (n ≡ length text))

blank_before : (b : ℕ) (gap : List ℕ) → is_blank b ≡ true → IsLastGap gap → IsLastGap (b ∷ gap)
blank_before b _ e (closed gap h) = closed (b ∷ gap) (blank b gap e h)
blank_before b _ e (left_open gap words h o) = left_open (b ∷ gap) words (blank b gap e h) o

comment_before : (words gap : List ℕ) → is_one_line words ≡ true → IsLastGap gap → IsLastGap (percent ∷ words ++ LINE_FEED ∷ gap)
comment_before words _ e (closed gap h) = closed _ (comment words gap e h)
comment_before words _ e (left_open gap more h o) =
    subst IsLastGap (append_assoc (percent ∷ words) (LINE_FEED ∷ gap) (percent ∷ more)) (left_open (percent ∷ words ++ LINE_FEED ∷ gap) more (comment words gap e h) o)

blank_step : (b : ℕ) (text : List ℕ) → is_blank b ≡ true → GapAt text (gap_len text) → GapAt (b ∷ text) (1 + gap_len text)
blank_step b text e h =
    let prefix = take-first (gap_len text) b text in
    record {
      within = let w = h.within in omega arith;
      last = rw prefix (blank_before b (take (gap_len text) text) e h.last);
      inner = λ lt. rw prefix (blank b (take (gap_len text) text) e (h.inner (omega arith)));
    }

percent_step : (b : ℕ) (text : List ℕ) → b ≡ percent → CommentAt text (comment_len text) → GapAt (b ∷ text) (1 + comment_len text)
percent_step b text e h = go h.ends
  where
    n : ℕ
    n = comment_len text

    prefix : take (1 + n) (b ∷ text) ≡ percent ∷ take n text
    prefix = take-first n b text ∙ ap (λ k. k ∷ take n text) e

    go : ClosedAt text n h.words ⊎ ((take n text ≡ h.words) × (n ≡ length text)) → GapAt (b ∷ text) (1 + n)
    go (inl c) =
        let whole : take (1 + n) (b ∷ text) ≡ percent ∷ h.words ++ LINE_FEED ∷ c.gap = prefix ∙ ap (λ (t : List ℕ). percent ∷ t) c.parts in
        record {
          within = let w = h.within in omega arith;
          last = rw whole (comment_before h.words c.gap h.one_line c.last);
          inner = λ lt. rw whole (comment h.words c.gap h.one_line (c.inner (omega arith)));
        }
    go (inr c) =
        let whole : take (1 + n) (b ∷ text) ≡ percent ∷ h.words = prefix ∙ ap (λ (t : List ℕ). percent ∷ t) c.0 in
        record {
          within = let w = h.within in omega arith;
          last = rw whole (left_open [] h.words nothing h.one_line);
          inner = λ lt. absurd (omega (arith, c.1));
        }

comment_step : (b : ℕ) (text : List ℕ) → is_line_feed b ≡ false → CommentAt text (comment_len text) → CommentAt (b ∷ text) (1 + comment_len text)
comment_step b text e h =
    record {
      within = let w = h.within in omega arith;
      words = b ∷ h.words;
      one_line = rw e h.one_line;
      ends = go h.ends;
    }
  where
    n : ℕ
    n = comment_len text

    go : ClosedAt text n h.words ⊎ ((take n text ≡ h.words) × (n ≡ length text)) → ClosedAt (b ∷ text) (1 + n) (b ∷ h.words) ⊎ ((take (1 + n) (b ∷ text) ≡ b ∷ h.words) × (1 + n ≡ length (b ∷ text)))
    go (inl c) = inl (record {
      gap = c.gap;
      parts = take-first n b text ∙ ap (λ (t : List ℕ). b ∷ t) c.parts;
      last = c.last;
      inner = λ lt. c.inner (omega arith);
    })
    go (inr c) = inr (take-first n b text ∙ ap (λ (t : List ℕ). b ∷ t) c.0, omega (arith, c.1))

feed_step : (b : ℕ) (text : List ℕ) → b ≡ LINE_FEED → GapAt text (gap_len text) → CommentAt (b ∷ text) (1 + gap_len text)
feed_step b text e h = record {
  within = let w = h.within in omega arith;
  words = [];
  one_line = refl;
  ends = inl (record {
    gap = take (gap_len text) text;
    parts = take-first (gap_len text) b text ∙ ap (λ k. k ∷ take (gap_len text) text) e;
    last = h.last;
    inner = λ lt. h.inner (omega arith);
  });
}

gap_cases : (b : ℕ) (text : List ℕ) → GapAt text (gap_len text) → CommentAt text (comment_len text) → (r s : Bool) → is_blank b ≡ r → is_percent b ≡ s
    → GapAt (b ∷ text) (cond r (1 + gap_len text) (cond s (1 + comment_len text) 0))
gap_cases b text g h true s e f = blank_step b text e g
gap_cases b text g h false true e f = percent_step b text (eqb-true b percent f) h
gap_cases b text g h false false e f = record { within = omega arith; last = closed [] nothing; inner = λ lt. nothing }

comment_cases : (b : ℕ) (text : List ℕ) → GapAt text (gap_len text) → CommentAt text (comment_len text) → (r : Bool) → is_line_feed b ≡ r
    → CommentAt (b ∷ text) (cond r (1 + gap_len text) (1 + comment_len text))
comment_cases b text g h true e = feed_step b text (eqb-true b LINE_FEED e) g
comment_cases b text g h false e = comment_step b text e h

mutual
  pub gap_at : (text : List ℕ) → GapAt text (gap_len text)
  gap_at [] = record { within = omega arith; last = closed [] nothing; inner = λ lt. nothing }
  gap_at (b ∷ text) = gap_cases b text (gap_at text) (comment_at text) (is_blank b) (is_percent b) refl refl

  comment_at : (text : List ℕ) → CommentAt text (comment_len text)
  comment_at [] = record { within = omega arith; words = []; one_line = refl; ends = inr (refl, refl) }
  comment_at (b ∷ text) = comment_cases b text (gap_at text) (comment_at text) (is_line_feed b) refl

-- ---- prefixes of a text

prefix_head : (p : ℕ → Bool) (b : ℕ) (text : List ℕ) → p b ≡ true → take (prefix_len p (b ∷ text)) (b ∷ text) ≡ b ∷ take (prefix_len p text) text
prefix_head p b text e = rw e (take-first (prefix_len p text) b text)

prefix_all : (p : ℕ → Bool) (text : List ℕ) → list_all p (take (prefix_len p text) text) ≡ true
prefix_all p [] = refl
prefix_all p (b ∷ text) = go (p b) refl (prefix_all p text)
  where
    go : (r : Bool) → p b ≡ r → list_all p (take (prefix_len p text) text) ≡ true → list_all p (take (cond r (1 + prefix_len p text) 0) (b ∷ text)) ≡ true
    go true e h = ap (list_all p) (take-first (prefix_len p text) b text) ∙ rw e h
    go false e h = refl

-- the longest prefix of digits, where there is one
digits_at : (text : List ℕ) → 0 < digits_len text → AreDigits (take (digits_len text) text)
digits_at text more = (omega (arith, length-take-le (digits_len text) text (prefix_len-le-length is_ascii_digit text)), prefix_all is_ascii_digit text)

-- ---- lists of spellings

position_none : {X : Type 0} (p : X → Bool) (xs : List X) → position p xs ≡ None → (k : ℕ) (d : X) → k < length xs → p (get_or xs k d) ≡ false
position_none p xs e k d lt =
    elim (cases_lt (position_or_len p xs) (length xs)) [
      | inl found ↦ let test = lt-ltb (position_or_len p xs) (length xs) found in absurd (let h : Some (position_or_len p xs) ≡ None = sym (ap (λ b. cond b (Some (position_or_len p xs)) None) test) ∙ e in cc)
      | inr past ↦ fails_before_first p xs k d (omega arith)
    ]

pub position_some : {X : Type 0} (p : X → Bool) (xs : List X) (k : ℕ) → position p xs ≡ Some k → (k < length xs) × ((d : X) → p (get_or xs k d) ≡ true)
position_some p xs k e =
    elim (cases_lt (position_or_len p xs) (length xs)) [
      | inl found ↦
          let test = lt-ltb (position_or_len p xs) (length xs) found in
          let h : Some (position_or_len p xs) ≡ Some k = sym (ap (λ b. cond b (Some (position_or_len p xs)) None) test) ∙ e in
          let at : position_or_len p xs ≡ k = cc in
          (omega arith, λ d. ap (λ i. p (get_or xs i d)) (sym at) ∙ passes_at_first p xs d found)
      | inr past ↦ let test = le-ltb (position_or_len p xs) (length xs) past in absurd (let h : None ≡ Some k = sym (ap (λ b. cond b (Some (position_or_len p xs)) None) test) ∙ e in cc)
    ]

-- ---- the token with which a text begins

pub record TokenAt (text : List ℕ) (kind : TokenKind) (size : ℕ) : Type 0 where
  pub within : size ≤ length text
  pub spelled : (is_name kind ≡ true → size ≤ MOST_NAME_BYTES) → Spells kind (take size text)
  pub at_end : kind ≡ End → length text ≡ 0
  pub inside : (kind ≡ End → ⊥) → 0 < length text
  pub longest : IsLongestAt text size

-- what a word spells, in a list of keywords
abbrev WordSpells : List (List ℕ) → TokenKind → List ℕ → Type 0
WordSpells words Name word = ¬ (Contains words word)
WordSpells words (Keyword n) word = (n < length words) × (slice_index_or words n [] ≡ word)
WordSpells words _ word = ⊥

pub word_spells : (words : List (List ℕ)) (word : List ℕ) (o : Option ℕ) → position (λ k. bytes_eq k word) words ≡ o → WordSpells words (kind_of_keyword o) word
word_spells words word None e =
    λ (k, lt, is). let other = position_none (λ w. bytes_eq w word) words e k word lt in
    let same = (bytes_eq-Decides (get_or words k word) word).1 is in absurd (let h : true ≡ false = sym same ∙ other in cc)
word_spells words word (Some k) e =
    let h = position_some (λ w. bytes_eq w word) words k e in
    (h.0, (bytes_eq-Decides (get_or words k []) word).0 (h.1 []))

spells_word : (kind : TokenKind) (word : List ℕ) → IsWord word → WordSpells keywords kind word → (is_name kind ≡ true → length word ≤ MOST_NAME_BYTES) → Spells kind word
spells_word Name word h w short = (h, short refl, w)
spells_word (Keyword n) word h w short = w
spells_word Number word h w short = absurd w
spells_word (Symbol n) word h w short = absurd w
spells_word End word h w short = absurd w

no_end : (o : Option ℕ) → kind_of_keyword o ≡ End → ⊥
no_end None e = cc
no_end (Some n) e = cc

word_at : (b : ℕ) (rest : List ℕ) → is_letter b ≡ true → TokenAt (b ∷ rest) (word_kind (take (name_len (b ∷ rest)) (b ∷ rest))) (name_len (b ∷ rest))
word_at b rest e =
    let text : List ℕ = b ∷ rest in
    let word : List ℕ = take (name_len text) text in
    let found : Option ℕ = position (λ k. bytes_eq k word) keywords in
    let size : length word ≡ name_len text = length-take-le (name_len text) text (prefix_len-le-length is_name_byte text) in
    let is_byte : is_name_byte b ≡ true = rw e refl in
    let head : word ≡ b ∷ take (name_len rest) rest = prefix_head is_name_byte b rest is_byte in
    let is_word : IsWord word = (rw head (omega arith), rw (head, e) refl, prefix_all is_name_byte text) in
    record {
      within = prefix_len-le-length is_name_byte text;
      spelled = λ short. spells_word (word_kind word) word is_word (word_spells keywords word found refl) (λ name. let h = short name in omega arith);
      at_end = λ ends. absurd (no_end found ends);
      inside = λ other. omega arith;
      longest = word_is_longest b rest e;
    }

-- what a point at an offset says of the byte there
point_at : (text : List ℕ) (offset : ℕ) → starts_with nat_eq (drop offset text) (codes ".") ≡ true → take 1 (drop offset text) ≡ POINT ∷ []
point_at text offset e =
    let after : List ℕ = drop offset text in
    let parts : after ≡ POINT ∷ drop 1 after = (starts_is Decides-eqb after (codes ".") (starts_with nat_eq after (codes ".")) refl).0 e in
    ap (λ (t : List ℕ). take 1 t) parts

module _ (text : List ℕ) (more : 0 < digits_len text) where
  whole_len : ℕ
  whole_len = digits_len text

  decimals_len : ℕ
  unfolding whole_len
  decimals_len = digits_len (drop (whole_len + 1) text)

  number_parts : (r s : Bool) → starts_with nat_eq (drop whole_len text) (codes ".") ≡ r → nat_lt 0 decimals_len ≡ s
      → (cond (r && s) (whole_len + 1 + decimals_len) whole_len ≤ length text) × IsNumber (take (cond (r && s) (whole_len + 1 + decimals_len) whole_len) text)
  unfolding whole_len decimals_len
  number_parts true true point some =
      let decimals : List ℕ = take decimals_len (drop (whole_len + 1) text) in
      let some_decimals : 0 < decimals_len = ltb-true 0 decimals_len some in
      let bound = prefix_len-le-length is_ascii_digit (drop (whole_len + 1) text) in
      let size = length-drop (whole_len + 1) text in
      let parts : take (whole_len + 1 + decimals_len) text ≡ take whole_len text ++ POINT ∷ decimals =
      take-add (whole_len + 1) decimals_len text ∙ ap (λ (t : List ℕ). t ++ decimals) (take-add whole_len 1 text ∙ ap (λ (t : List ℕ). take whole_len text ++ t) (point_at text whole_len point))
      ∙ append_assoc (take whole_len text) (POINT ∷ []) decimals in
      (omega arith, inr (take whole_len text, decimals, digits_at text more, digits_at (drop (whole_len + 1) text) some_decimals, parts))
  number_parts true false point some = (prefix_len-le-length is_ascii_digit text, inl (digits_at text more))
  number_parts false s point some = (prefix_len-le-length is_ascii_digit text, inl (digits_at text more))

  number_is : (number_len text ≤ length text) × IsNumber (take (number_len text) text)
  unfolding whole_len decimals_len
  number_is = number_parts (starts_with nat_eq (drop whole_len text) (codes ".")) (nat_lt 0 decimals_len) refl refl

number_at : (b : ℕ) (rest : List ℕ) → is_ascii_digit b ≡ true → TokenAt (b ∷ rest) Number (number_len (b ∷ rest))
number_at b rest e =
    let more : 0 < digits_len (b ∷ rest) = rw e (omega arith) in
    let h = number_is (b ∷ rest) more in
    record { within = h.0; spelled = λ short. h.1; at_end = λ ends. absurd cc; inside = λ other. omega arith; longest = number_is_longest b rest e }

-- the spelling at the first offset of a list with which a text begins
spelling_at : (spellings : List (List ℕ)) (text : List ℕ) (n : ℕ) → position (starts_with nat_eq text) spellings ≡ Some n
    → (n < length spellings) × (length (get_or spellings n []) ≤ length text) × (get_or spellings n [] ≡ take (length (get_or spellings n [])) text)
spelling_at spellings text n e =
    let h = position_some (starts_with nat_eq text) spellings n e in
    let s : List ℕ = get_or spellings n [] in
    let parts : text ≡ s ++ drop (length s) text = (starts_is Decides-eqb text s (starts_with nat_eq text s) refl).0 (h.1 []) in
    (h.0, omega (arith, simp length-append at (ap length parts)), sym (ap (take (length s)) parts ∙ take_at s (drop (length s) text) (length s) refl))

of_some : {A : Type 0} (x y : A) → Some x ≡ Some y → x ≡ y
of_some x y e = cc

module _ (b : ℕ) (rest : List ℕ) (no_letter : is_letter b ≡ false) (no_digit : is_ascii_digit b ≡ false) where
  symbol_found : (n : ℕ) → symbol_at (b ∷ rest) ≡ Some n → TokenAt (b ∷ rest) (Symbol n) (length (slice_index_or symbols n []))
  symbol_found n e =
      let h = spelling_at symbols (b ∷ rest) n e in
      record { within = h.1; spelled = λ short. (h.0, h.2); at_end = λ ends. absurd cc; inside = λ other. omega arith; longest = symbol_is_longest b rest n no_letter no_digit e }

  symbol_case : (o : Option ℕ) (p : TokenKind × ℕ) → symbol_at (b ∷ rest) ≡ o → option_map (λ n. (Symbol n, length (slice_index_or symbols n []))) o ≡ Some p → TokenAt (b ∷ rest) p.0 p.1
  symbol_case None p at e = absurd cc
  symbol_case (Some n) p at e =
      subst (λ (q : TokenKind × ℕ). TokenAt (b ∷ rest) q.0 q.1) (of_some (Symbol n, length (slice_index_or symbols n [])) p e) (symbol_found n at)

first_case : (b : ℕ) (rest : List ℕ) (p : TokenKind × ℕ) (r s : Bool) → is_letter b ≡ r → is_ascii_digit b ≡ s
    → cond r (Some (word_kind (take (name_len (b ∷ rest)) (b ∷ rest)), name_len (b ∷ rest))) (cond s (Some (Number, number_len (b ∷ rest))) (symbol_token_at (b ∷ rest))) ≡ Some p
    → TokenAt (b ∷ rest) p.0 p.1
first_case b rest p true s letter digit e = subst (λ (q : TokenKind × ℕ). TokenAt (b ∷ rest) q.0 q.1) (of_some (word_kind (take (name_len (b ∷ rest)) (b ∷ rest)), name_len (b ∷ rest)) p e) (word_at b rest letter)
first_case b rest p false true letter digit e = subst (λ (q : TokenKind × ℕ). TokenAt (b ∷ rest) q.0 q.1) (of_some (Number, number_len (b ∷ rest)) p e) (number_at b rest digit)
first_case b rest p false false letter digit e = symbol_case b rest letter digit (symbol_at (b ∷ rest)) p refl e

pub token_is : (text : List ℕ) (p : TokenKind × ℕ) → token_at text ≡ Some p → TokenAt text p.0 p.1
unfolding token_at
token_is [] p e =
    subst (λ (q : TokenKind × ℕ). TokenAt [] q.0 q.1) (of_some (End, 0) p e) (record { within = omega arith; spelled = λ short. refl; at_end = λ ends. refl; inside = λ other. absurd (other refl); longest = λ n lt le. absurd (omega arith) })
token_is (b ∷ rest) p e = first_case b rest p (is_letter b) (is_ascii_digit b) refl refl e

-- ---- the token after a gap

pub record CutAt (text : List ℕ) (offset : ℕ) (token : Token) : Type 0 where
  pub order : offset ≤ token.from
  pub lies : LiesIn text token
  pub separates : Separates token.kind (slice_range text offset token.from)
  pub spelled : (is_name token.kind ≡ true → token.to - token.from ≤ MOST_NAME_BYTES) → IsSpelled text token
  pub longest : IsLongest text token
  pub at_end : token.kind ≡ End → token.to ≡ length text

-- a gap separates, and a closed one where a token follows that is not the end
separates_at : (kind : TokenKind) (text : List ℕ) (n : ℕ) → GapAt text n → ((kind ≡ End → ⊥) → n < length text) → Separates kind (take n text)
separates_at Name text n h more = h.inner (more (λ e. cc))
separates_at Number text n h more = h.inner (more (λ e. cc))
separates_at (Keyword k) text n h more = h.inner (more (λ e. cc))
separates_at (Symbol k) text n h more = h.inner (more (λ e. cc))
separates_at End text n h more = h.last

pub range_is : (text : List ℕ) (offset n : ℕ) → slice_range text offset (offset + n) ≡ take n (drop offset text)
range_is text offset n = ap (λ k. take k (drop offset text)) (let e : offset + n - offset ≡ n = omega arith in e)

-- the longest in what is left of a text is the longest at that offset
longest_at : (text : List ℕ) (from size : ℕ) (token : Token) → token.from ≡ from → token.to ≡ from + size → from ≤ length text → IsLongestAt (drop from text) size → IsLongest text token
longest_at text from size token from_is to_is le h =
    record {
      no_token = λ to kind longer within. λ spelled. no_lexeme to longer within (lexeme_from_spelled kind (slice_range text token.from to) (some to longer within) spelled);
      no_word = λ to longer within. λ word. no_lexeme to longer within (inl word);
    }
  where
    at : IsLongestAt (drop token.from text) size
    at = subst (λ (k : ℕ). IsLongestAt (drop k text) size) (sym from_is) h

    no_lexeme : (to : ℕ) → token.to < to → to ≤ length text → ¬ IsLexeme (slice_range text token.from to)
    no_lexeme to longer within = at (to - token.from) (omega arith) (omega (arith, length-drop token.from text))

    some : (to : ℕ) → token.to < to → to ≤ length text → 0 < length (slice_range text token.from to)
    some to longer within = omega (arith, length-drop token.from text, length-take-le (to - token.from) (drop token.from text) (omega (arith, length-drop token.from text)))

cut_at : (text : List ℕ) (offset : ℕ) (p : TokenKind × ℕ) → offset ≤ length text → token_at (drop (offset + gap_len (drop offset text)) text) ≡ Some p
    → (token : Token) → located text (offset + gap_len (drop offset text)) (Some p) ≡ Ok token → CutAt text offset token
cut_at text offset p le found token is =
    let gap : ℕ = gap_len (drop offset text) in
    let from : ℕ = offset + gap in
    let size_of_rest = length-drop offset text in
    let g = gap_at (drop offset text) in
    let gap_within : gap ≤ length (drop offset text) = g.within in
    let size_of_text = length-drop from text in
    let h = token_is (drop from text) p found in
    let token_within : p.1 ≤ length (drop from text) = h.within in
    let made : Token = record { kind = p.0; from = from; to = from + p.1; line = line_at text from } in
    let cut : CutAt text offset made = record {
      order = omega arith;
      lies = found_lies text from made p.1 found refl refl (omega arith);
      separates = rw range_is (separates_at p.0 (drop offset text) gap g (λ other. omega (arith, h.inside other)));
      spelled = λ short. rw range_is (h.spelled (λ name. let s = short name in omega arith));
      longest = longest_at text from p.1 made refl refl (omega arith) h.longest;
      at_end = λ ends. omega (arith, h.at_end ends);
    } in
    subst (CutAt text offset) (let e : made ≡ token = cc in e) cut

after_cases : (text : List ℕ) (offset : ℕ) (token : Token) → offset ≤ length text → (o : Option (TokenKind × ℕ)) → token_at (drop (offset + gap_len (drop offset text)) text) ≡ o
    → located text (offset + gap_len (drop offset text)) o ≡ Ok token → CutAt text offset token
after_cases text offset token le None found is = absurd cc
after_cases text offset token le (Some p) found is = cut_at text offset p le found token is

after_is : (text : List ℕ) (offset : ℕ) (token : Token) → offset ≤ length text → token_after text offset ≡ Ok token → CutAt text offset token
unfolding token_after
after_is text offset token le e = after_cases text offset token le (token_at (drop (offset + gap_len (drop offset text)) text)) refl e

-- ---- the whole text

depth_ok : (depth : ℕ) (token : Token) (next_depth : ℕ) → depth_after depth token ≡ Ok next_depth → is_name token.kind ≡ true → token.to - token.from ≤ MOST_NAME_BYTES
unfolding depth_after
depth_ok depth token next_depth e name =
    elim (cases_lt MOST_NAME_BYTES (token.to - token.from)) [
      | inl long ↦ absurd (let t = lt-ltb MOST_NAME_BYTES (token.to - token.from) long in let h : Err (LongName token.from) ≡ Ok next_depth = sym (rw (name, t) refl) ∙ e in cc)
      | inr short ↦ short
    ]

pub bind_ok : {A B : Type 0} (r : Result A LexFault) (f : A → Result B LexFault) (y : B) → (r >>= f) ≡ Ok y → (x : A) × (r ≡ Ok x) × (f x ≡ Ok y)
bind_ok (Ok x) f y e = (x, refl, e)
bind_ok (Err d) f y e = absurd cc

-- what holds of the tokens from an offset on, at most so many
pub record Law (text : List ℕ) (offset most : ℕ) (tokens : List Token) : Type 0 where
  pub cut : IsCut text offset tokens
  pub spelled : All (IsSpelled text) tokens
  pub longest : All (IsLongest text) tokens
  pub lies : All (LiesIn text) tokens
  pub few : length tokens ≤ most
  pub ends : EndsOnce tokens

is_end-true : (kind : TokenKind) → is_end kind ≡ true → kind ≡ End
is_end-true Name e = absurd cc
is_end-true Number e = absurd cc
is_end-true (Keyword n) e = absurd cc
is_end-true (Symbol n) e = absurd cc
is_end-true End e = refl

is_end-false : (kind : TokenKind) → is_end kind ≡ false → kind ≡ End → ⊥
is_end-false kind e ends = let h : true ≡ false = sym (ap is_end ends) ∙ e in absurd (cc)

ends_last : (token : Token) → token.kind ≡ End → EndsOnce (token ∷ [])
ends_last token ends = (omega arith, only)
  where
    only : (k : ℕ) (d : Token) → k < length (token ∷ []) → ((slice_index_or (token ∷ []) k d).kind ≡ End) ↔ (k + 1 ≡ length (token ∷ []))
    only zero d lt = (λ e. refl, λ e. ends)
    only (suc k) d lt = absurd (omega arith)

ends_later : (token : Token) (others : List Token) → (token.kind ≡ End → ⊥) → EndsOnce others → EndsOnce (token ∷ others)
ends_later token others differs h = (omega arith, only)
  where
    only : (k : ℕ) (d : Token) → k < length (token ∷ others) → ((slice_index_or (token ∷ others) k d).kind ≡ End) ↔ (k + 1 ≡ length (token ∷ others))
    only zero d lt = (λ e. absurd (differs e), λ e. absurd (omega (arith, h.0)))
    only (suc k) d lt = let other = h.1 k d (omega arith) in (λ e. let at = other.0 e in omega arith, λ e. other.1 (omega arith))

module _ (text : List ℕ) (offset fuel : ℕ) (token : Token) (cut : CutAt text offset token) (short : is_name token.kind ≡ true → token.to - token.from ≤ MOST_NAME_BYTES) where
  law_last : token.kind ≡ End → Law text offset (suc fuel) (token ∷ [])
  law_last ends = record {
    cut = (cut.order, cut.separates, cut.at_end ends);
    spelled = All-cons (IsSpelled text) token [] (cut.spelled short) (All-nil (IsSpelled text));
    longest = All-cons (IsLongest text) token [] cut.longest (All-nil (IsLongest text));
    lies = All-cons (LiesIn text) token [] cut.lies (All-nil (LiesIn text));
    few = omega arith;
    ends = ends_last token ends;
  }

  law_first : (others : List Token) → (token.kind ≡ End → ⊥) → Law text token.to fuel others → Law text offset (suc fuel) (token ∷ others)
  law_first others differs h = record {
    cut = (cut.order, cut.separates, h.cut);
    spelled = All-cons (IsSpelled text) token others (cut.spelled short) h.spelled;
    longest = All-cons (IsLongest text) token others cut.longest h.longest;
    lies = All-cons (LiesIn text) token others cut.lies h.lies;
    few = let few = h.few in omega arith;
    ends = ends_later token others differs h.ends;
  }

  -- the law of a token and those after it, where it holds of those
  law_step : (next_depth : ℕ) (all : List Token) → ((others : List Token) → tokens_from fuel text token.to next_depth ≡ Ok others → Law text token.to fuel others) → (r : Bool) → is_end token.kind ≡ r
      → cond r (Ok (token ∷ [])) (tokens_from fuel text token.to next_depth >>= λ others. Ok (token ∷ others)) ≡ Ok all → Law text offset (suc fuel) all
  law_step next_depth all others_law true ends e =
      subst (Law text offset (suc fuel)) (let same : token ∷ [] ≡ all = cc in same) (law_last (is_end-true token.kind ends))
  law_step next_depth all others_law false ends e =
      let a = bind_ok (tokens_from fuel text token.to next_depth) (λ others. Ok (token ∷ others)) all e in
      let is = a.2 in
      subst (Law text offset (suc fuel)) (let same : token ∷ a.0 ≡ all = cc in same) (law_first a.0 (is_end-false token.kind ends) (others_law a.0 a.1))

law_from : (fuel : ℕ) (text : List ℕ) (offset depth : ℕ) (all : List Token) → offset ≤ length text → tokens_from fuel text offset depth ≡ Ok all → Law text offset fuel all
unfolding tokens_from
law_from zero text offset depth all le e =
    let a = bind_ok (token_after text offset) (λ (token : Token). Err (TooMany token.from)) all e in
    let h = a.2 in
    absurd cc
law_from (suc fuel) text offset depth all le e =
    let further : Token → ℕ → Result (List Token) LexFault = λ token next_depth. cond (is_end token.kind) (Ok (token ∷ [])) (tokens_from fuel text token.to next_depth >>= λ others. Ok (token ∷ others)) in
    let a = bind_ok (token_after text offset) (λ (token : Token). depth_after depth token >>= further token) all e in
    let b = bind_ok (depth_after depth a.0) (further a.0) all a.2 in
    let cut = after_is text offset a.0 le a.1 in
    law_step text offset fuel a.0 cut (depth_ok depth a.0 b.0 b.1) b.0 all (λ others h. law_from fuel text a.0.to b.0 others cut.lies.within h) (is_end a.0.kind) refl b.2

law_of : (text : List ℕ) (all : List Token) → tokens text ≡ Ok all → Law text 0 MOST_TOKENS all
unfolding tokens
law_of text all e = law_from MOST_TOKENS text 0 0 all (omega arith) e

-- ---- the laws, each alone

module _ (text : List ℕ) (all : List Token) (are : tokens text ≡ Ok all) where
  pub are_cut : IsCut text 0 all
  are_cut = (law_of text all are).cut

  pub are_spelled : All (IsSpelled text) all
  are_spelled = (law_of text all are).spelled

  pub are_longest : All (IsLongest text) all
  are_longest = (law_of text all are).longest

  pub all_lie : All (LiesIn text) all
  all_lie = (law_of text all are).lies

  pub are_few : length all ≤ MOST_TOKENS
  are_few = (law_of text all are).few

  pub end_once : EndsOnce all
  end_once = (law_of text all are).ends
