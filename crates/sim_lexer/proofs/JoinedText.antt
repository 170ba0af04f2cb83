-- Words that are joined by blanks read back, and the tokens of a text stay within the limit of depth.
use Rattle.std.proofs.Common.{◌≡◌, ℕ, zero, suc, ◌+◌, ◌-◌, ◌<◌, ◌≤◌, Bool, true, false, cond, ◌&&◌, List, [], ◌∷◌, ◌++◌, append_assoc, length, take, drop, map, Some, Result, Ok, Err, refl, sym, subst, ap, ◌∙◌, arith, inl, inr}
use Rattle.std.specs.Prelude.{⊤, All, count_by, slice_range, nat_lt}
use Rattle.std.proofs.lemmas.Bool.{cases_lt, lt-ltb, le-ltb}
use Rattle.std.proofs.lemmas.List.{take-append-drop, drop-drop, drop_at, take_at}
use Rattle.std.proofs.lemmas.List.Elements.{All-head, All-tail}
use Rattle.std.proofs.lemmas.List.Sums.{sum_by-append}
use Rattle.vocabulary.specs.Answers.{◌>>=◌}
use Rattle.vocabulary.specs.declared.limits.TheConstants.{MOST_TOKENS, MOST_NAME_BYTES, MOST_DEPTH}
use Rattle.vocabulary.specs.declared.marks.TheConstants.{SPACE}
use Rattle.sim_lexer.specs.declared.token.Token.{Token}
use Rattle.sim_lexer.specs.declared.token.LexFault.{LexFault}
use Rattle.sim_lexer.specs.declared.token.LexFault.TheVariants.{LongName, TooMany, TooDeep}
use Rattle.sim_lexer.specs.declared.token.TokenKind.{TokenKind}
use Rattle.sim_lexer.specs.declared.token.TokenKind.TheVariants.{Name, Number, Keyword, Symbol, End}
use Rattle.sim_lexer.specs.Tokens.{gap_len, is_line_feed, Spells, is_name, token_at, token_after, located, line_at, depth_after, depth_after_kind, tokens_from, tokens, is_end}
use Rattle.sim_lexer.specs.Words.{Word, word_of, words_of}
use Rattle.sim_lexer.specs.Joined.{joined, StaysWithin, end_word, JoinedReadsBack, TokensStayWithin}
use Rattle.sim_lexer.proofs.Lexing.{is_end-other}
use Rattle.sim_lexer.proofs.LexingLaw.{bind_ok, range_is}
use Rattle.sim_lexer.proofs.JoinedWords.{IsRead, reads}

-- ---- what is asked of each word

record IsGood (word : Word) : Type 0 where
  read : IsRead word.kind word.text
  other : ¬ (word.kind ≡ End)
  first_line : word.line ≡ 1
  short : is_name word.kind ≡ true → length word.text ≤ MOST_NAME_BYTES

abbrev AreGood : List Word → Type 0
AreGood [] = ⊤
AreGood (word ∷ words) = IsGood word × AreGood words

short_name : (kind : TokenKind) (text : List ℕ) → Spells kind text → is_name kind ≡ true → length text ≤ MOST_NAME_BYTES
short_name Name text h e = h.1
short_name Number text h e = absurd cc
short_name (Keyword n) text h e = absurd cc
short_name (Symbol n) text h e = absurd cc
short_name End text h e = absurd cc

are_good : (words : List Word) → All (λ word. Spells word.kind word.text) words → All (λ word. ¬ (word.kind ≡ End)) words → All (λ word. word.line ≡ 1) words → AreGood words
are_good [] spelled no_end first = tt
are_good (word ∷ words) spelled no_end first =
    let s = All-head (λ (w : Word). Spells w.kind w.text) word words spelled in
    let n = All-head (λ (w : Word). ¬ (w.kind ≡ End)) word words no_end in (
      record { read = reads word.kind word.text s n; other = n; first_line = All-head (λ (w : Word). w.line ≡ 1) word words first; short = short_name word.kind word.text s },
      are_good words (All-tail (λ (w : Word). Spells w.kind w.text) word words spelled) (All-tail (λ (w : Word). ¬ (w.kind ≡ End)) word words no_end) (All-tail (λ (w : Word). w.line ≡ 1) word words first),
    )

joined-cons : (word : Word) (words : List Word) → joined (word ∷ words) ≡ word.text ++ SPACE ∷ joined words
joined-cons word words = append_assoc word.text (SPACE ∷ []) (joined words)

no_gap : (words : List Word) → AreGood words → gap_len (joined words) ≡ 0
no_gap [] h = refl
no_gap (word ∷ words) h = ap gap_len (joined-cons word words) ∙ h.0.read.no_gap (joined words)

no_feeds : (words : List Word) → AreGood words → count_by is_line_feed (joined words) ≡ 0
no_feeds [] h = refl
no_feeds (word ∷ words) h =
    let split : count_by is_line_feed (word.text ++ SPACE ∷ joined words) ≡ count_by is_line_feed word.text + count_by is_line_feed (SPACE ∷ joined words) = sum_by-append (λ x. cond (is_line_feed x) 1 0) word.text (SPACE ∷ joined words) in
    ap (count_by is_line_feed) (joined-cons word words) ∙ (omega (arith, split, h.0.read.one_line, no_feeds words h.1))

-- ---- one token

line_is : (text : List ℕ) (offset : ℕ) → count_by is_line_feed text ≡ 0 → line_at text offset ≡ 1
line_is text offset none =
    let feed : ℕ → ℕ = λ x. cond (is_line_feed x) 1 0 in
    let split : count_by is_line_feed (take offset text ++ drop offset text) ≡ count_by is_line_feed (take offset text) + count_by is_line_feed (drop offset text) = sum_by-append feed (take offset text) (drop offset text) in
    omega (arith, split, ap (count_by is_line_feed) (take-append-drop offset text))

depth_is : (depth : ℕ) (token : Token) → (is_name token.kind ≡ true → token.to - token.from ≤ MOST_NAME_BYTES) → depth_after_kind depth token.kind ≤ MOST_DEPTH → depth_after depth token ≡ Ok (depth_after_kind depth token.kind)
unfolding depth_after
depth_is depth token short within = go (is_name token.kind) refl
  where
    deep : nat_lt MOST_DEPTH (depth_after_kind depth token.kind) ≡ false
    deep = le-ltb MOST_DEPTH (depth_after_kind depth token.kind) within

    go : (b : Bool) → is_name token.kind ≡ b → depth_after depth token ≡ Ok (depth_after_kind depth token.kind)
    go true e = rw (e, le-ltb MOST_NAME_BYTES (token.to - token.from) (short e), deep) refl
    go false e = rw (e, deep) refl

-- the token of a text after a gap of known length
abbrev token_of : TokenKind → ℕ → ℕ → Token
token_of kind from size = record { kind = kind; from = from; to = from + size; line = 1 }

module _ (text : List ℕ) (one_line : count_by is_line_feed text ≡ 0) where
  after_is : (offset gap : ℕ) (kind : TokenKind) (size : ℕ) → gap_len (drop offset text) ≡ gap → token_at (drop (offset + gap) text) ≡ Some (kind, size) → token_after text offset ≡ Ok (token_of kind (offset + gap) size)
  unfolding token_after
  after_is offset gap kind size gap_is token_is =
      ap (λ (g : ℕ). located text (offset + g) (token_at (drop (offset + g) text))) gap_is ∙ ap (located text (offset + gap)) token_is
      ∙ (λ i. Ok (record { kind = kind; from = offset + gap; to = offset + gap + size; line = line_is text (offset + gap) one_line i }))

  -- ---- the tokens from an offset on

  -- from an offset on, after a gap, the text is these words
  record Stands (offset gap : ℕ) (words : List Word) : Type 0 where
    gap_is : gap_len (drop offset text) ≡ gap
    rest : drop (offset + gap) text ≡ joined words

  abbrev Reads : ℕ → ℕ → ℕ → List Word → Type 0
  Reads fuel offset depth words = (again : List Token) × (tokens_from fuel text offset depth ≡ Ok again) × (words_of text again ≡ words ++ end_word ∷ [])

  reads_end : (fuel offset gap depth : ℕ) → depth ≤ MOST_DEPTH → Stands offset gap [] → Reads (suc fuel) offset depth []
  unfolding tokens_from token_at
  reads_end fuel offset gap depth within stands =
      let token : Token = token_of End (offset + gap) 0 in
      let found : token_after text offset ≡ Ok token = after_is offset gap End 0 stands.gap_is (ap token_at stands.rest) in
      let deep : depth_after depth token ≡ Ok depth = depth_is depth token (λ name. absurd cc) within in
      let empty : slice_range text (offset + gap) (offset + gap + 0) ≡ [] = range_is text (offset + gap) 0 in
      (token ∷ [], rw (found, deep) refl, λ i. record { kind = End; text = empty i; line = 1 } ∷ [])

  module _ (fuel offset gap depth : ℕ) (word : Word) (words : List Word) (good : IsGood word) (within : depth_after_kind depth word.kind ≤ MOST_DEPTH) (stands : Stands offset gap (word ∷ words)) where
    the_token : Token
    the_token = token_of word.kind (offset + gap) (length word.text)

    here : drop (offset + gap) text ≡ word.text ++ SPACE ∷ joined words
    here = stands.rest ∙ joined-cons word words

    found : token_after text offset ≡ Ok the_token
    unfolding the_token
    found = after_is offset gap word.kind (length word.text) stands.gap_is (ap token_at here ∙ good.read.token (joined words))

    deep : depth_after depth the_token ≡ Ok (depth_after_kind depth word.kind)
    unfolding the_token
    deep = depth_is depth the_token (λ name. let s = good.short name in omega arith) within

    rest_is : drop the_token.to text ≡ SPACE ∷ joined words
    unfolding the_token
    rest_is = sym (drop-drop (length word.text) (offset + gap) text) ∙ ap (drop (length word.text)) here ∙ drop_at word.text (SPACE ∷ joined words) (length word.text) refl

    next_stands : AreGood words → Stands the_token.to 1 words
    next_stands others = record {
      gap_is = ap gap_len rest_is ∙ (let none = no_gap words others in omega (arith, none));
      rest = sym (drop-drop 1 the_token.to text) ∙ ap (drop 1) rest_is;
    }

    word_is : word_of text the_token ≡ word
    unfolding the_token
    word_is =
        let bytes : slice_range text (offset + gap) (offset + gap + length word.text) ≡ word.text = range_is text (offset + gap) (length word.text) ∙ ap (take (length word.text)) here ∙ take_at word.text (SPACE ∷ joined words) (length word.text) refl in
        λ i. record { kind = word.kind; text = bytes i; line = sym good.first_line i }

    reads_next : Reads fuel the_token.to (depth_after_kind depth word.kind) words → Reads (suc fuel) offset depth (word ∷ words)
    unfolding tokens_from the_token
    reads_next (again, are, back) =
        let goes_on : tokens_from (suc fuel) text offset depth ≡ Ok (the_token ∷ again) = rw (found, deep, is_end-other word.kind good.other, are) refl in
        (the_token ∷ again, goes_on, λ i. word_is i ∷ back i)

  reads_words : (words : List Word) (fuel offset gap depth : ℕ) → length words < fuel → AreGood words → depth ≤ MOST_DEPTH → StaysWithin depth (map (λ word. word.kind) words) → Stands offset gap words → Reads fuel offset depth words
  reads_words words zero offset gap depth few good deep within stands = absurd (omega arith)
  reads_words [] (suc fuel) offset gap depth few good deep within stands = reads_end fuel offset gap depth deep stands
  reads_words (word ∷ words) (suc fuel) offset gap depth few good deep within stands =
      reads_next fuel offset gap depth word words good.0 within.0 stands
      (reads_words words fuel _ 1 (depth_after_kind depth word.kind) (omega arith) good.1 within.0 within.1 (next_stands fuel offset gap depth word words good.0 within.0 stands good.1))

pub joined_reads_back : JoinedReadsBack
unfolding tokens
joined_reads_back words h =
    let good : AreGood words = are_good words h.spelled h.no_end h.first_line in
    reads_words (joined words) (no_feeds words good) words MOST_TOKENS 0 0 0 h.few good (omega arith) h.within (record { gap_is = no_gap words good; rest = refl })

-- ---- the limit of depth

depth_of_ok : (depth : ℕ) (token : Token) (next_depth : ℕ) → depth_after depth token ≡ Ok next_depth → (depth_after_kind depth token.kind ≡ next_depth) × (next_depth ≤ MOST_DEPTH)
unfolding depth_after
depth_of_ok depth token next_depth e = go (is_name token.kind) (nat_lt MOST_NAME_BYTES (token.to - token.from)) (nat_lt MOST_DEPTH (depth_after_kind depth token.kind)) refl e
  where
    last : (s : Bool) → nat_lt MOST_DEPTH (depth_after_kind depth token.kind) ≡ s → cond s (Err (TooDeep token.from)) (Ok (depth_after_kind depth token.kind)) ≡ Ok next_depth → (depth_after_kind depth token.kind ≡ next_depth) × (next_depth ≤ MOST_DEPTH)
    last true h e = absurd cc
    last false h e =
        let same : depth_after_kind depth token.kind ≡ next_depth = cc in
        elim (cases_lt MOST_DEPTH (depth_after_kind depth token.kind)) [
          | inl lt ↦ absurd (let other : true ≡ false = sym (lt-ltb MOST_DEPTH (depth_after_kind depth token.kind) lt) ∙ h in cc)
          | inr le ↦ (same, omega arith)
        ]

    go : (named long too_deep : Bool) → nat_lt MOST_DEPTH (depth_after_kind depth token.kind) ≡ too_deep
        → cond (named && long) (Err (LongName token.from)) (cond too_deep (Err (TooDeep token.from)) (Ok (depth_after_kind depth token.kind))) ≡ Ok next_depth
        → (depth_after_kind depth token.kind ≡ next_depth) × (next_depth ≤ MOST_DEPTH)
    go true true too_deep h e = absurd cc
    go true false too_deep h e = last too_deep h e
    go false long too_deep h e = last too_deep h e

within_step : (depth next_depth : ℕ) (token : Token) (others : List Token) → depth_after depth token ≡ Ok next_depth → StaysWithin next_depth (map (λ token. token.kind) others) → StaysWithin depth (map (λ token. token.kind) (token ∷ others))
within_step depth next_depth token others e h =
    let at = depth_of_ok depth token next_depth e in
    let same = at.0 in
    let le = at.1 in
    (omega arith, subst (λ (d : ℕ). StaysWithin d (map (λ token. token.kind) others)) (sym same) h)

-- a token and those after it, where those stay within
within_last : (fuel : ℕ) (text : List ℕ) (depth next_depth : ℕ) (token : Token) (all : List Token) → depth_after depth token ≡ Ok next_depth
    → ((others : List Token) → tokens_from fuel text token.to next_depth ≡ Ok others → StaysWithin next_depth (map (λ token. token.kind) others)) → (ends : Bool)
    → cond ends (Ok (token ∷ [])) (tokens_from fuel text token.to next_depth >>= λ others. Ok (token ∷ others)) ≡ Ok all → StaysWithin depth (map (λ token. token.kind) all)
within_last fuel text depth next_depth token all at others_stay true is =
    let same : token ∷ [] ≡ all = cc in
    subst (λ (ts : List Token). StaysWithin depth (map (λ token. token.kind) ts)) same (within_step depth next_depth token [] at tt)
within_last fuel text depth next_depth token all at others_stay false is =
    let o = bind_ok (tokens_from fuel text token.to next_depth) (λ others. Ok (token ∷ others)) all is in
    let last = o.2 in
    let same : token ∷ o.0 ≡ all = cc in
    subst (λ (ts : List Token). StaysWithin depth (map (λ token. token.kind) ts)) same (within_step depth next_depth token o.0 at (others_stay o.0 o.1))

within_from : (fuel : ℕ) (text : List ℕ) (offset depth : ℕ) (all : List Token) → tokens_from fuel text offset depth ≡ Ok all → StaysWithin depth (map (λ token. token.kind) all)
unfolding tokens_from
within_from zero text offset depth all e =
    let a = bind_ok (token_after text offset) (λ (token : Token). Err (TooMany token.from)) all e in
    let h = a.2 in
    absurd cc
within_from (suc fuel) text offset depth all e =
    let further : Token → ℕ → Result (List Token) LexFault = λ token next_depth. cond (is_end token.kind) (Ok (token ∷ [])) (tokens_from fuel text token.to next_depth >>= λ others. Ok (token ∷ others)) in
    let a = bind_ok (token_after text offset) (λ (token : Token). depth_after depth token >>= further token) all e in
    let b = bind_ok (depth_after depth a.0) (further a.0) all a.2 in
    within_last fuel text depth b.0 a.0 all b.1 (within_from fuel text a.0.to b.0) (is_end a.0.kind) b.2

pub tokens_stay_within : TokensStayWithin
unfolding tokens
tokens_stay_within source all e = within_from MOST_TOKENS source 0 0 all e
