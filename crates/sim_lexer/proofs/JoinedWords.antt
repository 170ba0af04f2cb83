-- A word that a blank follows is the token with which the text begins.
use Rattle.std.proofs.Common.{◌≡◌, ℕ, zero, suc, ◌+◌, ◌<◌, Bool, true, false, cond, ◌&&◌, List, [], ◌∷◌, ◌++◌, append_assoc, length, get_or, take, drop, Option, Some, None, refl, sym, subst, ap, ◌∙◌, arith, inl, inr}
use Rattle.std.specs.Prelude.{⊤, count_by, position, bytes_eq, nat_lt, nat_eq, codes, Contains}
use Rattle.std.specs.List.{list_all, starts_with}
use Rattle.std.specs.Char.{is_ascii_digit}
use Rattle.std.proofs.lemmas.Slice.Eq.{bytes_eq-Decides}
use Rattle.std.proofs.lemmas.Bool.{eqb-true}
use Rattle.std.proofs.lemmas.Bool.Decides.{nat_tests}
use Rattle.std.proofs.lemmas.List.{length-append, take_at, drop_at}
use Rattle.std.proofs.lemmas.List.Sums.{sum_by-append, AllPass-from_list_all}
use Rattle.vocabulary.specs.declared.marks.TheConstants.{SPACE, POINT}
use Rattle.sim_lexer.specs.declared.token.TokenKind.{TokenKind}
use Rattle.sim_lexer.specs.declared.token.TokenKind.TheVariants.{Name, Number, Keyword, Symbol, End}
use Rattle.sim_lexer.specs.Tokens.{gap_len, is_blank, is_percent, is_line_feed, Spells, IsWord, IsNumber, AreDigits, digits_len, is_letter, is_name_byte, name_len, number_len, kind_of_keyword, word_kind, keywords, symbols, symbol_token_at, token_at}
use Rattle.sim_lexer.proofs.LexingLaw.{position_some}
use Rattle.sim_lexer.proofs.LongestTokens.{and_first, and_second, prefix_len-passing, digit_is_no_letter, is_word, word_from_test, number_len_from}

pub record IsRead (kind : TokenKind) (word : List ℕ) : Type 0 where
  pub token : (more : List ℕ) → token_at (word ++ SPACE ∷ more) ≡ Some (kind, length word)
  pub no_gap : (more : List ℕ) → gap_len (word ++ SPACE ∷ more) ≡ 0
  pub one_line : count_by is_line_feed word ≡ 0

-- ---- bytes

letter_no_blank : (b : ℕ) → is_letter b ≡ true → is_blank b ≡ false
letter_no_blank b e = grind (arith, nat_tests)

letter_no_percent : (b : ℕ) → is_letter b ≡ true → is_percent b ≡ false
letter_no_percent b e = grind (arith, nat_tests)

digit_no_blank : (b : ℕ) → is_ascii_digit b ≡ true → is_blank b ≡ false
digit_no_blank b e = grind (arith, nat_tests)

digit_no_percent : (b : ℕ) → is_ascii_digit b ≡ true → is_percent b ≡ false
digit_no_percent b e = grind (arith, nat_tests)

name_byte_no_feed : (b : ℕ) → is_name_byte b ≡ true → is_line_feed b ≡ false
name_byte_no_feed b e = grind (arith, nat_tests)

digit_no_feed : (b : ℕ) → is_ascii_digit b ≡ true → is_line_feed b ≡ false
digit_no_feed b e = grind (arith, nat_tests)

no_gap_first : (b : ℕ) (rest : List ℕ) → is_blank b ≡ false → is_percent b ≡ false → gap_len (b ∷ rest) ≡ 0
no_gap_first b rest blank percent = rw (blank, percent) refl

no_feeds : (p : ℕ → Bool) → ((b : ℕ) → p b ≡ true → is_line_feed b ≡ false) → (bytes : List ℕ) → list_all p bytes ≡ true → count_by is_line_feed bytes ≡ 0
no_feeds p passes [] all = refl
no_feeds p passes (b ∷ bytes) all =
    let others = no_feeds p passes bytes (and_second (p b) (list_all p bytes) all) in
    rw (passes b (and_first (p b) (list_all p bytes) all)) (omega (arith, others))

-- ---- names and keywords

word_token : (word : List ℕ) → IsWord word → (more : List ℕ) → token_at (word ++ SPACE ∷ more) ≡ Some (word_kind word, length word)
unfolding token_at
word_token [] h more = absurd (omega (arith, h.0))
word_token (b ∷ rest) h more =
    let word : List ℕ = b ∷ rest in
    let text : List ℕ = word ++ SPACE ∷ more in
    let letter : is_letter b ≡ true = h.1 in
    let size : name_len text ≡ length word = omega (arith, prefix_len-passing is_name_byte word (SPACE ∷ more) h.2) in
    let taken : take (name_len text) text ≡ word = ap (λ k. take k text) size ∙ take_at word (SPACE ∷ more) (length word) refl in
    ap (λ (r : Bool). cond r (Some (word_kind (take (name_len text) text), name_len text)) (cond (is_ascii_digit b) (Some (Number, number_len text)) (symbol_token_at text))) letter ∙ (λ i. Some (word_kind (taken i), size i))

word_gap : (word : List ℕ) → IsWord word → (more : List ℕ) → gap_len (word ++ SPACE ∷ more) ≡ 0
word_gap [] h more = absurd (omega (arith, h.0))
word_gap (b ∷ rest) h more = no_gap_first b (rest ++ SPACE ∷ more) (letter_no_blank b h.1) (letter_no_percent b h.1)

word_reads : (word : List ℕ) (kind : TokenKind) → IsWord word → word_kind word ≡ kind → IsRead kind word
word_reads word kind h e = record {
  token = λ more. word_token word h more ∙ (λ i. Some (e i, length word));
  no_gap = word_gap word h;
  one_line = no_feeds is_name_byte name_byte_no_feed word h.2;
}

name_kind : (word : List ℕ) → ¬ (Contains keywords word) → word_kind word ≡ Name
name_kind word other = go (position (λ k. bytes_eq k word) keywords) refl
  where
    go : (o : Option ℕ) → position (λ k. bytes_eq k word) keywords ≡ o → kind_of_keyword o ≡ Name
    go None e = refl
    go (Some k) e =
        let h = position_some (λ w. bytes_eq w word) keywords k e in
        absurd (other (k, h.0, (bytes_eq-Decides (get_or keywords k word) word).0 (h.1 word)))

-- the test holds of each spelling of a list and its index
abbrev all_at : (List ℕ → ℕ → Bool) → List (List ℕ) → ℕ → Bool
all_at test [] n = true
all_at test (x ∷ xs) n = test x n && all_at test xs (suc n)

passes_at : (test : List ℕ → ℕ → Bool) (xs : List (List ℕ)) (n : ℕ) → all_at test xs n ≡ true → (k : ℕ) → k < length xs → test (get_or xs k []) (n + k) ≡ true
passes_at test [] n h k lt = absurd (omega arith)
passes_at test (x ∷ xs) n h zero lt = subst (λ m. test x m ≡ true) (let e : n ≡ n + 0 = omega arith in e) (and_first (test x n) (all_at test xs (suc n)) h)
passes_at test (x ∷ xs) n h (suc k) lt =
    subst (λ m. test (get_or xs k []) m ≡ true) (let e : suc n + k ≡ n + suc k = omega arith in e) (passes_at test xs (suc n) (and_second (test x n) (all_at test xs (suc n)) h) k (omega arith))

abbrev is_keyword : TokenKind → ℕ → Bool
is_keyword (Keyword k) n = nat_eq k n
is_keyword _ n = false

is_keyword-true : (kind : TokenKind) (n : ℕ) → is_keyword kind n ≡ true → kind ≡ Keyword n
is_keyword-true (Keyword k) n e = ap (λ m. Keyword m) (eqb-true k n e)
is_keyword-true Name n e = absurd cc
is_keyword-true Number n e = absurd cc
is_keyword-true (Symbol k) n e = absurd cc
is_keyword-true End n e = absurd cc

keyword_reads : (n : ℕ) → n < length keywords → IsRead (Keyword n) (get_or keywords n [])
keyword_reads n lt =
    let kind : word_kind (get_or keywords n []) ≡ Keyword n = is_keyword-true _ n (subst (λ m. is_keyword (word_kind (get_or keywords n [])) m ≡ true) (let e : 0 + n ≡ n = omega arith in e) (passes_at (λ s m. is_keyword (word_kind s) m) keywords 0 refl n lt)) in
    word_reads (get_or keywords n []) (Keyword n) (word_from_test (get_or keywords n []) (AllPass-from_list_all is_word keywords refl n [] lt)) kind

-- ---- numbers

digits_gap : (digits more : List ℕ) → AreDigits digits → gap_len (digits ++ more) ≡ 0
digits_gap [] more h = absurd (omega (arith, h.0))
digits_gap (b ∷ rest) more h =
    let digit = and_first (is_ascii_digit b) (list_all is_ascii_digit rest) h.1 in
    no_gap_first b (rest ++ more) (digit_no_blank b digit) (digit_no_percent b digit)

digits_token : (digits more : List ℕ) → AreDigits digits → token_at (digits ++ more) ≡ Some (Number, number_len (digits ++ more))
unfolding token_at
digits_token [] more h = absurd (omega (arith, h.0))
digits_token (b ∷ rest) more h =
    let digit = and_first (is_ascii_digit b) (list_all is_ascii_digit rest) h.1 in
    let text : List ℕ = b ∷ rest ++ more in
    let word : Option (TokenKind × ℕ) = Some (word_kind (take (name_len text) text), name_len text) in
    ap (λ (r : Bool). cond r word (cond (is_ascii_digit b) (Some (Number, number_len text)) (symbol_token_at text))) (digit_is_no_letter b digit)
    ∙ ap (λ (r : Bool). cond r (Some (Number, number_len text)) (symbol_token_at text)) digit

whole_len_is : (digits more : List ℕ) → AreDigits digits → number_len (digits ++ SPACE ∷ more) ≡ length digits
whole_len_is digits more h =
    let text : List ℕ = digits ++ SPACE ∷ more in
    let size : digits_len text ≡ length digits = omega (arith, prefix_len-passing is_ascii_digit digits (SPACE ∷ more) h.1) in
    let after : drop (length digits) text ≡ SPACE ∷ more = drop_at digits (SPACE ∷ more) (length digits) refl in
    let point : starts_with nat_eq (drop (length digits) text) (codes ".") ≡ false = ap (λ (t : List ℕ). starts_with nat_eq t (codes ".")) after in
    ap (number_len_from text) size ∙ rw point refl

fraction_len_is : (whole decimals more : List ℕ) → AreDigits whole → AreDigits decimals → number_len (whole ++ (POINT ∷ (decimals ++ SPACE ∷ more))) ≡ length whole + 1 + length decimals
fraction_len_is whole decimals more w d =
    let after_point : List ℕ = decimals ++ SPACE ∷ more in
    let text : List ℕ = whole ++ (POINT ∷ after_point) in
    let size : digits_len text ≡ length whole = omega (arith, prefix_len-passing is_ascii_digit whole (POINT ∷ after_point) w.1) in
    let after : drop (length whole) text ≡ POINT ∷ after_point = drop_at whole (POINT ∷ after_point) (length whole) refl in
    let split : text ≡ (whole ++ POINT ∷ []) ++ after_point = sym (append_assoc whole (POINT ∷ []) after_point) in
    let front : length (whole ++ POINT ∷ []) ≡ length whole + 1 = length-append whole (POINT ∷ []) in
    let fraction : drop (length whole + 1) text ≡ after_point = ap (λ (t : List ℕ). drop (length whole + 1) t) split ∙ drop_at (whole ++ POINT ∷ []) after_point (length whole + 1) front in
    let count : digits_len (drop (length whole + 1) text) ≡ length decimals = ap digits_len fraction ∙ (omega (arith, prefix_len-passing is_ascii_digit decimals (SPACE ∷ more) d.1)) in
    let point : starts_with nat_eq (drop (length whole) text) (codes ".") ≡ true = ap (λ (t : List ℕ). starts_with nat_eq t (codes ".")) after in
    let some : nat_lt 0 (digits_len (drop (length whole + 1) text)) ≡ true = ap (nat_lt 0) count ∙ grind (arith, nat_tests, d.0) in
    ap (number_len_from text) size ∙ rw (point, some) (omega (arith, count))

number_reads : (word : List ℕ) → IsNumber word → IsRead Number word
number_reads word (inl h) = record {
  token = λ more. digits_token word (SPACE ∷ more) h ∙ (λ i. Some (Number, whole_len_is word more h i));
  no_gap = λ more. digits_gap word (SPACE ∷ more) h;
  one_line = no_feeds is_ascii_digit digit_no_feed word h.1;
}
number_reads word (inr (whole, decimals, w, d, e)) =
    subst (IsRead Number) (sym e) (record {
      token = λ more. ap token_at (append_assoc whole (POINT ∷ decimals) (SPACE ∷ more)) ∙ digits_token whole (POINT ∷ (decimals ++ SPACE ∷ more)) w
          ∙ (λ i. Some (Number, (let size : number_len (whole ++ (POINT ∷ (decimals ++ SPACE ∷ more))) ≡ length (whole ++ POINT ∷ decimals) = omega (arith, fraction_len_is whole decimals more w d, length-append whole (POINT ∷ decimals)) in size) i));
      no_gap = λ more. ap gap_len (append_assoc whole (POINT ∷ decimals) (SPACE ∷ more)) ∙ digits_gap whole (POINT ∷ (decimals ++ SPACE ∷ more)) w;
      one_line = let all : count_by is_line_feed (whole ++ POINT ∷ decimals) ≡ count_by is_line_feed whole + count_by is_line_feed (POINT ∷ decimals) = sum_by-append (λ x. cond (is_line_feed x) 1 0) whole (POINT ∷ decimals) in
          omega (arith, all, no_feeds is_ascii_digit digit_no_feed whole w.1, no_feeds is_ascii_digit digit_no_feed decimals d.1);
    })

-- ---- symbols

-- what holds of each spelling of a list and its index
abbrev Every : (List ℕ → ℕ → Type 0) → List (List ℕ) → ℕ → Type 0
Every P [] n = ⊤
Every P (x ∷ xs) n = P x n × Every P xs (suc n)

every_at : (P : List ℕ → ℕ → Type 0) (xs : List (List ℕ)) (n : ℕ) → Every P xs n → (k : ℕ) → k < length xs → P (get_or xs k []) (n + k)
every_at P [] n h k lt = absurd (omega arith)
every_at P (x ∷ xs) n h zero lt = subst (P x) (let e : n ≡ n + 0 = omega arith in e) h.0
every_at P (x ∷ xs) n h (suc k) lt = subst (P (get_or xs k [])) (let e : suc n + k ≡ n + suc k = omega arith in e) (every_at P xs (suc n) h.1 k (omega arith))

abbrev SymbolReads : List ℕ → ℕ → Type 0
SymbolReads signs n = IsRead (Symbol n) signs

symbol_0 : IsRead (Symbol 0) (codes ".*")
unfolding token_at
symbol_0 = record { token = λ more. refl; no_gap = λ more. refl; one_line = refl }

symbol_1 : IsRead (Symbol 1) (codes "->")
unfolding token_at
symbol_1 = record { token = λ more. refl; no_gap = λ more. refl; one_line = refl }

symbol_2 : IsRead (Symbol 2) (codes "==")
unfolding token_at
symbol_2 = record { token = λ more. refl; no_gap = λ more. refl; one_line = refl }

symbol_3 : IsRead (Symbol 3) (codes "!=")
unfolding token_at
symbol_3 = record { token = λ more. refl; no_gap = λ more. refl; one_line = refl }

symbol_4 : IsRead (Symbol 4) (codes "<=")
unfolding token_at
symbol_4 = record { token = λ more. refl; no_gap = λ more. refl; one_line = refl }

symbol_5 : IsRead (Symbol 5) (codes ">=")
unfolding token_at
symbol_5 = record { token = λ more. refl; no_gap = λ more. refl; one_line = refl }

symbol_6 : IsRead (Symbol 6) (codes "(")
unfolding token_at
symbol_6 = record { token = λ more. refl; no_gap = λ more. refl; one_line = refl }

symbol_7 : IsRead (Symbol 7) (codes ")")
unfolding token_at
symbol_7 = record { token = λ more. refl; no_gap = λ more. refl; one_line = refl }

symbol_8 : IsRead (Symbol 8) (codes "[")
unfolding token_at
symbol_8 = record { token = λ more. refl; no_gap = λ more. refl; one_line = refl }

symbol_9 : IsRead (Symbol 9) (codes "]")
unfolding token_at
symbol_9 = record { token = λ more. refl; no_gap = λ more. refl; one_line = refl }

symbol_10 : IsRead (Symbol 10) (codes "{")
unfolding token_at
symbol_10 = record { token = λ more. refl; no_gap = λ more. refl; one_line = refl }

symbol_11 : IsRead (Symbol 11) (codes "}")
unfolding token_at
symbol_11 = record { token = λ more. refl; no_gap = λ more. refl; one_line = refl }

symbol_12 : IsRead (Symbol 12) (codes ":")
unfolding token_at
symbol_12 = record { token = λ more. refl; no_gap = λ more. refl; one_line = refl }

symbol_13 : IsRead (Symbol 13) (codes ";")
unfolding token_at
symbol_13 = record { token = λ more. refl; no_gap = λ more. refl; one_line = refl }

symbol_14 : IsRead (Symbol 14) (codes ",")
unfolding token_at
symbol_14 = record { token = λ more. refl; no_gap = λ more. refl; one_line = refl }

symbol_15 : IsRead (Symbol 15) (codes ".")
unfolding token_at
symbol_15 = record { token = λ more. refl; no_gap = λ more. refl; one_line = refl }

symbol_16 : IsRead (Symbol 16) (codes "*")
unfolding token_at
symbol_16 = record { token = λ more. refl; no_gap = λ more. refl; one_line = refl }

symbol_17 : IsRead (Symbol 17) (codes "+")
unfolding token_at
symbol_17 = record { token = λ more. refl; no_gap = λ more. refl; one_line = refl }

symbol_18 : IsRead (Symbol 18) (codes "-")
unfolding token_at
symbol_18 = record { token = λ more. refl; no_gap = λ more. refl; one_line = refl }

symbol_19 : IsRead (Symbol 19) (codes "=")
unfolding token_at
symbol_19 = record { token = λ more. refl; no_gap = λ more. refl; one_line = refl }

symbol_20 : IsRead (Symbol 20) (codes "<")
unfolding token_at
symbol_20 = record { token = λ more. refl; no_gap = λ more. refl; one_line = refl }

symbol_21 : IsRead (Symbol 21) (codes ">")
unfolding token_at
symbol_21 = record { token = λ more. refl; no_gap = λ more. refl; one_line = refl }

symbol_22 : IsRead (Symbol 22) (codes "'")
unfolding token_at
symbol_22 = record { token = λ more. refl; no_gap = λ more. refl; one_line = refl }

each_symbol : Every SymbolReads symbols 0
each_symbol = (symbol_0, (symbol_1, (symbol_2, (symbol_3, (symbol_4, (symbol_5, (symbol_6, (symbol_7, (symbol_8, (symbol_9, (symbol_10, (symbol_11, (symbol_12, (symbol_13, (symbol_14, (symbol_15, (symbol_16, (symbol_17, (symbol_18, (symbol_19, (symbol_20, (symbol_21, (symbol_22, tt)))))))))))))))))))))))

symbol_reads : (n : ℕ) → n < length symbols → IsRead (Symbol n) (get_or symbols n [])
symbol_reads n lt = subst (λ m. IsRead (Symbol m) (get_or symbols n [])) (let e : 0 + n ≡ n = omega arith in e) (every_at SymbolReads symbols 0 each_symbol n lt)

-- ---- a word of any kind but the end

pub reads : (kind : TokenKind) (word : List ℕ) → Spells kind word → ¬ (kind ≡ End) → IsRead kind word
reads Name word h other = word_reads word Name h.0 (name_kind word h.2)
reads Number word h other = number_reads word h
reads (Keyword n) word h other = subst (IsRead (Keyword n)) h.1 (keyword_reads n h.0)
reads (Symbol n) word h other = subst (IsRead (Symbol n)) h.1 (symbol_reads n h.0)
reads End word h other = absurd (other refl)
