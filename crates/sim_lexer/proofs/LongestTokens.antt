-- The token with which a text begins is the longest: no longer prefix of the text is a word, a number or a symbol.
use Rattle.std.proofs.Common.{◌≡◌, ℕ, zero, suc, ◌+◌, ◌<◌, ◌≤◌, Bool, true, false, cond, not, ◌&&◌, List, [], ◌∷◌, ◌++◌, append_assoc, length, get_or, take, drop, Some, None, refl, sym, subst, ap, ◌∙◌, arith, inl, inr}
use Rattle.std.specs.Prelude.{◌⊎◌, position, nat_eq, nat_lt, nat_le, codes, Contains, slice_index, slice_index_or}
use Rattle.std.specs.List.{list_all, starts_with, prefix_len, position_or_len}
use Rattle.std.specs.Char.{is_ascii_digit}
use Rattle.std.proofs.lemmas.Slice.Eq.{starts_is}
use Rattle.std.proofs.lemmas.Bool.{cases_lt, lt-ltb, le-ltb, ltb-true, leb-true}
use Rattle.std.proofs.lemmas.Bool.Decides.{Decides-eqb, nat_tests}
use Rattle.std.proofs.lemmas.List.{length-take-le, length-append, get_or-take, get_or_default, take-append-drop, drop_at}
use Rattle.std.proofs.lemmas.List.Sums.{AllPass-from_list_all, prefix_len_stops, fails_before_first}
use Rattle.vocabulary.specs.declared.marks.TheConstants.{POINT}
use Rattle.sim_lexer.specs.Tokens.{IsWord, AreDigits, IsNumber, Spells, is_letter, is_name_byte, name_len, digits_len, number_len, keywords, symbols, symbol_at}
use Rattle.sim_lexer.specs.declared.token.TokenKind.{TokenKind}
use Rattle.sim_lexer.specs.declared.token.TokenKind.TheVariants.{Name, Number, Keyword, Symbol, End}

-- a word of any length, a number or a symbol
abbrev pub IsLexeme : List ℕ → Type 0
IsLexeme bytes = IsWord bytes ⊎ (IsNumber bytes ⊎ Contains symbols bytes)

-- no longer prefix of a text than one of this length is one of these
abbrev pub IsLongestAt : List ℕ → ℕ → Type 0
IsLongestAt text size = (n : ℕ) → size < n → n ≤ length text → ¬ IsLexeme (take n text)

-- ---- prefixes

passing_prefix_within : (p : ℕ → Bool) (text : List ℕ) (n : ℕ) → n ≤ length text → list_all p (take n text) ≡ true → n ≤ prefix_len p text
passing_prefix_within p text n le all =
    elim (cases_lt (prefix_len p text) n) [
      | inl short ↦
          let size : length (take n text) ≡ n = length-take-le n text le in
          let stops : p (get_or text (prefix_len p text) 0) ≡ false = prefix_len_stops p text 0 (omega arith) in
          let passes : p (get_or (take n text) (prefix_len p text) 0) ≡ true = AllPass-from_list_all p (take n text) all (prefix_len p text) 0 (omega arith) in
          let same : get_or (take n text) (prefix_len p text) 0 ≡ get_or text (prefix_len p text) 0 = get_or-take n text (prefix_len p text) 0 short in
          absurd (let h : true ≡ false = sym passes ∙ ap p same ∙ stops in cc)
      | inr le ↦ le
    ]

pub and_first : (a b : Bool) → (a && b) ≡ true → a ≡ true
and_first true b e = refl
and_first false b e = absurd cc

pub and_second : (a b : Bool) → (a && b) ≡ true → b ≡ true
and_second true b e = e
and_second false b e = absurd cc

pub prefix_len-passing : (p : ℕ → Bool) (xs ys : List ℕ) → list_all p xs ≡ true → prefix_len p (xs ++ ys) ≡ length xs + prefix_len p ys
prefix_len-passing p [] ys all = omega arith
prefix_len-passing p (x ∷ xs) ys all =
    let others = prefix_len-passing p xs ys (and_second (p x) (list_all p xs) all) in
    rw (and_first (p x) (list_all p xs) all) (omega (arith, others))

-- ---- what tokens are spelled as

abbrev pub is_word : List ℕ → Bool
is_word word = nat_lt 0 (length word) && (is_letter (slice_index word 0) && list_all is_name_byte word)

pub word_from_test : (word : List ℕ) → is_word word ≡ true → IsWord word
word_from_test word e =
    let later = and_second (nat_lt 0 (length word)) (is_letter (slice_index word 0) && list_all is_name_byte word) e in (
      ltb-true 0 (length word) (and_first (nat_lt 0 (length word)) (is_letter (slice_index word 0) && list_all is_name_byte word) e),
      and_first (is_letter (slice_index word 0)) (list_all is_name_byte word) later,
      and_second (is_letter (slice_index word 0)) (list_all is_name_byte word) later,
    )

pub lexeme_from_spelled : (kind : TokenKind) (bytes : List ℕ) → 0 < length bytes → Spells kind bytes → IsLexeme bytes
lexeme_from_spelled Name bytes some h = inl h.0
lexeme_from_spelled Number bytes some h = inr (inl h)
lexeme_from_spelled (Keyword n) bytes some h = inl (subst IsWord h.1 (word_from_test (get_or keywords n []) (AllPass-from_list_all is_word keywords refl n [] h.0)))
lexeme_from_spelled (Symbol n) bytes some h = inr (inr (n, h.0, get_or_default symbols n bytes [] h.0 ∙ h.1))
lexeme_from_spelled End bytes some h = absurd (omega (arith, ap length h))

-- ---- first bytes

first_byte : (n b : ℕ) (rest : List ℕ) → 0 < n → slice_index (take n (b ∷ rest)) 0 ≡ b
first_byte zero b rest lt = absurd (omega arith)
first_byte (suc n) b rest lt = refl

pub letter_is_no_digit : (b : ℕ) → is_letter b ≡ true → is_ascii_digit b ≡ false
letter_is_no_digit b letter = grind (arith, nat_tests)

pub digit_is_no_letter : (b : ℕ) → is_ascii_digit b ≡ true → is_letter b ≡ false
digit_is_no_letter b digit = grind (arith, nat_tests)

digits_first : (digits more : List ℕ) → AreDigits digits → is_ascii_digit (slice_index (digits ++ more) 0) ≡ true
digits_first [] more h = absurd (omega (arith, h.0))
digits_first (x ∷ xs) more h = and_first (is_ascii_digit x) (list_all is_ascii_digit xs) h.1

number_first : (bytes : List ℕ) → IsNumber bytes → is_ascii_digit (slice_index bytes 0) ≡ true
number_first bytes (inl h) = AllPass-from_list_all is_ascii_digit bytes h.1 0 0 h.0
number_first bytes (inr h) = subst (λ (t : List ℕ). is_ascii_digit (slice_index t 0) ≡ true) (sym h.4) (digits_first h.0 (POINT ∷ h.1) h.2)

not_true : (b : Bool) → not b ≡ true → b ≡ false
not_true true e = absurd cc
not_true false e = refl

-- a test that no symbol's first byte passes
no_symbol_first : (p : ℕ → Bool) → list_all (λ (s : List ℕ). not (p (slice_index s 0))) symbols ≡ true → (signs : List ℕ) → Contains symbols signs → p (slice_index signs 0) ≡ false
no_symbol_first p none signs (k, lt, is) =
    let test : not (p (slice_index (get_or symbols k signs) 0)) ≡ true = AllPass-from_list_all (λ (s : List ℕ). not (p (slice_index s 0))) symbols none k signs lt in
    not_true (p (slice_index signs 0)) (subst (λ (s : List ℕ). not (p (slice_index s 0)) ≡ true) is test)

differs : (p : ℕ → Bool) (x b : ℕ) → p x ≡ true → x ≡ b → p b ≡ false → ⊥
differs p x b passes is fails = let h : true ≡ false = sym passes ∙ ap p is ∙ fails in absurd (cc)

-- ---- words

pub word_is_longest : (b : ℕ) (rest : List ℕ) → is_letter b ≡ true → (n : ℕ) → name_len (b ∷ rest) < n → n ≤ length (b ∷ rest) → IsLexeme (take n (b ∷ rest)) → ⊥
word_is_longest b rest letter n longer le (inl word) = absurd (omega (arith, passing_prefix_within is_name_byte (b ∷ rest) n le word.2))
word_is_longest b rest letter n longer le (inr (inl number)) = differs is_ascii_digit _ b (number_first (take n (b ∷ rest)) number) (first_byte n b rest (omega arith)) (letter_is_no_digit b letter)
word_is_longest b rest letter n longer le (inr (inr symbol)) = differs is_letter b (slice_index (take n (b ∷ rest)) 0) letter (sym (first_byte n b rest (omega arith))) (no_symbol_first is_letter refl (take n (b ∷ rest)) symbol)

-- ---- numbers

-- the length of the number with which a text begins, where so many digits stand before a point
abbrev pub number_len_from : List ℕ → ℕ → ℕ
number_len_from text whole = cond (starts_with nat_eq (drop whole text) (codes ".") && nat_lt 0 (digits_len (drop (whole + 1) text))) (whole + 1 + digits_len (drop (whole + 1) text)) whole

whole_within : (text : List ℕ) (whole : ℕ) → whole ≤ number_len_from text whole
whole_within text whole = go (starts_with nat_eq (drop whole text) (codes ".") && nat_lt 0 (digits_len (drop (whole + 1) text)))
  where
    go : (b : Bool) → whole ≤ cond b (whole + 1 + digits_len (drop (whole + 1) text)) whole
    go true = omega arith
    go false = omega arith

fraction_within : (whole decimals more text : List ℕ) → AreDigits whole → AreDigits decimals → text ≡ whole ++ (POINT ∷ (decimals ++ more)) → length whole + 1 + length decimals ≤ number_len text
fraction_within whole decimals more text w d is =
    let digits : digits_len text ≡ length whole = omega (arith, ap digits_len is ∙ prefix_len-passing is_ascii_digit whole (POINT ∷ (decimals ++ more)) w.1) in
    let after : drop (length whole) text ≡ POINT ∷ (decimals ++ more) = ap (λ (t : List ℕ). drop (length whole) t) is ∙ drop_at whole (POINT ∷ (decimals ++ more)) (length whole) refl in
    let joined : text ≡ (whole ++ POINT ∷ []) ++ (decimals ++ more) = is ∙ sym (append_assoc whole (POINT ∷ []) (decimals ++ more)) in
    let size : length (whole ++ POINT ∷ []) ≡ length whole + 1 = length-append whole (POINT ∷ []) in
    let fraction : drop (length whole + 1) text ≡ decimals ++ more = ap (λ (t : List ℕ). drop (length whole + 1) t) joined ∙ drop_at (whole ++ POINT ∷ []) (decimals ++ more) (length whole + 1) size in
    let count : digits_len (drop (length whole + 1) text) ≡ length decimals + digits_len more = ap digits_len fraction ∙ prefix_len-passing is_ascii_digit decimals more d.1 in
    let point : starts_with nat_eq (drop (length whole) text) (codes ".") ≡ true = ap (λ (t : List ℕ). starts_with nat_eq t (codes ".")) after in
    let some : nat_lt 0 (digits_len (drop (length whole + 1) text)) ≡ true = lt-ltb 0 (digits_len (drop (length whole + 1) text)) (omega (arith, d.0)) in
    let long : length whole + 1 + length decimals ≤ number_len_from text (length whole) = rw (point, some) (omega arith) in
    subst (λ (k : ℕ). length whole + 1 + length decimals ≤ number_len_from text k) (sym digits) long

number_within : (text : List ℕ) (n : ℕ) → n ≤ length text → IsNumber (take n text) → n ≤ number_len text
number_within text n le (inl h) = omega (arith, passing_prefix_within is_ascii_digit text n le h.1, whole_within text (digits_len text))
number_within text n le (inr h) =
    let size : length (take n text) ≡ n = length-take-le n text le in
    let parts : length (take n text) ≡ length h.0 + length (POINT ∷ h.1) = ap length h.4 ∙ length-append h.0 (POINT ∷ h.1) in
    let is : text ≡ h.0 ++ (POINT ∷ (h.1 ++ drop n text)) = sym (take-append-drop n text) ∙ ap (λ (t : List ℕ). t ++ drop n text) h.4 ∙ append_assoc h.0 (POINT ∷ h.1) (drop n text) in
    omega (arith, fraction_within h.0 h.1 (drop n text) text h.2 h.3 is)

pub number_is_longest : (b : ℕ) (rest : List ℕ) → is_ascii_digit b ≡ true → (n : ℕ) → number_len (b ∷ rest) < n → n ≤ length (b ∷ rest) → IsLexeme (take n (b ∷ rest)) → ⊥
number_is_longest b rest digit n longer le (inl word) = differs is_letter _ b word.1 (first_byte n b rest (omega arith)) (digit_is_no_letter b digit)
number_is_longest b rest digit n longer le (inr (inl number)) = absurd (omega (arith, number_within (b ∷ rest) n le number))
number_is_longest b rest digit n longer le (inr (inr symbol)) = differs is_ascii_digit b (slice_index (take n (b ∷ rest)) 0) digit (sym (first_byte n b rest (omega arith))) (no_symbol_first is_ascii_digit refl (take n (b ∷ rest)) symbol)

-- ---- symbols

-- no list is followed by a longer one
abbrev shortens : List (List ℕ) → Bool
shortens [] = true
shortens (x ∷ xs) = list_all (λ (y : List ℕ). nat_le (length y) (length x)) xs && shortens xs

shorter_later : (xs : List (List ℕ)) → shortens xs ≡ true → (n k : ℕ) → n ≤ k → k < length xs → length (get_or xs k []) ≤ length (get_or xs n [])
shorter_later [] h n k le lt = absurd (omega arith)
shorter_later (x ∷ xs) h zero zero le lt = omega arith
shorter_later (x ∷ xs) h zero (suc k) le lt =
    let all = and_first (list_all (λ (y : List ℕ). nat_le (length y) (length x)) xs) (shortens xs) h in
    leb-true _ _ (AllPass-from_list_all (λ (y : List ℕ). nat_le (length y) (length x)) xs all k [] (omega arith))
shorter_later (x ∷ xs) h (suc n) zero le lt = absurd (omega arith)
shorter_later (x ∷ xs) h (suc n) (suc k) le lt = shorter_later xs (and_second (list_all (λ (y : List ℕ). nat_le (length y) (length x)) xs) (shortens xs) h) n k (omega arith) (omega arith)

-- what stands before the first that passes fails
position_first : {X : Type 0} (p : X → Bool) (xs : List X) (n k : ℕ) (d : X) → position p xs ≡ Some n → k < n → p (get_or xs k d) ≡ false
position_first p xs n k d e lt =
    elim (cases_lt (position_or_len p xs) (length xs)) [
      | inl found ↦
          let h : Some (position_or_len p xs) ≡ Some n = sym (ap (λ b. cond b (Some (position_or_len p xs)) None) (lt-ltb (position_or_len p xs) (length xs) found)) ∙ e in
          let at : position_or_len p xs ≡ n = cc in
          fails_before_first p xs k d (omega arith)
      | inr past ↦ absurd (let h : None ≡ Some n = sym (ap (λ b. cond b (Some (position_or_len p xs)) None) (le-ltb (position_or_len p xs) (length xs) past)) ∙ e in cc)
    ]

symbol_within : (text : List ℕ) (n m : ℕ) → symbol_at text ≡ Some m → n ≤ length text → Contains symbols (take n text) → n ≤ length (get_or symbols m [])
symbol_within text n m found le (k, lt, is) =
    let size : length (take n text) ≡ n = length-take-le n text le in
    let same : get_or symbols k [] ≡ take n text = get_or_default symbols k [] (take n text) lt ∙ is in
    let joined : text ≡ get_or symbols k [] ++ drop n text = sym (take-append-drop n text) ∙ ap (λ (t : List ℕ). t ++ drop n text) (sym same) in
    let begins : starts_with nat_eq text (get_or symbols k []) ≡ true = (starts_is Decides-eqb text (get_or symbols k []) (starts_with nat_eq text (get_or symbols k [])) refl).1 (drop n text) joined in
    elim (cases_lt k m) [
      | inl before ↦ absurd (let h : true ≡ false = sym begins ∙ position_first (starts_with nat_eq text) symbols m k [] found before in cc)
      | inr after ↦ omega (arith, shorter_later symbols refl m k after lt, ap length same)
    ]

pub symbol_is_longest : (b : ℕ) (rest : List ℕ) (m : ℕ) → is_letter b ≡ false → is_ascii_digit b ≡ false → symbol_at (b ∷ rest) ≡ Some m
    → (n : ℕ) → length (slice_index_or symbols m []) < n → n ≤ length (b ∷ rest) → IsLexeme (take n (b ∷ rest)) → ⊥
symbol_is_longest b rest m letter digit found n longer le (inl word) = differs is_letter _ b word.1 (first_byte n b rest (omega arith)) letter
symbol_is_longest b rest m letter digit found n longer le (inr (inl number)) = differs is_ascii_digit _ b (number_first (take n (b ∷ rest)) number) (first_byte n b rest (omega arith)) digit
symbol_is_longest b rest m letter digit found n longer le (inr (inr symbol)) = absurd (omega (arith, symbol_within (b ∷ rest) n m found le symbol))
