-- Ways of making rules of lists keep that rules and readings agree.
use Rattle.std.proofs.Common.{◌≡◌, ℕ, zero, suc, ◌+◌, ◌<◌, ◌≤◌, Bool, true, false, cond, List, [], ◌∷◌, ◌++◌, append_assoc, append-nil, length, length-append, Some, None, refl, sym, subst, ap, ◌∙◌, arith, inl, inr}
use Rattle.std.specs.Prelude.{Ok, Err}
use Rattle.vocabulary.specs.Answers.{◌>>=◌}
use Rattle.sim_lexer.specs.Words.{Word}
use Rattle.sim_lexer.specs.declared.token.TokenKind.{TokenKind}
use Rattle.sim_grammar.specs.Rule.{Rule, Joined, StateEach, Each, Separated, OneOrTwo, Maybe, MaybeSome, Whether}
use Rattle.sim_grammar.specs.Read.{Read, Reader, starts, repeat, each, separated, one_or_two, maybe_second, maybe, maybe_some, whether}
use Rattle.sim_grammar.proofs.Starts.{apart, Opens, starts-front, starts-apart, starts-append, starts-neither, next_stops, has_end, ends, has_end-append}
use Rattle.sim_grammar.proofs.Agree.{Taken, join, retold, shorter, split, Shape, begins_so, left, Sound, Agrees, by_cut, front_few, back_few, filled, bind-left, fixed-agrees, none-agrees}
use Rattle.sim_grammar.proofs.AgreeParts.{seq-agrees, before-agrees, either-agrees, made-agrees}

-- ---- repetition

module _ {A : Type 0} {P : Rule A} {f : List TokenKind} (a : Shape P false f) where
  each_begins : (xs : List A) (front : List Word) → StateEach P.states xs front → Opens true f front
  each_begins [] front is = inr (refl, is)
  each_begins (x ∷ xs) front is = inl (ap (starts f) is.parts ∙ starts-append f is.front is.back (begins_so a x is.front is.first))

  each_endless : (xs : List A) (front : List Word) → StateEach P.states xs front → has_end front ≡ false
  each_endless [] front is = ap has_end is
  each_endless (x ∷ xs) front is = ap has_end is.parts ∙ has_end-append is.front is.back (a.endless is.front (a.stated_cut x is.front is.first)) (each_endless xs is.back is.second)

  each_cut_begins : (xs : List A) (cut : List Word) → Joined (StateEach P.states xs) P.cuts cut → Opens true f cut
  each_cut_begins [] cut is = let whole : cut ≡ is.back = is.parts ∙ ap (λ w. w ++ is.back) is.first in subst (Opens true f) (sym whole) (a.cut_begins is.back is.second)
  each_cut_begins (x ∷ xs) cut is =
      let one = is.first in
      let begins : starts f is.front ≡ true = ap (starts f) one.parts ∙ starts-append f one.front one.back (begins_so a x one.front one.first) in
      inl (ap (starts f) is.parts ∙ starts-append f is.front is.back begins)

  each-shape : Shape (Each P) true f
  each-shape = record {
    begins = each_begins;
    cut_begins = λ cut is. each_cut_begins is.0 cut is.1;
    empty_cut = ([], record { front = []; back = []; parts = refl; first = refl; second = a.empty_cut });
    stated_cut = λ xs front is. (xs, record { front = front; back = []; parts = sym (append-nil front); first = is; second = a.empty_cut });
    endless = λ cut is. ap has_end is.1.parts ∙ has_end-append is.1.front is.1.back (each_endless is.0 is.1.front is.1.first) (a.endless is.1.back is.1.second);
  }

  each_length : (xs : List A) (front : List Word) → StateEach P.states xs front → length xs ≤ length front
  each_length [] front is = omega arith
  each_length (x ∷ xs) front is =
      let some = filled f is.front (begins_so a x is.front is.first) in
      let others = each_length xs is.back is.second in
      let size : length front ≡ length is.front + length is.back = ap length is.parts ∙ length-append is.front is.back in
      omega arith

-- the values that a repetition adds to those before it, or the cut that it passes
record Repeated {A : Type 0} (P : Rule A) (before : List A) (words : List Word) (all : List A) (rest : List Word) : Type 0 where
  more : List A
  values : all ≡ before ++ more
  taken : Taken (StateEach P.states more) words rest

abbrev Repeats : {A : Type 0} → Rule A → List A → List Word → Read (List A) → Type 0
Repeats P before words (Ok read) = Repeated P before words read.0 read.1
Repeats P before words (Err stuck) = Taken (Each P).cuts words stuck

repeats-shorter : {A : Type 0} (P : Rule A) (before : List A) (words : List Word) (r : Read (List A)) → Repeats P before words r → left r ≤ length words
repeats-shorter P before words (Ok read) repeats = shorter repeats.taken
repeats-shorter P before words (Err stuck) repeats = shorter repeats

-- a cut after values that are stated before it
cut_after : {A : Type 0} {P : Rule A} {words after stuck : List Word} (x : A) → Taken (P.states x) words after → Taken (Each P).cuts after stuck → Taken (Each P).cuts words stuck
cut_after {P = P} {stuck = stuck} x one more =
    let cut = more.is.1 in
    record {
      front = one.front ++ more.front;
      parts = one.parts ∙ ap (λ t. one.front ++ t) more.parts ∙ sym (append_assoc one.front more.front stuck);
      is = (
        x ∷ more.is.0,
        record {
          front = one.front ++ cut.front;
          back = cut.back;
          parts = ap (λ t. one.front ++ t) cut.parts ∙ sym (append_assoc one.front cut.front cut.back);
          first = record { front = one.front; back = cut.front; parts = refl; first = one.is; second = cut.first };
          second = cut.second;
        },
      );
    }

module _ {A : Type 0} {P R : Rule A} {most : ℕ} {f s : List TokenKind} {p : Reader A} (a : Agrees P R most false f s p) where
  repeated_none : (before : List A) (words : List Word) → Repeated P before words before words
  repeated_none before words = record { more = []; values = sym (append-nil before); taken = record { front = []; parts = refl; is = refl } }

  repeat-sound : (fuel : ℕ) (before : List A) (words : List Word) → Repeats P before words (repeat fuel f p before words)
  unfolding repeat
  repeat-sound zero before words = repeated_none before words
  repeat-sound (suc fuel) before words = by (starts f words) (λ one. repeat-sound fuel (before ++ one.0 ∷ []) one.1) (p words) (a.sound words)
    where
      another : (one : A × List Word) → Taken (P.states one.0) words one.1 → (r : Read (List A)) → Repeats P (before ++ one.0 ∷ []) one.1 r → Repeats P before words r
      another one taken (Ok read) others = record {
        more = one.0 ∷ others.more;
        values = others.values ∙ append_assoc before (one.0 ∷ []) others.more;
        taken = join taken others.taken;
      }
      another one taken (Err stuck) others = cut_after one.0 taken others

      first : ((one : A × List Word) → Repeats P (before ++ one.0 ∷ []) one.1 (repeat fuel f p (before ++ one.0 ∷ []) one.1)) → (r : Read A) → Sound P words r
          → Repeats P before words (r >>= λ one. repeat fuel f p (before ++ one.0 ∷ []) one.1)
      first others (Ok one) sound = another one sound (repeat fuel f p (before ++ one.0 ∷ []) one.1) (others one)
      first others (Err stuck) sound = retold (λ front parts is. ([], record { front = []; back = front; parts = refl; first = refl; second = is })) sound

      by : (test : Bool) → ((one : A × List Word) → Repeats P (before ++ one.0 ∷ []) one.1 (repeat fuel f p (before ++ one.0 ∷ []) one.1)) → (r : Read A) → Sound P words r
          → Repeats P before words (cond test (r >>= λ one. repeat fuel f p (before ++ one.0 ∷ []) one.1) (Ok (before, words)))
      by true others r sound = first others r sound
      by false others r sound = repeated_none before words

  repeat-left : (fuel : ℕ) (before : List A) (words : List Word) → left (repeat fuel f p before words) ≤ length words
  repeat-left fuel before words = repeats-shorter P before words (repeat fuel f p before words) (repeat-sound fuel before words)

  repeat-complete : apart f s ≡ true → (fuel : ℕ) (before xs : List A) (front rest : List Word) → length xs ≤ fuel → StateEach R.states xs front → length front ≤ most → starts (f ++ s) rest ≡ false
      → repeat fuel f p before (front ++ rest) ≡ Ok (before ++ xs, rest)
  unfolding repeat
  repeat-complete are_apart zero before [] front rest few is short stop = rw (is, append-nil) refl
  repeat-complete are_apart (suc fuel) before [] front rest few is short stop = let ends = (starts-neither f s rest stop).0 in rw (is, ends, append-nil) refl
  repeat-complete are_apart zero before (x ∷ xs) front rest few is short stop = absurd (omega arith)
  repeat-complete are_apart (suc fuel) before (x ∷ xs) front rest few is short stop =
      let here = ap (starts f) (split is rest) ∙ starts-append f is.front (is.back ++ rest) (begins_so a.asked x is.front is.first) in
      let next = next_stops true f s f is.back rest (each_begins a.asked xs is.back is.second) are_apart stop in
      let one = ap p (split is rest) ∙ a.complete x is.front (is.back ++ rest) is.first (front_few is most short) next in
      let again : ((before ++ x ∷ []) ++ xs) ≡ before ++ x ∷ xs = append_assoc before (x ∷ []) xs in
      let others = repeat-complete are_apart fuel (before ++ x ∷ []) xs is.back rest (omega arith) is.second (back_few is most short) stop in
      rw (here, one) (others ∙ ap (λ (all : List A). Ok (all, rest)) again)

  -- a part of which at least the cut is passed
  one_reaches : (fuel : ℕ) (before : List A) (cut rest : List Word) → R.cuts cut → length cut ≤ most → starts f (cut ++ rest) ≡ true → left (repeat (suc fuel) f p before (cut ++ rest)) ≤ length rest
  unfolding repeat
  one_reaches fuel before cut rest is short begins =
      rw begins (bind-left (p (cut ++ rest)) _ (length rest) (a.reach cut rest is short) (λ one. repeat-left fuel (before ++ one.0 ∷ []) one.1))

  last_reaches : (fuel : ℕ) (before : List A) (cut rest : List Word) → R.cuts cut → length cut ≤ most → length (cut ++ rest) ≤ fuel → left (repeat fuel f p before (cut ++ rest)) ≤ length rest
  last_reaches zero before cut rest is short few = let size = repeat-left zero before (cut ++ rest) in let all = length-append cut rest in omega arith
  last_reaches (suc fuel) before cut rest is short few = by_cut a (λ _. left (repeat (suc fuel) f p before (cut ++ rest)) ≤ length rest) cut is
      (λ none. let size = repeat-left (suc fuel) before (cut ++ rest) in let all = ap (λ c. length (c ++ rest)) none in omega arith)
      (λ begins. one_reaches fuel before cut rest is short (starts-append f cut rest begins))

  repeat-reach : apart f s ≡ true → (fuel : ℕ) (before xs : List A) (front back rest : List Word) → StateEach R.states xs front → R.cuts back → length front + length back ≤ most
      → length (front ++ (back ++ rest)) ≤ fuel → left (repeat fuel f p before (front ++ (back ++ rest))) ≤ length rest
  unfolding repeat
  repeat-reach are_apart fuel before [] front back rest is cut short few =
      let all : front ++ (back ++ rest) ≡ back ++ rest = ap (λ w. w ++ (back ++ rest)) is in
      rw all (last_reaches fuel before back rest cut (omega arith) (let size = ap length all in omega arith))
  repeat-reach are_apart zero before (x ∷ xs) front back rest is cut short few =
      absurd (let some = filled f is.front (begins_so a.asked x is.front is.first) in
      let size = ap length is.parts ∙ length-append is.front is.back in let whole = length-append front (back ++ rest) in omega arith)
  repeat-reach are_apart (suc fuel) before (x ∷ xs) front back rest is cut short few = by (repeat-reach are_apart fuel (before ++ x ∷ []) xs is.back back rest is.second cut) (is.back ++ back) refl
    where
      some : 0 < length is.front
      some = filled f is.front (begins_so a.asked x is.front is.first)

      size : length front ≡ length is.front + length is.back
      size = ap length is.parts ∙ length-append is.front is.back

      parts : front ++ (back ++ rest) ≡ is.front ++ (is.back ++ (back ++ rest))
      parts = split is (back ++ rest)

      here : starts f (front ++ (back ++ rest)) ≡ true
      here = ap (starts f) parts ∙ starts-append f is.front (is.back ++ (back ++ rest)) (begins_so a.asked x is.front is.first)

      -- nothing after the part
      alone : is.back ++ back ≡ [] → left (repeat (suc fuel) f p before (front ++ (back ++ rest))) ≤ length rest
      alone none =
          let no_more : is.back ++ (back ++ rest) ≡ rest = sym (append_assoc is.back back rest) ∙ ap (λ w. w ++ rest) none in
          let whole : front ++ (back ++ rest) ≡ is.front ++ rest = parts ∙ ap (λ w. is.front ++ w) no_more in
          let begins : starts f (is.front ++ rest) ≡ true = ap (starts f) (sym whole) ∙ here in
          rw whole (one_reaches fuel before is.front rest (a.asked.stated_cut x is.front is.first) (omega (arith, size)) begins)

      -- another part, or the beginning of one
      more : (length is.back + length back ≤ most → length (is.back ++ (back ++ rest)) ≤ fuel → left (repeat fuel f p (before ++ x ∷ []) (is.back ++ (back ++ rest))) ≤ length rest)
          → starts f (is.back ++ back) ≡ true → left (repeat (suc fuel) f p before (front ++ (back ++ rest))) ≤ length rest
      more others begins =
          let joined = append_assoc is.back back rest in
          let stops : starts s (is.back ++ (back ++ rest)) ≡ false = ap (starts s) (sym joined) ∙ starts-front f s (is.back ++ back) rest begins ∙ starts-apart f s (is.back ++ back) are_apart begins in
          let one = ap p parts ∙ a.complete x is.front (is.back ++ (back ++ rest)) is.first (omega (arith, size)) stops in
          let fits : length (is.back ++ (back ++ rest)) ≤ fuel = (let whole = ap length parts ∙ length-append is.front (is.back ++ (back ++ rest)) in omega (arith, some)) in
          rw (here, one) (others (omega (arith, size)) fits)

      by : (length is.back + length back ≤ most → length (is.back ++ (back ++ rest)) ≤ fuel → left (repeat fuel f p (before ++ x ∷ []) (is.back ++ (back ++ rest))) ≤ length rest)
          → (after : List Word) → is.back ++ back ≡ after → left (repeat (suc fuel) f p before (front ++ (back ++ rest))) ≤ length rest
      by others [] none = alone none
      by others (w ∷ ws) some_more = elim (each_cut_begins a.asked xs (is.back ++ back) (record { front = is.back; back = back; parts = refl; first = is.second; second = cut })) [
        | inl begins ↦ more others begins
        | inr none ↦ absurd (let nothing = none.1 in cc)
      ]

  pub each-agrees : apart f s ≡ true → Agrees (Each P) (Each R) most true f (f ++ s) (each f p)
  unfolding each
  each-agrees are_apart = record {
    shown = each-shape a.shown;
    asked = each-shape a.asked;
    sound = λ words. by words (repeat (length words) f p [] words) (repeat-sound (length words) [] words);
    complete = λ x front rest is short stop.
        let few = each_length a.asked x front is in
        repeat-complete are_apart (length (front ++ rest)) [] x front rest (omega (arith, length-append front rest)) is short stop;
    reach = λ cut rest is short. reach cut rest is.0 is.1 short;
  }
    where
      by : (words : List Word) (r : Read (List A)) → Repeats P [] words r → Sound (Each P) words r
      by words (Ok read) repeats = subst (λ all. Taken (StateEach P.states all) words read.1) (sym repeats.values) repeats.taken
      by words (Err stuck) repeats = repeats

      reach : (cut rest : List Word) (xs : List A) (is : Joined (StateEach R.states xs) R.cuts cut) → length cut ≤ most → left (repeat (length (cut ++ rest)) f p [] (cut ++ rest)) ≤ length rest
      reach cut rest xs is short =
          let size = ap length is.parts ∙ length-append is.front is.back in
          let whole = split is rest in
          rw whole (repeat-reach are_apart (length (is.front ++ (is.back ++ rest))) [] xs is.front is.back rest is.first is.second (omega arith) (omega arith))

-- ---- lists

pub separated-agrees : {A : Type 0} {P R : Rule A} {room : ℕ} {f s : List TokenKind} {p : Reader A} (kind : TokenKind) → ends (kind ∷ []) ≡ false → Agrees P R room false f s p
    → apart (kind ∷ []) s ≡ true → Agrees (Separated (kind ∷ []) P) (Separated (kind ∷ []) R) room false (f ++ []) (((kind ∷ []) ++ s) ++ s) (separated (kind ∷ []) p)
unfolding separated
separated-agrees kind none a are_apart = made-agrees (λ values. values.0 ∷ values.1) (seq-agrees a (each-agrees (before-agrees kind [] none a) are_apart) are_apart)

pub one_or_two-agrees : {A : Type 0} {P R : Rule A} {room : ℕ} {f s : List TokenKind} {p : Reader A} (kind : TokenKind) → ends (kind ∷ []) ≡ false → Agrees P R room false f s p
    → apart (kind ∷ []) s ≡ true → Agrees (OneOrTwo (kind ∷ []) P) (OneOrTwo (kind ∷ []) R) room false (f ++ []) ((s ++ kind ∷ []) ++ s) (one_or_two (kind ∷ []) p)
unfolding one_or_two maybe_second
one_or_two-agrees kind none a are_apart = made-agrees (λ values. values.0 ∷ values.1) (seq-agrees a (either-agrees (made-agrees (λ value. value ∷ []) (before-agrees kind [] none a)) (none-agrees []) refl) are_apart)

pub maybe-agrees : {A : Type 0} {P R : Rule A} {room : ℕ} {f s : List TokenKind} {p : Reader A} → Agrees P R room false f s p → Agrees (Maybe P) (Maybe R) room true (f ++ []) (s ++ f) (maybe f p)
maybe-agrees a = either-agrees (made-agrees (λ value. Some value) a) (none-agrees None) refl

pub maybe_some-agrees : {A : Type 0} {P R : Rule (List A)} {room : ℕ} {f s : List TokenKind} {p : Reader (List A)} → Agrees P R room false f s p
    → Agrees (MaybeSome P) (MaybeSome R) room true (f ++ []) (s ++ f) (maybe_some f p)
maybe_some-agrees a = either-agrees a (none-agrees []) refl

pub whether-agrees : {room : ℕ} (kind : TokenKind) → ends (kind ∷ []) ≡ false → Agrees (Whether (kind ∷ [])) (Whether (kind ∷ [])) room true (kind ∷ []) (kind ∷ []) (whether (kind ∷ []))
whether-agrees kind none = either-agrees (fixed-agrees kind [] true none) (none-agrees false) refl
