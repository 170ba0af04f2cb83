-- Cuts of rules and the words that rules state: each beginning of what a rule states is a cut, and each cut is completed to what
-- the same rule states where more nesting is allowed. Each way of making rules keeps both.
use Rattle.std.proofs.Common.{◌≡◌, ℕ, true, false, List, [], ◌∷◌, ◌++◌, append_assoc, append-nil, Some, None, refl, sym, subst, ap, ◌∙◌, inl, inr}
use Rattle.std.proofs.lemmas.List.{map-append}
use Rattle.sim_lexer.specs.Words.{Word}
use Rattle.sim_lexer.specs.declared.token.TokenKind.{TokenKind}
use Rattle.sim_grammar.specs.Rule.{Rule, Are, Begin, line_of, Spelt, Joined, ◌⊗◌, ◌▸◌, ◌◂◌, StateEach, Each, ◌∣◌, Fixed, Made, At, Node, Never, Separated, OneOrTwo, Maybe, MaybeSome, Whether}
use Rattle.sim_grammar.proofs.Agree.{begin_none}
use Rattle.sim_grammar.proofs.CutWords.{joined-begun, are-begun, sample_text, sample_word, sample_words, have_samples, kinds-samples, line-samples, samples-append, begin-completed, missing-samples}

-- with samples of words after them, words state a value
pub record Completed {A : Type 0} (Is : Rule A) (words : List Word) : Type 0 where
  pub value : A
  pub missing : List TokenKind
  pub sampled : have_samples missing ≡ true
  pub is : Is.states value (words ++ sample_words missing)

-- Of a rule where so much nesting is allowed, and the same where more is: no words are a cut, each beginning of what the first
-- states is a cut of it; what it states the second does too, and each of its cuts is completed to what the second states.
pub record Cuts {A : Type 0} (Low High : Rule A) : Type 0 where
  pub empty_cut : Low.cuts []
  pub begun : (x : A) (front rest : List Word) → Low.states x (front ++ rest) → Low.cuts front
  pub kept : (x : A) (words : List Word) → Low.states x words → High.states x words
  pub completed : (cut : List Word) → Low.cuts cut → Completed High cut

-- some words that the second states
pub some : {A : Type 0} {Low High : Rule A} → Cuts Low High → Completed High []
some a = a.completed [] a.empty_cut

-- ---- completed words

-- two parts, both of which are completed
in_two : {First Second : List Word → Type 0} (one two : List TokenKind) (words : List Word) → First (words ++ sample_words one) → Second (sample_words two) → Joined First Second (words ++ sample_words (one ++ two))
in_two one two words first second = record {
  front = words ++ sample_words one;
  back = sample_words two;
  parts = ap (λ t. words ++ t) (map-append sample_word one two) ∙ sym (append_assoc words (sample_words one) (sample_words two));
  first = first;
  second = second;
}

-- two parts, of which the second is completed
in_second : {First Second : List Word → Type 0} {words : List Word} (front back : List Word) (kinds : List TokenKind) → words ≡ front ++ back → First front → Second (back ++ sample_words kinds)
    → Joined First Second (words ++ sample_words kinds)
in_second front back kinds parts first second = record {
  front = front;
  back = back ++ sample_words kinds;
  parts = ap (λ t. t ++ sample_words kinds) parts ∙ append_assoc front back (sample_words kinds);
  first = first;
  second = second;
}

-- of two rules in a row
pub seq-completed : {A B : Type 0} {P : Rule A} {Q : Rule B} {cut : List Word} → Completed P cut → Completed Q [] → Completed (P ⊗ Q) cut
seq-completed {P = P} {Q = Q} {cut = cut} one two = record {
  value = (one.value, two.value);
  missing = one.missing ++ two.missing;
  sampled = samples-append one.missing two.missing one.sampled two.sampled;
  is = in_two {First = P.states one.value} {Second = Q.states two.value} one.missing two.missing cut one.is two.is;
}

-- of fixed words and a rule after them
pub before-completed : {A : Type 0} {P : Rule A} {cut : List Word} (kinds : List TokenKind) → have_samples kinds ≡ true → Begin kinds cut → Completed P [] → Completed (kinds ▸ P) cut
before-completed {P = P} {cut = cut} kinds all begin two = record {
  value = two.value;
  missing = begin.missing ++ two.missing;
  sampled = samples-append begin.missing two.missing (missing-samples kinds cut begin all) two.sampled;
  is = in_two {First = Are kinds} {Second = P.states two.value} begin.missing two.missing cut (begin-completed kinds cut begin) two.is;
}

-- of a rule and fixed words after it
pub after-completed : {A : Type 0} {P : Rule A} {cut : List Word} (kinds : List TokenKind) → have_samples kinds ≡ true → Completed P cut → Completed (P ◂ kinds) cut
after-completed {P = P} {cut = cut} kinds all one = record {
  value = one.value;
  missing = one.missing ++ kinds;
  sampled = samples-append one.missing kinds one.sampled all;
  is = in_two {First = P.states one.value} {Second = Are kinds} one.missing kinds cut one.is (kinds-samples kinds);
}

-- of a repetition, of which there is nothing
pub none-completed : {A : Type 0} {P : Rule A} → Completed (Each P) []
none-completed = record { value = []; missing = []; sampled = refl; is = refl }

pub left-completed : {A : Type 0} {P Q : Rule A} {cut : List Word} → Completed P cut → Completed (P ∣ Q) cut
left-completed one = record { value = one.value; missing = one.missing; sampled = one.sampled; is = inl one.is }

pub right-completed : {A : Type 0} {P Q : Rule A} {cut : List Word} → Completed Q cut → Completed (P ∣ Q) cut
right-completed one = record { value = one.value; missing = one.missing; sampled = one.sampled; is = inr one.is }

pub fixed-completed : {A : Type 0} {cut : List Word} (kinds : List TokenKind) (stated : A) → have_samples kinds ≡ true → Begin kinds cut → Completed (Fixed kinds stated) cut
fixed-completed {cut = cut} kinds stated all begin = record {
  value = stated;
  missing = begin.missing;
  sampled = missing-samples kinds cut begin all;
  is = (begin-completed kinds cut begin, refl);
}

pub made-completed : {A B : Type 0} {P : Rule A} {cut : List Word} (make : A → B) → Completed P cut → Completed (Made make P) cut
made-completed make one = record { value = make one.value; missing = one.missing; sampled = one.sampled; is = (one.value, refl, one.is) }

pub at-completed : {A : Type 0} (P : ℕ → Rule A) {cut : List Word} → Completed (P (line_of cut)) cut → Completed (At P) cut
at-completed P {cut = cut} one = record {
  value = one.value;
  missing = one.missing;
  sampled = one.sampled;
  is = subst (λ line. (P line).states one.value (cut ++ sample_words one.missing)) (sym (line-samples cut one.missing)) one.is;
}

pub node-completed : {A B : Type 0} {P : Rule A} {cut : List Word} (make : ℕ → A → B) → Completed P cut → Completed (Node make P) cut
node-completed {P = P} {cut = cut} make one = at-completed (λ line. Made (make line) P) (made-completed (make (line_of cut)) one)

pub spelt-completed : (kind : TokenKind) → have_samples (kind ∷ []) ≡ true → (cut : List Word) → Begin (kind ∷ []) cut → Completed (Spelt kind) cut
spelt-completed kind all [] is = record { value = sample_text kind; missing = kind ∷ []; sampled = all; is = (0, refl) }
spelt-completed kind all (w ∷ []) is =
    let parts = is.parts in
    let of_kind : w.kind ≡ kind = cc in
    record { value = w.text; missing = []; sampled = refl; is = (w.line, ap (λ (k : TokenKind). record { kind = k; text = w.text; line = w.line } ∷ []) of_kind) }
spelt-completed kind all (w ∷ v ∷ cut) is = absurd (let parts = is.parts in cc)

-- ---- cuts

pub spelt-cuts : (kind : TokenKind) → have_samples (kind ∷ []) ≡ true → Cuts (Spelt kind) (Spelt kind)
spelt-cuts kind all = record {
  empty_cut = begin_none (kind ∷ []);
  begun = λ x front rest is. are-begun (kind ∷ []) front rest (let alone = is.1 in rw alone refl);
  kept = λ x words is. is;
  completed = spelt-completed kind all;
}

pub fixed-cuts : {A : Type 0} (kinds : List TokenKind) (stated : A) → have_samples kinds ≡ true → Cuts (Fixed kinds stated) (Fixed kinds stated)
fixed-cuts kinds stated all = record {
  empty_cut = begin_none kinds;
  begun = λ x front rest is. are-begun kinds front rest is.0;
  kept = λ x words is. is;
  completed = λ cut is. fixed-completed kinds stated all is;
}

pub seq-cuts : {A B : Type 0} {P R : Rule A} {Q S : Rule B} → Cuts P R → Cuts Q S → Cuts (P ⊗ Q) (R ⊗ S)
seq-cuts {A} {B} {P} {R} {Q} {S} a b = record {
  empty_cut = inl a.empty_cut;
  begun = begun;
  kept = λ x words is. record { front = is.front; back = is.back; parts = is.parts; first = a.kept x.0 is.front is.first; second = b.kept x.1 is.back is.second };
  completed = completed;
}
  where
    begun : (x : A × B) (front rest : List Word) → (P ⊗ Q).states x (front ++ rest) → (P ⊗ Q).cuts front
    begun x front rest is = elim (joined-begun (a.begun x.0) (b.begun x.1) front rest is) [
      | inl cut ↦ inl cut
      | inr cut ↦ inr (x.0, cut)
    ]

    completed : (cut : List Word) → (P ⊗ Q).cuts cut → Completed (R ⊗ S) cut
    completed cut (inl is) = seq-completed (a.completed cut is) (some b)
    completed cut (inr (x, is)) =
        let two = b.completed is.back is.second in
        record {
          value = (x, two.value);
          missing = two.missing;
          sampled = two.sampled;
          is = in_second {First = R.states x} {Second = S.states two.value} is.front is.back two.missing is.parts (a.kept x is.front is.first) two.is;
        }

pub before-cuts : {A : Type 0} {P R : Rule A} (kinds : List TokenKind) → have_samples kinds ≡ true → Cuts P R → Cuts (kinds ▸ P) (kinds ▸ R)
before-cuts {A} {P} {R} kinds all a = record {
  empty_cut = inl (begin_none kinds);
  begun = λ x front rest is. joined-begun (are-begun kinds) (a.begun x) front rest is;
  kept = λ x words is. record { front = is.front; back = is.back; parts = is.parts; first = is.first; second = a.kept x is.back is.second };
  completed = completed;
}
  where
    completed : (cut : List Word) → (kinds ▸ P).cuts cut → Completed (kinds ▸ R) cut
    completed cut (inl is) = before-completed kinds all is (some a)
    completed cut (inr is) =
        let two = a.completed is.back is.second in
        record {
          value = two.value;
          missing = two.missing;
          sampled = two.sampled;
          is = in_second {First = Are kinds} {Second = R.states two.value} is.front is.back two.missing is.parts is.first two.is;
        }

pub after-cuts : {A : Type 0} {P R : Rule A} (kinds : List TokenKind) → have_samples kinds ≡ true → Cuts P R → Cuts (P ◂ kinds) (R ◂ kinds)
after-cuts {A} {P} {R} kinds all a = record {
  empty_cut = inl a.empty_cut;
  begun = begun;
  kept = λ x words is. record { front = is.front; back = is.back; parts = is.parts; first = a.kept x is.front is.first; second = is.second };
  completed = completed;
}
  where
    begun : (x : A) (front rest : List Word) → (P ◂ kinds).states x (front ++ rest) → (P ◂ kinds).cuts front
    begun x front rest is = elim (joined-begun (a.begun x) (are-begun kinds) front rest is) [
      | inl cut ↦ inl cut
      | inr cut ↦ inr (x, cut)
    ]

    completed : (cut : List Word) → (P ◂ kinds).cuts cut → Completed (R ◂ kinds) cut
    completed cut (inl is) = after-completed kinds all (a.completed cut is)
    completed cut (inr (x, is)) = record {
      value = x;
      missing = is.second.missing;
      sampled = missing-samples kinds is.back is.second all;
      is = in_second {First = R.states x} {Second = Are kinds} is.front is.back is.second.missing is.parts (a.kept x is.front is.first) (begin-completed kinds is.back is.second);
    }

pub either-cuts : {A : Type 0} {P R Q S : Rule A} → Cuts P R → Cuts Q S → Cuts (P ∣ Q) (R ∣ S)
either-cuts {A} {P} {R} {Q} {S} a b = record { empty_cut = inl a.empty_cut; begun = begun; kept = kept; completed = completed }
  where
    begun : (x : A) (front rest : List Word) → (P ∣ Q).states x (front ++ rest) → (P ∣ Q).cuts front
    begun x front rest (inl is) = inl (a.begun x front rest is)
    begun x front rest (inr is) = inr (b.begun x front rest is)

    kept : (x : A) (words : List Word) → (P ∣ Q).states x words → (R ∣ S).states x words
    kept x words (inl is) = inl (a.kept x words is)
    kept x words (inr is) = inr (b.kept x words is)

    completed : (cut : List Word) → (P ∣ Q).cuts cut → Completed (R ∣ S) cut
    completed cut (inl is) = left-completed (a.completed cut is)
    completed cut (inr is) = right-completed (b.completed cut is)

pub made-cuts : {A B : Type 0} {P R : Rule A} (make : A → B) → Cuts P R → Cuts (Made make P) (Made make R)
made-cuts make a = record {
  empty_cut = a.empty_cut;
  begun = λ x front rest is. a.begun is.0 front rest is.2;
  kept = λ x words is. (is.0, is.1, a.kept is.0 words is.2);
  completed = λ cut is. made-completed make (a.completed cut is);
}

pub at-cuts : {A : Type 0} {P R : ℕ → Rule A} → ((line : ℕ) → Cuts (P line) (R line)) → Cuts (At P) (At R)
at-cuts {A} {P} {R} a = record {
  empty_cut = (a 0).empty_cut;
  begun = begun;
  kept = λ x words is. (a (line_of words)).kept x words is;
  completed = λ cut is. at-completed R ((a (line_of cut)).completed cut is);
}
  where
    begun : (x : A) (front rest : List Word) → (At P).states x (front ++ rest) → (At P).cuts front
    begun x [] rest is = (a 0).empty_cut
    begun x (w ∷ front) rest is = (a w.line).begun x (w ∷ front) rest is

pub node-cuts : {A B : Type 0} {P R : Rule A} (make : ℕ → A → B) → Cuts P R → Cuts (Node make P) (Node make R)
node-cuts make a = at-cuts (λ line. made-cuts (make line) a)

-- what no words state, where some words state a value once more nesting is allowed
pub never-cuts : {A : Type 0} {High : Rule A} → Completed High [] → Cuts Never High
never-cuts {High = High} one = record {
  empty_cut = refl;
  begun = λ x front rest is. absurd is;
  kept = λ x words is. absurd is;
  completed = λ cut is. subst (Completed High) (sym is) one;
}

-- ---- repetitions

module _ {A : Type 0} {P R : Rule A} (a : Cuts P R) where
  each_begun : (xs : List A) (front rest : List Word) → StateEach P.states xs (front ++ rest) → (Each P).cuts front
  each_begun [] [] rest is = ([], record { front = []; back = []; parts = refl; first = refl; second = a.empty_cut })
  each_begun [] (w ∷ front) rest is = absurd (cc)
  each_begun (x ∷ xs) front rest is = elim (joined-begun {CutSecond = (Each P).cuts} (a.begun x) (each_begun xs) front rest is) [
    | inl cut ↦ ([], record { front = []; back = front; parts = refl; first = refl; second = cut })
    | inr joined ↦
        let more = joined.second.1 in (
          x ∷ joined.second.0,
          record {
            front = joined.front ++ more.front;
            back = more.back;
            parts = joined.parts ∙ ap (λ t. joined.front ++ t) more.parts ∙ sym (append_assoc joined.front more.front more.back);
            first = record { front = joined.front; back = more.front; parts = refl; first = joined.first; second = more.first };
            second = more.second;
          },
        )
  ]

  each_kept : (xs : List A) (words : List Word) → StateEach P.states xs words → StateEach R.states xs words
  each_kept [] words is = is
  each_kept (x ∷ xs) words is = record { front = is.front; back = is.back; parts = is.parts; first = a.kept x is.front is.first; second = each_kept xs is.back is.second }

  -- another part after those
  one_more : (xs : List A) (x : A) (front back : List Word) → StateEach R.states xs front → R.states x back → StateEach R.states (xs ++ x ∷ []) (front ++ back)
  one_more [] x front back none is = record { front = back; back = []; parts = ap (λ w. w ++ back) none ∙ sym (append-nil back); first = is; second = refl }
  one_more (y ∷ xs) x front back others is = record {
    front = others.front;
    back = others.back ++ back;
    parts = ap (λ w. w ++ back) others.parts ∙ append_assoc others.front others.back back;
    first = others.first;
    second = one_more xs x others.back back others.second is;
  }

  each_completed : (cut : List Word) → (Each P).cuts cut → Completed (Each R) cut
  each_completed cut (xs, is) =
      let last = a.completed is.back is.second in
      let whole = ap (λ w. w ++ sample_words last.missing) is.parts ∙ append_assoc is.front is.back (sample_words last.missing) in
      record {
        value = xs ++ last.value ∷ [];
        missing = last.missing;
        sampled = last.sampled;
        is = subst (StateEach R.states (xs ++ last.value ∷ [])) (sym whole) (one_more xs last.value is.front (is.back ++ sample_words last.missing) (each_kept xs is.front is.first) last.is);
      }

  pub each-cuts : Cuts (Each P) (Each R)
  each-cuts = record {
    empty_cut = ([], record { front = []; back = []; parts = refl; first = refl; second = a.empty_cut });
    begun = each_begun;
    kept = each_kept;
    completed = each_completed;
  }

-- ---- lists

pub separated-cuts : {A : Type 0} {P R : Rule A} (kinds : List TokenKind) → have_samples kinds ≡ true → Cuts P R → Cuts (Separated kinds P) (Separated kinds R)
separated-cuts kinds all a = made-cuts (λ values. values.0 ∷ values.1) (seq-cuts a (each-cuts (before-cuts kinds all a)))

pub one_or_two-cuts : {A : Type 0} {P R : Rule A} (kinds : List TokenKind) → have_samples kinds ≡ true → Cuts P R → Cuts (OneOrTwo kinds P) (OneOrTwo kinds R)
one_or_two-cuts kinds all a = made-cuts (λ values. values.0 ∷ values.1) (seq-cuts a (either-cuts (made-cuts (λ value. value ∷ []) (before-cuts kinds all a)) (fixed-cuts [] [] refl)))

pub maybe-cuts : {A : Type 0} {P R : Rule A} → Cuts P R → Cuts (Maybe P) (Maybe R)
maybe-cuts a = either-cuts (made-cuts (λ value. Some value) a) (fixed-cuts [] None refl)

pub maybe_some-cuts : {A : Type 0} {P R : Rule (List A)} → Cuts P R → Cuts (MaybeSome P) (MaybeSome R)
maybe_some-cuts a = either-cuts a (fixed-cuts [] [] refl)

pub whether-cuts : (kinds : List TokenKind) → have_samples kinds ≡ true → Cuts (Whether kinds) (Whether kinds)
whether-cuts kinds all = either-cuts (fixed-cuts kinds true all) (fixed-cuts [] false refl)
