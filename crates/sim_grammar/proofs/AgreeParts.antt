-- Ways of making rules of others keep that rules and readings agree.
use Rattle.std.proofs.Common.{◌≡◌, ℕ, zero, suc, ◌≤◌, Bool, true, false, cond, ◌&&◌, List, [], ◌∷◌, ◌++◌, append-nil, length, length-append, refl, sym, subst, ap, ◌∙◌, arith, inl, inr}
use Rattle.std.specs.Prelude.{Result, Ok, Err}
use Rattle.vocabulary.specs.Answers.{◌>>=◌}
use Rattle.sim_lexer.specs.Words.{Word}
use Rattle.sim_lexer.specs.declared.token.TokenKind.{TokenKind}
use Rattle.sim_grammar.specs.Rule.{Rule, Are, line_of, Joined, ◌⊗◌, ◌▸◌, ◌◂◌, ◌∣◌, Made, At, Node, Never}
use Rattle.sim_grammar.specs.Read.{Read, Reader, starts, skip, ◌⊛◌, ◌▹◌, ◌◃◌, choose, made, at, node}
use Rattle.sim_grammar.proofs.Starts.{apart, within, Opens, or_if, opens_first, starts-front, starts-apart, starts-append, starts-left, starts-right, starts-neither, starts-within, starts-without, next_stops, opens_both, stops_first, has_end, ends, has_end-append}
use Rattle.sim_grammar.proofs.Agree.{Taken, join, retold, split, Shape, begins_so, left, Sound, sound-shorter, Agrees, reach_none, by_cut, Skipped, skip-sound, skip-complete, skip-reach, skipped-shorter, are_begin, are-begin, begin_none, begin_opens, begin-endless, front_few, back_few, filled, bind-left, skip_bind-left, bind_skip-left, made-left}

-- ---- words of two rules, one after the other

-- where the first may be empty, a front and a back that open so
opens_cut : (e : Bool) (f g : List TokenKind) (front back : List Word) → Opens e f front → Opens true g back → Opens true (or_if e f g) (front ++ back)
opens_cut e f g front back first second = elim (opens_both e true f g front back first second) [
  | inl h ↦ inl h
  | inr none ↦ inr (refl, none.1)
]

opens_longer : (e : Bool) (f g : List TokenKind) (cut : List Word) → Opens true f cut → Opens true (or_if e f g) cut
opens_longer e f g cut (inl h) = inl (opens_first e f g cut h)
opens_longer e f g cut (inr none) = inr none

seq-shape : {A B : Type 0} {P : Rule A} {Q : Rule B} {e d : Bool} {f g : List TokenKind} → Shape P e f → Shape Q d g → Shape (P ⊗ Q) (e && d) (or_if e f g)
seq-shape {A} {B} {P} {Q} {e} {d} {f} {g} a b = record {
  begins = λ x front is. subst (Opens (e && d) (or_if e f g)) (sym is.parts) (opens_both e d f g is.front is.back (a.begins x.0 is.front is.first) (b.begins x.1 is.back is.second));
  cut_begins = cut_begins;
  empty_cut = inl a.empty_cut;
  stated_cut = λ x front is. inr (x.0, record { front = is.front; back = is.back; parts = is.parts; first = is.first; second = b.stated_cut x.1 is.back is.second });
  endless = endless;
}
  where
    cut_begins : (cut : List Word) → (P ⊗ Q).cuts cut → Opens true (or_if e f g) cut
    cut_begins cut (inl is) = opens_longer e f g cut (a.cut_begins cut is)
    cut_begins cut (inr (x, is)) = subst (Opens true (or_if e f g)) (sym is.parts) (opens_cut e f g is.front is.back (a.begins x is.front is.first) (b.cut_begins is.back is.second))

    endless : (cut : List Word) → (P ⊗ Q).cuts cut → has_end cut ≡ false
    endless cut (inl is) = a.endless cut is
    endless cut (inr (x, is)) = ap has_end is.parts ∙ has_end-append is.front is.back (a.endless is.front (a.stated_cut x is.front is.first)) (b.endless is.back is.second)

pub seq-agrees : {A B : Type 0} {P R : Rule A} {Q S : Rule B} {room : ℕ} {e d : Bool} {f s g t : List TokenKind} {p : Reader A} {q : Reader B}
    → Agrees P R room e f s p → Agrees Q S room d g t q → apart g s ≡ true → Agrees (P ⊗ Q) (R ⊗ S) room (e && d) (or_if e f g) (or_if d t s) (p ⊛ q)
seq-agrees {A} {B} {P} {R} {Q} {S} {room} {e} {d} {f} {s} {g} {t} {p} {q} a b are_apart = record {
  shown = seq-shape a.shown b.shown;
  asked = seq-shape a.asked b.asked;
  sound = λ words. first words (p words) (a.sound words);
  complete = λ x front rest is few stop.
      let next = next_stops d g s t is.back rest (b.asked.begins x.1 is.back is.second) are_apart stop in
      let one = ap p (split is rest) ∙ a.complete x.0 is.front (is.back ++ rest) is.first (front_few is room few) next in
      let two = b.complete x.1 is.back rest is.second (back_few is room few) (stops_first d t s rest stop) in
      rw (one, two) refl;
  reach = reach;
}
  where
    second : (words : List Word) (one : A × List Word) → Taken (P.states one.0) words one.1 → (r : Read B) → Sound Q one.1 r
        → Sound (P ⊗ Q) words (r >>= λ b. let both : (A × B) × List Word = ((one.0, b.0), b.1) in Ok both)
    second words one taken (Ok two) sound = join taken sound
    second words one taken (Err stuck) sound = retold (λ front parts is. inr (one.0, is)) (join taken sound)

    first : (words : List Word) (r : Read A) → Sound P words r → Sound (P ⊗ Q) words (r >>= λ a. q a.1 >>= λ b. let both : (A × B) × List Word = ((a.0, b.0), b.1) in Ok both)
    first words (Ok one) sound = second words one sound (q one.1) (b.sound one.1)
    first words (Err stuck) sound = retold (λ front parts is. inl is) sound

    after : (one : A × List Word) → left (q one.1 >>= λ b. let both : (A × B) × List Word = ((one.0, b.0), b.1) in Ok both) ≤ length one.1
    after one = rw (made-left (λ b. let both : A × B = (one.0, b) in both) (q one.1)) (sound-shorter Q one.1 (q one.1) (b.sound one.1))

    -- a cut of the first, or words of it and nothing of the second
    within_first : (cut rest : List Word) → R.cuts cut → length cut ≤ room → left ((p ⊛ q) (cut ++ rest)) ≤ length rest
    within_first cut rest is few = bind-left (p (cut ++ rest)) _ (length rest) (a.reach cut rest is few) after

    within_second : (x : A) (cut rest : List Word) (is : Joined (R.states x) S.cuts cut) → length cut ≤ room → starts g is.back ≡ true → left ((p ⊛ q) (cut ++ rest)) ≤ length rest
    within_second x cut rest is few begins =
        let next = starts-front g s is.back rest begins ∙ starts-apart g s is.back are_apart begins in
        let one = ap p (split is rest) ∙ a.complete x is.front (is.back ++ rest) is.first (front_few is room few) next in
        rw (one, made-left (λ b. let both : A × B = (x, b) in both) (q (is.back ++ rest))) (b.reach is.back rest is.second (back_few is room few))

    reach : (cut rest : List Word) → (R ⊗ S).cuts cut → length cut ≤ room → left ((p ⊛ q) (cut ++ rest)) ≤ length rest
    reach cut rest (inl is) few = within_first cut rest is few
    reach cut rest (inr (x, is)) few = by_cut b (λ _. left ((p ⊛ q) (cut ++ rest)) ≤ length rest) is.back is.second
        (λ none. within_first cut rest (let parts = is.parts in let whole : cut ≡ is.front = parts ∙ ap (λ w. is.front ++ w) none ∙ append-nil is.front in rw whole (a.asked.stated_cut x is.front is.first)) few)
        (λ begins. within_second x cut rest is few begins)

-- ---- fixed words before a part

before-shape : {A : Type 0} {P : Rule A} {e : Bool} {f : List TokenKind} (kind : TokenKind) (kinds : List TokenKind) → ends (kind ∷ kinds) ≡ false → Shape P e f → Shape ((kind ∷ kinds) ▸ P) false (kind ∷ [])
before-shape {A} {P} {e} {f} kind kinds none a = record {
  begins = λ x front is. inl (ap (starts (kind ∷ [])) is.parts ∙ starts-append (kind ∷ []) is.front is.back (are_begin kind kinds is.front is.first));
  cut_begins = cut_begins;
  empty_cut = inl (begin_none (kind ∷ kinds));
  stated_cut = λ x front is. inr (record { front = is.front; back = is.back; parts = is.parts; first = is.first; second = a.stated_cut x is.back is.second });
  endless = endless;
}
  where
    cut_begins : (cut : List Word) → ((kind ∷ kinds) ▸ P).cuts cut → Opens true (kind ∷ []) cut
    cut_begins cut (inl is) = begin_opens kind kinds cut is
    cut_begins cut (inr is) = inl (ap (starts (kind ∷ [])) is.parts ∙ starts-append (kind ∷ []) is.front is.back (are_begin kind kinds is.front is.first))

    endless : (cut : List Word) → ((kind ∷ kinds) ▸ P).cuts cut → has_end cut ≡ false
    endless cut (inl is) = begin-endless (kind ∷ kinds) cut none is
    endless cut (inr is) = ap has_end is.parts ∙ has_end-append is.front is.back (begin-endless (kind ∷ kinds) is.front none (are-begin (kind ∷ kinds) is.front is.first)) (a.endless is.back is.second)

-- fixed words before a part, which has one word less than the whole, or fewer
pub inside-agrees : {A : Type 0} {P R : Rule A} {room : ℕ} {e : Bool} {f s : List TokenKind} {p : Reader A} (kind : TokenKind) (kinds : List TokenKind)
    → ends (kind ∷ kinds) ≡ false → Agrees P R room e f s p → Agrees ((kind ∷ kinds) ▸ P) ((kind ∷ kinds) ▸ R) (suc room) false (kind ∷ []) s ((kind ∷ kinds) ▹ p)
inside-agrees {A} {P} {R} {room} {e} {f} {s} {p} kind kinds none a = record {
  shown = before-shape kind kinds none a.shown;
  asked = before-shape kind kinds none a.asked;
  sound = λ words. first words (skip (kind ∷ kinds) words) (skip-sound (kind ∷ kinds) words);
  complete = λ x front rest is few stop.
      let one = ap (skip (kind ∷ kinds)) (split is rest) ∙ skip-complete (kind ∷ kinds) is.front (is.back ++ rest) is.first in
      rw one (a.complete x is.back rest is.second (fewer_back is few) stop);
  reach = reach;
}
  where
    fewer_back : {Back : List Word → Type 0} {words : List Word} (is : Joined (Are (kind ∷ kinds)) Back words) → length words ≤ suc room → length is.back ≤ room
    fewer_back is few =
        let some = filled (kind ∷ []) is.front (are_begin kind kinds is.front is.first) in
        let size = ap length is.parts ∙ length-append is.front is.back in
        omega arith

    second : (words rest : List Word) → Taken (Are (kind ∷ kinds)) words rest → (r : Read A) → Sound P rest r → Sound ((kind ∷ kinds) ▸ P) words r
    second words rest taken (Ok one) sound = join taken sound
    second words rest taken (Err stuck) sound = retold (λ front parts is. inr is) (join taken sound)

    first : (words : List Word) (r : Result (List Word) (List Word)) → Skipped (kind ∷ kinds) words r → Sound ((kind ∷ kinds) ▸ P) words (r >>= p)
    first words (Ok rest) skipped = second words rest skipped (p rest) (a.sound rest)
    first words (Err stuck) skipped = retold (λ front parts is. inl is) skipped

    reach : (cut rest : List Word) → ((kind ∷ kinds) ▸ R).cuts cut → length cut ≤ suc room → left (((kind ∷ kinds) ▹ p) (cut ++ rest)) ≤ length rest
    reach cut rest (inl is) few = skip_bind-left (skip (kind ∷ kinds) (cut ++ rest)) p (length rest) (skip-reach (kind ∷ kinds) cut rest is) (λ after. sound-shorter P after (p after) (a.sound after))
    reach cut rest (inr is) few =
        let one = ap (skip (kind ∷ kinds)) (split is rest) ∙ skip-complete (kind ∷ kinds) is.front (is.back ++ rest) is.first in
        rw one (a.reach is.back rest is.second (fewer_back is few))

-- where so many words are read, fewer are
pub fewer : {A : Type 0} {P R : Rule A} {room : ℕ} {e : Bool} {f s : List TokenKind} {p : Reader A} → Agrees P R (suc room) e f s p → Agrees P R room e f s p
fewer a = record {
  shown = a.shown;
  asked = a.asked;
  sound = a.sound;
  complete = λ x front rest is few stop. a.complete x front rest is (omega arith) stop;
  reach = λ cut rest is few. a.reach cut rest is (omega arith);
}

-- fixed words before a part
pub before-agrees : {A : Type 0} {P R : Rule A} {room : ℕ} {e : Bool} {f s : List TokenKind} {p : Reader A} (kind : TokenKind) (kinds : List TokenKind)
    → ends (kind ∷ kinds) ≡ false → Agrees P R room e f s p → Agrees ((kind ∷ kinds) ▸ P) ((kind ∷ kinds) ▸ R) room false (kind ∷ []) s ((kind ∷ kinds) ▹ p)
before-agrees kind kinds none a = fewer (inside-agrees kind kinds none a)

-- ---- fixed words after a part

after-shape : {A : Type 0} {P : Rule A} {e : Bool} {f : List TokenKind} (kind : TokenKind) (kinds : List TokenKind) → ends (kind ∷ kinds) ≡ false → Shape P e f
    → Shape (P ◂ (kind ∷ kinds)) false (or_if e f (kind ∷ []))
after-shape {A} {P} {e} {f} kind kinds none a = record {
  begins = λ x front is. begins x front is;
  cut_begins = cut_begins;
  empty_cut = inl a.empty_cut;
  stated_cut = λ x front is. inr (x, record { front = is.front; back = is.back; parts = is.parts; first = is.first; second = are-begin (kind ∷ kinds) is.back is.second });
  endless = endless;
}
  where
    begins : (x : A) (front : List Word) → (P ◂ (kind ∷ kinds)).states x front → Opens false (or_if e f (kind ∷ [])) front
    begins x front is = elim (opens_cut e f (kind ∷ []) is.front is.back (a.begins x is.front is.first) (inl (are_begin kind kinds is.back is.second))) [
      | inl h ↦ inl (ap (starts (or_if e f (kind ∷ []))) is.parts ∙ h)
      | inr empty ↦ absurd (let some = filled (kind ∷ []) is.back (are_begin kind kinds is.back is.second) in let size = sym (length-append is.front is.back) ∙ ap length empty.1 in omega arith)
    ]

    cut_begins : (cut : List Word) → (P ◂ (kind ∷ kinds)).cuts cut → Opens true (or_if e f (kind ∷ [])) cut
    cut_begins cut (inl is) = opens_longer e f (kind ∷ []) cut (a.cut_begins cut is)
    cut_begins cut (inr (x, is)) = subst (Opens true (or_if e f (kind ∷ []))) (sym is.parts) (opens_cut e f (kind ∷ []) is.front is.back (a.begins x is.front is.first) (begin_opens kind kinds is.back is.second))

    endless : (cut : List Word) → (P ◂ (kind ∷ kinds)).cuts cut → has_end cut ≡ false
    endless cut (inl is) = a.endless cut is
    endless cut (inr (x, is)) = ap has_end is.parts ∙ has_end-append is.front is.back (a.endless is.front (a.stated_cut x is.front is.first)) (begin-endless (kind ∷ kinds) is.back none is.second)

module _ {A : Type 0} {P R : Rule A} {room : ℕ} {e : Bool} {f s : List TokenKind} {p : Reader A} (kind : TokenKind) (kinds : List TokenKind)
    (a : Agrees P R room e f s p) (are_apart : apart (kind ∷ []) s ≡ true) where
  whole_read : (x : A) (words front back rest : List Word) → words ≡ front ++ (back ++ rest) → R.states x front → length front ≤ room → starts (kind ∷ []) back ≡ true → p words ≡ Ok (x, back ++ rest)
  whole_read x words front back rest parts is few begins =
      let next = starts-front (kind ∷ []) s back rest begins ∙ starts-apart (kind ∷ []) s back are_apart begins in
      ap p parts ∙ a.complete x front (back ++ rest) is few next

  then_skipped : (words : List Word) (one : A × List Word) → Taken (P.states one.0) words one.1 → (r : Result (List Word) (List Word)) → Skipped (kind ∷ kinds) one.1 r
      → Sound (P ◂ (kind ∷ kinds)) words (r >>= λ rest. Ok (one.0, rest))
  then_skipped words one taken (Ok rest) skipped = join taken skipped
  then_skipped words one taken (Err stuck) skipped = retold (λ front parts is. inr (one.0, is)) (join taken skipped)

  first_read : (words : List Word) (r : Read A) → Sound P words r → Sound (P ◂ (kind ∷ kinds)) words (r >>= λ a. skip (kind ∷ kinds) a.1 >>= λ rest. Ok (a.0, rest))
  first_read words (Ok one) sound = then_skipped words one sound (skip (kind ∷ kinds) one.1) (skip-sound (kind ∷ kinds) one.1)
  first_read words (Err stuck) sound = retold (λ front parts is. inl is) sound

  pub after-sound : (words : List Word) → Sound (P ◂ (kind ∷ kinds)) words ((p ◃ (kind ∷ kinds)) words)
  after-sound words = first_read words (p words) (a.sound words)

  pub after-complete : (x : A) (front rest : List Word) → (R ◂ (kind ∷ kinds)).states x front → length front ≤ room → (p ◃ (kind ∷ kinds)) (front ++ rest) ≡ Ok (x, rest)
  after-complete x front rest is few =
      let one = whole_read x (front ++ rest) is.front is.back rest (split is rest) is.first (front_few is room few) (are_begin kind kinds is.back is.second) in
      let two = skip-complete (kind ∷ kinds) is.back rest is.second in
      rw (one, two) refl

  after_left : (one : A × List Word) → left (skip (kind ∷ kinds) one.1 >>= λ rest. Ok (one.0, rest)) ≤ length one.1
  after_left one = rw (bind_skip-left (skip (kind ∷ kinds) one.1) one.0) (skipped-shorter (kind ∷ kinds) one.1 (skip (kind ∷ kinds) one.1) (skip-sound (kind ∷ kinds) one.1))

  within_part : (cut rest : List Word) → R.cuts cut → length cut ≤ room → left ((p ◃ (kind ∷ kinds)) (cut ++ rest)) ≤ length rest
  within_part cut rest is few = bind-left (p (cut ++ rest)) _ (length rest) (a.reach cut rest is few) after_left

  pub after-reach : (cut rest : List Word) → (R ◂ (kind ∷ kinds)).cuts cut → length cut ≤ room → left ((p ◃ (kind ∷ kinds)) (cut ++ rest)) ≤ length rest
  after-reach cut rest (inl is) few = within_part cut rest is few
  after-reach cut rest (inr (x, is)) few = elim (begin_opens kind kinds is.back is.second) [
    | inl begins ↦
        let one = whole_read x (cut ++ rest) is.front is.back rest (split is rest) is.first (front_few is room few) begins in
        rw (one, bind_skip-left (skip (kind ∷ kinds) (is.back ++ rest)) x) (skip-reach (kind ∷ kinds) is.back rest is.second)
    | inr empty ↦ within_part cut rest (let parts = is.parts in let all : cut ≡ is.front = parts ∙ ap (λ w. is.front ++ w) empty.1 ∙ append-nil is.front in rw all (a.asked.stated_cut x is.front is.first)) few
  ]

  pub after-agrees : ends (kind ∷ kinds) ≡ false → Agrees (P ◂ (kind ∷ kinds)) (R ◂ (kind ∷ kinds)) room false (or_if e f (kind ∷ [])) [] (p ◃ (kind ∷ kinds))
  after-agrees none = record {
    shown = after-shape kind kinds none a.shown;
    asked = after-shape kind kinds none a.asked;
    sound = after-sound;
    complete = λ x front rest is few stop. after-complete x front rest is few;
    reach = after-reach;
  }

-- ---- alternatives

either-shape : {A : Type 0} {P Q : Rule A} {d : Bool} {f g : List TokenKind} → Shape P false f → Shape Q d g → Shape (P ∣ Q) d (f ++ g)
either-shape {A} {P} {Q} {d} {f} {g} a b = record {
  begins = begins;
  cut_begins = cut_begins;
  empty_cut = inl a.empty_cut;
  stated_cut = stated_cut;
  endless = endless;
}
  where
    second : (empty : Bool) (front : List Word) → Opens empty g front → Opens empty (f ++ g) front
    second empty front (inl h) = inl (starts-right f g front h)
    second empty front (inr none) = inr none

    begins : (x : A) (front : List Word) → (P ∣ Q).states x front → Opens d (f ++ g) front
    begins x front (inl is) = inl (starts-left f g front (begins_so a x front is))
    begins x front (inr is) = second d front (b.begins x front is)

    first : (cut : List Word) → Opens true f cut → Opens true (f ++ g) cut
    first cut (inl h) = inl (starts-left f g cut h)
    first cut (inr none) = inr none

    cut_begins : (cut : List Word) → (P ∣ Q).cuts cut → Opens true (f ++ g) cut
    cut_begins cut (inl is) = first cut (a.cut_begins cut is)
    cut_begins cut (inr is) = second true cut (b.cut_begins cut is)

    stated_cut : (x : A) (front : List Word) → (P ∣ Q).states x front → (P ∣ Q).cuts front
    stated_cut x front (inl is) = inl (a.stated_cut x front is)
    stated_cut x front (inr is) = inr (b.stated_cut x front is)

    endless : (cut : List Word) → (P ∣ Q).cuts cut → has_end cut ≡ false
    endless cut (inl is) = a.endless cut is
    endless cut (inr is) = b.endless cut is

pub either-agrees : {A : Type 0} {P R Q S : Rule A} {room : ℕ} {d : Bool} {f s g t : List TokenKind} {p q : Reader A}
    → Agrees P R room false f s p → Agrees Q S room d g t q → apart g f ≡ true → Agrees (P ∣ Q) (R ∣ S) room d (f ++ g) (s ++ or_if d t f) (choose f p q)
either-agrees {A} {P} {R} {Q} {S} {room} {d} {f} {s} {g} {t} {p} {q} a b are_apart = record {
  shown = either-shape a.shown b.shown;
  asked = either-shape a.asked b.asked;
  sound = λ words. by (starts f words) words;
  complete = complete;
  reach = reach;
}
  where
    first : (words : List Word) (r : Read A) → Sound P words r → Sound (P ∣ Q) words r
    first words (Ok one) sound = retold (λ front parts is. inl is) sound
    first words (Err stuck) sound = retold (λ front parts is. inl is) sound

    second : (words : List Word) (r : Read A) → Sound Q words r → Sound (P ∣ Q) words r
    second words (Ok one) sound = retold (λ front parts is. inr is) sound
    second words (Err stuck) sound = retold (λ front parts is. inr is) sound

    by : (test : Bool) (words : List Word) → Sound (P ∣ Q) words (cond test (p words) (q words))
    by true words = first words (p words) (a.sound words)
    by false words = second words (q words) (b.sound words)

    complete : (x : A) (front rest : List Word) → (R ∣ S).states x front → length front ≤ room → starts (s ++ or_if d t f) rest ≡ false → choose f p q (front ++ rest) ≡ Ok (x, rest)
    complete x front rest (inl is) few stop =
        let here = starts-append f front rest (begins_so a.asked x front is) in
        rw here (a.complete x front rest is few (starts-neither s (or_if d t f) rest stop).0)
    complete x front rest (inr is) few stop =
        let later = (starts-neither s (or_if d t f) rest stop).1 in
        let other = next_stops d g f t front rest (b.asked.begins x front is) are_apart later in
        rw other (b.complete x front rest is few (stops_first d t f rest later))

    none : (cut rest : List Word) → cut ≡ [] → left (choose f p q (cut ++ rest)) ≤ length rest
    none cut rest empty = let size = sound-shorter (P ∣ Q) (cut ++ rest) (choose f p q (cut ++ rest)) (by (starts f (cut ++ rest)) (cut ++ rest)) in let all = ap (λ c. length (c ++ rest)) empty in omega arith

    reach : (cut rest : List Word) → (R ∣ S).cuts cut → length cut ≤ room → left (choose f p q (cut ++ rest)) ≤ length rest
    reach cut rest (inl is) few = by_cut a (λ _. left (choose f p q (cut ++ rest)) ≤ length rest) cut is (none cut rest)
        (λ begins. let here = starts-append f cut rest begins in rw here (a.reach cut rest is few))
    reach cut rest (inr is) few = by_cut b (λ _. left (choose f p q (cut ++ rest)) ≤ length rest) cut is (none cut rest)
        (λ begins. let other = starts-front g f cut rest begins ∙ starts-apart g f cut are_apart begins in rw other (b.reach cut rest is few))

-- ---- values

made-shape : {A B : Type 0} {P : Rule A} {e : Bool} {f : List TokenKind} (make : A → B) → Shape P e f → Shape (Made make P) e f
made-shape make a = record {
  begins = λ x front is. a.begins is.0 front is.2;
  cut_begins = a.cut_begins;
  empty_cut = a.empty_cut;
  stated_cut = λ x front is. a.stated_cut is.0 front is.2;
  endless = a.endless;
}

pub made-agrees : {A B : Type 0} {P R : Rule A} {room : ℕ} {e : Bool} {f s : List TokenKind} {p : Reader A} (make : A → B)
    → Agrees P R room e f s p → Agrees (Made make P) (Made make R) room e f s (made make p)
made-agrees {A} {B} {P} {R} {room} {e} {f} {s} {p} make a = record {
  shown = made-shape make a.shown;
  asked = made-shape make a.asked;
  sound = λ words. by words (p words) (a.sound words);
  complete = λ x front rest is few stop. let one = a.complete is.0 front rest is.2 few stop in let same = is.1 in rw (one, same) refl;
  reach = λ cut rest is few. rw (made-left make (p (cut ++ rest))) (a.reach cut rest is few);
}
  where
    by : (words : List Word) (r : Read A) → Sound P words r → Sound (Made make P) words (r >>= λ a. Ok (make a.0, a.1))
    by words (Ok one) sound = retold (λ front parts is. (one.0, refl, is)) sound
    by words (Err stuck) sound = sound

line_of-front : (kinds : List TokenKind) (front rest : List Word) → starts kinds front ≡ true → line_of (front ++ rest) ≡ line_of front
line_of-front kinds [] rest h = absurd (cc)
line_of-front kinds (w ∷ front) rest h = refl

at-shape : {A : Type 0} {P : ℕ → Rule A} {f : List TokenKind} → ((line : ℕ) → Shape (P line) false f) → Shape (At P) false f
at-shape a = record {
  begins = λ x front is. (a (line_of front)).begins x front is;
  cut_begins = λ cut is. (a (line_of cut)).cut_begins cut is;
  empty_cut = (a 0).empty_cut;
  stated_cut = λ x front is. (a (line_of front)).stated_cut x front is;
  endless = λ cut is. (a (line_of cut)).endless cut is;
}

pub at-agrees : {A : Type 0} {P R : ℕ → Rule A} {room : ℕ} {f s : List TokenKind} {p : ℕ → Reader A}
    → ((line : ℕ) → Agrees (P line) (R line) room false f s (p line)) → Agrees (At P) (At R) room false f s (at p)
at-agrees {A} {P} {R} {room} {f} {s} {p} a = record {
  shown = at-shape (λ line. (a line).shown);
  asked = at-shape (λ line. (a line).asked);
  sound = λ words. by words (p (line_of words) words) ((a (line_of words)).sound words);
  complete = λ x front rest is few stop.
      let line = line_of-front f front rest (begins_so (a (line_of front)).asked x front is) in
      ap (λ (l : ℕ). p l (front ++ rest)) line ∙ (a (line_of front)).complete x front rest is few stop;
  reach = reach;
}
  where
    cut_at : (words stuck front : List Word) → words ≡ front ++ stuck → (P (line_of words)).cuts front → (At P).cuts front
    cut_at words stuck [] parts is = (a 0).shown.empty_cut
    cut_at words stuck (w ∷ front) parts is = let line : line_of words ≡ w.line = ap line_of parts in subst (λ (l : ℕ). (P l).cuts (w ∷ front)) line is

    by : (words : List Word) (r : Read A) → Sound (P (line_of words)) words r → Sound (At P) words r
    by words (Ok one) sound = retold (λ front parts is.
        let line = ap line_of parts ∙ line_of-front f front one.1 (begins_so (a (line_of words)).shown one.0 front is) in
        subst (λ (l : ℕ). (P l).states one.0 front) line is) sound
    by words (Err stuck) sound = retold (cut_at words stuck) sound

    reach : (cut rest : List Word) → (At R).cuts cut → length cut ≤ room → left (at p (cut ++ rest)) ≤ length rest
    reach [] rest is few = sound-shorter (P (line_of rest)) rest (p (line_of rest) rest) ((a (line_of rest)).sound rest)
    reach (w ∷ cut) rest is few = (a w.line).reach (w ∷ cut) rest is few

pub node-agrees : {A B : Type 0} {P R : Rule A} {room : ℕ} {f s : List TokenKind} {p : Reader A} (make : ℕ → A → B)
    → Agrees P R room false f s p → Agrees (Node make P) (Node make R) room false f s (node make p)
node-agrees {A} {B} {P} {R} {p = p} make a = at-agrees {P = λ line. Made (make line) P} {R = λ line. Made (make line) R} {p = λ line. made (make line) p} (λ line. made-agrees (make line) a)

-- ---- more first kinds, more stopping kinds

widen-shape : {A : Type 0} {P : Rule A} {e : Bool} {f : List TokenKind} (g : List TokenKind) → Shape P e f → within f g ≡ true → Shape P e g
widen-shape {A} {P} {e} {f} g a firsts = record {
  begins = λ x front is. wider e front (a.begins x front is);
  cut_begins = λ cut is. wider true cut (a.cut_begins cut is);
  empty_cut = a.empty_cut;
  stated_cut = a.stated_cut;
  endless = a.endless;
}
  where
    wider : (empty : Bool) (front : List Word) → Opens empty f front → Opens empty g front
    wider empty front (inl h) = inl (starts-within f g front firsts h)
    wider empty front (inr none) = inr none

pub widen : {A : Type 0} {P R : Rule A} {room : ℕ} {e : Bool} {f s : List TokenKind} {p : Reader A} (g t : List TokenKind)
    → Agrees P R room e f s p → within f g ≡ true → within s t ≡ true → Agrees P R room e g t p
widen g t a firsts stops = record {
  shown = widen-shape g a.shown firsts;
  asked = widen-shape g a.asked firsts;
  sound = a.sound;
  complete = λ x front rest is few stop. a.complete x front rest is few (starts-without _ t rest stops stop);
  reach = a.reach;
}

-- ---- nothing

pub never-shape : {A : Type 0} (f : List TokenKind) → Shape (Never {A = A}) false f
never-shape f = record {
  begins = λ x front is. absurd is;
  cut_begins = λ cut is. inr (refl, is);
  empty_cut = refl;
  stated_cut = λ x front is. absurd is;
  endless = λ cut is. ap has_end is;
}

none_left : (cut rest : List Word) → cut ≡ [] → length (cut ++ rest) ≤ length rest
none_left cut rest none = let all = ap (λ c. length (c ++ rest)) none in omega arith

few_none : (cut : List Word) → length cut ≤ zero → cut ≡ []
few_none [] few = refl
few_none (w ∷ cut) few = absurd (omega arith)

-- where there is no room nothing is read, since a part takes a word or more
pub none-read : {A : Type 0} {Asked : Rule A} (f s : List TokenKind) → Shape Asked false f → Agrees (Never {A = A}) Asked zero false f s (λ ws. Err ws)
none-read f s shape = record {
  shown = never-shape f;
  asked = shape;
  sound = λ words. record { front = []; parts = refl; is = refl };
  complete = λ x front rest is few stop. absurd (let some = filled f front (begins_so shape x front is) in omega arith);
  reach = λ cut rest is few. none_left cut rest (few_none cut few);
}

-- what no words state may be asked for
pub none-asked : {A : Type 0} {P R : Rule A} {room : ℕ} {f s : List TokenKind} {p : Reader A} → Agrees P R room false f s p → Agrees P (Never {A = A}) room false f s p
none-asked {f = f} a = record {
  shown = a.shown;
  asked = never-shape f;
  sound = a.sound;
  complete = λ x front rest is few stop. absurd is;
  reach = λ cut rest is few. reach_none a cut rest is;
}
