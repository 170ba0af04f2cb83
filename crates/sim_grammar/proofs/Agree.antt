-- Rules and readings that agree: what is read is what the words state, what words state is read, up to the first word that
-- can't go on, and where nothing is read, the words up to there are a cut and no longer ones are. Each way of making rules keeps
-- this, so a rule of the grammar is compared with its reading part by part.
use Rattle.std.proofs.Common.{◌≡◌, ℕ, ◌<◌, ◌≤◌, Bool, true, false, cond, List, [], ◌∷◌, ◌++◌, append_assoc, append-nil, length, length-append, refl, sym, ap, ◌∙◌, arith, inl, inr}
use Rattle.std.specs.Prelude.{Result, Ok, Err}
use Rattle.std.proofs.lemmas.Bool.{or_parts}
use Rattle.vocabulary.specs.Answers.{◌>>=◌}
use Rattle.sim_lexer.specs.Words.{Word}
use Rattle.sim_lexer.specs.declared.token.TokenKind.{TokenKind}
use Rattle.sim_lexer.specs.declared.token.TokenKind.TheVariants.{End}
use Rattle.sim_grammar.specs.Rule.{Rule, Are, Begin, kinds_of, Spelt, Joined, Fixed}
use Rattle.sim_grammar.specs.Read.{Read, Reader, is_kind, starts, skip_one, skip, spelt, fixed}
use Rattle.sim_grammar.proofs.Starts.{is_kind-same, is_kind-self, Opens, has_end, ends}

-- ---- words of a rule in front of others

-- these words are some of which this is so, and then the rest
pub record Taken (Of : List Word → Type 0) (words rest : List Word) : Type 0 where
  pub front : List Word
  pub parts : words ≡ front ++ rest
  pub is : Of front

pub join : {First Second : List Word → Type 0} {words after rest : List Word} → Taken First words after → Taken Second after rest → Taken (Joined First Second) words rest
join {rest = rest} a b = record {
  front = a.front ++ b.front;
  parts = a.parts ∙ ap (λ t. a.front ++ t) b.parts ∙ sym (append_assoc a.front b.front rest);
  is = record { front = a.front; back = b.front; parts = refl; first = a.is; second = b.is };
}

pub retold : {Of As : List Word → Type 0} {words rest : List Word} → ((front : List Word) → words ≡ front ++ rest → Of front → As front) → Taken Of words rest → Taken As words rest
retold tell a = record { front = a.front; parts = a.parts; is = tell a.front a.parts a.is }

-- what is left is no longer than the words
pub shorter : {Of : List Word → Type 0} {words rest : List Word} → Taken Of words rest → length rest ≤ length words
shorter {rest = rest} a = let size = ap length a.parts ∙ length-append a.front rest in omega arith

-- words of two parts with some after them
pub split : {First Second : List Word → Type 0} {words : List Word} (joined : Joined First Second words) (rest : List Word) → words ++ rest ≡ joined.front ++ (joined.back ++ rest)
split joined rest = ap (λ t. t ++ rest) joined.parts ∙ append_assoc joined.front joined.back rest

-- ---- the shape of a rule

-- Words that state a value begin with one of these kinds, or may be none; a cut that is not empty begins with one of them. No word
-- is a cut, words that state a value are one, and no cut has an end of the text.
pub record Shape {A : Type 0} (Is : Rule A) (empty : Bool) (firsts : List TokenKind) : Type 0 where
  pub begins : (x : A) (front : List Word) → Is.states x front → Opens empty firsts front
  pub cut_begins : (cut : List Word) → Is.cuts cut → Opens true firsts cut
  pub empty_cut : Is.cuts []
  pub stated_cut : (x : A) (front : List Word) → Is.states x front → Is.cuts front
  pub endless : (cut : List Word) → Is.cuts cut → has_end cut ≡ false

pub surely : (kinds : List TokenKind) (front : List Word) → Opens false kinds front → starts kinds front ≡ true
surely kinds front (inl h) = h
surely kinds front (inr none) = absurd (let never = none.0 in cc)

pub begins_so : {A : Type 0} {Is : Rule A} {firsts : List TokenKind} → Shape Is false firsts → (x : A) (front : List Word) → Is.states x front → starts firsts front ≡ true
begins_so {firsts = firsts} a x front is = surely firsts front (a.begins x front is)

-- ---- agreement

-- how many words an answer leaves
abbrev pub left : {A : Type 0} → Read A → ℕ
left (Ok read) = length read.1
left (Err stuck) = length stuck

-- what an answer says of the words that were passed: they state the value, or they are a cut
abbrev pub Sound : {A : Type 0} → Rule A → List Word → Read A → Type 0
Sound Shown words (Ok read) = Taken (Shown.states read.0) words read.1
Sound Shown words (Err stuck) = Taken Shown.cuts words stuck

pub sound-shorter : {A : Type 0} (Shown : Rule A) (words : List Word) (r : Read A) → Sound Shown words r → left r ≤ length words
sound-shorter Shown words (Ok read) sound = shorter sound
sound-shorter Shown words (Err stuck) sound = shorter sound

-- Of two rules that are made alike: what is read is stated by the first, and what is passed where nothing is read is a cut of it.
-- What so many words at most state by the second is read, where the rest begins with none of the kinds that would go on. A cut of the second with
-- which words begin, of so many words at most, goes no further than the reading.
pub record Agrees {A : Type 0} (Shown Asked : Rule A) (room : ℕ) (empty : Bool) (firsts stops : List TokenKind) (read : Reader A) : Type 0 where
  pub shown : Shape Shown empty firsts
  pub asked : Shape Asked empty firsts
  pub sound : (words : List Word) → Sound Shown words (read words)
  pub complete : (x : A) (front rest : List Word) → Asked.states x front → length front ≤ room → starts stops rest ≡ false → read (front ++ rest) ≡ Ok (x, rest)
  pub reach : (cut rest : List Word) → Asked.cuts cut → length cut ≤ room → left (read (cut ++ rest)) ≤ length rest

-- an empty cut reaches nothing
pub reach_none : {A : Type 0} {Shown Asked : Rule A} {room : ℕ} {empty : Bool} {firsts stops : List TokenKind} {read : Reader A}
    → Agrees Shown Asked room empty firsts stops read → (cut rest : List Word) → cut ≡ [] → left (read (cut ++ rest)) ≤ length rest
reach_none {Shown = Shown} {read = read} a cut rest none = let size = sound-shorter Shown (cut ++ rest) (read (cut ++ rest)) (a.sound (cut ++ rest)) in let all = ap (λ c. length (c ++ rest)) none in omega arith

-- a cut, or one that is empty
pub by_cut : {A : Type 0} {Shown Asked : Rule A} {room : ℕ} {empty : Bool} {firsts stops : List TokenKind} {read : Reader A} (a : Agrees Shown Asked room empty firsts stops read) (P : List Word → Type 0)
    (cut : List Word) → Asked.cuts cut → (cut ≡ [] → P cut) → (starts firsts cut ≡ true → P cut) → P cut
by_cut a P cut is none some = elim (a.asked.cut_begins cut is) [
  | inl h ↦ some h
  | inr h ↦ none h.1
]

-- ---- fixed words

-- skipping passes fixed words, or the first of them
abbrev pub Skipped : List TokenKind → List Word → Result (List Word) (List Word) → Type 0
Skipped kinds words (Ok rest) = Taken (Are kinds) words rest
Skipped kinds words (Err stuck) = Taken (Begin kinds) words stuck

abbrev pub skip_left : Result (List Word) (List Word) → ℕ
skip_left (Ok rest) = length rest
skip_left (Err stuck) = length stuck

pub skipped-shorter : (kinds : List TokenKind) (words : List Word) (r : Result (List Word) (List Word)) → Skipped kinds words r → skip_left r ≤ length words
skipped-shorter kinds words (Ok rest) skipped = shorter skipped
skipped-shorter kinds words (Err stuck) skipped = shorter skipped

pub begin_none : (kinds : List TokenKind) → Begin kinds []
begin_none kinds = record { missing = kinds; parts = refl }

none_taken : (kinds : List TokenKind) (words : List Word) → Taken (Begin kinds) words words
none_taken kinds words = record { front = []; parts = refl; is = begin_none kinds }

skipped-more : (kind : TokenKind) (kinds : List TokenKind) (w : Word) (ws : List Word) (r : Result (List Word) (List Word)) → Skipped kinds ws r → is_kind w.kind kind ≡ true → Skipped (kind ∷ kinds) (w ∷ ws) r
skipped-more kind kinds w ws (Ok rest) more is =
    let of_kind = is_kind-same w.kind kind is in
    let others = more.is in
    record { front = w ∷ more.front; parts = ap (λ r. w ∷ r) more.parts; is = cc }
skipped-more kind kinds w ws (Err stuck) more is =
    let of_kind = is_kind-same w.kind kind is in
    let others = more.is.parts in
    record { front = w ∷ more.front; parts = ap (λ r. w ∷ r) more.parts; is = record { missing = more.is.missing; parts = cc } }

pub skip-sound : (kinds : List TokenKind) (words : List Word) → Skipped kinds words (skip kinds words)
unfolding skip skip_one
skip-sound [] words = record { front = []; parts = refl; is = refl }
skip-sound (kind ∷ kinds) [] = none_taken (kind ∷ kinds) []
skip-sound (kind ∷ kinds) (w ∷ ws) = by (is_kind w.kind kind) refl (skipped-more kind kinds w ws (skip kinds ws) (skip-sound kinds ws))
  where
    by : (b : Bool) → is_kind w.kind kind ≡ b → (is_kind w.kind kind ≡ true → Skipped (kind ∷ kinds) (w ∷ ws) (skip kinds ws))
        → Skipped (kind ∷ kinds) (w ∷ ws) (cond b (Ok ws) (Err (w ∷ ws)) >>= skip kinds)
    by true is more = more is
    by false is more = none_taken (kind ∷ kinds) (w ∷ ws)

pub skip-complete : (kinds : List TokenKind) (front rest : List Word) → Are kinds front → skip kinds (front ++ rest) ≡ Ok rest
unfolding skip skip_one
skip-complete [] [] rest h = refl
skip-complete [] (w ∷ front) rest h = absurd (cc)
skip-complete (kind ∷ kinds) [] rest h = absurd (cc)
skip-complete (kind ∷ kinds) (w ∷ front) rest h =
    let of_kind : w.kind ≡ kind = cc in
    let others : kinds_of front ≡ kinds = cc in
    rw (of_kind, is_kind-self) (skip-complete kinds front rest others)

pub skip-reach : (kinds : List TokenKind) (cut rest : List Word) → Begin kinds cut → skip_left (skip kinds (cut ++ rest)) ≤ length rest
unfolding skip skip_one
skip-reach kinds [] rest is = skipped-shorter kinds rest (skip kinds rest) (skip-sound kinds rest)
skip-reach [] (w ∷ cut) rest is = absurd (let parts = is.parts in cc)
skip-reach (kind ∷ kinds) (w ∷ cut) rest is =
    let parts = is.parts in
    let of_kind : w.kind ≡ kind = cc in
    let others : kinds ≡ kinds_of cut ++ is.missing = cc in
    rw (of_kind, is_kind-self) (skip-reach kinds cut rest (record { missing = is.missing; parts = others }))

pub are_begin : (kind : TokenKind) (kinds : List TokenKind) (words : List Word) → Are (kind ∷ kinds) words → starts (kind ∷ []) words ≡ true
are_begin kind kinds [] h = absurd (cc)
are_begin kind kinds (w ∷ words) h = let of_kind : w.kind ≡ kind = cc in rw (of_kind, is_kind-self) refl

are_none : (words : List Word) → Are [] words → words ≡ []
are_none [] h = refl
are_none (w ∷ words) h = absurd (cc)

pub are-begin : (kinds : List TokenKind) (words : List Word) → Are kinds words → Begin kinds words
are-begin kinds words is = record { missing = []; parts = sym is ∙ sym (append-nil (kinds_of words)) }

pub begin_opens : (kind : TokenKind) (kinds : List TokenKind) (cut : List Word) → Begin (kind ∷ kinds) cut → Opens true (kind ∷ []) cut
begin_opens kind kinds [] is = inr (refl, refl)
begin_opens kind kinds (w ∷ cut) is = let parts = is.parts in let of_kind : w.kind ≡ kind = cc in inl (rw (of_kind, is_kind-self) refl)

begin_opens_none : (cut : List Word) → Begin [] cut → Opens true [] cut
begin_opens_none [] is = inr (refl, refl)
begin_opens_none (w ∷ cut) is = absurd (let parts = is.parts in cc)

pub begin-endless : (kinds : List TokenKind) (cut : List Word) → ends kinds ≡ false → Begin kinds cut → has_end cut ≡ false
begin-endless kinds [] none is = refl
begin-endless [] (w ∷ cut) none is = absurd (let parts = is.parts in cc)
begin-endless (kind ∷ kinds) (w ∷ cut) none is =
    let parts = is.parts in
    let of_kind : w.kind ≡ kind = cc in
    let others : kinds ≡ kinds_of cut ++ is.missing = cc in
    let apart = or_parts (is_kind kind End) (ends kinds) none in
    let here = apart.0 in
    rw (of_kind, here) (begin-endless kinds cut apart.1 (record { missing = is.missing; parts = others }))

-- the parts of joined words are no longer than the whole
pub front_few : {First Second : List Word → Type 0} {words : List Word} (joined : Joined First Second words) (room : ℕ) → length words ≤ room → length joined.front ≤ room
front_few joined room few = let size = ap length joined.parts ∙ length-append joined.front joined.back in omega arith

pub back_few : {First Second : List Word → Type 0} {words : List Word} (joined : Joined First Second words) (room : ℕ) → length words ≤ room → length joined.back ≤ room
back_few joined room few = let size = ap length joined.parts ∙ length-append joined.front joined.back in omega arith

pub filled : (kinds : List TokenKind) (front : List Word) → starts kinds front ≡ true → 0 < length front
filled kinds [] h = absurd (cc)
filled kinds (w ∷ front) h = omega arith

-- ---- answers that go on

-- another reading after one leaves no more than the one
pub bind-left : {A B : Type 0} (r : Read A) (next : A × List Word → Read B) (n : ℕ) → left r ≤ n → ((one : A × List Word) → left (next one) ≤ length one.1) → left (r >>= next) ≤ n
bind-left (Ok one) next n few less = let size = less one in omega arith
bind-left (Err stuck) next n few less = few

pub skip_bind-left : {A : Type 0} (r : Result (List Word) (List Word)) (next : List Word → Read A) (n : ℕ) → skip_left r ≤ n → ((rest : List Word) → left (next rest) ≤ length rest) → left (r >>= next) ≤ n
skip_bind-left (Ok rest) next n few less = let size = less rest in omega arith
skip_bind-left (Err stuck) next n few less = few

pub bind_skip-left : {A : Type 0} (r : Result (List Word) (List Word)) (value : A) → left (r >>= λ rest. Ok (value, rest)) ≡ skip_left r
bind_skip-left (Ok rest) value = refl
bind_skip-left (Err stuck) value = refl

pub made-left : {A B : Type 0} (make : A → B) (r : Read A) → left (r >>= λ a. Ok (make a.0, a.1)) ≡ left r
made-left make (Ok one) = refl
made-left make (Err stuck) = refl

-- ---- fixed words as a rule

fixed-sound : {A : Type 0} (kinds : List TokenKind) (stated : A) (words : List Word) → Sound (Fixed kinds stated) words (fixed kinds stated words)
fixed-sound {A} kinds stated words = by (skip kinds words) (skip-sound kinds words)
  where
    by : (r : Result (List Word) (List Word)) → Skipped kinds words r → Sound (Fixed kinds stated) words (r >>= λ rest. Ok (stated, rest))
    by (Ok rest) skipped = retold (λ front parts are. (are, refl)) skipped
    by (Err stuck) skipped = skipped

fixed-complete : {A : Type 0} (kinds : List TokenKind) (stated x : A) (front rest : List Word) → (Fixed kinds stated).states x front → fixed kinds stated (front ++ rest) ≡ Ok (x, rest)
fixed-complete kinds stated x front rest is = let read = skip-complete kinds front rest is.0 in let same = is.1 in rw (read, same) refl

fixed-reach : {A : Type 0} (kinds : List TokenKind) (stated : A) (cut rest : List Word) → Begin kinds cut → left (fixed kinds stated (cut ++ rest)) ≤ length rest
fixed-reach kinds stated cut rest is = rw (bind_skip-left (skip kinds (cut ++ rest)) stated) (skip-reach kinds cut rest is)

-- fixed words, at least one
pub fixed-agrees : {A : Type 0} {room : ℕ} (kind : TokenKind) (kinds : List TokenKind) (stated : A) → ends (kind ∷ kinds) ≡ false
    → Agrees (Fixed (kind ∷ kinds) stated) (Fixed (kind ∷ kinds) stated) room false (kind ∷ []) [] (fixed (kind ∷ kinds) stated)
fixed-agrees {A} kind kinds stated endless = record {
  shown = shape;
  asked = shape;
  sound = fixed-sound (kind ∷ kinds) stated;
  complete = λ x front rest is few stop. fixed-complete (kind ∷ kinds) stated x front rest is;
  reach = λ cut rest is few. fixed-reach (kind ∷ kinds) stated cut rest is;
}
  where
    shape : Shape (Fixed (kind ∷ kinds) stated) false (kind ∷ [])
    shape = record {
      begins = λ x front is. inl (are_begin kind kinds front is.0);
      cut_begins = begin_opens kind kinds;
      empty_cut = begin_none (kind ∷ kinds);
      stated_cut = λ x front is. are-begin (kind ∷ kinds) front is.0;
      endless = λ cut is. begin-endless (kind ∷ kinds) cut endless is;
    }

-- no words
pub none-agrees : {A : Type 0} {room : ℕ} (stated : A) → Agrees (Fixed [] stated) (Fixed [] stated) room true [] [] (fixed [] stated)
none-agrees {A} stated = record {
  shown = shape;
  asked = shape;
  sound = fixed-sound [] stated;
  complete = λ x front rest is few stop. fixed-complete [] stated x front rest is;
  reach = λ cut rest is few. fixed-reach [] stated cut rest is;
}
  where
    shape : Shape (Fixed [] stated) true []
    shape = record {
      begins = λ x front is. inr (refl, are_none front is.0);
      cut_begins = begin_opens_none;
      empty_cut = begin_none [];
      stated_cut = λ x front is. are-begin [] front is.0;
      endless = λ cut is. begin-endless [] cut refl is;
    }

-- a word with its text
pub spelt-agrees : {room : ℕ} (kind : TokenKind) → ends (kind ∷ []) ≡ false → Agrees (Spelt kind) (Spelt kind) room false (kind ∷ []) [] (spelt kind)
unfolding spelt
spelt-agrees {room} kind endless = record {
  shown = shape;
  asked = shape;
  sound = sound;
  complete = λ x front rest is few stop. let alone = is.1 in rw (alone, is_kind-self) refl;
  reach = reach;
}
  where
    shape : Shape (Spelt kind) false (kind ∷ [])
    shape = record {
      begins = λ x front is. inl (let alone = is.1 in rw (alone, is_kind-self) refl);
      cut_begins = begin_opens kind [];
      empty_cut = begin_none (kind ∷ []);
      stated_cut = λ x front is. record { missing = []; parts = let alone = is.1 in rw alone refl };
      endless = λ cut is. begin-endless (kind ∷ []) cut endless is;
    }

    by : (w : Word) (ws : List Word) (b : Bool) → is_kind w.kind kind ≡ b → Sound (Spelt kind) (w ∷ ws) (cond b (Ok (w.text, ws)) (Err (w ∷ ws)))
    by w ws true is = record { front = w ∷ []; parts = refl; is = (w.line, ap (λ (k : TokenKind). record { kind = k; text = w.text; line = w.line } ∷ []) (is_kind-same w.kind kind is)) }
    by w ws false is = none_taken (kind ∷ []) (w ∷ ws)

    sound : (words : List Word) → Sound (Spelt kind) words (spelt kind words)
    sound [] = none_taken (kind ∷ []) []
    sound (w ∷ ws) = by w ws (is_kind w.kind kind) refl

    reach : (cut rest : List Word) → Begin (kind ∷ []) cut → length cut ≤ room → left (spelt kind (cut ++ rest)) ≤ length rest
    reach [] rest is few = sound-shorter (Spelt kind) rest (spelt kind rest) (sound rest)
    reach (w ∷ []) rest is few = let parts = is.parts in let of_kind : w.kind ≡ kind = cc in rw (of_kind, is_kind-self) (omega arith)
    reach (w ∷ v ∷ cut) rest is few = absurd (let parts = is.parts in cc)
