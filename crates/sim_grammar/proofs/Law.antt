-- The program that is read off words is the one that they derive, and the place where reading ends is where they stop being a cut.
use Rattle.std.proofs.Common.{◌≡◌, ℕ, ◌+◌, ◌-◌, ◌<◌, ◌≤◌, true, false, List, [], ◌∷◌, ◌++◌, append_assoc, append-nil, length, length-append, take, drop, length-drop, refl, sym, subst, ap, ◌∙◌, arith, inl, inr}
use Rattle.std.proofs.Math.Seq.{take-append_seam}
use Rattle.std.proofs.lemmas.List.{take-append-drop}
use Rattle.std.specs.Prelude.{All, Ok, Err}
use Rattle.std.proofs.lemmas.List.Elements.{All-head, All-tail}
use Rattle.std.proofs.lemmas.Bool.{or_parts, false_from_ne_true}
use Rattle.sim_lexer.specs.Words.{Word}
use Rattle.sim_lexer.specs.declared.token.TokenKind.TheVariants.{End}
use Rattle.sim_syntax.specs.declared.program.Program.{Program}
use Rattle.sim_grammar.specs.Read.{Read, is_kind, starts}
use Rattle.sim_grammar.specs.Rule.{Are, Begin}
use Rattle.sim_grammar.specs.Grammar as grammar
use Rattle.sim_grammar.specs.Grammar.{Derives, IsCut, IsPlace, IsUnambiguous}
use Rattle.sim_grammar.specs.ReadProgram.{program_text, program_in, answered}
use Rattle.sim_grammar.specs.Laws.{HasOneEnd, ReadsWhatIsDerived, ReadsThePlace}
use Rattle.sim_grammar.proofs.Starts.{is_kind-same, has_end}
use Rattle.sim_grammar.proofs.Agree.{Taken, Sound, sound-shorter, left, begin_opens}
use Rattle.sim_grammar.proofs.AgreeParts.{after-sound, after-complete, after-reach}
use Rattle.sim_grammar.proofs.DeclarationsAgree.{program-agrees}

-- no end is found among words of which none is one
no_end-found : (words : List Word) → All (λ word. ¬ (word.kind ≡ End)) words → has_end words ≡ false
no_end-found [] none = refl
no_end-found (w ∷ ws) none =
    let other = no_end-found ws (All-tail (λ (word : Word). ¬ (word.kind ≡ End)) w ws none) in
    let here = false_from_ne_true (is_kind w.kind End) (λ is. All-head (λ (word : Word). ¬ (word.kind ≡ End)) w ws none (is_kind-same w.kind End is)) in
    rw here other

end_here : (w : Word) (ws : List Word) → w.kind ≡ End → has_end (w ∷ ws) ≡ false → ⊥
end_here w ws is none = let parts = or_parts (is_kind w.kind End) (has_end ws) none in let same : is_kind w.kind End ≡ true = (rw is refl) in let other = parts.0 in cc

end_after : (front : List Word) (last : Word) → last.kind ≡ End → has_end (front ++ last ∷ []) ≡ false → ⊥
end_after [] last is none = end_here last [] is none
end_after (w ∷ front) last is none = end_after front last is (or_parts (is_kind w.kind End) (has_end (front ++ last ∷ [])) none).1

closed-end : (words : List Word) → HasOneEnd words → has_end words ≡ false → ⊥
closed-end words closed none = end_after closed.front closed.last closed.is_end (ap has_end (sym closed.parts) ∙ none)

-- nothing stands after an end
nothing_after : (before : List Word) (w : Word) (ws front : List Word) (last : Word) → before ++ w ∷ ws ≡ front ++ last ∷ [] → has_end front ≡ false → w.kind ≡ End → ws ≡ []
nothing_after [] w ws [] last same none is = cc
nothing_after [] w ws (v ∷ front) last same none is = absurd (let one : w ≡ v = cc in end_here v front (ap (λ x. x.kind) (sym one) ∙ is) none)
nothing_after (x ∷ before) w ws [] last same none is =
    absurd (let size = ap length same in let parts = length-append before (w ∷ ws) in omega arith)
nothing_after (x ∷ before) w ws (v ∷ front) last same none is =
    let others : before ++ w ∷ ws ≡ front ++ last ∷ [] = cc in
    nothing_after before w ws front last others (or_parts (is_kind v.kind End) (has_end front) none).1 is

one_end : (back : List Word) → Are (End ∷ []) back → (w : Word) × ((back ≡ w ∷ []) × (w.kind ≡ End))
one_end [] are = absurd (cc)
one_end (w ∷ []) are = (w, (refl, cc))
one_end (w ∷ v ∷ ws) are = absurd (cc)

all_begun : (back : List Word) → Begin (End ∷ []) back → starts (End ∷ []) back ≡ true → Are (End ∷ []) back
all_begun [] is begins = absurd (cc)
all_begun (w ∷ []) is begins = let parts = is.parts in cc
all_begun (w ∷ v ∷ ws) is begins = absurd (let parts = is.parts in cc)

not_empty : (ws : List Word) → (ws ≡ [] → ⊥) → 0 < length ws
not_empty [] some = absurd (some refl)
not_empty (w ∷ ws) some = omega arith

read-sound : (room : ℕ) (words : List Word) → Sound (grammar.ProgramText room) words (program_text room words)
unfolding program_text
read-sound room words = after-sound End [] (program-agrees room room) refl words

-- what is left is no more than the words
pub stuck_few : (room : ℕ) (words stuck : List Word) → program_text room words ≡ Err stuck → length stuck ≤ length words
stuck_few room words stuck fails = rw fails at (sound-shorter (grammar.ProgramText room) words (program_text room words) (read-sound room words))

module _ (words : List Word) where
  sound : Sound (grammar.ProgramText (length words)) words (program_text (length words) words)
  sound = read-sound (length words) words

  reach : (depth : ℕ) (cut rest : List Word) → (grammar.ProgramText depth).cuts cut → words ≡ cut ++ rest → left (program_text (length words) words) ≤ length rest
  unfolding program_text
  reach depth cut rest is parts =
      let size = ap length parts ∙ length-append cut rest in
      let far = after-reach End [] (program-agrees (length words) depth) refl cut rest is (omega arith) in
      subst (λ ws. left (program_text (length words) ws) ≤ length rest) (sym parts) far

  complete : (depth : ℕ) (p : Program) → (grammar.ProgramText depth).states p words → program_text (length words) words ≡ Ok (p, [])
  unfolding program_text
  complete depth p is =
      let whole = append-nil words in
      ap (program_text (length words)) (sym whole) ∙ after-complete End [] (program-agrees (length words) depth) refl p words [] is (omega arith)

  -- what is derived is read
  pub derived-read : (p : Program) → Derives p words → program_in words ≡ Ok p
  unfolding program_in
  derived-read p is = let read = complete is.0 p is.1 in rw read refl

  module _ (closed : HasOneEnd words) where
    -- no words are left after a program
    whole : (p : Program) (rest : List Word) → Taken ((grammar.ProgramText (length words)).states p) words rest → (grammar.ProgramText (length words)).states p words
    whole p rest taken =
        let is = taken.is in
        let last = one_end is.back is.second in
        let parts : words ≡ is.front ++ last.0 ∷ rest =
        taken.parts ∙ ap (λ w. w ++ rest) is.parts ∙ append_assoc is.front is.back rest ∙ ap (λ b. is.front ++ (b ++ rest)) last.1.0 in
        let none = nothing_after is.front last.0 rest closed.front closed.last (sym parts ∙ closed.parts) (no_end-found closed.front closed.no_end) last.1.1 in
        let all : words ≡ taken.front = taken.parts ∙ ap (λ w. taken.front ++ w) none ∙ append-nil taken.front in
        subst ((grammar.ProgramText (length words)).states p) (sym all) is

    answered-derived : (p : Program) (r : Read Program) → Sound (grammar.ProgramText (length words)) words r → answered (length words) r ≡ Ok p → Derives p words
    answered-derived p (Ok read) taken is = let same : read.0 ≡ p = cc in (length words, subst (λ q. (grammar.ProgramText (length words)).states q words) same (whole read.0 read.1 taken))
    answered-derived p (Err stuck) taken is = absurd (cc)

    -- what is read is derived
    pub read-derived : (p : Program) → program_in words ≡ Ok p → Derives p words
    unfolding program_in
    read-derived p is = answered-derived p (program_text (length words) words) sound is

    -- reading never goes past the end
    some_left : (stuck : List Word) → program_text (length words) words ≡ Err stuck → Taken (grammar.ProgramText (length words)).cuts words stuck → stuck ≡ [] → ⊥
    some_left stuck fails taken none =
        let all : words ≡ taken.front = taken.parts ∙ ap (λ w. taken.front ++ w) none ∙ append-nil taken.front in
        by taken.front all taken.is
      where
        by : (cut : List Word) → words ≡ cut → (grammar.ProgramText (length words)).cuts cut → ⊥
        by cut all (inl is) = closed-end words closed (ap has_end all ∙ (program-agrees (length words) (length words)).shown.endless cut is)
        by cut all (inr (p, is)) = elim (begin_opens End [] is.back is.second) [
          | inl begins ↦
              let missing = is.second in
              let stated = subst ((grammar.ProgramText (length words)).states p) (sym all)
              (record { front = is.front; back = is.back; parts = is.parts; first = is.first; second = all_begun is.back missing begins }) in
              let read = complete (length words) p stated in
              cc
          | inr empty ↦
              let front : words ≡ is.front = all ∙ is.parts ∙ ap (λ w. is.front ++ w) empty.1 ∙ append-nil is.front in
              let agrees = program-agrees (length words) (length words) in
              closed-end words closed (ap has_end front ∙ agrees.shown.endless is.front (agrees.shown.stated_cut p is.front is.first))
        ]

    place-at : (n : ℕ) (r : Read Program) → program_text (length words) words ≡ r → Sound (grammar.ProgramText (length words)) words r → answered (length words) r ≡ Err n → IsPlace words n
    place-at n (Ok read) fails taken is = absurd (cc)
    place-at n (Err stuck) fails taken is =
        let ends : length words - length stuck ≡ n = cc in
        let size : length words ≡ length taken.front + length stuck = ap length taken.parts ∙ length-append taken.front stuck in
        let some = not_empty stuck (some_left stuck fails taken) in
        let here : take n words ≡ taken.front = (let same : n ≡ length taken.front = omega arith in rw same (ap (take (length taken.front)) taken.parts ∙ take-append_seam taken.front stuck)) in
        record {
          within = omega arith;
          before = (length words, subst (grammar.ProgramText (length words)).cuts (sym here) taken.is);
          breaks = λ cut.
              let far = reach cut.0 (take (n + 1) words) (drop (n + 1) words) cut.1 (sym (take-append-drop (n + 1) words)) in
              let less = rw fails at far in
              let rest = length-drop (n + 1) words in
              omega arith;
        }

    -- where no program is read, reading ends at the place
    pub read-place : (n : ℕ) → program_in words ≡ Err n → IsPlace words n
    unfolding program_in
    read-place n is = place-at n (program_text (length words) words) refl sound is

-- so no words derive two programs
pub unambiguous : IsUnambiguous
unambiguous words p q is other = let one = derived-read words p is in let two = derived-read words q other in let same = sym one ∙ two in cc

-- ---- the law

pub reads_what_is_derived : ReadsWhatIsDerived
reads_what_is_derived words closed p = (read-derived words closed p, derived-read words p)

pub reads_the_place : ReadsThePlace
reads_the_place words closed n = read-place words closed n
