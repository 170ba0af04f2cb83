-- Words that are added in a row.
use Rattle.std.proofs.Common.{subst, ◌≡◌, inl, inr, ℕ, ◌+◌, ◌-◌, ◌≤◌, ◌<◌, List, length, get_or, set, refl, sym, ap, ◌∙◌, arith, get_or-set_other, get_or-set_same}
use Rattle.std.specs.Prelude.{min}
use Rattle.std.proofs.lemmas.Bool.{cases_eq, cases_lt}
use Rattle.std.proofs.lemmas.List.{get_or_past, length-set}
use Rattle.ring_words.specs.Word.{add}
use Rattle.assembly_sums.specs.Added.{WordsAdded}

-- nothing is added yet
pub words_begun : (start : ℕ) (words old : List ℕ) → WordsAdded start start words old old
words_begun start words old = record { same_length = refl; inside = λ i from below there. absurd (omega arith); outside = λ i away. refl }

-- another word is added
pub words_more : (start index : ℕ) (words old now new : List ℕ) → WordsAdded start index words old now → start ≤ index → index < length old
    → new ≡ set now index (add (get_or now index 0) (get_or words (index - start) 0)) → WordsAdded start (index + 1) words old new
words_more start index words old now new so_far from there is =
    let sum : ℕ = add (get_or now index 0) (get_or words (index - start) 0) in
    let within : index < length now = omega (arith, so_far.same_length) in
    let before : get_or now index 0 ≡ get_or old index 0 = so_far.outside index (inr (omega arith)) in
    let elsewhere = λ (i : ℕ) (other : (i ≡ index) → ⊥). ap (λ l. get_or l i 0) is ∙ get_or-set_other now index i sum 0 other in
    record {
      same_length = ap length is ∙ length-set now index sum ∙ so_far.same_length;
      inside = λ i first below below_length. elim (cases_eq i index) [
        | inl e ↦
            ap (λ k. get_or new k 0) e ∙ ap (λ l. get_or l index 0) is ∙ get_or-set_same now index sum 0 within
            ∙ ap (λ n. add n (get_or words (index - start) 0)) before
            ∙ ap (λ k. add (get_or old k 0) (get_or words (k - start) 0)) (sym e)
        | inr other ↦ elsewhere i other ∙ so_far.inside i first (omega arith) below_length
      ];
      outside = λ i away. elim away [
        | inl before_start ↦ elsewhere i (λ (e : i ≡ index). absurd (omega arith)) ∙ so_far.outside i (inl before_start)
        | inr after ↦ elsewhere i (λ (e : i ≡ index). absurd (omega arith)) ∙ so_far.outside i (inr (omega arith))
      ];
    }

-- indices past the length are cut to it
pub words_cut : (start end cut_start cut_end : ℕ) (words old new : List ℕ) → WordsAdded cut_start cut_end words old new
    → cut_start ≡ min start (length old) → cut_end ≡ min end (length old) → WordsAdded start end words old new
words_cut start end cut_start cut_end words old new added starts ends = record {
  same_length = added.same_length;
  inside = λ i first below there.
      let same : cut_start ≡ start = omega arith in
      added.inside i (omega arith) (omega arith) there ∙ ap (λ n. add (get_or old i 0) (get_or words (i - n) 0)) same;
  outside = λ i away. elim (cases_lt i (length old)) [
    | inl there ↦ added.outside i (elim away [ inl before_start ↦ inl (omega arith) | inr after ↦ inr (omega arith) ])
    | inr past ↦ get_or_past new i 0 (omega (arith, added.same_length)) ∙ sym (get_or_past old i 0 past)
  ];
}

-- all are added
pub words_done : (start end index : ℕ) (words old new : List ℕ) → WordsAdded start index words old new → end ≤ index → index ≤ end → WordsAdded start end words old new
words_done start end index words old new added least most =
    let same : index ≡ end = omega arith in
    subst (λ n. WordsAdded start n words old new) same added
