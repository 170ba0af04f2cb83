-- How the cells of a row are read as an element: its endpoints, and the words after them.
use Rattle.std.proofs.Common.{◌≢◌, set, below_more, get_or-set_other, get_or-set_same, length-set, eq-eqb, ◌≡◌, ◌≤◌, ◌<◌, ◌+◌, ℕ, Bool, true, false, List, [], ◌∷◌, ◌++◌, length, map, drop, get_or, Ok, Err, refl, sym, ap, ◌∙◌, arith, length-append, append-nil, append_assoc}
use Rattle.std.specs.Prelude.{◌==◌, nat_lt, if◌then◌else◌, Result}
use Rattle.std.specs.List.{All, enumerate_from, range_with_len, zip}
use Rattle.std.proofs.Common.{inl, inr}
use Rattle.std.proofs.lemmas.Bool.{le-ltb, lt-ltb, ltb-false, ltb-true, ne_eqb}
use Rattle.std.proofs.lemmas.List.{get_or-map, get_or_default, get_or_append_left, length-map, same_lists}
use Rattle.std.proofs.lemmas.List.FromFn.{get_or-enumerate_from, get_or-map-range_with_len, length-enumerate_from, length-map-range_with_len}
use Rattle.std.proofs.lemmas.Slice.Zip.{get_or-zip, length-zip}
use Rattle.std.proofs.Math.Seq.{get_or-append_seam}
use Rattle.vocabulary.specs.Answers.{◌>>=◌, all_ok}
use Rattle.vocabulary.specs.declared.limits.TheConstants.{MOST_ELEMENTS}
use Rattle.set_tables.specs.ReadingSteps.{AddsElement, AddsWords, Fails, with_row}
use Rattle.set_tables.specs.Schema.{headings}
use Rattle.set_tables.specs.Table.{Element, element, element_in, element_of, endpoint_of, endpoints_of, word_of, words_of}
use Rattle.set_tables.specs.declared.faults.TableFault.{TableFault}
use Rattle.set_tables.specs.declared.faults.TableFault.TheVariants.{Endpoint, TooManyRows, Width}
use Rattle.set_tables.specs.declared.schema.Column.{Column}
use Rattle.set_tables.specs.declared.schema.Schema.{Schema}
use Rattle.set_tables.proofs.Bound.{Continues, another-at, bound-ok, each-value, ends-at, fails-at, length-all_ok, ok, starts}

-- ---- endpoints

-- what each cell at the start of a row states as an endpoint
abbrev pub endpoint_answers : ℕ → ℕ → ℕ → List (List ℕ) → List (Result ℕ TableFault)
endpoint_answers bound arity row cells = map (λ position. endpoint_of bound row position (get_or cells position [])) (range_with_len 0 arity)

pub length-endpoint_answers : (bound arity row : ℕ) (cells : List (List ℕ)) → length (endpoint_answers bound arity row cells) ≡ arity
length-endpoint_answers bound arity row cells = length-map-range_with_len (λ position. endpoint_of bound row position (get_or cells position [])) 0 arity

pub endpoint_answer_at : (bound arity row : ℕ) (cells : List (List ℕ)) (k : ℕ) (d : Result ℕ TableFault) → k < arity
    → get_or (endpoint_answers bound arity row cells) k d ≡ endpoint_of bound row k (get_or cells k [])
endpoint_answer_at bound arity row cells k d l =
    let zero-on : 0 + k ≡ k = omega arith in
    get_or-map-range_with_len (λ position. endpoint_of bound row position (get_or cells position [])) 0 arity k k d l zero-on

-- the endpoints at the first positions were appended
pub record HasEndpoints (bound arity row : ℕ) (cells : List (List ℕ)) (position : ℕ) (old new : List ℕ) : Type 0 where
  pub more : List ℕ
  pub known : Continues (endpoints_of bound arity row cells) (all_ok (drop position (endpoint_answers bound arity row cells))) more
  pub appended : new ≡ old ++ more

pub endpoints-start : (bound arity row : ℕ) (cells : List (List ℕ)) (old : List ℕ) → HasEndpoints bound arity row cells 0 old old
unfolding endpoints_of
endpoints-start bound arity row cells old = record { more = []; known = starts (all_ok (endpoint_answers bound arity row cells)); appended = sym (append-nil old) }

pub endpoints-step : (bound arity row : ℕ) (cells : List (List ℕ)) (position endpoint : ℕ) (old new new' : List ℕ) → HasEndpoints bound arity row cells position old new → position < arity
    → endpoint_of bound row position (get_or cells position []) ≡ Ok endpoint → new' ≡ new ++ endpoint ∷ [] → HasEndpoints bound arity row cells (position + 1) old new'
endpoints-step bound arity row cells position endpoint old new new' h l is grows = record {
  more = h.more ++ endpoint ∷ [];
  known =
      another-at (endpoints_of bound arity row cells) (endpoint_answers bound arity row cells) position endpoint h.more
      (omega (arith, length-endpoint_answers bound arity row cells)) (endpoint_answer_at bound arity row cells position (Ok endpoint) l ∙ is) h.known;
  appended = grows ∙ rw h.appended (append_assoc old h.more (endpoint ∷ []));
}

pub endpoints-fail : (bound arity row : ℕ) (cells : List (List ℕ)) (position : ℕ) (fault : TableFault) (old new : List ℕ) → HasEndpoints bound arity row cells position old new → position < arity
    → endpoint_of bound row position (get_or cells position []) ≡ Err fault → endpoints_of bound arity row cells ≡ Err fault
endpoints-fail bound arity row cells position fault old new h l is =
    fails-at (endpoints_of bound arity row cells) (endpoint_answers bound arity row cells) position fault h.more
    (omega (arith, length-endpoint_answers bound arity row cells)) (endpoint_answer_at bound arity row cells position (Err fault) l ∙ is) h.known

pub endpoints-end : (bound arity row : ℕ) (cells : List (List ℕ)) (position : ℕ) (old new : List ℕ) → HasEndpoints bound arity row cells position old new → arity ≤ position
    → (more : List ℕ) × (endpoints_of bound arity row cells ≡ Ok more) × (new ≡ old ++ more)
endpoints-end bound arity row cells position old new h l =
    (h.more, ends-at (endpoints_of bound arity row cells) (endpoint_answers bound arity row cells) position h.more (omega (arith, length-endpoint_answers bound arity row cells)) h.known, h.appended)

-- an endpoint is below the bound
endpoint-below : (bound row column : ℕ) (bytes : List ℕ) (endpoint : ℕ) → endpoint_of bound row column bytes ≡ Ok endpoint → endpoint < bound
endpoint-below bound row column bytes endpoint e =
    let test = λ (word : ℕ). if nat_lt word bound then ok TableFault word else Err (Endpoint row column) in
    let (word, read, is) = bound-ok (word_of row column 0 bytes) test endpoint e in
    within (nat_lt word bound) word refl is
  where
    within : (b : Bool) (word : ℕ) → nat_lt word bound ≡ b → (if b then ok TableFault word else Err (Endpoint row column)) ≡ Ok endpoint → endpoint < bound
    within true word t e = let same : word ≡ endpoint = cc e in rw (← same) (ltb-true word bound t)
    within false word t e = cc e

-- ---- words

-- what each cell after the endpoints states as a word
abbrev pub word_answers : ℕ → List Column → ℕ → List (List ℕ) → List (Result ℕ TableFault)
word_answers arity columns row cells = map (λ p. word_of row p.0 p.1.scale (get_or cells p.0 [])) (enumerate_from arity columns)

pub length-word_answers : (arity : ℕ) (columns : List Column) (row : ℕ) (cells : List (List ℕ)) → length (word_answers arity columns row cells) ≡ length columns
length-word_answers arity columns row cells =
    length-map (enumerate_from arity columns) (λ (p : ℕ × Column). word_of row p.0 p.1.scale (get_or cells p.0 [])) ∙ length-enumerate_from arity columns

pub word_answer_at : (arity : ℕ) (columns : List Column) (row : ℕ) (cells : List (List ℕ)) (k : ℕ) (column : Column) (d : Result ℕ TableFault) → k < length columns → column ≡ get_or columns k column
    → get_or (word_answers arity columns row cells) k d ≡ word_of row (arity + k) column.scale (get_or cells (arity + k) [])
word_answer_at arity columns row cells k column d l is =
    let n : k < length (enumerate_from arity columns) = omega (arith, length-enumerate_from arity columns) in
    get_or-map (λ (p : ℕ × Column). word_of row p.0 p.1.scale (get_or cells p.0 [])) (enumerate_from arity columns) k (0, column) d n
    ∙ ap (λ (p : ℕ × Column). word_of row p.0 p.1.scale (get_or cells p.0 [])) (get_or-enumerate_from arity columns k (0, column) l)
    ∙ rw (← is) refl

-- columns with a row
pub length-with_row : (old : List (List ℕ)) (words : List ℕ) → length words ≡ length old → length (with_row old words) ≡ length old
length-with_row old words e = length-map (zip old words) _ ∙ length-zip old words ∙ omega arith

pub with_row-at : (old : List (List ℕ)) (words : List ℕ) (j : ℕ) (d : List ℕ) → j < length old → length words ≡ length old
    → get_or (with_row old words) j d ≡ get_or old j [] ++ get_or words j 0 ∷ []
with_row-at old words j d l e =
    let m : j < length words = omega arith in
    let n : j < length (zip old words) = omega (arith, length-zip old words) in
    let none : List ℕ × ℕ = ([], 0) in
    get_or-map (λ (p : List ℕ × ℕ). p.0 ++ p.1 ∷ []) (zip old words) j none d n
    ∙ ap (λ (p : List ℕ × ℕ). p.0 ++ p.1 ∷ []) (get_or-zip old words j none l m)

-- the first k columns have each grown by a word, and the others are as they were
pub record HasWords (arity : ℕ) (columns : List Column) (row : ℕ) (cells : List (List ℕ)) (k : ℕ) (old new : List (List ℕ)) : Type 0 where
  pub words : List ℕ
  pub known : Continues (words_of arity columns row cells) (all_ok (drop k (word_answers arity columns row cells))) words
  pub counted : length words ≡ k
  pub as_many : length new ≡ length old
  pub grown : (j : ℕ) → j < k → get_or new j [] ≡ get_or old j [] ++ get_or words j 0 ∷ []
  pub kept : (j : ℕ) → k ≤ j → get_or new j [] ≡ get_or old j []

pub words-start : (arity : ℕ) (columns : List Column) (row : ℕ) (cells : List (List ℕ)) (old : List (List ℕ)) → HasWords arity columns row cells 0 old old
unfolding words_of
words-start arity columns row cells old = record {
  words = [];
  known = starts (all_ok (word_answers arity columns row cells));
  counted = refl;
  as_many = refl;
  grown = λ j l. absurd (omega arith);
  kept = λ j l. refl;
}

pub words-step : (arity : ℕ) (columns : List Column) (row : ℕ) (cells : List (List ℕ)) (k w : ℕ) (schema : Column) (old new : List (List ℕ)) (column : List ℕ)
    → HasWords arity columns row cells k old new → k < length columns → k < length old → schema ≡ get_or columns k schema
    → word_of row (arity + k) schema.scale (get_or cells (arity + k) []) ≡ Ok w
    → column ≡ get_or new k [] ++ w ∷ [] → HasWords arity columns row cells (k + 1) old (set new k column)
words-step arity columns row cells k w schema old new column h l m at is grows =
    let in' : k < length new = omega (arith, h.as_many) in
    let seam : get_or (h.words ++ w ∷ []) k 0 ≡ w = rw (← h.counted) (get_or-append_seam h.words w [] 0) in
    let front : (j : ℕ) → j < k → get_or (h.words ++ w ∷ []) j 0 ≡ get_or h.words j 0 = λ j n. get_or_append_left h.words (w ∷ []) 0 j (omega (arith, h.counted)) in
    record {
      words = h.words ++ w ∷ [];
      known =
          another-at (words_of arity columns row cells) (word_answers arity columns row cells) k w h.words
          (omega (arith, length-word_answers arity columns row cells)) (word_answer_at arity columns row cells k schema (Ok w) l at ∙ is) h.known;
      counted = length-append h.words (w ∷ []) ∙ ap (λ n. n + 1) h.counted;
      as_many = length-set new k column ∙ h.as_many;
      grown = below_more _ _
          (λ j n. let ne : j ≢ k = omega arith in get_or-set_other new k j column [] ne ∙ h.grown j n ∙ ap (λ (x : ℕ). get_or old j [] ++ x ∷ []) (sym (front j n)))
          (get_or-set_same new k column [] in' ∙ grows ∙ rw (h.kept k (omega arith), seam) refl);
      kept = λ j n. let ne : j ≢ k = omega arith in get_or-set_other new k j column [] ne ∙ h.kept j (omega arith);
    }

pub words-fail : (arity : ℕ) (columns : List Column) (row : ℕ) (cells : List (List ℕ)) (k : ℕ) (fault : TableFault) (schema : Column) (old new : List (List ℕ))
    → HasWords arity columns row cells k old new → k < length columns → schema ≡ get_or columns k schema
    → word_of row (arity + k) schema.scale (get_or cells (arity + k) []) ≡ Err fault → words_of arity columns row cells ≡ Err fault
words-fail arity columns row cells k fault schema old new h l at is =
    fails-at (words_of arity columns row cells) (word_answers arity columns row cells) k fault h.words
    (omega (arith, length-word_answers arity columns row cells)) (word_answer_at arity columns row cells k schema (Err fault) l at ∙ is) h.known

pub words-end : (arity : ℕ) (columns : List Column) (row : ℕ) (cells : List (List ℕ)) (k : ℕ) (old new : List (List ℕ)) → HasWords arity columns row cells k old new
    → length old ≡ length columns → k ≡ length columns
    → (words : List ℕ) × (words_of arity columns row cells ≡ Ok words) × (new ≡ with_row old words)
words-end arity columns row cells k old new h e f =
    let size : length h.words ≡ length old = h.counted ∙ f ∙ sym e in (
      h.words,
      ends-at (words_of arity columns row cells) (word_answers arity columns row cells) k h.words (omega (arith, length-word_answers arity columns row cells)) h.known,
      same_lists new (with_row old h.words) (h.as_many ∙ sym (length-with_row old h.words size))
          (λ j d l.
          let in' : j < length old = omega (arith, h.as_many) in
          let done : j < k = omega (arith, h.as_many) in
          get_or_default new j d [] l ∙ h.grown j done ∙ sym (with_row-at old h.words j d in' size)),
    )

-- ---- a whole row

pub row-many : (schema : Schema) (bound row : ℕ) (cells : List (List ℕ)) → MOST_ELEMENTS < row → element_of schema bound row cells ≡ Err TooManyRows
unfolding element_of
row-many schema bound row cells many = rw (lt-ltb MOST_ELEMENTS row many) refl

pub row-width : (schema : Schema) (bound row : ℕ) (cells : List (List ℕ)) → row ≤ MOST_ELEMENTS → (length cells ≡ length (headings schema) → ⊥) → element_of schema bound row cells ≡ Err (Width row)
unfolding element_of
row-width schema bound row cells few other = rw (le-ltb MOST_ELEMENTS row few, ne_eqb (length cells) (length (headings schema)) other) refl

pub row-cells : (schema : Schema) (bound row : ℕ) (cells : List (List ℕ)) → row ≤ MOST_ELEMENTS → length cells ≡ length (headings schema) → element_of schema bound row cells ≡ element_in schema bound row cells
unfolding element_of
row-cells schema bound row cells few same = rw (le-ltb MOST_ELEMENTS row few, eq-eqb (length cells) (length (headings schema)) same) refl

pub row-endpoints-fail : (schema : Schema) (bound row : ℕ) (cells : List (List ℕ)) (fault : TableFault)
    → Fails (endpoints_of bound schema.arity row cells) fault → Fails (element_in schema bound row cells) fault
unfolding element_in
row-endpoints-fail schema bound row cells fault (inl memory) = inl memory
row-endpoints-fail schema bound row cells fault (inr known) = inr (rw known refl)

pub row-words : (schema : Schema) (bound row : ℕ) (cells : List (List ℕ)) (endpoints endpoints' more : List ℕ) (columns columns' : List (List ℕ)) (result : Result (Unit {0}) TableFault)
    → endpoints_of bound schema.arity row cells ≡ Ok more → endpoints' ≡ endpoints ++ more
    → AddsWords (words_of schema.arity schema.columns row cells) columns columns' result → AddsElement (element_in schema bound row cells) endpoints endpoints' columns columns' result
unfolding element_in
row-words schema bound row cells endpoints endpoints' more columns columns' (Ok u) e grows (words, f, same) = (element more words, rw (e, f) refl, grows, same)
row-words schema bound row cells endpoints endpoints' more columns columns' (Err fault) e grows (inl memory) = inl memory
row-words schema bound row cells endpoints endpoints' more columns columns' (Err fault) e grows (inr known) = inr (rw (e, known) refl)

-- a row that states an element: there may be so many rows, it has as many endpoints and words as there have to be, and
-- each endpoint is below the bound
pub record IsRow (schema : Schema) (bound row : ℕ) (e : Element) : Type 0 where
  pub few : row ≤ MOST_ELEMENTS
  pub many_endpoints : length e.endpoints ≡ schema.arity
  pub many_words : length e.words ≡ length schema.columns
  pub below : All (λ endpoint. endpoint < bound) e.endpoints

pub row-is : (schema : Schema) (bound row : ℕ) (cells : List (List ℕ)) (e : Element) → element_of schema bound row cells ≡ Ok e → IsRow schema bound row e
unfolding element_of element_in endpoints_of words_of
row-is schema bound row cells e is = by (nat_lt MOST_ELEMENTS row) (length cells == length (headings schema)) refl is
  where
    parts : row ≤ MOST_ELEMENTS → element_in schema bound row cells ≡ Ok e → IsRow schema bound row e
    parts few is =
        let words_then = λ (endpoints : List ℕ). words_of schema.arity schema.columns row cells >>= λ words. ok TableFault (element endpoints words) in
        let (endpoints, first, rest) = bound-ok (endpoints_of bound schema.arity row cells) words_then e is in
        let (words, second, made) = bound-ok (words_of schema.arity schema.columns row cells) (λ (words : List ℕ). ok TableFault (element endpoints words)) e rest in
        let same : element endpoints words ≡ e = cc made in
        rw (← same) (record {
          few = few;
          many_endpoints = length-all_ok (endpoint_answers bound schema.arity row cells) endpoints first ∙ length-endpoint_answers bound schema.arity row cells;
          many_words = length-all_ok (word_answers schema.arity schema.columns row cells) words second ∙ length-word_answers schema.arity schema.columns row cells;
          below = each-value (λ endpoint. endpoint < bound) (λ position. endpoint_of bound row position (get_or cells position []))
              (λ position endpoint is. endpoint-below bound row position (get_or cells position []) endpoint is) (range_with_len 0 schema.arity) endpoints first;
        })

    by : (many wide : Bool) → nat_lt MOST_ELEMENTS row ≡ many
        → (if many then Err TooManyRows else if wide then element_in schema bound row cells else Err (Width row)) ≡ Ok e → IsRow schema bound row e
    by true wide t is = cc is
    by false false t is = cc is
    by false true t is = parts (ltb-false MOST_ELEMENTS row t) is
