-- How the reading of a record follows the records that are left.
use Rattle.std.proofs.Common.{◌≡◌, ◌≤◌, ◌<◌, ◌+◌, ℕ, zero, suc, Bool, true, false, List, [], ◌∷◌, ◌++◌, length, Option, Some, None, Ok, ◌⊎◌, inl, inr, refl, sym, ap, subst, arith, length-append, add-one}
use Rattle.std.specs.List.{All, AllByRecursion}
use Rattle.std.specs.Borrow.{Bor}
use Rattle.std.specs.Prelude.{◌-◌, ◌^◌, if◌then◌else◌}
use Rattle.std.proofs.lemmas.List.Elements.{All-from_recursion}
use Rattle.csv.specs.Machine.{Read, ends_at_end, field_after, fields_after, is_end, next_record, step}
use Rattle.csv.specs.Reading.{NextIs, ReadRecord, ReadsNext, default_config, has_failed, is_bom, pending_of, reader_state, reader_trim, Ready, records, records_from, records_next, strip_bom}
use Rattle.csv.specs.declared.parser.Action.{Action}
use Rattle.csv.specs.declared.parser.Action.TheVariants as act
use Rattle.csv.specs.declared.parser.Config.{Config}
use Rattle.csv.specs.declared.parser.State.{State}
use Rattle.csv.specs.declared.parser.State.TheVariants as st
use Rattle.csv.specs.declared.reader.Reader.{Reader}
use Rattle.csv.specs.declared.reader.Trim.TheVariants as trim
use Rattle.set_tables.specs.Records.{AreShort, ReadsRow, ReadsTable, left_of, records_left, unread}

abbrev value-or : {A : Type 0} → A → Option A → A
value-or d None = d
value-or d (Some x) = x

same-value : {A : Type 0} {x y : A} → Some x ≡ Some y → x ≡ y
same-value {A} {x} {y} e = ap (value-or x) e

-- a record takes a byte, or it is the last and ends at the end of the bytes
takes-byte : (cfg : Config) (s : State) (fields : List (List ℕ)) (field xs : List ℕ) (p : Read) → next_record cfg s fields field xs ≡ Some p
    → ((p.1 ≡ st.StartRecord) × (p.2 ≡ [])) ⊎ (length p.2 < length xs)
unfolding next_record
takes-byte cfg s fields field [] p h = by (ends_at_end s) refl h
  where
    by : (b : Bool) → ends_at_end s ≡ b → next_record cfg s fields field [] ≡ Some p → ((p.1 ≡ st.StartRecord) × (p.2 ≡ [])) ⊎ (length p.2 < 0)
    by true e g = let q = same-value (rw e at g) in inl (ap (λ (r : Read). r.1) (sym q), ap (λ (r : Read). r.2) (sym q))
    by false e g = cc (rw e at g)
takes-byte cfg s fields field (c ∷ rest) p h = by (is_end (step cfg s c).1) refl h (takes-byte cfg (step cfg s c).0 _ _ rest p)
  where
    by : (b : Bool) → is_end (step cfg s c).1 ≡ b → next_record cfg s fields field (c ∷ rest) ≡ Some p
        → (next_record cfg (step cfg s c).0 (fields_after (step cfg s c).1 fields field) (field_after (step cfg s c).1 c field) rest ≡ Some p → ((p.1 ≡ st.StartRecord) × (p.2 ≡ [])) ⊎ (length p.2 < length rest))
        → ((p.1 ≡ st.StartRecord) × (p.2 ≡ [])) ⊎ (length p.2 < length (c ∷ rest))
    by true e g more = let q = same-value (rw e at g) in inr (let n : length rest ≡ length p.2 = ap (λ (r : Read). length r.2) q in omega arith)
    by false e g more = elim (more (rw e at g)) [ inl last ↦ inl last | inr less ↦ inr (omega arith) ]

-- no record is left at the end of the bytes
no-more : (cfg : Config) (n : ℕ) → records_from cfg n st.StartRecord [] ≡ []
unfolding next_record records_from
no-more cfg zero = refl
no-more cfg (suc n) = refl

-- more turns than bytes find every record
enough-turns : (cfg : Config) (n m : ℕ) (s : State) (xs : List ℕ) → length xs < n → length xs < m → records_from cfg n s xs ≡ records_from cfg m s xs
unfolding records_from
enough-turns cfg zero m s xs l k = absurd (omega arith)
enough-turns cfg (suc n) zero s xs l k = absurd (omega arith)
enough-turns cfg (suc n) (suc m) s xs l k = by (next_record cfg s [] [] xs) refl (λ t ys. enough-turns cfg n m t ys)
  where
    by : (o : Option Read) → next_record cfg s [] [] xs ≡ o → ((t : State) (ys : List ℕ) → length ys < n → length ys < m → records_from cfg n t ys ≡ records_from cfg m t ys)
        → records_next (records_from cfg n) o ≡ records_next (records_from cfg m) o
    by None e more = refl
    by (Some p) e more = elim (takes-byte cfg s [] [] xs p e) [
      | inl last ↦ rw (last.0, last.1) (rw (no-more cfg n, no-more cfg m) refl)
      | inr less ↦ ap (λ (r : List (List (List ℕ))). p.0 ∷ r) (more p.1 p.2 (omega arith) (omega arith))
    ]

-- the first of the records that are left, and the others
pub left-some : (s s2 : State) (xs : List ℕ) (b : Option (List ℕ)) (fields : List (List ℕ))
    → ReadsNext default_config s (Some xs) b true fields s2 → records_left s (Some xs) ≡ fields ∷ records_left s2 b
unfolding records_from
left-some s s2 xs None fields r = absurd r
left-some s s2 xs (Some ys) fields r = rw (add-one (length xs)) (by (next_record default_config s [] [] xs) refl r)
  where
    by : (o : Option Read) → next_record default_config s [] [] xs ≡ o → NextIs o true fields s2 ys
        → records_next (records_from default_config (length xs)) o ≡ fields ∷ records_from default_config (length ys + 1) s2 ys
    by None e n = cc n
    by (Some p) e n = rw (n.1, n.2, n.3) (ap (λ (t : List (List (List ℕ))). p.0 ∷ t) (elim (takes-byte default_config s [] [] xs p e) [
      | inl last ↦ rw (last.0, last.1) (rw (no-more default_config (length xs), no-more default_config 1) refl)
      | inr less ↦ enough-turns default_config (length xs) (length p.2 + 1) p.1 p.2 less (omega arith)
    ]))

-- none of them
pub left-none : (s s2 : State) (xs : List ℕ) (b : Option (List ℕ)) (fields : List (List ℕ))
    → ReadsNext default_config s (Some xs) b false fields s2 → records_left s (Some xs) ≡ []
unfolding records_from
left-none s s2 xs None fields r = absurd r
left-none s s2 xs (Some ys) fields r = rw (add-one (length xs)) (by (next_record default_config s [] [] xs) r)
  where
    by : (o : Option Read) → NextIs o false fields s2 ys → records_next (records_from default_config (length xs)) o ≡ []
    by None n = refl
    by (Some p) n = cc n.0

-- fields of at most n bytes, and another
push-short : (n : ℕ) (fields : List (List ℕ)) (field : List ℕ) → AllByRecursion (λ g. length g ≤ n) fields → length field ≤ n → AllByRecursion (λ g. length g ≤ n) (fields ++ field ∷ [])
push-short n [] field h l = (l, tt)
push-short n (g ∷ fields) field h l = (h.0, push-short n fields field h.1 l)

short-after : (n : ℕ) (a : Action) (fields : List (List ℕ)) (field : List ℕ) → AllByRecursion (λ g. length g ≤ n) fields → length field ≤ n → AllByRecursion (λ g. length g ≤ n) (fields_after a fields field)
short-after n act.EndField fields field h l = push-short n fields field h l
short-after n act.Skip fields field h l = h
short-after n act.Copy fields field h l = h
short-after n act.EndRecord fields field h l = push-short n fields field h l

grows-by-one : (a : Action) (c : ℕ) (field : List ℕ) → length (field_after a c field) ≤ length field + 1
grows-by-one act.Copy c field = rw (length-append field (c ∷ [])) (omega arith)
grows-by-one act.EndField c field = omega arith
grows-by-one act.Skip c field = omega arith
grows-by-one act.EndRecord c field = omega arith

-- the fields of a record hold no more bytes than there are
short-fields : (n : ℕ) (cfg : Config) (s : State) (fields : List (List ℕ)) (field xs : List ℕ) (p : Read) → next_record cfg s fields field xs ≡ Some p
    → AllByRecursion (λ g. length g ≤ n) fields → length field + length xs ≤ n → AllByRecursion (λ g. length g ≤ n) p.0
unfolding next_record
short-fields n cfg s fields field [] p h short l = by (ends_at_end s) refl h
  where
    by : (b : Bool) → ends_at_end s ≡ b → next_record cfg s fields field [] ≡ Some p → AllByRecursion (λ g. length g ≤ n) p.0
    by true e g = let q = same-value (rw e at g) in subst (λ (r : Read). AllByRecursion (λ g. length g ≤ n) r.0) q (push-short n fields field short (omega arith))
    by false e g = cc (rw e at g)
short-fields n cfg s fields field (c ∷ rest) p h short l = by (is_end (step cfg s c).1) refl h (short-fields n cfg (step cfg s c).0 _ _ rest p)
  where
    by : (b : Bool) → is_end (step cfg s c).1 ≡ b → next_record cfg s fields field (c ∷ rest) ≡ Some p
        → (next_record cfg (step cfg s c).0 (fields_after (step cfg s c).1 fields field) (field_after (step cfg s c).1 c field) rest ≡ Some p
        → AllByRecursion (λ g. length g ≤ n) (fields_after (step cfg s c).1 fields field) → length (field_after (step cfg s c).1 c field) + length rest ≤ n → AllByRecursion (λ g. length g ≤ n) p.0)
        → AllByRecursion (λ g. length g ≤ n) p.0
    by true e g more = let q = same-value (rw e at g) in subst (λ (r : Read). AllByRecursion (λ g. length g ≤ n) r.0) q (short-after n (step cfg s c).1 fields field short (omega arith))
    by false e g more = more (rw e at g) (short-after n (step cfg s c).1 fields field short (omega arith)) (omega (arith, grows-by-one (step cfg s c).1 c field))

-- the cells of every record are as short as all the bytes
pub short-records : (n m : ℕ) (cfg : Config) (s : State) (xs : List ℕ) → length xs ≤ m → AllByRecursion (AllByRecursion (λ g. length g ≤ m)) (records_from cfg n s xs)
unfolding records_from
short-records zero m cfg s xs l = tt
short-records (suc n) m cfg s xs l = by (next_record cfg s [] [] xs) refl (λ t ys. short-records n m cfg t ys)
  where
    by : (o : Option Read) → next_record cfg s [] [] xs ≡ o → ((t : State) (ys : List ℕ) → length ys ≤ m → AllByRecursion (AllByRecursion (λ g. length g ≤ m)) (records_from cfg n t ys))
        → AllByRecursion (AllByRecursion (λ g. length g ≤ m)) (records_next (records_from cfg n) o)
    by None e more = tt
    by (Some p) e more = (
      short-fields m cfg s [] [] xs p e tt (omega arith),
      more p.1 p.2 (elim (takes-byte cfg s [] [] xs p e) [
        | inl last ↦ rw last.1 (omega arith)
        | inr less ↦ omega arith
      ]),
    )

-- a list with its byte order mark is no shorter
strip-length : (xs : List ℕ) → length (strip_bom xs) ≤ length xs
unfolding strip_bom
strip-length [] = omega arith
strip-length (a ∷ []) = omega arith
strip-length (a ∷ b ∷ []) = omega arith
strip-length (a ∷ b ∷ c ∷ rest) = by (is_bom a b c)
  where
    by : (t : Bool) → length (if t then rest else a ∷ b ∷ c ∷ rest) ≤ length (a ∷ b ∷ c ∷ rest)
    by true = omega arith
    by false = omega arith

pub are-short : (xs : List ℕ) → length xs < 2 ^ 32 → All AreShort (records default_config (strip_bom xs))
are-short xs l =
    let m : length (strip_bom xs) ≤ 2 ^ 32 - 1 = omega (arith, strip-length xs) in
    let by : AllByRecursion (AllByRecursion (λ g. length g ≤ 2 ^ 32 - 1)) (records default_config (strip_bom xs)) = short-records _ (2 ^ 32 - 1) default_config st.StartRecord (strip_bom xs) m in
    λ k d in' j e at. let h = All-from_recursion (λ g. length g ≤ 2 ^ 32 - 1) _ (All-from_recursion _ _ by k d in') j e at in omega (arith, h)

-- a reader over a slice that has not failed has known bytes left
known : (h c : Bool) (x y : List ℕ) → h ≡ false → (zs : List ℕ) × ((if h then None else (if c then Some x else Some y)) ≡ Some zs)
known true c x y e = cc e
known false true x y e = (x, refl)
known false false x y e = (y, refl)

pub knows-bytes : (a : Reader (Bor (List ℕ))) → has_failed a ≡ false → (xs : List ℕ) × (unread a ≡ Some xs)
knows-bytes a e = known (has_failed a) _ _ _ e

-- what a reader found is the first of the records that were left
pub found-first : (a b : Reader (Bor (List ℕ))) (fields : List (List ℕ)) → has_failed a ≡ false → ReadsTable a → ReadRecord (λ bytes. Some bytes.now) a b true fields
    → left_of a ≡ fields ∷ left_of b
found-first a b fields e t r =
    let (xs, src) = knows-bytes a e in
    let after : unread b ≡ pending_of (Some b.rdr.now) b = rw r.1 refl in
    rw (src, after) (left-some (reader_state a) (reader_state b) xs _ fields (rw (t.marks, src) at r.0))

pub found-none : (a b : Reader (Bor (List ℕ))) (fields : List (List ℕ)) → has_failed a ≡ false → ReadsTable a → ReadRecord (λ bytes. Some bytes.now) a b false fields
    → left_of a ≡ []
found-none a b fields e t r =
    let (xs, src) = knows-bytes a e in
    rw src (left-none (reader_state a) (reader_state b) xs _ fields (rw (t.marks, src) at r.0))

-- a reader that has failed has nothing left
failed-none : (a : Reader (Bor (List ℕ))) → has_failed a ≡ true → left_of a ≡ []
failed-none a e = rw e refl

-- a read takes the first of the records that were left, or there was none
pub reads-row : (a b : Reader (Bor (List ℕ))) (fields : List (List ℕ)) (found : Bool) → (has_failed a ≡ true → found ≡ false) → (has_failed a ≡ false → ReadsTable a)
    → (reader_trim a ≡ trim.None → Ready a → ReadRecord (λ bytes. Some bytes.now) a b found fields)
    → ReadsRow (left_of a) fields (left_of b) (Ok found)
reads-row a b fields found stopped facts reads = by (has_failed a) found refl stopped reads
  where
    by : (h f : Bool) → has_failed a ≡ h → (has_failed a ≡ true → f ≡ false) → (reader_trim a ≡ trim.None → Ready a → ReadRecord (λ bytes. Some bytes.now) a b f fields)
        → ReadsRow (left_of a) fields (left_of b) (Ok f)
    by true true e none r = cc (none e)
    by true false e none r = failed-none a e
    by false true e none r = let t = facts e in found-first a b fields e t (r t.trims_nothing t.ready)
    by false false e none r = let t = facts e in found-none a b fields e t (r t.trims_nothing t.ready)
