-- The text of a table, row by row.
use Rattle.std.proofs.Common.{arith, ◌≡◌, ◌<◌, ◌≤◌, ◌+◌, ◌-◌, zero, suc, true, false, ℕ, List, [], ◌∷◌, ◌++◌, ◌⊎◌, inl, inr, Option, Some, None, Ok, Err, Result, take, drop, get_or, length, refl, sym, ap, subst, ◌∙◌, append_assoc}
use Rattle.std.specs.Prelude.{IfErr, OnOk, OnErr}
use Rattle.std.proofs.KnownBytes.{Appends-nil}
use Rattle.std.specs.Io.KnownBytes.{Appends}
use Rattle.std.proofs.lemmas.List.{append-nil, take_more, take_all, take-append-drop}
use Rattle.csv.specs.Writing.{default_writer, escaped, field_text, fields_text, is_blank, needs_quotes, row_text}
use Rattle.csv.proofs.WriteFacts.{escaped-append, fields-snoc}
use Rattle.std.proofs.lemmas.List.FromFn.{length-map-range_with_len, map-range_with_len_more}
use Rattle.fkv_functions.specs.declared.names.Name.{Name}
use Rattle.fkv_runs.specs.Merging.{first_pair}
use Rattle.fkv_functions.specs.declared.refusals.Refused.{Refused}
use Rattle.fkv_functions.specs.declared.refusals.Refused.TheVariants.{Unwritable}
use Rattle.fkv_streams.specs.Counting.{CountsOnly, one_more}
use Rattle.fkv_feeds.specs.Writing.{IsUnwritten, fields_of, pair_text, table_text}
use Rattle.fkv_streams.specs.Streams.{AppendsPrefix, PassesOn}
use Rattle.fkv_streams.proofs.BufferLemmas.{prefix-more, prefix-longer, passes-behind, passes-front, passes-out, front-out, passes-none}

-- a field in quotes, and one without
pub field-plain : (field : List ℕ) → needs_quotes default_writer field ≡ false → field_text default_writer field ≡ field
field-plain field e = rw e refl

pub field-quoted : (field : List ℕ) → needs_quotes default_writer field ≡ true → field_text default_writer field ≡ (34 ∷ []) ++ (escaped default_writer field ++ 34 ∷ [])
field-quoted field e = rw e refl

-- ---- the fields of a value
module _ {V : Type 0} (at : V → ℕ → List ℕ) (v : V) where
  pub fields-start : (a : Option (List ℕ)) (held : List ℕ) → PassesOn a a held (held ++ fields_text default_writer (fields_of 0 at v))
  unfolding fields_text
  fields-start a held = passes-none a held

  fields-next : (n : ℕ) → fields_text default_writer (fields_of (n + 1) at v) ≡ fields_text default_writer (fields_of n at v) ++ 44 ∷ field_text default_writer (at v n)
  fields-next n =
      ap (fields_text default_writer) (map-range_with_len_more (at v) 0 n n (omega arith)) ∙ fields-snoc default_writer (fields_of n at v) (at v n)

  pub fields-more : (a b c : Option (List ℕ)) (before held after : List ℕ) (n : ℕ)
      → PassesOn a b held (before ++ fields_text default_writer (fields_of n at v))
      → PassesOn b c after (held ++ 44 ∷ field_text default_writer (at v n))
      → PassesOn a c after (before ++ fields_text default_writer (fields_of (n + 1) at v))
  fields-more a b c before held after n p q =
      subst (λ t. PassesOn a c after (before ++ t)) (sym (fields-next n))
      (passes-behind a b c before held after (fields_text default_writer (fields_of n at v)) (44 ∷ field_text default_writer (at v n)) p q)

  -- the fields before a place are the front of all
  fields-apart : (n more : ℕ) → (behind : List ℕ) × (fields_text default_writer (fields_of (n + more) at v) ≡ fields_text default_writer (fields_of n at v) ++ behind)
  fields-apart n zero =
      let e : n + 0 ≡ n = omega arith in
      ([], rw e (sym (append-nil (fields_text default_writer (fields_of n at v)))))
  fields-apart n (suc more) =
      let so_far = fields-apart n more in
      let last : List ℕ = 44 ∷ field_text default_writer (at v (n + more)) in
      let e : n + suc more ≡ (n + more) + 1 = omega arith in (
        so_far.0 ++ last,
        rw e (fields-next (n + more) ∙ ap (λ t. t ++ last) so_far.1 ∙ append_assoc (fields_text default_writer (fields_of n at v)) so_far.0 last),
      )

  pub fields-front : (a b c : Option (List ℕ)) (before held : List ℕ) (n count : ℕ) → n < count
      → PassesOn a b held (before ++ fields_text default_writer (fields_of n at v))
      → AppendsPrefix b c (held ++ 44 ∷ field_text default_writer (at v n))
      → AppendsPrefix a c (before ++ fields_text default_writer (fields_of count at v))
  fields-front a b c before held n count low p q =
      let rest = fields-apart (n + 1) (count - (n + 1)) in
      let all : (n + 1) + (count - (n + 1)) ≡ count = omega arith in
      let here : AppendsPrefix a c (before ++ fields_text default_writer (fields_of (n + 1) at v)) =
      subst (λ t. AppendsPrefix a c (before ++ t)) (sym (fields-next n))
      (passes-front a b c before held (fields_text default_writer (fields_of n at v)) (44 ∷ field_text default_writer (at v n)) p q) in
      subst (λ t. AppendsPrefix a c (before ++ t)) (sym rest.1 ∙ ap (λ m. fields_text default_writer (fields_of m at v)) all)
      (prefix-longer a c before (fields_text default_writer (fields_of (n + 1) at v)) rest.0 here)

-- a row: the key, the fields behind it, and a line feed
row-of : (key : List ℕ) (fields : List (List ℕ)) → 1 ≤ length fields
    → field_text default_writer key ++ (fields_text default_writer fields ++ 10 ∷ []) ≡ row_text default_writer (key ∷ fields)
unfolding is_blank
row-of key [] some = absurd (omega arith)
row-of key (field ∷ rest) some =
    sym (append_assoc (field_text default_writer key) (fields_text default_writer (field ∷ rest)) (10 ∷ []))

pub row-parts : {V : Type 0} (count : ℕ) (at : V → ℕ → List ℕ) (v : V) (key : List ℕ) → 1 ≤ count
    → field_text default_writer key ++ (fields_text default_writer (fields_of count at v) ++ 10 ∷ []) ≡ row_text default_writer (key ∷ fields_of count at v)
row-parts count at v key some =
    row-of key (fields_of count at v) (rw (length-map-range_with_len (at v) 0 count) some)

-- ---- the bytes of a field in quotes
pub escaped-start : (a : Option (List ℕ)) (held : List ℕ) → PassesOn a a held (held ++ escaped default_writer [])
unfolding escaped
escaped-start a held = passes-none a held

pub escaped-more : (a b c : Option (List ℕ)) (before held after field : List ℕ) (i : ℕ) → i < length field
    → PassesOn a b held (before ++ escaped default_writer (take i field))
    → PassesOn b c after (held ++ escaped default_writer (get_or field i 0 ∷ []))
    → PassesOn a c after (before ++ escaped default_writer (take (i + 1) field))
escaped-more a b c before held after field i low p q =
    subst (λ t. PassesOn a c after (before ++ t))
    (sym (escaped-append default_writer (take i field) (get_or field i 0 ∷ [])) ∙ ap (escaped default_writer) (sym (take_more field i 0 low)))
    (passes-behind a b c before held after (escaped default_writer (take i field)) (escaped default_writer (get_or field i 0 ∷ [])) p q)

pub escaped-front : (a b c : Option (List ℕ)) (before held field : List ℕ) (i : ℕ) → i < length field
    → PassesOn a b held (before ++ escaped default_writer (take i field))
    → AppendsPrefix b c (held ++ escaped default_writer (get_or field i 0 ∷ []))
    → AppendsPrefix a c (before ++ (escaped default_writer field ++ 34 ∷ []))
escaped-front a b c before held field i low p q =
    let taken : escaped default_writer (take i field) ++ escaped default_writer (get_or field i 0 ∷ []) ≡ escaped default_writer (take (i + 1) field) =
    sym (escaped-append default_writer (take i field) (get_or field i 0 ∷ [])) ∙ ap (escaped default_writer) (sym (take_more field i 0 low)) in
    let here : AppendsPrefix a c (before ++ escaped default_writer (take (i + 1) field)) =
    subst (λ t. AppendsPrefix a c (before ++ t)) taken
    (passes-front a b c before held (escaped default_writer (take i field)) (escaped default_writer (get_or field i 0 ∷ [])) p q) in
    let whole : escaped default_writer (take (i + 1) field) ++ (escaped default_writer (drop (i + 1) field) ++ 34 ∷ []) ≡ escaped default_writer field ++ 34 ∷ [] =
    sym (append_assoc (escaped default_writer (take (i + 1) field)) (escaped default_writer (drop (i + 1) field)) (34 ∷ []))
    ∙ ap (λ t. t ++ 34 ∷ []) (sym (escaped-append default_writer (take (i + 1) field) (drop (i + 1) field)) ∙ ap (escaped default_writer) (take-append-drop (i + 1) field)) in
    subst (λ t. AppendsPrefix a c (before ++ t)) whole
    (prefix-longer a c before (escaped default_writer (take (i + 1) field)) (escaped default_writer (drop (i + 1) field) ++ 34 ∷ []) here)

pub escaped-whole : (a b : Option (List ℕ)) (before held field : List ℕ) (i : ℕ) → length field ≤ i
    → PassesOn a b held (before ++ escaped default_writer (take i field)) → PassesOn a b held (before ++ escaped default_writer field)
escaped-whole a b before held field i all p = subst (λ t. PassesOn a b held (before ++ escaped default_writer t)) (take_all i field all) p

-- ---- rows, one after the other
module _ {A : Type 0} where
  pub first-cons : (xs : List A) (x : A) → Some x ≡ first_pair xs → xs ≡ x ∷ drop 1 xs
  first-cons [] x e = absurd (cc)
  first-cons (y ∷ ys) x e = (let s : y ≡ x = cc in ap (λ z. z ∷ ys) s)

  pub none-first : (xs : List A) → None ≡ first_pair xs → xs ≡ []
  none-first [] e = refl
  none-first (y ∷ ys) e = absurd (cc)

module _ {V : Type 0} (value : V → List (List ℕ)) where
  -- the rows so far were put, and with those of the pairs that are left they are the table's text
  abbrev pub Written : Option (List ℕ) → Option (List ℕ) → List ℕ → List (Name × V) → List (Name × V) → Type 0
  Written a b held left all = (done : List ℕ) × PassesOn a b held done × (done ++ table_text value left ≡ table_text value all)

  behind : (done : List ℕ) (left all : List (Name × V)) (x : Name × V) → Some x ≡ first_pair left → done ++ table_text value left ≡ table_text value all
      → (done ++ pair_text value x) ++ table_text value (drop 1 left) ≡ table_text value all
  behind done left all x e h =
      append_assoc done (pair_text value x) (table_text value (drop 1 left)) ∙ ap (λ xs. done ++ table_text value xs) (sym (first-cons left x e)) ∙ h

  pub written-more : (a b c : Option (List ℕ)) (held after : List ℕ) (left all : List (Name × V)) (x : Name × V) → Some x ≡ first_pair left
      → Written a b held left all → PassesOn b c after (held ++ pair_text value x) → Written a c after (drop 1 left) all
  written-more a b c held after left all x e w p =
      (w.0 ++ pair_text value x, passes-behind a b c [] held after w.0 (pair_text value x) w.1 p, behind w.0 left all x e w.2)

  pub written-front : (a b c : Option (List ℕ)) (held : List ℕ) (left all : List (Name × V)) (x : Name × V) → Some x ≡ first_pair left
      → Written a b held left all → AppendsPrefix b c (held ++ pair_text value x) → AppendsPrefix a c (table_text value all)
  written-front a b c held left all x e w p =
      subst (AppendsPrefix a c) (behind w.0 left all x e w.2)
      (prefix-more a c (w.0 ++ pair_text value x) (table_text value (drop 1 left)) (passes-front a b c [] held w.0 (pair_text value x) w.1 p))

  whole : (a b : Option (List ℕ)) (held : List ℕ) (left all : List (Name × V)) → first_pair left ≡ None → Written a b held left all → PassesOn a b held (table_text value all)
  whole a b held [] all e w = subst (PassesOn a b held) (sym (append-nil w.0) ∙ w.2) w.1
  whole a b held (y ∷ ys) all e w = absurd (cc)

  pub written-whole : {T E : Type 0} (a b c : Option (List ℕ)) (held : List ℕ) (left all : List (Name × V)) (r : Result T E) → first_pair left ≡ None
      → Written a b held left all → OnOk r (Appends b c held) → OnOk r (Appends a c (table_text value all))
  written-whole a b c held left all r e w p = passes-out a b c held (table_text value all) r (whole a b held left all e w) p

  pub written-out : {T E : Type 0} (a b c : Option (List ℕ)) (held : List ℕ) (left all : List (Name × V)) (r : Result T E) → first_pair left ≡ None
      → Written a b held left all → OnErr r (AppendsPrefix b c held) → OnErr r (AppendsPrefix a c (table_text value all))
  written-out a b c held left all r e w p = front-out a b c held (table_text value all) r (whole a b held left all e w) p

  -- ---- rows that are put some at a time
  pub written-none : (a : Option (List ℕ)) (held : List ℕ) (all : List (Name × V)) → held ≡ [] → Written a a held all all
  written-none a held all e = ([], ([], Appends-nil a, e), refl)

  pub written-put : (a b c : Option (List ℕ)) (held after : List ℕ) (left rest all : List (Name × V)) → Written a b held left all
      → (text : List ℕ) × PassesOn b c after (held ++ text) × (text ++ table_text value rest ≡ table_text value left)
      → Written a c after rest all
  written-put a b c held after left rest all w p =
      (w.0 ++ p.0, passes-behind a b c [] held after w.0 p.0 w.1 p.1, append_assoc w.0 p.0 (table_text value rest) ∙ ap (λ t. w.0 ++ t) p.2 ∙ w.2)

  pub written-prefix : (a b c : Option (List ℕ)) (held : List ℕ) (left all : List (Name × V)) → Written a b held left all
      → AppendsPrefix b c (held ++ table_text value left) → AppendsPrefix a c (table_text value all)
  written-prefix a b c held left all w p = subst (AppendsPrefix a c) w.2 (passes-front a b c [] held w.0 (table_text value left) w.1 p)

module _ {V : Type 0} (value : V → List (List ℕ)) where
  -- ---- rows of any pairs
  pub one-row : (x : Name × V) → table_text value (x ∷ []) ≡ pair_text value x
  one-row x = append-nil (pair_text value x)

  text-append : (xs ys : List (Name × V)) → table_text value (xs ++ ys) ≡ table_text value xs ++ table_text value ys
  text-append [] ys = refl
  text-append (x ∷ xs) ys = ap (λ t. pair_text value x ++ t) (text-append xs ys) ∙ sym (append_assoc (pair_text value x) (table_text value xs) (table_text value ys))

  pub as-written : (a b : Option (List ℕ)) (held : List ℕ) (done : List (Name × V)) → PassesOn a b held (table_text value done) → Written value a b held [] done
  as-written a b held done p = (table_text value done, p, append-nil (table_text value done))

  pub rows-put : (a b c : Option (List ℕ)) (held after : List ℕ)
      → (done : List (Name × V)) × PassesOn a b held (table_text value done)
      → (some : List (Name × V)) × PassesOn b c after (held ++ table_text value some)
      → (all : List (Name × V)) × PassesOn a c after (table_text value all)
  rows-put a b c held after p q =
      (p.0 ++ q.0, subst (PassesOn a c after) (sym (text-append p.0 q.0)) (passes-behind a b c [] held after (table_text value p.0) (table_text value q.0) p.1 q.1))

  pub rows-front : (a b c : Option (List ℕ)) (held : List ℕ) (done some : List (Name × V)) → PassesOn a b held (table_text value done)
      → AppendsPrefix b c (held ++ table_text value some) → AppendsPrefix a c (table_text value (done ++ some))
  rows-front a b c held done some p q =
      subst (AppendsPrefix a c) (sym (text-append done some)) (passes-front a b c [] held (table_text value done) (table_text value some) p q)

-- ---- why they were not all put
module _ {P : Type 0} (refuses : P → P → Refused → Type 0) where
  pub unwritten-more : (a c : Option (List ℕ)) (first old new : ℕ) (e : Refused) → old ≡ first
      → ((e ≡ Unwritable) × (new ≡ one_more old)) ⊎ ((was : P) × (is : P) × refuses was is e × (new ≡ old))
      → IsUnwritten refuses a c first new e
  unwritten-more a c first old new e same (inl h) = inr (inl (h.0, h.1 ∙ ap one_more same))
  unwritten-more a c first old new e same (inr h) = inr (inr (inr (h.0, h.1, h.2, h.3 ∙ same)))

  pub unwritten-last : {T : Type 0} (a c : Option (List ℕ)) (first old new : ℕ) (r : Result T Refused) → old ≡ first
      → IfErr r (λ e. e ≡ Unwritable) → CountsOnly Unwritable r old new → IfErr r (IsUnwritten refuses a c first new)
  unwritten-last a c first old new (Ok x) same only counted = tt
  unwritten-last a c first old new (Err e) same only counted = inr (inl (only, counted.counted (ap (λ f. Err f) only) ∙ ap one_more same))

pub steady-last : {T : Type 0} (first old new : ℕ) (r : Result T Refused) → old ≡ first → CountsOnly Unwritable r old new → OnOk r (new ≡ first)
steady-last first old new (Ok x) same counted = counted.steady (λ e. absurd (cc)) ∙ same
steady-last first old new (Err e) same counted = tt
