-- The records of a text that is cut between two of them.
use Rattle.std.proofs.Common.{◌≡◌, ◌+◌, ◌-◌, ◌≤◌, inl, inr, ℕ, List, [], ◌∷◌, ◌++◌, Bool, true, false, cond, Some, None, refl, sym, ap, subst, ◌∙◌, arith, length, take, drop, take-add}
use Rattle.std.proofs.lemmas.List.Sums.{fold-append}
use Rattle.csv.specs.Machine.{Read, step, next_record, is_end, fields_after, field_after}
use Rattle.csv.specs.Reading.{Reached, AreRecords, default_config, strip_bom}
use Rattle.csv.specs.declared.parser.State.{State}
use Rattle.csv.specs.declared.parser.State.TheVariants as st
use Rattle.fkv_blocks.specs.Cutting.{IsBetween, AreRecordsOf, IsCut, block_of, state_after}
use Rattle.fkv_blocks.proofs.StepLemmas.{Step, is_open, open_ends, open_goes, between_begins, end_between, same_step}

-- ---- one record
some_none : (q : Read) → Some q ≡ None → ⊥
some_none q e = cc

-- a record that is read of a text is read of a longer one, with the same state behind it
abbrev pub Stays : State → List (List ℕ) → List ℕ → List ℕ → Read → Type 0
Stays s fields field xs q =
    (state_after q.1 q.2 ≡ state_after s xs)
    × IsBetween q.1
    × ((ys : List ℕ) → next_record default_config s fields field (xs ++ ys) ≡ Some (q.0, q.1, q.2 ++ ys))

pub some_stays : (s : State) (fields : List (List ℕ)) (field xs : List ℕ) (q : Read) → next_record default_config s fields field xs ≡ Some q
    → IsBetween (state_after s xs)
    → Stays s fields field xs q
unfolding next_record
some_stays s fields field [] q e between = absurd (some_none q (sym (rw between at e)))
some_stays s fields field (c ∷ xs) q e between =
    by (is_end (step default_config s c).1) refl
    (some_stays (step default_config s c).0 (fields_after (step default_config s c).1 fields field) (field_after (step default_config s c).1 c field) xs q)
  where
    by : (b : Bool) → is_end (step default_config s c).1 ≡ b
        → (next_record default_config (step default_config s c).0 (fields_after (step default_config s c).1 fields field) (field_after (step default_config s c).1 c field) xs ≡ Some q
        → IsBetween (state_after (step default_config s c).0 xs)
        → Stays (step default_config s c).0 (fields_after (step default_config s c).1 fields field) (field_after (step default_config s c).1 c field) xs q)
        → Stays s fields field (c ∷ xs) q
    by true h rest =
        let now : Read = (fields_after (step default_config s c).1 fields field, (step default_config s c).0, xs) in
        let got : Some now ≡ Some q = rw h at e in
        let is : now ≡ q = cc in
        let here : Stays s fields field (c ∷ xs) now = (refl, end_between s c h, λ ys. rw h refl) in
        subst (Stays s fields field (c ∷ xs)) is here
    by false h rest =
        let more = rest (rw h at e) between in
        (more.0, more.1, λ ys. rw h (more.2 ys))

-- inside a record the end of a text ends one
none_open : (s : State) (fields : List (List ℕ)) (field xs : List ℕ) → is_open s ≡ true → next_record default_config s fields field xs ≡ None → ⊥
unfolding next_record
none_open s fields field [] o e = some_none (fields ++ (field ∷ []), st.StartRecord, []) (rw (open_ends s o) at e)
none_open s fields field (c ∷ xs) o e =
    elim (open_goes s c o) [
      | inl g ↦ some_none (fields_after (step default_config s c).1 fields field, (step default_config s c).0, xs) (rw g.0 at e)
      | inr g ↦ none_open (step default_config s c).0 (fields_after (step default_config s c).1 fields field) (field_after (step default_config s c).1 c field) xs g.1 (rw g.0 at e)
    ]

-- between records all states are alike
pub between_alike : (s : State) (xs : List ℕ) → IsBetween s → next_record default_config s [] [] xs ≡ next_record default_config st.StartRecord [] [] xs
unfolding next_record
between_alike st.StartRecord xs b = refl
between_alike st.StartField xs b = absurd (cc)
between_alike st.InField xs b = absurd (cc)
between_alike st.InQuoted xs b = absurd (cc)
between_alike st.AfterQuote xs b = absurd (cc)
between_alike st.InEscape xs b = absurd (cc)
between_alike st.InComment xs b = absurd (cc)
between_alike st.AfterCr [] b = refl
between_alike st.AfterCr (c ∷ xs) b =
    ap (λ (r : Step). cond (is_end r.1) (Some (fields_after r.1 [] [], r.0, xs)) (next_record default_config r.0 (fields_after r.1 [] []) (field_after r.1 c []) xs))
    (same_step c)

-- a text with no record in it leaves the reader where it is
abbrev NoneStays : State → List ℕ → Type 0
NoneStays s xs =
    IsBetween (state_after s xs)
    × ((ys : List ℕ) → next_record default_config s [] [] (xs ++ ys) ≡ next_record default_config (state_after s xs) [] [] ys)

none_stays : (s : State) (xs : List ℕ) → IsBetween s → next_record default_config s [] [] xs ≡ None → NoneStays s xs
unfolding next_record
none_stays s [] b e = (b, λ ys. refl)
none_stays s (c ∷ xs) b e =
    elim (between_begins s c b) [
      | inl k ↦ (
          let left : next_record default_config st.StartRecord [] [] xs ≡ None = rw (k.0, k.1) at e in
          let more = none_stays st.StartRecord xs refl left in
          (rw k.1 more.0, λ ys. rw (k.0, k.1) (more.1 ys))
          )
      | inr g ↦ elim g [
        | inl ends ↦ absurd (some_none (fields_after (step default_config s c).1 [] [], (step default_config s c).0, xs) (rw ends.0 at e))
        | inr goes ↦ absurd (none_open (step default_config s c).0 (fields_after (step default_config s c).1 [] []) (field_after (step default_config s c).1 c []) xs goes.1 (rw goes.0 at e))
      ]
    ]

-- ---- all records
pub rows_alike : (s t : State) (xs zs : List ℕ) (rows : List (List (List ℕ))) → next_record default_config s [] [] xs ≡ next_record default_config t [] [] zs
    → AreRecords default_config t zs rows
    → AreRecords default_config s xs rows
unfolding Reached
rows_alike s t xs zs [] e h = (s, xs, (refl, refl), e ∙ rw (h.2.0, h.2.1) h.3)
rows_alike s t xs zs (r ∷ rows) e h = (h.0, h.1, (h.2.0, e ∙ h.2.1, h.2.2, h.2.3), h.3)

-- records at the front of a text are those of a longer one
pub reached_longer : (s : State) (xs : List ℕ) (rows : List (List (List ℕ))) (t : State) (ys zs : List ℕ) → IsBetween (state_after s xs)
    → Reached default_config s xs rows t ys
    → Reached default_config s (xs ++ zs) rows t (ys ++ zs)
unfolding Reached
reached_longer s xs [] t ys zs b h = (h.0, ap (λ l. l ++ zs) h.1)
reached_longer s xs (r ∷ rows) t ys zs b h =
    let p : Read = h.0 in
    let more = some_stays s [] [] xs p h.1 b in
    ((p.0, p.1, p.2 ++ zs), more.2 zs, h.2, reached_longer p.1 p.2 rows t ys zs (subst IsBetween (sym more.0) b) h.3)

-- THE RECORDS OF TWO TEXTS are those of both, one behind the other, where the first ends between two records
pub records_append : (s : State) (xs ys : List ℕ) (before rows : List (List (List ℕ))) → IsBetween s
    → AreRecords default_config s xs before
    → IsBetween (state_after s xs)
    → AreRecordsOf ys rows
    → AreRecords default_config s (xs ++ ys) (before ++ rows)
unfolding Reached
records_append s xs ys [] rows b h end more =
    let none : next_record default_config s [] [] xs ≡ None = rw (h.2.0, h.2.1) h.3 in
    let stays = none_stays s xs b none in
    rows_alike s st.StartRecord (xs ++ ys) ys rows (stays.1 ys ∙ between_alike (state_after s xs) ys stays.0) more
records_append s xs ys (r ∷ before) rows b h end more =
    let p : Read = h.2.0 in
    let one = some_stays s [] [] xs p h.2.1 end in
    let rest = records_append p.1 p.2 ys before rows one.1 (h.0, h.1, h.2.3, h.3) (subst IsBetween (sym one.0) end) more in
    (rest.0, rest.1, ((p.0, p.1, p.2 ++ ys), one.2 ys, h.2.2, rest.2), rest.3)

-- the same of records at the front of the second text, of which there is one at least
pub reached_behind : (s : State) (xs ys : List ℕ) (before rows : List (List (List ℕ))) (r : List (List ℕ)) (t : State) (zs : List ℕ) → IsBetween s
    → AreRecords default_config s xs before
    → IsBetween (state_after s xs)
    → Reached default_config st.StartRecord ys (r ∷ rows) t zs
    → Reached default_config s (xs ++ ys) (before ++ r ∷ rows) t zs
unfolding Reached
reached_behind s xs ys [] rows r t zs b h end more =
    let none : next_record default_config s [] [] xs ≡ None = rw (h.2.0, h.2.1) h.3 in
    let stays = none_stays s xs b none in
    (more.0, stays.1 ys ∙ (between_alike (state_after s xs) ys stays.0 ∙ more.1), more.2, more.3)
reached_behind s xs ys (q ∷ before) rows r t zs b h end more =
    let p : Read = h.2.0 in
    let one = some_stays s [] [] xs p h.2.1 end in
    ((p.0, p.1, p.2 ++ ys), one.2 ys, h.2.2, reached_behind p.1 p.2 ys before rows r t zs one.1 (h.0, h.1, h.2.3, h.3) (subst IsBetween (sym one.0) end) more)

-- a line feed at the front of a text is no record, and a text with one begins with no byte order mark
pub line_feed_first : (xs : List ℕ) (rows : List (List (List ℕ))) → AreRecordsOf (10 ∷ xs) rows → AreRecordsOf xs rows
unfolding next_record
line_feed_first xs rows h = rows_alike st.StartRecord st.StartRecord xs (10 ∷ xs) rows refl h

pub strip_none : (xs : List ℕ) → strip_bom (10 ∷ xs) ≡ 10 ∷ xs
unfolding strip_bom
strip_none [] = refl
strip_none (a ∷ []) = refl
strip_none (a ∷ b ∷ rest) = refl

-- so a block that is read behind a line feed is read as it stands, whatever its first bytes are
pub block_as_read : (xs : List ℕ) (rows : List (List (List ℕ))) → AreRecordsOf (strip_bom (10 ∷ xs)) rows → AreRecordsOf xs rows
block_as_read xs rows h = line_feed_first xs rows (subst (λ ys. AreRecordsOf ys rows) (strip_none xs) h)

-- ---- blocks
-- the records up to a place, and those of the block behind it
pub block_more : (text : List ℕ) (low high : ℕ) (before rows : List (List (List ℕ))) → low ≤ high → IsCut text low
    → AreRecordsOf (take low text) before
    → AreRecordsOf (block_of text low high) rows
    → AreRecordsOf (take high text) (before ++ rows)
block_more text low high before rows le cut front block =
    let same : low + (high - low) ≡ high = omega arith in
    let parts : take high text ≡ take low text ++ block_of text low high = ap (λ n. take n text) (sym same) ∙ take-add low (high - low) text in
    subst (λ xs. AreRecordsOf xs (before ++ rows)) (sym parts)
    (records_append st.StartRecord (take low text) (block_of text low high) before rows refl front cut.1 block)

-- ---- the states behind two texts
pub between_after : (s : State) (xs : List ℕ) → IsBetween s → IsBetween (state_after st.StartRecord xs) → IsBetween (state_after s xs)
between_after s [] b end = b
between_after st.StartRecord (c ∷ xs) b end = end
between_after st.StartField (c ∷ xs) b end = absurd (cc)
between_after st.InField (c ∷ xs) b end = absurd (cc)
between_after st.InQuoted (c ∷ xs) b end = absurd (cc)
between_after st.AfterQuote (c ∷ xs) b end = absurd (cc)
between_after st.InEscape (c ∷ xs) b end = absurd (cc)
between_after st.InComment (c ∷ xs) b end = absurd (cc)
between_after st.AfterCr (c ∷ xs) b end = subst (λ (r : Step). IsBetween (state_after r.0 xs)) (sym (same_step c)) end

-- a cut behind a cut
pub cut_more : (text : List ℕ) (low n : ℕ) → IsCut text low → low + n ≤ length text
    → IsBetween (state_after st.StartRecord (take n (drop low text)))
    → IsCut text (low + n)
cut_more text low n cut within end =
    let front = take low text in
    let block = take n (drop low text) in
    let both : state_after st.StartRecord (front ++ block) ≡ state_after (state_after st.StartRecord front) block =
    fold-append (λ t c. (step default_config t c).0) st.StartRecord front block in (
      within,
      subst (λ xs. IsBetween (state_after st.StartRecord xs)) (sym (take-add low n text))
          (subst IsBetween (sym both) (between_after (state_after st.StartRecord front) block cut.1 end)),
    )
