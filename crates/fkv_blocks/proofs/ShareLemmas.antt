-- Rows of blocks, as they are read behind a line feed.
use Rattle.std.proofs.Common.{◌≡◌, ◌⊎◌, ◌<◌, inl, inr, ℕ, ℤ, List, [], ◌∷◌, ◌++◌, length, Some, None, Option, Bool, false, cond, flat_map, append-nil, append_assoc, sym, ap, subst, ◌∙◌, arith}
use Rattle.std.specs.List.{AllZip}
use Rattle.csv.specs.Machine.{next_record}
use Rattle.csv.specs.Reading.{Reached, default_config}
use Rattle.csv.specs.declared.parser.State.{State}
use Rattle.csv.specs.declared.parser.State.TheVariants as st
use Rattle.fkv_functions.specs.declared.names.Name.{Name}
use Rattle.fkv_functions.specs.declared.refusals.Refused.{Refused}
use Rattle.fkv_functions.specs.declared.refusals.Refused.TheVariants.{NoMemory, BadRow, Unreadable}
use Rattle.fkv_feed_rows.specs.Feeds.{AreRowsOf, IsBadRow, IsTooLong, TellsUnread, without_mark}
use Rattle.fkv_feed_rows.proofs.RecordLemmas.{are_rows-length}
use Rattle.fkv_blocks.specs.Cutting.{AreRecordsOf}
use Rattle.fkv_blocks.proofs.CutLemmas.{block_as_read, strip_none}
use Rattle.fkv_blocks.specs.Left.{IsBlockOf}
use Rattle.fkv_blocks.specs.Shares.{AreRowsAt, TellsBlock}

pub rows_as_read : (limit : ℕ) (block : List ℕ) (rows : List (Name × ℤ)) → AreRowsOf limit (without_mark (10 ∷ block)) rows → AreRowsOf limit block rows
rows_as_read limit block rows h = record { records = h.records; all = block_as_read block h.records h.all; good = h.good; within = h.within }

-- records that are met behind the line feed
met_one : (block : List ℕ) (r : List (List ℕ)) (rows : List (List (List ℕ))) (s : State) (left : List ℕ)
    → Reached default_config st.StartRecord (10 ∷ block) (r ∷ rows) s left
    → Reached default_config st.StartRecord block (r ∷ rows) s left
unfolding Reached next_record
met_one block r rows s left h = h

met_behind : (block : List ℕ) (before : List (List (List ℕ))) (here : List (List ℕ)) (s : State) (left : List ℕ)
    → Reached default_config st.StartRecord (10 ∷ block) (before ++ here ∷ []) s left
    → Reached default_config st.StartRecord block (before ++ here ∷ []) s left
met_behind block [] here s left h = met_one block here [] s left h
met_behind block (r ∷ before) here s left h = met_one block r (before ++ here ∷ []) s left h

bad_as_read : (block : List ℕ) (n : ℕ) → IsBadRow (without_mark (10 ∷ block)) n → IsBadRow block n
bad_as_read block n h = record {
  before = h.before;
  here = h.here;
  state = h.state;
  left = h.left;
  reached = met_behind block h.before h.here h.state h.left (subst (λ xs. Reached default_config st.StartRecord xs (h.before ++ h.here ∷ []) h.state h.left) (strip_none block) h.reached);
  rows = h.rows;
  good = h.good;
  number = h.number;
  bad = h.bad;
}

long_behind : (limit : ℕ) (block : List ℕ) (records : List (List (List ℕ))) (s : State) (left : List ℕ)
    → Reached default_config st.StartRecord (10 ∷ block) records s left
    → limit < length records
    → IsTooLong limit block
long_behind limit block [] s left h more = absurd (omega (arith, more))
long_behind limit block (r ∷ records) s left h more = record { records = r ∷ records; state = s; left = left; reached = met_one block r records s left h; more = more }

long_as_read : (limit : ℕ) (block : List ℕ) → IsTooLong limit (without_mark (10 ∷ block)) → IsTooLong limit block
long_as_read limit block h =
    long_behind limit block h.records h.state h.left (subst (λ xs. Reached default_config st.StartRecord xs h.records h.state h.left) (strip_none block) h.reached) h.more

pub told_as_read : (feed limit : ℕ) (block : List ℕ) (e : Refused) → TellsUnread feed limit (Some (10 ∷ block)) 0 0 e → TellsBlock feed limit block e
told_as_read feed limit block NoMemory t = tt
told_as_read feed limit block (BadRow f n) t = (t.1, bad_as_read block n t.2)
told_as_read feed limit block (Unreadable f) t =
    (t.0, elim t.1 [ inl counted ↦ absurd (omega (arith, counted)) | inr long ↦ long_as_read limit block long.1 ])
told_as_read feed limit block other t = absurd t

-- what was read of a block that was taken
pub rows_at : (text : Option (List ℕ)) (block : List ℕ) (low high limit count : ℕ) (rows : List (Name × ℤ)) → IsBlockOf text block low high
    → AreRowsOf limit block rows
    → count ≡ length rows
    → AreRowsAt text (record { low = low; high = high; records = count }) rows
rows_at None block low high limit count rows b h is = tt
rows_at (Some t) block low high limit count rows b h is =
    (h.records, record { cut = b.2; all = subst (λ xs. AreRecordsOf xs h.records) b.0 h.all; count = is ∙ are_rows-length h.records rows h.good }, h.good)

-- ---- of a block that nothing was read of
module _ (limit : ℕ) (begun : Bool) (bytes block : List ℕ) (fresh : begun ≡ false) (same : bytes ≡ block) where
  left_is : cond begun bytes (10 ∷ bytes) ≡ 10 ∷ block
  left_is = ap (λ b. cond b bytes (10 ∷ bytes)) fresh ∙ ap (λ xs. 10 ∷ xs) same

  pub feed_as_read : (rows : List (Name × ℤ)) → AreRowsOf limit (without_mark (cond begun bytes (10 ∷ bytes))) rows → AreRowsOf limit block rows
  feed_as_read rows h = rows_as_read limit block rows (subst (λ xs. AreRowsOf limit (without_mark xs) rows) left_is h)

  pub told_of : (feed : ℕ) (Fault : Refused → Type 0) (e : Refused) (new : ℕ) → new ≡ 0
      → (Fault e × (new ≡ 0)) ⊎ TellsUnread feed limit (Some (cond begun bytes (10 ∷ bytes))) 0 new e
      → Fault e ⊎ TellsBlock feed limit block e
  told_of feed Fault e new none (inl f) = inl f.0
  told_of feed Fault e new none (inr t) =
      inr (told_as_read feed limit block e (subst (λ xs. TellsUnread feed limit (Some xs) 0 0 e) left_is (subst (λ n. TellsUnread feed limit (Some (cond begun bytes (10 ∷ bytes))) 0 n e) none t)))

-- ---- one block more
pub flat_more : {X : Type 0} (parts : List (List X)) (part : List X) → flat_map (λ p. p) (parts ++ part ∷ []) ≡ flat_map (λ p. p) parts ++ part
flat_more [] part = append-nil part
flat_more (first ∷ parts) part = ap (λ l. first ++ l) (flat_more parts part) ∙ sym (append_assoc first (flat_map (λ p. p) parts) part)

pub zip_more : {A B : Type 0} (R : A → B → Type 0) (xs : List A) (ys : List B) (x : A) (y : B) → AllZip R xs ys → R x y → AllZip R (xs ++ x ∷ []) (ys ++ y ∷ [])
zip_more R [] [] x y all r = (r, tt)
zip_more R [] (b ∷ ys) x y all r = absurd all
zip_more R (a ∷ xs) [] x y all r = absurd all
zip_more R (a ∷ xs) (b ∷ ys) x y all r = (all.0, zip_more R xs ys x y all.1 r)
