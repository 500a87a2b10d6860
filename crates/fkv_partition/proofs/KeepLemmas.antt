-- What the changes of a compacted partition keep.
use Rattle.std.proofs.Common.{◌≡◌, Bool, true, false, ℕ, ◌^◌, ◌<◌, ◌≤◌, inl, inr, ◌==◌, IsTrue, List, [], ◌∷◌, cond, nat_le, replicate, zero, suc, Option, Some, None, Ok, slice_get, slice_set, refl, sym, ◌∙◌, ap, subst, arith}
use Rattle.std.proofs.lemmas.Bool.{cases_lt, eqb-true}
use Rattle.std.proofs.lemmas.Bool.Decides.{nat_tests}
use Rattle.std.specs.BTreeMap.{is_at}
use Rattle.std.specs.declared.cmp.Ordering.{Ordering}
use Rattle.fkv_records.specs.Places.{IsShape, IsRecordStart, first}
use Rattle.fkv_regions.specs.Agree.{IsMark}
use Rattle.fkv_regions.proofs.MoveLemmas.{mark-place}
use Rattle.fkv_hybrid.specs.Views.{text_begin}
use Rattle.fkv_texts.specs.declared.entries.Entry.{Entry}
use Rattle.fkv_texts.specs.Places.{tail_after, IsLaidOut}
use Rattle.fkv_texts.specs.Text.{has_key}
use Rattle.fkv_texts.proofs.LastWhere.{last_where-in, last_where-found}
use Rattle.fkv_texts.proofs.PlaceLemmas.{after, after-nearest}
use Rattle.fkv_texts.specs.Deltas.{IsCleared}
use Rattle.fkv_lookups.specs.RecordsViews.{RecordsView}
use Rattle.fkv_lookups.specs.Traced.{IsTraced, IsResolved}
use Rattle.fkv_lookups.proofs.TracedLemmas.{traced-raw}
use Rattle.fkv_operations.specs.declared.entries.IndexEntry.{IndexEntry}
use Rattle.fkv_functions.proofs.ListLemmas.{get-set_cases}
use Rattle.fkv_operations.specs.declared.operations.KeyedOp.{KeyedOp}
use Rattle.fkv_partition.specs.KeyBeginning.{Issues}
use Rattle.fkv_partition.specs.Beginning.{IssuesOnKey, IsFirstFree}
use Rattle.fkv_partition.specs.Views.{PartitionView, partition_of, cleared_past}
use Rattle.fkv_partition.specs.Grown.{IsPreserved}
use Rattle.fkv_partition.specs.declared.contexts.OpenWork.{OpenWork}
use Rattle.fkv_partition.specs.declared.contexts.OpenWork.TheVariants.{Relocating}
use Rattle.fkv_partition.specs.declared.relocations.Relocation.{Relocation}
use Rattle.fkv_partition.specs.declared.relocations.Stage.{Stage}
use Rattle.fkv_partition.specs.declared.relocations.Stage.TheVariants.{Fresh, Reading, Tracing, Ready}
use Rattle.fkv_partition.specs.Stages.{IsReady, RelocationStands, StageStands}
use Rattle.fkv_partition.specs.Sound.{IsCompacting, MayClear}

-- ---- where the log ends
kept-begin : (b : Bool) (begin closed : ℕ) → IsTrue b → text_begin b begin closed ≡ begin
kept-begin true begin closed h = refl
kept-begin false begin closed h = absurd (cc)

begin-place : (bits size begin closed : ℕ) → (begin < 2 ^ 48 → IsRecordStart bits size begin) → (closed < 2 ^ 48 → IsRecordStart bits size closed) → (b : Bool) → text_begin b begin closed < 2 ^ 48 → IsRecordStart bits size (text_begin b begin closed)
begin-place bits size begin closed p q true h = p h
begin-place bits size begin closed p q false h = by_closed (nat_le begin closed) h
  where
    by_closed : (b : Bool) → cond b closed begin < 2 ^ 48 → IsRecordStart bits size (cond b closed begin)
    by_closed true k = q k
    by_closed false k = p k

laid-end : {K V : Type 0} (bits size : ℕ) → IsShape bits size → (begin tail : ℕ) (text : List (Entry K V)) → (begin < 2 ^ 48 → IsRecordStart bits size begin) → IsLaidOut bits size begin tail text → tail < 2 ^ 48 → IsRecordStart bits size tail
laid-end bits size s begin tail [] p h low = let same : begin ≡ tail = h in subst (IsRecordStart bits size) same (p (omega arith))
laid-end bits size s begin tail (e ∷ es) p h low =
    let on : begin < tail = h.1 in
    let t = after bits size s begin (p (omega arith)) in
    laid-end bits size s (tail_after bits size begin) tail es t.place h.2 low

-- the next record stands at a place, where there can be one
pub tail-place : {K V : Type 0} {keeps : Bool} {code : K → ℕ} (v : RecordsView K V) → IsTraced keeps code v → v.log.tail < 2 ^ 48 → IsRecordStart v.log.bits v.record_size v.log.tail
tail-place {keeps} v t low = laid-end v.log.bits v.record_size t.shape v.log.from v.log.tail v.text from t.laid_out low
  where
    from : v.log.from < 2 ^ 48 → IsRecordStart v.log.bits v.record_size v.log.from
    from =
        let o = t.regions.agree.in_order in
        let marked = subst (λ bits. IsMark bits v.log.regions.offsets.closed) t.regions.bits o.closed_mark in
        subst (λ a. a < 2 ^ 48 → IsRecordStart v.log.bits v.record_size a) (sym t.begins) (begin-place v.log.bits v.record_size v.log.begin v.log.regions.offsets.closed
        (mark-place v.log.bits v.record_size v.log.begin t.shape t.marked t.first)
        (mark-place v.log.bits v.record_size v.log.regions.offsets.closed t.shape marked o.first) keeps)

-- no record stands between a place and the next
pub next-low : {K V : Type 0} {keeps : Bool} {code : K → ℕ} (v : RecordsView K V) → IsTraced keeps code v → (a : ℕ) → IsRecordStart v.log.bits v.record_size a → a < v.log.tail → tail_after v.log.bits v.record_size a ≤ v.log.tail
next-low v t a place low =
    let next = after v.log.bits v.record_size t.shape a place in
    elim (cases_lt v.log.tail (2 ^ 48)) [
      | inl under ↦ after-nearest v.log.bits v.record_size t.shape a v.log.tail place (tail-place v t under) low
      | inr end ↦ (let most = next.most in omega arith)
    ]

none-in : {A : Type 0} (n p : ℕ) (x : A) → slice_get (replicate n None) p ≡ Some (Some x) → ⊥
none-in zero p x e = cc
none-in (suc n) zero x e = cc
none-in (suc n) (suc p) x e = none-in n p x e

module _ {K V I : Type 0} (keeps : Bool) (cmp : K → K → Ordering) (join : V → V → V) (code : K → ℕ) where
  -- ---- an event of the partition
  -- a relocation that is to append its record again
  ready-kept : (old new : PartitionView K V I) → IsTraced keeps code new.records → IsResolved cmp join new.records → IsPreserved keeps cmp join code old new → (place : ℕ) → place < old.records.log.regions.offsets.safe_read_only → (entry : Entry K V) (kept : IndexEntry)
      → IsReady keeps cmp join code old.records place entry kept → IsReady keeps cmp join code new.records place entry kept
  ready-kept old new t st b place frozen entry kept h = record {
    here = h.here;
    some = h.some;
    is_kept = b.bears.kept entry.key kept entry.value h.is_kept;
    own = λ yes_keeps d there.
        let m = last_where-in (λ x. x.address == place) new.records.log.text d there in
        let at = eqb-true d.address place (last_where-found (λ x. x.address == place) new.records.log.text d there) in
        let low = (traced-raw t st).from m.place d m.here in
        h.own yes_keeps d (sym (b.grown.stay place (omega arith) frozen) ∙ there);
    between = λ yes_keeps d m key above under.
        let low = h.is_kept.low in
        let was = b.grown.were d m (omega (arith, low, under)) in
        let own : has_key cmp entry.key was.0 ≡ true = ap (λ q. is_at (cmp q) entry.key) was.3 ∙ key in
        sym was.4 ∙ h.between yes_keeps was.0 was.1 own (let at = was.2 in omega (arith, at, above)) (let at = was.2 in omega (arith, at, under));
  }

  -- a relocation stands for what it stood for
  stage-kept : (old new : PartitionView K V I) → new.number ≡ old.number → new.count ≡ old.count → IsTraced keeps code new.records → IsResolved cmp join new.records → IsPreserved keeps cmp join code old new
      → (place : ℕ) → place < old.records.log.regions.offsets.safe_read_only → (stage : Stage K V) → StageStands keeps cmp join code old place stage → StageStands keeps cmp join code new place stage
  stage-kept old new number count t st b place frozen Fresh h = tt
  stage-kept old new number count t st b place frozen (Reading begin) h =
      let up = b.grown.begin in
      let head = b.grown.raised.head in
      let past = h.past in
      let on_disk = h.on_disk in
      record { past = omega arith; begun = h.begun; on_disk = omega arith }
  stage-kept old new number count t st b place frozen (Tracing entry l) h = (
    ap (λ n. partition_of n (code entry.key)) count ∙ h.0 ∙ sym number,
    record {
      here = h.1.here;
      some = h.1.some;
      begun = h.1.begun;
      above = h.1.above;
      led = h.1.led;
      loading = b.bears.loading entry.key l h.1.loading;
      is = λ yes_keeps same.
          let past = h.1.loading.past in
          let up = b.grown.begin in
          let resolved : l.begin ≡ old.records.log.begin = omega (arith, past, up, same) in
          let from : new.records.log.from ≡ new.records.log.begin = t.begins ∙ kept-begin keeps new.records.log.begin new.records.log.regions.offsets.closed yes_keeps in
          let begun = h.1.begun in
          b.grown.stay place (omega (arith, from, begun, same)) frozen ∙ h.1.is yes_keeps resolved;
    },
  )
  stage-kept old new number count t st b place frozen (Ready entry kept) h =
      (ap (λ n. partition_of n (code entry.key)) count ∙ h.0 ∙ sym number, ready-kept old new t st b place frozen entry kept h.1)

  -- an event of the partition keeps what every compacted partition keeps, where each relocation that stands then stood
  -- before, and Begin passes nothing that is not cleared
  pub keep-event : (v : PartitionView K V I) (new : PartitionView K V I)
      → IsCompacting keeps cmp join code v
      → IsTraced keeps code new.records
      → IsResolved cmp join new.records
      → IsPreserved keeps cmp join code v new
      → new.number ≡ v.number
      → new.count ≡ v.count
      → new.cleared ≡ v.cleared
      → new.records.log.begin ≤ v.cleared
      → ((p : ℕ) (x : Relocation K V) → slice_get new.contexts p ≡ Some (Some (Relocating x)) → slice_get v.contexts p ≡ Some (Some (Relocating x)))
      → IsCompacting keeps cmp join code new
  keep-event v new i t st b number count is begun resolved =
      let shape = b.grown.shape in
      record {
        begun = omega (arith, is, begun);
        low = (let tail = b.grown.tail in let low = i.low in omega (arith, is, tail, low));
        place = λ under. rw (is, shape.page_bits, shape.record_size) (i.place (omega (arith, is, under)));
        cleared = λ yes_keeps. rw is (b.grown.clear v.cleared i.low yes_keeps (i.cleared yes_keeps));
        stands = λ p x h.
            let was = i.stands p x (resolved p x h) in
            let safe = b.grown.raised.safe in
            let frozen = was.frozen in
            record {
              place = rw (shape.page_bits, shape.record_size) was.place;
              frozen = omega arith;
              issued = (let issued = was.issued in omega (arith, is, issued));
              stage = stage-kept v new number count t st b x.target was.frozen x.stage was.stage;
            };
      }

  -- ---- a relocation begins, goes on or ends
  stage-moment : (v : PartitionView K V I) (contexts : List (Option (OpenWork K V I))) (now cleared place : ℕ) (stage : Stage K V) → StageStands keeps cmp join code v place stage → StageStands keeps cmp join code (record v { contexts = contexts; moment = now; cleared = cleared }) place stage
  stage-moment v contexts now cleared place Fresh h = tt
  stage-moment v contexts now cleared place (Reading begin) h = h
  stage-moment v contexts now cleared place (Tracing entry l) h = h
  stage-moment v contexts now cleared place (Ready entry kept) h = h

  higher-stands : (v : PartitionView K V I) (cleared : ℕ) → MayClear keeps cmp v cleared → (x : Relocation K V) → RelocationStands keeps cmp join code v v.cleared x → RelocationStands keeps cmp join code v cleared x
  higher-stands v cleared r x h = record { place = h.place; frozen = h.frozen; issued = (let up = r.higher in let issued = h.issued in omega arith); stage = h.stage }

  pub keep-changed : (v : PartitionView K V I) (i now cleared : ℕ) (y : Option (OpenWork K V I))
      → IsCompacting keeps cmp join code v
      → MayClear keeps cmp v cleared
      → ((x : Relocation K V) → y ≡ Some (Relocating x) → RelocationStands keeps cmp join code v cleared x)
      → IsCompacting keeps cmp join code (record v { contexts = slice_set v.contexts i y; moment = now; cleared = cleared })
  keep-changed v i now cleared y s r fits = record {
    begun = (let up = r.higher in let begun = s.begun in omega arith);
    low = r.low;
    place = r.place;
    cleared = r.cleared;
    stands = λ p x h. elim (get-set_cases v.contexts i p y (Some (Relocating x)) h) [
      | inl e ↦ at-moment x (fits x e.1)
      | inr o ↦ at-moment x (higher-stands v cleared r x (s.stands p x o))
    ];
  }
    where
      at-moment : (x : Relocation K V) → RelocationStands keeps cmp join code v cleared x → RelocationStands keeps cmp join code (record v { contexts = slice_set v.contexts i y; moment = now; cleared = cleared }) cleared x
      at-moment x h = record { place = h.place; frozen = h.frozen; issued = h.issued; stage = stage-moment v (slice_set v.contexts i y) now cleared x.target x.stage h.stage }

  -- nothing else changes
  pub keep-value_after : (v : PartitionView K V I) (cleared : ℕ) → IsCompacting keeps cmp join code v → MayClear keeps cmp v cleared → IsCompacting keeps cmp join code (record v { cleared = cleared })
  keep-value_after v cleared s r = record {
    begun = (let up = r.higher in let begun = s.begun in omega arith);
    low = r.low;
    place = r.place;
    cleared = r.cleared;
    stands = λ p x h.
        let was = higher-stands v cleared r x (s.stands p x h) in
        record { place = was.place; frozen = was.frozen; issued = was.issued; stage = stage-moment v v.contexts v.moment cleared x.target x.stage was.stage };
  }

  -- what is cleared stays
  pub rises-not : (v : PartitionView K V I) → IsCompacting keeps cmp join code v → MayClear keeps cmp v v.cleared
  rises-not v s = record { higher = omega arith; low = s.low; place = s.place; cleared = s.cleared }

  -- a place is cleared
  pub rises-past : (v : PartitionView K V I) (place : ℕ) → IsCompacting keeps cmp join code v
      → IsTraced keeps code v.records
      → place ≤ v.cleared
      → IsRecordStart v.records.log.bits v.records.record_size place
      → place < v.records.log.tail
      → (IsTrue keeps → IsCleared cmp v.records.log.text place → IsCleared cmp v.records.log.text (tail_after v.records.log.bits v.records.record_size place))
      → MayClear keeps cmp v (cleared_past v place)
  rises-past v place s t issued at low raised = by_test (nat_le v.cleared place) refl
    where
      r : RecordsView K V
      r = v.records

      by_test : (b : Bool) → nat_le v.cleared place ≡ b → MayClear keeps cmp v (cond b (tail_after r.log.bits r.record_size place) v.cleared)
      by_test false h = rises-not v s
      by_test true h =
          let under : v.cleared ≤ place = grind (arith, nat_tests, h) in
          let same : v.cleared ≡ place = omega arith in
          let next = after r.log.bits r.record_size t.shape place at in
          let above = next.above in
          record {
            higher = omega arith;
            low = next-low r t place at low;
            place = next.place;
            cleared = λ yes_keeps. raised yes_keeps (subst (IsCleared cmp r.log.text) same (s.cleared yes_keeps));
          }

  -- ---- the beginning
  pub compacting-empty : (p : PartitionView K V I) → p.records.log.begin ≡ 64 → p.records.log.tail ≡ 64 → p.records.log.text ≡ [] → p.contexts ≡ replicate 128 None → p.cleared ≡ 64 → IsCompacting keeps cmp join code p
  compacting-empty p begin tail entries contexts is = record {
    begun = omega arith;
    low = omega arith;
    place = λ under. rw is first;
    cleared = λ yes_keeps. rw is (subst (λ t. IsCleared cmp t 64) (sym entries) (λ e here low. absurd (cc)));
    stands = λ i x h. absurd (none-in 128 i (Relocating x) (ap (λ (cs : List (Option (OpenWork K V I))). slice_get cs i) (sym contexts) ∙ h));
  }

-- nothing where it is not something
pub none-at : {A : Type 0} (o : Option A) → ((x : A) → o ≡ Some x → ⊥) → o ≡ None
none-at None h = refl
none-at (Some x) h = absurd (h x refl)

module _ {K V I : Type 0} (keeps : Bool) (cmp : K → K → Ordering) (join : V → V → V) (code : K → ℕ) where
  -- the lowest place that is not cleared may be taken once it is frozen
  pub may-relocate : (v : PartitionView K V I) → IsCompacting keeps cmp join code v → IsTraced keeps code v.records → v.cleared < v.records.log.regions.offsets.safe_read_only → (now : ℕ)
      → RelocationStands keeps cmp join code v v.cleared (record { number = now; target = v.cleared; stage = Fresh })
  may-relocate v i t frozen now =
      let o = t.regions.agree.in_order in
      let safe = o.safe in
      let most = o.most in
      record { place = i.place (omega arith); frozen = frozen; issued = omega arith; stage = tt }

-- what an operation that is issued is told
module _ {K V I : Type 0} (code : K → ℕ) where
  pub issues-told : (v : PartitionView K V I) (new : PartitionView K V I) (slot c : ℕ) (op : KeyedOp K V I) (now : ℕ) → IsFirstFree v slot (Some c) → Issues code v new slot c op now
      → IssuesOnKey code v new slot op now (Ok c)
  issues-told v new slot c op now lowest h = IssuesOnKey.issues c h.entered h.own h.merging lowest h.is refl
