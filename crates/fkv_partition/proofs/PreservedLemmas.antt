-- What events leave to a layer above: what stands for operations of its own, and what it knows of records.
use Rattle.std.proofs.Common.{◌≡◌, ◌<◌, ◌≤◌, inl, inr, nat_le, ℕ, Bool, IsTrue, List, Option, Some, None, option_map, Result, position, refl, sym, ◌∙◌, ap, subst, arith}
use Rattle.std.proofs.lemmas.Bool.{cases_lt}
use Rattle.std.proofs.lemmas.Option.{slice_get_within}
use Rattle.std.specs.declared.cmp.Ordering.{Ordering}
use Rattle.fkv_functions.specs.Meanings.{Meanings}
use Rattle.fkv_functions.specs.Plain.{IsKeyOrder}
use Rattle.fkv_functions.specs.declared.asks.Ask.{Ask}
use Rattle.fkv_functions.specs.declared.refusals.Refused.{Refused}
use Rattle.fkv_records.specs.Places.{start_at}
use Rattle.fkv_device.specs.Standing.{Standing, Joined}
use Rattle.fkv_hybrid.specs.Views.{text_begin}
use Rattle.fkv_epoch.specs.Timely.{IsOrdered}
use Rattle.fkv_regions.specs.declared.offsets.Offsets.{Offsets}
use Rattle.fkv_regions.specs.Agree.{IsRaised}
use Rattle.fkv_regions.specs.RegionsView.{RegionsView, entered}
use Rattle.fkv_regions.proofs.MoveLemmas.{entered-fits, moved-refreshed, moved-left, moved-read_only, moved-head}
use Rattle.fkv_texts.specs.declared.entries.Entry.{Entry}
use Rattle.fkv_texts.specs.Text.{entry_at, last_of, newest, text_from}
use Rattle.fkv_texts.proofs.TextLemmas.{entry_at-old}
use Rattle.fkv_texts.proofs.ChangeLemmas.{entry_at-elsewhere}
use Rattle.fkv_texts.proofs.CutLemmas.{cut-entry, filter-in}
use Rattle.fkv_texts.proofs.BaseLemmas.{covered-passed}
use Rattle.fkv_index.specs.declared.words.Word.{Word}
use Rattle.fkv_index.specs.declared.words.Place.{Place}
use Rattle.fkv_index.specs.Words.{empty, final_word, tentative_word, tag_of, is_tentative, is_final_of}
use Rattle.fkv_index.specs.Places.{words_of, word_at, with_word, IsPlace}
use Rattle.fkv_index.specs.Entries.{place_of}
use Rattle.fkv_index.specs.Changes.{Writes}
use Rattle.fkv_index.proofs.WordFacts.{tentative-is}
use Rattle.fkv_index.proofs.Written.{written_there, writes}
use Rattle.fkv_index.proofs.Emptied.{sweeps}
use Rattle.fkv_operations.specs.After.{key_of}
use Rattle.fkv_operations.specs.Still.{IsStill}
use Rattle.fkv_operations.specs.KeptWords.{ReusesNoAddress}
use Rattle.fkv_operations.specs.declared.entries.IndexEntry.{IndexEntry}
use Rattle.fkv_operations.specs.declared.operations.KeyedOp.{KeyedOp}
use Rattle.fkv_operations.specs.declared.operations.Answer.{Answer}
use Rattle.fkv_lookups.specs.declared.decisions.Decision.TheVariants.{Replace}
use Rattle.fkv_lookups.specs.RecordsViews.{RecordsView, class_in, indexed, with_written, with_value, with_regions, with_receipt, confirmed, released, moved, truncated, ChangesAt, IsReplaceable}
use Rattle.fkv_hybrid.specs.Views.{IsTruncationDue}
use Rattle.fkv_lookups.specs.Traced.{IsTraced, IsResolved}
use Rattle.fkv_texts.specs.Deltas.{IsCleared}
use Rattle.fkv_lookups.specs.declared.payloads.Payload.{Payload}
use Rattle.fkv_lookups.specs.declared.payloads.Payload.TheVariants.{Whole}
use Rattle.fkv_lookups.specs.Payloads.{value_in, is_part, standing}
use Rattle.fkv_hybrid.proofs.ReceiptLemmas.{more-left, receipt-within, let_go-high}
use Rattle.fkv_records.specs.Places.{page_at}
use Rattle.fkv_partition.specs.declared.changes.Write.{Write}
use Rattle.fkv_partition.specs.declared.contexts.Context.{Context}
use Rattle.fkv_partition.specs.declared.contexts.Phase.TheVariants.{Confirm}
use Rattle.fkv_partition.specs.declared.contexts.Progress.{Progress}
use Rattle.fkv_partition.specs.KeyBeginning.{Enters, Issues}
use Rattle.fkv_partition.specs.Claiming.{IsClaimed}
use Rattle.fkv_partition.specs.KeyEnding.{Leaves, GivesUp}
use Rattle.fkv_partition.specs.Flushing.{Flushes}
use Rattle.fkv_partition.specs.KeyGoing.{Decides, Goes}
use Rattle.fkv_partition.specs.Grown.{Bears, IsGrown, IsPreserved}
use Rattle.fkv_partition.specs.KeyInstalling.{Installs}
use Rattle.fkv_partition.specs.KeyLoading.{Loads}
use Rattle.fkv_partition.specs.Moves.{Refreshes, Shifts, Evicts}
use Rattle.fkv_partition.specs.KeySound.{IsSound}
use Rattle.fkv_partition.specs.Cutting.{Truncates}
use Rattle.fkv_partition.specs.Views.{PartitionView, context_at, with_payload, live_of, MovesTo}
use Rattle.fkv_partition.specs.Writes.{IsWrite}
use Rattle.fkv_partition.proofs.AskedLemmas.{position-found}
use Rattle.fkv_partition.proofs.EventLemmas.{kept-entry}
use Rattle.fkv_partition.proofs.GrownLemmas.{Grows, next-grown, kept-grown, loading-grown, tail-most, tail-up, grown-same, grown-regions, grown-moved, grown-flushed, grown-appended, was-replaced, grown-replaced}
use Rattle.fkv_partition.proofs.ChangeLemmas.{IsMade, grown-words, is-tentative, tentative-place, tentative-made, confirmed-made, released-made}
use Rattle.fkv_partition.proofs.StoodLemmas.{raw-replaceable}
use Rattle.fkv_partition.proofs.CuttingLemmas.{none-some, kept-cut, loading-cut, next-cut}

raised-self : (o : Offsets) → IsRaised o o
raised-self o = record { closed = omega arith; head = omega arith; safe = omega arith; read_only = omega arith }

-- ---- what records know
module _ {K V : Type 0} {keeps : Bool} (cmp : K → K → Ordering) (join : V → V → V) (code : K → ℕ) (v : RecordsView K V) (t : IsTraced keeps code v) where
  -- regions and words change, and the text stays
  know-still : (regions : RegionsView) (words : List (List Word)) → IsRaised v.log.regions.offsets regions.offsets → ((p : Place) → IsPlace v.words p → IsPlace words p) → IsGrown keeps cmp v (record (with_regions v regions) { words = words })
  know-still regions words up places = record {
    shape = record { partition_bits = refl; bucket_bits = refl; page_bits = refl; record_size = refl; frames = refl };
    begin = omega arith;
    tail = omega arith;
    raised = up;
    receipts = λ page s begun h. h;
    stay = λ a begun low. refl;
    clear = λ limit low yes_keeps c. c;
    places = places;
    were = λ x m low. (x, m, refl, refl, refl);
  }

  know-moved : (regions : RegionsView) (more : List (List ℕ)) (text : List (Entry K V)) → IsRaised v.log.regions.offsets regions.offsets → (IsTrue keeps → (moved keeps v regions more text).log.text ≡ v.log.text) → IsGrown keeps cmp v (moved keeps v regions more text)
  know-moved regions more text up kept = record {
    shape = record { partition_bits = refl; bucket_bits = refl; page_bits = refl; record_size = refl; frames = refl };
    begin = omega arith;
    tail = omega arith;
    raised = up;
    receipts = λ page s begun h. h;
    stay = λ a begun low. cut-entry (text_begin keeps v.log.begin regions.offsets.closed) a v.log.text begun;
    clear = λ limit low yes_keeps c. subst (λ u. IsCleared cmp u limit) (sym (kept yes_keeps)) c;
    places = λ p h. h;
    were = λ x m low. (x, (filter-in (λ (d : Entry K V). nat_le (text_begin keeps v.log.begin regions.offsets.closed) d.address) v.log.text m.place x m.here).0, refl, refl, refl);
  }

  pub know-flushed : (st : Standing) → IsGrown keeps cmp v (with_receipt v st)
  know-flushed st = record {
    shape = record { partition_bits = refl; bucket_bits = refl; page_bits = refl; record_size = refl; frames = refl };
    begin = omega arith;
    tail = omega arith;
    raised = raised-self v.log.regions.offsets;
    receipts = λ page s begun h. more-left v.log.receipts (Some st) page (receipt-within v.log.receipts page (rw h refl)) ∙ h;
    stay = λ a begun low. refl;
    clear = λ limit low yes_keeps c. c;
    places = λ p h. h;
    were = λ x m low. (x, m, refl, refl, refl);
  }

  know-record : (e : IndexEntry) (k : K) (payload : Payload V) (has : Option V) → IsPlace v.words e.place
      → ((limit : ℕ) → limit ≤ v.log.tail → IsCleared cmp v.log.text limit → IsCleared cmp (with_written v e k payload has).log.text limit)
      → IsGrown keeps cmp v (with_written v e k payload has)
  know-record e k payload has place clears = record {
    shape = record { partition_bits = refl; bucket_bits = refl; page_bits = refl; record_size = refl; frames = refl };
    begin = omega arith;
    tail = tail-up v.log.bits v.record_size v.log.tail (tail-most v t);
    raised = raised-self v.log.regions.offsets;
    receipts = λ page s begun h. h;
    stay = λ a begun low. (let o = t.regions.agree.in_order in let safe = o.safe in let top = t.regions.read_only in
        entry_at-old v.log.text (record { address = v.log.tail; previous = _; key = k; value = value_in payload; delta = is_part payload }) a (λ same. omega arith));
    clear = λ limit low yes_keeps c. clears limit low c;
    places = λ p h. ((writes v.words e.place (final_word (tag_of e.word) v.log.tail) place).places p).1 h;
    were = λ x m low. (grown-appended cmp join code v t e k payload has place).was x m low;
  }

  know-value : (a : ℕ) (value : Option V) → v.log.regions.offsets.safe_read_only ≤ a
      → ((limit : ℕ) → limit ≤ v.log.tail → IsCleared cmp v.log.text limit → IsCleared cmp (with_value v a value).log.text limit)
      → IsGrown keeps cmp v (with_value v a value)
  know-value a value high clears = record {
    shape = record { partition_bits = refl; bucket_bits = refl; page_bits = refl; record_size = refl; frames = refl };
    begin = omega arith;
    tail = omega arith;
    raised = raised-self v.log.regions.offsets;
    receipts = λ page s begun h. h;
    stay = λ b begun low. entry_at-elsewhere a value v.log.text b (λ same. omega arith);
    clear = λ limit low yes_keeps c. clears limit low c;
    places = λ p h. h;
    were = λ x m low. was-replaced cmp join code v t a value x m;
  }

  know-cut : (low : ℕ) (text : List (Entry K V)) → v.log.begin < low
      → ((limit : ℕ) → IsCleared cmp v.log.text limit → IsCleared cmp (truncated keeps v low text).log.text limit)
      → IsGrown keeps cmp v (truncated keeps v low text)
  know-cut low text up clears = record {
    shape = record { partition_bits = refl; bucket_bits = refl; page_bits = refl; record_size = refl; frames = refl };
    begin = omega arith;
    tail = omega arith;
    raised = raised-self v.log.regions.offsets;
    receipts = λ page s begun h. let_go-high (page_at v.log.bits low) page v.log.receipts begun ∙ h;
    stay = λ a begun under. cut-entry (text_begin keeps low v.log.regions.offsets.closed) a v.log.text begun;
    clear = λ limit under yes_keeps c. clears limit c;
    places = λ p h. ((sweeps low v.words).places p).1 h;
    were = λ x m under. (x, (filter-in (λ (d : Entry K V). nat_le (text_begin keeps low v.log.regions.offsets.closed) d.address) v.log.text m.place x m.here).0, refl, refl, refl);
  }

  -- a record that may be changed where it stands lies above all that is cleared
  pub live-high : (resolved : IsResolved cmp join v) (a : ℕ) → IsReplaceable cmp v a → (limit : ℕ) → IsCleared cmp v.log.text limit → limit ≤ a
  live-high resolved a m limit c = elim (cases_lt a limit) [
    | inr high ↦ high
    | inl under ↦ absurd (
        let h = raw-replaceable cmp join v resolved t a m in
        let there : entry_at v.log.text h.entry.address ≡ Some h.entry = ap (entry_at v.log.text) h.at ∙ h.here in
        elim (c h.entry there (let at = h.at in omega arith)) [
          | inl none ↦ none-some h.entry.value none h.some
          | inr covered ↦ covered-passed cmp v.log.text h.rises h.entry covered h.last
        ])
  ]

-- ---- an entry that was found has a place
pub found-place : (words : List (List Word)) (b t : ℕ) (e : IndexEntry) → option_map (λ p. record { place = p; word = word_at words p }) (place_of words b t) ≡ Some e → IsPlace words e.place
unfolding place_of
found-place words b t e h = by_position (position (is_final_of t) (words_of words b)) refl h
  where
    by_position : (o : Option ℕ) → position (is_final_of t) (words_of words b) ≡ o
        → option_map (λ p. record { place = p; word = word_at words p }) (option_map (λ at. record { bucket = b; at = at }) o) ≡ Some e
        → IsPlace words e.place
    by_position None g k = absurd (cc)
    by_position (Some i) g k =
        let f = position-found (is_final_of t) (words_of words b) i g in
        let here : Place = record { bucket = b; at = i } in
        let is : record { place = here; word = word_at words here } ≡ e = cc in
        subst (IsPlace words) (ap (λ (x : IndexEntry). x.place) is) (slice_get_within (words_of words b) i f.item f.here)

changes-of : (q : Place) (w : Word) (old new : List (List Word)) → Writes q w old new → ChangesAt q old new
changes-of q w old new h = record { others = h.elsewhere; places = λ p place. (h.places p).1 place }

-- ---- partitions
module _ {K V I : Type 0} {keeps : Bool} (cmp : K → K → Ordering) (join : V → V → V) (code : K → ℕ) (v : PartitionView K V I) (s : IsSound keeps cmp join code v) (new : PartitionView K V I) where
  -- the records have become these
  pub borne-by : (r : RecordsView K V) → new.records ≡ r → Grows keeps cmp join code v.records r → IsGrown keeps cmp v.records r → IsPreserved keeps cmp join code v new
  borne-by r is g h = record {
    bears = subst (λ u. Bears keeps cmp join code v.records u) (sym is) (record {
      kept = λ k e source was. kept-grown keeps cmp join code v.records r k e source s.traced g was;
      loading = λ k l was. loading-grown keeps cmp join code v.records r k l s.traced g was;
    });
    grown = subst (λ u. IsGrown keeps cmp v.records u) (sym is) h;
    next = λ yes_keeps. subst (λ u. ReusesNoAddress cmp (indexed v.records) (indexed u)) (sym is) (next-grown v.records r g yes_keeps);
  }

  pub borne-same : new.records ≡ v.records → IsPreserved keeps cmp join code v new
  borne-same is = borne-by v.records is (grown-same cmp join code v.records s.traced) (know-still cmp join code v.records s.traced v.records.log.regions v.records.words (raised-self v.records.log.regions.offsets) (λ p h. h))

  borne-words : (words : List (List Word)) (q : Place) → ChangesAt q v.records.words words → IsMade (word_at words q) → new.records ≡ record v.records { words = words } → IsPreserved keeps cmp join code v new
  borne-words words q changes made is = borne-by (record v.records { words = words }) is
      (grown-words keeps cmp join code q v.records (record v.records { words = words }) refl changes made)
      (know-still cmp join code v.records s.traced v.records.log.regions words (raised-self v.records.log.regions.offsets) changes.places)

  -- a tentative entry is confirmed, or taken back
  module _ (slot c now : ℕ) (x : Context K V I) (h : context_at v slot c ≡ Some x) (q : Place) (phase : x.phase ≡ Confirm q) where
    tentative : IsTrue (is_tentative (word_at v.records.words q))
    tentative = is-tentative cmp join code v s slot c now x h q phase

    place : IsPlace v.records.words q
    place = tentative-place v.records.words q tentative

    pub borne-confirmed : new.records ≡ confirmed v.records q → IsPreserved keeps cmp join code v new
    borne-confirmed is =
        let w = final_word (tag_of (word_at v.records.words q)) 1 in
        borne-words (with_word v.records.words q w) q (changes-of q w v.records.words _ (writes v.records.words q w place)) (confirmed-made v.records (confirmed v.records q) q tentative refl) is

    pub borne-released : new.records ≡ released v.records q → IsPreserved keeps cmp join code v new
    borne-released is =
        borne-words (with_word v.records.words q empty) q (changes-of q empty v.records.words _ (writes v.records.words q empty place)) (released-made v.records (released v.records q) q tentative refl) is

  -- one is made
  pub borne-claimed : (slot c now : ℕ) (x : Context K V I) → IsClaimed code v new slot c x now → IsPreserved keeps cmp join code v new
  borne-claimed slot c now x i =
      let probes = i.claims.probes in
      let probed = i.claims.probed in
      let w = tentative_word (class_in code v.records (key_of x.op)).tag in
      let written = writes probed i.place w probes.place in
      let there = written_there probed i.place w probes.place in
      borne-words (with_word probed i.place w) i.place
      (record { others = λ p other. written.elsewhere p other ∙ probes.words p; places = λ p h. (written.places p).1 (probes.places p h) })
      (tentative-made (word_at (with_word probed i.place w) i.place) (ap is_tentative there ∙ tentative-is (class_in code v.records (key_of x.op)).tag))
      (ap (λ (u : PartitionView K V I). u.records) i.is ∙ i.claims.is)

  pub borne-record : (e : IndexEntry) (k : K) (payload : Payload V) (has : Option V) → IsPlace v.records.words e.place
      → ((limit : ℕ) → limit ≤ v.records.log.tail → IsCleared cmp v.records.log.text limit → IsCleared cmp (with_written v.records e k payload has).log.text limit)
      → new.records ≡ with_written v.records e k payload has → IsPreserved keeps cmp join code v new
  borne-record e k payload has at clears is = borne-by (with_written v.records e k payload has) is (grown-appended cmp join code v.records s.traced e k payload has at) (know-record cmp join code v.records s.traced e k payload has at clears)

  pub borne-value : (a : ℕ) (value : Option V) → v.records.log.regions.offsets.safe_read_only ≤ a
      → ((q : K) (b : ℕ) → IsStill v.records.log.regions.offsets.safe_read_only (newest cmp v.records.text q b) → newest cmp (with_value v.records a value).text q b ≡ newest cmp v.records.text q b)
      → ((limit : ℕ) → limit ≤ v.records.log.tail → IsCleared cmp v.records.log.text limit → IsCleared cmp (with_value v.records a value).log.text limit)
      → new.records ≡ with_value v.records a value → IsPreserved keeps cmp join code v new
  borne-value a value high kept clears is = borne-by (with_value v.records a value) is (grown-replaced cmp join code v.records s.traced a value high kept) (know-value cmp join code v.records s.traced a value high clears)

  pub borne-regions : (regions : RegionsView) → IsRaised v.records.log.regions.offsets regions.offsets → new.records ≡ with_regions v.records regions → IsPreserved keeps cmp join code v new
  borne-regions regions up is = borne-by (with_regions v.records regions) is (grown-regions cmp join code v.records s.traced regions up) (know-still cmp join code v.records s.traced regions v.records.words up (λ p h. h))

  pub borne-moved : (regions : RegionsView) (now : ℕ) → IsRaised v.records.log.regions.offsets regions.offsets → MovesTo keeps regions v new now → IsPreserved keeps cmp join code v new
  borne-moved regions now up m =
      let r = new.records in
      let is = m.moves.is in
      let same : r.log.regions ≡ regions = ap (λ (u : RecordsView K V). u.log.regions) is in
      borne-by r refl
      (grown-moved cmp join code v.records s.traced r regions m.moves (subst (λ (g : RegionsView). IsRaised v.records.log.regions.offsets g.offsets) (sym same) up))
      (subst (λ u. IsGrown keeps cmp v.records u) (sym is) (know-moved cmp join code v.records s.traced regions m.moves.more r.text up (λ yes_keeps. ap (λ (u : RecordsView K V). u.log.text) (sym is) ∙ m.moves.entries yes_keeps)))

  -- ---- by kind of event
  module _ (slot c now : ℕ) where
    pub goes-bear : {O R : Type 0} (stands : R → Standing) (f : Meanings K V I O) (result : Result (Progress K V I O R) Refused)
        → IsKeyOrder cmp
        → ((e : IndexEntry) (key : K) (payload : Payload V) (has : Option V) (limit : ℕ) → limit ≤ v.records.log.tail → IsCleared cmp v.records.log.text limit → IsCleared cmp (with_written v.records e key payload has).log.text limit)
        → ((x : Context K V I) (value : Option V) (told : Answer O) (e : Entry K V) → Decides cmp join f code v slot c x (Replace value told) → last_of cmp v.records.text (key_of x.op) ≡ Some e
        → IsReplaceable cmp v.records e.address × (v.records.log.regions.offsets.safe_read_only ≤ e.address))
        → ((a : ℕ) (value : Option V) → IsReplaceable cmp v.records a → v.records.log.regions.offsets.safe_read_only ≤ a → (q : K) (b : ℕ) → IsStill v.records.log.regions.offsets.safe_read_only (newest cmp v.records.text q b)
        → newest cmp (with_value v.records a value).text q b ≡ newest cmp v.records.text q b)
        → ((a : ℕ) (value : Option V) (limit : ℕ) → limit ≤ a → IsCleared cmp v.records.log.text limit → IsCleared cmp (with_value v.records a value).log.text limit)
        → Goes stands cmp join f code v new slot c now result
        → IsPreserved keeps cmp join code v new
    goes-bear stands f result order grows met kept clears (Goes.unknown h is r) = borne-same (ap (λ (u : PartitionView K V I). u.records) is)
    goes-bear stands f result order grows met kept clears (Goes.asks x e ask h q is r) = borne-same (ap (λ (u : PartitionView K V I). u.records) is)
    goes-bear stands f result order grows met kept clears (Goes.not_ready x l h phase is r) = borne-same (ap (λ (u : PartitionView K V I). u.records) is)
    goes-bear stands f result order grows met kept clears (Goes.confirms x p h phase alone is r) = borne-confirmed slot c now x h p phase (ap (λ (u : PartitionView K V I). u.records) is)
    goes-bear stands f result order grows met kept clears (Goes.backs_off x p h phase alone is r) = borne-released slot c now x h p phase (ap (λ (u : PartitionView K V I). u.records) is)
    goes-bear stands f result order grows met kept clears (Goes.done x t d is r) = borne-same (ap (λ (u : PartitionView K V I). u.records) is)
    goes-bear stands f result order grows met kept clears (Goes.claims x d is r) = borne-claimed slot c now x is
    goes-bear stands f result order grows met kept clears (Goes.unclaimed x d full is r) = borne-same (ap (λ (u : PartitionView K V I). u.records) is)
    goes-bear stands f result order grows met kept clears (Goes.appends x value t e d entry room free is r) =
        let class = class_in code v.records (key_of x.op) in
        borne-record e (key_of x.op) value (standing join (live_of cmp v (key_of x.op)) value) (found-place v.records.words class.bucket class.tag e entry) (grows e (key_of x.op) value (standing join (live_of cmp v (key_of x.op)) value)) (ap (λ (u : PartitionView K V I). u.records) is)
    goes-bear stands f result order grows met kept clears (Goes.worn x value t d room is r) = borne-same (ap (λ (u : PartitionView K V I). u.records) is)
    goes-bear stands f result order grows met kept clears (Goes.full x value t d room is r) = borne-same (ap (λ (u : PartitionView K V I). u.records) is)
    goes-bear stands f result order grows met kept clears (Goes.replaces x value t e d last is r) =
        let m = met x value t e d last in
        borne-value e.address value m.1 (kept e.address value m.0 m.1)
        (λ limit low h. clears e.address value limit (live-high cmp join code v.records s.traced s.resolved e.address m.0 limit h) h)
        (ap (λ (u : PartitionView K V I). u.records) is)
    goes-bear stands f result order grows met kept clears (Goes.waits x d is r) = borne-same (ap (λ (u : PartitionView K V I). u.records) is)
    goes-bear stands f result order grows met kept clears (Goes.prepares x source i e d entry is r) = borne-same (ap (λ (u : PartitionView K V I). u.records) is)
    goes-bear stands f result order grows met kept clears (Goes.asks_page x b parts e p d entry held is r) = borne-same (ap (λ (u : PartitionView K V I). u.records) is)
    goes-bear stands f result order grows met kept clears (Goes.unshared x b parts d is r) = borne-same (ap (λ (u : PartitionView K V I). u.records) is)

    pub installs-bear : {O R : Type 0} (f : Meanings K V I O) (ask : Ask K V I) (result : Result (Progress K V I O R) Refused)
        → ((e : IndexEntry) (key : K) (payload : Payload V) (has : Option V) (limit : ℕ) → limit ≤ v.records.log.tail → IsCleared cmp v.records.log.text limit → IsCleared cmp (with_written v.records e key payload has).log.text limit)
        → Installs cmp f code v new slot c ask now result
        → IsPreserved keeps cmp join code v new
    installs-bear f ask result grows (Installs.unknown h is r) = borne-same (ap (λ (u : PartitionView K V I). u.records) is)
    installs-bear f ask result grows (Installs.not_ready x h q is r) = borne-same (ap (λ (u : PartitionView K V I). u.records) is)
    installs-bear f ask result grows (Installs.stranger x e mine h q n is r) = borne-same (ap (λ (u : PartitionView K V I). u.records) is)
    installs-bear f ask result grows (Installs.moved x e h q n is r) = borne-same (ap (λ (u : PartitionView K V I). u.records) is)
    installs-bear f ask result grows (Installs.declined x e h q n u is r) = borne-same (ap (λ (u : PartitionView K V I). u.records) is)
    installs-bear f ask result grows (Installs.worn x e value h q n u room is r) = borne-same (ap (λ (u : PartitionView K V I). u.records) is)
    installs-bear f ask result grows (Installs.full x e value h q n u room is r) = borne-same (ap (λ (u : PartitionView K V I). u.records) is)
    installs-bear f ask result grows (Installs.done x e value h q n u room free is r) =
        borne-record e ask.key (Whole (Some value)) (Some value) (kept-entry cmp join code v s slot c x e ask h q n).place (grows e ask.key (Whole (Some value)) (Some value)) (ap (λ (u : PartitionView K V I). u.records) is)

    pub loads-bear : {O R : Type 0} (stands : R → Standing) (entry : ℕ → List ℕ → ℕ → Entry K V → Type 0) (f : Meanings K V I O) (came : Result (Joined R) Refused) (result : Result (Progress K V I O R) Refused)
        → Loads stands entry cmp join f v new slot c came now result
        → IsPreserved keeps cmp join code v new
    loads-bear stands entry f came result (Loads.unknown h is r) = borne-same (ap (λ (u : PartitionView K V I). u.records) is)
    loads-bear stands entry f came result (Loads.not_ready x h n is r) = borne-same (ap (λ (u : PartitionView K V I). u.records) is)
    loads-bear stands entry f came result (Loads.moved x l h phase n is r) = borne-same (ap (λ (u : PartitionView K V I). u.records) is)
    loads-bear stands entry f came result (Loads.failed x l why a q n is r) = borne-same (ap (λ (u : PartitionView K V I). u.records) is)
    loads-bear stands entry f came result (Loads.unread x l a q is r) = borne-same (ap (λ (u : PartitionView K V I). u.records) is)
    loads-bear stands entry f came result (Loads.stranger x l p st a q h n is r) = borne-same (ap (λ (u : PartitionView K V I). u.records) is)
    loads-bear stands entry f came result (Loads.damaged x l p why a q is r) = borne-same (ap (λ (u : PartitionView K V I). u.records) is)
    loads-bear stands entry f came result (Loads.bad_link x l p b parts a q high n is r) = borne-same (ap (λ (u : PartitionView K V I). u.records) is)
    loads-bear stands entry f came result (Loads.done x l p k i value a q op is r) = borne-same (ap (λ (u : PartitionView K V I). u.records) is)
    loads-bear stands entry f came result (Loads.prepares x l p k i value a q op is r) = borne-same (ap (λ (u : PartitionView K V I). u.records) is)
    loads-bear stands entry f came result (Loads.goes_on x l p b parts r a q high at held is t) = borne-same (ap (λ (u : PartitionView K V I). u.records) is)
    loads-bear stands entry f came result (Loads.unshared x l p b parts a q high at is r) = borne-same (ap (λ (u : PartitionView K V I). u.records) is)

    pub gives-up-bear : (result : Result (Unit {0}) Refused) → GivesUp v new slot c now result → IsPreserved keeps cmp join code v new
    gives-up-bear result (GivesUp.unknown h is r) = borne-same (ap (λ (u : PartitionView K V I). u.records) is)
    gives-up-bear result (GivesUp.gives_up x h q is r) = borne-same (ap (λ (u : PartitionView K V I). u.records) is)
    gives-up-bear result (GivesUp.cancels x p h q is r) = borne-released slot c now x h p q (ap (λ (u : PartitionView K V I). u.records) is)

  pub issues-bear : (slot c : ℕ) (op : KeyedOp K V I) (now : ℕ) → Issues code v new slot c op now → IsPreserved keeps cmp join code v new
  issues-bear slot c op now h = borne-same (ap (λ (u : PartitionView K V I). u.records) h.is)

  pub enters-bear : (now : ℕ) (result : Result ℕ Refused) → Enters v new now result → IsPreserved keeps cmp join code v new
  enters-bear now result (Enters.full h is r) = borne-same (ap (λ (u : PartitionView K V I). u.records) is)
  enters-bear now result (Enters.enters slot h is r) = borne-regions (entered v.records.log.regions slot) (raised-self v.records.log.regions.offsets) (ap (λ (u : PartitionView K V I). u.records) is)

  ordered : IsOrdered v.records.log.regions.epochs
  ordered = s.traced.regions.timely.ordered

  pub leaves-bear : (slot now : ℕ) (result : Result (Unit {0}) Refused) → Leaves keeps v new slot now result → IsPreserved keeps cmp join code v new
  leaves-bear slot now result (Leaves.unknown h is r) = borne-same (ap (λ (u : PartitionView K V I). u.records) is)
  leaves-bear slot now result (Leaves.busy c h q is r) = borne-same (ap (λ (u : PartitionView K V I). u.records) is)
  leaves-bear slot now result (Leaves.leaves h q is r) = borne-moved _ now (moved-left v.records.log.regions slot ordered s.traced.regions.agree).raised is

  pub refreshes-bear : (slot now : ℕ) (result : Result (Unit {0}) Refused) → Refreshes keeps v new slot now result → IsPreserved keeps cmp join code v new
  refreshes-bear slot now result (Refreshes.unknown h is r) = borne-same (ap (λ (u : PartitionView K V I). u.records) is)
  refreshes-bear slot now result (Refreshes.refreshes h is r) =
      borne-moved _ now (moved-refreshed v.records.log.regions slot (entered-fits v.records.log.regions.epochs slot ordered h) ordered s.traced.regions.agree).raised is

  pub shifts-bear : (page now : ℕ) (result : Result (Unit {0}) Refused) → Shifts keeps v new page now result → IsPreserved keeps cmp join code v new
  shifts-bear page now result (Shifts.not_due h is r) = borne-same (ap (λ (u : PartitionView K V I). u.records) is)
  shifts-bear page now result (Shifts.full h w is r) = borne-same (ap (λ (u : PartitionView K V I). u.records) is)
  shifts-bear page now result (Shifts.shifts h w is r) =
      borne-moved _ now (moved-read_only v.records.log.regions page v.records.log.tail (tail-most v.records s.traced) ordered w h s.traced.regions.agree).raised is

  pub evicts-bear : (page now : ℕ) (result : Result (Unit {0}) Refused) → Evicts keeps v new page now result → IsPreserved keeps cmp join code v new
  evicts-bear page now result (Evicts.not_due h is r) = borne-same (ap (λ (u : PartitionView K V I). u.records) is)
  evicts-bear page now result (Evicts.full h w is r) = borne-same (ap (λ (u : PartitionView K V I). u.records) is)
  evicts-bear page now result (Evicts.evicts h w is r) = borne-moved _ now (moved-head v.records.log.regions page ordered w h s.traced.regions.agree).raised is

  pub flushes-bear : (st : Standing) (bytes : List ℕ) (now : ℕ) (result : Result (Unit {0}) Refused) → Flushes v new st bytes now result → IsPreserved keeps cmp join code v new
  flushes-bear st bytes now result (Flushes.refused why h is r) = borne-same (ap (λ (u : PartitionView K V I). u.records) is)
  flushes-bear st bytes now result (Flushes.unkept h is r) = borne-same (ap (λ (u : PartitionView K V I). u.records) is)
  flushes-bear st bytes now result (Flushes.keeps h is r) =
      borne-by (with_receipt v.records st) (ap (λ (u : PartitionView K V I). u.records) is) (grown-flushed cmp join code v.records s.traced st) (know-flushed cmp join code v.records s.traced st)

  pub truncates-bear : (page now : ℕ) (result : Result (Unit {0}) Refused)
      → IsKeyOrder cmp
      → (IsTrue keeps → IsTruncationDue v.records.log page → IsCleared cmp v.records.log.text (start_at v.records.log.bits page))
      → ((low limit : ℕ) → IsCleared cmp v.records.log.text limit → IsCleared cmp (text_from low v.records.log.text) limit)
      → IsTraced keeps code new.records
      → IsResolved cmp join new.records
      → Truncates keeps v new page now result
      → IsPreserved keeps cmp join code v new
  truncates-bear page now result order clear drops cut cut_resolved (Truncates.not_due n is r) = borne-same (ap (λ (u : PartitionView K V I). u.records) is)
  truncates-bear page now result order clear drops cut cut_resolved (Truncates.truncates due is r) =
      let low = start_at v.records.log.bits page in
      let text = new.records.text in
      let here : new.records ≡ truncated keeps v.records low text = ap (λ (u : PartitionView K V I). u.records) is in
      let cut_at : IsTraced keeps code (truncated keeps v.records low text) = subst (IsTraced keeps code) here cut in
      let resolved_at : IsResolved cmp join (truncated keeps v.records low text) = subst (IsResolved cmp join) here cut_resolved in
      record {
        bears = subst (λ u. Bears keeps cmp join code v.records u) (sym here) (record {
          kept = λ k e source was. kept-cut cmp join code order v.records s.traced s.resolved low due.higher (λ yes_keeps. clear yes_keeps due) text cut_at resolved_at k e source was;
          loading = λ k l was. loading-cut cmp join code order v.records s.traced s.resolved low due.higher (λ yes_keeps. clear yes_keeps due) text cut_at resolved_at k l was;
        });
        grown = subst (λ u. IsGrown keeps cmp v.records u) (sym here) (know-cut cmp join code v.records s.traced low text due.higher (λ limit c. drops (text_begin keeps low v.records.log.regions.offsets.closed) limit c));
        next = λ yes_keeps. subst (λ u. ReusesNoAddress cmp (indexed v.records) (indexed u)) (sym here) (next-cut cmp join code order v.records s.traced s.resolved low due.higher (λ yes. clear yes due) text cut_at resolved_at yes_keeps);
      }

-- a record is appended behind the entry of its class
pub appends-bear : {K V I : Type 0} {keeps : Bool} (cmp : K → K → Ordering) (join : V → V → V) (code : K → ℕ) (v : PartitionView K V I) (s : IsSound keeps cmp join code v) (slot c now : ℕ) (write : Write K V) (has : Option V)
    → ((e : IndexEntry) (key : K) (payload : Payload V) (has : Option V) (limit : ℕ) → limit ≤ v.records.log.tail → IsCleared cmp v.records.log.text limit → IsCleared cmp (with_written v.records e key payload has).log.text limit)
    → IsWrite code v write
    → IsPreserved keeps cmp join code v (with_payload v slot c write.entry write.key write.payload has now)
appends-bear cmp join code v s slot c now write has grows w =
    borne-record cmp join code v s (with_payload v slot c write.entry write.key write.payload has now) write.entry write.key write.payload has w.entry.place (grows write.entry write.key write.payload has) refl
