-- What the changes of a partition keep.
use Rattle.std.proofs.Common.{◌≡◌, ◌≢◌, true, false, ℕ, zero, suc, ◌+◌, ◌*◌, ◌^◌, ◌<◌, ◌≤◌, inl, inr, IsTrue, List, length, replicate, Option, Some, None, slice_get, slice_set, refl, sym, ◌∙◌, ap, subst, arith}
use Rattle.std.proofs.lemmas.List.{length-set}
use Rattle.std.proofs.lemmas.Option.{slice_get_past}
use Rattle.fkv_partition.proofs.AskedLemmas.{set-past}
use Rattle.std.proofs.lemmas.Bool.{cases_eq}
use Rattle.std.specs.declared.cmp.Ordering.{Ordering}
use Rattle.fkv_texts.specs.declared.entries.Entry.{Entry}
use Rattle.std.proofs.Common.{Bool, nat_le}
use Rattle.fkv_device.specs.Standing.{Standing}
use Rattle.fkv_hybrid.specs.Views.{text_begin}
use Rattle.fkv_regions.specs.Agree.{IsRaised}
use Rattle.fkv_texts.specs.Text.{newest}
use Rattle.fkv_texts.proofs.CutLemmas.{filter-in}
use Rattle.fkv_regions.specs.RegionsView.{RegionsView}
use Rattle.fkv_index.specs.declared.words.Place.{Place}
use Rattle.fkv_index.specs.Words.{address_of, is_tentative, is_final}
use Rattle.fkv_index.specs.Places.{word_at}
use Rattle.fkv_index.specs.Changes.{SameTentative}
use Rattle.fkv_index.proofs.WordFacts.{final_not_tentative}
use Rattle.fkv_operations.specs.After.{key_of, is_merge}
use Rattle.fkv_lookups.specs.RecordsViews.{RecordsView, class_in, IsEntryOf, with_written, with_value, with_regions, with_receipt, IsMoved}
use Rattle.fkv_lookups.specs.RecordsViews.{ChangesAt}
use Rattle.fkv_lookups.specs.declared.payloads.Payload.{Payload}
use Rattle.fkv_lookups.specs.Payloads.{value_in, is_part}
use Rattle.fkv_lookups.specs.Traced.{IsTraced, IsResolved}
use Rattle.fkv_operations.specs.Still.{IsStill}
use Rattle.fkv_operations.specs.declared.entries.IndexEntry.{IndexEntry}
use Rattle.fkv_partition.specs.declared.limits.Config.{Config}
use Rattle.fkv_partition.specs.declared.contexts.Context.{Context}
use Rattle.fkv_partition.specs.declared.contexts.OpenWork.{OpenWork}
use Rattle.fkv_partition.specs.declared.contexts.OpenWork.TheVariants.{OnKey, Relocating}
use Rattle.fkv_partition.specs.declared.relocations.Relocation.{Relocation}
use Rattle.fkv_partition.specs.declared.contexts.Phase.TheVariants.{Confirm}
use Rattle.fkv_partition.specs.Contexts.{joined, is_session, at_phase, claim_by, claim_of, claim_at}
use Rattle.fkv_partition.specs.Claiming.{AreOwned}
use Rattle.fkv_partition.specs.Views.{PartitionView, slots_of, empty_partition, partition_of, with_open, with_relocation, with_context, with_payload, with_replaced, in_regions}
use Rattle.fkv_partition.specs.KeySound.{StandsFor, IsSound}
use Rattle.fkv_functions.proofs.ListLemmas.{get-set_cases, get-set_same, get-set_other, get-append_cases}
use Rattle.fkv_texts.proofs.ChangeLemmas.{was_at, set_at-key}
use Rattle.fkv_partition.proofs.GrownLemmas.{Grows, stands-grown, grown-regions, grown-moved, grown-flushed, grown-appended, grown-replaced}
use Rattle.fkv_partition.proofs.ClaimLemmas.{owned-quiet, owned-claimed, owned-freed}

set-at : {A : Type 0} (xs : List (Option A)) (i : ℕ) (y : Option A) (x : A) → slice_get xs i ≡ Some (Some x) → slice_get (slice_set xs i y) i ≡ Some (Some x) → y ≡ Some x
set-at xs i y x was is = let set : slice_get (slice_set xs i y) i ≡ Some y = get-set_same xs i (Some x) y was in let same : Some y ≡ Some (Some x) = sym set ∙ is in cc

-- ---- whole partitions
module _ {K V I : Type 0} {keeps : Bool} {cmp : K → K → Ordering} {join : V → V → V} {code : K → ℕ} where
  pub sound-empty : (merges : Bool) (config : Config) (size number : ℕ) → number < 2 ^ config.partition_bits → IsTraced {V = V} keeps code (empty_partition {I = I} merges config size number).records
      → IsResolved cmp join (empty_partition {I = I} merges config size number).records
      → ((q : Place) → is_tentative (word_at (empty_partition {K = K} {V = V} {I = I} merges config size number).records.words q) ≡ false) → IsSound {V = V} {I = I} keeps cmp join code (empty_partition merges config size number)
  sound-empty merges config size number h traced resolved quiet = record {
    own = h;
    counted = refl;
    places = refl;
    traced = traced;
    resolved = resolved;
    stands = λ p x e. absurd (none_in 128 p (OnKey x) e);
    owned = record {
      tentative = λ p q e. absurd (none_claims 128 p q e);
      owner = λ q e. absurd (let no = sym (quiet q) ∙ e in cc);
      one = λ p r q e f. absurd (none_claims 128 p q e);
    };
    routed = λ i e k. absurd (cc);
    asked = λ p x e. absurd (none_in 128 p (OnKey x) e);
    merging = λ p x e. absurd (none_in 128 p (OnKey x) e);
    housed = λ slot c x h e. absurd (none_in 128 (slot * 8 + c) x e);
  }
    where
      none_in : (n p : ℕ) (x : OpenWork K V I) → slice_get (replicate n None) p ≡ Some (Some x) → ⊥
      none_in zero p x e = cc
      none_in (suc n) zero x e = cc
      none_in (suc n) (suc p) x e = none_in n p x e

      none_claims : (n p : ℕ) (q : Place) → claim_at {K = K} {V = V} {I = I} (replicate n None) p ≡ Some q → ⊥
      none_claims zero p q e = cc
      none_claims (suc n) zero q e = cc
      none_claims (suc n) (suc p) q e = none_claims n p q e

  module _ {v : PartitionView K V I} (s : IsSound keeps cmp join code v) where
    pub sound-moment : (now : ℕ) → IsSound keeps cmp join code (record v { moment = now })
    sound-moment now = record { own = s.own; counted = s.counted; places = s.places; traced = s.traced; resolved = s.resolved; stands = s.stands; owned = s.owned; routed = s.routed; asked = s.asked; merging = s.merging; housed = s.housed }

    pub sound-cleared : (cleared : ℕ) → IsSound keeps cmp join code (record v { cleared = cleared })
    sound-cleared cleared = record { own = s.own; counted = s.counted; places = s.places; traced = s.traced; resolved = s.resolved; stands = s.stands; owned = s.owned; routed = s.routed; asked = s.asked; merging = s.merging; housed = s.housed }

    -- the regions move, sessions come and go, and none with an open operation goes
    pub sound-regions : (regions : RegionsView) (now : ℕ)
        → IsTraced keeps code (with_regions v.records regions)
        → IsResolved cmp join (with_regions v.records regions)
        → IsRaised v.records.log.regions.offsets regions.offsets
        → ((t c : ℕ) (x : OpenWork K V I) → c < 8 → slice_get v.contexts (t * 8 + c) ≡ Some (Some x) → is_session regions.epochs.slots t ≡ true)
        → IsSound keeps cmp join code (in_regions v regions now)
    sound-regions regions now traced resolved up housed = record {
      own = s.own;
      counted = s.counted;
      places = s.places;
      traced = traced;
      resolved = resolved;
      stands = λ p x h. stands-grown keeps cmp join code v.records (with_regions v.records regions) x.op x.phase s.traced (grown-regions cmp join code v.records s.traced regions up) (λ q e. refl) (s.stands p x h);
      owned = s.owned;
      routed = s.routed;
      asked = s.asked;
      merging = s.merging;
      housed = housed;
    }

    -- frames are closed too, and the text may begin higher
    pub sound-moved : (r : RecordsView K V) (regions : RegionsView) (now : ℕ)
        → IsTraced keeps code r
        → IsResolved cmp join r
        → IsMoved keeps regions v.records r
        → IsRaised v.records.log.regions.offsets r.log.regions.offsets
        → ((t c : ℕ) (x : OpenWork K V I) → c < 8 → slice_get v.contexts (t * 8 + c) ≡ Some (Some x) → is_session r.log.regions.epochs.slots t ≡ true)
        → IsSound keeps cmp join code (record v { records = r; moment = now })
    sound-moved r regions now traced resolved m up housed = record {
      own = s.own;
      counted = s.counted ∙ ap (λ (w : RecordsView K V). 2 ^ w.partition_bits) (sym m.is);
      places = s.places;
      traced = traced;
      resolved = resolved;
      stands = λ p x h. stands-grown keeps cmp join code v.records r x.op x.phase s.traced (grown-moved cmp join code v.records s.traced r regions m up) (λ q e. ap (λ (w : RecordsView K V). word_at w.words q) m.is) (s.stands p x h);
      owned = subst (λ w. AreOwned w v.contexts) (sym (ap (λ (w : RecordsView K V). w.words) m.is)) s.owned;
      routed = λ i e h.
          let was = filter-in (λ (d : Entry K V). nat_le low d.address) v.records.log.text i e (ap (λ (w : RecordsView K V). slice_get w.log.text i) (sym m.is) ∙ h) in
          s.routed was.0.place e was.0.here;
      asked = s.asked;
      merging = s.merging;
      housed = housed;
    }
      where
        low : ℕ
        low = text_begin keeps v.records.log.begin regions.offsets.closed

    -- a page is flushed
    pub sound-flushed : (st : Standing) (now : ℕ) → IsTraced keeps code (with_receipt v.records st) → IsResolved cmp join (with_receipt v.records st) → IsSound keeps cmp join code (record v { records = with_receipt v.records st; moment = now })
    sound-flushed st now traced resolved = record {
      own = s.own;
      counted = s.counted;
      places = s.places;
      traced = traced;
      resolved = resolved;
      stands = λ p x h. stands-grown keeps cmp join code v.records (with_receipt v.records st) x.op x.phase s.traced (grown-flushed cmp join code v.records s.traced st) (λ q e. refl) (s.stands p x h);
      owned = s.owned;
      routed = s.routed;
      asked = s.asked;
      merging = s.merging;
      housed = s.housed;
    }

    -- an operation on a key that may stand in a context
    pub record Fits (r : RecordsView K V) (x : Context K V I) : Type 0 where
      pub stands : StandsFor keeps cmp join code r x.op x.phase
      pub own : partition_of v.count (code (key_of x.op)) ≡ v.number
      pub merging : is_merge x.op ≡ true → v.merges ≡ true

    -- a context of a session that is entered
    pub record Houses (slot c : ℕ) : Type 0 where
      pub inside : is_session (slots_of v) slot ≡ true
      pub low : c < 8

    -- what is asked of records that take the place of others, where a context is set
    pub record Suits (r : RecordsView K V) (slot c : ℕ) (y : Option (OpenWork K V I)) : Type 0 where
      pub traced : IsTraced keeps code r
      pub resolved : IsResolved cmp join r
      pub bits : r.partition_bits ≡ v.records.partition_bits
      pub regions : r.log.regions ≡ v.records.log.regions
      pub routed : (i : ℕ) (e : Entry K V) → slice_get r.log.text i ≡ Some e → partition_of v.count (code e.key) ≡ v.number
      pub others : (p : ℕ) (x : Context K V I) → p ≢ slot * 8 + c → slice_get v.contexts p ≡ Some (Some (OnKey x)) → StandsFor keeps cmp join code r x.op x.phase
      pub owned : AreOwned r.words (slice_set v.contexts (slot * 8 + c) y)

    -- a context is set, and the records change
    pub sound-changed : (r : RecordsView K V) (slot c now : ℕ) (y : Option (OpenWork K V I)) → Suits r slot c y
        → ((z : OpenWork K V I) → y ≡ Some z → Houses slot c)
        → ((x : Context K V I) → y ≡ Some (OnKey x) → Fits r x)
        → IsSound keeps cmp join code (record (with_open v slot c y now) { records = r })
    sound-changed r slot c now y suits houses fits = record {
      own = s.own;
      counted = s.counted ∙ ap (λ n. 2 ^ n) (sym suits.bits);
      places = length-set v.contexts (slot * 8 + c) y ∙ s.places;
      traced = suits.traced;
      resolved = suits.resolved;
      stands = λ p x h. elim (cases_eq p (slot * 8 + c)) [
        | inl here ↦ (fits x (new p (OnKey x) here h)).stands
        | inr other ↦ suits.others p x other (sym (get-set_other v.contexts (slot * 8 + c) p y other) ∙ h)
      ];
      owned = suits.owned;
      routed = suits.routed;
      asked = λ p x h. elim (get-set_cases v.contexts (slot * 8 + c) p y (Some (OnKey x)) h) [
        | inl e ↦ (fits x e.1).own
        | inr o ↦ s.asked p x o
      ];
      merging = λ p x h. elim (get-set_cases v.contexts (slot * 8 + c) p y (Some (OnKey x)) h) [
        | inl e ↦ (fits x e.1).merging
        | inr o ↦ s.merging p x o
      ];
      housed = λ t d z h e. elim (get-set_cases v.contexts (slot * 8 + c) (t * 8 + d) y (Some z) e) [
        | inl p ↦ (let f = houses z p.1 in
            let low : c < 8 = f.low in
            let one : t ≡ slot = (let q : t * 8 + d ≡ slot * 8 + c = p.0 in omega arith) in
            ap (λ (g : RegionsView). is_session g.epochs.slots t) suits.regions ∙ ap (λ n. is_session (slots_of v) n) one ∙ f.inside)
        | inr o ↦ ap (λ (g : RegionsView). is_session g.epochs.slots t) suits.regions ∙ s.housed t d z h o
      ];
    }
      where
        new : (p : ℕ) (z : OpenWork K V I) → p ≡ slot * 8 + c → slice_get (slice_set v.contexts (slot * 8 + c) y) p ≡ Some (Some z) → y ≡ Some z
        new p z here h = elim (get-set_cases v.contexts (slot * 8 + c) p y (Some z) h) [
          | inl e ↦ e.1
          | inr o ↦ set-at v.contexts (slot * 8 + c) y z (ap (slice_get v.contexts) (sym here) ∙ o) (ap (slice_get (slice_set v.contexts (slot * 8 + c) y)) (sym here) ∙ h)
        ]

    -- nothing but a context is set, to one that claims nothing as the one before
    same-records : (slot c : ℕ) (y : Option (OpenWork K V I)) → claim_at v.contexts (slot * 8 + c) ≡ None → claim_of y ≡ None → Suits v.records slot c y
    same-records slot c y old quiet = record {
      traced = s.traced;
      resolved = s.resolved;
      bits = refl;
      regions = refl;
      routed = s.routed;
      others = λ p x n h. s.stands p x h;
      owned = owned-quiet v.records.words v.records.words v.contexts (slot * 8 + c) y s.owned (λ q. refl) old quiet;
    }

    pub sound-context : (slot c now : ℕ) (x : Context K V I) → claim_at v.contexts (slot * 8 + c) ≡ None → claim_by x.phase ≡ None → Houses slot c → Fits v.records x → IsSound keeps cmp join code (with_context v slot c (Some x) now)
    sound-context slot c now x old quiet houses fits =
        sound-changed v.records slot c now (Some (OnKey x)) (same-records slot c (Some (OnKey x)) old quiet) (λ z e. houses) (λ y e. (let same : x ≡ y = cc in subst (Fits v.records) same fits))

    -- a relocation is set
    pub sound-with_relocation : (slot c now : ℕ) (x : Relocation K V) → claim_at v.contexts (slot * 8 + c) ≡ None → Houses slot c → IsSound keeps cmp join code (with_relocation v slot c (Some x) now)
    sound-with_relocation slot c now x old houses =
        sound-changed v.records slot c now (Some (Relocating x)) (same-records slot c (Some (Relocating x)) old refl) (λ z e. houses) (λ y e. absurd (cc))

    pub sound-freed : (slot c now : ℕ) → claim_at v.contexts (slot * 8 + c) ≡ None → IsSound keeps cmp join code (with_open v slot c None now)
    sound-freed slot c now old = sound-changed v.records slot c now None (same-records slot c None old refl) (λ z e. absurd (cc)) (λ y e. absurd (cc))

    -- ---- the records change too
    -- the words change at one place alone, and an operation in another context claims another
    others-stand : (r : RecordsView K V) (slot c : ℕ) (q : Place) → Grows keeps cmp join code v.records r → ChangesAt q v.records.words r.words
        → ((p : ℕ) → p ≢ slot * 8 + c → claim_at v.contexts p ≢ Some q)
        → (p : ℕ) (x : Context K V I) → p ≢ slot * 8 + c → slice_get v.contexts p ≡ Some (Some (OnKey x)) → StandsFor keeps cmp join code r x.op x.phase
    others-stand r slot c q grown words none p x n h =
        let mine : claim_at v.contexts p ≡ claim_by x.phase = ap (λ o. claim_of (joined o)) h in
        stands-grown keeps cmp join code v.records r x.op x.phase s.traced grown (λ z e. words.others z (λ same. none p n (mine ∙ e ∙ ap Some same))) (s.stands p x h)

    -- a tentative entry is made
    pub sound-claimed : (r : RecordsView K V) (slot c now : ℕ) (x : Context K V I) (q : Place)
        → IsTraced keeps code r
        → IsResolved cmp join r
        → Grows keeps cmp join code v.records r
        → ChangesAt q v.records.words r.words
        → r.partition_bits ≡ v.records.partition_bits
        → r.log.regions ≡ v.records.log.regions
        → r.log.text ≡ v.records.log.text
        → is_tentative (word_at v.records.words q) ≡ false
        → IsTrue (is_tentative (word_at r.words q))
        → slice_get v.contexts (slot * 8 + c) ≡ Some (Some (OnKey x))
        → claim_by x.phase ≡ None
        → Houses slot c
        → Fits r (at_phase x (Confirm q))
        → IsSound keeps cmp join code (record (with_context v slot c (Some (at_phase x (Confirm q))) now) { records = r })
    sound-claimed r slot c now x q traced resolved grown words bits regions text was is here quiet houses fits =
        sound-changed r slot c now (Some (OnKey (at_phase x (Confirm q)))) (record {
          traced = traced;
          resolved = resolved;
          bits = bits;
          regions = regions;
          routed = λ i e h. s.routed i e (ap (λ t. slice_get t i) (sym text) ∙ h);
          others = others-stand r slot c q grown words (λ p n e. (let no = sym was ∙ s.owned.tentative p q e in absurd (cc)));
          owned = owned-claimed v.records.words r.words v.contexts (slot * 8 + c) (Some (OnKey (at_phase x (Confirm q)))) s.owned q (Some (OnKey x)) words was is here quiet refl;
        }) (λ z e. houses) (λ y e. (let same : at_phase x (Confirm q) ≡ y = cc in subst (Fits r) same fits))

    -- and the operation that made it claims it no more
    pub sound-settled : (r : RecordsView K V) (slot c now : ℕ) (x : Context K V I) (q : Place) (y : Option (OpenWork K V I))
        → IsTraced keeps code r
        → IsResolved cmp join r
        → Grows keeps cmp join code v.records r
        → ChangesAt q v.records.words r.words
        → r.partition_bits ≡ v.records.partition_bits
        → r.log.regions ≡ v.records.log.regions
        → r.log.text ≡ v.records.log.text
        → is_tentative (word_at r.words q) ≡ false
        → slice_get v.contexts (slot * 8 + c) ≡ Some (Some (OnKey x))
        → x.phase ≡ Confirm q
        → claim_of y ≡ None
        → Houses slot c
        → ((z : Context K V I) → y ≡ Some (OnKey z) → Fits r z)
        → IsSound keeps cmp join code (record (with_open v slot c y now) { records = r })
    sound-settled r slot c now x q y traced resolved grown words bits regions text freed here phase quiet houses fits =
        let mine : claim_at v.contexts (slot * 8 + c) ≡ Some q = ap (λ o. claim_of (joined o)) here ∙ ap claim_by phase in
        sound-changed r slot c now y (record {
          traced = traced;
          resolved = resolved;
          bits = bits;
          regions = regions;
          routed = λ i e h. s.routed i e (ap (λ t. slice_get t i) (sym text) ∙ h);
          others = others-stand r slot c q grown words (λ p n e. n (s.owned.one p (slot * 8 + c) q e mine));
          owned = owned-freed v.records.words r.words v.contexts (slot * 8 + c) y s.owned q (Some (OnKey x)) words freed here (ap claim_by phase) quiet;
        }) (λ z e. houses) fits

    -- a record at the tail, of a key that belongs here
    pub sound-appended : (slot c now : ℕ) (e : IndexEntry) (k : K) (payload : Payload V) (has : Option V)
        → claim_at v.contexts (slot * 8 + c) ≡ None
        → IsEntryOf v.records (class_in code v.records k) e
        → IsTraced keeps code (with_written v.records e k payload has)
        → IsResolved cmp join (with_written v.records e k payload has)
        → ChangesAt e.place v.records.words (with_written v.records e k payload has).words
        → SameTentative v.records.words (with_written v.records e k payload has).words
        → partition_of v.count (code k) ≡ v.number
        → IsSound keeps cmp join code (with_payload v slot c e k payload has now)
    sound-appended slot c now e k payload has old entry traced resolved words same own =
        sound-changed (with_written v.records e k payload has) slot c now None (record {
          traced = traced;
          resolved = resolved;
          bits = refl;
          regions = refl;
          routed = λ i x h. elim (get-append_cases v.records.log.text last i x h) [
            | inl was ↦ s.routed i x was
            | inr new ↦ subst (λ (y : Entry K V). partition_of v.count (code y.key) ≡ v.number) new.1 own
          ];
          others = others-stand (with_written v.records e k payload has) slot c e.place (grown-appended cmp join code v.records s.traced e k payload has entry.place) words
              (λ p n h. (let no = sym (final_not_tentative (word_at v.records.words e.place) (ap is_final entry.word ∙ entry.final)) ∙ s.owned.tentative p e.place h in absurd (cc)));
          owned = owned-quiet v.records.words (with_written v.records e k payload has).words v.contexts (slot * 8 + c) None s.owned same old refl;
        }) (λ z h. absurd (cc)) (λ y h. absurd (cc))
      where
        last : Entry K V
        last = record { address = v.records.log.tail; previous = address_of e.word; key = k; value = value_in payload; delta = is_part payload }

    -- a record gets another value where it stands, or becomes a tombstone
    pub sound-replaced : (slot c now a : ℕ) (value : Option V)
        → claim_at v.contexts (slot * 8 + c) ≡ None
        → v.records.log.regions.offsets.safe_read_only ≤ a
        → IsTraced keeps code (with_value v.records a value)
        → IsResolved cmp join (with_value v.records a value)
        → ((q : K) (b : ℕ) → IsStill v.records.log.regions.offsets.safe_read_only (newest cmp v.records.text q b) → newest cmp (with_value v.records a value).text q b ≡ newest cmp v.records.text q b)
        → IsSound keeps cmp join code (with_replaced v slot c a value now)
    sound-replaced slot c now a value old high traced resolved kept =
        sound-changed (with_value v.records a value) slot c now None (record {
          traced = traced;
          resolved = resolved;
          bits = refl;
          regions = refl;
          routed = λ i e h.
              let was = was_at a value v.records.log.text i e h in
              subst (λ (y : Entry K V). partition_of v.count (code y.key) ≡ v.number) was.is
              (ap (λ k. partition_of v.count (code k)) (set_at-key a value was.entry) ∙ s.routed i was.entry was.here);
          others = λ p x n h. stands-grown keeps cmp join code v.records (with_value v.records a value) x.op x.phase s.traced (grown-replaced cmp join code v.records s.traced a value high kept) (λ q e. refl) (s.stands p x h);
          owned = owned-quiet v.records.words v.records.words v.contexts (slot * 8 + c) None s.owned (λ q. refl) old refl;
        }) (λ z h. absurd (cc)) (λ y h. absurd (cc))

    -- the same where no context changes
    pub sound-revalued : (now a : ℕ) (value : Option V)
        → v.records.log.regions.offsets.safe_read_only ≤ a
        → IsTraced keeps code (with_value v.records a value)
        → IsResolved cmp join (with_value v.records a value)
        → ((q : K) (b : ℕ) → IsStill v.records.log.regions.offsets.safe_read_only (newest cmp v.records.text q b) → newest cmp (with_value v.records a value).text q b ≡ newest cmp v.records.text q b)
        → IsSound keeps cmp join code (record v { records = with_value v.records a value; moment = now })
    sound-revalued now a value high traced resolved kept =
        let long : length v.contexts ≤ 16 * 8 + 0 = omega (arith, s.places) in
        let past : slice_get v.contexts (16 * 8 + 0) ≡ None = slice_get_past v.contexts (16 * 8 + 0) long in
        subst (λ (cs : List (Option (OpenWork K V I))). IsSound keeps cmp join code (record v { contexts = cs; records = with_value v.records a value; moment = now }))
        (set-past v.contexts (16 * 8 + 0) None long)
        (sound-replaced 16 0 now a value (ap (λ o. claim_of (joined o)) past) high traced resolved kept)

-- a session stays where the regions that the records have followed have it
pub slots-moved : {K V : Type 0} {keeps : Bool} (old new : RecordsView K V) (regions : RegionsView) (t : ℕ) → IsMoved keeps regions old new → is_session regions.epochs.slots t ≡ true → is_session new.log.regions.epochs.slots t ≡ true
slots-moved old new regions t m h = ap (λ (w : RecordsView _ _). is_session w.log.regions.epochs.slots t) m.is ∙ h
