-- What the records of a partition keep, over each change, and what an entry says of a key.
use Rattle.std.proofs.Common.{◌≡◌, IsTrue, IsSome, Bool, true, false, cond, ℕ, zero, suc, ◌<◌, ◌≤◌, ◌^◌, inl, inr, List, [], ◌∷◌, ◌++◌, length, replicate, Option, Some, None, slice_get, nat_le, refl, sym, ◌∙◌, ap, subst, arith, lit<}
use Rattle.std.proofs.lemmas.Bool.Decides.{nat_tests}
use Rattle.std.proofs.lemmas.List.{length-replicate}
use Rattle.std.specs.Bool.{OnTrue, OnFalse}
use Rattle.std.specs.declared.cmp.Ordering.{Ordering}
use Rattle.fkv_functions.specs.Plain.{IsKeyOrder}
use Rattle.fkv_records.specs.Records.{IsPrevious}
use Rattle.fkv_texts.specs.declared.entries.Entry.{Entry}
use Rattle.fkv_texts.specs.Places.{IsLaidOut}
use Rattle.fkv_texts.specs.Text.{last_where, has_key, last_of, newest, live, AllAbove, IsRising, IsFrom, IsBelow}
use Rattle.fkv_texts.specs.Deltas.{resolved, value_after}
use Rattle.fkv_texts.specs.Chains.{has_class, last_of_class, Leads, IsChained, IsIn}
use Rattle.fkv_functions.proofs.ListLemmas.{get-append_last}
use Rattle.fkv_regions.specs.RegionsView.{RegionsView}
use Rattle.fkv_texts.proofs.ChangeLemmas.{laid_out-changed, rising-changed, from-changed, below-changed, chained-changed, leads-changed}
use Rattle.fkv_texts.proofs.StoodLemmas.{AreAlike, alike, alike_back, alike-laid_out, alike-rising, alike-from, alike-below, alike-leads, alike-chained}
use Rattle.fkv_texts.proofs.ValueLemmas.{resolved-append}
use Rattle.fkv_texts.proofs.LastWhere.{last_where-append, last_where-found, last_where-in, none-passes, last_where-narrow, last_where-narrow_none}
use Rattle.fkv_index.specs.declared.words.Word.{Word}
use Rattle.fkv_index.specs.declared.words.Place.{Place}
use Rattle.fkv_index.specs.Words.{empty, final_word, address_of, tag_of, is_final}
use Rattle.fkv_index.specs.Places.{word_at, with_word}
use Rattle.fkv_index.specs.Entries.{entry_at, StandsAt, IsIndexMap}
use Rattle.fkv_index.specs.Changes.{Writes, SetsEntry, SameEntries}
use Rattle.fkv_operations.specs.declared.classes.Class.{Class}
use Rattle.fkv_operations.specs.declared.entries.IndexEntry.{IndexEntry}
use Rattle.fkv_operations.specs.Classes.{same_class}
use Rattle.fkv_operations.specs.KeptWords.{IsLed}
use Rattle.fkv_lookups.specs.RecordsViews.{RecordsView, class_in, indexed, entry_of, leads_to, with_written, with_value, moved}
use Rattle.fkv_lookups.specs.RecordsViews.{ChangesAt}
use Rattle.fkv_lookups.specs.declared.payloads.Payload.{Payload}
use Rattle.fkv_lookups.specs.declared.payloads.Payload.TheVariants.{Whole, Part}
use Rattle.fkv_lookups.specs.Payloads.{value_in, is_part, standing}
use Rattle.fkv_lookups.specs.Traced.{AreRegionsBelow, IsTraced, IsResolved}
use Rattle.fkv_operations.proofs.ClassLemmas.{class_test, entry-set}
use Rattle.std.specs.Prelude.{Result, Ok, Err, OnOk, OnErr}
use Rattle.fkv_texts.proofs.CutLemmas.{cut-leads, cut-chained}
use Rattle.fkv_hybrid.specs.Views.{text_begin, LogView}
use Rattle.fkv_hybrid.specs.Views as log
use Rattle.fkv_hybrid.specs.Logs.{IsLogOf}
use Rattle.fkv_lookups.specs.Inside.{view_of}

-- ---- the tail
low_tail : {K V : Type 0} (bits size begin tail : ℕ) (text : List (Entry K V)) → IsLaidOut bits size begin tail text → begin ≤ tail
low_tail bits size begin tail [] l = omega arith
low_tail bits size begin tail (e ∷ es) l = let lt : begin < tail = l.1 in omega arith

begin_low : (keeps : Bool) (begin closed : ℕ) → begin ≤ text_begin keeps begin closed
begin_low true begin closed = omega arith
begin_low false begin closed = by_closed (nat_le begin closed) refl
  where
    by_closed : (b : Bool) → nat_le begin closed ≡ b → begin ≤ cond b closed begin
    by_closed true h = grind (arith, nat_tests)
    by_closed false h = omega arith

-- the text begins no lower than Begin
pub from_first : {K V : Type 0} {keeps : Bool} {code : K → ℕ} {v : RecordsView K V} → IsTraced keeps code v → v.log.begin ≤ v.log.from
from_first {keeps = keeps} {v = v} t = subst (λ n. v.log.begin ≤ n) (sym t.begins) (begin_low keeps v.log.begin v.log.regions.offsets.closed)

pub tail_from : {K V : Type 0} {keeps : Bool} {code : K → ℕ} {v : RecordsView K V} → IsTraced keeps code v → 64 ≤ v.log.tail
tail_from {v = v} t =
    let low = low_tail v.log.bits v.record_size v.log.from v.log.tail v.text t.laid_out in
    let begin = from_first t in
    omega (arith, t.first)

-- ---- the records as pages spell them
-- the records, each with its own value
abbrev pub raw : {K V : Type 0} → RecordsView K V → RecordsView K V
raw v = record v { text = v.log.text }

-- what is kept does not speak of values
traced-alike : {K V : Type 0} {keeps : Bool} {code : K → ℕ} (v : RecordsView K V) (text : List (Entry K V))
    → AreAlike v.text text
    → IsTraced keeps code v
    → IsTraced keeps code (record v { text = text })
traced-alike {code = code} v text same t = record {
  partition_bits = t.partition_bits;
  bucket_bits = t.bucket_bits;
  shape = t.shape;
  first = t.first;
  marked = t.marked;
  begins = t.begins;
  laid_out = alike-laid_out v.log.bits v.record_size v.log.from v.log.tail v.text text same t.laid_out;
  rising = alike-rising v.text text same t.rising;
  from = alike-from v.log.from v.text text same t.from;
  below = alike-below v.log.tail v.text text same t.below;
  regions = t.regions;
  flushed = t.flushed;
  gone = t.gone;
  held = t.held;
  chained = alike-chained (class_in code v) same_class v.log.from v.text text same t.chained;
  buckets = t.buckets;
  map = t.map;
  leads = λ c. alike-leads (class_in code v) same_class v.log.from v.text text same c (leads_to (entry_of v c)) (t.leads c);
  placed = t.placed;
}

pub traced-raw : {K V : Type 0} {keeps : Bool} {code : K → ℕ} {cmp : K → K → Ordering} {join : V → V → V} {v : RecordsView K V}
    → IsTraced keeps code v
    → IsResolved cmp join v
    → IsTraced keeps code (raw v)
traced-raw {cmp = cmp} {join = join} {v = v} t s = traced-alike v v.log.text (rw s.is (alike_back cmp join v.log.text)) t

-- the same of what a log is seen as
pub log-raw : {K V : Type 0} {keeps : Bool} {code : K → ℕ} (cmp : K → K → Ordering) (join : V → V → V) (p k size : ℕ) (words : List (List Word)) (l : LogView K V)
    → IsTraced keeps code (view_of cmp join p k size l words)
    → IsTraced keeps code (raw (view_of cmp join p k size l words))
log-raw cmp join p k size words l t = traced-alike (view_of cmp join p k size l words) l.text (alike_back cmp join l.text) t

-- ---- what a log says, with an index
pub traced-by : {K V : Type 0} {keeps : Bool} {code : K → ℕ} (cmp : K → K → Ordering) (join : V → V → V) (p k size : ℕ) (words : List (List Word)) (l : LogView K V)
    → p ≤ 6
    → k ≤ 20
    → IsLogOf keeps size l
    → IsChained (class_in code (view_of cmp join p k size l words)) same_class l.from l.text
    → length words ≡ 2 ^ k
    → IsIndexMap words
    → ((c : Class) → Leads l.from (last_of_class (class_in code (view_of cmp join p k size l words)) same_class l.text c) (leads_to (entry_at words c.bucket c.tag)))
    → ((c : Class) → IsPrevious l.tail (leads_to (entry_at words c.bucket c.tag)))
    → IsTraced keeps code (view_of cmp join p k size l words)
traced-by cmp join p k size words l few small log chained buckets map leads placed = traced-alike (raw (view_of cmp join p k size l words)) (resolved cmp join l.text) (alike cmp join l.text) (record {
  partition_bits = few;
  bucket_bits = small;
  shape = log.shape;
  first = log.first;
  marked = log.marked;
  begins = log.begins;
  laid_out = log.laid_out;
  rising = log.rising;
  from = log.from;
  below = log.below;
  regions = record { agree = log.regions; timely = log.timely; bits = log.bits; headed = log.headed; read_only = log.read_only };
  flushed = log.flushed;
  gone = log.gone;
  held = log.held;
  chained = chained;
  buckets = buckets;
  map = map;
  leads = leads;
  placed = placed;
})

-- no records
pub traced-empty : {K V : Type 0} {keeps : Bool} {code : K → ℕ} (cmp : K → K → Ordering) (join : V → V → V) (p k size bits frames : ℕ) (l : LogView K V)
    → p ≤ 6
    → k ≤ 20
    → l ≡ log.empty_log bits frames
    → IsLogOf keeps size l
    → IsIndexMap (replicate (2 ^ k) (replicate 7 empty))
    → ((b t : ℕ) → entry_at (replicate (2 ^ k) (replicate 7 empty)) b t ≡ None)
    → IsTraced keeps code (view_of cmp join p k size l (replicate (2 ^ k) (replicate 7 empty)))
traced-empty cmp join p k size bits frames l few small is log map none =
    traced-by cmp join p k size (replicate (2 ^ k) (replicate 7 empty)) l few small log
    (rw is (λ i e h. absurd (cc)))
    (length-replicate (2 ^ k) (replicate 7 empty))
    map
    (rw is (λ c. rw (none c.bucket c.tag) (lit< tt)))
    (λ c. rw (none c.bucket c.tag) (inl refl))

-- ---- entries change, and lead where they led
pub traced-words : {K V : Type 0} {keeps : Bool} {code : K → ℕ} (v : RecordsView K V) (words : List (List Word))
    → length words ≡ length v.words
    → IsIndexMap words
    → ((c : Class) → leads_to (entry_at words c.bucket c.tag) ≡ leads_to (entry_of v c))
    → IsTraced keeps code v
    → IsTraced keeps code (record v { words = words })
traced-words v words buckets map same t = record {
  partition_bits = t.partition_bits;
  bucket_bits = t.bucket_bits;
  shape = t.shape;
  first = t.first;
  marked = t.marked;
  begins = t.begins;
  laid_out = t.laid_out;
  rising = t.rising;
  from = t.from;
  below = t.below;
  regions = t.regions;
  flushed = t.flushed;
  gone = t.gone;
  held = t.held;
  chained = t.chained;
  buckets = buckets ∙ t.buckets;
  map = map;
  leads = λ d. rw (same d) (t.leads d);
  placed = λ d. rw (same d) (t.placed d);
}

-- an entry that leads nowhere is made for a class that has none
confirmed-by : (b : Bool) (p : Option ℕ) → (b ≡ true → p ≡ None) → leads_to (cond b (Some 1) p) ≡ leads_to p
confirmed-by true p none = ap leads_to (sym (none refl))
confirmed-by false p none = refl

pub leads-confirmed : (old new : List (List Word)) (bucket tag : ℕ)
    → entry_at old bucket tag ≡ None
    → SetsEntry bucket tag 1 old new
    → (d : Class) → leads_to (entry_at new d.bucket d.tag) ≡ leads_to (entry_at old d.bucket d.tag)
leads-confirmed old new bucket tag none sets d =
    let c : Class = record { bucket = bucket; tag = tag } in
    ap leads_to (entry-set old new c 1 sets d)
    ∙ confirmed-by (same_class c d) (entry_at old d.bucket d.tag)
    (λ h. ap (λ (x : Class). entry_at old x.bucket x.tag) (sym (class_test.only c d h)) ∙ none)

-- a tentative entry is confirmed, or backs off
pub traced-confirm : {K V : Type 0} {keeps : Bool} {code : K → ℕ} (v : RecordsView K V) (words : List (List Word)) (p : Place) (final : Bool)
    → OnTrue final (Writes p (final_word (tag_of (word_at v.words p)) 1) v.words words)
    → OnTrue final (SetsEntry p.bucket (tag_of (word_at v.words p)) 1 v.words words)
    → OnTrue final (entry_at v.words p.bucket (tag_of (word_at v.words p)) ≡ None)
    → OnFalse final (Writes p empty v.words words)
    → OnFalse final (SameEntries v.words words)
    → IsIndexMap words
    → IsTraced keeps code v
    → IsTraced keeps code (record v { words = words })
traced-confirm v words p true writes sets none emptied same map t =
    traced-words v words writes.buckets map (leads-confirmed v.words words p.bucket (tag_of (word_at v.words p)) none sets) t
traced-confirm v words p false writes sets none emptied same map t =
    traced-words v words emptied.buckets map (λ c. ap leads_to (same c.bucket c.tag)) t

-- ---- the entry that stands as that of a class
pub entry-stands : (words : List (List Word)) (b t : ℕ) (p : Place) (w : Word) → IsIndexMap words → StandsAt words b t p w
    → entry_at words b t ≡ Some (address_of w)
entry-stands words b t p w map s =
    let final = ap is_final s.word ∙ s.final in
    ap (λ n. entry_at words n t) (sym s.bucket)
    ∙ ap (entry_at words p.bucket) (sym (ap tag_of s.word ∙ s.tag))
    ∙ map.entry p final
    ∙ ap (λ (x : Word). Some (address_of x)) s.word

-- words change at its place alone, whether it was confirmed or emptied
pub changes-by : (final : Bool) (p : Place) (w : Word) (old new : List (List Word))
    → OnTrue final (Writes p w old new)
    → OnFalse final (Writes p empty old new)
    → ChangesAt p old new
changes-by true p w old new writes emptied = record { others = writes.elsewhere; places = λ q h. (writes.places q).1 h }
changes-by false p w old new writes emptied = record { others = emptied.elsewhere; places = λ q h. (emptied.places q).1 h }

-- ---- the regions move, and frames are closed
pub begin_rises : (keeps : Bool) (begin low high : ℕ) → low ≤ high → text_begin keeps begin low ≤ text_begin keeps begin high
begin_rises true begin low high up = omega arith
begin_rises false begin low high up = by_low (nat_le begin low) (nat_le begin high) refl refl
  where
    by_low : (a b : Bool) → nat_le begin low ≡ a → nat_le begin high ≡ b → cond a low begin ≤ cond b high begin
    by_low true true g h = up
    by_low false false g h = omega arith
    by_low false true g h = grind (arith, nat_tests)
    by_low true false g h = grind (arith, nat_tests)

moved_log : {K V : Type 0} {keeps : Bool} {code : K → ℕ} (cmp : K → K → Ordering) (join : V → V → V) (p k size : ℕ) (words : List (List Word)) (old new : LogView K V) (made : RegionsView)
    → log.IsMoved keeps made old new
    → old.regions.offsets.closed ≤ made.offsets.closed
    → IsLogOf keeps size new
    → IsTraced keeps code (view_of cmp join p k size old words)
    → IsTraced keeps code (view_of cmp join p k size new words)
moved_log {K} {V} {keeps} {code} cmp join p k size words old new made m up facts t =
    let class = class_in code (view_of cmp join p k size old words) in
    let r = log-raw cmp join p k size words old t in
    let closes : old.from ≤ text_begin keeps old.begin made.offsets.closed =
    subst (λ n. n ≤ text_begin keeps old.begin made.offsets.closed) (sym t.begins) (begin_rises keeps old.begin old.regions.offsets.closed made.offsets.closed up) in
    let now : new ≡ log.moved keeps old made m.more = m.is in
    traced-by cmp join p k size words new t.partition_bits t.bucket_bits facts
    (rw now (cut-chained class same_class old.from (text_begin keeps old.begin made.offsets.closed) old.text r.rising closes r.chained))
    t.buckets
    t.map
    (rw now (λ c. cut-leads class same_class old.from (text_begin keeps old.begin made.offsets.closed) old.text r.rising closes c (leads_to (entry_at words c.bucket c.tag)) (r.leads c)))
    (rw now t.placed)

pub traced-moved : {K V T E : Type 0} {keeps : Bool} {code : K → ℕ} (r : Result T E) (cmp : K → K → Ordering) (join : V → V → V) (p k size : ℕ) (words : List (List Word)) (old new : LogView K V) (made : RegionsView)
    → OnOk r (log.IsMoved keeps made old new)
    → OnErr r (new ≡ old)
    → old.regions.offsets.closed ≤ new.regions.offsets.closed
    → IsLogOf keeps size new
    → IsTraced keeps code (view_of cmp join p k size old words)
    → IsTraced keeps code (view_of cmp join p k size new words)
traced-moved {K} {V} {T} {E} {keeps} {code} (Ok x) cmp join p k size words old new made ok err up facts t =
    let same : new.regions ≡ made = ap (λ (l : LogView K V). l.regions) ok.is in
    moved_log cmp join p k size words old new made ok (subst (λ (g : RegionsView). old.regions.offsets.closed ≤ g.offsets.closed) same up) facts t
traced-moved {K} {V} {T} {E} {keeps} {code} (Err e) cmp join p k size words old new made ok err up facts t =
    subst (λ (l : LogView K V). IsTraced keeps code (view_of cmp join p k size l words)) (sym err) t

-- a session enters, or a page is flushed: the text is as it was
pub traced-same : {K V : Type 0} {keeps : Bool} {code : K → ℕ} (cmp : K → K → Ordering) (join : V → V → V) (p k size : ℕ) (words : List (List Word)) (old new : LogView K V)
    → new.text ≡ old.text
    → new.from ≡ old.from
    → new.tail ≡ old.tail
    → IsLogOf keeps size new
    → IsTraced keeps code (view_of cmp join p k size old words)
    → IsTraced keeps code (view_of cmp join p k size new words)
traced-same cmp join p k size words old new text from tail facts t =
    let r = log-raw cmp join p k size words old t in
    traced-by cmp join p k size words new t.partition_bits t.bucket_bits facts (rw (text, from) r.chained) t.buckets t.map (rw (text, from) r.leads) (rw tail t.placed)

-- ---- a record gets another value, or becomes a tombstone
pub traced-value : {K V : Type 0} {keeps : Bool} {code : K → ℕ} (v : RecordsView K V) (a : ℕ) (value : Option V)
    → IsTraced keeps code v
    → IsTraced keeps code (with_value v a value)
traced-value {keeps = keeps} {code = code} v a value t = record {
  partition_bits = t.partition_bits;
  bucket_bits = t.bucket_bits;
  shape = t.shape;
  first = t.first;
  marked = t.marked;
  begins = t.begins;
  laid_out = laid_out-changed a value v.log.bits v.record_size v.log.from v.log.tail v.text t.laid_out;
  rising = rising-changed a value v.text t.rising;
  from = from-changed a value v.log.from v.text t.from;
  below = below-changed a value v.log.tail v.text t.below;
  regions = t.regions;
  flushed = t.flushed;
  gone = t.gone;
  held = t.held;
  chained = chained-changed a value (class_in code v) same_class v.log.from v.text t.chained;
  buckets = t.buckets;
  map = t.map;
  leads = λ c. leads-changed a value (class_in code v) same_class v.log.from v.text c (leads_to (entry_of v c)) (t.leads c);
  placed = t.placed;
}

-- ---- a record is appended
below-tail : {page_bits begin low high : ℕ} {regions : RegionsView} → AreRegionsBelow page_bits begin low regions → low < high → AreRegionsBelow page_bits begin high regions
below-tail r up = record {
  agree = r.agree;
  timely = r.timely;
  bits = r.bits;
  read_only = (let most = r.read_only in omega arith);
  headed = r.headed;
}

leads-by : {K V : Type 0} (begin : ℕ) (b : Bool) (e : Entry K V) (l : Option (Entry K V)) (p : Option ℕ) → Leads begin l (leads_to p) → Leads begin (cond b (Some e) l) (leads_to (cond b (Some e.address) p))
leads-by begin true e l p h = refl
leads-by begin false e l p h = h

placed-by : (b : Bool) (tail next : ℕ) (p : Option ℕ) → 64 ≤ tail → tail < next → IsPrevious tail (leads_to p) → IsPrevious next (leads_to (cond b (Some tail) p))
placed-by true tail next p low rises h = inr (low, rises)
placed-by false tail next p low rises (inl none) = inl none
placed-by false tail next p low rises (inr some) = inr (some.0, omega (arith, some.1))

-- what a log says of its text, and that the text is chained
pub record IsTextOf {K V : Type 0} (code : K → ℕ) (w : RecordsView K V) : Type 0 where
  pub laid_out : IsLaidOut w.log.bits w.record_size w.log.from w.log.tail w.text
  pub rising : IsRising w.text
  pub from : IsFrom w.log.from w.text
  pub below : IsBelow w.log.tail w.text
  pub chained : IsChained (class_in code w) same_class w.log.from w.text

-- what a record that is written stands for: a value for itself, and a part joined with what the key had
rises-to : {K V : Type 0} (join : V → V → V) (held : Option V) (a previous : ℕ) (key : K) (payload : Payload V)
    → value_after join held (record { address = a; previous = previous; key = key; value = value_in payload; delta = is_part payload }) ≡ standing join held payload
rises-to join held a previous key (Whole o) = refl
rises-to join held a previous key (Part part) = refl

-- a part is there
pub part-some : {V : Type 0} (payload : Payload V) → IsTrue (is_part payload) → IsSome (value_in payload)
part-some (Whole o) h = absurd (cc)
part-some (Part part) h = refl

module _ {K V : Type 0} (cmp : K → K → Ordering) (join : V → V → V) (p k size : ℕ) (e : IndexEntry) (key : K) (payload : Payload V) (old new : LogView K V) where
  -- the record as a page spells it, what its key has once it stands, and the record as it then stands
  abbrev written : Entry K V
  written = record { address = old.tail; previous = address_of e.word; key = key; value = value_in payload; delta = is_part payload }

  abbrev has : Option V
  has = standing join (live cmp (resolved cmp join old.text) key) payload

  abbrev stands : Entry K V
  stands = record { address = old.tail; previous = address_of e.word; key = key; value = has; delta = is_part payload }

  written-append : resolved cmp join (old.text ++ written ∷ []) ≡ resolved cmp join old.text ++ stands ∷ []
  written-append =
      resolved-append cmp join old.text written
      ∙ ap (λ v. resolved cmp join old.text ++ record written { value = v } ∷ []) (rises-to join (live cmp (resolved cmp join old.text) key) old.tail (address_of e.word) key payload)

  module _ (words : List (List Word)) (is : new ≡ log.with_entry size old (address_of e.word) key (value_in payload) (is_part payload)) where
    pub records-appended : (made : List (List Word)) → made ≡ with_word words e.place (final_word (tag_of e.word) old.tail)
        → view_of cmp join p k size new made ≡ with_written (view_of cmp join p k size old words) e key payload has
    records-appended made word =
        let w : RecordsView K V = with_written (view_of cmp join p k size old words) e key payload has in
        ap (λ (l : LogView K V). view_of cmp join p k size l made) is
        ∙ ap (λ (text : List (Entry K V)). record w { text = text; words = made }) written-append
        ∙ ap (λ (ws : List (List Word)). record w { words = ws }) word

    pub text_then : {keeps : Bool} {code : K → ℕ}
        → IsLogOf keeps size new
        → IsChained (class_in code (view_of cmp join p k size old words)) same_class old.from (old.text ++ written ∷ [])
        → IsTextOf code (with_written (view_of cmp join p k size old words) e key payload has)
    text_then {keeps} {code} facts chained =
        let l : IsLogOf keeps size (log.with_entry size old (address_of e.word) key (value_in payload) (is_part payload)) = subst (IsLogOf keeps size) is facts in
        let w : RecordsView K V = with_written (view_of cmp join p k size old words) e key payload has in
        let same : AreAlike (old.text ++ written ∷ []) w.text = rw (← written-append) (alike cmp join (old.text ++ written ∷ [])) in
        record {
          laid_out = alike-laid_out w.log.bits w.record_size w.log.from w.log.tail (old.text ++ written ∷ []) w.text same l.laid_out;
          rising = alike-rising (old.text ++ written ∷ []) w.text same l.rising;
          from = alike-from w.log.from (old.text ++ written ∷ []) w.text same l.from;
          below = alike-below w.log.tail (old.text ++ written ∷ []) w.text same l.below;
          chained = alike-chained (class_in code w) same_class w.log.from (old.text ++ written ∷ []) w.text same chained;
        }

-- and what an index says of its words once an entry has moved
pub record AreMoved (c : Class) (a : ℕ) (old new : List (List Word)) : Type 0 where
  pub sets : SetsEntry c.bucket c.tag a old new
  pub map : IsIndexMap new
  pub buckets : length new ≡ length old

pub moved-there : (c : Class) (p : Place) (w : Word) (a : ℕ) (old new : List (List Word))
    → p.bucket ≡ c.bucket
    → tag_of w ≡ c.tag
    → SetsEntry p.bucket (tag_of w) a old new
    → IsIndexMap new
    → length new ≡ length old
    → AreMoved c a old new
moved-there c p w a old new bucket tag sets map buckets = record {
  sets = subst (λ t. SetsEntry c.bucket t a old new) tag (subst (λ b. SetsEntry b (tag_of w) a old new) bucket sets);
  map = map;
  buckets = buckets;
}

pub traced-record : {K V : Type 0} {keeps : Bool} {code : K → ℕ} (v : RecordsView K V) (e : IndexEntry) (key : K) (payload : Payload V) (has : Option V)
    → IsTraced keeps code v
    → IsTextOf code (with_written v e key payload has)
    → AreMoved (class_in code v key) v.log.tail v.words (with_written v e key payload has).words
    → IsTraced keeps code (with_written v e key payload has)
traced-record {K} {V} {keeps} {code} v e key payload has t new moved =
    let c : Class = class_in code v key in
    let w : RecordsView K V = with_written v e key payload has in
    let x : Entry K V = record { address = v.log.tail; previous = address_of e.word; key = key; value = has; delta = is_part payload } in
    let rises = new.below (length v.text) x (get-append_last v.text x) in
    let entry = entry-set v.words w.words c v.log.tail moved.sets in
    record {
      partition_bits = t.partition_bits;
      bucket_bits = t.bucket_bits;
      shape = t.shape;
      first = t.first;
      marked = t.marked;
      begins = t.begins;
      laid_out = new.laid_out;
      rising = new.rising;
      from = new.from;
      below = new.below;
      regions = below-tail t.regions rises;
      flushed = t.flushed;
      gone = t.gone;
      held = t.held;
      chained = new.chained;
      buckets = moved.buckets ∙ t.buckets;
      map = moved.map;
      leads = λ d.
          let last : last_of_class (class_in code v) same_class (v.text ++ x ∷ []) d ≡ cond (same_class c d) (Some x) (last_of_class (class_in code v) same_class v.text d) =
          last_where-append (has_class (class_in code v) same_class d) v.text x in
          rw (last, entry d) (leads-by v.log.from (same_class c d) x (last_of_class (class_in code v) same_class v.text d) (entry_of v d) (t.leads d));
      placed = λ d. rw (entry d) (placed-by (same_class c d) v.log.tail _ (entry_of v d) (tail_from t) rises (t.placed d));
    }

-- ---- what an entry says of the keys of its class
pub leads_of : {K V : Type 0} {keeps : Bool} {code : K → ℕ} {v : RecordsView K V} → IsTraced keeps code v → (c : Class) (a : ℕ) → entry_of v c ≡ Some a → Leads v.log.from (last_of_class (class_in code v) same_class v.text c) a
leads_of {K} {V} {keeps} {code} {v} t c a entry = subst (λ p. Leads v.log.from (last_of_class (class_in code v) same_class v.text c) (leads_to p)) entry (t.leads c)

above_in : {K V : Type 0} (a : ℕ) (xs : List (Entry K V)) → AllAbove a xs → (i : ℕ) (x : Entry K V) → slice_get xs i ≡ Some x → a < x.address
above_in a [] h i x e = absurd (cc)
above_in a (y ∷ ys) h zero x e = let same : y ≡ x = cc in let lt : a < y.address = h.0 in subst (λ (z : Entry _ _). a < z.address) same lt
above_in a (y ∷ ys) h (suc i) x e = above_in a ys h.1 i x e

-- the last that passes stands at or above each that does
module _ {K V : Type 0} (p : Entry K V → Bool) where
  highest-step : (y : Entry K V) (ys : List (Entry K V)) → AllAbove y.address ys → ((e : Entry K V) → last_where p ys ≡ Some e → (i : ℕ) (x : Entry K V) → slice_get ys i ≡ Some x → p x ≡ true → x.address ≤ e.address)
      → (l : Option (Entry K V)) → last_where p ys ≡ l → (e : Entry K V) → last_where p (y ∷ ys) ≡ Some e → (i : ℕ) (x : Entry K V) → slice_get (y ∷ ys) i ≡ Some x → p x ≡ true → x.address ≤ e.address
  highest-step y ys above more (Some z) h e last zero x here passes =
      let found : Some z ≡ Some e = (rw h at last) in
      let is : z ≡ e = cc in
      let one : y ≡ x = cc in
      let m = last_where-in p ys z h in
      let lt : y.address < z.address = above_in y.address ys above m.place z m.here in
      let ye : y.address ≡ x.address = ap (λ (w : Entry K V). w.address) one in
      let ze : z.address ≡ e.address = ap (λ (w : Entry K V). w.address) is in
      omega arith
  highest-step y ys above more (Some z) h e last (suc i) x here passes =
      let found : Some z ≡ Some e = (rw h at last) in
      more e (h ∙ found) i x here passes
  highest-step y ys above more None h e last zero x here passes =
      let one : y ≡ x = cc in
      let py : p y ≡ true = ap p one ∙ passes in
      let found : Some y ≡ Some e = (rw (h, py) at last) in
      let is : y ≡ e = cc in
      let ye : y.address ≡ x.address = ap (λ (w : Entry K V). w.address) one in
      let ze : y.address ≡ e.address = ap (λ (w : Entry K V). w.address) is in
      omega arith
  highest-step y ys above more None h e last (suc i) x here passes = absurd (let no = none-passes p ys h i x here in cc)

  pub highest : (text : List (Entry K V)) → IsRising text → (e : Entry K V) → last_where p text ≡ Some e → (i : ℕ) (x : Entry K V) → slice_get text i ≡ Some x → p x ≡ true → x.address ≤ e.address
  highest [] r e last i x here passes = absurd (cc)
  highest (y ∷ ys) r e last i x here passes = highest-step y ys r.0 (highest ys r.1) (last_where p ys) refl e last i x here passes

module _ {K V : Type 0} {keeps : Bool} (cmp : K → K → Ordering) (code : K → ℕ) (v : RecordsView K V) (k : K) (order : IsKeyOrder cmp) (t : IsTraced keeps code v) where
  -- the class of a key that has a record has a last one, and its entry leads there
  record IsHeldAt (x : Entry K V) : Type 0 where
    pub last : Entry K V
    pub is : last_of_class (class_in code v) same_class v.text (class_in code v k) ≡ Some last
    pub high : x.address ≤ last.address
    pub entry : leads_to (entry_of v (class_in code v k)) ≡ last.address

  held_at : (x : Entry K V) → last_of cmp v.text k ≡ Some x → IsHeldAt x
  held_at x found = by_last (last_of_class (class_in code v) same_class v.text (class_in code v k)) refl
    where
      m : IsIn v.text x
      m = last_where-in (has_key cmp k) v.text x found

      own : has_class (class_in code v) same_class (class_in code v k) x ≡ true
      own = ap (λ q. same_class (class_in code v q) (class_in code v k)) (order.same x.key k (last_where-found (has_key cmp k) v.text x found)) ∙ class_test.self (class_in code v k)

      by_last : (l : Option (Entry K V)) → last_of_class (class_in code v) same_class v.text (class_in code v k) ≡ l → IsHeldAt x
      by_last None h = absurd (let no = none-passes (has_class (class_in code v) same_class (class_in code v k)) v.text h m.place x m.here in let yes = own in cc)
      by_last (Some e) h = record {
        last = e;
        is = h;
        high = highest (has_class (class_in code v) same_class (class_in code v k)) v.text t.rising e h m.place x m.here own;
        entry = subst (λ (l : Option (Entry K V)). Leads v.log.from l (leads_to (entry_of v (class_in code v k)))) h (t.leads (class_in code v k));
      }

  pub traced-held : (a : ℕ) → entry_of v (class_in code v k) ≡ Some a → newest cmp v.text k a ≡ last_of cmp v.text k
  traced-held a entry = by_last (last_of cmp v.text k) refl
    where
      by_last : (l : Option (Entry K V)) → last_of cmp v.text k ≡ l → newest cmp v.text k a ≡ last_of cmp v.text k
      by_last None h = last_where-narrow_none (has_key cmp k) (λ e. nat_le e.address a) v.text h ∙ sym h
      by_last (Some x) h =
          let at = held_at x h in
          let there : a ≡ at.last.address = sym (ap leads_to entry) ∙ at.entry in
          let high : x.address ≤ at.last.address = at.high in
          let low : nat_le x.address a ≡ true = grind (arith, nat_tests) in
          last_where-narrow (has_key cmp k) (λ e. nat_le e.address a) v.text x h low ∙ sym h

  pub traced-none : entry_of v (class_in code v k) ≡ None → last_of cmp v.text k ≡ None
  traced-none entry = by_last (last_of cmp v.text k) refl
    where
      by_last : (l : Option (Entry K V)) → last_of cmp v.text k ≡ l → last_of cmp v.text k ≡ None
      by_last None h = h
      by_last (Some x) h =
          let at = held_at x h in
          let m = last_where-in (has_class (class_in code v) same_class (class_in code v k)) v.text at.last at.is in
          let high = t.from m.place at.last m.here in
          let there : 1 ≡ at.last.address = sym (ap leads_to entry) ∙ at.entry in
          absurd (let begin = from_first t in omega (arith, t.first))

pub traced-low : {K V : Type 0} {keeps : Bool} {code : K → ℕ} (v : RecordsView K V) (c : Class) (a : ℕ) → IsTraced keeps code v → entry_of v c ≡ Some a → a < v.log.tail
traced-low v c a t entry =
    let some = tail_from t in
    elim (subst (λ p. IsPrevious v.log.tail (leads_to p)) entry (t.placed c)) [ inl one ↦ omega arith | inr placed ↦ omega (arith, placed.1) ]

-- the index leads to the last records
pub traced-led : {K V : Type 0} {keeps : Bool} (cmp : K → K → Ordering) (code : K → ℕ) (v : RecordsView K V) → IsKeyOrder cmp → IsTraced keeps code v → IsLed cmp (class_in code v) (indexed v)
traced-led cmp code v order t = record {
  first = t.first;
  from = λ i e h. (let high = t.from i e h in let begin = from_first t in omega arith);
  low = λ k e found. traced-low v (class_in code v k) (address_of e.word) t (entry-stands v.words (class_in code v k).bucket (class_in code v k).tag e.place e.word t.map found);
  leads = λ k e found. traced-held cmp code v k order t (address_of e.word) (entry-stands v.words (class_in code v k).bucket (class_in code v k).tag e.place e.word t.map found);
}
