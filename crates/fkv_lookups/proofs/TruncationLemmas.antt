-- The log's start is cut: what the entries that are left say of the records that are left.
use Rattle.std.proofs.Common.{◌≡◌, ◌<◌, ◌≤◌, ℕ, Bool, true, false, cond, List, Option, Some, None, nat_lt, inl, refl, sym, ap, subst, arith, length}
use Rattle.std.proofs.lemmas.Bool.Decides.{nat_tests}
use Rattle.std.specs.declared.cmp.Ordering.{Ordering}
use Rattle.fkv_records.specs.Records.{IsPrevious}
use Rattle.fkv_texts.specs.declared.entries.Entry.{Entry}
use Rattle.fkv_texts.specs.Text.{text_from}
use Rattle.fkv_texts.specs.Chains.{has_class, last_of_class, Leads}
use Rattle.fkv_texts.proofs.LastWhere.{last_where-in}
use Rattle.fkv_texts.proofs.CutLemmas.{cut-leads, cut-chained, cut-from}
use Rattle.fkv_hybrid.specs.Views.{text_begin, LogView}
use Rattle.fkv_hybrid.proofs.PageLemmas.{begins_rise, begins_high}
use Rattle.fkv_hybrid.specs.Views as log
use Rattle.fkv_hybrid.specs.Logs.{IsLogOf}
use Rattle.fkv_index.specs.declared.words.Word.{Word}
use Rattle.fkv_index.specs.Entries.{entry_at, kept, IsIndexMap}
use Rattle.fkv_index.specs.Changes.{SweepsEntries}
use Rattle.fkv_operations.specs.Classes.{same_class}
use Rattle.fkv_lookups.specs.RecordsViews.{class_in, leads_to}
use Rattle.fkv_lookups.specs.Inside.{view_of}
use Rattle.fkv_lookups.specs.Traced.{IsTraced}
use Rattle.fkv_lookups.proofs.TracedLemmas.{log-raw, traced-by}

-- ---- an entry that leads below Begin is gone, and the others lead where they led
module _ {K V : Type 0} (begin from : ℕ) (first : 64 ≤ begin) (low : begin ≤ from) where
  leads-gone : (l : Option (Entry K V)) (a : ℕ) → ((e : Entry K V) → l ≡ Some e → from ≤ e.address) → a < begin → Leads from l a → Leads from l 1
  leads-gone None a high under h = omega arith
  leads-gone (Some e) a high under h =
      let at : a ≡ e.address = h in
      let up = high e refl in
      absurd (omega arith)

  leads-test : (b : Bool) (l : Option (Entry K V)) (a : ℕ) → nat_lt a begin ≡ b → ((e : Entry K V) → l ≡ Some e → from ≤ e.address) → Leads from l a → Leads from l (leads_to (cond b None (Some a)))
  leads-test true l a is high h = leads-gone l a high (grind (arith, nat_tests)) h
  leads-test false l a is high h = h

  leads-kept : (l : Option (Entry K V)) (o : Option ℕ) → ((e : Entry K V) → l ≡ Some e → from ≤ e.address) → Leads from l (leads_to o) → Leads from l (leads_to (kept begin o))
  leads-kept l None high h = h
  leads-kept l (Some a) high h = leads-test (nat_lt a begin) l a refl high h

placed-test : (b : Bool) (tail a : ℕ) → IsPrevious tail a → IsPrevious tail (leads_to (cond b None (Some a)))
placed-test true tail a h = inl refl
placed-test false tail a h = h

placed-kept : (begin tail : ℕ) (o : Option ℕ) → IsPrevious tail (leads_to o) → IsPrevious tail (leads_to (kept begin o))
placed-kept begin tail None h = h
placed-kept begin tail (Some a) h = placed-test (nat_lt a begin) tail a h

-- ---- the records, with their entries
pub traced-truncated : {K V : Type 0} {keeps : Bool} {code : K → ℕ} (cmp : K → K → Ordering) (join : V → V → V) (p k size begin : ℕ) (words made : List (List Word)) (old new : LogView K V)
    → new ≡ log.truncated keeps old begin
    → old.begin ≤ begin
    → IsLogOf keeps size new
    → SweepsEntries begin words made
    → length made ≡ length words
    → IsIndexMap made
    → IsTraced keeps code (view_of cmp join p k size old words)
    → IsTraced keeps code (view_of cmp join p k size new made)
traced-truncated {K} {V} {keeps} {code} cmp join p k size begin words made old new is up facts sweeps buckets map t =
    let class = class_in code (view_of cmp join p k size old words) in
    let r = log-raw cmp join p k size words old t in
    let from : ℕ = text_begin keeps begin old.regions.offsets.closed in
    let cut : old.from ≤ from = subst (λ n. n ≤ from) (sym t.begins) (begins_rise keeps old.begin old.regions.offsets.closed begin old.regions.offsets.closed up (omega arith)) in
    let same : new.begin ≡ begin = ap (λ (l : LogView K V). l.begin) is in
    let first : 64 ≤ begin = subst (λ n. 64 ≤ n) same facts.first in
    let low : begin ≤ from = begins_high keeps begin old.regions.offsets.closed in
    traced-by cmp join p k size made new t.partition_bits t.bucket_bits facts
    (rw is (cut-chained class same_class old.from from old.text r.rising cut r.chained))
    (rw buckets t.buckets)
    map
    (rw is (λ c.
    let led = cut-leads class same_class old.from from old.text r.rising cut c (leads_to (entry_at words c.bucket c.tag)) (r.leads c) in
    let last = last_of_class class same_class (text_from from old.text) c in
    let high : (e : Entry K V) → last ≡ Some e → from ≤ e.address = λ e h. (
    let m = last_where-in (has_class class same_class c) (text_from from old.text) e h in
    cut-from from old.text m.place e m.here) in
    rw (sweeps c.bucket c.tag) (leads-kept begin from first low last (entry_at words c.bucket c.tag) high led)))
    (rw is (λ c. rw (sweeps c.bucket c.tag) (placed-kept begin old.tail (entry_at words c.bucket c.tag) (t.placed c))))
