-- What a log's own events leave of the records.
use Rattle.std.proofs.Common.{◌≡◌, ℕ, Bool, List, refl, ap}
use Rattle.std.specs.Prelude.{Result, Ok, Err, IfOk, IfErr, OnOk, OnErr}
use Rattle.std.specs.declared.cmp.Ordering.{Ordering}
use Rattle.fkv_device.specs.Standing.{Standing}
use Rattle.fkv_texts.specs.Deltas.{resolved}
use Rattle.fkv_regions.specs.RegionsView.{RegionsView}
use Rattle.fkv_hybrid.specs.Views.{LogView}
use Rattle.fkv_hybrid.specs.Views as log
use Rattle.fkv_index.specs.declared.words.Word.{Word}
use Rattle.fkv_lookups.specs.RecordsViews.{IsMoved}
use Rattle.fkv_lookups.specs.Inside.{view_of}

-- the entries are as they were, from where they began to the tail
pub record IsSameText {K V : Type 0} (old new : LogView K V) : Type 0 where
  pub text : new.text ≡ old.text
  pub from : new.from ≡ old.from
  pub tail : new.tail ≡ old.tail

same : {K V : Type 0} (old new mid : LogView K V) → new ≡ mid → IsSameText old mid → IsSameText old new
same old new mid is s = rw is s

pub entered-text : {K V T E : Type 0} (r : Result T E) (old new : LogView K V) (made : T → RegionsView)
    → IfOk r (λ x. new ≡ log.with_regions old (made x))
    → OnErr r (new ≡ old)
    → IsSameText old new
entered-text (Ok x) old new made ok err = same old new _ ok (record { text = refl; from = refl; tail = refl })
entered-text (Err e) old new made ok err = same old new _ err (record { text = refl; from = refl; tail = refl })

pub flushed-text : {K V T E : Type 0} (r : Result T E) (old new : LogView K V) (s : Standing)
    → OnOk r (new ≡ log.with_receipt old s)
    → OnErr r (new ≡ old)
    → IsSameText old new
flushed-text (Ok x) old new s ok err = same old new _ ok (record { text = refl; from = refl; tail = refl })
flushed-text (Err e) old new s ok err = same old new _ err (record { text = refl; from = refl; tail = refl })

pub err-same : {T E : Type 0} (P : Type 0) (why : E) (r : Result T E) → IfErr r (λ e. (e ≡ why) × P) → OnErr r P
err-same P why (Ok x) h = tt
err-same P why (Err e) h = h.1

-- ---- the records follow their log
pub records-moved : {K V T E : Type 0} (r : Result T E) (cmp : K → K → Ordering) (join : V → V → V) (keeps : Bool) (p k size : ℕ) (words : List (List Word)) (made : RegionsView) (old new : LogView K V)
    → OnOk r (log.IsMoved keeps made old new)
    → OnOk r (IsMoved keeps made (view_of cmp join p k size old words) (view_of cmp join p k size new words))
records-moved {K} {V} (Ok x) cmp join keeps p k size words made old new m = record {
  more = m.more;
  is = ap (λ (l : LogView K V). record (view_of cmp join p k size l words) { text = resolved cmp join new.text }) m.is;
  kept = λ keep. ap (resolved cmp join) (m.kept keep);
  entries = m.kept;
}
records-moved (Err e) cmp join keeps p k size words made old new m = tt

pub records-same : {K V T E : Type 0} (r : Result T E) (cmp : K → K → Ordering) (join : V → V → V) (p k size : ℕ) (words : List (List Word)) (old new : LogView K V)
    → OnErr r (new ≡ old)
    → OnErr r (view_of cmp join p k size new words ≡ view_of cmp join p k size old words)
records-same (Ok x) cmp join p k size words old new e = tt
records-same (Err x) cmp join p k size words old new e = ap (λ (l : LogView _ _). view_of cmp join p k size l words) e
