-- What an append answered, and what the partition then is.
use Rattle.std.proofs.Common.{◌≡◌, ◌↔◌, ◌+◌, ◌*◌, ℕ, Bool, List, Option, Some, None, Result, Ok, Err, slice_set, sym, ap, subst, ◌∙◌}
use Rattle.std.specs.Prelude.{IfSome}
use Rattle.std.specs.declared.cmp.Ordering.{Ordering}
use Rattle.fkv_index.specs.Changes.{SameTentative}
use Rattle.fkv_lookups.specs.Payloads.{standing}
use Rattle.fkv_lookups.specs.RecordsViews.{RecordsView, with_written, ChangesAt}
use Rattle.fkv_lookups.specs.Traced.{IsTraced, IsResolved}
use Rattle.fkv_partition.specs.declared.changes.Write.{Write}
use Rattle.fkv_partition.specs.declared.contexts.OpenWork.{OpenWork}
use Rattle.fkv_partition.specs.Contexts.{claim_at}
use Rattle.fkv_partition.specs.KeySound.{IsSound}
use Rattle.fkv_partition.specs.Views.{PartitionView, live_of, with_payload}
use Rattle.fkv_partition.specs.Writes.{IsWrite}
use Rattle.fkv_partition.proofs.SoundLemmas.{sound-appended}

pub ok-err : {T E P : Type 0} (x : T) (e : E) → Ok x ≡ Err e → P
ok-err x e h = absurd (cc)

pub some-none : {T E P : Type 0} (x : T) → ◌≡◌ {A = Result (Option T) E} (Ok (Some x)) (Ok None) → P
some-none x h = absurd (cc)

-- a record was appended: so there were room and an address for it
pub appended-of : {A P : Type 0} (o : Option A) (a : A) → o ≡ Some a → IfSome o (λ x. P) → P
appended-of {P = P} o a is h = subst (λ w. IfSome w (λ x. P)) is h

pub not-full : {A E P : Type 0} (o : Option A) (a : A) → o ≡ Some a → (◌≡◌ {A = Result (Option A) E} (Ok o) (Ok None) ↔ P) → P → ⊥
not-full {E = E} o a is room full = let no : ◌≡◌ {A = Result (Option _) E} (Ok (Some a)) (Ok None) = sym (ap Ok is) ∙ room.1 full in cc

pub not-worn : {A E P : Type 0} (o : A) (e : E) → ((Ok o ≡ Err e) ↔ P) → P → ⊥
not-worn o e worn high = ok-err o e (worn.1 high)

module _ {K V I : Type 0} (inside v : PartitionView K V I) (same : inside ≡ v) where
  -- no record is appended
  pub full-is : (now : ℕ) (r : RecordsView K V) → r ≡ inside.records → record inside { records = r; moment = now } ≡ record v { moment = now }
  full-is now r stays = ap (λ (w : RecordsView K V). record inside { records = w; moment = now }) stays ∙ ap (λ (u : PartitionView K V I). record u { moment = now }) same

  -- or the records have one more, and the context is free
  module _ (cmp : K → K → Ordering) (join : V → V → V) (slot c now : ℕ) (write : Write K V) (r : RecordsView K V) (contexts : List (Option (OpenWork K V I)))
      (made : r ≡ with_written inside.records write.entry write.key write.payload (standing join (live_of cmp inside write.key) write.payload)) (freed : contexts ≡ slice_set inside.contexts (slot * 8 + c) None) where
    pub appended-is : record inside { records = r; contexts = contexts; moment = now } ≡ with_payload v slot c write.entry write.key write.payload (standing join (live_of cmp v write.key) write.payload) now
    appended-is =
        ap (λ (w : RecordsView K V). record inside { records = w; contexts = contexts; moment = now }) made
        ∙ ap (λ xs. record inside { records = with_written inside.records write.entry write.key write.payload (standing join (live_of cmp inside write.key) write.payload); contexts = xs; moment = now }) freed
        ∙ ap (λ (u : PartitionView K V I). with_payload u slot c write.entry write.key write.payload (standing join (live_of cmp u write.key) write.payload) now) same

    pub appended-sound : {keeps : Bool} {code : K → ℕ} → IsSound keeps cmp join code inside → claim_at v.contexts (slot * 8 + c) ≡ None → IsWrite code v write → IsTraced keeps code r → IsResolved cmp join r
        → ChangesAt write.entry.place inside.records.words r.words
        → SameTentative inside.records.words r.words
        → IsSound keeps cmp join code (record inside { records = r; contexts = contexts; moment = now })
    appended-sound {code = code} s unclaimed w traced resolved changes tentative =
        let at : IsWrite code inside write = subst (λ (u : PartitionView K V I). IsWrite code u write) (sym same) w in
        rw (made, freed)
        (sound-appended s slot c now write.entry write.key write.payload _
        (subst (λ (u : PartitionView K V I). claim_at u.contexts (slot * 8 + c) ≡ None) (sym same) unclaimed)
        at.entry
        (rw made at traced)
        (rw made at resolved)
        (rw made at changes)
        (rw made at tentative)
        at.own)
