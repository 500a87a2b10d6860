-- An operation that is issued and done in one call: what it keeps, and that it is an issue and an event of its partition.
use Rattle.std.proofs.Common.{◌≡◌, ◌<◌, ℕ, Bool, Option, Some, None, IfSome, Result, refl, ◌∙◌, ap}
use Rattle.std.specs.declared.cmp.Ordering.{Ordering}
use Rattle.fkv_functions.specs.Meanings.{Meanings}
use Rattle.fkv_functions.specs.declared.refusals.Refused.{Refused}
use Rattle.fkv_device.specs.Standing.{Standing}
use Rattle.fkv_operations.specs.declared.operations.KeyedOp.{KeyedOp}
use Rattle.fkv_operations.specs.declared.operations.Answer.{Answer}
use Rattle.fkv_partition.specs.declared.contexts.Phase.TheVariants.{Fresh}
use Rattle.fkv_partition.specs.declared.contexts.Progress.{Progress}
use Rattle.fkv_partition.specs.declared.contexts.Progress.TheVariants.{Done}
use Rattle.fkv_partition.specs.KeyAtOnce as key_write
use Rattle.fkv_partition.specs.KeyBeginning.{Issues, IsEntered}
use Rattle.fkv_partition.specs.Contexts.{claim_of, joined, relocating}
use Rattle.fkv_partition.specs.KeyGoing as key_going
use Rattle.fkv_partition.specs.Grown.{IsPassedOn}
use Rattle.fkv_partition.specs.KeySound.{IsSound}
use Rattle.fkv_partition.specs.Views.{PartitionView, slots_of, held_at, relocation_at}
use Rattle.fkv_partition.proofs.AskedLemmas.{context-inside, free-here, keyed-op}
use Rattle.fkv_partition.proofs.SoundLemmas.{sound-context}
use Rattle.fkv_partition.specs.AtOnce.{IsDoneAtOnce}
use Rattle.fkv_partition.specs.Beginning.{IsFree, IsFirstFree}
use Rattle.fkv_partition.specs.Events as events
use Rattle.fkv_partition.proofs.EffectLemmas.{key-issue, key-event, relocations-same}
use Rattle.fkv_partition.proofs.KeepLemmas.{issues-told}

-- a partition of which an operation was issued keeps what every one keeps
pub sound-issued : {K V I : Type 0} (keeps : Bool) (cmp : K → K → Ordering) (join : V → V → V) (code : K → ℕ) (v between : PartitionView K V I) (slot c now : ℕ) (op : KeyedOp K V I)
    → IsSound keeps cmp join code v → slot < 16 → Issues code v between slot c op now → IsSound keeps cmp join code between
sound-issued keeps cmp join code v between slot c now op s few h =
    rw h.is
    (sound-context s slot c now (record { number = now; op = op; phase = Fresh })
    (ap (λ o. claim_of (joined o)) (free-here (slots_of v) v.contexts slot c s.places few h.low h.entered h.free)) refl
    (record { inside = h.entered; low = h.low }) (record { stands = tt; own = h.own; merging = h.merging }))

-- nothing is open in a free context
pub free-held : {K V I : Type 0} (v : PartitionView K V I) (slot c : ℕ) → IsEntered v slot → c < 8 → IsFree v slot c → held_at v slot c ≡ None
free-held v slot c inside low free = context-inside (slots_of v) v.contexts slot c inside low ∙ free

pub free-relocation : {K V I : Type 0} (v : PartitionView K V I) (slot c : ℕ) → IsEntered v slot → c < 8 → IsFree v slot c → relocation_at v slot c ≡ None
free-relocation v slot c inside low free = ap relocating (free-held v slot c inside low free)

module _ {K V I O R : Type 0} (stands : R → Standing) (cmp : K → K → Ordering) (join : V → V → V) (f : Meanings K V I O) (code : K → ℕ) (v : PartitionView K V I) (new : PartitionView K V I) (slot c : ℕ) (op : KeyedOp K V I) (issued now : ℕ) where
  -- what is done at once is an issue and an event
  pub done-at-once : IsEntered v slot → IsFirstFree v slot (Some c)
      → ((p : PartitionView K V I) → Issues code v p slot c op issued → IsPassedOn v p)
      → ((p : PartitionView K V I) (result : Result (Progress K V I O R) Refused) → key_going.Goes stands cmp join f code p new slot c now result → IsPassedOn p new)
      → (told : Option (Answer O))
      → IfSome told (key_write.IsDoneAtOnce stands cmp join f code v new slot c op issued now)
      → IfSome told (IsDoneAtOnce stands cmp join f code v new slot op issued now)
  done-at-once inside first issues goes None h = tt
  done-at-once inside first issues goes (Some told) h =
      let none = free-relocation v slot c inside first.0 first.1 in
      let b = h.between in
      let stays = issues h.between h.issues in
      let still : relocation_at b slot c ≡ None = relocations-same v h.between h.issue.frame.regions stays.relocations slot c ∙ none in
      record {
        context = c;
        between = b;
        issues = events.Issues.on_key op (keyed-op op) (issues-told code v h.between slot c op issued first h.issues);
        issue = key-issue v h.between slot c issued none stays code op h.issue;
        goes = events.Goes.on_key still h.goes (goes h.between _ h.goes);
        event = key-event b new slot c now still (goes h.between _ h.goes) cmp f (Done told now) h.event;
      }
