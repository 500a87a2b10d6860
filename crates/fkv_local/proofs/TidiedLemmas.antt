-- Pages that move, one move after the other.
use Rattle.std.proofs.Common.{◌≡◌, ◌<◌, ◌≤◌, ◌+◌, ◌^◌, Bool, true, false, ℕ, List, Result, Ok, Err, IfOk, IfErr, refl, sym, ◌∙◌, ap, subst, arith}
use Rattle.std.specs.declared.cmp.Ordering.{Ordering}
use Rattle.fkv_functions.specs.declared.refusals.Refused.{Refused}
use Rattle.fkv_functions.specs.declared.refusals.Refused.TheVariants.{Worn}
use Rattle.fkv_texts.specs.Text.{live}
use Rattle.fkv_device.specs.Standing.{Standing}
use Rattle.fkv_partition.specs.Contexts.{is_session}
use Rattle.fkv_partition.specs.Flushing as flushing
use Rattle.fkv_partition.specs.Views.{PartitionView, slots_of, at_moment}
use Rattle.fkv_partition.specs.Events.{Flushes}
use Rattle.fkv_local.specs.Causing.{IsCausedBy}
use Rattle.fkv_local.specs.Clearing.{WasCut}
use Rattle.fkv_local.specs.Failures.{Failures}
use Rattle.fkv_local.specs.Moving.{IsTidied, IsPassed, IsMoveRefusal}
use Rattle.fkv_local.specs.Refusing.{IsWorkRefusal}
use Rattle.fkv_local.proofs.CauseLemmas.{worn-caused}

-- ---- a clock that passes
pub passed-then : {m n a b d : ℕ} → IsPassed m a b → IsPassed n b d → IsPassed n a d
passed-then s t = record { past = t.past; later = (let first = s.later in let then = t.later in omega arith) }

-- ---- pages that move
module _ {K V I : Type 0} {keeps : Bool} {cmp : K → K → Ordering} where
  pub tidied-same : {v : PartitionView K V I} → IsTidied keeps cmp v v
  tidied-same = record { number = refl; count = refl; sessions = λ s. refl; contexts = refl; begin = refl; live = λ k q. refl }

  pub tidied-as : {v w : PartitionView K V I} → w ≡ v → IsTidied keeps cmp v w
  tidied-as {v} same = subst (IsTidied keeps cmp v) (sym same) tidied-same

  pub tidied-then : {u v w : PartitionView K V I} → IsTidied keeps cmp u v → IsTidied keeps cmp v w → IsTidied keeps cmp u w
  tidied-then s t = record {
    number = t.number ∙ s.number;
    count = t.count ∙ s.count;
    sessions = λ a. t.sessions a ∙ s.sessions a;
    contexts = t.contexts ∙ s.contexts;
    begin = t.begin ∙ s.begin;
    live = λ k q. t.live k q ∙ s.live k q;
  }

  -- a page is taken to be written, and one that was written is taken in
  pub take-tidied : {v w : PartitionView K V I} {now : ℕ} → w ≡ at_moment v now → IsTidied keeps cmp v w
  take-tidied {v} is = subst (IsTidied keeps cmp v) (sym is) (record { number = refl; count = refl; sessions = λ s. refl; contexts = refl; begin = refl; live = λ k q. refl })

  pub flush-tidied : {v w : PartitionView K V I} {s : Standing} {bytes : List ℕ} {now : ℕ} {r : Result _ Refused} → Flushes v w s bytes now r → IsTidied keeps cmp v w
  flush-tidied {v} {w} {s} {bytes} {now} {r} h = by h.does
    where
      same-core : w ≡ v → IsTidied keeps cmp v w
      same-core same = record {
        number = ap (λ (u : PartitionView K V I). u.number) same;
        count = ap (λ (u : PartitionView K V I). u.count) same;
        sessions = λ s. ap (λ (u : PartitionView K V I). is_session (slots_of u) s) same;
        contexts = ap (λ (u : PartitionView K V I). u.contexts) same;
        begin = ap (λ (u : PartitionView K V I). u.records.log.begin) same;
        live = λ k q. ap (λ (u : PartitionView K V I). live cmp u.records.text q) same;
      }

      by : flushing.Flushes v w s bytes now r → IsTidied keeps cmp v w
      by (flushing.Flushes.refused why a same t) = same-core same
      by (flushing.Flushes.unkept a same t) = same-core same
      by (flushing.Flushes.keeps a is t) = record {
        number = ap (λ (u : PartitionView K V I). u.number) is;
        count = ap (λ (u : PartitionView K V I). u.count) is;
        sessions = λ s. ap (λ (u : PartitionView K V I). is_session (slots_of u) s) is;
        contexts = ap (λ (u : PartitionView K V I). u.contexts) is;
        begin = ap (λ (u : PartitionView K V I). u.records.log.begin) is;
        live = λ k q. ap (λ (u : PartitionView K V I). live cmp u.records.text q) is;
      }

-- the start of a log was cut, from where it began before pages moved
pub cut-since : {K V I : Type 0} (u v w : PartitionView K V I) (r : Result Bool Refused) → v.records.log.begin ≡ u.records.log.begin → IfOk r (WasCut v w) → IfOk r (WasCut u w)
cut-since u v w (Ok true) same h = subst (λ n. n < w.records.log.begin) same h
cut-since u v w (Ok false) same h = h ∙ same
cut-since u v w (Err e) same h = tt

-- ---- what is refused for want of moments alone
module _ {T : Type 0} where
  pub worn-only : (A B P : Type 0) (r : Result T Refused) → IfErr r (λ e. (e ≡ Worn) × P) → IfErr r (IsCausedBy A B)
  worn-only A B P (Ok x) h = tt
  worn-only A B P (Err e) h = worn-caused A B h.0

  pub worn-moves : (r : Result T Refused) (clock w w_now : ℕ) → w_now ≡ w → IfErr r (λ e. (e ≡ Worn) × (2 ^ 64 ≤ clock + 2)) → IfErr r (IsMoveRefusal clock w w_now)
  worn-moves (Ok x) clock w w_now same h = tt
  worn-moves (Err e) clock w w_now same h = IsMoveRefusal.worn h.0 h.1 same

  pub worn-cut : (r : Result T Refused) (keeps : Bool) (tail clock : ℕ) (old now : Failures) → now ≡ old → IfErr r (λ e. (e ≡ Worn) × (2 ^ 64 ≤ clock + 1)) → IfErr r (IsWorkRefusal keeps tail clock old now)
  worn-cut (Ok x) keeps tail clock old now same h = tt
  worn-cut (Err e) keeps tail clock old now same h = IsWorkRefusal.no_moment h.0 (let low : 2 ^ 64 ≤ clock + 1 = h.1 in omega arith) same
