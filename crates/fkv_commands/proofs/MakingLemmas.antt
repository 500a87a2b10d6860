-- What runs of several workers are not refused by, and answers under a premise.
use Rattle.std.proofs.Common.{◌≡◌, ◌≤◌, ◌<◌, ◌↔◌, ◌⊎◌, ℕ, true, false, max, List, [], ◌∷◌, arith, Option, Some, None, Result, Ok, Err, refl, sym, subst, ◌∙◌, inl, inr}
use Rattle.std.proofs.Math.Nat.{max-eq_left, max-eq_right}
use Rattle.std.specs.Prelude.{◌≢◌, OnOk, IfOk, IfSome, slice_index, slice_index_or}
use Rattle.fkv_device.specs.Known.{Pages, HasCollision, are_kept}
use Rattle.fkv_device.proofs.KnownLemmas.{collision}
use Rattle.fkv_functions.specs.declared.refusals.Refused.{Refused}
use Rattle.fkv_functions.specs.declared.refusals.Refused.TheVariants.{BadConfig, BadRow, Unreadable, Unwritable}
use Rattle.fkv_feeds.specs.Tables.{most_rows}
use Rattle.fkv_store.specs.Stores.{IsTold, IsClosing}
use Rattle.fkv_blocks.specs.Left.{number_of}
use Rattle.fkv_blocks.specs.Pieces.{TellsFault}
use Rattle.fkv_workers.specs.Works.{IsUnread}
use Rattle.fkv_feeds.specs.declared.counting.Plan.{Plan}
use Rattle.fkv_feeds.specs.declared.counting.RowMode.{RowMode}
use Rattle.fkv_feeds.specs.declared.counting.RowMode.TheVariants.{Merge}
use Rattle.fkv_requests.specs.declared.requests.TableRequest.{TableRequest}
use Rattle.fkv_commands.specs.Plans.{IsPlanBy, readers}
use Rattle.fkv_requests.specs.Requests.{Text}

no-writer : (feed limit : ℕ) (bytes : Option (List ℕ)) (before after : ℕ) (why : Refused) → TellsFault feed limit bytes before after why → why ≢ Unwritable
no-writer feed limit bytes before after why (TellsFault.bad n is bad) e = (let other : BadRow feed n ≡ Unwritable = sym is ∙ e in cc)
no-writer feed limit bytes before after why (TellsFault.failed is counted) e = (let other : Unreadable feed ≡ Unwritable = sym is ∙ e in cc)
no-writer feed limit bytes before after why (TellsFault.long is long) e = (let other : Unreadable feed ≡ Unwritable = sym is ∙ e in cc)
no-writer feed limit bytes before after why (TellsFault.wide is wide) e = (let other : Unreadable feed ≡ Unwritable = sym is ∙ e in cc)

pub blames-no-writer : (runnable : Type 0) (feeds : List (Option (List ℕ))) (before after : List ℕ) (why : Refused) → IsUnread runnable feeds before after why → why ≢ Unwritable
blames-no-writer runnable feeds before after why (IsUnread.beyond is not) e = (let bad : BadConfig ≡ Unwritable = sym is ∙ e in cc)
blames-no-writer runnable feeds before after why (IsUnread.told told) e = subst IsTold e told
blames-no-writer runnable feeds before after why (IsUnread.unread u) e =
    no-writer (number_of u.place) most_rows (slice_index_or feeds u.place None) (slice_index before u.place) (slice_index after u.place) why u.tells e
blames-no-writer runnable feeds before after why (IsUnread.unclosed closing) e = subst IsClosing e closing

-- a fact of an answer that has a premise, as a fact under that premise
pub later : {T E K : Type 0} (r : Result T E) (P : T → Type 0) → (K → IfOk r P) → IfOk r (λ x. K → P x)
later (Ok x) P h = h
later (Err e) P h = tt

-- what an answer is under a premise, or what spoils it
pub right : {T E : Type 0} (K : Type 0) (r : Result T E) (P : T → Type 0) (S : Type 0) → IfOk r (λ x. K → P x) → IfOk r (λ x. K → P x ⊎ S)
right K (Ok x) P S h = λ k. inl (h k)
right K (Err e) P S h = tt

pub spoilt : {T E : Type 0} (K : Type 0) (r : Result T E) (P : T → Type 0) (S : Type 0) → S → IfOk r (λ x. K → P x ⊎ S)
spoilt K (Ok x) P S s = λ k. inr s
spoilt K (Err e) P S s = tt

-- pages that are not kept collide, where they are known
pub unkept : (pages : Option Pages) → are_kept pages ≡ false → IfSome pages HasCollision
unkept None h = tt
unkept (Some pages) h = collision pages h

-- one worker, where no more are asked for
pub one-plan : {R E : Type 0} (plan : R → Plan) (table : TableRequest) (mode : RowMode) (r : Result R E)
    → ((mode ≡ Merge) ↔ (table.merge ≡ true))
    → table.workers ≤ 1
    → IfOk r (λ run. plan run ≡ record { config = table.config; mode = mode; workers = 1 })
    → IfOk r (λ run. IsPlanBy table (max 1 table.workers) (plan run))
one-plan plan table mode (Ok run) modes few is = rw is (refl, modes, sym (max-eq_left few))
one-plan plan table mode (Err e) modes few is = tt

-- so many workers, of which there is one at least
pub many-plan : {R E : Type 0} (plan : R → Plan) (table : TableRequest) (workers : ℕ) (r : Result R E)
    → workers ≡ table.workers
    → OnOk r (0 < workers)
    → IfOk r (λ run. IsPlanBy table workers (plan run))
    → IfOk r (λ run. IsPlanBy table (max 1 table.workers) (plan run))
many-plan plan table workers (Ok run) is some by = (by.0, by.1, by.2 ∙ (is ∙ sym (max-eq_right (omega (arith, is, some)))))
many-plan plan table workers (Err e) is some by = tt

-- of a request that names feeds, or none
pub named-plan : {R E : Type 0} (plan : R → Plan) (table : TableRequest) (paths : List Text) (r : Result R E)
    → (paths ≡ [] → ⊥)
    → IfOk r (λ run. IsPlanBy table (max 1 table.workers) (plan run))
    → IfOk r (λ run. IsPlanBy table (readers paths table.workers) (plan run))
named-plan plan table [] r some by = absurd (some refl)
named-plan plan table (path ∷ paths) r some by = by

pub input-plan : {R E : Type 0} (plan : R → Plan) (table : TableRequest) (paths : List Text) (r : Result R E)
    → paths ≡ []
    → IfOk r (λ run. IsPlanBy table 1 (plan run))
    → IfOk r (λ run. IsPlanBy table (readers paths table.workers) (plan run))
input-plan plan table [] r none by = by
input-plan plan table (path ∷ paths) r none by = absurd (cc)
