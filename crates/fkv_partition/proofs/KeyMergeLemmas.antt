-- A merge asks for nothing.
use Rattle.std.proofs.Common.{◌≡◌, true, inl, inr, ℕ, Bool, List, Option, Some, None, Result, Ok, Err, refl, sym, ◌∙◌, ap, subst}
use Rattle.std.specs.declared.cmp.Ordering.{Ordering}
use Rattle.fkv_functions.specs.Meanings.{Meanings}
use Rattle.fkv_functions.specs.declared.asks.Ask.{Ask}
use Rattle.fkv_functions.specs.declared.refusals.Refused.{Refused}
use Rattle.fkv_functions.specs.declared.refusals.Refused.TheVariants.{NotReady}
use Rattle.fkv_device.specs.Standing.{Standing, Joined}
use Rattle.fkv_texts.specs.declared.entries.Entry.{Entry}
use Rattle.fkv_operations.specs.After.{key_of, is_merge}
use Rattle.fkv_operations.specs.declared.entries.IndexEntry.{IndexEntry}
use Rattle.fkv_operations.specs.declared.operations.KeyedOp.{KeyedOp}
use Rattle.fkv_operations.specs.declared.operations.KeyedOp.TheVariants.{Read, Upsert, Rmw, Delete, Merge}
use Rattle.fkv_lookups.specs.DecisionLaws.{prepare-op, wait-op, load-op}
use Rattle.fkv_partition.specs.declared.contexts.Context.{Context}
use Rattle.fkv_partition.specs.declared.contexts.Phase.{Phase}
use Rattle.fkv_partition.specs.declared.contexts.Phase.TheVariants.{Fresh, Confirm, Prepared, Load}
use Rattle.fkv_partition.specs.declared.contexts.Loading.{Loading}
use Rattle.fkv_partition.specs.declared.contexts.Progress.{Progress}
use Rattle.fkv_partition.specs.declared.contexts.Progress.TheVariants.{Done, Next, Waits}
use Rattle.fkv_partition.specs.declared.contexts.Wait.TheVariants.{Full}
use Rattle.fkv_partition.specs.Asking.{AsksNothing}
use Rattle.fkv_partition.specs.Contexts.{question_by, question_in}
use Rattle.fkv_partition.specs.KeyGoing.{Goes}
use Rattle.fkv_partition.specs.KeyInstalling.{Installs}
use Rattle.fkv_partition.specs.KeyLoading.{Loads}
use Rattle.fkv_partition.specs.KeySound.{IsSound, StandsFor}
use Rattle.fkv_partition.specs.Views.{PartitionView, context_at, met_at}
use Rattle.fkv_partition.proofs.EventLemmas.{stands-at}

-- ---- what a merge is not
not-read : {K V I : Type 0} (op : KeyedOp K V I) (k : K) (i : I) → is_merge op ≡ true → op ≡ Read k i → ⊥
not-read {K} {V} {I} op k i m is = let same : is_merge {K = K} {V = V} {I = I} (Read k i) ≡ true = subst (λ (o : KeyedOp K V I). is_merge o ≡ true) is m in cc

not-update : {K V I : Type 0} (op : KeyedOp K V I) (k : K) (i : I) → is_merge op ≡ true → op ≡ Rmw k i → ⊥
not-update {K} {V} {I} op k i m is = let same : is_merge {K = K} {V = V} {I = I} (Rmw k i) ≡ true = subst (λ (o : KeyedOp K V I). is_merge o ≡ true) is m in cc

no-question : {K V I : Type 0} (n : ℕ) (op : KeyedOp K V I) (p : Phase V) → is_merge op ≡ true → question_by n op p ≡ None
no-question n op Fresh m = refl
no-question n op (Confirm q) m = refl
no-question n op (Load l) m = refl
no-question n (Read k i) (Prepared e s) m = refl
no-question n (Upsert k v) (Prepared e s) m = refl
no-question n (Rmw k i) (Prepared e s) m = absurd (cc)
no-question n (Delete k) (Prepared e s) m = refl
no-question n (Merge k i) (Prepared e s) m = refl

no-load : {K V I : Type 0} (keeps : Bool) (cmp : K → K → Ordering) (join : V → V → V) (code : K → ℕ) (v : PartitionView K V I) (op : KeyedOp K V I) (p : Phase V) (l : Loading V)
    → is_merge op ≡ true
    → StandsFor keeps cmp join code v.records op p
    → p ≡ Load l
    → ⊥
no-load keeps cmp join code v (Read k i) p l m s is = cc
no-load keeps cmp join code v (Upsert k u) p l m s is = cc
no-load keeps cmp join code v (Rmw k i) p l m s is = cc
no-load keeps cmp join code v (Delete k) p l m s is = cc
no-load keeps cmp join code v (Merge k i) p l m s is = subst (StandsFor keeps cmp join code v.records (Merge k i)) is s

some-is : {A : Type 0} (o : Option A) (x y : A) → o ≡ Some x → o ≡ Some y → y ≡ x
some-is o x y h g = let both : Some y ≡ Some x = sym g ∙ h in cc

some-not : {A : Type 0} (o : Option A) (x : A) → o ≡ Some x → o ≡ None → ⊥
some-not o x h g = let both : Some x ≡ None = sym h ∙ g in cc

module _ {K V I : Type 0} {keeps : Bool} (cmp : K → K → Ordering) (join : V → V → V) (code : K → ℕ) (old : PartitionView K V I) (slot c : ℕ) (x : Context K V I)
    (s : IsSound keeps cmp join code old) (h : context_at old slot c ≡ Some x) (m : is_merge x.op ≡ true) where
  -- the operation that is open is a merge
  merges : (y : Context K V I) → context_at old slot c ≡ Some y → is_merge y.op ≡ true
  merges y g = ap (λ (z : Context K V I). is_merge z.op) (some-is (context_at old slot c) x y h g) ∙ m

  asks-not : (y : Context K V I) → context_at old slot c ≡ Some y → (q : IndexEntry × Ask K V I) → question_in y ≡ Some q → ⊥
  asks-not y g q is = some-not (question_in y) q is (no-question y.number y.op y.phase (merges y g))

  loads-not : (y : Context K V I) → context_at old slot c ≡ Some y → (l : Loading V) → y.phase ≡ Load l → ⊥
  loads-not y g l is = no-load keeps cmp join code old y.op y.phase l (merges y g) (stands-at cmp join code old s slot c y g) is

module _ {K V I O : Type 0} {keeps : Bool} (cmp : K → K → Ordering) (join : V → V → V) (f : Meanings K V I O) (code : K → ℕ) (old new : PartitionView K V I) (slot c now : ℕ) (x : Context K V I)
    (s : IsSound keeps cmp join code old) (h : context_at old slot c ≡ Some x) (m : is_merge x.op ≡ true) where
  pub merge-goes : {R : Type 0} (stands : R → Standing) (progress : Progress K V I O R) → Goes stands cmp join f code old new slot c now (Ok progress) → AsksNothing progress
  merge-goes stands progress (Goes.unknown g is r) = absurd (cc)
  merge-goes stands progress (Goes.asks y e ask g q is r) = absurd (asks-not cmp join code old slot c x s h m y g (e, ask) q)
  merge-goes stands progress (Goes.not_ready y l g phase is r) = absurd (cc)
  merge-goes stands progress (Goes.confirms y p g phase alone is r) = let told : progress ≡ Next = cc in rw told tt
  merge-goes stands progress (Goes.backs_off y p g phase alone is r) = let told : progress ≡ Next = cc in rw told tt
  merge-goes stands progress (Goes.done y a d is r) = let told : progress ≡ Done a now = cc in rw told tt
  merge-goes stands progress (Goes.claims y d is r) = let told : progress ≡ Next = cc in rw told tt
  merge-goes stands progress (Goes.unclaimed y d full is r) = absurd (cc)
  merge-goes stands progress (Goes.appends y payload a e d entry room free is r) = let told : progress ≡ Done a now = cc in rw told tt
  merge-goes stands progress (Goes.worn y payload a d room is r) = absurd (cc)
  merge-goes stands progress (Goes.full y payload a d room is r) = let told : progress ≡ Waits Full = cc in rw told tt
  merge-goes stands progress (Goes.replaces y value a e d last is r) = let told : progress ≡ Done a now = cc in rw told tt
  merge-goes stands progress (Goes.waits y d is r) =
      let o = wait-op f y.op (met_at cmp join code old slot (key_of y.op)) d.decided in
      absurd (not-update y.op (key_of y.op) o.0 (merges cmp join code old slot c x s h m y d.here) o.1)
  merge-goes stands progress (Goes.prepares y source i e d entry is r) =
      absurd (not-update y.op (key_of y.op) i (merges cmp join code old slot c x s h m y d.here) (prepare-op f y.op (met_at cmp join code old slot (key_of y.op)) source i d.decided))
  merge-goes stands progress (Goes.asks_page y b parts e p d entry held is r) =
      let o = load-op f y.op (met_at cmp join code old slot (key_of y.op)) b parts d.decided in
      elim o.1 [
        | inl is ↦ absurd (not-read y.op (key_of y.op) o.0 (merges cmp join code old slot c x s h m y d.here) is)
        | inr is ↦ absurd (not-update y.op (key_of y.op) o.0 (merges cmp join code old slot c x s h m y d.here) is)
      ]
  merge-goes stands progress (Goes.unshared y b parts d is r) = absurd (cc)

  pub merge-installs : {R : Type 0} (ask : Ask K V I) (result : Result (Progress K V I O R) Refused) → Installs cmp f code old new slot c ask now result → result ≡ Err NotReady
  merge-installs ask result (Installs.unknown g is r) = absurd (some-not (context_at old slot c) x h g)
  merge-installs ask result (Installs.not_ready y g q is r) = r
  merge-installs ask result (Installs.stranger y e mine g q n is r) = absurd (asks-not cmp join code old slot c x s h m y g (e, mine) q)
  merge-installs ask result (Installs.moved y e g q n is r) = absurd (asks-not cmp join code old slot c x s h m y g (e, ask) q)
  merge-installs ask result (Installs.declined y e g q n u is r) = absurd (asks-not cmp join code old slot c x s h m y g (e, ask) q)
  merge-installs ask result (Installs.worn y e value g q n u room is r) = absurd (asks-not cmp join code old slot c x s h m y g (e, ask) q)
  merge-installs ask result (Installs.full y e value g q n u room is r) = absurd (asks-not cmp join code old slot c x s h m y g (e, ask) q)
  merge-installs ask result (Installs.done y e value g q n u room free is r) = absurd (asks-not cmp join code old slot c x s h m y g (e, ask) q)

  pub merge-loads : {R : Type 0} (stands : R → Standing) (entry : ℕ → List ℕ → ℕ → Entry K V → Type 0) (came : Result (Joined R) Refused) (result : Result (Progress K V I O R) Refused) → Loads stands entry cmp join f old new slot c came now result → result ≡ Err NotReady
  merge-loads stands entry came result (Loads.unknown g is r) = absurd (some-not (context_at old slot c) x h g)
  merge-loads stands entry came result (Loads.not_ready y g none is r) = r
  merge-loads stands entry came result (Loads.moved y l g phase n is r) = absurd (loads-not cmp join code old slot c x s h m y g l phase)
  merge-loads stands entry came result (Loads.failed y l why a e n is r) = absurd (loads-not cmp join code old slot c x s h m y a.here l a.loading)
  merge-loads stands entry came result (Loads.unread y l a e is r) = absurd (loads-not cmp join code old slot c x s h m y a.here l a.loading)
  merge-loads stands entry came result (Loads.stranger y l p st a e g n is r) = absurd (loads-not cmp join code old slot c x s h m y a.here l a.loading)
  merge-loads stands entry came result (Loads.damaged y l p why a e is r) = absurd (loads-not cmp join code old slot c x s h m y a.awaits.here l a.awaits.loading)
  merge-loads stands entry came result (Loads.bad_link y l p b parts a e low n is r) = absurd (loads-not cmp join code old slot c x s h m y a.awaits.here l a.awaits.loading)
  merge-loads stands entry came result (Loads.done y l p k i value a e o is r) = absurd (loads-not cmp join code old slot c x s h m y a.reads.awaits.here l a.reads.awaits.loading)
  merge-loads stands entry came result (Loads.prepares y l p k i value a e o is r) = absurd (loads-not cmp join code old slot c x s h m y a.reads.awaits.here l a.reads.awaits.loading)
  merge-loads stands entry came result (Loads.goes_on y l p b parts q a e low start held is r) = absurd (loads-not cmp join code old slot c x s h m y a.awaits.here l a.awaits.loading)
  merge-loads stands entry came result (Loads.unshared y l p b parts a e low start is r) = absurd (loads-not cmp join code old slot c x s h m y a.awaits.here l a.awaits.loading)
