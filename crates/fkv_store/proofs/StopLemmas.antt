-- What an operation is refused by is refused of one of its events, or while it waits.
use Rattle.std.proofs.Common.{◌≡◌, ◌≢◌, ◌<◌, ◌≤◌, ◌⊎◌, inl, inr, subst, ℕ, Bool, false, arith}
use Rattle.fkv_operations.specs.After.{is_merge}
use Rattle.fkv_operations.specs.declared.operations.KeyedOp.{KeyedOp}
use Rattle.fkv_functions.specs.declared.refusals.Refused.{Refused}
use Rattle.fkv_functions.specs.declared.refusals.Refused.TheVariants.{NoMemory, NoSlot, Unknown, Stranger, Worn, Device, Damaged, Stalled}
use Rattle.fkv_functions.specs.declared.refusals.What.TheVariants as what
use Rattle.fkv_store.specs.Passes.{PassView, IsStrange}
use Rattle.fkv_store.specs.Stores.{StoreView, IsTold, IsUnentered, IsUnrefreshed, IsUntidy, IsUndone, IsPageFault, IsUnturned, IsStopped, IsUnrun, IsUncompacted}

pub undone_stopped : (known : ℕ) (why : Refused) → IsUndone known why → IsStopped known why
undone_stopped known NoMemory h = tt
undone_stopped known Unknown h = tt
undone_stopped known (Stranger what.Pass held came) h = h
undone_stopped known Worn h = tt
undone_stopped known other h = absurd h

fault_stopped : (known : ℕ) (why : Refused) → IsPageFault why → IsStopped known why
fault_stopped known (Device code page) h = inr h
fault_stopped known (Damaged page) h = tt
fault_stopped known other h = absurd h

pub unturned_stopped : (known : ℕ) (why : Refused) → IsUnturned known why → IsStopped known why
unturned_stopped known why (inl h) = undone_stopped known why h
unturned_stopped known why (inr h) = fault_stopped known why h

pub untidy_stopped : (known : ℕ) (why : Refused) → IsUntidy why → IsStopped known why
untidy_stopped known NoMemory h = tt
untidy_stopped known (Stranger what.Page held came) h = h
untidy_stopped known (Stranger what.Bytes held came) h = h
untidy_stopped known Worn h = tt
untidy_stopped known (Device code page) h = inl h
untidy_stopped known other h = absurd h

pub unrefreshed_stopped : (known : ℕ) (why : Refused) → IsUnrefreshed why → IsStopped known why
unrefreshed_stopped known Unknown h = tt
unrefreshed_stopped known Worn h = tt
unrefreshed_stopped known other h = absurd h

pub unentered_stopped : (known : ℕ) (why : Refused) → IsUnentered why → IsStopped known why
unentered_stopped known NoSlot h = tt
unentered_stopped known Worn h = tt
unentered_stopped known other h = absurd h

pub roomless_stopped : (known : ℕ) (why : Refused) → (why ≡ Worn) ⊎ (why ≡ NoMemory) → IsStopped known why
roomless_stopped known why (inl worn) = rw worn tt
roomless_stopped known why (inr memory) = rw memory tt

-- while it waits: a partition that is there is never unknown
pub tidied_so : (count partition : ℕ) (why : Refused) → partition < count → ((why ≡ Unknown) × (count ≤ partition)) ⊎ IsUntidy why
    → IsUntidy why
tidied_so count partition why within (inl out) = absurd (let far = out.1 in omega arith)
tidied_so count partition why within (inr h) = h

pub waited_stopped : (known : ℕ) (why : Refused) → IsUntidy why ⊎ IsUnrefreshed why → IsStopped known why
waited_stopped known why (inl h) = untidy_stopped known why h
waited_stopped known why (inr h) = unrefreshed_stopped known why h

-- an operation alone stalls
pub undone_on : (known : ℕ) (why : Refused) → IsUndone known why → why ≢ Stalled
undone_on known why h is = subst (IsUndone known) is h

pub unturned_on : (known : ℕ) (why : Refused) → IsUnturned known why → why ≢ Stalled
unturned_on known why (inl h) is = undone_on known why h is
unturned_on known why (inr h) is = subst IsPageFault is h

pub untidy_on : (why : Refused) → IsUntidy why → why ≢ Stalled
untidy_on why h is = subst IsUntidy is h

pub unrefreshed_on : (why : Refused) → IsUnrefreshed why → why ≢ Stalled
unrefreshed_on why h is = subst IsUnrefreshed is h

pub waited_on : (why : Refused) → IsUntidy why ⊎ IsUnrefreshed why → why ≢ Stalled
waited_on why (inl h) = untidy_on why h
waited_on why (inr h) = unrefreshed_on why h

pub unentered_on : (why : Refused) → IsUnentered why → why ≢ Stalled
unentered_on why h is = subst IsUnentered is h

pub roomless_on : (why : Refused) → (why ≡ Worn) ⊎ (why ≡ NoMemory) → why ≢ Stalled
roomless_on why (inl worn) is = absurd (cc)
roomless_on why (inr memory) is = absurd (cc)

pub strange_on : {K V I O : Type 0} (s : StoreView) (p : PassView K V I O) (why : Refused) → IsStrange s p why → why ≢ Stalled
strange_on s p why h is = subst (IsStrange s p) is h

-- each is among what any call tells
pub stopped_told : (known : ℕ) (why : Refused) → IsStopped known why → IsTold why
stopped_told known NoMemory h = tt
stopped_told known NoSlot h = tt
stopped_told known Unknown h = tt
stopped_told known (Stranger what held came) h = tt
stopped_told known Worn h = tt
stopped_told known (Device code page) h = inr h
stopped_told known (Damaged page) h = tt
stopped_told known Stalled h = tt
stopped_told known other h = absurd h

pub uncompacted_told : (why : Refused) → IsUncompacted why → IsTold why
uncompacted_told NoMemory h = tt
uncompacted_told NoSlot h = tt
uncompacted_told Worn h = tt
uncompacted_told (Device code page) (inl h) = inl h
uncompacted_told (Device code page) (inr h) = inr (inr h)
uncompacted_told (Damaged page) h = tt
uncompacted_told Stalled h = tt
uncompacted_told other h = absurd h

pub strange_told : {K V I O : Type 0} (s : StoreView) (p : PassView K V I O) (why : Refused) → IsStrange s p why → IsTold why
strange_told s p (Stranger what held came) h = tt
strange_told s p other h = absurd h

pub run_told : {K V I O : Type 0} (s : StoreView) (p : PassView K V I O) (known : ℕ) (why : Refused) → IsStrange s p why ⊎ IsStopped known why → IsTold why
run_told s p known why (inl h) = strange_told s p why h
run_told s p known why (inr h) = stopped_told known why h

-- of an operation that is no merge
pub unrun_told : {K V I O : Type 0} (s : StoreView) (p : PassView K V I O) (merges : Bool) (op : KeyedOp K V I) (known : ℕ) (why : Refused)
    → is_merge op ≡ false → IsStrange s p why ⊎ IsUnrun merges op known why → IsTold why
unrun_told s p merges op known why keyed (inl h) = strange_told s p why h
unrun_told s p merges op known why keyed (inr (inl h)) = stopped_told known why h
unrun_told s p merges op known why keyed (inr (inr h)) = absurd (cc)

untidy_told : (why : Refused) → IsUntidy why → IsTold why
untidy_told why h = stopped_told 0 why (untidy_stopped 0 why h)

-- of a partition of this number
pub tidy_told : (count partition : ℕ) (why : Refused) → ((why ≡ Unknown) × (count ≤ partition)) ⊎ IsUntidy why → IsTold why
tidy_told count partition why (inl none) = rw none.0 tt
tidy_told count partition why (inr h) = untidy_told why h

pub compaction_told : (count partition : ℕ) (why : Refused) → ((why ≡ Unknown) × (count ≤ partition)) ⊎ IsUncompacted why → IsTold why
compaction_told count partition why (inl none) = rw none.0 tt
compaction_told count partition why (inr h) = uncompacted_told why h

pub rest_told : {K V I O : Type 0} (s : StoreView) (p : PassView K V I O) (why : Refused) → IsStrange s p why ⊎ IsUnrefreshed why → IsTold why
rest_told s p why (inl h) = strange_told s p why h
rest_told s p why (inr h) = stopped_told 0 why (unrefreshed_stopped 0 why h)
