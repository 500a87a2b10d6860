-- What a pass ran.
use Rattle.std.proofs.Common.{◌≡◌, ◌+◌, ◌-◌, ◌^◌, ◌<◌, ◌≤◌, ℕ, Bool, true, false, inl, Result, Ok, Err, IfOk, IfErr, sym, ◌∙◌, subst}
use Rattle.fkv_functions.specs.declared.refusals.Refused.{Refused}
use Rattle.fkv_operations.specs.declared.operations.KeyedOp.{KeyedOp}
use Rattle.fkv_operations.specs.declared.operations.KeyedOp.TheVariants.{Read, Upsert, Rmw, Delete, Merge}
use Rattle.fkv_operations.specs.declared.operations.Answer.{Answer}
use Rattle.fkv_histories.specs.declared.entries.Entry.{Entry}
use Rattle.fkv_store.specs.declared.running.Loads.{Loads}
use Rattle.fkv_store.specs.declared.running.Loads.TheVariants as loads
use Rattle.fkv_store.specs.Passes.{PassView, Runs}
use Rattle.fkv_store.specs.Runs.{IsRunAs, IsEntryOf}
use Rattle.fkv_store.specs.Stores.{IsStopped, IsUnrun}

pub ran_itself : {K V I O : Type 0} (keeps : Bool) (old new : PassView K V I O) (p : ℕ) (op : KeyedOp K V I) (r : Result (Answer O) Refused)
    → IfOk r (λ a. (ran : KeyedOp K V I) × IsRunAs loads.Read op ran × Runs keeps old new p ran a)
    → IfOk r (Runs keeps old new p op)
ran_itself keeps old new p op (Ok a) h = subst (λ ran. Runs keeps old new p ran a) h.1 h.2
ran_itself keeps old new p op (Err e) h = tt

-- an operation runs as itself
pub runs-itself : {K V I : Type 0} (how : Loads) (op ran : KeyedOp K V I) → ran ≡ op → IsRunAs how op ran
runs-itself loads.Read op ran h = h
runs-itself loads.Merge (Read k i) ran h = h
runs-itself loads.Merge (Upsert k v) ran h = h
runs-itself loads.Merge (Rmw k i) ran h = inl h
runs-itself loads.Merge (Delete k) ran h = h
runs-itself loads.Merge (Merge k i) ran h = h

-- by the entry that it came to, if it came to one
module _ {K V I O : Type 0} where
  pub entry-runs : (how : Loads) (op ran : KeyedOp K V I) (known : ℕ) (r : Result (Entry K V I O) Refused) → IsRunAs how op ran → IfOk r (IsEntryOf ran known)
      → IfOk r (λ e. IsRunAs how op e.op)
  entry-runs how op ran known (Ok e) runs h = subst (IsRunAs how op) (sym h.op_is) runs
  entry-runs how op ran known (Err why) runs h = tt

  pub entry-fresh : (op : KeyedOp K V I) (known : ℕ) (r : Result (Entry K V I O) Refused) → IfOk r (IsEntryOf op known) → IfOk r (λ e. known ≤ e.at)
  entry-fresh op known (Ok e) h = h.fresh
  entry-fresh op known (Err why) h = tt

  pub entry-room : (op : KeyedOp K V I) (known : ℕ) (r : Result (Entry K V I O) Refused) → IfOk r (IsEntryOf op known) → IfOk r (λ e. e.at < 2 ^ 64 - 1)
  entry-room op known (Ok e) h = h.room
  entry-room op known (Err why) h = tt

-- or by why it came to none
pub stopped-unrun : {T K V I : Type 0} (merges : Bool) (op : KeyedOp K V I) (known : ℕ) (r : Result T Refused) → IfErr r (IsStopped known)
    → IfErr r (IsUnrun merges op known)
stopped-unrun merges op known (Ok x) h = tt
stopped-unrun merges op known (Err why) h = inl h

pub not-both : {P : Type 0} (b : Bool) → b ≡ false → b ≡ true → P
not-both b off on = let bad : false ≡ true = sym off ∙ on in absurd (cc)
