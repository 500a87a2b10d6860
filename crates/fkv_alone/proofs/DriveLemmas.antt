-- What the events of an operation make of it, one after the other.
use Rattle.std.proofs.Common.{◌≡◌, ◌≢◌, ◌⊎◌, inl, inr, ℕ, Bool, List, Option, Some, None, Result, OnErr, Ok, Err, refl, sym, ◌∙◌, ap, subst}
use Rattle.std.specs.declared.cmp.Ordering.{Ordering}
use Rattle.fkv_functions.specs.Meanings.{Meanings}
use Rattle.fkv_functions.specs.declared.refusals.Refused.{Refused}
use Rattle.fkv_device.specs.Standing.{Standing}
use Rattle.fkv_index.specs.declared.words.Word.{Word}
use Rattle.fkv_lookups.specs.RecordsViews.{RecordsView, released}
use Rattle.fkv_operations.specs.declared.operations.KeyedOp.{KeyedOp}
use Rattle.fkv_partition.specs.declared.contexts.Context.{Context}
use Rattle.fkv_partition.specs.declared.contexts.Phase.{Phase}
use Rattle.fkv_partition.specs.declared.contexts.Phase.TheVariants.{Fresh, Confirm, Prepared, Load}
use Rattle.fkv_partition.specs.declared.contexts.Progress.{Progress}
use Rattle.fkv_partition.specs.declared.contexts.Progress.TheVariants.{Done, Next, NeedsBuild, NeedsLoad, Waits}
use Rattle.fkv_partition.specs.KeyEnding.{GivesUp}
use Rattle.fkv_partition.specs.Views.{PartitionView}
use Rattle.fkv_partition.specs.Pending.{OthersPend, AllPend, pending, pending_of, pending_by}
use Rattle.fkv_partition.specs.Beginning.{IsFirstFree}
use Rattle.fkv_alone.specs.Stages.{IsOpen, HasCome}
use Rattle.fkv_alone.specs.Ending.{IsOver, IsOn, IsHalted}
use Rattle.fkv_alone.proofs.OpenLemmas.{leaves-then, leaves-own, leaves-self, set-here, set-frame}
use Rattle.fkv_partition.proofs.AskedLemmas.{context-apart}

module _ {K V I O R : Type 0} (keeps : Bool) (stands : R → Standing) (cmp : K → K → Ordering) (join : V → V → V) (f : Meanings K V I O) (code : K → ℕ) (op : KeyedOp K V I) (old : PartitionView K V I) (slot c started : ℕ) where
  -- an operation that is to go on is open
  come-open : (v : PartitionView K V I) (p : Progress K V I O R) → HasCome keeps stands cmp join f code op old v slot c started p → IsOn p → (x : Context K V I) × IsOpen op old v slot c started x
  come-open v (Done a effect) h on = absurd on
  come-open v Next h on = (h.operation, h.open_is)
  come-open v (NeedsBuild ask) h on = (h.operation, h.open_is)
  come-open v (NeedsLoad r a) h on = (h.operation, h.open_is)
  come-open v (Waits why) h on = absurd on

  pub come-halted : (v : PartitionView K V I) (p : Progress K V I O R) → HasCome keeps stands cmp join f code op old v slot c started p → IsOn p → IsHalted old v slot c
  come-halted v p h on = let o = come-open v p h on in record { records = o.1.records; frame = o.1.frame }

  -- an event is refused
  pub stop-halted : (v w : PartitionView K V I) (p : Progress K V I O R) → HasCome keeps stands cmp join f code op old v slot c started p → IsOn p → (w ≡ v) ⊎ IsOver old w slot c → IsHalted old w slot c
  stop-halted v w p h on e = elim e [
    | inl same ↦ subst (λ (u : PartitionView K V I). IsHalted old u slot c) (sym same) (come-halted v p h on)
    | inr over ↦ record { records = over.records; frame = over.frame }
  ]

module _ {K V I : Type 0} where
  -- what is halted, is over once it is given up
  pub halted-over : (old v w : PartitionView K V I) (slot c : ℕ) → IsHalted old v slot c → IsOver v w slot c → IsOver old w slot c
  halted-over old v w slot c o e = record {
    closed = e.closed;
    records = e.records ∙ ap (λ (r : RecordsView K V). record r { words = w.records.words }) o.records;
    frame = leaves-own old w slot c w.moment (leaves-then old v w slot c v.moment w.moment o.frame e.frame);
  }

  -- what is given up is over
  pub given-over : (v w : PartitionView K V I) (slot c now : ℕ) (r : Result (Unit {0}) Refused) → GivesUp v w slot c now r → IsOver v w slot c
  given-over v w slot c now r (GivesUp.unknown none is e) = rw is (record { closed = none; records = refl; frame = leaves-self v slot c })
  given-over v w slot c now r (GivesUp.gives_up x h free is e) = rw is (record { closed = set-here v slot c now x h None v.records refl; records = refl; frame = set-frame v slot c now x h None v.records refl refl })
  given-over v w slot c now r (GivesUp.cancels x p h phase is e) = rw is (record { closed = set-here v slot c now x h None (released v.records p) refl; records = refl; frame = set-frame v slot c now x h None (released v.records p) refl refl })

  -- words of the index play no part in what a look-up is to find
  pending-words : (cmp : K → K → Ordering) (r : RecordsView K V) (words : List (List Word)) (o : Option (Context K V I)) → pending_of cmp (record r { words = words }) o ≡ pending_of cmp r o
  pending-words cmp r words None = refl
  pending-words cmp r words (Some x) = by x.phase
    where
      by : (phase : Phase V) → pending_by cmp (record r { words = words }) x.op phase ≡ pending_by cmp r x.op phase
      by Fresh = refl
      by (Confirm p) = refl
      by (Prepared e s) = refl
      by (Load l) = refl

  -- what the others are to find stays, where one is given up
  pub given-others : (cmp : K → K → Ordering) (v w : PartitionView K V I) (slot c now : ℕ) (r : Result (Unit {0}) Refused) → GivesUp v w slot c now r → OthersPend cmp v w slot c
  given-others cmp v w slot c now r (GivesUp.unknown none is e) s d other = ap (λ (u : PartitionView K V I). pending cmp u s d) is
  given-others cmp v w slot c now r (GivesUp.gives_up x h free is e) s d other =
      ap (λ (u : PartitionView K V I). pending cmp u s d) is
      ∙ ap (pending_of cmp v.records) (context-apart v slot c (v.moment) x h None s d other)
  given-others cmp v w slot c now r (GivesUp.cancels x p h phase is e) s d other =
      ap (λ (u : PartitionView K V I). pending cmp u s d) is
      ∙ pending-words cmp v.records (released v.records p).words _
      ∙ ap (pending_of cmp v.records) (context-apart v slot c (v.moment) x h None s d other)

  -- what the others are to find stays, over one event after the other
  pub pend-then : (cmp : K → K → Ordering) (a b d : PartitionView K V I) (slot c : ℕ) → OthersPend cmp a b slot c → OthersPend cmp b d slot c → OthersPend cmp a d slot c
  pend-then cmp a b d slot c f g s e other = g s e other ∙ f s e other

  pub pend-self : (cmp : K → K → Ordering) (v : PartitionView K V I) (slot c : ℕ) → OthersPend cmp v v slot c
  pend-self cmp v slot c s e other = refl

  -- of all contexts but the one that was free
  pub pend-free : (cmp : K → K → Ordering) (a : PartitionView K V I) (b d : PartitionView K V I) (slot c s e : ℕ) → AllPend cmp a b → OthersPend cmp b d slot c → IsFirstFree a slot (Some c) → (s ≢ slot) ⊎ (¬ IsFirstFree a slot (Some e)) → pending cmp d s e ≡ pending cmp a s e
  pend-free cmp a b d slot c s e all others free other =
      others s e (elim other [ inl n ↦ inl n | inr n ↦ inr (λ same. n (subst (λ q. IsFirstFree a slot (Some q)) (sym same) free)) ]) ∙ all s e

  pub core-same : {A : Type 0} (v w : PartitionView K V I) (r : Result A Refused) → OnErr r (w ≡ v) → OnErr r (w ≡ v)
  core-same v w (Ok x) h = tt
  core-same v w (Err e) h = ap (λ (u : PartitionView K V I). u) h
