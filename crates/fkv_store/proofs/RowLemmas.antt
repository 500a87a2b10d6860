-- Rows that a pass made: one more, and the one that was refused.
use Rattle.std.proofs.Common.{◌≡◌, ◌∙◌, ◌+◌, ◌<◌, ◌⊎◌, inl, inr, ℕ, Bool, false, true, List, [], ◌∷◌, ◌++◌, length, take, drop, get_or, suc, refl, sym, ap, subst, slice_index, arith}
use Rattle.std.proofs.lemmas.List.{take_more}
use Rattle.std.proofs.Math.Seq.{split_at}
use Rattle.std.specs.declared.cmp.Ordering.{Ordering}
use Rattle.fkv_functions.specs.Meanings.{Meanings}
use Rattle.fkv_functions.specs.declared.refusals.Refused.{Refused}
use Rattle.fkv_functions.specs.declared.refusals.Refused.TheVariants.{Stalled}
use Rattle.fkv_device.specs.Standing.{Standing}
use Rattle.fkv_operations.specs.After.{is_merge, key_of}
use Rattle.fkv_operations.specs.declared.operations.KeyedOp.{KeyedOp}
use Rattle.fkv_operations.specs.declared.operations.KeyedOp.TheVariants.{Rmw}
use Rattle.fkv_operations.specs.declared.operations.Answer.{Answer}
use Rattle.fkv_partition.specs.AtOnce.{IsDoneAtOnce}
use Rattle.fkv_partition.specs.Views.{PartitionView, partition_of}
use Rattle.fkv_partition.proofs.AskedLemmas.{keyed-op}
use Rattle.fkv_store.specs.declared.running.Loads.{Loads}
use Rattle.fkv_store.specs.Stores.{StoreView, IsStopped, IsUnrun}
use Rattle.fkv_store.specs.AtOnce.{IsDone}
use Rattle.fkv_store.specs.Passes.{PassView, IsPassOf, IsStrange, Runs}
use Rattle.fkv_store.specs.Runs.{AreCounted}
use Rattle.fkv_store.specs.Rows.{IsMade, AreMade, IsCutShort}
use Rattle.fkv_store.proofs.CountLemmas.{none-steady}
use Rattle.fkv_store.proofs.RunLemmas.{runs-itself}
use Rattle.fkv_store.proofs.StrangeLemmas.{apart}

-- an update of a pass of the store is not refused as another one's, nor as a merge
own-stopped : {K V I O : Type 0} (s : StoreView) (p : PassView K V I O) (merges : Bool) (op : KeyedOp K V I) (known : ℕ) (why : Refused)
    → IsPassOf s p → is_merge op ≡ false
    → IsStrange s p why ⊎ IsUnrun merges op known why
    → IsStopped known why
own-stopped s p merges op known why own plain (inl h) = absurd (apart s p why h own)
own-stopped s p merges op known why own plain (inr (inl h)) = h
own-stopped s p merges op known why own plain (inr (inr h)) = let bad : false ≡ true = sym plain ∙ h.1 in absurd (cc)

module _ {K V I O : Type 0} (keeps : Bool) (code : K → ℕ) (how : Loads) (s : StoreView) where
  -- one row more
  made-more : (old then new : PassView K V I O) (rows : List (K × I)) (row : K × I) → AreMade keeps code how s old rows then
      → IsMade keeps code how s then row new
      → AreMade keeps code how s old (rows ++ row ∷ []) new
  made-more old then new [] row same one = (new, subst (λ p. IsMade keeps code how s p row new) same one, refl)
  made-more old then new (x ∷ rows) row h one = (h.0, h.1, made-more h.0 then new rows row h.2 one)

  module _ (first then new : PassView K V I O) (rows : List (K × I)) (i : ℕ) (within : i < length rows) where
    -- the one at this place
    pub made-until : (row d : K × I) → row ≡ get_or rows i d → AreMade keeps code how s first (take i rows) then
        → IsMade keeps code how s then row new
        → AreMade keeps code how s first (take (i + 1) rows) new
    made-until row d is h one =
        rw (take_more rows i d within) (made-more first then new (take i rows) (get_or rows i d) h (subst (λ r. IsMade keeps code how s then r new) is one))

    -- or it was refused: no update of a pass of the store is as another one's, nor as a merge
    pub cut-at : (row d : K × I) → row ≡ get_or rows i d → (pages_keep merges : Bool) (why : Refused)
        → AreMade keeps code how s first (take i rows) then
        → new ≡ record then { turned = new.turned; missed = new.missed; reads = new.reads }
        → IsPassOf s then
        → IsStrange s then why ⊎ IsUnrun {K = K} {V = V} {I = I} merges (Rmw row.0 row.1) (slice_index then.told (partition_of s.count (code row.0))) why
        → (why ≡ Stalled → new.turned ≡ s.turns)
        → AreCounted pages_keep (partition_of s.count (code row.0)) then.reads new.reads new.missed why
        → IsCutShort keeps code how s pages_keep first rows new why
    cut-at row d is pages_keep merges why made stands own only stalled counted = record {
      before = take i rows;
      row = row;
      behind = drop (suc i) rows;
      is = subst (λ r. rows ≡ take i rows ++ r ∷ drop (suc i) rows) (sym is) (split_at rows i d within);
      then = then;
      made = made;
      stands = stands;
      only = let op : KeyedOp K V I = Rmw row.0 row.1 in own-stopped s then merges op (slice_index then.told (partition_of s.count (code row.0))) why own refl only;
      stalled = stalled;
      counted = counted;
    }

-- one that was done in one hold of its partition's lock
module _ {K V I O : Type 0} (keeps : Bool) (code : K → ℕ) (how : Loads) (s : StoreView) (old new : PassView K V I O) where
  pub done-made : (row : K × I) (place : ℕ) (answer : Answer O) → place ≡ partition_of s.count (code row.0)
      → IsDone keeps old place (Rmw row.0 row.1) new answer
      → IsMade keeps code how s old row new
  done-made row place answer home done = record {
    ran = Rmw row.0 row.1;
    as_asked = runs-itself how (Rmw row.0 row.1) (Rmw row.0 row.1) refl;
    answer = answer;
    runs = subst (λ p. Runs keeps old new p (Rmw row.0 row.1) answer) home done.runs;
    room = done.room;
    within = omega (arith, done.turned);
    steady = rw done.reads (none-steady (partition_of s.count (code row.0)) old.reads new.missed done.missed);
  }

-- an operation that is done at once is of a key that belongs there, and the partition keeps its number
module _ {K V I O R : Type 0} (stands : R → Standing) (cmp : K → K → Ordering) (join : V → V → V) (f : Meanings K V I O) (code : K → ℕ)
    (old new : PartitionView K V I) (slot : ℕ) (op : KeyedOp K V I) (issued now : ℕ) (answer : Answer O)
    (done : IsDoneAtOnce stands cmp join f code old new slot op issued now answer) where
  pub done-home : partition_of old.count (code (key_of op)) ≡ old.number
  done-home = done.issue.own op (keyed-op op)

  pub done-number : (new.number ≡ old.number) × (new.count ≡ old.count)
  done-number = (done.event.frame.number ∙ done.issue.frame.number, done.event.frame.count ∙ done.issue.frame.count)
