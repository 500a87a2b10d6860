-- Rows that a pass made.
use Rattle.std.proofs.Common.{◌≡◌, ◌∙◌, ◌⊎◌, inl, inr, ℕ, ℤ, Bool, List, [], ◌∷◌, ◌++◌, Some, length, refl, sym, ap, subst, append_assoc}
use Rattle.std.specs.Prelude.{FitsSigned}
use Rattle.std.specs.Int.{w64}
use Rattle.std.specs.List.{All}
use Rattle.std.proofs.lemmas.List.{append-nil, length-set}
use Rattle.std.proofs.lemmas.List.Elements.{All-head, All-tail}
use Rattle.fkv_functions.specs.declared.names.Name.{Name}
use Rattle.fkv_functions.specs.declared.refusals.Refused.{Refused}
use Rattle.fkv_operations.specs.After.{is_merge}
use Rattle.fkv_partition.specs.Views.{partition_of}
use Rattle.fkv_feeds.specs.declared.counting.RowMode.{RowMode}
use Rattle.fkv_feeds.specs.declared.counting.RowMode.TheVariants.{Update, Merge}
use Rattle.fkv_store.specs.declared.running.Loads.{Loads}
use Rattle.fkv_store.specs.Stores.{StoreView, IsTold}
use Rattle.fkv_store.specs.Passes.{PassView, IsUpdateBy, Answers, IsStrange}
use Rattle.fkv_store.specs.Rows.{IsMade, AreMade, IsCutShort}
use Rattle.fkv_store.proofs.StopLemmas.{strange_told, stopped_told}
use Rattle.fkv_workers.specs.Works.{Makes, StandsFor, loads_of}
use Rattle.fkv_workers.proofs.SplitLemmas.{stands_more}

module _ {V O : Type 0} (keeps : Bool) (code : Name → ℕ) where
  module _ (s : StoreView) (old new : PassView Name V ℤ O) (row : Name × ℤ) where
    -- by one entry
    answered : (how : Loads) → (h : IsMade keeps code how s old row new)
        → Answers keeps old new (partition_of s.count (code row.0)) h.runs.0.op h.runs.0.answer h.runs.0
    answered how h = record {
      op_is = refl;
      answer_is = refl;
      fresh = h.runs.1.fresh;
      own_is = h.runs.1.own_is;
      told_is = h.runs.1.told_is;
      share_is = h.runs.1.share_is;
      last_is = h.runs.1.last_is ∙ ap Some (sym h.runs.1.answer_is);
      store_is = h.runs.1.store_is;
      sized = h.runs.1.sized;
    }

    -- of an update, or where the mode asks for merges of either
    makes_one : (mode : RowMode) → IsMade keeps code (loads_of mode) s old row new
        → Makes mode keeps old new (partition_of s.count (code row.0)) row.0 row.1
    makes_one Update h = record {
      entry = h.runs.0;
      of_row = inl (h.runs.1.op_is ∙ h.as_asked);
      by_mode = λ update. ap is_merge (h.runs.1.op_is ∙ h.as_asked);
      answers = answered (loads_of Update) h;
    }
    makes_one Merge h = record {
      entry = h.runs.0;
      of_row = subst (IsUpdateBy row.0 row.1) (sym h.runs.1.op_is) h.as_asked;
      by_mode = λ update. absurd (cc);
      answers = answered (loads_of Merge) h;
    }

  -- row after row
  pub stands_all : (mode : RowMode) (s : StoreView) (old new : PassView Name V ℤ O) (rows before : List (Name × ℤ)) → length old.told ≡ s.count
      → All (λ r. FitsSigned w64 r.1) rows
      → AreMade keeps code (loads_of mode) s old rows new
      → StandsFor keeps code mode old before
      → StandsFor keeps code mode new (before ++ rows)
  stands_all mode s old new [] before sized fit same h = rw (append-nil before) (subst (λ p. StandsFor keeps code mode p before) (sym same) h)
  stands_all mode s old new (row ∷ rows) before sized fit made h =
      let then = made.0 in
      let one = makes_one s old then row mode made.1 in
      let long : length then.told ≡ s.count = ap length one.answers.told_is ∙ (length-set _ _ _ ∙ sized) in
      let next = stands_more keeps code mode old then s.count row.0 row.1 before sized (All-head (λ r. FitsSigned w64 r.1) row rows fit) one h in
      subst (StandsFor keeps code mode new) (append_assoc before (row ∷ []) rows)
      (stands_all mode s then new rows (before ++ row ∷ []) long (All-tail (λ r. FitsSigned w64 r.1) row rows fit) made.2 next)

  module _ (how : Loads) (s : StoreView) where
    -- it has as many partitions as before
    pub long_all : (old new : PassView Name V ℤ O) (rows : List (Name × ℤ)) → AreMade keeps code how s old rows new → length new.told ≡ length old.told
    long_all old new [] same = ap (λ (p : PassView Name V ℤ O). length p.told) same
    long_all old new (row ∷ rows) made = long_all made.0 new rows made.2 ∙ (ap length made.1.runs.1.told_is ∙ length-set _ _ _)

    -- why not all were made
    pub all_told : (pages_keep : Bool) (old new : PassView Name V ℤ O) (rows : List (Name × ℤ)) (why : Refused)
        → (IsStrange s old why × (new ≡ old)) ⊎ IsCutShort keeps code how s pages_keep old rows new why
        → IsTold why
    all_told pages_keep old new rows why (inl h) = strange_told s old why h.0
    all_told pages_keep old new rows why (inr h) = stopped_told _ why h.only
