-- An open operation over each change of its context.
use Rattle.std.proofs.Common.{◌≡◌, ℕ, ◌<◌, Option, Some, None, option_map, refl, ◌∙◌, ap, arith}
use Rattle.fkv_regions.specs.RegionsView.{RegionsView}
use Rattle.fkv_operations.specs.declared.operations.KeyedOp.{KeyedOp}
use Rattle.fkv_lookups.specs.RecordsViews.{RecordsView}
use Rattle.fkv_partition.specs.declared.contexts.Context.{Context}
use Rattle.fkv_partition.specs.Contexts.{context_in, on_key}
use Rattle.fkv_partition.specs.Views.{PartitionView, context_at, with_context}
use Rattle.fkv_partition.specs.KeyEffect.{asked_by, LeavesOthers}
use Rattle.fkv_partition.proofs.AskedLemmas.{context-same, asked-other}
use Rattle.fkv_alone.specs.Stages.{IsOpen}
use Rattle.fkv_alone.specs.Ending.{IsOver}

-- the view with another operation, or none, in a context, and other records of the same log
abbrev pub with_both : {K V I : Type 0} → PartitionView K V I → ℕ → ℕ → Option (Context K V I) → ℕ → RecordsView K V → PartitionView K V I
with_both v slot c y now r = record (with_context v slot c y now) { records = r }

module _ {K V I : Type 0} (v : PartitionView K V I) (slot c now : ℕ) (x : Context K V I) (h : context_at v slot c ≡ Some x) (y : Option (Context K V I)) (r : RecordsView K V) (regions : r.log.regions ≡ v.records.log.regions) where
  -- the changed context
  pub set-here : context_at (with_both v slot c y now r) slot c ≡ y
  set-here =
      ap (λ (g : RegionsView). on_key (context_in g.epochs.slots (with_context v slot c y now).contexts slot c)) regions
      ∙ context-same v slot c now x h y

  -- and every other one
  pub set-frame : r.log.begin ≡ v.records.log.begin → LeavesOthers v (with_both v slot c y now r) slot c now
  set-frame begin = record {
    others = λ s d other.
        ap (λ (g : RegionsView). option_map asked_by (on_key (context_in g.epochs.slots (with_context v slot c y now).contexts s d))) regions
        ∙ asked-other v slot c now x h y s d other;
    number = refl;
    count = refl;
    begin = begin;
    regions = regions;
    rises = omega arith;
    moment = refl;
  }

module _ {K V I : Type 0} where
  -- what two events one after the other leave
  pub leaves-then : (a b d : PartitionView K V I) (slot c m n : ℕ) → LeavesOthers a b slot c m → LeavesOthers b d slot c n → LeavesOthers a d slot c n
  leaves-then a b d slot c m n f g = record {
    others = λ s e other. g.others s e other ∙ f.others s e other;
    number = g.number ∙ f.number;
    count = g.count ∙ f.count;
    begin = g.begin ∙ f.begin;
    regions = g.regions ∙ f.regions;
    rises = omega arith;
    moment = g.moment;
  }

  -- the moment is the partition's own
  pub leaves-own : (a b : PartitionView K V I) (slot c m : ℕ) → LeavesOthers a b slot c m → LeavesOthers a b slot c b.moment
  leaves-own a b slot c m f = record { others = f.others; number = f.number; count = f.count; begin = f.begin; regions = f.regions; rises = f.rises; moment = refl }

  pub leaves-self : (v : PartitionView K V I) (slot c : ℕ) → LeavesOthers v v slot c v.moment
  leaves-self v slot c = record { others = λ s d other. refl; number = refl; count = refl; begin = refl; regions = refl; rises = omega arith; moment = refl }

  -- what two events leave, from the first partition
  pub frames : (old v w : PartitionView K V I) (slot c now : ℕ) → LeavesOthers old v slot c v.moment → LeavesOthers v w slot c now → LeavesOthers old w slot c w.moment
  frames old v w slot c now f g = leaves-own old w slot c now (leaves-then old v w slot c v.moment now f g)

  module _ (op : KeyedOp K V I) (old v : PartitionView K V I) (slot c started : ℕ) (x : Context K V I) (o : IsOpen op old v slot c started x) where
    -- it stays open, its own number and operation with it
    pub open-on : (w : PartitionView K V I) (now : ℕ) (y : Context K V I) → v.moment < now → context_at w slot c ≡ Some y → y.number ≡ x.number → y.op ≡ x.op → w.records ≡ record v.records { words = w.records.words } → LeavesOthers v w slot c now
        → IsOpen op old w slot c started y
    open-on w now y later here number same records f = record {
      here = here;
      number = number ∙ o.number;
      op_is = same ∙ o.op_is;
      records = records ∙ ap (λ (r : RecordsView K V). record r { words = w.records.words }) o.records;
      begun = let m = f.moment in let b = o.begun in omega arith;
      frame = frames old v w slot c now o.frame f;
    }

    -- a moment passes
    pub open-pass : (now : ℕ) → v.moment < now → IsOpen op old (record v { moment = now }) slot c started x
    open-pass now later = open-on (record v { moment = now }) now x later o.here refl refl refl (record { others = λ s d other. refl; number = refl; count = refl; begin = refl; regions = refl; rises = omega arith; moment = refl })

    -- it moves to another phase
    pub open-set : (now : ℕ) (y : Context K V I) (r : RecordsView K V) → v.moment < now → y.number ≡ x.number → y.op ≡ x.op → r ≡ record v.records { words = r.words }
        → IsOpen op old (with_both v slot c (Some y) now r) slot c started y
    open-set now y r later number same records =
        let regions : r.log.regions ≡ v.records.log.regions = ap (λ (z : RecordsView K V). z.log.regions) records in
        let begin : r.log.begin ≡ v.records.log.begin = ap (λ (z : RecordsView K V). z.log.begin) records in
        open-on (with_both v slot c (Some y) now r) now y later (set-here v slot c now x o.here (Some y) r regions) number same records (set-frame v slot c now x o.here (Some y) r regions begin)

    -- it is over
    pub open-over : (now : ℕ) → IsOver old (with_context v slot c None now) slot c
    open-over now = record {
      closed = set-here v slot c now x o.here None v.records refl;
      records = o.records;
      frame = frames old v (with_context v slot c None now) slot c now o.frame (set-frame v slot c now x o.here None v.records refl refl);
    }
