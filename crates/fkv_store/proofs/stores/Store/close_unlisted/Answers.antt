use Rattle.std.proofs.Common.{Err, length, map, inl, inr, sym, ap, subst, ◌∙◌}
use Rattle.std.proofs.lemmas.List.{length-map}
use Rattle.fkv_functions.specs.declared.refusals.Refused.TheVariants as refused
use Rattle.fkv_closing.specs.Lists.{lists_of}
use Rattle.fkv_closing.specs.Closing.{AreMerged, AreNumbered}
use Rattle.fkv_store.specs.Stores.{AreReaders}
use Rattle.fkv_store.proofs.ClosingLemmas.{unsettled, same_refusal}
use Rattle.fkv_store.proofs.LeftLemmas.{unsettled_by}
use Rattle.fkv_store.proofs.stores.Store.close_unlisted.Goals as goal

pub returns-in-Err-clause-foreign : goal.returns-in-Err-clause-foreign
returns-in-Err-clause-foreign g c foreign =
    ap (λ e. Err e) (same_refusal c.leave.result c.in-Err.refused refused.Mismatch c.in-Err.is (c.leave.ensures.foreign foreign))

pub returns-in-Err-clause-worn : goal.returns-in-Err-clause-worn
returns-in-Err-clause-worn g c own over = inr (c.in-Err.ensures.known own)

pub returns-in-Err-close_unlisted-clause-worn : goal.returns-in-Err-close_unlisted-clause-worn
returns-in-Err-close_unlisted-clause-worn g c own over =
    inl (same_refusal c.close_unlisted.result c.in-Err-close_unlisted.refused refused.Worn c.in-Err-close_unlisted.is
    (c.close_unlisted.ensures.worn (inl (rw (c.as_slice.ensures.value, c.in-Ok.ensures.shares) over))))

pub returns-in-Err-close_unlisted-clause-only : goal.returns-in-Err-close_unlisted-clause-only
returns-in-Err-close_unlisted-clause-only g c = unsettled _ _ _ _ _ _ c.in-Err-close_unlisted.ensures.refused

pub returns-in-Ok-take_apart-clause-merged : goal.returns-in-Ok-take_apart-clause-merged
returns-in-Ok-take_apart-clause-merged g c =
    subst (λ hs. AreMerged hs (lists_of (map (λ pass. pass.own) c.args.passes.items)))
    (sym (c.in-Ok-take_apart.ensures.histories ∙ ap (λ v. map (λ part. part.history.items) v.items) c.in-Ok-close_unlisted.ensures.parts))
    (rw (← c.in-Ok.ensures.owns) c.in-Ok-close_unlisted.ensures.merged)

pub returns-in-Ok-take_apart-clause-partitions : goal.returns-in-Ok-take_apart-clause-partitions
returns-in-Ok-take_apart-clause-partitions g c =
    sym (length-map c.in-Ok-take_apart.field-0.partitions.items (λ part. part.partition))
    ∙ (ap length c.in-Ok-take_apart.ensures.partitions
    ∙ (length-map c.in-Ok-close_unlisted.settled.parts.items (λ part. part.partition)
    ∙ (ap (λ v. length v.items) c.in-Ok-close_unlisted.ensures.parts ∙ c.in-Ok.ensures.parts)))

pub returns-in-Ok-take_apart-clause-readers : goal.returns-in-Ok-take_apart-clause-readers
returns-in-Ok-take_apart-clause-readers g c =
    subst (AreReaders g.D.Reader.PageReader.part) (sym c.in-Ok-take_apart.ensures.readers) c.in-Ok.ensures.places

pub returns-in-Ok-take_apart-clause-len : goal.returns-in-Ok-take_apart-clause-len
returns-in-Ok-take_apart-clause-len g c =
    sym (length-map c.in-Ok-take_apart.field-0.histories.items (λ history. history.items))
    ∙ (ap length c.in-Ok-take_apart.ensures.histories
    ∙ (length-map c.in-Ok-close_unlisted.settled.parts.items (λ part. part.history.items)
    ∙ (ap (λ v. length v.items) c.in-Ok-close_unlisted.ensures.parts ∙ c.in-Ok.ensures.parts)))

pub returns-in-Err-clause-refused : goal.returns-in-Err-clause-refused
returns-in-Err-clause-refused g c own = inl (c.in-Err.ensures.known own)

pub returns-in-Err-close_unlisted-clause-refused : goal.returns-in-Err-close_unlisted-clause-refused
returns-in-Err-close_unlisted-clause-refused g c own =
    inr (unsettled_by (λ part. part.partition) (λ part. part.history.items) (λ part. part.book)
    g.F.Key.Ord.cmp g.F.Functions.meaning g.H.Recorder.keeps g.D.Receipt.Receipt.keeps _ c.in-Ok.left.parts.items c.in-Ok.ensures.parts c.in-Ok.ensures.ended
    (map (λ pass. pass.own) c.args.passes.items) (map (λ pass. pass.share) c.args.passes.items) c.in-Err-close_unlisted.refused
    (rw (← c.in-Ok.ensures.owns, ← c.in-Ok.ensures.shares, ← c.as_slice.ensures.value) c.in-Err-close_unlisted.ensures.refused))

pub returns-in-Ok-take_apart-clause-closed : goal.returns-in-Ok-take_apart-clause-closed
returns-in-Ok-take_apart-clause-closed g c k held =
    rw (c.in-Ok-take_apart.ensures.partitions ∙ ap (λ v. map (λ part. part.partition) v.items) c.in-Ok-close_unlisted.ensures.parts, c.in-Ok-take_apart.ensures.histories ∙ ap (λ v. map (λ part. part.history.items) v.items) c.in-Ok-close_unlisted.ensures.parts, ← c.in-Ok.ensures.owns, ← c.in-Ok.ensures.shares, ← c.as_slice.ensures.value)
    (c.in-Ok-close_unlisted.ensures.closed k held)

pub returns-in-Ok-take_apart-clause-numbered : goal.returns-in-Ok-take_apart-clause-numbered
returns-in-Ok-take_apart-clause-numbered g c =
    subst AreNumbered (sym (c.in-Ok-take_apart.ensures.partitions ∙ ap (λ v. map (λ part. part.partition) v.items) c.in-Ok-close_unlisted.ensures.parts)) c.in-Ok-close_unlisted.ensures.numbered

pub returns-in-Ok-take_apart-clause-shared : goal.returns-in-Ok-take_apart-clause-shared
returns-in-Ok-take_apart-clause-shared g c = rw (← c.in-Ok.ensures.shares, ← c.as_slice.ensures.value) c.in-Ok-close_unlisted.ensures.shared

pub returns-in-Ok-take_apart-clause-foreign : goal.returns-in-Ok-take_apart-clause-foreign
returns-in-Ok-take_apart-clause-foreign g c = λ foreign. absurd (foreign c.in-Ok.ensures.own)

pub returns-in-Err-take_apart-clause-foreign : goal.returns-in-Err-take_apart-clause-foreign
returns-in-Err-take_apart-clause-foreign g c = λ foreign. absurd (foreign c.in-Ok.ensures.own)

pub returns-in-Err-take_apart-clause-worn : goal.returns-in-Err-take_apart-clause-worn
returns-in-Err-take_apart-clause-worn g c own over = inr (inl c.in-Err-take_apart.ensures.only)

pub returns-in-Err-take_apart-clause-refused : goal.returns-in-Err-take_apart-clause-refused
returns-in-Err-take_apart-clause-refused g c own = inl (inl c.in-Err-take_apart.ensures.only)

pub returns-in-Err-close_unlisted-clause-foreign : goal.returns-in-Err-close_unlisted-clause-foreign
returns-in-Err-close_unlisted-clause-foreign g c = λ foreign. absurd (foreign c.in-Ok.ensures.own)
