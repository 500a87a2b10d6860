use Rattle.std.proofs.Common.{Err, length, map, inl, inr, sym, ap, ◌∙◌}
use Rattle.std.proofs.lemmas.List.{length-map}
use Rattle.fkv_functions.specs.declared.refusals.Refused.TheVariants as refused
use Rattle.fkv_closing.specs.Refusing.{IsUnclosed}
use Rattle.fkv_store.proofs.ClosingLemmas.{unclosed, ending_closing, same_refusal}
use Rattle.fkv_store.proofs.LeftLemmas.{unclosed_by}
use Rattle.fkv_store.proofs.stores.Store.close.Goals as goal

pub returns-in-Ok-close_parts-clause-closed : goal.returns-in-Ok-close_parts-clause-closed
returns-in-Ok-close_parts-clause-closed g c k held =
    rw (← c.in-Ok.ensures.owns, ← c.in-Ok.ensures.shares, ← c.as_slice.ensures.value)
    (c.in-Ok-close_parts.ensures.closed k held)

pub returns-in-Ok-close_parts-clause-shared : goal.returns-in-Ok-close_parts-clause-shared
returns-in-Ok-close_parts-clause-shared g c =
    rw (← c.in-Ok.ensures.shares, ← c.as_slice.ensures.value) c.in-Ok-close_parts.ensures.shared

pub returns-in-Ok-close_parts-clause-merged : goal.returns-in-Ok-close_parts-clause-merged
returns-in-Ok-close_parts-clause-merged g c = rw (← c.in-Ok.ensures.owns) c.in-Ok-close_parts.ensures.merged

pub returns-in-Ok-close_parts-clause-len : goal.returns-in-Ok-close_parts-clause-len
returns-in-Ok-close_parts-clause-len g c =
    sym (length-map c.in-Ok-close_parts.closed.histories.items (λ history. history.items))
    ∙ (ap length c.in-Ok-close_parts.ensures.histories
    ∙ (length-map c.in-Ok.left.parts.items (λ part. part.history.items) ∙ c.in-Ok.ensures.parts))

pub returns-clause-only : goal.returns-clause-only
returns-clause-only g c = unclosed _ _ _ _ _ _ _ _ c.in-Err-close_parts.refused c.in-Err-close_parts.ensures.refused

pub returns-in-Err-clause-only : goal.returns-in-Err-clause-only
returns-in-Err-clause-only g c = ending_closing c.in-Err.refused c.in-Err.ensures.only

pub returns-in-Err-clause-foreign : goal.returns-in-Err-clause-foreign
returns-in-Err-clause-foreign g c foreign =
    ap (λ e. Err e) (same_refusal c.leave.result c.in-Err.refused refused.Mismatch c.in-Err.is (c.leave.ensures.foreign foreign))

pub returns-in-Err-clause-worn : goal.returns-in-Err-clause-worn
returns-in-Err-clause-worn g c own over = inr (c.in-Err.ensures.known own)

pub returns-clause-worn : goal.returns-clause-worn
returns-clause-worn g c own over =
    inl (same_refusal c.close_parts.result c.in-Err-close_parts.refused refused.Worn c.in-Err-close_parts.is
    (c.close_parts.ensures.worn (inl (rw (c.as_slice.ensures.value, c.in-Ok.ensures.shares) over))))

pub returns-in-Err-clause-refused : goal.returns-in-Err-clause-refused
returns-in-Err-clause-refused g c own = inl (c.in-Err.ensures.known own)

pub returns-clause-refused : goal.returns-clause-refused
returns-clause-refused g c own =
    inr (unclosed_by (λ part. part.partition) (λ part. part.history.items) (λ part. part.book)
    g.F.Key.Ord.cmp g.F.Functions.meaning g.H.Recorder.keeps g.D.Receipt.Receipt.keeps _ c.in-Ok.left.parts.items c.in-Ok.ensures.parts c.in-Ok.ensures.ended
    (map (λ pass. pass.own) c.args.passes.items) (map (λ pass. pass.share) c.args.passes.items) c.in-Err-close_parts.refused _ _
    (rw (c.as_slice.ensures.value, c.in-Ok.ensures.shares, c.in-Ok.ensures.owns) at c.in-Err-close_parts.ensures.refused))

pub returns-in-Ok-close_parts-clause-foreign : goal.returns-in-Ok-close_parts-clause-foreign
returns-in-Ok-close_parts-clause-foreign g c = λ foreign. absurd (foreign c.in-Ok.ensures.own)

pub returns-clause-foreign : goal.returns-clause-foreign
returns-clause-foreign g c = λ foreign. absurd (foreign c.in-Ok.ensures.own)
