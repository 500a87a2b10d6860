use Rattle.std.proofs.Common.{map, sum, sum_by, sym, ap, subst, ◌∙◌}
use Rattle.std.specs.BTreeMap.{get}
use Rattle.fkv_functions.specs.Plain.{Same}
use Rattle.fkv_partition.specs.Unions.{union_of}
use Rattle.fkv_closing.specs.Lists.{lists_of}
use Rattle.fkv_closing.specs.Closing.{AreMerged}
use Rattle.fkv_closing.specs.Refusing.{IsUnread}
use Rattle.fkv_closing.proofs.RefusingLemmas.{from_unread}
use Rattle.fkv_closing.proofs.ClosedLemmas.{closed_by}
use Rattle.fkv_closing.proofs.closing.close_parts.Goals as goal

pub returns-in-Err-live-clause-refused : goal.returns-in-Err-live-clause-refused
returns-in-Err-live-clause-refused g c =
    let same = c.as_slice.ensures.value ∙ ap (λ v. v.items) c.in-Ok.ensures.parts in
    let old = map g.P.PageReader.failures c.args.readers.now in
    let new = map g.P.PageReader.failures c.live.new.readers in
    from_unread g.R.Receipt.keeps (map (λ part. part.partition) c.args.parts.items) (map (λ part. part.history.items) c.args.parts.items)
    (lists_of (map (λ own. map g.H.Recorder.entries own.items) c.args.owns.items)) (sum c.args.shares.now) (sum_by (λ part. part.book) c.args.parts.items) old new
    c.in-Ok.ensures.merged c.in-Err-live.refused
    (subst (λ parts. IsUnread g.R.Receipt.keeps (map (λ part. part.partition) parts) old new c.in-Err-live.refused) same c.in-Err-live.ensures.unread)

pub returns-in-Ok-histories_of-clause-closed : goal.returns-in-Ok-histories_of-clause-closed
returns-in-Ok-histories_of-clause-closed g c told keeps =
    let same = c.as_slice.ensures.value ∙ ap (λ v. v.items) c.in-Ok.ensures.parts in
    closed_by g.F.Key.Ord.cmp g.F.Functions.meaning g.F.Functions.code (map (λ own. map g.H.Recorder.entries own.items) c.args.owns.items) c.args.shares.now
    (union_of g.F.Key.Ord.cmp g.F.Functions.code (map (λ part. part.partition) c.args.parts.items)) (get g.F.Key.Ord.cmp c.in-Ok-live.map)
    (map (λ part. part.history.items) c.args.parts.items) (map (λ history. history.items) c.in-Ok-histories_of.histories.items) c.in-Ok.settled.finished
    (c.in-Ok-histories_of.ensures.ok ∙ ap (λ v. map (λ part. part.history.items) v.items) c.in-Ok.ensures.parts)
    (subst (λ parts. Same (get g.F.Key.Ord.cmp c.in-Ok-live.map) (union_of g.F.Key.Ord.cmp g.F.Functions.code (map (λ part. part.partition) parts))) same
    (c.in-Ok-live.ensures.map keeps))
    (c.in-Ok.ensures.closed told keeps)

pub returns-in-Ok-histories_of-clause-merged : goal.returns-in-Ok-histories_of-clause-merged
returns-in-Ok-histories_of-clause-merged g c =
    subst (λ histories. AreMerged histories (lists_of (map (λ own. map g.H.Recorder.entries own.items) c.args.owns.items)))
    (sym (c.in-Ok-histories_of.ensures.ok ∙ ap (λ v. map (λ part. part.history.items) v.items) c.in-Ok.ensures.parts)) c.in-Ok.ensures.merged
