use Rattle.std.proofs.Common.{length, refl, ap, ◌∙◌, subst}
use Rattle.fkv_spills.specs.Reading.{IsLeft}
use Rattle.fkv_feeds.specs.Faults.{IsDeviceFault}
use Rattle.fkv_feeds.specs.Spilling.{IsSpillFault}
use Rattle.fkv_feeds.proofs.FeedsLemmas.{both_ok}
use Rattle.fkv_feeds.proofs.TableLemmas.{next-run}
use Rattle.fkv_feeds.proofs.spilling.next_part.Goals as goal

pub returns-in-Err-clause-told : goal.returns-in-Err-clause-told
returns-in-Err-clause-told g c =
    let t = c.in-Err.ensures.told in
    IsSpillFault.unmade (IsDeviceFault.unlisted _ _ t.reader t.reader_now t.refused c.in-Err.ensures.caused)

pub returns-clause-ok : goal.returns-clause-ok
returns-clause-ok g c keeps =
    let pairs = c.in-Ok-Some.map.entries in
    let same = next-run g.F.Functions.code c.args.lists.now c.next.new.self _ _ pairs _ c.in-Ok-Some.ensures.after refl refl refl in
    both_ok _ c.spilled.result (c.spilled.ensures.ok keeps) c.spilled.ensures.len
    (λ part is long. (
      pairs,
      subst (IsLeft g.F.Value.Fixed.codec g.D.Receipt.Receipt.keeps g.D.Receipt.Receipt.stands part.rest) same is,
      long ∙ ap length same,
      c.len-ordered.ensures.ordered,
      (rw c.in-Ok-Some.field-0-is at (c.in-Ok-Some.ensures.list keeps)),
    ))
