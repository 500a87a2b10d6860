use Rattle.std.proofs.Common.{◌≡◌, ◌∙◌, refl}
use Rattle.fkv_records.specs.Places.{page_at}
use Rattle.fkv_partition.proofs.partitions.Partition.truncate_cleared.Goals as goal

pub returns-in-Err-clause-effect : goal.returns-in-Err-clause-effect
returns-in-Err-clause-effect g c =
    let page : c.page_of-page.result ≡ page_at c.args.self.now.records.log.bits c.args.self.now.cleared = c.page_of-page.ensures ∙ (rw (c.records.ensures, c.cleared.ensures) refl) in
    rw page at c.in-Err.ensures.effect

pub returns-clause-effect : goal.returns-clause-effect
returns-clause-effect g c =
    let page : c.page_of-page.result ≡ page_at c.args.self.now.records.log.bits c.args.self.now.cleared = c.page_of-page.ensures ∙ (rw (c.records.ensures, c.cleared.ensures) refl) in
    rw page at c.in-Ok.ensures.effect

pub returns-clause-begin : goal.returns-clause-begin
returns-clause-begin g c =
    let page : c.page_of-page.result ≡ page_at c.args.self.now.records.log.bits c.args.self.now.cleared = c.page_of-page.ensures ∙ (rw (c.records.ensures, c.cleared.ensures) refl) in
    let event = rw page at c.in-Ok.ensures.event in
    (c.begin.ensures, c.begin.ensures ∙ event.begin)

pub returns-clause-event : goal.returns-clause-event
returns-clause-event g c =
    let page : c.page_of-page.result ≡ page_at c.args.self.now.records.log.bits c.args.self.now.cleared = c.page_of-page.ensures ∙ (rw (c.records.ensures, c.cleared.ensures) refl) in
    rw page at c.in-Ok.ensures.event
