use Rattle.std.proofs.Common.{◌≡◌, ◌∙◌, [], length, None, rules, sym, ap}
use Rattle.std.proofs.lemmas.List.{length-map, length-replicate}
use Rattle.fkv_store.proofs.stores.Store.pass.Goals as goal

pub invariant_of-result : goal.invariant_of-result
invariant_of-result g c =
    let count = c.len-count.result in
    let own : length c.in-Ok-fresh.owns.lists ≡ count =
    sym (length-map c.in-Ok-fresh.owns.lists g.H.Recorder.entries) ∙ (ap length c.in-Ok-fresh.ensures.lists ∙ length-replicate count []) in (
      ap length c.in-Ok-fresh.ensures.told ∙ (length-replicate count 0 ∙ sym own),
      ap length c.in-Ok-no_sessions.ensures.ok ∙ (length-replicate count None ∙ sym own),
      ap length c.in-Ok-zeros.ensures.ok ∙ (length-replicate count 0 ∙ sym own),
      c.in-Ok.ensures.ok ∙ sym own,
    )

pub returns-clause-reads : goal.returns-clause-reads
returns-clause-reads g c =
    let many : c.len-count.result ≡ c.args.self.now.count = search rules in
    length-map c.in-Ok.readers.items g.D.Reader.PageReader.failures ∙ (c.in-Ok.ensures.ok ∙ many)
