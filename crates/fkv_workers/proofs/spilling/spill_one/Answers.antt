use Rattle.std.proofs.Common.{refl, sym}
use Rattle.fkv_spills.proofs.SpillLemmas.{unreadable-weaker}
use Rattle.fkv_workers.specs.Spilling.{IsUnspilled}
use Rattle.fkv_workers.proofs.ListingLemmas.{run_made}
use Rattle.fkv_workers.proofs.spilling.spill_one.Goals as goal

pub returns-in-Ok-of-clause-ok : goal.returns-in-Ok-of-clause-ok
returns-in-Ok-of-clause-ok g c keeps = record {
  pairs = _;
  has = (c.in-Ok-of.ensures.ok _ keeps (c.in-Ok-of_home.ensures.ok keeps), c.in-Ok-of_home.ensures.len);
  run =
      run_made g.D.Receipt.Receipt.keeps g.F.Functions.code c.args.part.partition c.number-number.result c.count-count.result c.in-Ok.listed.map.entries _
      c.number-number.ensures c.count-count.ensures refl c.len-ordered.ensures.ordered (λ kept. c.in-Ok.ensures.list kept);
}

pub returns-in-Err-clause-refused : goal.returns-in-Err-clause-refused
returns-in-Err-clause-refused g c =
    IsUnspilled.unlisted
    (record { now = c.in-Err.ensures.refused.0; scan = c.in-Err.ensures.refused.1; caused = c.in-Err.ensures.caused })

pub returns-in-Err-of_home-clause-refused : goal.returns-in-Err-of_home-clause-refused
returns-in-Err-of_home-clause-refused g c =
    IsUnspilled.unwritten c.in-Err-of_home.ensures.refused.0 _ _ c.in-Err-of_home.ensures.refused.1

pub returns-clause-refused : goal.returns-clause-refused
returns-clause-refused g c =
    let told = c.in-Err-of.ensures.told in
    IsUnspilled.unread told.0
    (unreadable-weaker _ _ _ _ _ c.in-Err-of.refused (sym c.in-Ok.ensures.steady) (λ keeps. (_, keeps, c.in-Ok-of_home.ensures.ok keeps)) told.1)
    (λ keeps. c.in-Err-of.ensures.caused _ keeps (c.in-Ok-of_home.ensures.ok keeps))
