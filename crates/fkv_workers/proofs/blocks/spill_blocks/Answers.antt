use Rattle.std.proofs.Common.{◌≡◌, Err, ap, inl, inr, map}
use Rattle.fkv_functions.specs.declared.refusals.Refused.TheVariants.{BadConfig}
use Rattle.fkv_feeds.specs.Spilling.{HasTableOf}
use Rattle.fkv_workers.specs.Spilling.{IsSpilledFrom}
use Rattle.fkv_workers.proofs.BlockLemmas.{on_err, on_ok}
use Rattle.fkv_workers.proofs.blocks.spill_blocks.Goals as goal

pub returns-clause-ok : goal.returns-clause-ok
returns-clause-ok g c keeps held =
    let shared = c.in-Ok.ensures.shared keeps in
    on_ok c.spilled.result _
    (HasTableOf g.F.Value.Fixed.codec g.D.Receipt.Receipt.keeps g.D.Receipt.Receipt.stands g.F.Functions.meaning (map g.S.Source.remaining c.args.feeds.now.items)) (c.spilled.ensures.table keeps held)
    (λ run table. table (map g.S.Source.remaining c.args.feeds.now.items) shared.shares shared.fed shared.kept)

pub returns-clause-made : goal.returns-clause-made
returns-clause-made g c keeps held =
    on_ok c.spilled.result _
    (IsSpilledFrom g.F.Value.Fixed.codec g.D.Receipt.Receipt.keeps g.D.Receipt.Receipt.stands g.F.Functions.meaning g.F.Functions.code c.args.mode (map g.S.Source.remaining c.args.feeds.now.items))
    (c.spilled.ensures.closed keeps held)
    (λ run found. record {
      pairs = found.0;
      come = found.1;
      made = record { passes = c.in-Ok.filled.passes.items; histories = found.2; shared = c.in-Ok.ensures.shared keeps; closed = found.3 };
    })

pub returns-in-Err-clause-refused : goal.returns-in-Err-clause-refused
returns-in-Err-clause-refused g c = inr c.in-Err.ensures.refused

pub returns-clause-refused : goal.returns-clause-refused
returns-clause-refused g c =
    on_err c.spilled.result _ _ c.spilled.ensures.refused (λ e ending. inl ending)

pub returns-in-Err-clause-good : goal.returns-in-Err-clause-good
returns-in-Err-clause-good g c k =
    c.in-Err.ensures.good (λ e. let same : c.in-Err.refused ≡ BadConfig = cc in k (ap Err same))
