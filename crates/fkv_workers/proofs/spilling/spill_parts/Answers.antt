use Rattle.std.proofs.Common.{inl, inr, map}
use Rattle.fkv_functions.specs.Names.{name_cmp}
use Rattle.fkv_runs.specs.Merging.{merged}
use Rattle.fkv_workers.specs.Spilling.{IsUnspilled}
use Rattle.fkv_workers.proofs.ListingLemmas.{table_rises, table_has}
use Rattle.fkv_workers.proofs.SpillLemmas.{runs_spilled, first_unspilled}
use Rattle.fkv_workers.proofs.spilling.spill_parts.Goals as goal

pub returns-in-Ok-merged_of-clause-ok : goal.returns-in-Ok-merged_of-clause-ok
returns-in-Ok-merged_of-clause-ok g c kept =
    let keeps = g.D.Receipt.Receipt.keeps in
    let code = g.F.Functions.code in
    let views = map (λ part. part.partition) c.args.parts.items in
    let found = runs_spilled g.F.Value.Fixed.codec keeps g.D.Receipt.Receipt.stands code (λ spilling. spilling.part) (λ part. part.partition) (λ part. IsUnspilled g.D.Receipt.Receipt.keeps g.D.Receipt.Receipt.stands g.D.Reader.PageReader.can_fail g.D.Reader.PageReader.failures g.D.Writer.PageWriter.failures part.partition part.reader)
    c.in-Ok.spillings.items c.args.parts.items c.in-Ok-run_spread.results.items c.in-Ok.ensures.ok c.in-Ok-run_spread.ensures.ok c.in-Ok-runs_of.spilled.items c.in-Ok-runs_of.ensures.ok kept in
    let table = c.in-Ok-merged_of.ensures.ok found.lists found.held in (
      merged name_cmp found.lists,
      table.0,
      table.1,
      table_rises keeps code views found.lists c.requires.numbered found.runs,
      λ k. table_has keeps code views found.lists c.requires.numbered found.runs kept k,
    )

pub returns-in-Err-runs_of-clause-refused : goal.returns-in-Err-runs_of-clause-refused
returns-in-Err-runs_of-clause-refused g c = elim c.in-Err-runs_of.ensures.refused [
  | inl memory ↦ inl memory
  | inr first ↦
      inr (inr (first_unspilled g.F.Value.Fixed.codec g.D.Receipt.Receipt.keeps g.D.Receipt.Receipt.stands g.F.Functions.code (λ spilling. spilling.part) (λ part. part.partition) (λ part. IsUnspilled g.D.Receipt.Receipt.keeps g.D.Receipt.Receipt.stands g.D.Reader.PageReader.can_fail g.D.Reader.PageReader.failures g.D.Writer.PageWriter.failures part.partition part.reader)
      c.in-Ok.spillings.items c.args.parts.items c.in-Ok-run_spread.results.items c.in-Ok.ensures.ok c.in-Ok-run_spread.ensures.ok c.in-Err-runs_of.refused first))
]

pub returns-in-Err-merged_of-clause-refused : goal.returns-in-Err-merged_of-clause-refused
returns-in-Err-merged_of-clause-refused g c = elim c.in-Err-merged_of.ensures.only [ inl memory ↦ inl memory | inr worn ↦ inr (inl worn) ]
