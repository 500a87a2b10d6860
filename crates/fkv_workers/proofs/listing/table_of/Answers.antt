use Rattle.std.proofs.Common.{inl, inr, map, ap, ◌∙◌}
use Rattle.std.specs.BTreeMap.{is_at}
use Rattle.std.specs.Map.{lookup}
use Rattle.std.proofs.lemmas.Result.{IfOk-weaker}
use Rattle.fkv_functions.specs.Names.{name_cmp}
use Rattle.fkv_store.specs.Stores.{IsUnlisted}
use Rattle.fkv_workers.specs.Listing.{IsRunless}
use Rattle.fkv_workers.proofs.ListingLemmas.{runs_listed, table_rises, table_has, first_refused}
use Rattle.fkv_workers.proofs.listing.table_of.Goals as goal

pub new-requires : goal.new-requires
new-requires g c =
    let keeps = g.D.Receipt.Receipt.keeps in
    let code = g.F.Functions.code in
    let runs = c.in-Ok-runs_of.runs.items in
    let each = runs_listed keeps code (λ listing. listing.part) (λ part. part.partition) (λ part. IsRunless g.D.Receipt.Receipt.keeps g.D.Receipt.Receipt.stands g.D.Reader.PageReader.can_fail g.D.Reader.PageReader.failures part.partition part.reader) IsUnlisted
    c.in-Ok.listings.items c.args.parts.items c.in-Ok-run_spread.results.items c.in-Ok.ensures.ok c.in-Ok-run_spread.ensures.ok runs c.in-Ok-runs_of.ensures.ok in
    record { rising = table_rises keeps code (map (λ part. part.partition) c.args.parts.items) runs c.requires.numbered each }

pub returns-in-Ok-runs_of-clause-value : goal.returns-in-Ok-runs_of-clause-value
returns-in-Ok-runs_of-clause-value g c kept =
    let keeps = g.D.Receipt.Receipt.keeps in
    let code = g.F.Functions.code in
    let runs = c.in-Ok-runs_of.runs.items in
    let each = runs_listed keeps code (λ listing. listing.part) (λ part. part.partition) (λ part. IsRunless g.D.Receipt.Receipt.keeps g.D.Receipt.Receipt.stands g.D.Reader.PageReader.can_fail g.D.Reader.PageReader.failures part.partition part.reader) IsUnlisted
    c.in-Ok.listings.items c.args.parts.items c.in-Ok-run_spread.results.items c.in-Ok.ensures.ok c.in-Ok-run_spread.ensures.ok runs c.in-Ok-runs_of.ensures.ok in
    IfOk-weaker c.new.result _ _
    (λ table is k.
    ap (lookup (is_at (name_cmp k))) is
    ∙ table_has keeps code (map (λ part. part.partition) c.args.parts.items) runs c.requires.numbered each kept k)
    c.new.ensures.pairs

pub returns-in-Err-runs_of-clause-refused : goal.returns-in-Err-runs_of-clause-refused
returns-in-Err-runs_of-clause-refused g c = elim c.in-Err-runs_of.ensures.refused [
  | inl memory ↦ inl memory
  | inr first ↦
      (first_refused g.D.Receipt.Receipt.keeps g.F.Functions.code (λ listing. listing.part) (λ part. part.partition) (λ part. IsRunless g.D.Receipt.Receipt.keeps g.D.Receipt.Receipt.stands g.D.Reader.PageReader.can_fail g.D.Reader.PageReader.failures part.partition part.reader) IsUnlisted
      c.in-Ok.listings.items c.args.parts.items c.in-Ok-run_spread.results.items c.in-Ok.ensures.ok c.in-Ok-run_spread.ensures.ok c.in-Err-runs_of.refused first).0
]

pub returns-in-Err-runs_of-clause-only : goal.returns-in-Err-runs_of-clause-only
returns-in-Err-runs_of-clause-only g c = elim c.in-Err-runs_of.ensures.refused [
  | inl memory ↦ rw memory tt
  | inr first ↦
      (first_refused g.D.Receipt.Receipt.keeps g.F.Functions.code (λ listing. listing.part) (λ part. part.partition) (λ part. IsRunless g.D.Receipt.Receipt.keeps g.D.Receipt.Receipt.stands g.D.Reader.PageReader.can_fail g.D.Reader.PageReader.failures part.partition part.reader) IsUnlisted
      c.in-Ok.listings.items c.args.parts.items c.in-Ok-run_spread.results.items c.in-Ok.ensures.ok c.in-Ok-run_spread.ensures.ok c.in-Err-runs_of.refused first).1
]
