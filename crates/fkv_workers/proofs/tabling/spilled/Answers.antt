use Rattle.std.proofs.Common.{◌≡◌, length, map, ◌∙◌, sym, inl, inr}
use Rattle.std.specs.List.{AllZip}
use Rattle.std.proofs.lemmas.List.{length-map}
use Rattle.fkv_alone.specs.Causes.{CanFailToRead, CanFailToWrite}
use Rattle.fkv_feeds.specs.Spilling.{IsSpillFault}
use Rattle.fkv_workers.specs.Shares.{HasShare}
use Rattle.fkv_workers.proofs.SpillLemmas.{ending_of, fault_of, unended}
use Rattle.fkv_workers.proofs.WorkedLemmas.{counted}
use Rattle.fkv_workers.proofs.tabling.spilled.Goals as goal

pub returns-clause-table : goal.returns-clause-table
returns-clause-table g c keeps held feeds shares fed kept =
    let closed = c.in-Ok.ensures.closed keeps held in
    let table = c.in-Ok-spill_parts.ensures.ok held in
    let passes = c.args.passes.items in
    let histories = map (λ history. history.items) c.in-Ok.ended.histories.items in
    let owns = map (λ pass. pass.own) passes in
    let many : length histories ≡ c.args.store.count = length-map c.in-Ok.ended.histories.items (λ history. history.items) ∙ c.in-Ok.ensures.len in
    let has : AllZip (HasShare g.F.Functions.code (length histories)) owns shares =
    counted g.F.Functions.code (length histories) passes shares (λ i d lt. (c.in-Ok.ensures.own i d lt).1 ∙ sym many) kept in
    record {
      pairs = table.0;
      come = table.1;
      table = c.tables_join.ensures.table feeds shares owns histories table.0 fed has
          (record { some = rw many c.requires.some; each = λ p history at. (closed.merged p history at).1 }) (λ k. table.4 k ∙ closed.made k)
          table.3;
      counted = table.2;
    }

pub returns-clause-closed : goal.returns-clause-closed
returns-clause-closed g c keeps held =
    let closed = c.in-Ok.ensures.closed keeps held in
    let table = c.in-Ok-spill_parts.ensures.ok held in (
      table.0,
      table.1,
      map (λ history. history.items) c.in-Ok.ended.histories.items,
      record {
        sized = closed.sized;
        legal = closed.legal;
        merged = closed.merged;
        counted = closed.counted;
        shared = closed.shared;
        made = λ k. table.4 k ∙ closed.made k;
      },
    )

pub returns-in-Err-clause-refused : goal.returns-in-Err-clause-refused
returns-in-Err-clause-refused g c =
    unended (IsSpillFault g.D.Receipt.Receipt.keeps g.D.Disk.failures g.D.Writer.PageWriter.failures g.D.Reader.PageReader.failures (CanFailToWrite g.D.Writer.PageWriter.next g.D.Writer.PageWriter.can_fail) (CanFailToRead g.D.Receipt.Receipt.stands g.D.Reader.PageReader.can_fail)) c.in-Err.refused c.in-Err.ensures.only

pub returns-in-Err-spill_parts-clause-refused : goal.returns-in-Err-spill_parts-clause-refused
returns-in-Err-spill_parts-clause-refused g c = elim c.in-Err-spill_parts.ensures.refused [
  | inl memory ↦ rw memory tt
  | inr more ↦ elim more [
    | inl worn ↦ rw worn tt
    | inr one ↦
        ending_of (CanFailToWrite g.D.Writer.PageWriter.next g.D.Writer.PageWriter.can_fail) (CanFailToRead g.D.Receipt.Receipt.stands g.D.Reader.PageReader.can_fail) g.D.Receipt.Receipt.keeps g.D.Disk.failures g.D.Writer.PageWriter.failures g.D.Reader.PageReader.failures c.in-Err-spill_parts.refused
        (fault_of g.D.Receipt.Receipt.keeps g.D.Receipt.Receipt.stands g.D.Reader.PageReader.can_fail g.D.Reader.PageReader.failures g.D.Writer.PageWriter.failures g.D.Disk.failures (CanFailToWrite g.D.Writer.PageWriter.next g.D.Writer.PageWriter.can_fail) one.1.partition one.1.reader c.in-Err-spill_parts.refused one.3)
  ]
]
