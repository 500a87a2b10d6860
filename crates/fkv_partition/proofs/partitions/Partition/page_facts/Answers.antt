use Rattle.fkv_partition.proofs.partitions.Partition.page_facts.Goals as goal

pub returns-clause-receipts : goal.returns-clause-receipts
returns-clause-receipts g c = (rw (c.log.ensures, c.records.ensures) at c.facts.ensures.receipts)

pub returns-clause-waiting : goal.returns-clause-waiting
returns-clause-waiting g c = (rw (c.log.ensures, c.records.ensures) at c.facts.ensures.waiting)

pub returns-clause-spelled : goal.returns-clause-spelled
returns-clause-spelled g c = (rw (c.log.ensures, c.records.ensures) at c.facts.ensures.spelled)
