use Rattle.fkv_local.proofs.OnwardLemmas.{all-cut_at}
use Rattle.fkv_local.proofs.compacting.cut.Goals as goal

pub returns-in-Ok-truncate-clause-whole : goal.returns-in-Ok-truncate-clause-whole
returns-in-Ok-truncate-clause-whole g c = all-cut_at c.page_of-page.result c.min.result c.cleared.result c.head.result c.page_of-page.ensures.value c.min.ensures c.cleared.ensures c.head.ensures c.truncate.ensures.effect

pub returns-in-Err-NotDue-clause-whole : goal.returns-in-Err-NotDue-clause-whole
returns-in-Err-NotDue-clause-whole g c = all-cut_at c.page_of-page.result c.min.result c.cleared.result c.head.result c.page_of-page.ensures.value c.min.ensures c.cleared.ensures c.head.ensures c.truncate.ensures.effect
