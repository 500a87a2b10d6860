use Rattle.fkv_partition.proofs.EffectLemmas.{closed-pending, asked-low, alone-asked, relocation-asked, not-pending}
use Rattle.fkv_partition.proofs.laws.contexts_tell.Goals as goal

pub returns-clause-closed : goal.returns-clause-closed
returns-clause-closed g c = λ cmp v slot k h. closed-pending v slot k cmp h

pub returns-clause-low : goal.returns-clause-low
returns-clause-low g c = λ v slot k x h. asked-low v slot k x h

pub returns-clause-relocating : goal.returns-clause-relocating
returns-clause-relocating g c = λ keeps cmp join code v slot k x s h. (relocation-asked v slot k x h, not-pending v slot k cmp (alone-asked v slot k x h))
