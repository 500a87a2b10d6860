use Rattle.std.proofs.Common.{refl}
use Rattle.std.proofs.lemmas.Result.{IfErr-weaker}
use Rattle.fkv_local.specs.Refusing.{IsWorkRefusal}
use Rattle.fkv_local.proofs.CauseLemmas.{reads-caused, work-caused, worn-caused}
use Rattle.fkv_local.proofs.ClearLemmas.{but-same, go-stays, load-stays}
use Rattle.fkv_local.proofs.OnwardLemmas.{onward-same, go-onward, load-onward}
use Rattle.fkv_local.proofs.RelocateLemmas.{wanted-here, wanted-held, go-wants, load-wants, load-receipts, load-told, kept-then, own-waits, go-receipts, go-told}
use Rattle.fkv_local.proofs.WorkLemmas.{both, same-both, work-since}
use Rattle.fkv_local.proofs.compacting.event.Goals as goal

pub returns-in-Err-clause-stays : goal.returns-in-Err-clause-stays
returns-in-Err-clause-stays g c = but-same c.requires.only

pub returns-in-Err-fetch-clause-stays : goal.returns-in-Err-fetch-clause-stays
returns-in-Err-fetch-clause-stays g c = but-same c.requires.only

pub returns-in-Err-fetch-clause-told : goal.returns-in-Err-fetch-clause-told
returns-in-Err-fetch-clause-told g c = IsWorkRefusal.unread _ c.in-Err-fetch.ensures.told refl

pub returns-in-None-clause-stays : goal.returns-in-None-clause-stays
returns-in-None-clause-stays g c = go-stays c.in-Ok.now c.go.result c.requires.only (c.go.ensures.relocating (wanted-here c.requires.wanted)) c.go.ensures.unchanged

pub returns-in-None-clause-wants : goal.returns-in-None-clause-wants
returns-in-None-clause-wants g c = go-wants c.go.result (rw c.in-None.is at c.requires.wanted) c.go.ensures.effect

pub returns-in-Ok-fetch-clause-stays : goal.returns-in-Ok-fetch-clause-stays
returns-in-Ok-fetch-clause-stays g c = load-stays c.in-Ok.now c.load_own.result c.requires.only (c.load_own.ensures.relocating (wanted-here c.requires.wanted)) c.load_own.ensures.fails

pub returns-in-Ok-fetch-clause-wants : goal.returns-in-Ok-fetch-clause-wants
returns-in-Ok-fetch-clause-wants g c =
    let wanted = rw c.in-Some.is at c.requires.wanted in
    let own = (c.in-Ok-fetch.ensures.same _ c.requires.kept (wanted-held c.page_facts.ensures.receipts wanted)).0 in
    load-wants c.load_own.result own wanted c.load_own.ensures.effect

pub returns-in-Ok-fetch-clause-kept : goal.returns-in-Ok-fetch-clause-kept
returns-in-Ok-fetch-clause-kept g c =
    let wanted = rw c.in-Some.is at c.requires.wanted in
    let same = c.in-Ok-fetch.ensures.same _ c.requires.kept (wanted-held c.page_facts.ensures.receipts wanted) in
    kept-then g.D.Receipt.Receipt.stands c.args.shard.now.part.partition.records.log.receipts c.load_own.new.self.records.log.receipts c.fetch.new.self.is_sure c.fetch.new.self.page c.load_own.result (load-receipts c.load_own.result same.0 wanted c.load_own.ensures.effect) same.1

pub returns-in-Ok-fetch-clause-told : goal.returns-in-Ok-fetch-clause-told
returns-in-Ok-fetch-clause-told g c =
    let wanted = rw c.in-Some.is at c.requires.wanted in
    let own = (c.in-Ok-fetch.ensures.same _ c.requires.kept (wanted-held c.page_facts.ensures.receipts wanted)).0 in
    IfErr-weaker c.load_own.result _ _ (λ e. work-since (same-both refl c.in-Ok-fetch.ensures.steady)) (load-told c.load_own.result own wanted c.load_own.ensures.effect _ _ _ c.load_own.ensures.undamaged)

pub load_own-requires-clause-own : goal.load_own-requires-clause-own
load_own-requires-clause-own g c =
    let wanted = rw c.in-Some.is at c.requires.wanted in
    let own = (c.in-Ok-fetch.ensures.same _ c.requires.kept (wanted-held c.page_facts.ensures.receipts wanted)).0 in
    λ page waits. own-waits own wanted waits

pub returns-in-Err-clause-onward : goal.returns-in-Err-clause-onward
returns-in-Err-clause-onward g c = onward-same

pub returns-in-Err-fetch-clause-onward : goal.returns-in-Err-fetch-clause-onward
returns-in-Err-fetch-clause-onward g c = onward-same

pub returns-in-None-clause-onward : goal.returns-in-None-clause-onward
returns-in-None-clause-onward g c = go-onward g.D.Receipt.Receipt.keeps g.F.Key.Ord.cmp c.args.context c.in-Ok.now c.go.result (c.go.ensures.relocating (wanted-here c.requires.wanted)) c.go.ensures.unchanged

pub returns-in-Ok-fetch-clause-onward : goal.returns-in-Ok-fetch-clause-onward
returns-in-Ok-fetch-clause-onward g c = load-onward g.D.Receipt.Receipt.keeps g.F.Key.Ord.cmp c.args.context c.in-Ok.now c.load_own.result (c.load_own.ensures.relocating (wanted-here c.requires.wanted)) c.load_own.ensures.fails

pub returns-in-Err-fetch-clause-caused : goal.returns-in-Err-fetch-clause-caused
returns-in-Err-fetch-clause-caused g c = λ kept. reads-caused _ _ c.in-Err-fetch.ensures.told c.in-Err-fetch.ensures.caused

pub returns-in-Ok-fetch-clause-caused : goal.returns-in-Ok-fetch-clause-caused
returns-in-Ok-fetch-clause-caused g c = λ kept.
    let wanted = rw c.in-Some.is at c.requires.wanted in
    let own = (c.in-Ok-fetch.ensures.same _ c.requires.kept (wanted-held c.page_facts.ensures.receipts wanted)).0 in
    IfErr-weaker c.load_own.result _ _ (λ e told. work-caused _ _ kept told (λ other. absurd (other refl)) (λ other. absurd (other refl))) (load-told c.load_own.result own wanted c.load_own.ensures.effect g.D.Receipt.Receipt.keeps 0 (both 0 0) c.load_own.ensures.undamaged)

pub returns-in-Err-clause-told : goal.returns-in-Err-clause-told
returns-in-Err-clause-told g c = IsWorkRefusal.no_moment c.in-Err.ensures.refused.0 c.in-Err.ensures.refused.2 refl

pub returns-in-Err-clause-caused : goal.returns-in-Err-clause-caused
returns-in-Err-clause-caused g c = λ kept. worn-caused _ _ c.in-Err.ensures.refused.0

pub returns-in-None-clause-kept : goal.returns-in-None-clause-kept
returns-in-None-clause-kept g c = kept-then g.D.Receipt.Receipt.stands c.args.shard.now.part.partition.records.log.receipts c.go.new.self.records.log.receipts c.args.kept.now.is_sure c.args.kept.now.page c.go.result (go-receipts c.go.result (rw c.in-None.is at c.requires.wanted) c.go.ensures.effect) c.requires.kept

pub returns-in-None-clause-told : goal.returns-in-None-clause-told
returns-in-None-clause-told g c = go-told c.go.result (rw c.in-None.is at c.requires.wanted) c.go.ensures.effect _ _ _

pub returns-in-None-clause-caused : goal.returns-in-None-clause-caused
returns-in-None-clause-caused g c = λ kept.
    IfErr-weaker c.go.result _ _ (λ e told. work-caused _ _ kept told (λ other. absurd (other refl)) (λ other. absurd (other refl))) (go-told c.go.result (rw c.in-None.is at c.requires.wanted) c.go.ensures.effect g.D.Receipt.Receipt.keeps 0 (both 0 0))
