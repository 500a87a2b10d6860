use Rattle.std.proofs.Common.{◌≡◌, ◌+◌, ◌∙◌, refl, arith, ap, inl}
use Rattle.fkv_store.proofs.CountLemmas.{one-steady, one-counts, reads-steady, reads-counts, none-counted}
use Rattle.fkv_functions.specs.declared.refusals.Refused.TheVariants.{NoMerge}
use Rattle.fkv_store.specs.Runs.{TurnsView}
use Rattle.fkv_store.proofs.RunLemmas.{runs-itself, entry-runs, entry-fresh, entry-room, stopped-unrun}
use Rattle.fkv_store.proofs.running.run_by_turns.Goals as goal

pub returns-in_default-clause-steady : goal.returns-in_default-clause-steady
returns-in_default-clause-steady g c =
    reads-steady g.D.Reader.PageReader.failures c.args.readers.now.items c.args.run.now.at.partition c.index_mut-reader.result.now c.run_reading.new.reader _ _
    (omega (arith, c.requires.within, c.requires.readers)) c.index_mut-reader.ensures.value refl c.run_reading.result c.run_reading.ensures.steady

pub returns-in_default-clause-counted : goal.returns-in_default-clause-counted
returns-in_default-clause-counted g c =
    reads-counts g.D.Reader.PageReader.failures c.args.readers.now.items c.args.run.now.at.partition c.index_mut-reader.result.now c.run_reading.new.reader _ _
    (omega (arith, c.requires.within, c.requires.readers)) c.index_mut-reader.ensures.value refl g.D.Receipt.Receipt.keeps c.run_reading.result c.run_reading.ensures.counted

pub returns-then-may_need_page-clause-steady : goal.returns-then-may_need_page-clause-steady
returns-then-may_need_page-clause-steady g c =
    reads-steady g.D.Reader.PageReader.failures c.args.readers.now.items c.args.run.now.at.partition c.index_mut-reader.result.now c.run_reading-then-may_need_page.new.reader _ _
    (omega (arith, c.requires.within, c.requires.readers)) c.index_mut-reader.ensures.value refl c.run_reading-then-may_need_page.result c.run_reading-then-may_need_page.ensures.steady

pub returns-then-may_need_page-clause-counted : goal.returns-then-may_need_page-clause-counted
returns-then-may_need_page-clause-counted g c =
    reads-counts g.D.Reader.PageReader.failures c.args.readers.now.items c.args.run.now.at.partition c.index_mut-reader.result.now c.run_reading-then-may_need_page.new.reader _ _
    (omega (arith, c.requires.within, c.requires.readers)) c.index_mut-reader.ensures.value refl g.D.Receipt.Receipt.keeps c.run_reading-then-may_need_page.result c.run_reading-then-may_need_page.ensures.counted

pub returns-in-Ok-Some-clause-steady : goal.returns-in-Ok-Some-clause-steady
returns-in-Ok-Some-clause-steady g c =
    one-steady g.D.Reader.PageReader.failures c.args.readers.now.items c.args.run.now.at.partition c.index_mut-reader.result.now c.run_out.new.reader _ _
    (omega (arith, c.requires.within, c.requires.readers)) c.index_mut-reader.ensures.value refl c.in-Ok-Some.ensures.steady

pub returns-in-Err-clause-counted : goal.returns-in-Err-clause-counted
returns-in-Err-clause-counted g c =
    one-counts g.D.Reader.PageReader.failures c.args.readers.now.items c.args.run.now.at.partition c.index_mut-reader.result.now c.run_out.new.reader _ _
    (omega (arith, c.requires.within, c.requires.readers)) c.index_mut-reader.ensures.value refl g.D.Receipt.Receipt.keeps c.in-Err.refused c.in-Err.ensures.counted

pub returns-in-Ok-None-clause-steady : goal.returns-in-Ok-None-clause-steady
returns-in-Ok-None-clause-steady g c =
    let f = g.D.Reader.PageReader.failures in
    let none : c.run_out.new.turned.missed ≡ 0 = c.run_out.ensures.unread refl in
    let so_far = c.in-Ok-None.ensures.steady in
    let same : f c.run_out.new.reader ≡ f c.index_mut-reader.result.now = omega (arith, none, so_far) in
    reads-steady g.D.Reader.PageReader.failures c.args.readers.now.items c.args.run.now.at.partition c.index_mut-reader.result.now c.run_reading-in-Ok-None.new.reader _ _
    (omega (arith, c.requires.within, c.requires.readers)) c.index_mut-reader.ensures.value same c.run_reading-in-Ok-None.result c.run_reading-in-Ok-None.ensures.steady

pub returns-in-Ok-None-clause-counted : goal.returns-in-Ok-None-clause-counted
returns-in-Ok-None-clause-counted g c =
    let f = g.D.Reader.PageReader.failures in
    let none : c.run_out.new.turned.missed ≡ 0 = c.run_out.ensures.unread refl in
    let so_far = c.in-Ok-None.ensures.steady in
    let same : f c.run_out.new.reader ≡ f c.index_mut-reader.result.now = omega (arith, none, so_far) in
    reads-counts g.D.Reader.PageReader.failures c.args.readers.now.items c.args.run.now.at.partition c.index_mut-reader.result.now c.run_reading-in-Ok-None.new.reader _ _
    (omega (arith, c.requires.within, c.requires.readers)) c.index_mut-reader.ensures.value same g.D.Receipt.Receipt.keeps c.run_reading-in-Ok-None.result c.run_reading-in-Ok-None.ensures.counted

pub returns-in_default-clause-op : goal.returns-in_default-clause-op
returns-in_default-clause-op g c = entry-runs c.args.loads c.args.op c.args.op c.args.run.now.known c.run_reading.result (runs-itself c.args.loads c.args.op c.args.op refl) c.run_reading.ensures.of

pub returns-in_default-clause-fresh : goal.returns-in_default-clause-fresh
returns-in_default-clause-fresh g c = entry-fresh c.args.op c.args.run.now.known c.run_reading.result c.run_reading.ensures.of

pub returns-in_default-clause-room : goal.returns-in_default-clause-room
returns-in_default-clause-room g c = entry-room c.args.op c.args.run.now.known c.run_reading.result c.run_reading.ensures.of

pub returns-in_default-clause-only : goal.returns-in_default-clause-only
returns-in_default-clause-only g c = stopped-unrun g.F.Mergeable.MERGES c.args.op c.args.run.now.known c.run_reading.result c.run_reading.ensures.only

pub returns-then-may_need_page-clause-op : goal.returns-then-may_need_page-clause-op
returns-then-may_need_page-clause-op g c = entry-runs c.args.loads c.args.op c.in-Some.merge c.args.run.now.known c.run_reading-then-may_need_page.result c.in-Some.ensures.some c.run_reading-then-may_need_page.ensures.of

pub returns-then-may_need_page-clause-fresh : goal.returns-then-may_need_page-clause-fresh
returns-then-may_need_page-clause-fresh g c = entry-fresh c.in-Some.merge c.args.run.now.known c.run_reading-then-may_need_page.result c.run_reading-then-may_need_page.ensures.of

pub returns-then-may_need_page-clause-room : goal.returns-then-may_need_page-clause-room
returns-then-may_need_page-clause-room g c = entry-room c.in-Some.merge c.args.run.now.known c.run_reading-then-may_need_page.result c.run_reading-then-may_need_page.ensures.of

pub returns-then-may_need_page-clause-only : goal.returns-then-may_need_page-clause-only
returns-then-may_need_page-clause-only g c = stopped-unrun g.F.Mergeable.MERGES c.args.op c.args.run.now.known c.run_reading-then-may_need_page.result c.run_reading-then-may_need_page.ensures.only

pub returns-in-Ok-None-clause-op : goal.returns-in-Ok-None-clause-op
returns-in-Ok-None-clause-op g c = entry-runs c.args.loads c.args.op c.in-Some.merge c.args.run.now.known c.run_reading-in-Ok-None.result c.in-Some.ensures.some c.run_reading-in-Ok-None.ensures.of

pub returns-in-Ok-None-clause-fresh : goal.returns-in-Ok-None-clause-fresh
returns-in-Ok-None-clause-fresh g c = entry-fresh c.in-Some.merge c.args.run.now.known c.run_reading-in-Ok-None.result c.run_reading-in-Ok-None.ensures.of

pub returns-in-Ok-None-clause-room : goal.returns-in-Ok-None-clause-room
returns-in-Ok-None-clause-room g c = entry-room c.in-Some.merge c.args.run.now.known c.run_reading-in-Ok-None.result c.run_reading-in-Ok-None.ensures.of

pub returns-in-Ok-None-clause-only : goal.returns-in-Ok-None-clause-only
returns-in-Ok-None-clause-only g c = stopped-unrun g.F.Mergeable.MERGES c.args.op c.args.run.now.known c.run_reading-in-Ok-None.result c.run_reading-in-Ok-None.ensures.only

pub returns-in-Ok-Some-clause-op : goal.returns-in-Ok-Some-clause-op
returns-in-Ok-Some-clause-op g c = runs-itself c.args.loads c.args.op c.in-Ok-Some.entry.op (rw c.in-Ok-Some.field-0-is at c.in-Ok-Some.ensures.of).op_is

pub returns-in-Ok-Some-clause-fresh : goal.returns-in-Ok-Some-clause-fresh
returns-in-Ok-Some-clause-fresh g c = (rw c.in-Ok-Some.field-0-is at c.in-Ok-Some.ensures.of).fresh

pub returns-in-Ok-Some-clause-room : goal.returns-in-Ok-Some-clause-room
returns-in-Ok-Some-clause-room g c = (rw c.in-Ok-Some.field-0-is at c.in-Ok-Some.ensures.of).room

pub returns-in-Err-clause-only : goal.returns-in-Err-clause-only
returns-in-Err-clause-only g c = inl c.in-Err.ensures.only

pub returns-then-is_merge-clause-counted : goal.returns-then-is_merge-clause-counted
returns-then-is_merge-clause-counted g c = none-counted g.D.Receipt.Receipt.keeps _ _ _ NoMerge (ap (λ (t : TurnsView). t.missed) c.requires.fresh) (λ fault. fault)
