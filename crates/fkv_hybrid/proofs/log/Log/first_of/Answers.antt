use Rattle.std.proofs.Common.{length, map, arith}
use Rattle.fkv_records.specs.Places.{page_at}
use Rattle.fkv_hybrid.specs.Pages.{receipts_from}
use Rattle.fkv_hybrid.proofs.FrameLemmas.{start_rises}
use Rattle.fkv_hybrid.proofs.log.Log.first_of.Goals as goal

pub start-requires : goal.start-requires
start-requires g c =
    let i = c.self.inside in
    let o = c.self.invariant.pages.ordered in
    let receipts = receipts_from (page_at i.shape.page_bits i.begin) (map g.R.Receipt.stands i.receipts.items) in
    let inside = rw (← c.self.view_is) at c.requires in
    let up = start_rises i.shape.page_bits c.args.page (length receipts) (omega (arith, inside)) in
    let flushed = o.flushed_high in
    let frozen = o.frozen_tail in
    let most = o.most in
    omega (arith, up, flushed, frozen, most)
