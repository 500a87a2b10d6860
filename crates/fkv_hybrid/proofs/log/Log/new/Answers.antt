use Rattle.std.proofs.Common.{◌≡◌, ◌<◌, ◌^◌, ◌∙◌, [], ap, map, replicate, length}
use Rattle.std.proofs.lemmas.List.{length-replicate}
use Rattle.fkv_records.specs.Places.{page_at}
use Rattle.fkv_hybrid.specs.Pages.{receipts_from}
use Rattle.fkv_hybrid.proofs.PageLemmas.{the_text, log_of, none_kept}
use Rattle.fkv_hybrid.proofs.WholeLemmas.{empty_whole, empty_seen}
use Rattle.fkv_hybrid.proofs.log.Log.new.Goals as goal

pub invariant_of-result : goal.invariant_of-result
invariant_of-result g c =
    let o = c.open_page.ensures in
    let shape = c.args.shape in
    let count : 0 < length c.open_page.new.self.slots = rw (o.others.count, c.in_ok-frames.ensures.count) c.requires.some in
    let sized : length (replicate (2 ^ c.in_ok-frames.frames.bits) 0) ≡ 2 ^ shape.page_bits = length-replicate (2 ^ c.in_ok-frames.frames.bits) 0 ∙ ap (λ x. 2 ^ x) c.in_ok-frames.ensures.bits in
    let none = ap (λ l. receipts_from (page_at shape.page_bits 64) (map g.R.Receipt.stands l)) c.new-2.ensures.items ∙ none_kept shape in
    let l = empty_whole g.K.Fixed.codec g.V.Fixed.codec g.R.Receipt.keeps shape c.new-3.result _ c.open_page.new.self _ c.requires.size
    (o.others.bits ∙ c.in_ok-frames.ensures.bits) count o.opened sized c.new-3.ensures none in
    (the_text g.K.Fixed.codec g.V.Fixed.codec _ _ g.row.K.coded g.row.V.coded _ _ _ l.pages.spelled, tt)

pub invariant_of-result-2 : goal.invariant_of-result-2
invariant_of-result-2 g c =
    let o = c.open_page.ensures in
    let shape = c.args.shape in
    let count : 0 < length c.open_page.new.self.slots = rw (o.others.count, c.in_ok-frames.ensures.count) c.requires.some in
    let sized : length (replicate (2 ^ c.in_ok-frames.frames.bits) 0) ≡ 2 ^ shape.page_bits = length-replicate (2 ^ c.in_ok-frames.frames.bits) 0 ∙ ap (λ x. 2 ^ x) c.in_ok-frames.ensures.bits in
    let none = ap (λ l. receipts_from (page_at shape.page_bits 64) (map g.R.Receipt.stands l)) c.new-2.ensures.items ∙ none_kept shape in
    let l = empty_whole g.K.Fixed.codec g.V.Fixed.codec g.R.Receipt.keeps shape c.new-3.result _ c.open_page.new.self _ c.requires.size
    (o.others.bits ∙ c.in_ok-frames.ensures.bits) count o.opened sized c.new-3.ensures none in
    let at = c.new-3.result.offsets in
    record {
      pages = log_of g.K.Fixed.codec g.V.Fixed.codec g.R.Receipt.keeps shape 64 at.closed at.safe_read_only 64 _ c.open_page.new.self c.result-1.given.0 [] l.pages;
      agrees = l.agrees;
    }

pub returns-clause-ok : goal.returns-clause-ok
returns-clause-ok g c =
    let o = c.open_page.ensures in
    let shape = c.args.shape in
    let count : 0 < length c.open_page.new.self.slots = rw (o.others.count, c.in_ok-frames.ensures.count) c.requires.some in
    let sized : length (replicate (2 ^ c.in_ok-frames.frames.bits) 0) ≡ 2 ^ shape.page_bits = length-replicate (2 ^ c.in_ok-frames.frames.bits) 0 ∙ ap (λ x. 2 ^ x) c.in_ok-frames.ensures.bits in
    let none = ap (λ l. receipts_from (page_at shape.page_bits 64) (map g.R.Receipt.stands l)) c.new-2.ensures.items ∙ none_kept shape in
    let l = empty_whole g.K.Fixed.codec g.V.Fixed.codec g.R.Receipt.keeps shape c.new-3.result _ c.open_page.new.self _ c.requires.size
    (o.others.bits ∙ c.in_ok-frames.ensures.bits) count o.opened sized c.new-3.ensures none in
    empty_seen g.K.Fixed.codec g.V.Fixed.codec g.R.Receipt.keeps shape c.new-3.result _ c.open_page.new.self c.args.frames c.result-1.given.0 l c.new-3.ensures none
    (o.others.count ∙ c.in_ok-frames.ensures.count)
