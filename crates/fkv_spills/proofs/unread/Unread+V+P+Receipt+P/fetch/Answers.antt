use Rattle.std.proofs.Common.{◌≡◌, ◌<◌, length, drop, refl, subst, rules, deque_len}
use Rattle.fkv_spills.proofs.SpillLemmas.{no-front, front-is, behind-all, unread-all, unread-end, unread-page}
use Rattle.fkv_spills.proofs.unread.Unread+V+P+Receipt+P.fetch.Goals as goal

pub returns-in_default-clause-ok : goal.returns-in_default-clause-ok
returns-in_default-clause-ok g c xs keeps e h =
    let none : deque_len c.args.self.now.pages ≡ 0 = no-front _ c.in_default.ensures.variant.1 in
    let empty : length c.args.self.now.pages.items ≡ 0 = search rules in
    unread-end g.V.Fixed.codec g.P.Receipt.Receipt.stands c.args.self.now _ xs empty e e refl refl h

pub returns-in-Err-clause-kept : goal.returns-in-Err-clause-kept
returns-in-Err-clause-kept g c xs e h =
    unread-all g.V.Fixed.codec g.P.Receipt.Receipt.stands _ xs refl e (behind-all g.V.Fixed.codec g.P.Receipt.Receipt.stands c.args.self.now xs e h)

pub returns-in-Err-clause-refused : goal.returns-in-Err-clause-refused
returns-in-Err-clause-refused g c = (_, c.in-Err.ensures.counted)

pub returns-in-Ok-clause-ok : goal.returns-in-Ok-clause-ok
returns-in-Ok-clause-ok g c xs keeps e h =
    let items = c.args.self.now.pages.items in
    let most : 0 < deque_len c.args.self.now.pages = c.in-Some.ensures.variant.0 refl in
    let some : 0 < length items = search rules in
    unread-page g.V.Fixed.codec g.P.Receipt.Receipt.stands _ c.in-Some.next.now c.in-Ok.page (drop 1 items) items xs
    (front-is items c.in-Some.next.now some c.in-Some.ensures.lookup) c.pop_front-read.ensures.rest refl refl refl (c.in-Ok.ensures.kept keeps)
    (behind-all g.V.Fixed.codec g.P.Receipt.Receipt.stands c.args.self.now xs e h)

pub returns-in-Err-clause-caused : goal.returns-in-Err-clause-caused
returns-in-Err-clause-caused g c other =
    (c.in-Some.next.now.receipt, subst (λ n. g.P.PageReader.can_fail c.in-Some.next.now.receipt n) c.size.ensures (c.in-Err.ensures.caused other))
