use Rattle.std.proofs.Common.{◌≡◌, ◌<◌, Some, length, drop, slice_get, sym, ◌∙◌, ap, subst, arith, rules}
use Rattle.std.proofs.lemmas.Option.{slice_get-get_or}
use Rattle.fkv_functions.proofs.ListLemmas.{get-set_within}
use Rattle.fkv_runs.specs.Merging.{first_pair}
use Rattle.fkv_spills.specs.Reading.{AreHeld, IsMergeOf}
use Rattle.fkv_spills.proofs.HeldLemmas.{merge-none, merge-within, merge-gives}
use Rattle.fkv_spills.proofs.merging.ReadMergeReadPairs.next.Goals as goal

pub returns-in-None-clause-pair : goal.returns-in-None-clause-pair
returns-in-None-clause-pair g c xs h = sym (ap first_pair (merge-none g.P.ReadPairs.holds c.args.self.now.rests.items c.args.self.now.first xs h c.in-None.is))

pub returns-in-None-clause-after : goal.returns-in-None-clause-after
returns-in-None-clause-after g c xs h =
    let none = merge-none g.P.ReadPairs.holds c.args.self.now.rests.items c.args.self.now.first xs h c.in-None.is in
    subst (IsMergeOf g.P.ReadPairs.holds c.args.self.now.rests.items c.args.self.now.first) (none ∙ ap (drop 1) (sym none)) h

pub returns-then-place-len-clause-pair : goal.returns-then-place-len-clause-pair
returns-then-place-len-clause-pair g c xs h =
    let low = merge-within g.P.ReadPairs.holds c.args.self.now.rests.items c.args.self.now.first xs h c.in-Some.place c.in-Some.field-0-1 c.in-Some.is in
    let len : c.len.result ≡ length c.args.self.now.rests.items = search rules in
    let past = c.if-place-len.true in
    absurd (omega arith)

pub returns-then-place-len-clause-after : goal.returns-then-place-len-clause-after
returns-then-place-len-clause-after g c xs h =
    let low = merge-within g.P.ReadPairs.holds c.args.self.now.rests.items c.args.self.now.first xs h c.in-Some.place c.in-Some.field-0-1 c.in-Some.is in
    let len : c.len.result ≡ length c.args.self.now.rests.items = search rules in
    let past = c.if-place-len.true in
    absurd (omega arith)

pub returns-in-Ok-clause-pair : goal.returns-in-Ok-clause-pair
returns-in-Ok-clause-pair g c xs h =
    let one = merge-gives g.P.ReadPairs.holds c.args.self.now.rests.items c.args.self.now.first xs h c.in-Some.place c.in-Some.field-0-1 c.in-Some.is
    c.index_mut.result.now c.index_mut.ensures.value in
    c.in-Ok.ensures.pair one.pairs one.has ∙ one.same

pub returns-in-Ok-clause-after : goal.returns-in-Ok-clause-after
returns-in-Ok-clause-after g c xs h =
    let one = merge-gives g.P.ReadPairs.holds c.args.self.now.rests.items c.args.self.now.first xs h c.in-Some.place c.in-Some.field-0-1 c.in-Some.is
    c.index_mut.result.now c.index_mut.ensures.value in
    one.after c.next.new.self c.first_place-self.result (c.in-Ok.ensures.after one.pairs one.has)
    (λ lists held. c.first_place-self.ensures lists (subst (λ r. AreHeld g.P.ReadPairs.holds r lists) (sym c.as_slice.ensures.value) held))

pub returns-in-Err-clause-kept : goal.returns-in-Err-clause-kept
returns-in-Err-clause-kept g c xs h =
    let one = merge-gives g.P.ReadPairs.holds c.args.self.now.rests.items c.args.self.now.first xs h c.in-Some.place c.in-Some.field-0-1 c.in-Some.is
    c.index_mut.result.now c.index_mut.ensures.value in
    one.kept c.next.new.self (c.in-Err.ensures.kept one.pairs one.has)

pub returns-in-Err-clause-told : goal.returns-in-Err-clause-told
returns-in-Err-clause-told g c =
    let items = c.args.self.now.rests.items in
    let place = c.in-Some.place in
    let len : c.len.result ≡ length items = search rules in
    let low : place < length items = (let f = c.if-place-len.false in omega arith) in
    let was : slice_get items place ≡ Some c.index_mut.result.now =
    slice_get-get_or items place c.index_mut.result.now low ∙ ap (λ a. Some a) (sym c.index_mut.ensures.value) in
    (place, c.index_mut.result.now, c.next.new.self, was, get-set_within items place c.next.new.self low, c.in-Err.ensures.told)
