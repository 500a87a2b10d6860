use Rattle.std.proofs.Common.{rules, ◌≡◌, ◌∙◌, ◌%◌, ◌<◌, ◌++◌, ◌∷◌, [], map, drop, length, get_or, sym, ap, subst, arith}
use Rattle.std.proofs.lemmas.List.{map-set, length-map, get_or-map}
use Rattle.std.proofs.Math.Nat.{mod-lt}
use Rattle.std.specs.Vec.Iter.{into_iter_items}
use Rattle.fkv_workers.specs.Shares.{AreDealt}
use Rattle.fkv_workers.proofs.HandLemmas.{dealt_more, rest_is}
use Rattle.fkv_workers.proofs.feed_shares.share_out.Goals as goal

pub loop-item-preserved : goal.loop-item-preserved
loop-item-preserved g c =
    let items = into_iter_items c.into_iter-item-iterator.result in
    let place = c.loop-item.place in
    let rest' = into_iter_items c.next.new.self in
    let shares = c.loop-item.shares.items in
    let turn : into_iter_items c.loop-item.item-iterator ≡ c.in-Some.item ∷ rest' = search rules in
    let next : drop place items ≡ c.in-Some.item ∷ rest' = sym c.loop-item.invariant.0 ∙ turn in
    let count = length-map shares (λ share. share.items) in
    let within : place % c.args.workers < length shares = omega (arith, c.loop-item.invariant.1.count, count, mod-lt place c.requires) in
    let share : c.keep.new.items.items ≡ get_or (map (λ share. share.items) shares) (place % c.args.workers) [] ++ (place, c.in-Some.item) ∷ [] =
    c.in-Ok-keep.ensures.ok ∙ ap (λ h. h ++ (place, c.in-Some.item) ∷ [])
    (ap (λ h. h.items) c.index_mut.ensures.value ∙ sym (get_or-map (λ share. share.items) shares (place % c.args.workers) c.index_mut.result.now [] within)) in (
      rest_is c.args.workers c.requires items place c.in-Some.item rest' next,
      subst (AreDealt c.args.workers _) (sym (map-set (λ share. share.items) shares (place % c.args.workers) c.keep.new.items))
          (dealt_more c.args.workers c.requires items place c.in-Some.item rest' next (map (λ share. share.items) shares) c.keep.new.items.items c.loop-item.invariant.1 share),
    )
