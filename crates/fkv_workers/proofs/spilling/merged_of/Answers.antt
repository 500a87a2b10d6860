use Rattle.std.proofs.Common.{rules, ◌≡◌, ◌++◌, [], ◌∷◌, sym, ap, subst, ◌∙◌, append_assoc, refl}
use Rattle.std.specs.Vec.Iter.{into_iter_items}
use Rattle.std.proofs.lemmas.List.{append-nil}
use Rattle.fkv_functions.specs.Names.{name_cmp}
use Rattle.fkv_runs.specs.Merging.{merged}
use Rattle.fkv_spills.specs.Parts.{HasPairs, HasMergedPairs}
use Rattle.fkv_spills.specs.Reading.{AreHeld}
use Rattle.fkv_workers.proofs.SpillLemmas.{held_first, held_none, none_left}
use Rattle.fkv_workers.proofs.spilling.merged_of.Goals as goal

pub loop-part-init : goal.loop-part-init
loop-part-init g c lists held = record { done = []; left = lists; all = refl; held = held; runs = c.new-parts.ensures }

pub loop-part-preserved : goal.loop-part-preserved
loop-part-preserved g c lists held =
    let old = c.loop-part.invariant lists held in
    let turn : into_iter_items c.loop-part.part-iterator ≡ c.in-Some.part ∷ into_iter_items c.next.new.self = search rules in
    let holds = HasPairs g.V.Fixed.codec g.P.Receipt.Receipt.keeps {P = g.row.P.Denot} g.P.Receipt.Receipt.stands in
    let one = held_first holds c.in-Some.part (into_iter_items c.next.new.self) old.left (subst (λ parts. AreHeld holds parts old.left) turn old.held) in
    record {
      done = old.done ++ one.first ∷ [];
      left = one.rest;
      all = old.all ∙ (ap (λ l. old.done ++ l) one.is ∙ sym (append_assoc old.done (one.first ∷ []) one.rest));
      held = one.held_more;
      runs = c.in-Ok.ensures.ok old.done one.first old.runs one.held;
    }

pub returns-in-Ok-merge-clause-ok : goal.returns-in-Ok-merge-clause-ok
returns-in-Ok-merge-clause-ok g c lists held =
    let all : into_iter_items c.into_iter-part-iterator.result ≡ c.args.runs.items = search rules in
    let holds = HasPairs g.V.Fixed.codec g.P.Receipt.Receipt.keeps {P = g.row.P.Denot} g.P.Receipt.Receipt.stands in
    let old = c.loop-part.invariant lists (subst (λ parts. AreHeld holds parts lists) (sym all) held) in
    let gone = rw c.in-None.is at c.next.ensures.steps in
    let none : into_iter_items c.loop-part.part-iterator ≡ [] = none_left (into_iter_items c.loop-part.part-iterator) (sym c.loop-part.part-iterator.rest.ok.0 ∙ gone.0) in
    let left = held_none holds old.left (subst (λ parts. AreHeld holds parts old.left) none old.held) in
    let whole = old.all ∙ (ap (λ l. old.done ++ l) left ∙ append-nil old.done) in
    subst (λ ls. HasMergedPairs g.V.Fixed.codec g.P.Receipt.Receipt.keeps g.P.Receipt.Receipt.stands c.in-Ok-merge.table (merged name_cmp ls)) (sym whole)
    (c.in-Ok-merge.ensures.ok old.done old.runs)
