use Rattle.std.proofs.Common.{◌≡◌, ◌<◌, ◌++◌, [], ◌∷◌, length, map, sym, ap, ◌∙◌, append_assoc, arith}
use Rattle.std.specs.Vec.Iter.{into_iter_items}
use Rattle.std.proofs.lemmas.List.{map-id, map_push, length-map}
use Rattle.std.proofs.lemmas.Iterator.Adapters.{YieldsList-from_vec}
use Rattle.std.proofs.lemmas.Iterator.Consumers.{YieldsList-end, YieldsList-turn}
use Rattle.fkv_store.proofs.PartedLemmas.{none_behind, left_over, none_some}
use Rattle.fkv_store.proofs.unlisted.take_apart.Goals as goal

pub unreachable-requires : goal.unreachable-requires
unreachable-requires g c =
    let gives = c.into_iter-part-iterator.ensures.into_iter_gives in
    let road = YieldsList-from_vec c.args.parts.items gives.0 (gives.1 ∙ c.args.parts.ok.0) in
    let turn = YieldsList-turn road c.loop-part.yielded c.loop-part.part-iterator c.loop-part.yielded_by c.next.result c.next.new.self c.in-Some.part c.in-Some.is c.next.ensures.steps in
    let rest = into_iter_items c.loop-part.readers in
    let more = left_over (λ part. part.partition) (λ part. part.partition) (λ part. part.reader) c.loop-part.partitions.items c.loop-part.yielded rest c.args.readers.items
    c.loop-part.invariant.partitions (c.loop-part.invariant.readers ∙ c.into_iter-readers.ensures.rest) in
    let low : 0 < c.loop-part.readers.rest.len = omega (arith, more, turn.0, c.requires.readers, c.loop-part.readers.rest.ok.0) in
    none_some c.next-in-loop-part.result c.in_default.is (c.next-in-loop-part.ensures.variant.1 low)

pub unreachable-requires-in_default-next : goal.unreachable-requires-in_default-next
unreachable-requires-in_default-next g c =
    let gives = c.into_iter-part-iterator.ensures.into_iter_gives in
    let road = YieldsList-from_vec c.args.parts.items gives.0 (gives.1 ∙ c.args.parts.ok.0) in
    let turn = YieldsList-turn road c.loop-part.yielded c.loop-part.part-iterator c.loop-part.yielded_by c.next.result c.next.new.self c.in-Some.part c.in-Some.is c.next.ensures.steps in
    let rest = into_iter_items c.loop-part.writers in
    let more = left_over (λ part. part.partition) (λ part. part.partition) (λ part. part.writer) c.loop-part.partitions.items c.loop-part.yielded rest c.args.writers.items
    c.loop-part.invariant.partitions (c.loop-part.invariant.writers ∙ c.into_iter-writers.ensures.rest) in
    let low : 0 < c.loop-part.writers.rest.len = omega (arith, more, turn.0, c.requires.writers, c.loop-part.writers.rest.ok.0) in
    none_some c.next-in-loop-part-2.result c.in_default-next.is (c.next-in-loop-part-2.ensures.variant.1 low)

pub loop-part-preserved : goal.loop-part-preserved
loop-part-preserved g c =
    let done = c.loop-part.partitions.items in
    let rest = into_iter_items c.next-in-loop-part.new.self in
    let unused = into_iter_items c.next-in-loop-part-2.new.self in
    record {
      partitions =
          ap (map (λ part. part.partition)) c.in-Ok.ensures.items
          ∙ (map_push (λ part. part.partition) done _
          ∙ (ap (λ vs. vs ++ c.in-Some.part.partition ∷ []) c.loop-part.invariant.partitions
          ∙ sym (map_push (λ part. part.partition) c.loop-part.yielded c.in-Some.part)));
      writers =
          ap (λ ps. map (λ part. part.writer) ps ++ unused) c.in-Ok.ensures.items
          ∙ (ap (λ ws. ws ++ unused) (map_push (λ part. part.writer) done _)
          ∙ (append_assoc (map (λ part. part.writer) done) (c.in-Some-next-2.writer ∷ []) unused
          ∙ (ap (λ ws. map (λ part. part.writer) done ++ ws) (sym c.in-Some-next-2.ensures.items) ∙ c.loop-part.invariant.writers)));
      readers =
          ap (λ ps. map (λ part. part.reader) ps ++ rest) c.in-Ok.ensures.items
          ∙ (ap (λ rs. rs ++ rest) (map_push (λ part. part.reader) done _)
          ∙ (append_assoc (map (λ part. part.reader) done) (c.in-Some-next.reader ∷ []) rest
          ∙ (ap (λ rs. map (λ part. part.reader) done ++ rs) (sym c.in-Some-next.ensures.items) ∙ c.loop-part.invariant.readers)));
      histories =
          ap (map (λ history. history.items)) c.in-Ok-push.ensures.items
          ∙ (map_push (λ history. history.items) c.loop-part.histories.items c.in-Some.part.history
          ∙ (ap (λ hs. hs ++ c.in-Some.part.history.items ∷ []) c.loop-part.invariant.histories
          ∙ sym (map_push (λ part. part.history.items) c.loop-part.yielded c.in-Some.part)));
    }

pub returns-clause-partitions : goal.returns-clause-partitions
returns-clause-partitions g c =
    let gives = c.into_iter-part-iterator.ensures.into_iter_gives in
    let road = YieldsList-from_vec c.args.parts.items gives.0 (gives.1 ∙ c.args.parts.ok.0) in
    let end = YieldsList-end road c.loop-part.yielded c.loop-part.part-iterator c.loop-part.yielded_by c.next.result c.next.new.self c.in-None.is c.next.ensures.steps in
    c.loop-part.invariant.partitions ∙ ap (map (λ part. part.partition)) (sym (map-id c.loop-part.yielded) ∙ end.0)

pub returns-clause-readers : goal.returns-clause-readers
returns-clause-readers g c =
    let gives = c.into_iter-part-iterator.ensures.into_iter_gives in
    let road = YieldsList-from_vec c.args.parts.items gives.0 (gives.1 ∙ c.args.parts.ok.0) in
    let end = YieldsList-end road c.loop-part.yielded c.loop-part.part-iterator c.loop-part.yielded_by c.next.result c.next.new.self c.in-None.is c.next.ensures.steps in
    let partitions = c.loop-part.partitions.items in
    let long : length partitions ≡ length c.args.readers.items =
    sym (length-map partitions (λ part. part.partition))
    ∙ (ap length c.loop-part.invariant.partitions
    ∙ (length-map c.loop-part.yielded (λ part. part.partition) ∙ (end.1 ∙ sym c.requires.readers))) in
    none_behind (map (λ part. part.reader) partitions) (into_iter_items c.loop-part.readers) c.args.readers.items
    (c.loop-part.invariant.readers ∙ c.into_iter-readers.ensures.rest) (length-map partitions (λ part. part.reader) ∙ long)

pub returns-clause-histories : goal.returns-clause-histories
returns-clause-histories g c =
    let gives = c.into_iter-part-iterator.ensures.into_iter_gives in
    let road = YieldsList-from_vec c.args.parts.items gives.0 (gives.1 ∙ c.args.parts.ok.0) in
    let end = YieldsList-end road c.loop-part.yielded c.loop-part.part-iterator c.loop-part.yielded_by c.next.result c.next.new.self c.in-None.is c.next.ensures.steps in
    c.loop-part.invariant.histories ∙ ap (map (λ part. part.history.items)) (sym (map-id c.loop-part.yielded) ∙ end.0)
