use Rattle.std.proofs.Common.{◌≡◌, ◌<◌, [], length, map, sym, ap, ◌∙◌, arith}
use Rattle.std.proofs.lemmas.List.{length-map, length-set}
use Rattle.fkv_workers.proofs.EmptiedLemmas.{emptied}
use Rattle.fkv_workers.proofs.SplitLemmas.{split_all}
use Rattle.fkv_workers.proofs.working.Rows.make_all.Goals as goal

pub loop-partition-preserved : goal.loop-partition-preserved
loop-partition-preserved g c =
    let old = c.loop-partition.invariant in
    let was = map (λ rows. rows.items) c.loop-partition.self.waiting.items in
    let now = map (λ rows. rows.items) c.make.new.self.waiting.items in
    let i = c.loop-partition.partition in
    let long = length-map c.loop-partition.self.waiting.items (λ rows. rows.items) in
    let count : c.len-partition-end.result ≡ length c.args.self.now.waiting.items =
    c.len-partition-end.ensures ∙ c.args.self.now.waiting.ok.0 in
    let within : i < length was = omega (arith, long, old.sized, count, c.loop-partition-test.true) in
    record {
      split = λ rows s. rw old.mode at c.in-Ok.ensures.ok rows (old.split rows s);
      mode = c.in-Ok.ensures.mode ∙ old.mode;
      empty = emptied was now i within c.in-Ok.ensures.empty old.empty;
      sized =
          sym (length-map c.make.new.self.waiting.items (λ rows. rows.items))
          ∙ (ap length c.in-Ok.ensures.empty ∙ (length-set was i [] ∙ (long ∙ old.sized)));
    }

pub returns-clause-ok : goal.returns-clause-ok
returns-clause-ok g c rows s =
    let end = c.loop-partition.self in
    let lists = map (λ rows. rows.items) end.waiting.items in
    let long = length-map end.waiting.items (λ rows. rows.items) in
    let sized = c.loop-partition.invariant.sized in
    split_all g.H.Recorder.keeps g.F.Functions.code c.args.self.now.mode end.pass lists rows
    (λ p lt. c.loop-partition.invariant.empty p (omega (arith, long, sized, lt))) (c.loop-partition.invariant.split rows s)
