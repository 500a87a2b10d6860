use Rattle.std.proofs.Common.{rules, ◌<◌, ◌++◌, [], ◌∷◌, length, map, sym, ap, ◌∙◌, arith}
use Rattle.std.specs.Prelude.{FitsSigned}
use Rattle.std.specs.Int.{w64}
use Rattle.std.proofs.lemmas.Int.{to_z-of_z}
use Rattle.std.proofs.lemmas.List.{length-map, length-set}
use Rattle.fkv_partition.specs.Views.{partition_of}
use Rattle.fkv_workers.proofs.SplitLemmas.{split_more}
use Rattle.fkv_workers.proofs.working.RowsRowSink.add.Goals as goal

pub make-requires : goal.make-requires
make-requires g c =
    let s = c.requires.1 in
    let within = c.home-partition.ensures.within in
    let old = length-map c.args.self.now.waiting.items (λ rows. rows.items) in
    let new = length-map c.put.new.waiting.items (λ rows. rows.items) in
    let same = ap length c.in-Ok-true.ensures.ok ∙ length-set (map (λ rows. rows.items) c.args.self.now.waiting.items) c.home-partition.result _ in
    omega (arith, within, s.0.sized, s.1, old, new, same)

pub returns-in-Ok-false-clause-ok : goal.returns-in-Ok-false-clause-ok
returns-in-Ok-false-clause-ok g c rows s =
    let code = g.F.Functions.code in
    let fits : FitsSigned w64 c.args.amount = search rules in
    let home = ap (λ n. partition_of n (code c.args.key.now)) s.1 ∙ sym c.home-partition.ensures.value in
    let within : c.home-partition.result < length c.args.self.now.pass.told = rw s.1 c.home-partition.ensures.within in (
      rw (rw (to_z-of_z w64 c.args.amount fits) at c.in-Ok-false.ensures.ok)
          (split_more g.H.Recorder.keeps code g.M.ByMode.mode c.args.self.now.pass (map (λ rows. rows.items) c.args.self.now.waiting.items) rows c.home-partition.result (c.args.key.now, c.args.amount) s.0 home within fits),
      s.1,
      s.2,
    )

pub returns-in-Ok-clause-ok : goal.returns-in-Ok-clause-ok
returns-in-Ok-clause-ok g c rows s =
    let code = g.F.Functions.code in
    let fits : FitsSigned w64 c.args.amount = search rules in
    let home = ap (λ n. partition_of n (code c.args.key.now)) s.1 ∙ sym c.home-partition.ensures.value in
    let within : c.home-partition.result < length c.args.self.now.pass.told = rw s.1 c.home-partition.ensures.within in (
      rw s.2 at c.in-Ok.ensures.ok (rows ++ (c.args.key.now, c.args.amount) ∷ [])
          (rw (rw (to_z-of_z w64 c.args.amount fits) at c.in-Ok-true.ensures.ok)
          (split_more g.H.Recorder.keeps code g.M.ByMode.mode c.args.self.now.pass (map (λ rows. rows.items) c.args.self.now.waiting.items) rows c.home-partition.result (c.args.key.now, c.args.amount) s.0 home within fits)),
      rw c.in-Ok.ensures.store (c.in-Ok.ensures.long ∙ s.1),
      c.in-Ok.ensures.mode ∙ s.2,
    )
