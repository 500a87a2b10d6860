use Rattle.std.proofs.Common.{map, slice_set, ap, ◌∙◌}
use Rattle.std.proofs.lemmas.List.{map-set}
use Rattle.fkv_workers.proofs.waiting.clear.Goals as goal

pub returns : goal.returns
returns c =
    map-set (λ rows. rows.items) c.args.waiting.now.items c.args.partition c.clear.new.self
    ∙ ap (λ l. slice_set (map (λ rows. rows.items) c.args.waiting.now.items) c.args.partition l) c.clear.ensures.items
