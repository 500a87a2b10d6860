use Rattle.std.proofs.Common.{◌∙◌}
use Rattle.fkv_functions.specs.Names.{name_cmp}
use Rattle.fkv_local.specs.Storing.{plain}
use Rattle.fkv_c.specs.Stores.{name_code}
use Rattle.fkv_c.proofs.CountLemmas.{made_whole}
use Rattle.fkv_c.proofs.UncountedLemmas.{uncounted}
use Rattle.fkv_c.proofs.counting.run_counts.Goals as goal

pub returns-in-Ok-clause-made : goal.returns-in-Ok-clause-made
returns-in-Ok-clause-made c =
    let made = made_whole (plain name_cmp name_code c.args.store.now) (plain name_cmp name_code c.run_store.new.store) c.in-Some.op c.args.op c.in-Ok.answer c.in-Some.ensures.same c.in-Ok.ensures.made.0 c.in-Ok.ensures.made.1 in
    (made.0, c.widened.ensures ∙ made.1)

pub returns-in-Err-clause-told : goal.returns-in-Err-clause-told
returns-in-Err-clause-told c =
    uncounted c.args.store.now c.run_store.new.store c.in-Some.op c.args.op c.in-Err.fault c.in-Some.ensures.same c.in-Some.ensures.fits c.in-Err.ensures.told
