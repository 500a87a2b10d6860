use Rattle.std.proofs.Common.{◌+◌, ◌*◌, sym, arith}
use Rattle.std.proofs.lemmas.Bool.{lt-ltb}
use Rattle.std.proofs.lemmas.Option.{slice_get_read}
use Rattle.fkv_partition.proofs.ApartLemmas.{some-all}
use Rattle.fkv_partition.proofs.contexts.relocation_at.Goals as goal

pub returns-clause-value : goal.returns-clause-value
returns-clause-value g c =
    let here = slice_get_read c.args.contexts.now 128 (c.args.slot * 8 + c.args.context) c.index-contexts-slot.result (sym c.requires.places) (omega arith) c.index-contexts-slot.is in
    rw (lt-ltb c.args.context 8 (omega arith), here) c.relocation_in.ensures

pub returns-clause-context : goal.returns-clause-context
returns-clause-context g c = some-all c.relocation_in.result (omega arith)
