use Rattle.std.proofs.Common.{◌+◌, ◌*◌, sym, arith}
use Rattle.std.proofs.lemmas.Bool.{lt-ltb}
use Rattle.std.proofs.lemmas.Option.{slice_get_read}
use Rattle.fkv_partition.proofs.contexts.holds_relocation.Goals as goal

pub returns : goal.returns
returns g c =
    let here = slice_get_read c.args.contexts.now 128 (c.args.slot * 8 + c.args.context) c.index-contexts-slot.result (sym c.requires.places) (omega arith) c.index-contexts-slot.is in
    rw (lt-ltb c.args.context 8 (omega arith), here) c.is_relocating.ensures
