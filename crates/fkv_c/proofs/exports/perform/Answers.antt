use Rattle.std.proofs.Common.{refl, arith}
use Rattle.fkv_c.specs.Stores.{FitsIn, Refuses}
use Rattle.fkv_c.specs.Leading.{kind_of}
use Rattle.fkv_c.proofs.StatusLemmas.{number_fault}
use Rattle.fkv_c.proofs.exports.perform.Goals as goal

pub returns-in-Err : goal.returns-in-Err
returns-in-Err c =
    let old = c.args.store.now.held in
    let some = c.number.ensures.some in
    record {
      kind = c.in-Err.ensures.kind;
      set = c.in-Err.ensures.set;
      told = number_fault (kind_of old) (FitsIn old c.args.op) (Refuses old c.operate.new.handle.held c.args.op) c.in-Err.fault c.number.result c.number.ensures.value c.in-Err.ensures.told;
      done = λ none. absurd (omega arith);
      left = λ n. (c.in-Err.ensures.made, refl);
      cells = c.in-Err.ensures.cells;
    }
