use Rattle.std.specs.Prelude.{◌≡◌, pos}
use Rattle.std.proofs.Common.{sym, ap, ◌∙◌, subst, arith}
use Rattle.fkv_functions.specs.Names.{name_at_once}
use Rattle.fkv_operations.specs.After.{answer}
use Rattle.fkv_operations.specs.declared.operations.KeyedOp.TheVariants.{Read}
use Rattle.fkv_c.specs.Cells.{blind, cell_answer_of}
use Rattle.fkv_c.specs.Stores.{CellsRefuse}
use Rattle.fkv_c.specs.Leading.{kind_of, cells_of, IsCellPerformed}
use Rattle.fkv_c.proofs.LeadLemmas.{keyed}
use Rattle.fkv_c.proofs.StatusLemmas.{cell_fault}
use Rattle.fkv_c.proofs.cell_exports.fkv_c_get.Goals as goal

pub returns-in-Ok-clause-told : goal.returns-in-Ok-clause-told
returns-in-Ok-clause-told c = λ e k f.
    subst (λ n. c.of.result ≡ cell_answer_of (answer blind (cells_of c.args.store.now.held) (Read n (pos 0)))) (name_at_once c.in-Some.key k (c.in-Some.ensures.some ∙ sym f))
    (c.of.ensures ∙ ap cell_answer_of c.in-Ok.ensures.made.1)

pub returns-in-Err-clause-performed : goal.returns-in-Err-clause-performed
returns-in-Err-clause-performed c =
    let old = c.args.store.now.held in
    let new = c.operate_cells.new.handle.held in
    let some = c.number-in-Err.ensures.some in
    keyed (λ op. IsCellPerformed old new op c.number-in-Err.result) (λ n. Read n (pos 0)) c.args.name.now c.in-Some.key c.in-Some.ensures.some (record {
      kind = c.in-Err.ensures.kind;
      set = c.in-Err.ensures.set;
      told = cell_fault (kind_of old) (CellsRefuse old new (Read c.in-Some.key (pos 0))) c.in-Err.fault c.number-in-Err.result c.number-in-Err.ensures.value c.in-Err.ensures.told;
      done = λ none. absurd (omega arith);
      left = λ n. c.in-Err.ensures.made;
      numbers = c.in-Err.ensures.numbers;
    })
