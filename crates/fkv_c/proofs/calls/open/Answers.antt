use Rattle.std.specs.Prelude.{◌≡◌, None}
use Rattle.std.proofs.Common.{sym, subst}
use Rattle.std.proofs.lemmas.Result.{on_ok_weaker}
use Rattle.fkv_c.specs.Leading.{map_of, cells_of}
use Rattle.fkv_c.proofs.calls.open.Goals as goal

pub returns-in-Ok-clause-empty : goal.returns-in-Ok-clause-empty
returns-in-Ok-clause-empty c =
    on_ok_weaker c.lead.result (λ e k. subst (λ o. map_of o k ≡ None) (sym e) (c.in-Ok.ensures.empty k)) c.lead.ensures.opened

pub returns-in-Ok-clause-no_cells : goal.returns-in-Ok-clause-no_cells
returns-in-Ok-clause-no_cells c =
    on_ok_weaker c.lead.result (λ e k. subst (λ o. cells_of o k ≡ None) (sym e) (c.in-Ok.ensures.no_cells k)) c.lead.ensures.opened
