-- An update or a merge that was answered.
use Rattle.std.proofs.Common.{ℕ, Bool, Some, refl, sym, ap, subst, ◌∙◌}
use Rattle.fkv_operations.specs.declared.operations.KeyedOp.{KeyedOp}
use Rattle.fkv_operations.specs.declared.operations.Answer.{Answer}
use Rattle.fkv_store.specs.Passes.{PassView, IsUpdateBy, Runs, Updates}

pub ran_update : {K V I O : Type 0} (keeps : Bool) (old new : PassView K V I O) (p : ℕ) (key : K) (input : I) (ran : KeyedOp K V I)
    → IsUpdateBy key input ran
    → (a : Answer O) → Runs keeps old new p ran a
    → Updates keeps old new p key input
ran_update keeps old new p key input ran is a h = (
  h.0,
  subst (IsUpdateBy key input) (sym h.1.op_is) is,
  record {
    op_is = refl;
    answer_is = refl;
    fresh = h.1.fresh;
    own_is = h.1.own_is;
    told_is = h.1.told_is;
    share_is = h.1.share_is;
    last_is = h.1.last_is ∙ ap Some (sym h.1.answer_is);
    store_is = h.1.store_is;
    sized = h.1.sized;
  },
)
