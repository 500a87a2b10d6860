-- Passes of a store, and those of another.
use Rattle.std.proofs.Common.{inl, inr}
use Rattle.fkv_functions.specs.declared.refusals.Refused.{Refused}
use Rattle.fkv_functions.specs.declared.refusals.Refused.TheVariants.{Stranger}
use Rattle.fkv_functions.specs.declared.refusals.What.TheVariants as what
use Rattle.fkv_store.specs.Passes.{PassView, IsPassOf, IsStrange}
use Rattle.fkv_store.specs.Stores.{StoreView}

pub apart : {K V I O : Type 0} (s : StoreView) (p : PassView K V I O) (why : Refused) → IsStrange s p why → IsPassOf s p → ⊥
apart s p (Stranger what.Pass held came) h of = elim h [ inl store ↦ store.0 of.0 | inr count ↦ count.1 of.1 ]
apart s p other h of = h
