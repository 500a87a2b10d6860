use Rattle.std.proofs.Common.{◌⊎◌, Some, Result, Ok, Err, inl, inr}
use Rattle.std.specs.Prelude.{IfOk}
use Rattle.std.proofs.lemmas.Bool.{cases_Bool}
use Rattle.fkv_device.specs.Known.{Pages, are_kept}
use Rattle.fkv_device.proofs.KnownLemmas.{collision}
use Rattle.fkv_test_storage.proofs.replays.read_back_in.Goals as goal

right : {T E : Type 0} (r : Result T E) (P : T → Type 0) (S : Type 0) → IfOk r P → IfOk r (λ x. P x ⊎ S)
right (Ok x) P S h = inl h
right (Err e) P S h = tt

spoilt : {T E : Type 0} (r : Result T E) (P : T → Type 0) (S : Type 0) → S → IfOk r (λ x. P x ⊎ S)
spoilt (Ok x) P S s = inr s
spoilt (Err e) P S s = tt

pub returns : goal.returns
returns c =
    let pages : Pages = record { taken = c.args.taken.now; given = c.args.given.now } in
    elim (cases_Bool (are_kept (Some pages))) [
      | inl keeps ↦ right c.read_back_on.result _ _ (c.read_back_on.ensures keeps)
      | inr collide ↦ spoilt c.read_back_on.result _ _ (collision pages collide)
    ]
