use Rattle.std.proofs.Common.{◌≡◌, Bool, List, Option, slice_get, refl, sym, ◌∙◌, ap}
use Rattle.std.proofs.lemmas.Option.{slice_get_past}
use Rattle.fkv_partition.specs.Views.{PartitionView}
use Rattle.fkv_lives.specs.declared.steps.ContextId.{ContextId}
use Rattle.fkv_worlds.specs.States.{StateView}
use Rattle.fkv_worlds.specs.Reports.{awaits_at}
use Rattle.fkv_worlds.proofs.StateLemmas.{at-index}
use Rattle.fkv_worlds.proofs.states.State.awaits_page.Goals as goal

awaits-there : {K V I O R : Type 0} {s t : StateView K V I O R} {views : List (PartitionView K V I)} {o : Option (PartitionView K V I)} {b : Bool} (w : ContextId) → s ≡ t → views ≡ s.partitions → slice_get views w.partition ≡ o → b ≡ awaits_at o w.slot w.context → b ≡ awaits_at (slice_get t.partitions w.partition) w.slot w.context
awaits-there {K} {V} {I} {O} {R} w view e at is =
    is ∙ ap (λ p. awaits_at p w.slot w.context) (sym at ∙ ap (λ vs. slice_get vs w.partition) e ∙ ap (λ (v : StateView K V I O R). slice_get v.partitions w.partition) view)

pub returns-in-None : goal.returns-in-None
returns-in-None g c = awaits-there c.args.place c.self.view_is c.deref.ensures.value (slice_get_past c.deref.result.now c.args.place.partition c.in-None.ensures.lookup.3) refl

pub returns-in-Some : goal.returns-in-Some
returns-in-Some g c =
    let at = c.in-Some.ensures.lookup in
    awaits-there c.args.place c.self.view_is c.deref.ensures.value (at-index c.deref.result.now c.args.place.partition c.in-Some.partition.now at.3.0 at.1) c.awaits_page.ensures
