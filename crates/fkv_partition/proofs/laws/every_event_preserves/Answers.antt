use Rattle.fkv_functions.proofs.KeyOrder.{key_order}
use Rattle.fkv_hybrid.specs.Spelled.{IsEntryIn}
use Rattle.fkv_partition.proofs.AnyEventLemmas.{event-bears}
use Rattle.fkv_partition.proofs.DecidedLemmas.{replaced-high, replaced-some}
use Rattle.fkv_partition.proofs.PreservedLemmas.{goes-bear, truncates-bear}
use Rattle.fkv_partition.proofs.laws.every_event_preserves.Goals as goal

pub returns : goal.returns
returns g c = λ old new was is event.
    let ord = g.met.F.Key.Ord in
    let cmp = g.F.Key.Ord.cmp in
    let join = g.F.Mergeable.parts.joined in
    let code = g.F.Functions.code in
    let keeps = g.R.Receipt.keeps in
    let stands = g.R.Receipt.stands in
    let order = key_order g.F.Key.PartialEq.eq cmp ord.matches_eq g.met.F.Key.FixedKey.exact ord.total in
    event-bears cmp join code old was new
    (λ e key payload has limit low cleared. c.cleared_stay.ensures.appended cmp old.records e key payload has limit low cleared)
    stands (IsEntryIn g.F.Key.Fixed.codec g.F.Value.Fixed.codec) g.F.Functions.meaning order is
    (λ slot at now result goes.
    goes-bear cmp join code old was.sound new slot at now stands g.F.Functions.meaning result order
    (λ e key value limit low cleared. c.cleared_stay.ensures.appended cmp old.records e key value limit low cleared)
    (λ x value told e d last. (
      replaced-some cmp join g.F.Functions.meaning code old slot at x value told e order was.sound
          (λ k w entered met. c.meetings_tell.ensures.mutable keeps cmp join code old.records k slot w order was.sound.traced was.sound.resolved entered met)
          (λ k w entered m. c.meetings_tell.ensures.unfrozen keeps cmp join code old.records k slot w was.sound.traced was.sound.resolved entered m) d last,
      replaced-high cmp join g.F.Functions.meaning code old slot at x value told e order was.sound
          (λ k w entered met. c.meetings_tell.ensures.mutable keeps cmp join code old.records k slot w order was.sound.traced was.sound.resolved entered met)
          (λ k w entered m. c.meetings_tell.ensures.unfrozen keeps cmp join code old.records k slot w was.sound.traced was.sound.resolved entered m) d last,
    ))
    (λ a value some high k b still. c.records_change.ensures.kept cmp keeps code old.records a value k b was.sound.traced some high still)
    (λ a value limit low cleared. c.cleared_stay.ensures.changed cmp old.records a value limit low cleared)
    goes)
    (λ page now result clear truncates.
    truncates-bear cmp join code old was.sound new page now result order clear
    (λ low limit cleared. c.cleared_stay.ensures.dropped cmp old.records low limit cleared) is.sound.traced is.sound.resolved truncates)
    event
