use Rattle.fkv_partition.proofs.StayLemmas.{goes-others, installs-others, refreshes-all, shifts-all, evicts-all, flushes-all, enters-all, leaves-all, issues-all, gives-up-others}
use Rattle.fkv_partition.proofs.DecidedLemmas.{replaced-high, replaced-some}
use Rattle.fkv_partition.proofs.FindsLemmas.{goes-find, installs-find}
use Rattle.fkv_partition.proofs.pending_laws.pendings_stay.Goals as goal

pub returns : goal.returns
returns g c = record {
  goes = λ keeps stands cmp join f code old new slot at now result yes_keeps order s goes.
      goes-others cmp join code old s yes_keeps new slot at now stands f result
      (λ e key payload has k a low. c.records_grow.ensures.kept cmp old.records e key payload has k a low)
      (λ x value told e d last k a low still.
      c.records_change.ensures.kept cmp keeps code old.records e.address value k a s.traced
      (replaced-some cmp join f code old slot at x value told e order s
      (λ k w entered met. c.meetings_tell.ensures.mutable keeps cmp join code old.records k slot w order s.traced s.resolved entered met)
      (λ k w entered m. c.meetings_tell.ensures.unfrozen keeps cmp join code old.records k slot w s.traced s.resolved entered m) d last)
      (replaced-high cmp join f code old slot at x value told e order s
      (λ k w entered met. c.meetings_tell.ensures.mutable keeps cmp join code old.records k slot w order s.traced s.resolved entered met)
      (λ k w entered m. c.meetings_tell.ensures.unfrozen keeps cmp join code old.records k slot w s.traced s.resolved entered m) d last) still)
      goes;
  finds = λ keeps stands cmp join f code old new slot at now progress order s goes.
      goes-find cmp join f code old new slot at now stands order s progress goes;
  installs = λ keeps cmp join f code old new slot at ask now result yes_keeps s installs.
      installs-others cmp join code old s yes_keeps new slot at now f ask result
      (λ e key payload has k a low. c.records_grow.ensures.kept cmp old.records e key payload has k a low)
      installs;
  built = λ cmp join f code old new slot at ask now progress installs. installs-find cmp join f code old new slot at now ask progress installs;
  refreshes = λ keeps cmp old new slot now result yes_keeps h. refreshes-all keeps cmp old new slot now result yes_keeps h;
  shifts = λ keeps cmp old new page now result yes_keeps h. shifts-all keeps cmp old new page now result yes_keeps h;
  evicts = λ keeps cmp old new page now result yes_keeps h. evicts-all keeps cmp old new page now result yes_keeps h;
  flushes = λ cmp old new s bytes now result h. flushes-all cmp old new s bytes now result h;
  enters = λ keeps cmp join code old new now result s h. enters-all cmp join code old new now result s h;
  leaves = λ keeps cmp old new slot now result yes_keeps h. leaves-all keeps cmp old new slot now result yes_keeps h;
  issues = λ cmp code old new slot at op now h. issues-all cmp code old new slot at op now h;
  gives_up = λ cmp old new slot at now result h. gives-up-others cmp old new slot at now result h;
}
