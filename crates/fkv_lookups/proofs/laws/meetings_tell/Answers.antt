use Rattle.fkv_lookups.proofs.MeetingLemmas.{held-at, mutable-at, fuzzy-at, disk-at, still-at, unfrozen-at}
use Rattle.fkv_lookups.proofs.laws.meetings_tell.Goals as goal

pub returns : goal.returns
returns g c = record {
  held = λ keeps cmp join code v k slot order t s entered. held-at cmp join code v k order t s slot entered;
  mutable = λ keeps cmp join code v k slot w order t s entered is. mutable-at cmp join code v k order t s slot entered w is;
  unfrozen = λ keeps cmp join code v k slot w t s entered m. unfrozen-at c.by_region.ensures v slot t entered m.entry.address m.region;
  fuzzy = λ keeps cmp join code v k slot w order t s entered is. fuzzy-at cmp join code v k order t s slot entered w is;
  still = λ keeps cmp join code v k slot order t s entered is. still-at cmp join code v k order t s slot entered c.by_region.ensures is;
  wanted = λ keeps cmp join code v k slot b parts order t s entered is. disk-at cmp join code v k order t s slot entered b parts is;
}
