use Rattle.fkv_lookups.proofs.LookupLemmas.{raw-traced, values_tell, between_tells}
use Rattle.fkv_lookups.proofs.MeetingLemmas.{tells, first_tells}
use Rattle.fkv_lookups.proofs.laws.lookups_tell.Goals as goal

pub returns : goal.returns
returns g c = record {
  goes = λ keeps cmp join code v k low a order t s up entry. tells cmp join code v k order t s low up a entry;
  values = λ keeps cmp join code v k low a parts r order t s up class goes. values_tell cmp join code v k order t s low a parts r goes;
  between = λ keeps cmp join code v k low a parts r order t s up class goes.
      between_tells cmp code v k order (raw-traced cmp join v s.is t) join low a parts r goes;
  first = λ keeps cmp join code v k low a order t s entry up. first_tells cmp join code v k order t s low up a entry;
}
