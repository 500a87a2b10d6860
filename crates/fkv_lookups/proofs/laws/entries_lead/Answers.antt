use Rattle.fkv_lookups.proofs.TracedLemmas.{entry-stands, traced-held, traced-none, traced-low, traced-led}
use Rattle.fkv_lookups.proofs.laws.entries_lead.Goals as goal

pub returns : goal.returns
returns g c = record {
  found = λ keeps code v cl e t stands. entry-stands v.words cl.bucket cl.tag e.place e.word t.map stands;
  held = λ cmp keeps code v k a order t entry. traced-held cmp code v k order t a entry;
  none = λ cmp keeps code v k order t entry. traced-none cmp code v k order t entry;
  low = λ keeps code v cl a t entry. traced-low v cl a t entry;
  led = λ cmp keeps code v order t. traced-led cmp code v order t;
}
