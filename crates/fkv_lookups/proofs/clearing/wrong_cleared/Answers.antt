use Rattle.std.proofs.Common.{inl, refl}
use Rattle.fkv_lookups.proofs.WrongLemmas.{first-superseded, last-holds, none-below, not-past}
use Rattle.fkv_lookups.proofs.clearing.wrong_cleared.Goals as goal

pub returns : goal.returns
returns c = record {
  last = λ v w. (first-superseded v w, last-holds v w);
  tombstone = λ v. inl refl;
  cleared = λ v w. (none-below v w, not-past v w);
}
