use Rattle.std.proofs.Common.{refl}
use Rattle.fkv_spills.proofs.SpillLemmas.{unread-all}
use Rattle.fkv_spills.proofs.unread.Unread+V+P+Receipt+P.new.Goals as goal

pub returns-clause-all : goal.returns-clause-all
returns-clause-all g c xs h = unread-all g.V.Fixed.codec g.P.Receipt.Receipt.stands _ xs refl refl h
