use Rattle.std.proofs.Common.{is_none}
use Rattle.fkv_records.proofs.fields.link_of.Goals as goal

pub returns : goal.returns
returns g c = λ r fits s.
    c.held_in.ensures (record { previous = r.previous; is_tombstone = is_none r.value; is_delta = r.delta }) (record { fits = fits; same = s.header })
