use Rattle.std.proofs.Common.{inl, inr, refl, sym, ◌∙◌, ap, Err}
use Rattle.fkv_device.specs.Standing.{Standing}
use Rattle.fkv_worlds.specs.Devices.{Comes}
use Rattle.fkv_worlds.proofs.Naming.{stands}
use Rattle.fkv_worlds.proofs.flush_slots.read.Goals as goal

pub returns-in-Ok : goal.returns-in-Ok
returns-in-Ok c = Comes.gives c.in-Ok.loaded c.in-Works.is c.in-Ok.ensures.receipt
    (sym (c.receipt-kept.ensures.kept refl) ∙ ap (λ r. (stands r).bytes) c.receipt-kept.ensures.receipt ∙ ap (λ (s : Standing). s.bytes) c.in-Ok.ensures.receipt) refl

-- the page is as long as its receipt says, so no fault has a cause
pub returns : goal.returns
returns c = Comes.wants c.in-Works.is (elim c.in-Err.ensures.counted [
  | inl f ↦ elim f [ inl m ↦ ap Err m.0 | inr d ↦ absurd (c.in-Err.ensures.caused (λ h. let k = sym d.0 ∙ h in absurd (cc)) c.size.ensures) ]
  | inr d ↦ absurd (c.in-Err.ensures.caused (λ h. let k = sym d.0 ∙ h in absurd (cc)) c.size.ensures)
])
