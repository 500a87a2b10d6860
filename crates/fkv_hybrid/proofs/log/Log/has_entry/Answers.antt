use Rattle.std.proofs.Common.{◌<◌, ◌≤◌, ap, arith}
use Rattle.fkv_hybrid.proofs.PageLemmas.{place_entry, entry_place, begins_high}
use Rattle.fkv_hybrid.proofs.log.Log.has_entry.Goals as goal

pub returns : goal.returns
returns g c =
    let i = c.self.inside in
    let begun : i.begin ≤ c.args.address = omega arith in
    let low : i.regions.offsets.closed ≤ c.args.address = (let at = ap (λ o. o.closed) c.offsets.ensures in omega (arith, at)) in
    let high : c.args.address < i.tail = omega arith in
    rw (← c.self.view_is) (
      (λ yes. (low, place_entry g.K.Fixed.codec g.V.Fixed.codec g.R.Receipt.keeps i.shape i.begin i.regions.offsets.closed i.regions.offsets.safe_read_only i.tail _ i.frames i.text.0.0 c.args.address c.self.invariant.pages begun low high (c.is_record_start.ensures.value.0 yes))),
      (λ h. let s = entry_place g.K.Fixed.codec g.V.Fixed.codec g.R.Receipt.keeps i.shape i.begin i.regions.offsets.closed i.regions.offsets.safe_read_only i.tail _ i.frames i.text.0.0 c.args.address c.self.invariant.pages h.1 in c.is_record_start.ensures.value.1 s.place),
    )

pub returns-then-address-self : goal.returns-then-address-self
returns-then-address-self g c =
    let i = c.self.inside in
    let before : c.args.address < i.begin = omega arith in
    let begun = begins_high g.R.Receipt.keeps i.begin i.regions.offsets.closed in
    rw (← c.self.view_is) (
      (λ yes. absurd (cc)),
      (λ h. let s = entry_place g.K.Fixed.codec g.V.Fixed.codec g.R.Receipt.keeps i.shape i.begin i.regions.offsets.closed i.regions.offsets.safe_read_only i.tail _ i.frames i.text.0.0 c.args.address c.self.invariant.pages h.1 in let low = s.low in absurd (omega arith)),
    )

pub returns-then-address-self-2 : goal.returns-then-address-self-2
returns-then-address-self-2 g c =
    let i = c.self.inside in
    let past : i.tail ≤ c.args.address = omega arith in
    let some = i.shape.limits.some in
    rw (← c.self.view_is) (
      (λ yes. absurd (cc)),
      (λ h. let s = entry_place g.K.Fixed.codec g.V.Fixed.codec g.R.Receipt.keeps i.shape i.begin i.regions.offsets.closed i.regions.offsets.safe_read_only i.tail _ i.frames i.text.0.0 c.args.address c.self.invariant.pages h.1 in let high = s.high in absurd (omega arith)),
    )
