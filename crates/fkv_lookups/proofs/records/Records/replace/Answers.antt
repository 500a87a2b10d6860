use Rattle.std.proofs.Common.{Some, None, refl, sym, subst}
use Rattle.fkv_functions.proofs.KeyOrder.{key_order}
use Rattle.fkv_records.specs.Records.{size_of}
use Rattle.fkv_lookups.specs.Traced.{IsTraced}
use Rattle.fkv_lookups.proofs.TracedLemmas.{traced-value}
use Rattle.fkv_lookups.proofs.ReplaceLemmas.{replaceable-raw, some-there, value-there, whole-there, records-changed}
use Rattle.fkv_lookups.proofs.records.Records.replace.Goals as goal

pub write_value-requires-clause-value : goal.write_value-requires-clause-value
write_value-requires-clause-value g c =
    let r = replaceable-raw g.F.Key.Ord.cmp g.F.Mergeable.parts.joined _ c.args.address refl (rw (← c.self.view_is) at c.requires.last) in
    value-there g.F.Key.Ord.cmp g.F.Mergeable.parts.joined _ c.args.address r

pub set_tombstone-requires-clause-entry : goal.set_tombstone-requires-clause-entry
set_tombstone-requires-clause-entry g c =
    let r = replaceable-raw g.F.Key.Ord.cmp g.F.Mergeable.parts.joined _ c.args.address refl (rw (← c.self.view_is) at c.requires.last) in
    some-there g.F.Key.Ord.cmp g.F.Mergeable.parts.joined _ c.args.address r

pub set_tombstone-requires-clause-whole : goal.set_tombstone-requires-clause-whole
set_tombstone-requires-clause-whole g c =
    let r = replaceable-raw g.F.Key.Ord.cmp g.F.Mergeable.parts.joined _ c.args.address refl (rw (← c.self.view_is) at c.requires.last) in
    whole-there g.F.Key.Ord.cmp g.F.Mergeable.parts.joined _ c.args.address r

pub invariant_of-self : goal.invariant_of-self
invariant_of-self g c =
    let i = c.self.inside in
    let ord = g.met.F.Key.Ord in
    let order = key_order g.F.Key.PartialEq.eq g.F.Key.Ord.cmp ord.matches_eq g.met.F.Key.FixedKey.exact ord.total in
    let r = replaceable-raw g.F.Key.Ord.cmp g.F.Mergeable.parts.joined _ c.args.address refl (rw (← c.self.view_is) at c.requires.last) in
    let is = records-changed g.F.Key.Ord.cmp g.F.Mergeable.parts.joined i.partition_bits i.bucket_bits (size_of g.F.Key.Fixed.SIZE g.F.Value.Fixed.SIZE) i.index i.log c.write_value.new.self c.args.address (Some c.in-Some.value) order c.self.invariant r c.write_value.ensures in
    subst (IsTraced g.R.Receipt.keeps g.F.Functions.code) (sym is) (traced-value _ c.args.address (Some c.in-Some.value) c.self.invariant)

pub invariant_of-self-in-None : goal.invariant_of-self-in-None
invariant_of-self-in-None g c =
    let i = c.self.inside in
    let ord = g.met.F.Key.Ord in
    let order = key_order g.F.Key.PartialEq.eq g.F.Key.Ord.cmp ord.matches_eq g.met.F.Key.FixedKey.exact ord.total in
    let r = replaceable-raw g.F.Key.Ord.cmp g.F.Mergeable.parts.joined _ c.args.address refl (rw (← c.self.view_is) at c.requires.last) in
    let is = records-changed g.F.Key.Ord.cmp g.F.Mergeable.parts.joined i.partition_bits i.bucket_bits (size_of g.F.Key.Fixed.SIZE g.F.Value.Fixed.SIZE) i.index i.log c.set_tombstone.new.self c.args.address None order c.self.invariant r c.set_tombstone.ensures in
    subst (IsTraced g.R.Receipt.keeps g.F.Functions.code) (sym is) (traced-value _ c.args.address None c.self.invariant)

pub returns-in-Some : goal.returns-in-Some
returns-in-Some g c =
    let i = c.self.inside in
    let ord = g.met.F.Key.Ord in
    let order = key_order g.F.Key.PartialEq.eq g.F.Key.Ord.cmp ord.matches_eq g.met.F.Key.FixedKey.exact ord.total in
    let r = replaceable-raw g.F.Key.Ord.cmp g.F.Mergeable.parts.joined _ c.args.address refl (rw (← c.self.view_is) at c.requires.last) in
    let is = records-changed g.F.Key.Ord.cmp g.F.Mergeable.parts.joined i.partition_bits i.bucket_bits (size_of g.F.Key.Fixed.SIZE g.F.Value.Fixed.SIZE) i.index i.log c.write_value.new.self c.args.address (Some c.in-Some.value) order c.self.invariant r c.write_value.ensures in
    rw (← c.self.view_is, c.in-Some.is) is

pub returns-in-None : goal.returns-in-None
returns-in-None g c =
    let i = c.self.inside in
    let ord = g.met.F.Key.Ord in
    let order = key_order g.F.Key.PartialEq.eq g.F.Key.Ord.cmp ord.matches_eq g.met.F.Key.FixedKey.exact ord.total in
    let r = replaceable-raw g.F.Key.Ord.cmp g.F.Mergeable.parts.joined _ c.args.address refl (rw (← c.self.view_is) at c.requires.last) in
    let is = records-changed g.F.Key.Ord.cmp g.F.Mergeable.parts.joined i.partition_bits i.bucket_bits (size_of g.F.Key.Fixed.SIZE g.F.Value.Fixed.SIZE) i.index i.log c.set_tombstone.new.self c.args.address None order c.self.invariant r c.set_tombstone.ensures in
    rw (← c.self.view_is, c.in-None.is) is
