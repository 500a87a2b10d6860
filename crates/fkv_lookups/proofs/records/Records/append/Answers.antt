use Rattle.std.proofs.Common.{IsTrue, IsSome, ◌≢◌, ◌^◌, subst, sym, ◌∙◌, arith}
use Rattle.fkv_records.specs.Records.{size_of, IsPrevious}
use Rattle.fkv_index.specs.Words.{address_of}
use Rattle.fkv_operations.specs.Classes.{class_at, same_class}
use Rattle.fkv_lookups.specs.Payloads.{value_in, is_part}
use Rattle.fkv_lookups.specs.RecordsViews.{leads_to}
use Rattle.fkv_lookups.specs.Traced.{IsTraced}
use Rattle.fkv_lookups.proofs.TracedLemmas.{leads_of, entry-stands, traced-record, moved-there, tail_from, text_then, log-raw, records-appended, part-some}
use Rattle.fkv_lookups.proofs.records.Records.append.Goals as goal

pub append-requires : goal.append-requires
append-requires g c =
    let i = c.self.inside in
    let t = c.self.invariant in
    let own = class_at i.partition_bits i.bucket_bits (g.F.Functions.code c.args.key) in
    let stands = rw (← c.self.view_is) at c.requires in
    record {
      previous = rw c.address.ensures (subst (λ o. IsPrevious i.log.tail (leads_to o)) (entry-stands i.index own.bucket own.tag c.args.entry.place c.args.entry.word t.map stands) (t.placed own));
      whole = λ h. subst IsSome (sym c.value.ensures) (part-some c.args.payload (subst IsTrue c.is_part.ensures h));
    }

pub move_entry-requires-clause-some : goal.move_entry-requires-clause-some
move_entry-requires-clause-some g c =
    let low = tail_from c.self.invariant in
    omega (arith, c.tail-address.ensures.tail, low)

pub move_entry-requires-clause-least : goal.move_entry-requires-clause-least
move_entry-requires-clause-least g c =
    let left : c.tail-address.result ≢ 2 ^ 48 = λ h. let no = c.in-Ok-Some.ensures.worn.1 (sym c.tail-address.ensures.tail ∙ h) in cc in
    omega (arith, c.tail-address.ensures.most, left)

pub invariant_of-self-2 : goal.invariant_of-self-2
invariant_of-self-2 g c =
    let i = c.self.inside in
    let t = c.self.invariant in
    let r = log-raw g.F.Key.Ord.cmp g.F.Mergeable.parts.joined i.partition_bits i.bucket_bits (size_of g.F.Key.Fixed.SIZE g.F.Value.Fixed.SIZE) i.index i.log t in
    let e = c.args.entry in
    let class = λ (k : _). class_at i.partition_bits i.bucket_bits (g.F.Functions.code k) in
    let own = class c.args.key in
    let stands = rw (← c.self.view_is) at c.requires in
    let entry = entry-stands i.index own.bucket own.tag e.place e.word t.map stands in
    let behind = leads_of r own (address_of e.word) entry in
    let chained = c.chains.ensures.kept class same_class i.log.from i.log.text (record { address = i.log.tail; previous = address_of e.word; key = c.args.key; value = value_in c.args.payload; delta = is_part c.args.payload }) r.chained r.below behind in
    let made = c.move_entry.ensures in
    let moved = rw (made.word, c.tail-address.ensures.tail) at (moved-there own e.place e.word c.tail-address.result i.index c.move_entry.new.index stands.bucket stands.tag made.entry made.map made.buckets) in
    let appended = rw (c.in-Ok-Some.field-0-is, c.address.ensures, c.value.ensures, c.is_part.ensures) at c.in-Ok-Some.ensures.appended in
    let word = rw c.tail-address.ensures.tail at made.word in
    let is = records-appended g.F.Key.Ord.cmp g.F.Mergeable.parts.joined i.partition_bits i.bucket_bits (size_of g.F.Key.Fixed.SIZE g.F.Value.Fixed.SIZE) e c.args.key c.args.payload i.log c.append.new.self i.index appended c.move_entry.new.index word in
    subst (IsTraced g.R.Receipt.keeps g.F.Functions.code) (sym is)
    (traced-record _ e c.args.key c.args.payload _ t (text_then g.F.Key.Ord.cmp g.F.Mergeable.parts.joined i.partition_bits i.bucket_bits _ e c.args.key c.args.payload i.log c.append.new.self i.index appended c.facts-2.ensures.log chained) moved)

pub returns-clause-tentative : goal.returns-clause-tentative
returns-clause-tentative g c = rw (← c.self.view_is) c.move_entry.ensures.tentative

pub returns-clause-appended : goal.returns-clause-appended
returns-clause-appended g c =
    let i = c.self.inside in
    let appended = rw (c.in-Ok-Some.field-0-is, c.address.ensures, c.value.ensures, c.is_part.ensures) at c.in-Ok-Some.ensures.appended in
    let word = rw c.tail-address.ensures.tail at c.move_entry.ensures.word in
    rw (← c.self.view_is)
    (records-appended g.F.Key.Ord.cmp g.F.Mergeable.parts.joined i.partition_bits i.bucket_bits (size_of g.F.Key.Fixed.SIZE g.F.Value.Fixed.SIZE) c.args.entry c.args.key c.args.payload i.log c.append.new.self i.index appended c.move_entry.new.index word)
