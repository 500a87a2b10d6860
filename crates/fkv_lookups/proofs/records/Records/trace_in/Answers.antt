use Rattle.std.proofs.Common.{◌≡◌, ◌∙◌, refl, sym, subst, arith}
use Rattle.fkv_functions.proofs.KeyOrder.{key_order}
use Rattle.fkv_records.specs.Places.{IsShape}
use Rattle.fkv_records.specs.Records.{size_of}
use Rattle.fkv_hybrid.proofs.FrameLemmas.{page_rises}
use Rattle.fkv_lookups.specs.Traced.{IsTraced}
use Rattle.fkv_lookups.specs.Lookups.ComesToInPage.{refused}
use Rattle.fkv_lookups.proofs.LookupLemmas.{raw-traced, FirstComesTo}
use Rattle.fkv_lookups.proofs.WayLemmas.{kept-told, kept-begins, kept-class, kept-on, kept-end, read-begins, read-falls, read-low, read-smaller, read-on, read-refused, read-end}
use Rattle.fkv_lookups.proofs.records.Records.trace_in.Goals as goal

pub returns-in-Err-clause-read : goal.returns-in-Err-clause-read
returns-in-Err-clause-read g c = rw (← c.self.view_is) (refused c.in-Err.ensures.read)

pub returns-in-Err-clause-kept : goal.returns-in-Err-clause-kept
returns-in-Err-clause-kept g c = λ keeps begun class.
    let ord = g.met.F.Key.Ord in
    let facts = g.met.F.Key.FixedKey in
    let order = key_order g.F.Key.PartialEq.eq g.F.Key.Ord.cmp ord.matches_eq facts.exact ord.total in
    let traced : IsTraced g.R.Receipt.keeps g.F.Functions.code c.args.self.now = rw (← c.self.view_is) c.self.invariant in
    let told = kept-told g.F.Key.Ord.cmp g.F.Mergeable.parts.joined g.F.Functions.code c.args.self.now c.args.key.now order traced (rw (← c.self.view_is) refl) c.args.low c.args.from keeps begun c.requires.floor
    c.args.from (λ up. class) c.own_first_in_page.result (rw (← c.self.view_is) (c.own_first_in_page.ensures.kept keeps)) in
    absurd (let both = sym c.in-Err.is ∙ told.1 in cc)

pub loop-last-init : goal.loop-last-init
loop-last-init g c =
    let ord = g.met.F.Key.Ord in
    let facts = g.met.F.Key.FixedKey in
    let order = key_order g.F.Key.PartialEq.eq g.F.Key.Ord.cmp ord.matches_eq facts.exact ord.total in
    let v = c.args.self.now in
    let traced : IsTraced g.R.Receipt.keeps g.F.Functions.code v = rw (← c.self.view_is) c.self.invariant in
    let shape : IsShape v.log.bits (size_of g.F.Key.Fixed.SIZE g.F.Value.Fixed.SIZE) = rw (← c.self.view_is) c.self.invariant.shape in
    record {
      read = read-begins g.F.Mergeable.parts.joined g.F.Key.Fixed.codec g.F.Value.Fixed.codec v.log.bits shape c.args.loaded.now.bytes
          g.F.Key.Ord.cmp c.args.key.now c.args.low c.args.from c.args.parts c.in-Ok.position (rw (← c.self.view_is) c.in-Ok.ensures.read);
      kept = λ keeps begun class.
          let told = kept-told g.F.Key.Ord.cmp g.F.Mergeable.parts.joined g.F.Functions.code v c.args.key.now order traced (rw (← c.self.view_is) refl) c.args.low c.args.from keeps begun c.requires.floor
          c.args.from (λ up. class) c.own_first_in_page.result (rw (← c.self.view_is) (c.own_first_in_page.ensures.kept keeps)) in
          let both = sym told.1 ∙ c.in-Ok.is in
          let same : told.0 ≡ c.in-Ok.position = cc in
          kept-begins g.F.Key.Ord.cmp g.F.Mergeable.parts.joined g.F.Functions.code v c.args.key.now c.args.low c.args.from c.args.parts c.in-Ok.position
          (subst (FirstComesTo g.F.Key.Ord.cmp g.F.Functions.code v c.args.key.now c.args.low c.args.from) same told.2);
    }

pub own_first_in_page-requires-in-Some-clause-within :
    goal.own_first_in_page-requires-in-Some-clause-within
own_first_in_page-requires-in-Some-clause-within g c =
    let v = c.args.self.now in
    let shape : IsShape v.log.bits (size_of g.F.Key.Fixed.SIZE g.F.Value.Fixed.SIZE) = rw (← c.self.view_is) c.self.invariant.shape in
    let falls = read-falls g.F.Mergeable.parts.joined g.F.Key.Fixed.codec g.F.Value.Fixed.codec v.log.bits shape c.args.loaded.now.bytes
    g.F.Key.Ord.cmp c.args.key.now c.args.low c.args.from c.args.parts c.loop-last.parts c.loop-last.position c.loop-last.invariant.read c.in-Some.last c.in-Some.ensures.some.0 in
    let low = read-low g.F.Mergeable.parts.joined g.F.Key.Fixed.codec g.F.Value.Fixed.codec v.log.bits shape c.args.loaded.now.bytes
    g.F.Key.Ord.cmp c.args.key.now c.args.low c.args.from c.args.parts c.loop-last.parts c.loop-last.position c.loop-last.invariant.read c.in-Some.last c.in-Some.ensures.some.0 in
    let page = rw (← c.self.view_is) at c.page_of-page.ensures in
    rw page (page_rises c.self.inside.log.bits c.in-Some.last.previous c.args.from (omega (arith, falls, low)))

pub returns-in-Err-own_first_in_page-clause-read :
    goal.returns-in-Err-own_first_in_page-clause-read
returns-in-Err-own_first_in_page-clause-read g c =
    let v = c.args.self.now in
    let shape : IsShape v.log.bits (size_of g.F.Key.Fixed.SIZE g.F.Value.Fixed.SIZE) = rw (← c.self.view_is) c.self.invariant.shape in
    read-refused g.F.Mergeable.parts.joined g.F.Key.Fixed.codec g.F.Value.Fixed.codec v.log.bits shape c.args.loaded.now.bytes
    g.F.Key.Ord.cmp c.args.key.now c.args.low c.args.from c.args.parts c.loop-last.parts c.loop-last.position c.loop-last.invariant.read c.in-Some.last c.in-Some.ensures.some.0
    c.in-Some.ensures.some.1 c.in-Err-own_first_in_page.refused (rw (← c.self.view_is) c.in-Err-own_first_in_page.ensures.read)

pub returns-in-Err-own_first_in_page-clause-kept :
    goal.returns-in-Err-own_first_in_page-clause-kept
returns-in-Err-own_first_in_page-clause-kept g c = λ keeps begun class.
    let ord = g.met.F.Key.Ord in
    let facts = g.met.F.Key.FixedKey in
    let order = key_order g.F.Key.PartialEq.eq g.F.Key.Ord.cmp ord.matches_eq facts.exact ord.total in
    let v = c.args.self.now in
    let traced : IsTraced g.R.Receipt.keeps g.F.Functions.code v = rw (← c.self.view_is) c.self.invariant in
    let next = kept-class g.F.Key.Ord.cmp g.F.Mergeable.parts.joined g.F.Functions.code v c.args.key.now c.args.low c.args.from c.args.parts c.loop-last.parts c.loop-last.position (c.loop-last.invariant.kept keeps begun class)
    order (raw-traced g.F.Key.Ord.cmp g.F.Mergeable.parts.joined v (rw (← c.self.view_is) refl) traced) c.in-Some.last c.in-Some.ensures.some.0 in
    let told = kept-told g.F.Key.Ord.cmp g.F.Mergeable.parts.joined g.F.Functions.code v c.args.key.now order traced (rw (← c.self.view_is) refl) c.args.low c.args.from keeps begun c.requires.floor
    c.in-Some.last.previous next c.own_first_in_page-in-Some.result (rw (← c.self.view_is) (c.own_first_in_page-in-Some.ensures.kept keeps)) in
    absurd (let both = sym c.in-Err-own_first_in_page.is ∙ told.1 in cc)

pub loop-last-smaller : goal.loop-last-smaller
loop-last-smaller g c =
    let v = c.args.self.now in
    let shape : IsShape v.log.bits (size_of g.F.Key.Fixed.SIZE g.F.Value.Fixed.SIZE) = rw (← c.self.view_is) c.self.invariant.shape in
    read-smaller g.F.Mergeable.parts.joined g.F.Key.Fixed.codec g.F.Value.Fixed.codec v.log.bits shape c.args.loaded.now.bytes
    g.F.Key.Ord.cmp c.args.key.now c.args.low c.args.from c.args.parts c.loop-last.parts c.loop-last.position c.loop-last.invariant.read c.in-Some.last c.in-Some.ensures.some.0
    c.in-Ok-own_first_in_page.position (rw (← c.self.view_is) c.in-Ok-own_first_in_page.ensures.read)

pub loop-last-preserved : goal.loop-last-preserved
loop-last-preserved g c =
    let ord = g.met.F.Key.Ord in
    let facts = g.met.F.Key.FixedKey in
    let order = key_order g.F.Key.PartialEq.eq g.F.Key.Ord.cmp ord.matches_eq facts.exact ord.total in
    let v = c.args.self.now in
    let traced : IsTraced g.R.Receipt.keeps g.F.Functions.code v = rw (← c.self.view_is) c.self.invariant in
    let shape : IsShape v.log.bits (size_of g.F.Key.Fixed.SIZE g.F.Value.Fixed.SIZE) = rw (← c.self.view_is) c.self.invariant.shape in
    rw c.combined-parts.ensures (record {
      read = read-on g.F.Mergeable.parts.joined g.F.Key.Fixed.codec g.F.Value.Fixed.codec v.log.bits shape c.args.loaded.now.bytes
          g.F.Key.Ord.cmp c.args.key.now c.args.low c.args.from c.args.parts c.loop-last.parts c.loop-last.position c.loop-last.invariant.read c.in-Some.last c.in-Some.ensures.some.0
          c.in-Some.ensures.some.1 c.in-Ok-own_first_in_page.position (rw (← c.self.view_is) c.in-Ok-own_first_in_page.ensures.read);
      kept = λ keeps begun class.
          let w = c.loop-last.invariant.kept keeps begun class in
          let next = kept-class g.F.Key.Ord.cmp g.F.Mergeable.parts.joined g.F.Functions.code v c.args.key.now c.args.low c.args.from c.args.parts c.loop-last.parts c.loop-last.position w
          order (raw-traced g.F.Key.Ord.cmp g.F.Mergeable.parts.joined v (rw (← c.self.view_is) refl) traced) c.in-Some.last c.in-Some.ensures.some.0 in
          let told = kept-told g.F.Key.Ord.cmp g.F.Mergeable.parts.joined g.F.Functions.code v c.args.key.now order traced (rw (← c.self.view_is) refl) c.args.low c.args.from keeps begun c.requires.floor
          c.in-Some.last.previous next c.own_first_in_page-in-Some.result (rw (← c.self.view_is) (c.own_first_in_page-in-Some.ensures.kept keeps)) in
          let both = sym told.1 ∙ c.in-Ok-own_first_in_page.is in
          let same : told.0 ≡ c.in-Ok-own_first_in_page.position = cc in
          kept-on g.F.Key.Ord.cmp g.F.Mergeable.parts.joined g.F.Functions.code v c.args.key.now c.args.low c.args.from c.args.parts c.loop-last.parts c.loop-last.position w
          c.in-Some.last c.in-Some.ensures.some.0 c.in-Some.ensures.some.1 c.in-Ok-own_first_in_page.position
          (subst (FirstComesTo g.F.Key.Ord.cmp g.F.Functions.code v c.args.key.now c.args.low c.in-Some.last.previous) same told.2);
    })

pub returns-clause-read : goal.returns-clause-read
returns-clause-read g c =
    let v = c.args.self.now in
    let shape : IsShape v.log.bits (size_of g.F.Key.Fixed.SIZE g.F.Value.Fixed.SIZE) = rw (← c.self.view_is) c.self.invariant.shape in
    read-end g.F.Mergeable.parts.joined g.F.Key.Fixed.codec g.F.Value.Fixed.codec v.log.bits shape c.args.loaded.now.bytes
    g.F.Key.Ord.cmp c.args.key.now c.args.low c.args.from c.args.parts c.loop-last.parts c.loop-last.position c.loop-last.invariant.read (c.delta_at.ensures.none c.in_default.is)

pub returns-clause-kept : goal.returns-clause-kept
returns-clause-kept g c = λ keeps begun class. (
  _,
  refl,
  kept-end g.F.Key.Ord.cmp g.F.Mergeable.parts.joined g.F.Functions.code c.args.self.now c.args.key.now c.args.low c.args.from c.args.parts c.loop-last.parts c.loop-last.position
      (c.loop-last.invariant.kept keeps begun class) (c.delta_at.ensures.none c.in_default.is),
)
