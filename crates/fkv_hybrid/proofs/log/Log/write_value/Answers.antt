use Rattle.std.proofs.Common.{◌∙◌, Some, IsSome, refl, subst}
use Rattle.fkv_texts.specs.Text.{value_of}
use Rattle.fkv_hybrid.proofs.PageLemmas.{valued, the_text, log_of, view_of}
use Rattle.fkv_hybrid.proofs.EditLemmas.{mutable, edited_seen}
use Rattle.fkv_hybrid.proofs.log.Log.write_value.Goals as goal

pub put_value-requires-clause-held : goal.put_value-requires-clause-held
put_value-requires-clause-held g c =
    let i = c.self.inside in
    let m = mutable g.K.Fixed.codec g.V.Fixed.codec g.R.Receipt.keeps i.shape i.begin i.regions i.tail _ i.frames i.text.0.0 c.args.address _ c.self.view_is c.self.invariant.pages (valued _ c.requires.value) c.requires.mutable in
    rw (c.self.invariant.pages.ringed.bits_same, m.here.here) refl

pub put_value-requires-clause-place : goal.put_value-requires-clause-place
put_value-requires-clause-place g c =
    let i = c.self.inside in
    let m = mutable g.K.Fixed.codec g.V.Fixed.codec g.R.Receipt.keeps i.shape i.begin i.regions i.tail _ i.frames i.text.0.0 c.args.address _ c.self.view_is c.self.invariant.pages (valued _ c.requires.value) c.requires.mutable in
    m.here.place

pub invariant_of-self-inside : goal.invariant_of-self-inside
invariant_of-self-inside g c =
    let i = c.self.inside in
    let m = mutable g.K.Fixed.codec g.V.Fixed.codec g.R.Receipt.keeps i.shape i.begin i.regions i.tail _ i.frames i.text.0.0 c.args.address _ c.self.view_is c.self.invariant.pages (valued _ c.requires.value) c.requires.mutable in
    let l = edited_seen g.K.Fixed.codec g.V.Fixed.codec g.R.Receipt.keeps i.shape i.begin i.regions i.tail _ i.frames c.put_value.new.frames i.text.0.0 c.args.address (λ r. IsSome r.value) (Some c.args.value) _ c.self.view_is c.self.invariant.pages c.requires.mutable m (subst (λ o. IsSome (value_of o)) m.is (rw (← c.self.view_is) at c.requires.value)) c.put_value.ensures.facts (λ d. refl) c.put_value.ensures.edited in
    (the_text g.K.Fixed.codec g.V.Fixed.codec _ _ g.row.K.coded g.row.V.coded _ _ _ l.0.spelled, tt)

pub invariant_of-self : goal.invariant_of-self
invariant_of-self g c =
    let i = c.self.inside in
    let m = mutable g.K.Fixed.codec g.V.Fixed.codec g.R.Receipt.keeps i.shape i.begin i.regions i.tail _ i.frames i.text.0.0 c.args.address _ c.self.view_is c.self.invariant.pages (valued _ c.requires.value) c.requires.mutable in
    let l = edited_seen g.K.Fixed.codec g.V.Fixed.codec g.R.Receipt.keeps i.shape i.begin i.regions i.tail _ i.frames c.put_value.new.frames i.text.0.0 c.args.address (λ r. IsSome r.value) (Some c.args.value) _ c.self.view_is c.self.invariant.pages c.requires.mutable m (subst (λ o. IsSome (value_of o)) m.is (rw (← c.self.view_is) at c.requires.value)) c.put_value.ensures.facts (λ d. refl) c.put_value.ensures.edited in
    record { pages = log_of g.K.Fixed.codec g.V.Fixed.codec g.R.Receipt.keeps i.shape i.begin i.regions.offsets.closed i.regions.offsets.safe_read_only i.tail _ c.put_value.new.frames c.self-1.given.0 _ l.0; agrees = c.self.invariant.agrees }

pub returns : goal.returns
returns g c =
    let i = c.self.inside in
    let m = mutable g.K.Fixed.codec g.V.Fixed.codec g.R.Receipt.keeps i.shape i.begin i.regions i.tail _ i.frames i.text.0.0 c.args.address _ c.self.view_is c.self.invariant.pages (valued _ c.requires.value) c.requires.mutable in
    let l = edited_seen g.K.Fixed.codec g.V.Fixed.codec g.R.Receipt.keeps i.shape i.begin i.regions i.tail _ i.frames c.put_value.new.frames i.text.0.0 c.args.address (λ r. IsSome r.value) (Some c.args.value) _ c.self.view_is c.self.invariant.pages c.requires.mutable m (subst (λ o. IsSome (value_of o)) m.is (rw (← c.self.view_is) at c.requires.value)) c.put_value.ensures.facts (λ d. refl) c.put_value.ensures.edited in
    view_of g.K.Fixed.codec g.V.Fixed.codec g.R.Receipt.keeps i.shape i.begin i.regions i.tail _ c.put_value.new.frames c.self-1.given.0 _ l.0 ∙ l.1
