use Rattle.std.proofs.Common.{◌≡◌, ◌∙◌, inl, inr, true, false, Some, ap, sym, refl, arith}
use Rattle.fkv_texts.specs.Text.{entry_at}
use Rattle.fkv_hybrid.specs.Spelled.{record_of, IsIn}
use Rattle.fkv_hybrid.proofs.PageLemmas.{some_is, if_is}
use Rattle.fkv_hybrid.proofs.ReadLemmas.{no_value, a_value, tombstone_whole}
use Rattle.fkv_hybrid.proofs.log.Log.look_at.Goals as goal

pub returns-then-not-is_of-clause-passed : goal.returns-then-not-is_of-clause-passed
returns-then-not-is_of-clause-passed g c =
    let f = some_is (entry_at c.args.self.now.text c.args.address) c.requires.there in
    let h = if_is (entry_at c.args.self.now.text c.args.address) (IsIn g.K.Fixed.codec g.V.Fixed.codec c.args.address c.bytes_at-bytes.result.now) f.0 c.bytes_at-bytes.ensures.spelled f.1 in
    let link = c.link_of.ensures (record_of f.0) h.sound.fits h.spells in
    let other = c.is_of.ensures (record_of f.0) h.sound.key_known h.spells in
    rw f.1 (
      (λ same. let is = other.1 same in let no : false ≡ true = sym c.if-not-is_of.true ∙ is in cc),
      sym (ap (λ x. x.previous) link),
    )

pub returns-then-not-is_of-clause-falls : goal.returns-then-not-is_of-clause-falls
returns-then-not-is_of-clause-falls g c =
    let f = some_is (entry_at c.args.self.now.text c.args.address) c.requires.there in
    let h = if_is (entry_at c.args.self.now.text c.args.address) (IsIn g.K.Fixed.codec g.V.Fixed.codec c.args.address c.bytes_at-bytes.result.now) f.0 c.bytes_at-bytes.ensures.spelled f.1 in
    let link = c.link_of.ensures (record_of f.0) h.sound.fits h.spells in
    let low = h.first in
    rw link (elim h.sound.previous [ inl one ↦ omega (arith, one, low) | inr less ↦ less.1 ])

pub returns-then-header-clause-met : goal.returns-then-header-clause-met
returns-then-header-clause-met g c =
    let f = some_is (entry_at c.args.self.now.text c.args.address) c.requires.there in
    let h = if_is (entry_at c.args.self.now.text c.args.address) (IsIn g.K.Fixed.codec g.V.Fixed.codec c.args.address c.bytes_at-bytes.result.now) f.0 c.bytes_at-bytes.ensures.spelled f.1 in
    let link = c.link_of-header.ensures (record_of f.0) h.sound.fits h.spells in
    let key = (c.is_of.ensures (record_of f.0) h.sound.key_known h.spells).0 c.if-not-is_of.false in
    let none = no_value f.0.value (sym (ap (λ x. x.is_tombstone) link) ∙ c.if-header.true) in
    let no_delta : f.0.delta ≡ false = tombstone_whole f.0.delta f.0.value none h.sound.whole in
    rw c.entry_with.ensures (
      f.1 ∙ ap Some (λ j. record { address = h.stands j; previous = sym (ap (λ x. x.previous) link) j; key = key j; value = none j; delta = no_delta j }),
      refl,
    )

pub returns-clause-met : goal.returns-clause-met
returns-clause-met g c =
    let f = some_is (entry_at c.args.self.now.text c.args.address) c.requires.there in
    let h = if_is (entry_at c.args.self.now.text c.args.address) (IsIn g.K.Fixed.codec g.V.Fixed.codec c.args.address c.bytes_at-bytes.result.now) f.0 c.bytes_at-bytes.ensures.spelled f.1 in
    let link = c.link_of-header.ensures (record_of f.0) h.sound.fits h.spells in
    let key = (c.is_of.ensures (record_of f.0) h.sound.key_known h.spells).0 c.if-not-is_of.false in
    let some = a_value f.0.value (sym (ap (λ x. x.is_tombstone) link) ∙ c.if-header.false) in
    let facts : g.V.Fixed.codec.is_known some.0 = if_is f.0.value g.V.Fixed.codec.is_known some.0 h.sound.value_known some.1 in
    let value = some.1 ∙ sym (c.value_of-value.ensures (record_of f.0) some.0 some.1 facts h.spells) in
    rw c.entry_with-2.ensures (
      f.1 ∙ ap Some (λ j. record { address = h.stands j; previous = sym (ap (λ x. x.previous) link) j; key = key j; value = value j; delta = sym (ap (λ x. x.is_delta) link) j }),
      refl,
    )
