use Rattle.std.proofs.Common.{◌≡◌, ◌∙◌, inl, inr, Some, ap, arith}
use Rattle.fkv_texts.specs.Text.{entry_at}
use Rattle.fkv_hybrid.specs.Spelled.{record_of, IsIn}
use Rattle.fkv_hybrid.proofs.PageLemmas.{some_is, if_is}
use Rattle.fkv_hybrid.proofs.log.Log.record_at.Goals as goal

pub record_of-requires-clause-stands : goal.record_of-requires-clause-stands
record_of-requires-clause-stands g c =
    let f = some_is (entry_at c.args.self.now.text c.args.address) c.requires.there in
    let h = if_is (entry_at c.args.self.now.text c.args.address) (IsIn g.K.Fixed.codec g.V.Fixed.codec c.args.address c.bytes_at.result.now) f.0 c.bytes_at.ensures.spelled f.1 in
    (c.args.address, record_of f.0, h.sound, h.spells)

pub returns-clause-entry : goal.returns-clause-entry
returns-clause-entry g c =
    let f = some_is (entry_at c.args.self.now.text c.args.address) c.requires.there in
    let h = if_is (entry_at c.args.self.now.text c.args.address) (IsIn g.K.Fixed.codec g.V.Fixed.codec c.args.address c.bytes_at.result.now) f.0 c.bytes_at.ensures.spelled f.1 in
    let same : c.record_of.result ≡ record_of f.0 = c.record_of.ensures c.args.address (record_of f.0) h.sound h.spells in
    rw (c.entry_of.ensures, same) (f.1 ∙ (let at = h.stands in ap Some (λ j. record { address = at j; previous = f.0.previous; key = f.0.key; value = f.0.value; delta = f.0.delta })))

pub returns-clause-falls : goal.returns-clause-falls
returns-clause-falls g c =
    let f = some_is (entry_at c.args.self.now.text c.args.address) c.requires.there in
    let h = if_is (entry_at c.args.self.now.text c.args.address) (IsIn g.K.Fixed.codec g.V.Fixed.codec c.args.address c.bytes_at.result.now) f.0 c.bytes_at.ensures.spelled f.1 in
    let same : c.record_of.result ≡ record_of f.0 = c.record_of.ensures c.args.address (record_of f.0) h.sound h.spells in
    let low = h.first in
    rw (c.entry_of.ensures, same) (elim h.sound.previous [ inl one ↦ omega (arith, one, low) | inr less ↦ less.1 ])

pub returns-clause-previous : goal.returns-clause-previous
returns-clause-previous g c =
    let f = some_is (entry_at c.args.self.now.text c.args.address) c.requires.there in
    let h = if_is (entry_at c.args.self.now.text c.args.address) (IsIn g.K.Fixed.codec g.V.Fixed.codec c.args.address c.bytes_at.result.now) f.0 c.bytes_at.ensures.spelled f.1 in
    let same : c.record_of.result ≡ record_of f.0 = c.record_of.ensures c.args.address (record_of f.0) h.sound h.spells in
    rw (c.entry_of.ensures, same) h.sound.previous
