use Rattle.std.proofs.Common.{refl, sym, ◌∙◌, ap, subst}
use Rattle.fkv_functions.proofs.KeyOrder.{key_order}
use Rattle.fkv_texts.specs.Text.{live}
use Rattle.fkv_operations.specs.KeptWords.{IndexedText, IsFound}
use Rattle.fkv_lookups.specs.RecordsViews.{class_in, indexed}
use Rattle.fkv_hybrid.specs.Spelled.{IsEntryIn}
use Rattle.fkv_partition.proofs.KeptWordLemmas.{indexed_all, indexed-last, led-at, are-next}
use Rattle.fkv_partition.proofs.laws.kept_words_stay_sound.Goals as goal

pub returns : goal.returns
returns g c = λ v vs k e yes_keeps s events found still again.
    let ord = g.met.F.Key.Ord in
    let cmp = g.F.Key.Ord.cmp in
    let code = g.F.Functions.code in
    let order = key_order g.F.Key.PartialEq.eq cmp ord.matches_eq g.met.F.Key.FixedKey.exact ord.total in
    let r = v.records in
    let last = indexed-last v vs in
    ap (λ (u : IndexedText _ _). live cmp u.text k) (sym last)
    ∙ c.kept_words_are_sound.ensures.kept cmp (class_in code r) (indexed r) (indexed_all vs) k e
    (led-at cmp g.F.Mergeable.parts.joined code order yes_keeps r.partition_bits r.bucket_bits v s.sound refl refl)
    (are-next cmp g.F.Mergeable.parts.joined code order yes_keeps r.partition_bits r.bucket_bits g.R.Receipt.stands
    (IsEntryIn g.F.Key.Fixed.codec g.F.Value.Fixed.codec) g.F.Functions.meaning
    (λ old new was is event. c.every_event_preserves.ensures old new was is event)
    v vs s refl refl events)
    found still
    (subst (λ u. IsFound (class_in code r) u k e) (sym last) again)
