use Rattle.std.proofs.Common.{ℕ, sym, ap, refl, ◌∙◌}
use Rattle.std.proofs.lemmas.Bool.{false≢true}
use Rattle.fkv_index.specs.Words.{is_tentative, is_final_of, tag_of, final_word}
use Rattle.fkv_index.proofs.WordFacts.{empty_not_tentative, empty_not_final, tentative_not_final, final_not_tentative}
use Rattle.fkv_index.proofs.Written.{place_of-word, bucket_within, buckets_written, place_written, same_entries, single_kept, written_twice, writes, written_there}
use Rattle.fkv_index.proofs.Confirmed.{alone_by_places, places_alone, alone_from, none_from_alone, scan_is, single_confirmed, sets_confirmed, none_alone}
use Rattle.fkv_index.proofs.IndexMaps.{index_map}
use Rattle.fkv_index.proofs.index.Index.confirm.Goals as goal

pub word-requires : goal.word-requires
word-requires c = place_of-word is_tentative _ c.args.place empty_not_tentative (rw c.self.view_is c.requires.tentative)

pub set-requires : goal.set-requires
set-requires c = place_of-word is_tentative _ c.args.place empty_not_tentative (rw c.self.view_is c.requires.tentative)

pub has_entry-requires : goal.has_entry-requires
has_entry-requires c =
    let place = place_of-word is_tentative c.self.inside.buckets c.args.place empty_not_tentative (rw c.self.view_is c.requires.tentative) in
    rw (c.set.ensures, buckets_written c.self.inside.buckets c.args.place c.empty.result, ← c.requires.bucket) (bucket_within _ c.args.place place)

pub invariant_of-self : goal.invariant_of-self
invariant_of-self c =
    let place = place_of-word is_tentative c.self.inside.buckets c.args.place empty_not_tentative (rw c.self.view_is c.requires.tentative) in
    rw c.set.ensures (single_kept _ c.args.place c.empty.result place c.self.invariant (λ t. ap (is_final_of t) c.empty.ensures ∙ empty_not_final t))

pub returns-then-has_entry-clause-alone : goal.returns-then-has_entry-clause-alone
returns-then-has_entry-clause-alone c =
    let place = place_of-word is_tentative c.self.inside.buckets c.args.place empty_not_tentative (rw c.self.view_is c.requires.tentative) in
    let asked = scan_is c.self.inside.buckets c.set.new.self c.args.place c.word.result c.empty.result c.tag-tag.result c.args.bucket c.has_entry.result c.word.ensures c.tag-tag.ensures.value c.set.ensures c.empty.ensures c.requires.bucket c.has_entry.ensures in
    rw (← c.self.view_is) (
      λ e. absurd (false≢true e),
      λ alone. sym (none_from_alone c.self.inside.buckets c.args.place place (places_alone _ c.args.place alone)) ∙ sym asked ∙ c.if-has_entry.true,
    )

pub returns-then-has_entry-clause-entries : goal.returns-then-has_entry-clause-entries
returns-then-has_entry-clause-entries c =
    let place = place_of-word is_tentative _ c.args.place empty_not_tentative c.requires.tentative in
    rw (c.set.ensures, c.self.view_is) (same_entries _ c.args.place c.empty.result place (λ t. tentative_not_final t _ c.requires.tentative) (λ t. ap (is_final_of t) c.empty.ensures ∙ empty_not_final t))

pub set-requires-2 : goal.set-requires-2
set-requires-2 c =
    let place = place_of-word is_tentative c.self.inside.buckets c.args.place empty_not_tentative (rw c.self.view_is c.requires.tentative) in
    rw c.set.ensures (place_written _ c.args.place c.empty.result place)

pub invariant_of-self-2 : goal.invariant_of-self-2
invariant_of-self-2 c =
    let place = place_of-word is_tentative c.self.inside.buckets c.args.place empty_not_tentative (rw c.self.view_is c.requires.tentative) in
    let asked = scan_is c.self.inside.buckets c.set.new.self c.args.place c.word.result c.empty.result c.tag-tag.result c.args.bucket c.has_entry.result c.word.ensures c.tag-tag.ensures.value c.set.ensures c.empty.ensures c.requires.bucket c.has_entry.ensures in
    let alone = alone_from c.self.inside.buckets c.args.place place (sym asked ∙ c.if-has_entry.false) in
    let tag = c.entry.ensures.tag ∙ c.tag-tag.ensures.value ∙ ap tag_of c.word.ensures in
    rw (c.set-2.ensures, c.set.ensures, written_twice c.self.inside.buckets c.args.place c.empty.result c.entry.result place) (single_confirmed _ c.args.place c.entry.result place alone tag c.self.invariant)

pub returns-clause-alone : goal.returns-clause-alone
returns-clause-alone c =
    let place = place_of-word is_tentative c.self.inside.buckets c.args.place empty_not_tentative (rw c.self.view_is c.requires.tentative) in
    let asked = scan_is c.self.inside.buckets c.set.new.self c.args.place c.word.result c.empty.result c.tag-tag.result c.args.bucket c.has_entry.result c.word.ensures c.tag-tag.ensures.value c.set.ensures c.empty.ensures c.requires.bucket c.has_entry.ensures in
    rw (← c.self.view_is) (
      λ e. alone_by_places _ c.args.place (alone_from c.self.inside.buckets c.args.place place (sym asked ∙ c.if-has_entry.false)),
      λ alone. refl,
    )

pub returns-clause-confirmed : goal.returns-clause-confirmed
returns-clause-confirmed c =
    let place = place_of-word is_tentative c.self.inside.buckets c.args.place empty_not_tentative (rw c.self.view_is c.requires.tentative) in
    let word = c.entry.ensures.bits ∙ ap (λ (n : ℕ). final_word n 1) (c.tag-tag.ensures.value ∙ ap tag_of c.word.ensures) in
    rw (c.set-2.ensures, c.set.ensures, written_twice c.self.inside.buckets c.args.place c.empty.result c.entry.result place, word, ← c.self.view_is) (writes c.self.inside.buckets c.args.place _ place)

pub returns-clause-entry : goal.returns-clause-entry
returns-clause-entry c =
    let place = place_of-word is_tentative c.self.inside.buckets c.args.place empty_not_tentative (rw c.self.view_is c.requires.tentative) in
    let asked = scan_is c.self.inside.buckets c.set.new.self c.args.place c.word.result c.empty.result c.tag-tag.result c.args.bucket c.has_entry.result c.word.ensures c.tag-tag.ensures.value c.set.ensures c.empty.ensures c.requires.bucket c.has_entry.ensures in
    let alone = alone_from c.self.inside.buckets c.args.place place (sym asked ∙ c.if-has_entry.false) in
    let tag = c.entry.ensures.tag ∙ c.tag-tag.ensures.value ∙ ap tag_of c.word.ensures in
    let sets = sets_confirmed c.self.inside.buckets c.args.place c.entry.result place alone tag (rw c.self.view_is c.requires.tentative) c.entry.ensures.is in
    rw (c.set-2.ensures, c.set.ensures, written_twice c.self.inside.buckets c.args.place c.empty.result c.entry.result place, ← c.self.view_is, ← tag, ← c.requires.bucket) (rw c.entry.ensures.address at sets)

pub returns-then-has_entry-clause-map : goal.returns-then-has_entry-clause-map
returns-then-has_entry-clause-map c = index_map _ (invariant_of-self c)

pub returns-clause-map : goal.returns-clause-map
returns-clause-map c = index_map _ (invariant_of-self-2 c)

pub returns-then-has_entry-clause-released : goal.returns-then-has_entry-clause-released
returns-then-has_entry-clause-released c =
    let place = place_of-word is_tentative c.self.inside.buckets c.args.place empty_not_tentative (rw c.self.view_is c.requires.tentative) in
    rw c.set.ensures (ap is_tentative (written_there _ c.args.place c.empty.result place ∙ c.empty.ensures) ∙ empty_not_tentative)

pub returns-clause-released : goal.returns-clause-released
returns-clause-released c =
    let place = place_of-word is_tentative c.self.inside.buckets c.args.place empty_not_tentative (rw c.self.view_is c.requires.tentative) in
    rw (c.set-2.ensures, c.set.ensures, written_twice c.self.inside.buckets c.args.place c.empty.result c.entry.result place)
    (ap is_tentative (written_there _ c.args.place c.entry.result place) ∙ final_not_tentative c.entry.result c.entry.ensures.is)

pub returns-clause-none : goal.returns-clause-none
returns-clause-none c =
    let place = place_of-word is_tentative c.self.inside.buckets c.args.place empty_not_tentative (rw c.self.view_is c.requires.tentative) in
    let asked = scan_is c.self.inside.buckets c.set.new.self c.args.place c.word.result c.empty.result c.tag-tag.result c.args.bucket c.has_entry.result c.word.ensures c.tag-tag.ensures.value c.set.ensures c.empty.ensures c.requires.bucket c.has_entry.ensures in
    let alone = alone_from c.self.inside.buckets c.args.place place (sym asked ∙ c.if-has_entry.false) in
    rw (← c.self.view_is, ← c.requires.bucket) (none_alone c.self.inside.buckets c.args.place alone (rw c.self.view_is c.requires.tentative))
