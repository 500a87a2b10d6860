use Rattle.std.proofs.Common.{◌∙◌, ap, false, refl, sym}
use Rattle.fkv_index.specs.Words.{address_of}
use Rattle.fkv_texts.specs.Text.{live, newest, value_of}
use Rattle.fkv_texts.proofs.BaseLemmas.{lowest-value}
use Rattle.fkv_texts.proofs.CoverLemmas.{cleared-append, cleared-changed, cleared-lower, cut-cleared, cut-lives}
use Rattle.fkv_lookups.specs.Payloads.{value_in, is_part}
use Rattle.fkv_lookups.proofs.TracedLemmas.{raw, traced-raw}
use Rattle.fkv_lookups.proofs.ClearedLemmas.{cleared-raised, record-low, superseded-renewed, lives-renewed}
use Rattle.fkv_lookups.proofs.clearing.cleared_stay.Goals as goal

pub returns-clause-appended : goal.returns-clause-appended
returns-clause-appended g c = λ cmp v entry key payload has limit le h.
    cleared-append cmp v.log.text (record { address = v.log.tail; previous = address_of entry.word; key = key; value = value_in payload; delta = is_part payload }) limit le h

pub returns-clause-changed : goal.returns-clause-changed
returns-clause-changed g c = λ cmp v a value limit le h. cleared-changed cmp v.log.text a value limit le h

pub returns-clause-dropped : goal.returns-clause-dropped
returns-clause-dropped g c = λ cmp v low limit h. cut-cleared cmp v.log.text low limit h

pub returns-clause-raised : goal.returns-clause-raised
returns-clause-raised g c = λ keeps cmp join code v limit t s place under h superseded. cleared-raised (raw v) (traced-raw t s) cmp limit place h superseded

pub returns-clause-renewed : goal.returns-clause-renewed
returns-clause-renewed g c = λ keeps cmp join code v entry limit e value order t s here.
    superseded-renewed cmp v.log.text order (record { address = v.log.tail; previous = address_of entry.word; key = e.key; value = value; delta = false }) e refl refl (record-low (raw v) (traced-raw t s) limit e here)

pub returns-clause-kept : goal.returns-clause-kept
returns-clause-kept g c = λ cmp v entry key value order held.
    lives-renewed cmp v.text order (record { address = v.log.tail; previous = address_of entry.word; key = key; value = value; delta = false }) held

pub returns-clause-lowest : goal.returns-clause-lowest
returns-clause-lowest g c = λ keeps cmp join code v e order t s here h uncovered.
    ap (λ text. value_of (newest cmp text e.key e.address)) s.is
    ∙ lowest-value cmp v.log.text order (traced-raw t s).rising e here join h uncovered

pub returns-clause-lives : goal.returns-clause-lives
returns-clause-lives g c = λ keeps cmp join code v low limit order t s h le q.
    cut-lives cmp join order v.log.text (traced-raw t s).rising low (cleared-lower cmp v.log.text low limit le h) q
    ∙ ap (λ text. live cmp text q) (sym s.is)
