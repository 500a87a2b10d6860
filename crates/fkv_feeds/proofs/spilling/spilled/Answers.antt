use Rattle.std.proofs.Common.{◌≡◌, ◌%◌, ℕ, List, filter, nat_eq, length, refl, ap, ◌∙◌, subst}
use Rattle.fkv_functions.specs.declared.names.Name.{Name}
use Rattle.fkv_alone.specs.Causes.{CanFailToRead, CanFailToWrite}
use Rattle.fkv_spills.specs.Reading.{IsLeft}
use Rattle.fkv_spills.proofs.SpillLemmas.{unreadable-weaker}
use Rattle.fkv_feeds.specs.Faults.{IsDeviceFault}
use Rattle.fkv_feeds.specs.Spilling.{IsSpillFault}
use Rattle.fkv_feeds.proofs.SpilledLemmas.{unread-caused}
use Rattle.fkv_feeds.proofs.spilling.spilled.Goals as goal

pub returns-in-Err-clause-told : goal.returns-in-Err-clause-told
returns-in-Err-clause-told g c = IsSpillFault.unmade (IsDeviceFault.unopened _ _ c.in-Err.ensures.counted)

pub returns-in-Err-of_home-clause-told : goal.returns-in-Err-of_home-clause-told
returns-in-Err-of_home-clause-told g c =
    IsSpillFault.unwritten c.in-Err-of_home.ensures.refused.0 _ _ c.in-Err-of_home.ensures.refused.1

pub returns-in-Err-reader-clause-told : goal.returns-in-Err-reader-clause-told
returns-in-Err-reader-clause-told g c = IsSpillFault.unmade (IsDeviceFault.unopened _ _ c.in-Err-reader.ensures.counted)

pub returns-clause-told : goal.returns-clause-told
returns-clause-told g c =
    let told = c.in-Err-of.ensures.told in
    let unread = unreadable-weaker _ _ _ _ _ c.in-Err-of.refused refl (λ keeps. (_, keeps, c.in-Ok-of_home.ensures.ok keeps)) told.1 in
    IsSpillFault.unread _ told.0 unread
    (λ keeps. unread-caused (CanFailToWrite g.D.Writer.PageWriter.next g.D.Writer.PageWriter.can_fail) (CanFailToRead g.D.Receipt.Receipt.stands g.D.Reader.PageReader.can_fail) _ _ c.in-Err-of.refused unread (c.in-Err-of.ensures.caused _ keeps (c.in-Ok-of_home.ensures.ok keeps)))

home-same : {V : Type 0} (code : Name → ℕ) (entries : List (Name × V)) (count count_now len len_now : ℕ) → count ≡ count_now → len ≡ len_now
    → filter (λ pair. nat_eq (code pair.0 % count) len) entries ≡ filter (λ pair. nat_eq (code pair.0 % count_now) len_now) entries
home-same code entries count count_now len len_now c l =
    ap (λ n. filter (λ pair. nat_eq (code pair.0 % n) len) entries) c ∙ ap (λ n. filter (λ pair. nat_eq (code pair.0 % count_now) n) entries) l

pub returns-in-Ok-of-clause-ok : goal.returns-in-Ok-of-clause-ok
returns-in-Ok-of-clause-ok g c keeps =
    subst (IsLeft g.F.Value.Fixed.codec g.D.Receipt.Receipt.keeps g.D.Receipt.Receipt.stands c.in-Ok-of.rest)
    (home-same g.F.Functions.code c.args.map.now.entries _ _ _ _ c.count-count.ensures.value c.len-number.ensures)
    (c.in-Ok-of.ensures.ok _ keeps (c.in-Ok-of_home.ensures.ok keeps))

pub returns-in-Ok-of-clause-len : goal.returns-in-Ok-of-clause-len
returns-in-Ok-of-clause-len g c =
    c.in-Ok-of_home.ensures.len ∙ ap length (home-same g.F.Functions.code c.args.map.now.entries _ _ _ _ c.count-count.ensures.value c.len-number.ensures)
