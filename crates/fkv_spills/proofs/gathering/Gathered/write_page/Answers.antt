use Rattle.std.proofs.Common.{◌++◌, inl, refl, sym, ◌∙◌, ap, subst, arith}
use Rattle.fkv_spills.specs.declared.gathering.Gathered.{Gathered}
use Rattle.fkv_spills.specs.Spilling.{AreSpilled}
use Rattle.fkv_spills.proofs.SpillLemmas.{gathered-none, gathered-page}
use Rattle.fkv_spills.proofs.gathering.Gathered.write_page.Goals as goal
use Rattle.fkv_spills.proofs.gathering.Gathered.write_page.Goals.{then-count-gt0+in-Ok+in-Ok-write+in-Ok-push_back, else-count-gt0}

pub returns-in-Err-clause-refused : goal.returns-in-Err-clause-refused
returns-in-Err-clause-refused g c = (0, inl (c.in-Err.ensures.only, refl))

pub returns-in-Err-write-clause-refused : goal.returns-in-Err-write-clause-refused
returns-in-Err-write-clause-refused g c = (_, c.in-Err-write.ensures.counted)

pub returns-in_default-clause-refused : goal.returns-in_default-clause-refused
returns-in_default-clause-refused g c = (0, inl (refl, c.in-Ok-write.ensures.steady))

pub returns-clause-ok : goal.returns-clause-ok
returns-clause-ok g c xs keeps h =
    elim c.if-count-gt0.branch [
      | then-count-gt0+in-Ok+in-Ok-write+in-Ok-push_back w ↦
          (let zeros = w.in-Ok.ensures.ok in
          subst (λ ps. AreSpilled g.V.Fixed.codec g.R.Receipt.stands ps xs)
          (sym (ap (λ (s : Gathered g.row.V.Denot g.row.R.Denot). s.pages.items) w.self-is ∙ w.in-Ok-push_back.ensures.items))
          (gathered-page g.V.Fixed.codec g.R.Receipt.stands c.args.self.now _ zeros.0 xs w.if-count-gt0.true refl
          (w.in-Ok-write.ensures.kept keeps ∙ zeros.1 ∙ ap (λ b. b ++ zeros.0) w.deref.ensures.value) h))
      | else-count-gt0 w ↦
          (let none = w.if-count-gt0.false in
          subst (λ (s : Gathered g.row.V.Denot g.row.R.Denot). AreSpilled g.V.Fixed.codec g.R.Receipt.stands s.pages.items xs) (sym w.self-is)
          (gathered-none g.V.Fixed.codec g.R.Receipt.stands c.args.self.now xs (omega arith) h))
    ]
