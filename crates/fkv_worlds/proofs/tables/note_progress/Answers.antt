use Rattle.std.proofs.Common.{◌≡◌, ℕ, List, refl, sym, ◌∙◌, ap}
use Rattle.fkv_lives.specs.declared.lives.Life.{Life}
use Rattle.fkv_lives.specs.declared.lives.End.{End}
use Rattle.fkv_lives.specs.Changes.{ended_at}
use Rattle.fkv_lives.specs.declared.steps.ContextId.{ContextId}
use Rattle.fkv_worlds.specs.States.{life_in}
use Rattle.fkv_worlds.specs.Acts.{lives_by, questions_by, receipts_by, told}
use Rattle.fkv_functions.proofs.CallLemmas.{with_four}
use Rattle.fkv_worlds.proofs.StateLemmas.{within-by}
use Rattle.fkv_worlds.proofs.tables.note_progress.Goals as goal

ended-there : {K V I O : Type 0} (lives : List (Life K V I O)) {ended : List (Life K V I O)} (w : ContextId) {begun rows : List ℕ} {place : ℕ} (end : End O) → ended ≡ ended_at lives place end → place ≡ life_in rows w → rows ≡ begun → ended ≡ ended_at lives (life_in begun w) end
ended-there lives w end e at is = e ∙ ap (λ n. ended_at lives n end) (at ∙ ap (λ xs. life_in xs w) is)

pub life_at-requires-clause-rows : goal.life_at-requires-clause-rows
life_at-requires-clause-rows g c = within-by c.deref.ensures.value c.requires.begun

pub end_life-requires-whole : goal.end_life-requires-whole
end_life-requires-whole g c κs = with_four (rw (c.life_at.ensures ∙ ap (λ xs. life_in xs c.args.place) c.deref.ensures.value) c.requires.life)

pub returns-in-Done : goal.returns-in-Done
returns-in-Done g c =
    let is = sym c.in-Done.is in
    record {
      lives = ended-there c.args.lives.now.items c.args.place _ c.end_life.ensures c.life_at.ensures c.deref.ensures.value ∙ ap (lives_by c.args.lives.now.items _ c.args.now) is;
      questions = ap (questions_by _ _) is;
      receipts = ap (receipts_by _ _) is;
      begun = refl;
      seats = refl;
      enters = refl;
      told = ap told is;
    }

pub returns-in-Next : goal.returns-in-Next
returns-in-Next g c =
    let is = sym c.in-Next.is in
    record {
      lives = ap (lives_by c.args.lives.now.items _ c.args.now) is;
      questions = ap (questions_by _ _) is;
      receipts = ap (receipts_by _ _) is;
      begun = refl;
      seats = refl;
      enters = refl;
      told = ap told is;
    }

pub returns-in-Waits : goal.returns-in-Waits
returns-in-Waits g c =
    let is = sym c.in-Waits.is in
    record {
      lives = ap (lives_by c.args.lives.now.items _ c.args.now) is;
      questions = ap (questions_by _ _) is;
      receipts = ap (receipts_by _ _) is;
      begun = refl;
      seats = refl;
      enters = refl;
      told = ap told is;
    }

pub returns-in-NeedsBuild : goal.returns-in-NeedsBuild
returns-in-NeedsBuild g c =
    let is = sym c.in-NeedsBuild.is in
    record {
      lives = ap (lives_by c.args.lives.now.items _ c.args.now) is;
      questions = c.keep_asked.ensures ∙ ap (questions_by _ _) is;
      receipts = ap (receipts_by _ _) is;
      begun = refl;
      seats = refl;
      enters = refl;
      told = ap told is;
    }

pub returns-in-NeedsLoad : goal.returns-in-NeedsLoad
returns-in-NeedsLoad g c =
    let is = sym c.in-NeedsLoad.is in
    record {
      lives = ap (lives_by c.args.lives.now.items _ c.args.now) is;
      questions = ap (questions_by _ _) is;
      receipts = c.keep_asked-in-NeedsLoad.ensures ∙ ap (receipts_by _ _) is;
      begun = refl;
      seats = refl;
      enters = refl;
      told = ap told is;
    }
