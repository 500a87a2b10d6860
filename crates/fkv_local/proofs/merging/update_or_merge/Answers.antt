use Rattle.std.proofs.Common.{◌≤◌, ap, arith}
use Rattle.std.proofs.lemmas.Result.{IfErr-weaker}
use Rattle.fkv_local.proofs.DriveLemmas.{move-refused, refused-by, worn-refused, beside-then}
use Rattle.fkv_local.proofs.merging.update_or_merge.Goals as goal

pub returns-in-Err-clause-told : goal.returns-in-Err-clause-told
returns-in-Err-clause-told g c = move-refused c.in-Err.ensures.told (ap g.D.Reader.PageReader.failures c.in-Err.ensures.same_reader)

pub returns-in-Err-try_write_in_place-clause-told : goal.returns-in-Err-try_write_in_place-clause-told
returns-in-Err-try_write_in_place-clause-told g c = worn-refused c.tidy_at_times.new.shard.part.writer c.in-Ok.ensures.beside (ap g.D.Writer.PageWriter.failures c.try_write_in_place.ensures.same_writer) c.in-Err-try_write_in_place.ensures.told

pub returns-then-MERGES-clause-told : goal.returns-then-MERGES-clause-told
returns-then-MERGES-clause-told g c =
    let tidied = c.tidy_at_times.ensures.passed.later in
    let written = c.try_write_in_place.ensures.passed.later in
    let later : c.args.clock.now ≤ c.try_write_in_place.new.clock = omega arith in
    let reader = c.tidy_at_times.new.shard.reader in
    let beside = beside-then c.args.terms.now.keeps_log g.D.Writer.PageWriter.failures g.D.Reader.PageReader.failures c.args.shard.now.part.writer c.args.shard.now.reader reader c.try_write_in_place.ensures.same_writer c.in-Ok.ensures.beside in
    IfErr-weaker c.merge_for_page.result _ _ (λ e h. refused-by c.try_write_in_place.new.part.writer reader beside (h (g.D.Reader.PageReader.failures reader))) c.merge_for_page.ensures.told

pub returns-else-MERGES-clause-told : goal.returns-else-MERGES-clause-told
returns-else-MERGES-clause-told g c =
    let tidied = c.tidy_at_times.ensures.passed.later in
    let written = c.try_write_in_place.ensures.passed.later in
    let later : c.args.clock.now ≤ c.try_write_in_place.new.clock = omega arith in
    let reader = c.tidy_at_times.new.shard.reader in
    let beside = beside-then c.args.terms.now.keeps_log g.D.Writer.PageWriter.failures g.D.Reader.PageReader.failures c.args.shard.now.part.writer c.args.shard.now.reader reader c.try_write_in_place.ensures.same_writer c.in-Ok.ensures.beside in
    IfErr-weaker c.run_by_events.result _ _ (λ e. refused-by c.try_write_in_place.new.part.writer reader beside) c.run_by_events.ensures.told
