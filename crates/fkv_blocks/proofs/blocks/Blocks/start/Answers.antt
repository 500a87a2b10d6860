use Rattle.std.proofs.Common.{◌≡◌, false, None, Err, refl, sym, ap, subst, ◌∙◌}
use Rattle.std.specs.Prelude.{slice_index, slice_index_or, option_map}
use Rattle.std.specs.Io.KnownBytes.{Keeps, prepend_known}
use Rattle.csv.specs.Reading.{strip_bom}
use Rattle.fkv_blocks.specs.Left.{BlocksView, HasFailed, text_at}
use Rattle.fkv_blocks.proofs.LeftLemmas.{begins, starts, starts_nowhere, stop_counted}
use Rattle.fkv_blocks.proofs.blocks.Blocks.start.Goals.{in-Ok, in-Err}
use Rattle.fkv_blocks.proofs.blocks.Blocks.start.Goals as goal

pub invariant_of-self : goal.invariant_of-self
invariant_of-self g c =
    let b = c.self.inside in
    let text = text_at g.B.Origin.feeds b.place in
    let left = g.S.Source.remaining c.begun.new.source in
    let before = g.S.Source.failures b.source in
    let now = g.S.Source.failures c.begun.new.source in
    let count = slice_index g.B.Origin.counts b.place in
    let fresh : b.begun ≡ false = ap (λ (v : BlocksView). v.begun) c.self.view_is ∙ c.requires in
    let unread = c.self.invariant.unread fresh in
    let counted : before ≡ count = subst (HasFailed b.place count before) unread.stopped c.self.invariant.counted in
    elim c.match-begun.branch [
      | in-Ok w ↦ rw w.self-inside-is (record {
        unread = λ e. absurd (cc);
        stands = λ _. starts text b.over b.stopped b.at w.in-Ok.held.items left unread.over unread.at unread.stopped
            (begins (slice_index_or g.B.Origin.feeds b.place None) (prepend_known w.in-Ok.held.items left)
            (subst (λ known. Keeps (option_map strip_bom known) (prepend_known w.in-Ok.held.items left)) unread.left w.in-Ok.ensures.ok));
        counted = subst (HasFailed b.place count now) (sym unread.stopped) (w.in-Ok.ensures.counted.steady (λ e. cc) ∙ counted);
      })
      | in-Err w ↦ rw w.self-inside-is (record {
        unread = λ e. absurd (cc);
        stands = λ _. starts_nowhere text b.over b.stopped b.at b.held.items left unread.over unread.at w.named.result unread.held;
        counted = stop_counted b.place count before now None w.in-Err.refused w.named.result (Err w.in-Err.refused) counted refl refl w.in-Err.ensures.counted w.in-Err.ensures.only w.named.ensures.memory w.named.ensures.failed;
      })
    ]
