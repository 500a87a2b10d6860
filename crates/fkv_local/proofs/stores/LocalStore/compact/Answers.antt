use Rattle.std.proofs.Common.{◌∙◌, length, sym, ap, subst, arith}
use Rattle.std.proofs.lemmas.Option.{slice_get_within}
use Rattle.fkv_local.specs.Clearing.{AnyIsCut}
use Rattle.fkv_local.proofs.PartLemmas.{view-length}
use Rattle.fkv_local.proofs.StoreLemmas.{any-cut, all-cut, given-more, failed-more, failed-still, or-no, or-yes, parts-is, stays-at, uncompacted-since}
use Rattle.fkv_local.proofs.stores.LocalStore.compact.Goals.{then-is_cut, else-is_cut}
use Rattle.fkv_local.proofs.stores.LocalStore.compact.Goals as goal

pub returns-in-Err-clause-told : goal.returns-in-Err-clause-told
returns-in-Err-clause-told g c =
    let i = c.loop-home.invariant in
    let others = c.compact_part.ensures.others in
    record {
      place = c.loop-home.home;
      here = uncompacted-since (i.behind c.loop-home.home (omega arith)) c.in-Err.ensures.told;
      passed = λ p low. failed-still g.D.Writer.PageWriter.failures g.D.Reader.PageReader.failures c.args.self.now c.loop-home.self c.compact_part.new.self p (i.steady p) (others p (λ e. absurd (omega arith)));
      behind = λ p high. stays-at (i.behind p (omega arith)) (others p (λ e. absurd (omega arith)));
    }

pub loop-home-preserved : goal.loop-home-preserved
loop-home-preserved g c =
    let i = c.loop-home.invariant in
    let part = c.compact_part.ensures in
    record {
      stays = λ kept q. part.stays kept q ∙ i.stays kept q;
      sized = part.sized ∙ i.sized;
      terms = (part.same_terms.0 ∙ i.terms.0, part.same_terms.1 ∙ i.terms.1);
      cut = subst (AnyIsCut c.args.self.now c.compact_part.new.self) (elim c.if-is_cut.branch [
        | then-is_cut w ↦ or-yes c.in-Ok.is_cut c.loop-home.has_cut c.if-is_cut.has_cut w.if-is_cut.true w.has_cut-is
        | else-is_cut w ↦ or-no c.in-Ok.is_cut c.loop-home.has_cut c.if-is_cut.has_cut w.if-is_cut.false w.has_cut-is
      ]) (any-cut c.args.self.now c.loop-home.has_cut c.in-Ok.is_cut i.cut part.others (i.behind c.loop-home.home (omega arith)) c.in-Ok.ensures.cut c.in-Ok.ensures.uncut);
      given_back = given-more i.given_back part.others (i.behind c.loop-home.home (omega arith)) c.in-Ok.ensures.given_back;
      whole = all-cut i.whole part.others c.in-Ok.ensures.whole;
      steady = failed-more g.D.Writer.PageWriter.failures g.D.Reader.PageReader.failures c.args.self.now c.loop-home.self c.compact_part.new.self c.loop-home.home i.steady part.others c.in-Ok.ensures.steady;
      behind = λ p high. stays-at (i.behind p (omega arith)) (part.others p (λ e. absurd (omega arith)));
    }

pub returns-clause-whole : goal.returns-clause-whole
returns-clause-whole g c = λ p v here.
    let i = c.loop-home.invariant in
    let low = slice_get_within c.loop-home.self.parts p v here in
    let sized = i.sized in
    let all = sym (view-length (λ shard. shard.part.partition) c.self.inside.shards.items) ∙ ap length (parts-is c.self.view_is) in
    let end = c.loop-home.auto in
    let past = c.loop-home-test.false in
    i.whole p v (omega arith) here

pub returns-clause-given_back : goal.returns-clause-given_back
returns-clause-given_back g c = λ p v w was here.
    let i = c.loop-home.invariant in
    let low = slice_get_within c.loop-home.self.parts p w here in
    let sized = i.sized in
    let all = sym (view-length (λ shard. shard.part.partition) c.self.inside.shards.items) ∙ ap length (parts-is c.self.view_is) in
    let end = c.loop-home.auto in
    let past = c.loop-home-test.false in
    i.given_back p v w (omega arith) was here
