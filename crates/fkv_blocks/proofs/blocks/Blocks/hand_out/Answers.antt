use Rattle.std.proofs.Common.{◌≡◌, ◌≤◌, ◌+◌, ◌^◌, true, false, refl, ◌∙◌, sym, ap, subst, arith}
use Rattle.fkv_functions.specs.declared.refusals.Refused.TheVariants.{Unreadable}
use Rattle.fkv_blocks.specs.declared.blocks.BlockSpan.{BlockSpan}
use Rattle.fkv_blocks.specs.Left.{BlocksView, IsBlockOf, IsUntaken, IsWide, number_of, text_at}
use Rattle.fkv_blocks.proofs.LeftLemmas.{block_by, next_last, next_within, none_is, some_is, stands_by, wide_by}
use Rattle.fkv_blocks.proofs.blocks.Blocks.hand_out.Goals as goal

pub returns-in_default-clause-told : goal.returns-in_default-clause-told
returns-in_default-clause-told g c =
    let b = c.self.inside in
    let feeds = g.B.Origin.feeds in
    let text = text_at feeds b.place in
    let left = g.S.Source.remaining b.source in
    let size = c.args.cut.size in
    let here : b.place ≡ c.args.self.now.place = ap (λ (v : BlocksView). v.place) c.self.view_is in
    let held : c.args.self.now.held ≡ b.held.items = ap (λ (v : BlocksView). v.held) (sym c.self.view_is) in
    let on : b.over ≡ false = ap (λ (v : BlocksView). v.over) c.self.view_is ∙ c.requires.on in
    let begun : b.begun ≡ true = ap (λ (v : BlocksView). v.begun) c.self.view_is ∙ c.requires.begun in
    let low = next_within text b.at b.held.items left size c.args.self.now c.args.cut.is_last c.requires.next held in
    let more : 2 ^ 64 ≤ b.at + size = omega (arith, c.in_default.ensures) in
    let wide : IsWide text = wide_by text b.at b.held.items left size b.over b.stopped (c.self.invariant.stands begun) on low more in
    IsUntaken.wide (ap Unreadable (c.number.ensures ∙ ap number_of here)) refl (subst (λ p. IsWide (text_at feeds p)) here wide)

pub returns-clause-given : goal.returns-clause-given
returns-clause-given g c =
    let b = c.self.inside in
    let feeds = g.B.Origin.feeds in
    let text = text_at feeds b.place in
    let left = g.S.Source.remaining b.source in
    let now = c.args.self.now in
    let here : now.place ≡ b.place = ap (λ (v : BlocksView). v.place) (sym c.self.view_is) in
    let held : now.held ≡ b.held.items = ap (λ (v : BlocksView). v.held) (sym c.self.view_is) in
    let stopped : now.stopped ≡ b.stopped = ap (λ (v : BlocksView). v.stopped) (sym c.self.view_is) in
    let rest : now.left ≡ left = ap (λ (v : BlocksView). v.left) (sym c.self.view_is) in
    let on : b.over ≡ false = ap (λ (v : BlocksView). v.over) c.self.view_is ∙ c.requires.on in
    let begun : b.begun ≡ true = ap (λ (v : BlocksView). v.begun) c.self.view_is ∙ c.requires.begun in
    let high = c.in-Some.high in
    let block = c.split.new.block.items in
    let given = block_by text b.at b.held.items left c.args.cut.size b.over b.stopped now c.args.cut.is_last high block (c.self.invariant.stands begun) on c.requires.next held stopped rest c.in-Some.ensures.1 c.in-Ok.ensures.block in
    some_is (λ (p : BlockSpan). (p.feed ≡ now.place) × IsBlockOf (text_at feeds p.feed) block p.low p.high) (record { feed = b.place; low = b.at; high = high }) c.place_of.result c.place_of.ensures.some (sym here, given)

pub returns-clause-over : goal.returns-clause-over
returns-clause-over g c =
    let b = c.self.inside in
    let size = c.args.cut.size in
    let is : c.in-Some.high ≡ b.at + size = c.in-Some.ensures.1 in
    none_is (b.at ≡ c.in-Some.high) (c.args.cut.is_last ≡ true) c.place_of.result c.place_of.ensures.none (λ same.
    next_last (text_at g.B.Origin.feeds b.place) b.at b.held.items (g.S.Source.remaining b.source) size c.args.self.now c.args.cut.is_last c.requires.next (omega (arith, same, is)))

pub invariant_of-self-2 : goal.invariant_of-self-2
invariant_of-self-2 g c =
    let b = c.self.inside in
    let text = text_at g.B.Origin.feeds b.place in
    let left = g.S.Source.remaining b.source in
    let size = c.args.cut.size in
    let held : c.args.self.now.held ≡ b.held.items = ap (λ (v : BlocksView). v.held) (sym c.self.view_is) in
    let stopped : c.args.self.now.stopped ≡ b.stopped = ap (λ (v : BlocksView). v.stopped) (sym c.self.view_is) in
    let rest : c.args.self.now.left ≡ left = ap (λ (v : BlocksView). v.left) (sym c.self.view_is) in
    let on : b.over ≡ false = ap (λ (v : BlocksView). v.over) c.self.view_is ∙ c.requires.on in
    let begun : b.begun ≡ true = ap (λ (v : BlocksView). v.begun) c.self.view_is ∙ c.requires.begun in
    record {
      unread = λ e. absurd (cc);
      stands = λ _. stands_by text b.at b.held.items left size b.over b.stopped c.args.self.now c.args.cut.is_last c.in-Some.high c.split.new.held.items (c.self.invariant.stands begun) on c.requires.next held stopped rest c.in-Some.ensures.1 c.in-Ok.ensures.held;
      counted = c.self.invariant.counted;
    }
