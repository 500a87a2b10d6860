use Rattle.std.proofs.Common.{rules, ◌≡◌, ◌<◌, ◌+◌, ◌++◌, ◌∷◌, [], inl, inr, sym, subst, ap, ◌∙◌, get_or, length, map, take, slice_index_or, string_bytes}
use Rattle.std.proofs.lemmas.List.{get_or-map, map-append, map_more}
use Rattle.fkv_functions.specs.declared.refusals.Refused.TheVariants.{Unreadable}
use Rattle.fkv_commands.specs.Sources.{Agrees}
use Rattle.fkv_commands.proofs.OpeningLemmas.{agree-more}
use Rattle.fkv_commands.proofs.opening.all_opened.Goals as goal

pub returns-in-Err-clause-only : goal.returns-in-Err-clause-only
returns-in-Err-clause-only g c = elim c.in-Err.ensures.only [
  | inl m ↦ inl m
  | inr u ↦
      let within : c.loop-place.place < length c.args.paths.now = search rules in
      let is : c.in-Err.refused ≡ Unreadable (c.loop-place.place + 1) = search rules in
      let at = get_or-map string_bytes c.args.paths.now c.loop-place.place c.index-paths-place.result [] within in
      let path : c.as_str.result.now ≡ slice_index_or (map string_bytes c.args.paths.now) c.loop-place.place [] = search (rules, at) in
      inr (c.loop-place.place, within, is, subst (λ p. g.O.Opener.is_closed c.args.opener.now p) path u.1)
]

pub loop-place-preserved : goal.loop-place-preserved
loop-place-preserved g c =
    let known : c.index-paths-place.result ≡ get_or c.args.paths.now c.loop-place.place c.index-paths-place.result = search rules in
    let path : map (λ path. g.O.Opener.bytes c.args.opener.now (string_bytes path)) (take (c.loop-place.place + 1) c.args.paths.now)
    ≡ map (λ path. g.O.Opener.bytes c.args.opener.now (string_bytes path)) (take c.loop-place.place c.args.paths.now)
    ++ g.O.Opener.bytes c.args.opener.now (string_bytes c.index-paths-place.result) ∷ [] =
    map_more (λ path. g.O.Opener.bytes c.args.opener.now (string_bytes path)) c.args.paths.now c.loop-place.place c.index-paths-place.result c.loop-place-test.true
    ∙ ap (λ x. map (λ path. g.O.Opener.bytes c.args.opener.now (string_bytes path)) (take c.loop-place.place c.args.paths.now)
    ++ g.O.Opener.bytes c.args.opener.now (string_bytes x) ∷ []) (sym known) in
    let pushed : c.push.new.self.items ≡ c.loop-place.feeds.items ++ c.in-Ok.feed ∷ [] = search rules in
    let feed : map g.O.Feed.Source.remaining c.push.new.self.items
    ≡ map g.O.Feed.Source.remaining c.loop-place.feeds.items ++ g.O.Feed.Source.remaining c.in-Ok.feed ∷ [] =
    ap (λ xs. map g.O.Feed.Source.remaining xs) pushed ∙ map-append g.O.Feed.Source.remaining c.loop-place.feeds.items (c.in-Ok.feed ∷ []) in
    let agree : Agrees (g.O.Opener.bytes c.args.opener.now (string_bytes c.index-paths-place.result)) (g.O.Feed.Source.remaining c.in-Ok.feed) = search rules in
    rw (path, feed) (agree-more _ _ _ _ c.loop-place.invariant agree)
