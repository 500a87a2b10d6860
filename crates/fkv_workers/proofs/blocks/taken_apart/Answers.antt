use Rattle.std.proofs.Common.{◌≡◌, ◌++◌, [], ◌∷◌, ◌⊎◌, None, map, length, sym, ap, subst, ◌∙◌}
use Rattle.std.specs.Prelude.{IfSome}
use Rattle.std.specs.List.{All}
use Rattle.std.proofs.lemmas.List.{map-id, map_push}
use Rattle.std.proofs.lemmas.List.Elements.{All-push}
use Rattle.std.proofs.lemmas.Iterator.Adapters.{YieldsList-from_vec}
use Rattle.std.proofs.lemmas.Iterator.Consumers.{YieldsList-end, YieldsList-turn}
use Rattle.fkv_blocks.specs.Shares.{IsStop, WereRead}
use Rattle.fkv_feeds.specs.Tables.{most_rows}
use Rattle.fkv_store.specs.Stores.{IsTold}
use Rattle.fkv_workers.proofs.BlockLemmas.{first_some, one_more}
use Rattle.fkv_workers.proofs.blocks.taken_apart.Goals.{in-None-fault, in-Some-fault}
use Rattle.fkv_workers.proofs.blocks.taken_apart.Goals as goal

pub loop-one-preserved : goal.loop-one-preserved
loop-one-preserved g c =
    let old = c.loop-one.invariant in
    let one = c.in-Some.one in
    let gives = c.into_iter-one-iterator.ensures.into_iter_gives in
    let road = YieldsList-from_vec c.args.results.items gives.0 (gives.1 ∙ c.args.results.ok.0) in
    let turn = YieldsList-turn road c.loop-one.yielded c.loop-one.one-iterator c.loop-one.yielded_by c.next.result c.next.new.self one c.in-Some.is c.next.ensures.steps in
    let at = length c.loop-one.yielded in
    let read = one_more (λ w. WereRead g.B.Origin.feeds w.had.tickets.items) c.args.results.items at one turn.0 turn.1 c.requires.read in
    let stops = one_more (λ w. IfSome w.fault (λ why. IsTold why ⊎ IsStop g.B.Origin.feeds most_rows (record { feed = w.had.feed; low = w.had.low; refused = why; has_failed = w.had.has_failed }))) c.args.results.items at one turn.0 turn.1 c.requires.stops in
    let grown = ap (map (λ hand. hand.items)) c.in-Ok-push.ensures.items ∙ map_push (λ hand. hand.items) c.loop-one.hands.items one.had.tickets in
    record {
      passes = c.in-Ok.ensures.items ∙ (ap (λ l. l ++ one.pass ∷ []) old.passes ∙ sym (map_push (λ w. w.pass) c.loop-one.yielded one));
      hands = grown ∙ (ap (λ l. l ++ one.had.tickets.items ∷ []) old.hands ∙ sym (map_push (λ w. w.had.tickets.items) c.loop-one.yielded one));
      read = rw grown (All-push (WereRead g.B.Origin.feeds) (map (λ hand. hand.items) c.loop-one.hands.items) one.had.tickets.items old.read read);
      none = elim c.match-fault.branch [
        | in-None-fault w ↦ (λ none. rw (map_push (λ w. w.fault) c.loop-one.yielded one)
            (All-push (λ fault. fault ≡ None) (map (λ w. w.fault) c.loop-one.yielded) one.fault (old.none (sym w.first-is ∙ none)) w.in-None-fault.is))
        | in-Some-fault w ↦ (λ none. let bad = sym w.first-is ∙ none in absurd (cc))
      ];
      first = elim c.match-fault.branch [
        | in-None-fault w ↦ rw w.first-is old.first
        | in-Some-fault w ↦ rw w.first-is (first_some (λ stop. IsTold stop.refused ⊎ IsStop g.B.Origin.feeds most_rows stop) c.loop-one.first _ w.first_of.result w.first_of.ensures old.first
            (rw w.in-Some-fault.is at stops))
      ];
    }

pub returns-clause-passes : goal.returns-clause-passes
returns-clause-passes g c =
    let gives = c.into_iter-one-iterator.ensures.into_iter_gives in
    let road = YieldsList-from_vec c.args.results.items gives.0 (gives.1 ∙ c.args.results.ok.0) in
    let end = YieldsList-end road c.loop-one.yielded c.loop-one.one-iterator c.loop-one.yielded_by c.next.result c.next.new.self c.in-None.is c.next.ensures.steps in
    c.loop-one.invariant.passes ∙ ap (map (λ w. w.pass)) (sym (map-id c.loop-one.yielded) ∙ end.0)

pub returns-clause-hands : goal.returns-clause-hands
returns-clause-hands g c =
    let gives = c.into_iter-one-iterator.ensures.into_iter_gives in
    let road = YieldsList-from_vec c.args.results.items gives.0 (gives.1 ∙ c.args.results.ok.0) in
    let end = YieldsList-end road c.loop-one.yielded c.loop-one.one-iterator c.loop-one.yielded_by c.next.result c.next.new.self c.in-None.is c.next.ensures.steps in
    c.loop-one.invariant.hands ∙ ap (map (λ w. w.had.tickets.items)) (sym (map-id c.loop-one.yielded) ∙ end.0)

pub returns-clause-none : goal.returns-clause-none
returns-clause-none g c none =
    let gives = c.into_iter-one-iterator.ensures.into_iter_gives in
    let road = YieldsList-from_vec c.args.results.items gives.0 (gives.1 ∙ c.args.results.ok.0) in
    let end = YieldsList-end road c.loop-one.yielded c.loop-one.one-iterator c.loop-one.yielded_by c.next.result c.next.new.self c.in-None.is c.next.ensures.steps in
    subst (λ ws. All (λ fault. fault ≡ None) (map (λ w. w.fault) ws)) (sym (map-id c.loop-one.yielded) ∙ end.0) (c.loop-one.invariant.none none)
