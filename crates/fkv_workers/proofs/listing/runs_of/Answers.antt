use Rattle.std.proofs.Common.{rules, ◌≡◌, ◌++◌, [], ◌∷◌, Ok, Err, map, sym, ap, ◌∙◌, inr, append_assoc}
use Rattle.std.specs.Vec.Iter.{into_iter_items}
use Rattle.std.proofs.lemmas.List.{map_push}
use Rattle.fkv_workers.proofs.listing.runs_of.Goals as goal

pub loop-listed-preserved : goal.loop-listed-preserved
loop-listed-preserved g c =
    let old = c.loop-listed.invariant in
    let turn : into_iter_items c.loop-listed.listed-iterator ≡ c.in-Some.listed ∷ into_iter_items c.next.new.self = search rules in
    record {
      runs =
          ap (map Ok) c.in-Ok-push.ensures.items
          ∙ (map_push Ok c.loop-listed.runs.items c.in-Ok.run'
          ∙ (ap (λ l. l ++ Ok c.in-Ok.run' ∷ []) old.runs ∙ ap (λ r. c.loop-listed.yielded ++ r ∷ []) (sym c.in-Ok.is)));
      whole =
          append_assoc c.loop-listed.yielded (c.in-Some.listed ∷ []) (into_iter_items c.next.new.self)
          ∙ (ap (λ l. c.loop-listed.yielded ++ l) (sym turn) ∙ old.whole);
    }

pub returns-in-Err-clause-refused : goal.returns-in-Err-clause-refused
returns-in-Err-clause-refused g c =
    let old = c.loop-listed.invariant in
    let turn : into_iter_items c.loop-listed.listed-iterator ≡ c.in-Some.listed ∷ into_iter_items c.next.new.self = search rules in
    let all : into_iter_items c.into_iter-listed-iterator.result ≡ c.args.results.items = search rules in
    let rest = into_iter_items c.next.new.self in
    inr (record {
      before = c.loop-listed.runs.items;
      after = rest;
      is = sym all ∙ (sym old.whole ∙ (ap (λ l. c.loop-listed.yielded ++ l) turn
          ∙ (ap (λ r. c.loop-listed.yielded ++ r ∷ rest) c.in-Err.is ∙ ap (λ l. l ++ Err c.in-Err.refused ∷ rest) (sym old.runs))));
    })
