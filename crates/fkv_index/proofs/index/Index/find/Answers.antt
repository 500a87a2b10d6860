use Rattle.std.proofs.Common.{refl, sym, ap, ◌∙◌}
use Rattle.fkv_index.proofs.Found.{entry_at-first, entry_at-none, place_of-first, place_of-none}
use Rattle.fkv_index.specs.Words.{is_final_of}
use Rattle.fkv_index.proofs.WordFacts.{final_is_final, tag_of-final}
use Rattle.fkv_index.proofs.IndexMaps.{index_map}
use Rattle.fkv_index.proofs.index.Index.find.Goals as goal

pub returns-in_err-at-clause-entry : goal.returns-in_err-at-clause-entry
returns-in_err-at-clause-entry c = rw (c.from_residual.ensures, ← c.self.view_is) (sym (entry_at-none _ c.args.bucket c.args.tag c.in_err-at.ensures.none))

pub returns-clause-entry : goal.returns-clause-entry
returns-clause-entry c = rw (← c.self.view_is) (entry_at-first _ c.args.bucket c.args.tag c.in_ok-at.at c.in_ok-at.word c.in_ok-at.ensures.some c.in_ok-at.ensures.word)

pub returns-clause-found : goal.returns-clause-found
returns-clause-found c =
    let first = c.in_ok-at.ensures.some in
    let final = ap (is_final_of c.args.tag) c.in_ok-at.ensures.word ∙ first.passes in
    rw (← c.self.view_is) (record {
      bucket = refl;
      place = first.within;
      word = sym c.in_ok-at.ensures.word;
      final = final_is_final c.args.tag c.in_ok-at.word final;
      tag = tag_of-final c.args.tag c.in_ok-at.word final;
    })

pub returns-in_err-at-clause-map : goal.returns-in_err-at-clause-map
returns-in_err-at-clause-map c = rw (← c.self.view_is) (index_map _ c.self.invariant)

pub returns-clause-map : goal.returns-clause-map
returns-clause-map c = rw (← c.self.view_is) (index_map _ c.self.invariant)

pub returns-in_err-at-clause-place : goal.returns-in_err-at-clause-place
returns-in_err-at-clause-place c =
    rw (c.from_residual.ensures, ← c.self.view_is) (sym (place_of-none _ c.args.bucket c.args.tag c.in_err-at.ensures.none))

pub returns-clause-place : goal.returns-clause-place
returns-clause-place c =
    rw (← c.self.view_is) (place_of-first _ c.args.bucket c.args.tag c.in_ok-at.at c.in_ok-at.ensures.some)
