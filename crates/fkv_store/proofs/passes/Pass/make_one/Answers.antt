use Rattle.std.proofs.Common.{◌∙◌, Some, refl, sym, ap}
use Rattle.std.proofs.lemmas.List.{length-map}
use Rattle.fkv_store.proofs.passes.Pass.make_one.Goals as goal

pub returns-in-Ok-Some-clause-done : goal.returns-in-Ok-Some-clause-done
returns-in-Ok-Some-clause-done g c =
    let e = c.in-Ok-Some.finished in
    let room = c.in-Ok.ensures in
    record {
      runs = (
        e,
        record {
          op_is = rw c.in-Ok-Some.field-0-is at c.in-Ok-Some.ensures.op_is;
          answer_is = sym c.take-answer.ensures.answer;
          fresh = rw (← c.self.view_is, ← room.told, ← c.told_at-known.ensures) (rw c.in-Ok-Some.field-0-is at c.in-Ok-Some.ensures.fresh).0;
          own_is = λ k. rw (c.take-answer.ensures.takes.own_is k, room.entries, ← c.self.view_is) refl;
          told_is = rw (c.take-answer.ensures.takes.told_is, room.told, ← c.self.view_is) refl;
          share_is = rw (c.take-answer.ensures.takes.share_is, room.same.0, ← c.self.view_is) refl;
          last_is = c.take-answer.ensures.takes.last_is ∙ ap Some (sym c.take-answer.ensures.answer);
          store_is = rw (← c.self.view_is) refl;
          sized = rw (← c.self.view_is)
              (length-map c.take-answer.new.self.lists g.H.Recorder.entries
              ∙ (c.take-answer.ensures.takes.sized ∙ (room.len ∙ sym (length-map c.self.inside.owns.lists g.H.Recorder.entries))));
        },
      );
      room = rw (← c.self.view_is, ← room.same.0) room.share;
      turned = ap (λ t. t.count) c.none-self-inside.ensures;
      missed = ap (λ t. t.missed) c.none-self-inside.ensures;
      reads = rw (← c.self.view_is) refl;
    }

pub returns-in-Ok-Some-clause-home : goal.returns-in-Ok-Some-clause-home
returns-in-Ok-Some-clause-home g c = rw c.in-Ok-Some.field-0-is at c.in-Ok-Some.ensures.home
