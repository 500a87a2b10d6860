use Rattle.std.proofs.Common.{◌≡◌, ◌∙◌, ◌<◌, Some, length, slice_index, rules, refl, sym, ap, inl, inr}
use Rattle.std.proofs.lemmas.List.{length-map}
use Rattle.fkv_store.proofs.CountLemmas.{none-counted, strange-plain, roomless-plain, unrefreshed-plain, unentered-plain}
use Rattle.fkv_operations.specs.After.{key_of}
use Rattle.fkv_partition.specs.Views.{partition_of}
use Rattle.fkv_store.proofs.StopLemmas.{roomless_stopped, roomless_on, unrefreshed_stopped, unrefreshed_on, unentered_stopped, unentered_on, strange_on}
use Rattle.fkv_store.proofs.passes.Pass.run_by_events.Goals as goal

pub returns-clause-ok : goal.returns-clause-ok
returns-clause-ok g c =
    let home : c.home-partition.result ≡ partition_of c.args.store.now.count (g.F.Functions.code (key_of c.args.op)) =
    c.home-partition.ensures.value
    ∙ ap (λ k. partition_of c.args.store.now.count (g.F.Functions.code k)) c.key.ensures in (
      c.in-Ok-run_by_turns.finished.op,
      c.in-Ok-run_by_turns.ensures.op,
      (
        c.in-Ok-run_by_turns.finished,
        record {
          op_is = refl;
          answer_is = sym c.take-answer.ensures.answer;
          fresh = rw (← home, ← c.self.view_is, ← c.in-Ok-make_room.ensures.told, ← c.told_at-known.ensures) c.in-Ok-run_by_turns.ensures.fresh;
          own_is = λ k. rw (← home, c.take-answer.ensures.takes.own_is k, c.in-Ok-make_room.ensures.entries, ← c.self.view_is) refl;
          told_is = rw (← home, c.take-answer.ensures.takes.told_is, c.in-Ok-make_room.ensures.told, ← c.self.view_is) refl;
          share_is = rw (c.take-answer.ensures.takes.share_is, c.in-Ok-make_room.ensures.same.0, ← c.self.view_is) refl;
          last_is = c.take-answer.ensures.takes.last_is ∙ ap Some (sym c.take-answer.ensures.answer);
          store_is = rw (← c.self.view_is) refl;
          sized = rw (← c.self.view_is)
              (length-map c.take-answer.new.self.lists g.H.Recorder.entries
              ∙ (c.take-answer.ensures.takes.sized ∙ (c.in-Ok-make_room.ensures.len ∙ sym (length-map c.self.inside.owns.lists g.H.Recorder.entries))));
        },
      ),
    )

pub returns-clause-steady : goal.returns-clause-steady
returns-clause-steady g c =
    let home : c.home-partition.result ≡ partition_of c.args.store.now.count (g.F.Functions.code (key_of c.args.op)) =
    c.home-partition.ensures.value
    ∙ ap (λ k. partition_of c.args.store.now.count (g.F.Functions.code k)) c.key.ensures in
    rw (← home, ← c.self.view_is) c.in-Ok-run_by_turns.ensures.steady

pub returns-in-Err-run_by_turns-clause-counted : goal.returns-in-Err-run_by_turns-clause-counted
returns-in-Err-run_by_turns-clause-counted g c =
    let home : c.home-partition.result ≡ partition_of c.args.store.now.count (g.F.Functions.code (key_of c.args.op)) =
    c.home-partition.ensures.value
    ∙ ap (λ k. partition_of c.args.store.now.count (g.F.Functions.code k)) c.key.ensures in
    rw (← home, ← c.self.view_is) c.in-Err-run_by_turns.ensures.counted

pub returns-in-Err-clause-counted : goal.returns-in-Err-clause-counted
returns-in-Err-clause-counted g c =
    let missed : c.none-self-inside.result.missed ≡ 0 = ap (λ t. t.missed) c.none-self-inside.ensures in
    rw (← c.self.view_is) (none-counted g.D.Receipt.Receipt.keeps _ _ _ c.in-Err.refused missed (strange-plain c.args.store.now c.args.self.now c.in-Err.refused c.in-Err.ensures.refused))

pub returns-in-Err-make_room-clause-counted : goal.returns-in-Err-make_room-clause-counted
returns-in-Err-make_room-clause-counted g c =
    let missed : c.none-self-inside.result.missed ≡ 0 = ap (λ t. t.missed) c.none-self-inside.ensures in
    rw (← c.self.view_is) (none-counted g.D.Receipt.Receipt.keeps _ _ _ c.in-Err-make_room.refused missed (roomless-plain _ c.in-Err-make_room.ensures.only))

pub returns-in-Err-refresh_at_times-clause-counted : goal.returns-in-Err-refresh_at_times-clause-counted
returns-in-Err-refresh_at_times-clause-counted g c =
    let missed : c.none-self-inside.result.missed ≡ 0 = ap (λ t. t.missed) c.none-self-inside.ensures in
    rw (← c.self.view_is) (none-counted g.D.Receipt.Receipt.keeps _ _ _ c.in-Err-refresh_at_times.refused missed (unrefreshed-plain _ c.in-Err-refresh_at_times.ensures.only))

pub returns-in-Err-session_in-clause-counted : goal.returns-in-Err-session_in-clause-counted
returns-in-Err-session_in-clause-counted g c =
    let missed : c.none-self-inside.result.missed ≡ 0 = ap (λ t. t.missed) c.none-self-inside.ensures in
    rw (← c.self.view_is) (none-counted g.D.Receipt.Receipt.keeps _ _ _ c.in-Err-session_in.refused missed (unentered-plain _ c.in-Err-session_in.ensures.only))

pub returns-in-Err-clause-only : goal.returns-in-Err-clause-only
returns-in-Err-clause-only g c = inl c.in-Err.ensures.refused

pub returns-in-Err-clause-stalled : goal.returns-in-Err-clause-stalled
returns-in-Err-clause-stalled g c = λ is. absurd (strange_on c.args.store.now c.args.self.now c.in-Err.refused c.in-Err.ensures.refused is)

pub returns-in-Err-run_by_turns-clause-stalled : goal.returns-in-Err-run_by_turns-clause-stalled
returns-in-Err-run_by_turns-clause-stalled g c = c.in-Err-run_by_turns.ensures.stalled

pub returns-in-Err-make_room-clause-only : goal.returns-in-Err-make_room-clause-only
returns-in-Err-make_room-clause-only g c = inr (inl (roomless_stopped _ _ c.in-Err-make_room.ensures.only))

pub returns-in-Err-make_room-clause-stalled : goal.returns-in-Err-make_room-clause-stalled
returns-in-Err-make_room-clause-stalled g c = λ is. absurd (roomless_on _ c.in-Err-make_room.ensures.only is)

pub returns-in-Err-refresh_at_times-clause-only : goal.returns-in-Err-refresh_at_times-clause-only
returns-in-Err-refresh_at_times-clause-only g c = inr (inl (unrefreshed_stopped _ _ c.in-Err-refresh_at_times.ensures.only))

pub returns-in-Err-refresh_at_times-clause-stalled : goal.returns-in-Err-refresh_at_times-clause-stalled
returns-in-Err-refresh_at_times-clause-stalled g c = λ is. absurd (unrefreshed_on _ c.in-Err-refresh_at_times.ensures.only is)

pub returns-in-Err-session_in-clause-only : goal.returns-in-Err-session_in-clause-only
returns-in-Err-session_in-clause-only g c = inr (inl (unentered_stopped _ _ c.in-Err-session_in.ensures.only))

pub returns-in-Err-session_in-clause-stalled : goal.returns-in-Err-session_in-clause-stalled
returns-in-Err-session_in-clause-stalled g c = λ is. absurd (unentered_on _ c.in-Err-session_in.ensures.only is)

pub returns-in-Err-make_room-clause-foreign : goal.returns-in-Err-make_room-clause-foreign
returns-in-Err-make_room-clause-foreign g c = λ other. absurd (other c.in-Ok.ensures.ok)

pub returns-in-Err-refresh_at_times-clause-foreign : goal.returns-in-Err-refresh_at_times-clause-foreign
returns-in-Err-refresh_at_times-clause-foreign g c = λ other. absurd (other c.in-Ok.ensures.ok)

pub returns-in-Err-session_in-clause-foreign : goal.returns-in-Err-session_in-clause-foreign
returns-in-Err-session_in-clause-foreign g c = λ other. absurd (other c.in-Ok.ensures.ok)

pub returns-in-Err-run_by_turns-clause-foreign : goal.returns-in-Err-run_by_turns-clause-foreign
returns-in-Err-run_by_turns-clause-foreign g c = λ other. absurd (other c.in-Ok.ensures.ok)

pub invariant_of-self-in-Err-make_room : goal.invariant_of-self-in-Err-make_room
invariant_of-self-in-Err-make_room g c =
    let own = sym c.make_room.ensures.len in (
      ap length c.make_room.ensures.told ∙ c.self.invariant.0 ∙ own,
      c.self.invariant.1 ∙ own,
      c.self.invariant.2 ∙ own,
      c.self.invariant.3 ∙ own,
    )

pub invariant_of-self-in-Err-refresh_at_times : goal.invariant_of-self-in-Err-refresh_at_times
invariant_of-self-in-Err-refresh_at_times g c =
    let own = sym c.make_room.ensures.len in (
      ap length c.make_room.ensures.told ∙ c.self.invariant.0 ∙ own,
      c.self.invariant.1 ∙ own,
      c.refresh_at_times.ensures.seen ∙ c.self.invariant.2 ∙ own,
      c.self.invariant.3 ∙ own,
    )

pub invariant_of-self-in-Err-session_in : goal.invariant_of-self-in-Err-session_in
invariant_of-self-in-Err-session_in g c =
    let own = sym c.make_room.ensures.len in (
      ap length c.make_room.ensures.told ∙ c.self.invariant.0 ∙ own,
      c.session_in.ensures.sessions ∙ c.self.invariant.1 ∙ own,
      c.refresh_at_times.ensures.seen ∙ c.self.invariant.2 ∙ own,
      c.self.invariant.3 ∙ own,
    )

pub invariant_of-self-in-Err-run_by_turns : goal.invariant_of-self-in-Err-run_by_turns
invariant_of-self-in-Err-run_by_turns g c =
    let own = sym c.make_room.ensures.len in (
      ap length c.make_room.ensures.told ∙ c.self.invariant.0 ∙ own,
      c.session_in.ensures.sessions ∙ c.self.invariant.1 ∙ own,
      c.refresh_at_times.ensures.seen ∙ c.self.invariant.2 ∙ own,
      c.run_by_turns.ensures.readers ∙ c.self.invariant.3 ∙ own,
    )
