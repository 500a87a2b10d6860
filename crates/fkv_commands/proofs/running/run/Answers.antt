use Rattle.std.proofs.Common.{⊎_elim, Err, refl, ap, map, string_bytes, inl, inr, ◌≡◌, ◌∙◌}
use Rattle.fkv_requests.specs.Requests.{AsksReplay, AsksTable, MayAskHelp, MayAskVersion, MayBeMistaken}
use Rattle.fkv_requests.proofs.SpillLemmas.{asked-unaudited}
use Rattle.fkv_commands.proofs.TellingLemmas.{unwritable_or}
use Rattle.fkv_commands.proofs.StatusLemmas.{done_is_no_fault, done_is_no_mistake, fault_is_no_mistake, uncounted}
use Rattle.fkv_commands.proofs.running.run.Goals as goal

-- ---- a table that is spilled keeps no histories
pub tabulate-requires-clause-unaudited : goal.tabulate-requires-clause-unaudited
tabulate-requires-clause-unaudited g c κs within =
    let asks : AsksTable (map string_bytes c.args.words.now) c.in-Ok-Table.table = rw c.in-Ok-Table.field-0-is at c.in-Ok-Table.ensures.ok in
    asked-unaudited _ _ asks

-- ---- what was asked for was done
pub returns-in-Ok : goal.returns-in-Ok
returns-in-Ok g c =
    let asks : AsksReplay (map string_bytes c.args.words.now) = rw c.in-Ok-Replay.field-0-is at c.in-Ok-Replay.ensures.ok in
    let status : c.by.result.status ≡ 0 = ap (λ e. e.status) c.by.ensures in
    record {
      done = λ _. inl (asks, c.in-Ok.ensures.ok);
      quiet = λ _. inl refl;
      out = λ _. c.in-Ok.ensures.out;
      steady = λ _. (uncounted c.in-Ok.ensures.unread, uncounted c.in-Ok.ensures.unwritten);
      fault = λ e. absurd (done_is_no_fault _ status e);
      mistake = λ e. absurd (done_is_no_mistake _ status e);
      only = inl status;
    }

pub returns-in-Ok-tabulate : goal.returns-in-Ok-tabulate
returns-in-Ok-tabulate g c =
    let asks : AsksTable (map string_bytes c.args.words.now) c.in-Ok-Table.table = rw c.in-Ok-Table.field-0-is at c.in-Ok-Table.ensures.ok in
    record {
      done = λ _. inr (inl (c.in-Ok-Table.table, asks, c.in-Ok-tabulate.ensures.ok, (c.in-Ok-tabulate.done, refl, c.in-Ok-tabulate.ensures.ran)));
      quiet = λ _. ⊎_elim (λ same. inl same) (λ asked. inr (c.in-Ok-Table.table, asks, asked.0, (c.in-Ok-tabulate.done, refl, asked.1))) c.report.ensures;
      out = λ _. c.in-Ok-tabulate.ensures.out;
      steady = λ _. c.in-Ok-tabulate.ensures.steady;
      fault = λ e. absurd (done_is_no_fault 0 refl e);
      mistake = λ e. absurd (done_is_no_mistake 0 refl e);
      only = inl refl;
    }

pub returns-in-Ok-write_out : goal.returns-in-Ok-write_out
returns-in-Ok-write_out g c =
    let asks : MayAskHelp (map string_bytes c.args.words.now) = rw c.in-Ok-Help.field-0-is at c.in-Ok-Help.ensures.ok in
    let status : c.by-in-Ok-write_out.result.status ≡ 0 = ap (λ e. e.status) c.by-in-Ok-write_out.ensures in
    record {
      done = λ _. inr (inr (inr asks));
      quiet = λ _. inl refl;
      out = λ _. c.in-Ok-write_out.ensures.out;
      steady = λ _. (refl, uncounted c.in-Ok-write_out.ensures.counted);
      fault = λ e. absurd (done_is_no_fault _ status e);
      mistake = λ e. absurd (done_is_no_mistake _ status e);
      only = inl status;
    }

pub returns-in-Ok-write_version : goal.returns-in-Ok-write_version
returns-in-Ok-write_version g c =
    let asks : MayAskVersion (map string_bytes c.args.words.now) = rw c.in-Ok-Version.field-0-is at c.in-Ok-Version.ensures.ok in
    let status : c.by-in-Ok-write_version.result.status ≡ 0 = ap (λ e. e.status) c.by-in-Ok-write_version.ensures in
    record {
      done = λ _. inr (inr (inl (asks, c.in-Ok-write_version.ensures.ok)));
      quiet = λ _. inl refl;
      out = λ _. c.in-Ok-write_version.ensures.out;
      steady = λ _. (refl, c.in-Ok-write_version.ensures.steady);
      fault = λ e. absurd (done_is_no_fault _ status e);
      mistake = λ e. absurd (done_is_no_mistake _ status e);
      only = inl status;
    }

-- ---- a fault ended it
pub returns-in-Ok-Replay : goal.returns-in-Ok-Replay
returns-in-Ok-Replay g c =
    let asks : AsksReplay (map string_bytes c.args.words.now) = rw c.in-Ok-Replay.field-0-is at c.in-Ok-Replay.ensures.ok in
    let told : c.by-in-Err-run_script.result.status ≡ 1 = ap (λ e. e.status) c.by-in-Err-run_script.ensures ∙ c.tell.ensures in
    record {
      done = λ e. absurd (done_is_no_fault _ e told);
      quiet = λ e. absurd (done_is_no_fault _ e told);
      out = λ e. absurd (done_is_no_fault _ e told);
      steady = λ e. absurd (done_is_no_fault _ e told);
      fault = λ _. elim (unwritable_or c.in-Err-run_script.refused) [
        | inl u ↦ inr (inl (asks, c.in-Err-run_script.ensures.unwritable (ap Err u)))
        | inr n ↦ inl (c.in-Err-run_script.ensures.nothing n)
      ];
      mistake = λ e. absurd (fault_is_no_mistake _ told e);
      only = inr (inl told);
    }

pub returns-in-Ok-Table : goal.returns-in-Ok-Table
returns-in-Ok-Table g c =
    let asks : AsksTable (map string_bytes c.args.words.now) c.in-Ok-Table.table = rw c.in-Ok-Table.field-0-is at c.in-Ok-Table.ensures.ok in
    let told : c.by-in-Err-tabulate.result.status ≡ 1 = ap (λ e. e.status) c.by-in-Err-tabulate.ensures ∙ c.tell_with_cause.ensures in
    record {
      done = λ e. absurd (done_is_no_fault _ e told);
      quiet = λ e. absurd (done_is_no_fault _ e told);
      out = λ e. absurd (done_is_no_fault _ e told);
      steady = λ e. absurd (done_is_no_fault _ e told);
      fault = λ _. elim c.in-Err-tabulate.ensures.nothing [
        | inl (inl u) ↦ inr (inr (inl (c.in-Ok-Table.table, asks, c.in-Err-tabulate.ensures.unwritable (ap Err u))))
        | inl (inr late) ↦ elim (c.in-Err-tabulate.ensures.spilled late.0) [
          | inl same ↦ inl same
          | inr part ↦ inr (inr (inl (c.in-Ok-Table.table, asks, part)))
        ]
        | inr same ↦ inl same
      ];
      mistake = λ e. absurd (fault_is_no_mistake _ told e);
      only = inr (inl told);
    }

pub returns-in-Ok-Help : goal.returns-in-Ok-Help
returns-in-Ok-Help g c =
    let asks : MayAskHelp (map string_bytes c.args.words.now) = rw c.in-Ok-Help.field-0-is at c.in-Ok-Help.ensures.ok in
    let told : c.by-in-Err-write_out.result.status ≡ 1 = ap (λ e. e.status) c.by-in-Err-write_out.ensures ∙ c.tell-in-Err-write_out.ensures in
    record {
      done = λ e. absurd (done_is_no_fault _ e told);
      quiet = λ e. absurd (done_is_no_fault _ e told);
      out = λ e. absurd (done_is_no_fault _ e told);
      steady = λ e. absurd (done_is_no_fault _ e told);
      fault = λ _. inr (inr (inr (inr asks)));
      mistake = λ e. absurd (fault_is_no_mistake _ told e);
      only = inr (inl told);
    }

pub returns-in-Ok-Version : goal.returns-in-Ok-Version
returns-in-Ok-Version g c =
    let asks : MayAskVersion (map string_bytes c.args.words.now) = rw c.in-Ok-Version.field-0-is at c.in-Ok-Version.ensures.ok in
    let told : c.by-in-Err-write_version.result.status ≡ 1 = ap (λ e. e.status) c.by-in-Err-write_version.ensures ∙ c.tell-in-Err-write_version.ensures in
    record {
      done = λ e. absurd (done_is_no_fault _ e told);
      quiet = λ e. absurd (done_is_no_fault _ e told);
      out = λ e. absurd (done_is_no_fault _ e told);
      steady = λ e. absurd (done_is_no_fault _ e told);
      fault = λ _. inr (inr (inr (inl (asks, c.in-Err-write_version.ensures.refused))));
      mistake = λ e. absurd (fault_is_no_mistake _ told e);
      only = inr (inl told);
    }

pub returns : goal.returns
returns g c =
    let told : c.by-in-Err.result.status ≡ 1 = ap (λ e. e.status) c.by-in-Err.ensures ∙ c.tell-in-Err.ensures in
    record {
      done = λ e. absurd (done_is_no_fault _ e told);
      quiet = λ e. absurd (done_is_no_fault _ e told);
      out = λ e. absurd (done_is_no_fault _ e told);
      steady = λ e. absurd (done_is_no_fault _ e told);
      fault = λ _. inl refl;
      mistake = λ e. absurd (fault_is_no_mistake _ told e);
      only = inr (inl told);
    }

-- ---- nothing of the kind is asked for
pub returns-in-Ok-Mistake : goal.returns-in-Ok-Mistake
returns-in-Ok-Mistake g c =
    let asks : MayBeMistaken (map string_bytes c.args.words.now) = rw c.in-Ok-Mistake.field-0-is at c.in-Ok-Mistake.ensures.ok in
    let status : c.by-in-Ok-Mistake.result.status ≡ 2 = ap (λ e. e.status) c.by-in-Ok-Mistake.ensures in
    record {
      done = λ e. absurd (done_is_no_mistake _ e status);
      quiet = λ e. absurd (done_is_no_mistake _ e status);
      out = λ e. absurd (done_is_no_mistake _ e status);
      steady = λ e. absurd (done_is_no_mistake _ e status);
      fault = λ e. absurd (fault_is_no_mistake _ e status);
      mistake = λ _. (asks, refl);
      only = inr (inr status);
    }
