use Rattle.std.proofs.Common.{◌≡◌, Err, length, map, get_or, sum, sum_by, sym, ap, subst, ◌∙◌, arith}
use Rattle.std.proofs.lemmas.List.{length-map}
use Rattle.std.proofs.lemmas.List.Elements.{All-map}
use Rattle.fkv_closing.specs.Lists.{lists_of}
use Rattle.fkv_closing.specs.Closing.{AreMerged}
use Rattle.fkv_closing.proofs.RefusingLemmas.{uneven_worn, uneven_mismatch, never_worn, never_apart, by_uneven, by_audit}
use Rattle.fkv_closing.proofs.ClosedLemmas.{legal_all, counted_all, made_all}
use Rattle.fkv_closing.proofs.closing.close_unlisted.Goals as goal

pub returns-in-Err-clause-worn : goal.returns-in-Err-clause-worn
returns-in-Err-clause-worn g c past =
    ap (λ e. Err e) (uneven_worn (map (λ part. part.partition) c.args.parts.items) (sum c.args.shares.now) (sum_by (λ part. part.book) c.args.parts.items) c.in-Err.refused
    (rw c.as_slice-slice.ensures.value at c.in-Err.ensures.refused) past)

pub returns-in-Err-clause-mismatch : goal.returns-in-Err-clause-mismatch
returns-in-Err-clause-mismatch g c s b apart =
    ap (λ e. Err e) (uneven_mismatch (map (λ part. part.partition) c.args.parts.items) (sum c.args.shares.now) (sum_by (λ part. part.book) c.args.parts.items) c.in-Err.refused
    (rw c.as_slice-slice.ensures.value at c.in-Err.ensures.refused) s b)

pub returns-in-Err-clause-refused : goal.returns-in-Err-clause-refused
returns-in-Err-clause-refused g c =
    by_uneven (map (λ part. part.partition) c.args.parts.items) (map (λ part. part.history.items) c.args.parts.items)
    (lists_of (map (λ own. map g.H.Recorder.entries own.items) c.args.owns.items)) (sum c.args.shares.now) (sum_by (λ part. part.book) c.args.parts.items) c.in-Err.refused
    (rw c.as_slice-slice.ensures.value at c.in-Err.ensures.refused)

pub returns-in-Err-audit-clause-worn : goal.returns-in-Err-audit-clause-worn
returns-in-Err-audit-clause-worn g c past =
    absurd (never_worn (map (λ part. part.partition) c.args.parts.items) (sum c.args.shares.now) (sum_by (λ part. part.book) c.args.parts.items) c.in-Ok.finished (omega arith) c.in-Ok.ensures.shared
    (c.in-Ok.ensures.booked ∙ ap (sum_by (λ part. part.book)) c.as_slice-slice.ensures.value) (rw c.as_slice-slice.ensures.value at c.in-Ok.ensures.numbered) past)

pub returns-in-Err-audit-clause-mismatch : goal.returns-in-Err-audit-clause-mismatch
returns-in-Err-audit-clause-mismatch g c s b apart =
    absurd (never_apart (map (λ part. part.partition) c.args.parts.items) (sum c.args.shares.now) (sum_by (λ part. part.book) c.args.parts.items) c.in-Ok.finished (omega arith) c.in-Ok.ensures.shared
    (c.in-Ok.ensures.booked ∙ ap (sum_by (λ part. part.book)) c.as_slice-slice.ensures.value) (rw c.as_slice-slice.ensures.value at c.in-Ok.ensures.numbered) apart)

pub returns-in-Err-audit-clause-refused : goal.returns-in-Err-audit-clause-refused
returns-in-Err-audit-clause-refused g c =
    by_audit (map (λ part. part.partition) c.args.parts.items) (map (λ part. part.history.items) c.args.parts.items)
    (lists_of (map (λ own. map g.H.Recorder.entries own.items) c.args.owns.items)) (sum c.args.shares.now) (sum_by (λ part. part.book) c.args.parts.items) c.in-Err-audit.refused
    (rw c.as_slice-slice.ensures.value at c.in-Err-audit.ensures.refused)

pub returns-in-Ok-audit-clause-worn : goal.returns-in-Ok-audit-clause-worn
returns-in-Ok-audit-clause-worn g c past =
    absurd (never_worn (map (λ part. part.partition) c.args.parts.items) (sum c.args.shares.now) (sum_by (λ part. part.book) c.args.parts.items) c.in-Ok.finished (omega arith) c.in-Ok.ensures.shared
    (c.in-Ok.ensures.booked ∙ ap (sum_by (λ part. part.book)) c.as_slice-slice.ensures.value) (rw c.as_slice-slice.ensures.value at c.in-Ok.ensures.numbered) past)

pub returns-in-Ok-audit-clause-mismatch : goal.returns-in-Ok-audit-clause-mismatch
returns-in-Ok-audit-clause-mismatch g c s b apart =
    absurd (never_apart (map (λ part. part.partition) c.args.parts.items) (sum c.args.shares.now) (sum_by (λ part. part.book) c.args.parts.items) c.in-Ok.finished (omega arith) c.in-Ok.ensures.shared
    (c.in-Ok.ensures.booked ∙ ap (sum_by (λ part. part.book)) c.as_slice-slice.ensures.value) (rw c.as_slice-slice.ensures.value at c.in-Ok.ensures.numbered) apart)

pub returns-in-Ok-audit-clause-booked : goal.returns-in-Ok-audit-clause-booked
returns-in-Ok-audit-clause-booked g c = c.in-Ok.ensures.booked ∙ ap (sum_by (λ part. part.book)) c.as_slice-slice.ensures.value

pub returns-in-Ok-audit-clause-numbered : goal.returns-in-Ok-audit-clause-numbered
returns-in-Ok-audit-clause-numbered g c = rw c.as_slice-slice.ensures.value at c.in-Ok.ensures.numbered

pub returns-in-Ok-audit-clause-merged : goal.returns-in-Ok-audit-clause-merged
returns-in-Ok-audit-clause-merged g c =
    let owns = map (λ own. map g.H.Recorder.entries own.items) c.args.owns.items in
    subst (λ parts. AreMerged (map (λ part. part.history.items) parts) (lists_of owns)) c.as_slice-slice.ensures.value c.in-Ok-audit.ensures.merged

pub returns-in-Ok-audit-clause-closed : goal.returns-in-Ok-audit-clause-closed
returns-in-Ok-audit-clause-closed g c told keeps =
    let owns = map (λ own. map g.H.Recorder.entries own.items) c.args.owns.items in
    let cmp = g.F.Key.Ord.cmp in
    let f = g.F.Functions.meaning in
    let parts = c.args.parts.items in
    let ended = c.requires.ended told keeps in
    let sized = c.args.parts.ok.0 ∙ sym (length-map parts (λ part. part.history.items)) in
    record {
      sized = All-map (λ own. length own ≡ length (map (λ part. part.history.items) parts)) (λ own. map g.H.Recorder.entries own.items) c.args.owns.items
          (λ k d lt. length-map (get_or c.args.owns.items k d).items g.H.Recorder.entries ∙ (sym (get_or c.args.owns.items k d).ok.0 ∙ (c.requires.kept k d lt ∙ sized)));
      legal = legal_all cmp f (λ part. part.partition) (λ part. part.history.items) (λ part. part.book) parts ended;
      merged = subst (λ parts. AreMerged (map (λ part. part.history.items) parts) (lists_of owns)) c.as_slice-slice.ensures.value c.in-Ok-audit.ensures.merged;
      counted = counted_all cmp f (λ part. part.partition) (λ part. part.history.items) (λ part. part.book) parts ended
          ∙ (ap (sum_by (λ part. part.book)) (sym c.as_slice-slice.ensures.value) ∙ sym c.in-Ok.ensures.booked);
      shared = sym c.in-Ok.ensures.shared;
      made = made_all cmp f (λ part. part.partition) (λ part. part.history.items) (λ part. part.book) g.F.Functions.code parts ended;
    }
