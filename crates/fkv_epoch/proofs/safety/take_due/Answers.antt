use Rattle.std.proofs.Common.{◌≡◌, ap, sym, ◌∙◌, take, drop}
use Rattle.std.specs.List.{prefix_len}
use Rattle.fkv_epoch.specs.SafeEpoch.{is_safe_epoch}
use Rattle.fkv_epoch.specs.Due.{actions_of}
use Rattle.fkv_epoch.proofs.SafeLemmas.{due_front, left_behind}
use Rattle.fkv_epoch.proofs.safety.take_due.Goals as goal

pub returns-clause-due : goal.returns-clause-due
returns-clause-due c =
    let count : c.count_due-count.result ≡ prefix_len (λ w. is_safe_epoch c.args.slots.now w.epoch) c.args.waiting.now.items = rw c.deref.ensures.0 at c.count_due-count.ensures.count in
    c.take_first.ensures.taken ∙ ap actions_of (ap (λ n. take n c.args.waiting.now.items) count ∙ sym (due_front c.args.slots.now c.args.waiting.now.items c.requires))

pub returns-clause-left : goal.returns-clause-left
returns-clause-left c =
    let count : c.count_due-count.result ≡ prefix_len (λ w. is_safe_epoch c.args.slots.now w.epoch) c.args.waiting.now.items = rw c.deref.ensures.0 at c.count_due-count.ensures.count in
    c.take_first.ensures.left ∙ ap (λ n. drop n c.args.waiting.now.items) count ∙ sym (left_behind c.args.slots.now c.args.waiting.now.items c.requires)
