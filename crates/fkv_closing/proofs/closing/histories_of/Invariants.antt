use Rattle.std.proofs.Common.{◌≡◌, map}
use Rattle.fkv_closing.proofs.closing.histories_of.Given as goal

abbrev pub invariant-loop-part : goal.invariant-loop-part
invariant-loop-part g l = map (λ history. history.items) l.histories.items ≡ map (λ part. part.history.items) l.yielded
