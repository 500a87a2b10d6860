use Rattle.std.proofs.Common.{◌≡◌, ◌++◌, map}
use Rattle.std.specs.Vec.Iter.{into_iter_items}
use Rattle.fkv_store.proofs.unlisted.take_apart.Given as goal

-- the parts so far are apart, and the writers and readers that are left are those of the others
abbrev pub invariant-loop-part : goal.invariant-loop-part
invariant-loop-part g l = record {
  partitions : map (λ part. part.partition) l.partitions.items ≡ map (λ part. part.partition) l.yielded;
  writers : map (λ part. part.writer) l.partitions.items ++ into_iter_items l.writers ≡ into_iter_items l.initial.writers;
  readers : map (λ part. part.reader) l.partitions.items ++ into_iter_items l.readers ≡ into_iter_items l.initial.readers;
  histories : map (λ history. history.items) l.histories.items ≡ map (λ part. part.history.items) l.yielded;
}
