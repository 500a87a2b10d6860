use Rattle.std.proofs.Common.{◌≡◌, length}
use Rattle.fkv_store.specs.Stores.{AreReaders}
use Rattle.fkv_store.proofs.stores.readers_of.Given as goal

abbrev pub invariant-loop-number : goal.invariant-loop-number
invariant-loop-number g l = record {
  len : length l.readers.items ≡ l.number;
  places : AreReaders g.D.Reader.PageReader.part l.readers.items;
}
