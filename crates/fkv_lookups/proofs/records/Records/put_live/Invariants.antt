use Rattle.std.proofs.Common.{◌≡◌, ◌-◌}
use Rattle.std.specs.Prelude.{IsTrue}
use Rattle.std.specs.BTreeMap.{get}
use Rattle.fkv_records.specs.Records.{size_of}
use Rattle.fkv_texts.specs.Deltas.{resolved}
use Rattle.fkv_hybrid.specs.Scans.{IsScanOf}
use Rattle.fkv_lookups.specs.Overlays.{IsApart}
use Rattle.fkv_lookups.proofs.ScanLemmas.{IsScanned}
use Rattle.fkv_lookups.proofs.records.Records.put_live.Given as goal

-- on a device that keeps, where no key of a record was in the map, it has what the keys of the entries below have where the
-- scan stands
abbrev pub invariant-loop-self : goal.invariant-loop-self
invariant-loop-self g l =
    let log = l.self-inside.log in
    let size = size_of g.F.Key.Fixed.SIZE g.F.Value.Fixed.SIZE in
    let cmp = g.F.Key.Ord.cmp in
    let join = g.F.Mergeable.parts.joined in
    record {
      scan : IsScanOf size log l.scan;
      scanned : IsTrue g.R.Receipt.keeps → IsApart cmp (get cmp l.initial.map) (resolved cmp join log.text)
          → IsScanned cmp join (get cmp l.initial.map) log.bits size log.tail log.text l.scan.address (get cmp l.map);
      steady : g.P.PageReader.failures l.reader ≡ g.P.PageReader.failures l.fn.reader;
    }

abbrev pub decreases-loop-self : goal.decreases-loop-self
decreases-loop-self g l = l.self-inside.log.tail - l.scan.address
