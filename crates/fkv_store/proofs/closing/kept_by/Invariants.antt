use Rattle.std.proofs.Common.{◌≡◌, map, vec_len}
use Rattle.std.specs.List.{All}
use Rattle.fkv_store.proofs.closing.kept_by.Given as goal

abbrev pub invariant-loop-pass : goal.invariant-loop-pass
invariant-loop-pass g l = record {
  owns : map (λ own. map g.H.Recorder.entries own.items) l.owns.items ≡ map (λ pass. pass.own) l.yielded;
  sized : All (λ own. vec_len own ≡ l.count) l.owns.items;
  shares : l.shares.items ≡ map (λ pass. pass.share) l.yielded;
}
