use Rattle.std.proofs.Common.{◌≡◌, length}
use Rattle.std.specs.Prelude.{All, None}
use Rattle.fkv_frames.proofs.ring.Frames.new.Given as goal

-- so many frames, each with a page's bytes and no page
abbrev pub invariant-loop : goal.invariant-loop
invariant-loop l = record {
  count : length l.frames.items ≡ l.counter;
  sizes : All (λ x. length x.bytes.items ≡ l.size) l.frames.items;
  empty : All (λ x. x.page ≡ None) l.frames.items;
}
