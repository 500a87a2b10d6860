use Rattle.std.proofs.Common.{map, take, string_bytes}
use Rattle.std.specs.List.{AllZip}
use Rattle.fkv_commands.specs.Sources.{Agrees}
use Rattle.fkv_commands.proofs.opening.all_opened.Given as goal

abbrev pub invariant-loop-place : goal.invariant-loop-place
invariant-loop-place g l = AllZip Agrees (map (λ path. g.O.Opener.bytes l.opener (string_bytes path)) (take l.place l.paths))
    (map g.O.Feed.Source.remaining l.feeds.items)
