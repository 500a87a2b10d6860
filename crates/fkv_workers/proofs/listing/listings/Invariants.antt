use Rattle.std.proofs.Common.{◌≡◌, map}
use Rattle.fkv_workers.proofs.listing.listings.Given as goal

-- each partition so far is to be listed
abbrev pub invariant-loop-part : goal.invariant-loop-part
invariant-loop-part g l = map (λ listing. listing.part) l.listings.items ≡ l.yielded
