use Rattle.std.proofs.Common.{◌≡◌, ◌&&◌, false, true, not, bytes_eq, refl, ap}
use Rattle.sha2.specs.Sha256.{sha256, digest_bytes, hash_after, compress, rounds, schedule, first_words}
use Rattle.fkv_device.specs.Known.{are_kept, is_apart}
use Rattle.fkv_test_storage.specs.Sevens.{sevens, eights}
use Rattle.fkv_test_storage.proofs.sevens.sevens_keep.Goals as goal

-- the two digests, computed
told : bytes_eq (sha256 sevens) (sha256 eights) ≡ false
unfolding sha256 digest_bytes hash_after compress rounds schedule first_words
told = refl

pub returns : goal.returns
unfolding are_kept is_apart
returns c = ap (λ b. (not b && true) && true) told
