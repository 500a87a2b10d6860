-- Whether a device can fail at all.
use Rattle.std.specs.Prelude.{◌+◌, ◌<◌, ◌^◌, ℕ}
use Rattle.fkv_device.specs.Standing.{Standing}

-- a read can fail by a receipt, of as many bytes as that stands for
abbrev pub CanFailToRead : {R : Type 0} → (R → Standing) → (R → ℕ → Type 0) → Type 0
CanFailToRead {R} stands can_fail = (r : R) × can_fail r (stands r).length

-- a write can fail of a writer that has numbers left
abbrev pub CanFailToWrite : {W : Type 0} → (W → ℕ) → (W → Type 0) → Type 0
CanFailToWrite {W} next can_fail = (w : W) × can_fail w × (next w + 1 < 2 ^ 64)
