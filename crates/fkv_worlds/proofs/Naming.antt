-- What a receipt of a page in memory stands for.
use Rattle.fkv_device.specs.Standing.{Standing}
use Rattle.fkv_device.specs.declared.memory.MemoryReceipt.{MemoryReceipt}
use Rattle.fkv_device.specs.contracts.memory.MemoryReceiptReceipt.TheImpl as impl

abbrev pub stands : MemoryReceipt → Standing
stands = impl.ghosts.stands
