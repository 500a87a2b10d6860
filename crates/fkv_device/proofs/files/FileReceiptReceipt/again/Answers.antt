use Rattle.std.proofs.Math.Bool.{Bool-set}
use Rattle.fkv_device.proofs.files.FileReceiptReceipt.again.Goals as goal

pub returns-clause-same : goal.returns-clause-same
returns-clause-same g c = λ i. record {
  number = c.args.self.now.number;
  page = c.args.self.now.page;
  place = c.args.self.now.place;
  length = c.args.self.now.length;
  digest = c.args.self.now.digest;
  of = record {};
  taken = Bool-set _ _ c.result-2-1.given.0 c.args.self.now.taken i;
}
