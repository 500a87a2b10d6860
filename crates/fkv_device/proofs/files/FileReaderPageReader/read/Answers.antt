use Rattle.std.proofs.Common.{◌≡◌, rules}
use Rattle.sha2.specs.Sha256.{sha256}
use Rattle.fkv_device.specs.Known.{IsGiven}
use Rattle.fkv_device.proofs.KnownLemmas.{given_is}
use Rattle.fkv_device.proofs.files.FileReaderPageReader.read.Goals as goal

pub returns-clause-kept : goal.returns-clause-kept
returns-clause-kept g c =
    let given : IsGiven g.F.PageFile.pages c.of-read.result = search rules in
    let digest : sha256 c.of-read.result ≡ c.args.receipt.now.digest = search rules in
    given_is g.F.PageFile.pages c.args.receipt.now.digest c.of-read.result c.args.receipt.now.taken given digest
