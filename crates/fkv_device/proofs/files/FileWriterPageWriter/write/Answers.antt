use Rattle.std.proofs.Common.{◌≡◌, rules, ap, ◌∙◌}
use Rattle.sha2.specs.Sha256.{sha256}
use Rattle.fkv_device.specs.Known.{IsTaken, page_of, is_digest}
use Rattle.fkv_device.proofs.KnownLemmas.{taken_is, taken_digest}
use Rattle.fkv_device.proofs.files.FileWriterPageWriter.write.Goals as goal

pub invariant_of-result : goal.invariant_of-result
invariant_of-result g c =
    let taken : IsTaken g.F.PageFile.pages c.bytes-bytes.result.now = search rules in
    let digest : c.digest_of.result ≡ sha256 c.bytes-bytes.result.now = search rules in
    record { taken = ap (is_digest g.F.PageFile.pages) digest ∙ taken_digest g.F.PageFile.pages c.bytes-bytes.result.now taken }

pub returns-clause-kept : goal.returns-clause-kept
returns-clause-kept g c =
    let taken : IsTaken g.F.PageFile.pages c.args.bytes.now = search rules in
    let digest : c.digest_of.result ≡ sha256 c.args.bytes.now = search rules in
    λ kept. ap (page_of g.F.PageFile.pages) digest ∙ taken_is g.F.PageFile.pages c.args.bytes.now taken kept
