use Rattle.std.proofs.Common.{◌≡◌}
use Rattle.fkv_commands.specs.Endings.{version_line}
use Rattle.fkv_commands.proofs.running.write_version.Goals as goal

pub returns-clause-ok : goal.returns-clause-ok
unfolding version_line
returns-clause-ok g c =
    let same : c.as_bytes.result.now ≡ version_line = c.as_bytes.ensures.value in
    rw same at c.write_out.ensures.ok

pub returns-clause-refused : goal.returns-clause-refused
unfolding version_line
returns-clause-refused g c =
    let same : c.as_bytes.result.now ≡ version_line = c.as_bytes.ensures.value in
    rw same at c.write_out.ensures.refused
