use Rattle.fkv_example.proofs.Lasting.{latest_of_all}
use Rattle.fkv_example.proofs.latest_inputs.updates_come_to_the_latest.Goals as goal

pub returns : goal.returns
returns c = latest_of_all
