use Rattle.fkv_frames.proofs.Slots.{none-in_frames}
use Rattle.fkv_frames.proofs.ring.Frames.new.Goals as goal

pub returns-clause-none : goal.returns-clause-none
returns-clause-none c = λ n. none-in_frames (record { page_bits = c.args.page_bits; round = 0; frames = c.loop.frames }) n c.loop.invariant.empty
