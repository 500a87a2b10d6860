use Rattle.fkv_hybrid.proofs.FrameLemmas.{wrote_there, wrote_made}
use Rattle.fkv_hybrid.proofs.bytes.put_record.Goals.{then-is_new, else-is_new}
use Rattle.fkv_hybrid.proofs.bytes.put_record.Goals as goal

pub returns-clause-written : goal.returns-clause-written
returns-clause-written g c =
    let w = rw c.write_record.ensures.bytes at c.write_at.ensures in
    elim c.if-is_new.branch [
      | then-is_new b ↦ wrote_made c.args.is_new c.args.page c.args.address _ c.args.frames.now _ _ _ b.frames-is c.requires.page b.if-is_new.true b.open_page.ensures w
      | else-is_new b ↦ wrote_there c.args.is_new c.args.page c.args.address _ c.args.frames.now _ _ b.frames-is c.requires.page b.if-is_new.false w
    ]
