use Rattle.std.proofs.Common.{◌++◌, codes, decimal, length, sym}
use Rattle.std.proofs.lemmas.List.{append-nil}
use Rattle.fkv_steps.specs.Printing.{line, pair_text}
use Rattle.fkv_steps.proofs.PrintingLemmas.{next-piece, after-front}
use Rattle.fkv_steps.proofs.scripts.printing.add_map.Goals as goal

pub loop-key-init : goal.loop-key-init
loop-key-init g c = sym (append-nil c.writeln.new.self.items)

pub loop-key-preserved : goal.loop-key-preserved
loop-key-preserved g c =
    next-piece (λ p. line (pair_text g.V.Printed.text p)) c.args.pairs.now c.loop-key.key-index c.loop-key-item.result c.writeln.new.self.items c.loop-key.text.items c.add_pair.new.text.items
    c.loop-key-test.true c.loop-key-item.is c.loop-key.invariant c.in-Ok-add_pair.ensures.ok

pub returns-clause-ok : goal.returns-clause-ok
returns-clause-ok g c =
    after-front (λ p. line (pair_text g.V.Printed.text p)) c.args.pairs.now c.loop-key.key-index c.args.text.now.items (line (codes "map " ++ decimal (length c.args.pairs.now))) c.writeln.new.self.items c.loop-key.text.items
    c.loop-key-test.false c.in-Ok.ensures.bytes c.loop-key.invariant
