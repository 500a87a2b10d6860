use Rattle.std.proofs.Common.{◌≡◌, ◌+◌, ◌≤◌, None, false}
use Rattle.fkv_store.proofs.running.run_on.Given as goal

-- each turn so far was counted, and each failure of the reader was passed over; where no page is to be read none was wanted
abbrev pub invariant-loop-turn : goal.invariant-loop-turn
invariant-loop-turn g l = record {
  turned : l.turned.count ≡ l._turn;
  missed : l.turned.missed ≤ l.turned.count;
  steady : g.D.Reader.PageReader.failures l.reader ≡ g.D.Reader.PageReader.failures l.initial.reader + l.turned.missed;
  unread : l.reads ≡ false → (l.wanted ≡ None) × (l.turned.missed ≡ 0);
}
