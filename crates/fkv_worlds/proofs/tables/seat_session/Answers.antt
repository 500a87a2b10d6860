use Rattle.std.proofs.Common.{◌≡◌, ◌<◌, ◌+◌, ℕ, List, length, Option, slice_get, slice_set, slice_index_or, unwrap_or, sym, ◌∙◌, ap}
use Rattle.fkv_worlds.specs.States.{seat_row}
use Rattle.fkv_worlds.proofs.StateLemmas.{at-index}
use Rattle.fkv_worlds.proofs.tables.seat_session.Goals as goal

count-is : (xs : List ℕ) (i x : ℕ) → i < length xs → x ≡ slice_index_or xs i x → x ≡ unwrap_or (slice_get xs i) 0
count-is xs i x low is = ap (λ (o : Option ℕ). unwrap_or o 0) (sym (at-index xs i x low is))

pub returns-clause-enters : goal.returns-clause-enters
returns-clause-enters c = ap (λ n. slice_set c.args.enters.now.items c.args.partition (n + 1)) (count-is c.args.enters.now.items c.args.partition c.index.result.now c.requires.enters c.index.ensures)

pub returns-clause-seats : goal.returns-clause-seats
returns-clause-seats c =
    ap (λ row. slice_set c.args.seats.now.items row (record { session = c.index.result.now + 1; issues = 0 })) c.row_of_slot.ensures
    ∙ ap (λ n. slice_set c.args.seats.now.items (seat_row c.args.partition c.args.slot) (record { session = n + 1; issues = 0 })) (count-is c.args.enters.now.items c.args.partition c.index.result.now c.requires.enters c.index.ensures)
