use Rattle.std.proofs.Common.{◌<◌, ◌≤◌, ℕ, take}
use Rattle.csv.specs.declared.parser.State.TheVariants as st
use Rattle.fkv_blocks.specs.Cutting.{IsBetween, IsCut, state_after}
use Rattle.fkv_blocks.specs.Standing.{StandsAt}
use Rattle.fkv_blocks.proofs.cutting.quoted_end.Given as goal

abbrev pub invariant-loop-at : goal.invariant-loop-at
invariant-loop-at l = record {
  stands : StandsAt l.standing (state_after st.StartRecord (take l.at l.bytes));
  cut : IsCut l.bytes l.last;
  within : l.last ≤ l.at;
  none : (n : ℕ) → l.last < n → n ≤ l.at → IsBetween (state_after st.StartRecord (take n l.bytes)) → ⊥;
}
