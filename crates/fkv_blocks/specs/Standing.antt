-- Where a byte stands in a text, by csv's states.
use Rattle.std.specs.Prelude.{◌≡◌}
use Rattle.csv.specs.declared.parser.State.{State}
use Rattle.csv.specs.declared.parser.State.TheVariants as st
use Rattle.fkv_blocks.specs.Cutting.{IsBetween}
use Rattle.fkv_blocks.specs.declared.cutting.Standing.{Standing}
use Rattle.fkv_blocks.specs.declared.cutting.Standing.TheVariants.{Between, AtField, InField, Quoted, BehindQuote}

abbrev pub StandsAt : Standing → State → Type 0
StandsAt Between s = IsBetween s
StandsAt AtField s = s ≡ st.StartField
StandsAt InField s = s ≡ st.InField
StandsAt Quoted s = s ≡ st.InQuoted
StandsAt BehindQuote s = s ≡ st.AfterQuote
