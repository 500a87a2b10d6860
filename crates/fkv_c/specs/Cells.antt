-- Cells: 64 bytes each, that are written, read and removed, and never updated.
use Rattle.std.specs.Prelude.{◌≡◌, ◌-◌, ◌++◌, ℕ, length, replicate, Option, Some, None}
use Rattle.fkv_functions.specs.declared.names.Name.{Name}
use Rattle.fkv_functions.specs.Codecs.{Codec}
use Rattle.fkv_functions.specs.Names.{text_of}
use Rattle.fkv_functions.specs.Meanings.{Meanings}
use Rattle.fkv_operations.specs.declared.operations.Answer.{Answer}
use Rattle.fkv_operations.specs.declared.operations.Answer.TheVariants.{Value, Absent, Stored, Deleted, Cleared, Declined}
use Rattle.fkv_c.specs.declared.cells.Cell.{Cell}
use Rattle.fkv_c.specs.declared.cells.CellTold.{CellTold}
use Rattle.fkv_c.specs.declared.cells.CellPair.{CellPair}

-- what functions mean by which each update is declined, and a read shows the value
abbrev pub blind : {K V I : Type 0} → Meanings K V I V
blind = record {
  first = λ k i. None;
  next = λ k v i. None;
  shown = λ k i v. v;
}

-- cells are written as they are
abbrev pub cell_codec : Codec Cell 64
cell_codec = record {
  is_known = λ c. length c.bytes ≡ 64;
  bytes_of = λ c. c.bytes;
  sized = λ c h. h;
  readable = λ a b h k e. λ i. record { bytes = e i };
}

abbrev pub zero_cell : Cell
zero_cell = record { bytes = replicate 64 0 }

-- an answer of this kind that has no cell
abbrev pub no_cell : ℕ → CellTold
no_cell kind = record { kind = kind; cell = zero_cell }

-- what tells an answer; no operation on a key is answered by Cleared
abbrev pub cell_answer_of : Answer Cell → CellTold
cell_answer_of (Value c) = record { kind = 0; cell = c }
cell_answer_of Absent = no_cell 1
cell_answer_of Stored = no_cell 2
cell_answer_of Deleted = no_cell 3
cell_answer_of Declined = no_cell 4
cell_answer_of Cleared = no_cell 5

-- what tells a key and its cell, or that there is none
abbrev pub cell_pair_of : Option (Name × Cell) → CellPair
cell_pair_of None = record { is_some = 0; length = 0; key = replicate 32 0; cell = zero_cell }
cell_pair_of (Some p) = record {
  is_some = 1;
  length = length (text_of p.0);
  key = text_of p.0 ++ replicate (32 - length (text_of p.0)) 0;
  cell = p.1;
}
