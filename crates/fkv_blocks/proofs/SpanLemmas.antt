-- Blocks that lie one behind another.
use Rattle.std.proofs.Common.{◌≡◌, ◌-◌, ◌≤◌, ◌⊎◌, inl, inr, ℕ, List, [], ◌∷◌, ◌++◌, refl, ap, subst, ◌∙◌, arith, length, take, drop, take_all, length-drop, take-append-drop, append-nil, append_assoc, flat_map}
use Rattle.std.specs.List.{AllZip}
use Rattle.csv.specs.Machine.{next_record}
use Rattle.csv.specs.Reading.{Reached, default_config}
use Rattle.csv.specs.declared.parser.State.{State}
use Rattle.csv.specs.declared.parser.State.TheVariants as st
use Rattle.fkv_blocks.specs.Cutting.{AreRecordsOf, IsBetween, IsCut, block_of, state_after}
use Rattle.fkv_blocks.specs.Spans.{Chains, AreRecordsAt}
use Rattle.fkv_blocks.specs.declared.spans.Span.{Span}
use Rattle.fkv_blocks.proofs.CutLemmas.{block_more, reached_longer, reached_behind}

abbrev pub Records : Type 0
Records = List (List (List ℕ))

abbrev pub joined : List Records → Records
joined parts = flat_map (λ part. part) parts

none_at_start : AreRecordsOf [] []
unfolding Reached next_record
none_at_start = (st.StartRecord, [], (refl, refl), refl)

chained : (text : List ℕ) (low high : ℕ) (before : Records) (spans : List Span) (parts : List Records) → AreRecordsOf (take low text) before
    → Chains low spans high
    → AllZip (AreRecordsAt text) spans parts
    → AreRecordsOf (take high text) (before ++ joined parts)
chained text low high before [] [] front chain all = rw (← chain, append-nil before) front
chained text low high before [] (part ∷ parts) front chain all = absurd all
chained text low high before (span ∷ spans) [] front chain all = absurd all
chained text low high before (span ∷ spans) (part ∷ parts) front chain all =
    let cut : IsCut text low = rw chain.0 at all.0.cut in
    let block : AreRecordsOf (block_of text low span.high) part = rw chain.0 at all.0.all in
    let more = block_more text low span.high before part chain.1 cut front block in
    rw (← append_assoc before part (joined parts)) (chained text span.high high (before ++ part) spans parts more chain.2 all.1)

-- THE RECORDS OF BLOCKS that lie one behind another, up to a place, are those of the text up to there
pub spans_upto : (text : List ℕ) (high : ℕ) (spans : List Span) (parts : List Records) → Chains 0 spans high
    → AllZip (AreRecordsAt text) spans parts
    → AreRecordsOf (take high text) (joined parts)
spans_upto text high spans parts chain all = chained text 0 high [] spans parts none_at_start chain all

pub spans_whole : (text : List ℕ) (spans : List Span) (parts : List Records) → Chains 0 spans (length text)
    → AllZip (AreRecordsAt text) spans parts
    → AreRecordsOf text (joined parts)
spans_whole text spans parts chain all =
    subst (λ xs. AreRecordsOf xs (joined parts)) (take_all (length text) text (omega arith)) (spans_upto text (length text) spans parts chain all)

-- a record that is met in a block behind them is met in the text, behind their records
pub met_behind : (text : List ℕ) (low high : ℕ) (spans : List Span) (parts : List Records) (rows : Records) (r : List (List ℕ)) (s : State) (left : List ℕ)
    → low ≤ high
    → Chains 0 spans low
    → AllZip (AreRecordsAt text) spans parts
    → IsCut text low
    → IsBetween (state_after st.StartRecord (block_of text low high)) ⊎ (length text ≤ high)
    → Reached default_config st.StartRecord (block_of text low high) (r ∷ rows) s left
    → (rest : List ℕ) × Reached default_config st.StartRecord text (joined parts ++ r ∷ rows) s rest
met_behind text low high spans parts rows r s left le chain all cut end met =
    let front = spans_upto text low spans parts chain all in
    let tail = drop (high - low) (drop low text) in
    let block = block_of text low high in
    let whole : take low text ++ drop low text ≡ text = take-append-drop low text in
    let cut_in : block ++ tail ≡ drop low text = take-append-drop (high - low) (drop low text) in
    elim end [
      | inl between ↦ (
        left ++ tail,
        subst (λ xs. Reached default_config st.StartRecord xs (joined parts ++ r ∷ rows) s (left ++ tail)) (ap (λ ys. take low text ++ ys) cut_in ∙ whole)
            (reached_behind st.StartRecord (take low text) (block ++ tail) (joined parts) rows r s (left ++ tail) refl front cut.1
            (reached_longer st.StartRecord block (r ∷ rows) s left tail between met)),
      )
      | inr last ↦ (
        left,
        let all_left : block ≡ drop low text = take_all (high - low) (drop low text) (omega (arith, length-drop low text)) in
            subst (λ xs. Reached default_config st.StartRecord xs (joined parts ++ r ∷ rows) s left) (ap (λ ys. take low text ++ ys) all_left ∙ whole)
            (reached_behind st.StartRecord (take low text) block (joined parts) rows r s left refl front cut.1 met),
      )
    ]
