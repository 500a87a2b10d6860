-- What the blocks that workers have read come to.
use Rattle.std.proofs.Common.{◌≡◌, ◌+◌, ◌<◌, ◌≤◌, ◌==◌, ◌⊎◌, inl, inr, ℕ, List, [], ◌∷◌, ◌++◌, length, map, take, filter, flat_map, get_or, true, Option, Some, None, refl, sym, ap, subst, ◌∙◌, arith, length-append, append_assoc, zero, suc}
use Rattle.std.specs.Prelude.{option_map, slice_index, IfSome}
use Rattle.std.specs.List.{All, AllZip}
use Rattle.csv.specs.Reading.{Reached, default_config, strip_bom}
use Rattle.csv.specs.declared.parser.State.{State}
use Rattle.csv.specs.declared.parser.State.TheVariants as st
use Rattle.fkv_functions.specs.declared.refusals.Refused.{Refused}
use Rattle.fkv_functions.specs.declared.refusals.Refused.TheVariants.{NoMemory, Mismatch, BadRow, Unreadable}
use Rattle.fkv_streams.specs.Counting.{one_more}
use Rattle.fkv_feed_rows.specs.Feeds.{IsBadRow, IsFeed, IsTooLong, without_mark}
use Rattle.fkv_feed_rows.specs.Rows.{AreRows}
use Rattle.fkv_feed_rows.proofs.RecordLemmas.{are_rows-length}
use Rattle.fkv_blocks.specs.Cutting.{IsBetween, state_after}
use Rattle.fkv_blocks.specs.Left.{EndsAt, IsBlockOf, IsUntaken, number_of, text_at}
use Rattle.fkv_blocks.specs.Orders.{AreOrdered}
use Rattle.fkv_blocks.specs.Pieces.{AreFed, AreWhole, HasBefore, IsFirstUnread, IsUpTo, Piece, StandsBefore, TellsFault, records_of, rows_of}
use Rattle.fkv_blocks.specs.Shares.{AreRowsAt, AreRowsIn, IsBadBlock, IsStop, WereRead}
use Rattle.fkv_blocks.specs.Spans.{AreRecordsAt, Chains}
use Rattle.fkv_blocks.specs.declared.blocks.Stop.{Stop}
use Rattle.fkv_blocks.specs.declared.orders.Taken.{Taken}
use Rattle.fkv_blocks.specs.declared.spans.Ticket.{Ticket}
use Rattle.fkv_blocks.proofs.OrderLemmas.{spans_of}
use Rattle.fkv_blocks.proofs.PieceLemmas.{Rows, Woven, choose, feed_woven, feeds_known, less_or, parts_are, parts_in, parts_of_all, piece_of, pieces_of, rows_are, zip_at, zip_long}
use Rattle.fkv_blocks.proofs.SpanLemmas.{Records, joined, met_behind, spans_whole}

are_rows-append : (fs bs : List (List (List ℕ))) (xs ys : Rows) → AreRows fs xs → AreRows bs ys → AreRows (fs ++ bs) (xs ++ ys)
are_rows-append [] bs [] ys a b = b
are_rows-append [] bs (x ∷ xs) ys a b = absurd a
are_rows-append (r ∷ fs) bs [] ys a b = absurd a
are_rows-append (r ∷ fs) bs (x ∷ xs) ys a b = (a.0, are_rows-append fs bs xs ys a.1 b)

-- ---- the records of blocks whose rows are these pieces
record HasRecords (text : List ℕ) (order : List Taken) (rows : Rows) : Type 0 where
  parts : List Records
  all : AllZip (AreRecordsAt text) (spans_of order) parts
  good : AreRows (joined parts) rows
  count : length rows ≡ records_of order

with_records : (text : List ℕ) (order : List Taken) (pieces : List Piece) → AllZip (λ (t : Taken) (p : Piece). AreRowsAt (Some text) t.span p.rows) order pieces → HasRecords text order (rows_of pieces)
with_records text [] [] all = record { parts = []; all = tt; good = tt; count = refl }
with_records text [] (p ∷ pieces) all = absurd all
with_records text (t ∷ order) [] all = absurd all
with_records text (t ∷ order) (p ∷ pieces) all =
    let here = all.0 in
    let rest = with_records text order pieces all.1 in
    record {
      parts = here.0 ∷ rest.parts;
      all = (here.1, rest.all);
      good = are_rows-append here.0 (joined rest.parts) p.rows (rows_of pieces) here.2 rest.good;
      count = omega (arith, length-append p.rows (rows_of pieces), are_rows-length here.0 p.rows here.2, here.1.count, rest.count);
    }

-- ---- a feed whose blocks lie one behind another, to its end
module _ (limit end : ℕ) (order : List Taken) (pieces : List Piece) (chain : Chains 0 (spans_of order) end) where
  feed_is : (bytes : Option (List ℕ)) → EndsAt (option_map strip_bom bytes) end
      → AllZip (λ (t : Taken) (p : Piece). AreRowsAt (option_map strip_bom bytes) t.span p.rows) order pieces
      → records_of order ≤ limit
      → IsFeed limit bytes (rows_of pieces)
  feed_is None ends all le = tt
  feed_is (Some b) ends all le =
      let h = with_records (strip_bom b) order pieces all in
      record {
        records = joined h.parts;
        all = spans_whole (strip_bom b) (spans_of order) h.parts (subst (Chains 0 (spans_of order)) (sym ends) chain) h.all;
        good = h.good;
        within = omega (arith, h.count, le);
      }

  feed_long : (bytes : Option (List ℕ)) → EndsAt (option_map strip_bom bytes) end
      → AllZip (λ (t : Taken) (p : Piece). AreRowsAt (option_map strip_bom bytes) t.span p.rows) order pieces
      → limit < records_of order
      → IfSome bytes (λ b. IsTooLong limit (without_mark b))
  feed_long None ends all lt = tt
  feed_long (Some b) ends all lt =
      let h = with_records (strip_bom b) order pieces all in
      let whole = spans_whole (strip_bom b) (spans_of order) h.parts (subst (Chains 0 (spans_of order)) (sym ends) chain) h.all in
      record {
        records = joined h.parts;
        state = whole.0;
        left = whole.1;
        reached = whole.2;
        more = omega (arith, h.count, are_rows-length (joined h.parts) (rows_of pieces) h.good, lt);
      }

-- what stands before a place of a text
before_is : (limit low count : ℕ) (order : List Taken) (pieces : List Piece) → Chains 0 (spans_of order) low → (text : Option (List ℕ))
    → AllZip (λ (t : Taken) (p : Piece). AreRowsAt text t.span p.rows) order pieces
    → IsUpTo limit (records_of order) count
    → HasBefore limit text low count
before_is limit low count order pieces chain None all upto = tt
before_is limit low count order pieces chain (Some text) all upto =
    let h = with_records text order pieces all in
    (spans_of order, h.parts, rows_of pieces, chain, h.all, h.good, subst (λ n. IsUpTo limit n count) (sym h.count) upto)

-- ---- what workers have read, by an order of their blocks
module _ (feeds : List (Option (List ℕ))) (limit : ℕ) (ends : List ℕ) (hands : List (List Ticket)) (orders : List (List Taken)) (o : AreOrdered ends hands orders) where
  module _ (parts : List (List Rows)) (all : AllZip (AllZip (AreRowsIn feeds)) hands parts) where
    weave : (f : ℕ) → f < length ends → Woven (AreRowsAt (text_at feeds f)) f (length hands) (get_or orders f []) (λ w. parts_in f (get_or hands w []) (get_or parts w []))
    weave f lt = feed_woven feeds hands parts all f 0 (get_or ends f 0) (get_or orders f []) (o.each f lt)

    read_one : (f : ℕ) → (lt : f < length ends) → EndsAt (text_at feeds f) (get_or ends f 0) → records_of (get_or orders f []) ≤ limit → IsFeed limit (get_or feeds f None) (rows_of (weave f lt).pieces)
    read_one f lt end le = feed_is limit (get_or ends f 0) (get_or orders f []) (weave f lt).pieces (o.each f lt).chain (get_or feeds f None) end (weave f lt).of_order le

    -- what is chosen for each feed
    record Chosen (f : ℕ) (pieces : List Piece) : Type 0 where
      feed : IsFeed limit (get_or feeds f None) (rows_of pieces)
      workers : (w : ℕ) → filter (λ (p : Piece). p.worker == w) pieces ≡ map (piece_of w f) (parts_in f (get_or hands w []) (get_or parts w []))
      some_worker : All (λ (p : Piece). p.worker < length hands) pieces

    shares_at : (parts : List (List Rows)) (w : ℕ) → get_or (map (flat_map (λ part. part)) parts) w [] ≡ flat_map (λ part. part) (get_or parts w [])
    shares_at [] w = refl
    shares_at (p ∷ parts) zero = refl
    shares_at (p ∷ parts) (suc w) = shares_at parts w

    shares_long : (parts : List (List Rows)) → length (map (flat_map (λ part. part)) parts) ≡ length parts
    shares_long [] = refl
    shares_long (p ∷ parts) = ap suc (shares_long parts)

    fed : length ends ≡ length feeds → ((f : ℕ) → f < length feeds → EndsAt (text_at feeds f) (get_or ends f 0)) → ((f : ℕ) → f < length feeds → records_of (get_or orders f []) ≤ limit)
        → AreFed limit feeds (map (flat_map (λ part. part)) parts)
    fed count end le = record {
      order = chosen.0;
      hand = λ w. pieces_of w (get_or hands w []) (get_or parts w []);
      read = λ f lt. (chosen.1 f lt).feed;
      share = λ w lt. shares_at parts w ∙ rows_are feeds w (get_or hands w []) (get_or parts w []) (zip_at feeds hands parts w all);
      held = λ f w lf lw. (chosen.1 f lf).workers w ∙ sym (parts_are feeds w f (get_or hands w []) (get_or parts w []));
      some_worker = λ f lt. subst (λ n. All (λ (p : Piece). p.worker < n) (chosen.0 f)) (sym long) (chosen.1 f lt).some_worker;
      some_feed = λ w lt. subst (λ n. All (λ (p : Piece). p.feed < n) (pieces_of w (get_or hands w []) (get_or parts w []))) count
          (feeds_known feeds w (length ends) (get_or hands w []) (get_or parts w []) (o.feeds w [] (subst (λ n. w < n) long lt)));
    }
      where
        one : (f : ℕ) → f < length feeds → (pieces : List Piece) × Chosen f pieces
        one f lt =
            let within : f < length ends = omega (arith, lt, count) in
            let w = weave f within in
            (w.pieces, record { feed = read_one f within (end f lt) (le f lt); workers = w.of_workers; some_worker = w.some_worker })

        chosen : (g : ℕ → List Piece) × ((f : ℕ) → f < length feeds → Chosen f (g f))
        chosen = choose Chosen [] (length feeds) one

        long : length (map (flat_map (λ part. part)) parts) ≡ length hands
        long = shares_long parts ∙ sym (zip_long feeds hands parts all)

  pub whole_fed : length ends ≡ length feeds → ((f : ℕ) → f < length feeds → EndsAt (text_at feeds f) (get_or ends f 0)) → ((f : ℕ) → f < length feeds → records_of (get_or orders f []) ≤ limit)
      → AreWhole limit feeds hands
  whole_fed count end le parts all = fed parts all count end le

  -- the first feeds were read to their ends
  module _ (m : ℕ) (within : m ≤ length ends) (some : length ends ≤ length feeds) (end : (f : ℕ) → f < m → EndsAt (text_at feeds f) (get_or ends f 0)) (read : All (WereRead feeds) hands) where
    had : (parts : List (List Rows)) × AllZip (AllZip (AreRowsIn feeds)) hands parts
    had = parts_of_all feeds hands read

    pub first_read : (n : ℕ) → n ≤ m → ((f : ℕ) → f < n → records_of (get_or orders f []) ≤ limit) → (f : ℕ) → f < n → (rows : Rows) × IsFeed limit (get_or feeds f None) rows
    first_read n le short f lt =
        let here : f < length ends = omega (arith, lt, le, within) in
        (rows_of (weave had.0 had.1 f here).pieces, read_one had.0 had.1 f here (end f (omega (arith, lt, le))) (short f lt))

    -- one has too many rows
    pub first_is_long : (before after : List ℕ) (place : ℕ) → place < m → limit < records_of (get_or orders place []) → ((f : ℕ) → f < place → records_of (get_or orders f []) ≤ limit)
        → IsFirstUnread feeds before after limit (Unreadable (number_of place))
    first_is_long before after place lt more short =
        let here : place < length ends = omega (arith, lt, within) in
        let w = weave had.0 had.1 place here in
        record {
          place = place;
          is_one = omega (arith, here, some);
          read = first_read place (omega (arith, lt)) short;
          tells = TellsFault.long refl (feed_long limit (get_or ends place 0) (get_or orders place []) w.pieces (o.each place here).chain (get_or feeds place None) (end place lt) w.of_order more);
        }

    -- and the next one up to a place
    pub stands_before : (low count : ℕ) → m < length ends → get_or ends m 0 ≡ low → ((f : ℕ) → f < m → records_of (get_or orders f []) ≤ limit) → IsUpTo limit (records_of (get_or orders m [])) count
        → StandsBefore limit feeds m low count
    stands_before low count lt is short upto =
        let w = weave had.0 had.1 m lt in
        record {
          is_one = omega (arith, lt, some);
          before = first_read m (omega arith) short;
          here = before_is limit low count (get_or orders m []) w.pieces (subst (Chains 0 (spans_of (get_or orders m []))) is (o.each m lt).chain) (text_at feeds m) w.of_order upto;
        }

-- ---- a block that was not read to its end, behind others
module _ (limit : ℕ) (text : List ℕ) (low high count : ℕ) (block : List ℕ) (is : IsBlockOf (Some text) block low high) (h : HasBefore limit (Some text) low count) where
  met : (r : List (List ℕ)) (rows : Records) (s : State) (left : List ℕ) → Reached default_config st.StartRecord block (r ∷ rows) s left
      → (rest : List ℕ) × Reached default_config st.StartRecord text (joined h.1 ++ r ∷ rows) s rest
  met r rows s left reached =
      met_behind text low high h.0 h.1 rows r s left is.1 h.3 h.4 is.2
      (subst (λ xs. IsBetween (state_after st.StartRecord xs) ⊎ (length text ≤ high)) is.0 is.3)
      (subst (λ xs. Reached default_config st.StartRecord xs (r ∷ rows) s left) is.0 reached)

  met_last : (before : Records) (here : List (List ℕ)) (s : State) (left : List ℕ) → Reached default_config st.StartRecord block (before ++ here ∷ []) s left
      → (rest : List ℕ) × Reached default_config st.StartRecord text (joined h.1 ++ (before ++ here ∷ [])) s rest
  met_last [] here s left reached = met here [] s left reached
  met_last (r ∷ before) here s left reached = met r (before ++ here ∷ []) s left reached

  same : length h.2 ≡ length (joined h.1)
  same = are_rows-length (joined h.1) h.2 h.5

  -- a bad row, by its number in the text
  bad_row : (n : ℕ) → IsBadRow block n → count + n ≤ limit → IsBadRow text (count + n)
  bad_row n b le =
      let reached = met_last b.before b.here b.state b.left b.reached in
      record {
        before = joined h.1 ++ b.before;
        here = b.here;
        state = b.state;
        left = reached.0;
        reached = subst (λ rs. Reached default_config st.StartRecord text rs b.state reached.0) (sym (append_assoc (joined h.1) b.before (b.here ∷ []))) reached.1;
        rows = h.2 ++ b.rows;
        good = are_rows-append (joined h.1) b.before h.2 b.rows h.5 b.good;
        number = elim h.6 [
          | inl exact ↦ omega (arith, exact.0, same, b.number, length-append (joined h.1) b.before)
          | inr full ↦ absurd (omega (arith, full.0, b.number, le))
        ];
        bad = b.bad;
      }

  -- or one behind the last that may be
  bad_behind : (n : ℕ) → IsBadRow block n → limit < count + n → IsTooLong limit text
  bad_behind n b lt =
      let reached = met_last b.before b.here b.state b.left b.reached in
      let long = length-append (joined h.1) (b.before ++ b.here ∷ []) in
      let last = length-append b.before (b.here ∷ []) in
      let one : length (b.here ∷ []) ≡ 1 = refl in
      record {
        records = joined h.1 ++ (b.before ++ b.here ∷ []);
        state = b.state;
        left = reached.0;
        reached = reached.1;
        more = elim h.6 [
          | inl exact ↦ omega (arith, exact.0, same, b.number, long, last, one, lt)
          | inr full ↦ omega (arith, full.1, same, long, last, one)
        ];
      }

  block_long : (records : Records) (s : State) (left : List ℕ) → Reached default_config st.StartRecord block records s left → limit < length records → IsTooLong limit text
  block_long [] s left reached more = absurd (omega (arith, more))
  block_long (r ∷ rows) s left reached more =
      let whole = met r rows s left reached in
      record {
        records = joined h.1 ++ r ∷ rows;
        state = s;
        left = whole.0;
        reached = whole.1;
        more = omega (arith, length-append (joined h.1) (r ∷ rows), more);
      }

-- ---- what is told of the first worker that stopped
module _ (feeds : List (Option (List ℕ))) (counts after : List ℕ) (limit : ℕ) (feed low count : ℕ) (stands : StandsBefore limit feeds feed low count) where
  unread : (why : Refused) → TellsFault (number_of feed) limit (get_or feeds feed None) (slice_index counts feed) (slice_index after feed) why → IsFirstUnread feeds counts after limit why
  unread why tells = record { place = feed; is_one = stands.is_one; read = stands.before; tells = tells }

  module _ (high : ℕ) (block : List ℕ) where
    bad_in : (bytes : Option (List ℕ)) → IsBlockOf (option_map strip_bom bytes) block low high → HasBefore limit (option_map strip_bom bytes) low count → (n : ℕ) → IsBadRow block n → count + n ≤ limit
        → IfSome bytes (λ b. IsBadRow (without_mark b) (count + n))
    bad_in None is h n b le = tt
    bad_in (Some text) is h n b le = bad_row limit (strip_bom text) low high count block is h n b le

    long_in : (bytes : Option (List ℕ)) → IsBlockOf (option_map strip_bom bytes) block low high → HasBefore limit (option_map strip_bom bytes) low count → (n : ℕ) → IsBadRow block n → limit < count + n
        → IfSome bytes (λ b. IsTooLong limit (without_mark b))
    long_in None is h n b lt = tt
    long_in (Some text) is h n b lt = bad_behind limit (strip_bom text) low high count block is h n b lt

    block_in : (bytes : Option (List ℕ)) → IsBlockOf (option_map strip_bom bytes) block low high → HasBefore limit (option_map strip_bom bytes) low count → IsTooLong limit block
        → IfSome bytes (λ b. IsTooLong limit (without_mark b))
    block_in None is h b = tt
    block_in (Some text) is h b = block_long limit (strip_bom text) low high count block is h b.records b.state b.left b.reached b.more

  module _ (result : Refused) where
    abbrev Told : Type 0
    Told = (result ≡ NoMemory) ⊎ (result ≡ Mismatch) ⊎ IsFirstUnread feeds counts after limit result

    told_bad : (why : Refused) → IsBadBlock feeds limit feed low why
        → ((f n : ℕ) → why ≡ BadRow f n → count + n ≤ limit → result ≡ BadRow f (count + n))
        → ((f n : ℕ) → why ≡ BadRow f n → limit < count + n → result ≡ Unreadable f)
        → (((f n : ℕ) → why ≡ BadRow f n → ⊥) → result ≡ why)
        → Told
    told_bad NoMemory b row long other = inl (other (λ f n e. cc))
    told_bad (BadRow f n) b row long other = elim (less_or limit (count + n)) [
      | inl lt ↦ inr (inr (subst (IsFirstUnread feeds counts after limit) (sym (long f n refl lt))
          (unread (Unreadable f) (TellsFault.long (ap Unreadable b.tells.0) (long_in b.high b.block (get_or feeds feed None) b.is stands.here n b.tells.1 lt)))))
      | inr le ↦ inr (inr (subst (IsFirstUnread feeds counts after limit) (sym (row f n refl le))
          (unread (BadRow f (count + n)) (TellsFault.bad (count + n) (ap (λ g. BadRow g (count + n)) b.tells.0) (bad_in b.high b.block (get_or feeds feed None) b.is stands.here n b.tells.1 le)))))
    ]
    told_bad (Unreadable f) b row long other =
        inr (inr (subst (IsFirstUnread feeds counts after limit) (sym (other (λ g n e. cc)))
        (unread (Unreadable f) (TellsFault.long (ap Unreadable b.tells.0) (block_in b.high b.block (get_or feeds feed None) b.is stands.here b.tells.1)))))
    told_bad why b row long other = absurd b.tells

    told_unread : TellsFault (number_of feed) limit (get_or feeds feed None) (slice_index counts feed) (slice_index after feed) (Unreadable (number_of feed)) → (why : Refused) → why ≡ Unreadable (number_of feed)
        → (((f n : ℕ) → why ≡ BadRow f n → ⊥) → result ≡ why)
        → Told
    told_unread tells why e other =
        inr (inr (subst (IsFirstUnread feeds counts after limit) (sym (other (λ f n is. cc) ∙ e)) (unread (Unreadable (number_of feed)) tells)))

pub told_first : (feeds : List (Option (List ℕ))) (counts after : List ℕ) (limit count : ℕ) (stop : Stop) (result : Refused) → IsStop feeds limit stop
    → (stop.has_failed ≡ true → slice_index after stop.feed ≡ one_more (slice_index counts stop.feed))
    → StandsBefore limit feeds stop.feed stop.low count
    → ((f n : ℕ) → stop.refused ≡ BadRow f n → count + n ≤ limit → result ≡ BadRow f (count + n))
    → ((f n : ℕ) → stop.refused ≡ BadRow f n → limit < count + n → result ≡ Unreadable f)
    → (((f n : ℕ) → stop.refused ≡ BadRow f n → ⊥) → result ≡ stop.refused)
    → (result ≡ NoMemory) ⊎ (result ≡ Mismatch) ⊎ IsFirstUnread feeds counts after limit result
told_first feeds counts after limit count stop result (IsStop.bad sound b) failed stands row long other =
    told_bad feeds counts after limit stop.feed stop.low count stands result stop.refused b row long other
told_first feeds counts after limit count stop result (IsStop.untaken (IsUntaken.memory e)) failed stands row long other = inl (other (λ f n is. cc) ∙ e)
told_first feeds counts after limit count stop result (IsStop.untaken (IsUntaken.failed e has)) failed stands row long other =
    told_unread feeds counts after limit stop.feed stop.low count stands result (TellsFault.failed refl (failed has)) stop.refused e other
told_first feeds counts after limit count stop result (IsStop.untaken (IsUntaken.wide e sound wide)) failed stands row long other =
    told_unread feeds counts after limit stop.feed stop.low count stands result (TellsFault.wide refl wide) stop.refused e other

-- ---- one after the other
pub records_more : (order : List Taken) (i : ℕ) (d : Taken) → i < length order → records_of (take (i + 1) order) ≡ records_of (take i order) + (get_or order i d).span.records
records_more [] i d lt = absurd (omega (arith, lt))
records_more (t ∷ order) zero d lt = omega arith
records_more (t ∷ order) (suc i) d lt =
    let rest = records_more order i d (omega (arith, lt)) in
    let next : suc i + 1 ≡ suc (i + 1) = omega arith in
    let same : records_of (take (suc i + 1) (t ∷ order)) ≡ t.span.records + records_of (take (i + 1) order) = ap (λ n. records_of (take n (t ∷ order))) next in
    omega (arith, same, rest)

pub records_rise : (order : List Taken) (i : ℕ) → records_of (take i order) ≤ records_of order
records_rise [] zero = omega arith
records_rise [] (suc i) = omega arith
records_rise (t ∷ order) zero = omega arith
records_rise (t ∷ order) (suc i) = (let rest = records_rise order i in omega (arith, rest))

pub read_at : (feeds : List (Option (List ℕ))) (hand : List Ticket) (parts : List Rows) (i : ℕ) (d : Ticket) → AllZip (AreRowsIn feeds) hand parts → i < length hand → (rows : Rows) × AreRowsIn feeds (get_or hand i d) rows
read_at feeds [] parts i d all lt = absurd (omega (arith, lt))
read_at feeds (t ∷ hand) [] i d all lt = absurd all
read_at feeds (t ∷ hand) (rows ∷ parts) zero d all lt = (rows, all.0)
read_at feeds (t ∷ hand) (rows ∷ parts) (suc i) d all lt = read_at feeds hand parts i d all.1 (omega (arith, lt))

pub front_at : {Q X : Type 0} (it : Q → List X) (l : List Q) (n f : ℕ) → f < n → get_or (map it (take n l)) f [] ≡ get_or (map it l) f []
front_at it l zero f lt = absurd (omega (arith, lt))
front_at it [] (suc n) f lt = refl
front_at it (q ∷ l) (suc n) zero lt = refl
front_at it (q ∷ l) (suc n) (suc f) lt = front_at it l n f (omega (arith, lt))

pub front_long : {Q : Type 0} (l : List Q) (n f : ℕ) → f < n → f < length l → f < length (take n l)
front_long l zero f lt inside = absurd (omega (arith, lt))
front_long [] (suc n) f lt inside = absurd (omega (arith, inside))
front_long (q ∷ l) (suc n) zero lt inside = omega arith
front_long (q ∷ l) (suc n) (suc f) lt inside = (let rest = front_long l n f (omega (arith, lt)) (omega (arith, inside)) in omega (arith, rest))

pub front_inside : {Q : Type 0} (l : List Q) (n f : ℕ) → f < length (take n l) → f < n
front_inside l zero f lt = absurd (omega (arith, lt))
front_inside [] (suc n) f lt = absurd (omega (arith, lt))
front_inside (q ∷ l) (suc n) zero lt = omega arith
front_inside (q ∷ l) (suc n) (suc f) lt = (let rest = front_inside l n f (omega (arith, lt)) in omega (arith, rest))
