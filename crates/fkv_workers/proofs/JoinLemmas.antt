-- What the histories of workers' updates come to.
use Rattle.std.proofs.Common.{map, ◌≡◌, ◌<◌, ◌==◌, inl, inr, ℕ, ℤ, zero, suc, true, List, [], ◌∷◌, length, fold, get_or, Option, None, IfSome, refl, sym, ap, ◌∙◌, arith}
use Rattle.std.specs.Prelude.{FitsSigned}
use Rattle.std.specs.Int.{w64}
use Rattle.std.specs.List.{All, AllZip}
use Rattle.std.specs.Option.{IsSomeAnd}
use Rattle.std.proofs.lemmas.Slice.Zip.{AllZip-long}
use Rattle.std.proofs.lemmas.Option.{slice_get-get_or}
use Rattle.std.proofs.Math.Nat.{mod-lt}
use Rattle.fkv_functions.specs.Meanings.{Meanings, updated}
use Rattle.fkv_functions.specs.Names.{name_cmp}
use Rattle.fkv_functions.specs.Plain.{IsKeyOrder}
use Rattle.fkv_functions.specs.declared.names.Name.{Name}
use Rattle.fkv_operations.specs.After.{is_update}
use Rattle.fkv_operations.specs.declared.operations.KeyedOp.{KeyedOp}
use Rattle.fkv_histories.specs.declared.entries.Entry.{Entry}
use Rattle.fkv_histories.specs.Histories.{updates, is_update_entry, ops_of, map_of}
use Rattle.fkv_histories.specs.Merges.{Told, told, IsShuffle}
use Rattle.fkv_partition.specs.Views.{partition_of}
use Rattle.fkv_store.specs.Passes.{IsUpdateBy}
use Rattle.fkv_feeds.specs.Tables.{AreFeeds, amounts_of, folded}
use Rattle.fkv_blocks.specs.Pieces.{AreFed}
use Rattle.fkv_workers.specs.Shares.{rows_at, HasRows, HasShare, AreShuffled, value_by}
use Rattle.fkv_workers.proofs.FoldLemmas.{AllR, AllR-each, AllR-filter, AllR-weaker, filter-all, joined, joined_alike}
use Rattle.fkv_workers.proofs.KeyLemmas.{on_key, by_row, row_here, fold_rows, after_all_here, fold_at, fold_amounts, row_stays, rows_commute}
use Rattle.fkv_workers.proofs.OwnerLemmas.{part, all_told, by_lists}
use Rattle.fkv_workers.proofs.FedLemmas.{all_rows}

zip_at : {A B : Type 0} (R : A → B → Type 0) (xs : List A) (ys : List B) (i : ℕ) (d : A) (e : B) → AllZip R xs ys → i < length xs → R (get_or xs i d) (get_or ys i e)
zip_at R [] ys i d e all lt = absurd (omega (arith, lt))
zip_at R (x ∷ xs) [] i d e all lt = absurd all
zip_at R (x ∷ xs) (y ∷ ys) zero d e all lt = all.0
zip_at R (x ∷ xs) (y ∷ ys) (suc i) d e all lt = zip_at R xs ys i d e all.1 (omega (arith, lt))

-- the own lists of one partition
lists_at : {V O : Type 0} (code : Name → ℕ) (count p : ℕ) → p < count → (owns : List (List (List (Entry Name V ℤ O)))) (shares : List (List (Name × ℤ))) → AllZip (HasShare code count) owns shares
    → AllZip (λ own rows. HasRows own (rows_at code count p rows)) (map (λ own. get_or own p []) owns) shares
lists_at code count p lt [] [] all = tt
lists_at code count p lt [] (rows ∷ shares) all = absurd all
lists_at code count p lt (own ∷ owns) [] all = absurd all
lists_at code count p lt (own ∷ owns) (rows ∷ shares) all = (all.0.lists p lt, lists_at code count p lt owns shares all.1)

updating : {K V I : Type 0} (key : K) (input : I) (op : KeyedOp K V I) → IsUpdateBy key input op → is_update op ≡ true
updating key input op (inl is) = rw is refl
updating key input op (inr is) = rw is refl

module _ {K V I O : Type 0} where
  fold_told : {C : Type 0} (f : C → KeyedOp K V I → C) (c : C) (es : List (Entry K V I O)) → fold f c (ops_of es) ≡ fold (λ d (t : Told K V I O). f d t.op) c (told es)
  fold_told f c [] = refl
  fold_told f c (e ∷ es) = fold_told f (f c e.op) es

  -- one update or merge of a row with this property
  abbrev IsRowed : (K × I → Type 0) → Told K V I O → Type 0
  IsRowed P t = (r : K × I) × IsUpdateBy r.0 r.1 t.op × P r

  rowed : (P : K × I → Type 0) (own : List (Entry K V I O)) (rows : List (K × I)) → HasRows own rows → AllR P rows → AllR (IsRowed P) (told own)
  rowed P [] rows has all = tt
  rowed P (e ∷ own) [] has all = absurd has
  rowed P (e ∷ own) (r ∷ rows) has all = ((r, has.0, all.0), rowed P own rows has.1 all.1)

  all_updates : (P : K × I → Type 0) (es : List (Entry K V I O)) → AllR (IsRowed P) (told es) → AllR (λ e. is_update_entry e ≡ true) es
  all_updates P [] all = tt
  all_updates P (e ∷ es) all = (updating all.0.0.0 all.0.0.1 e.op all.0.1, all_updates P es all.1)

module _ {V O : Type 0} (f : Meanings Name V ℤ O) (code : Name → ℕ) (order : IsKeyOrder name_cmp)
    (KK : Name → Type 0) (VK : V → Type 0) (IK : ℤ → Type 0)
    (accepted : (k : Name) (i : ℤ) (held : Option V) → KK k → IK i → IfSome held VK → IsSomeAnd (updated f k i held) VK)
    (either : (k : Name) (i j : ℤ) (held : Option V) → KK k → IK i → IK j → IfSome held VK → updated f k j (updated f k i held) ≡ updated f k i (updated f k j held))
    (named : (k : Name) → KK k) (sized : (i : ℤ) → FitsSigned w64 i → IK i) where
  abbrev IsKnown : Name × ℤ → Type 0
  IsKnown r = KK r.0 × IK r.1

  abbrev IsHeld : Option V → Type 0
  IsHeld held = IfSome held VK

  stays : (k : Name) (held : Option V) (r : Name × ℤ) → IsHeld held → IsKnown r → IsHeld (by_row name_cmp f k held r)
  stays k held r known row = row_stays name_cmp f order KK VK IK accepted either k held r known row

  commute : (k : Name) (held : Option V) (r s : Name × ℤ) → IsHeld held → IsKnown r → IsKnown s
      → by_row name_cmp f k (by_row name_cmp f k held r) s ≡ by_row name_cmp f k (by_row name_cmp f k held s) r
  commute k held r s known r_known s_known = rows_commute name_cmp f order KK VK IK accepted either k held r s known r_known s_known

  -- the same of what a history tells
  abbrev by_told : Name → Option V → Told Name V ℤ O → Option V
  by_told k held t = on_key name_cmp f k held t.op

  told_stays : (k : Name) (held : Option V) (t : Told Name V ℤ O) → IsHeld held → IsRowed IsKnown t → IsHeld (by_told k held t)
  told_stays k held t known (r, is, row) = rw (row_here name_cmp f k held r t.op is) (stays k held r known row)

  told_commute : (k : Name) (held : Option V) (t u : Told Name V ℤ O) → IsHeld held → IsRowed IsKnown t → IsRowed IsKnown u
      → by_told k (by_told k held t) u ≡ by_told k (by_told k held u) t
  told_commute k held t u known (r, is, row) (s, too, other) =
      ap (λ h. by_told k h u) (row_here name_cmp f k held r t.op is)
      ∙ (row_here name_cmp f k (by_row name_cmp f k held r) s u.op too
      ∙ (commute k held r s known row other
      ∙ sym (ap (λ h. by_told k h t) (row_here name_cmp f k held s u.op too) ∙ row_here name_cmp f k (by_row name_cmp f k held s) r t.op is)))

  module _ (shares : List (List (Name × ℤ))) (small : (w : ℕ) → w < length shares → All (λ r. FitsSigned w64 r.1) (get_or shares w [])) where
    -- the share of a worker
    abbrev share : ℕ → List (Name × ℤ)
    share w = get_or shares w []

    share_known : (w : ℕ) → w < length shares → AllR IsKnown (share w)
    share_known w lt =
        AllR-weaker (λ r. FitsSigned w64 r.1) IsKnown (λ r fits. (named r.0, sized r.1 fits)) (share w)
        (AllR-each (λ r. FitsSigned w64 r.1) (share w) (small w lt))

    -- a history of one partition has at a key of it what the shares come to, one after the other
    module _ (count : ℕ) (k : Name) (history : List (Entry Name V ℤ O)) (owns : List (List (Entry Name V ℤ O))) (shuffle : IsShuffle history owns)
        (has : AllZip (λ own rows. HasRows own (rows_at code count (partition_of count (code k)) rows)) owns shares) where
      abbrev p : ℕ
      p = partition_of count (code k)

      long : length shares ≡ length owns
      long = AllZip-long (λ own rows. HasRows own (rows_at code count p rows)) owns shares has

      own_has : (w : ℕ) → w < length owns → HasRows (get_or owns w []) (rows_at code count p (share w))
      own_has w lt = zip_at (λ own rows. HasRows own (rows_at code count p rows)) owns shares w [] [] has lt

      own_rowed : (w : ℕ) → w < length owns → AllR (IsRowed IsKnown) (part history owns shuffle w)
      own_rowed w lt =
          let inside : w < length shares = omega (arith, lt, long) in
          rowed IsKnown (get_or owns w []) (rows_at code count p (share w)) (own_has w lt)
          (AllR-filter IsKnown (λ r. partition_of count (code r.0) == p) (share w) (share_known w inside))

      -- what an own list tells comes to what its worker's share does
      own_alike : (w : ℕ) → w < length owns → (held : Option V) → fold (by_told k) held (part history owns shuffle w) ≡ fold (by_row name_cmp f k) held (share w)
      own_alike w lt held =
          sym (fold_told (on_key name_cmp f k) held (get_or owns w []))
          ∙ (fold_rows name_cmp f k held (get_or owns w []) (rows_at code count p (share w)) (own_has w lt)
          ∙ fold_at name_cmp f order code count k held (share w))

      all_are_updates : updates history ≡ history
      all_are_updates = filter-all is_update_entry history (all_updates IsKnown history (all_told history owns shuffle (IsRowed IsKnown) own_rowed))

      pub at_key : map_of name_cmp f (updates history) k ≡ joined (by_row name_cmp f k) None share (length shares)
      at_key =
          ap (λ es. map_of name_cmp f es k) all_are_updates
          ∙ (after_all_here name_cmp f order (λ q. None) (ops_of history) k
          ∙ (fold_told (on_key name_cmp f k) None history
          ∙ (by_lists history owns shuffle (by_told k) IsHeld (IsRowed IsKnown) (told_stays k) (told_commute k) None tt own_rowed
          ∙ (joined_alike (by_told k) (by_row name_cmp f k) None (part history owns shuffle) share (length owns) own_alike
          ∙ ap (joined (by_row name_cmp f k) None share) (sym long)))))

  pub tables_join : (limit : ℕ) (feeds : List (Option (List ℕ))) (shares : List (List (Name × ℤ))) (owns : List (List (List (Entry Name V ℤ O)))) (histories : List (List (Entry Name V ℤ O)))
      → AreFed limit feeds shares
      → AllZip (HasShare code (length histories)) owns shares
      → AreShuffled histories owns
      → (rows : List (Name × ℤ))
      × AreFeeds limit feeds rows
      × ((k : Name) → value_by name_cmp f code histories k ≡ folded f k (amounts_of name_cmp k rows))
  tables_join limit feeds shares owns histories fed has shuffled =
      let n = length shares in
      let count = length histories in
      let long = AllZip-long (HasShare code count) owns shares has in
      let small : (w : ℕ) → w < n → All (λ r. FitsSigned w64 r.1) (get_or shares w []) = λ w lt. (zip_at (HasShare code count) owns shares w [] [] has (omega (arith, lt, long))).small in
      let all = all_rows limit feeds shares fed (by_row name_cmp f) IsHeld IsKnown stays commute (share_known shares small) in (
        all.0,
        all.1,
        λ k.
            let p = partition_of count (code k) in
            let within = mod-lt (code k) shuffled.some in
            let history = get_or histories p [] in
            at_key shares small count k history (map (λ own. get_or own p []) owns) (shuffled.each p history (slice_get-get_or histories p [] within)) (lists_at code count p within owns shares has)
            ∙ (sym (all.2 k None tt) ∙ sym (fold_amounts name_cmp f order k None all.0)),
      )
