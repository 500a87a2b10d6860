-- What operations come to at one key.
use Rattle.std.proofs.Common.{◌≡◌, ◌==◌, ℕ, Bool, true, false, cond, inl, inr, List, [], ◌∷◌, fold, Option, Some, None, IfSome, refl, sym, ap, ◌∙◌}
use Rattle.std.specs.Option.{option_or, IsSomeAnd}
use Rattle.std.specs.BTreeMap.{is_at}
use Rattle.std.specs.declared.cmp.Ordering.{Ordering}
use Rattle.std.proofs.lemmas.Bool.{eq-eqb}
use Rattle.fkv_functions.specs.Meanings.{Meanings, updated}
use Rattle.fkv_functions.specs.Plain.{PlainMap, IsKeyOrder}
use Rattle.fkv_operations.specs.After.{after, after_update, after_all}
use Rattle.fkv_operations.specs.declared.operations.KeyedOp.{KeyedOp}
use Rattle.fkv_operations.specs.declared.operations.KeyedOp.TheVariants.{Read, Upsert, Rmw, Delete, Merge}
use Rattle.fkv_partition.specs.Views.{partition_of}
use Rattle.fkv_feeds.specs.Tables.{amounts_of, folded_on}
use Rattle.fkv_histories.specs.declared.entries.Entry.{Entry}
use Rattle.fkv_histories.specs.Histories.{ops_of}
use Rattle.fkv_store.specs.Passes.{IsUpdateBy}
use Rattle.fkv_workers.specs.Shares.{rows_at, HasRows}

module _ {K V I O : Type 0} (cmp : K → K → Ordering) (f : Meanings K V I O) where
  -- what a key has after an operation, from what it had
  abbrev pub on_key : K → Option V → KeyedOp K V I → Option V
  on_key k held (Read l i) = held
  on_key k held (Upsert l v) = cond (is_at (cmp l) k) (Some v) held
  on_key k held (Rmw l i) = cond (is_at (cmp l) k) (folded_on f l held i) held
  on_key k held (Delete l) = cond (is_at (cmp l) k) None held
  on_key k held (Merge l i) = cond (is_at (cmp l) k) (folded_on f l held i) held

  -- the same of a row
  abbrev pub by_row : K → Option V → K × I → Option V
  by_row k held r = cond (is_at (cmp r.0) k) (folded_on f r.0 held r.1) held

  -- an update of a row does this, and so does a merge
  pub row_here : (k : K) (held : Option V) (r : K × I) (op : KeyedOp K V I) → IsUpdateBy r.0 r.1 op → on_key k held op ≡ by_row k held r
  row_here k held r op (inl is) = rw is refl
  row_here k held r op (inr is) = rw is refl

  pub fold_rows : (k : K) (held : Option V) (own : List (Entry K V I O)) (rows : List (K × I)) → HasRows own rows → fold (on_key k) held (ops_of own) ≡ fold (by_row k) held rows
  fold_rows k held [] [] has = refl
  fold_rows k held [] (r ∷ rows) has = absurd has
  fold_rows k held (e ∷ own) [] has = absurd has
  fold_rows k held (e ∷ own) (r ∷ rows) has =
      fold_rows k (on_key k held e.op) own rows has.1 ∙ ap (λ h. fold (by_row k) h rows) (row_here k held r e.op has.0)

  module _ (order : IsKeyOrder cmp) where
    update_here : (m : PlainMap K V) (l k : K) (o : Option V) → after_update cmp m l o k ≡ cond (is_at (cmp l) k) (option_or o (m k)) (m k)
    update_here m l k None = by (is_at (cmp l) k)
      where
        by : (b : Bool) → m k ≡ cond b (m k) (m k)
        by true = refl
        by false = refl
    update_here m l k (Some v) = refl

    rmw_here : (m : PlainMap K V) (l k : K) (i : I) → after cmp f m (Rmw l i) k ≡ on_key k (m k) (Rmw l i)
    rmw_here m l k i = update_here m l k (updated f l i (m l)) ∙ by (is_at (cmp l) k) refl
      where
        by : (b : Bool) → is_at (cmp l) k ≡ b → cond b (option_or (updated f l i (m l)) (m k)) (m k) ≡ cond b (option_or (updated f l i (m k)) (m k)) (m k)
        by true e = ap (λ q. option_or (updated f l i (m q)) (m k)) (order.same l k e)
        by false e = refl

    after_here : (m : PlainMap K V) (op : KeyedOp K V I) (k : K) → after cmp f m op k ≡ on_key k (m k) op
    after_here m (Read l i) k = refl
    after_here m (Upsert l v) k = refl
    after_here m (Rmw l i) k = rmw_here m l k i
    after_here m (Delete l) k = refl
    after_here m (Merge l i) k = rmw_here m l k i

    -- a key has what the operations come to there
    pub after_all_here : (m : PlainMap K V) (ops : List (KeyedOp K V I)) (k : K) → after_all cmp f m ops k ≡ fold (on_key k) (m k) ops
    after_all_here m [] k = refl
    after_all_here m (op ∷ ops) k = after_all_here (after cmp f m op) ops k ∙ ap (λ held. fold (on_key k) held ops) (after_here m op k)

    -- rows of other partitions leave a key as it is
    pub fold_at : (code : K → ℕ) (count : ℕ) (k : K) (held : Option V) (rows : List (K × I))
        → fold (by_row k) held (rows_at code count (partition_of count (code k)) rows) ≡ fold (by_row k) held rows
    fold_at code count k held [] = refl
    fold_at code count k held (r ∷ rows) = by (is_at (cmp r.0) k) refl (partition_of count (code r.0) == partition_of count (code k)) refl (fold_at code count k (by_row k held r) rows) (fold_at code count k held rows)
      where
        p : ℕ
        p = partition_of count (code k)

        by : (b : Bool) → is_at (cmp r.0) k ≡ b → (c : Bool) → (partition_of count (code r.0) == p) ≡ c
            → fold (by_row k) (by_row k held r) (rows_at code count p rows) ≡ fold (by_row k) (by_row k held r) rows
            → fold (by_row k) held (rows_at code count p rows) ≡ fold (by_row k) held rows
            → fold (by_row k) held (rows_at code count p (r ∷ rows)) ≡ fold (by_row k) (by_row k held r) rows
        by b e true g taken passed = rw g taken
        by false e false g taken passed = (let stays : by_row k held r ≡ held = rw e refl in rw (g, stays) passed)
        by true e false g taken passed =
            let same = eq-eqb (partition_of count (code r.0)) p (ap (λ q. partition_of count (code q)) (order.same r.0 k e)) in
            let bad : false ≡ true = sym g ∙ same in absurd (cc)

    flipped : (k l : K) → is_at (cmp k) l ≡ is_at (cmp l) k
    flipped k l = by (is_at (cmp k) l) refl (is_at (cmp l) k) refl
      where
        by : (b : Bool) → is_at (cmp k) l ≡ b → (c : Bool) → is_at (cmp l) k ≡ c → is_at (cmp k) l ≡ is_at (cmp l) k
        by true e c g = e ∙ sym (ap (λ q. is_at (cmp l) q) (order.same k l e) ∙ order.self l)
        by false e true g = (let there : is_at (cmp k) l ≡ true = ap (λ q. is_at (cmp k) q) (order.same l k g) ∙ order.self k in absurd (cc))
        by false e false g = e ∙ sym g

    -- what its amounts come to
    pub fold_amounts : (k : K) (held : Option V) (rows : List (K × I)) → fold (folded_on f k) held (amounts_of cmp k rows) ≡ fold (by_row k) held rows
    fold_amounts k held [] = refl
    fold_amounts k held (r ∷ rows) = by (is_at (cmp k) r.0) refl (fold_amounts k (folded_on f k held r.1) rows) (fold_amounts k held rows)
      where
        by : (b : Bool) → is_at (cmp k) r.0 ≡ b
            → fold (folded_on f k) (folded_on f k held r.1) (amounts_of cmp k rows) ≡ fold (by_row k) (folded_on f k held r.1) rows
            → fold (folded_on f k) held (amounts_of cmp k rows) ≡ fold (by_row k) held rows
            → fold (folded_on f k) held (amounts_of cmp k (r ∷ rows)) ≡ fold (by_row k) (by_row k held r) rows
        by true e taken passed =
            let there : is_at (cmp r.0) k ≡ true = flipped r.0 k ∙ e in
            let is : by_row k held r ≡ folded_on f k held r.1 = rw there (ap (λ q. folded_on f q held r.1) (sym (order.same k r.0 e))) in
            rw (e, is) taken
        by false e taken passed =
            let there : is_at (cmp r.0) k ≡ false = flipped r.0 k ∙ e in
            let is : by_row k held r ≡ held = rw there refl in
            rw (e, is) passed

    -- ---- functions whose inputs may come in any order
    module _ (KK : K → Type 0) (VK : V → Type 0) (IK : I → Type 0)
        (accepted : (k : K) (i : I) (held : Option V) → KK k → IK i → IfSome held VK → IsSomeAnd (updated f k i held) VK)
        (either : (k : K) (i j : I) (held : Option V) → KK k → IK i → IK j → IfSome held VK → updated f k j (updated f k i held) ≡ updated f k i (updated f k j held)) where
      abbrev pub IsKnownRow : K × I → Type 0
      IsKnownRow r = KK r.0 × IK r.1

      abbrev pub IsHeld : Option V → Type 0
      IsHeld held = IfSome held VK

      taken_is : (k : K) (i : I) (held : Option V) → KK k → IK i → IsHeld held → (folded_on f k held i ≡ updated f k i held) × IsHeld (folded_on f k held i)
      taken_is k i held kk ik known = by (updated f k i held) refl (accepted k i held kk ik known)
        where
          by : (o : Option V) → updated f k i held ≡ o → IsSomeAnd o VK → (option_or (updated f k i held) held ≡ updated f k i held) × IsHeld (option_or (updated f k i held) held)
          by None e none = absurd none
          by (Some v) e v_known = rw e (refl, v_known)

      pub row_stays : (k : K) (held : Option V) (r : K × I) → IsHeld held → IsKnownRow r → IsHeld (by_row k held r)
      row_stays k held r known row = by (is_at (cmp r.0) k)
        where
          by : (b : Bool) → IsHeld (cond b (folded_on f r.0 held r.1) held)
          by true = (taken_is r.0 r.1 held row.0 row.1 known).1
          by false = known

      one_key : (k : K) (i j : I) (held : Option V) → KK k → IK i → IK j → IsHeld held → folded_on f k (folded_on f k held i) j ≡ folded_on f k (folded_on f k held j) i
      one_key k i j held kk ik jk known =
          let a = taken_is k i held kk ik known in
          let b = taken_is k j held kk jk known in
          (taken_is k j (folded_on f k held i) kk jk a.1).0
          ∙ (ap (updated f k j) a.0
          ∙ (either k i j held kk ik jk known
          ∙ (ap (updated f k i) (sym b.0)
          ∙ sym (taken_is k i (folded_on f k held j) kk ik b.1).0)))

      pub rows_commute : (k : K) (held : Option V) (r s : K × I) → IsHeld held → IsKnownRow r → IsKnownRow s
          → by_row k (by_row k held r) s ≡ by_row k (by_row k held s) r
      rows_commute k held r s known r_known s_known = by (is_at (cmp r.0) k) refl (is_at (cmp s.0) k) refl
        where
          by : (b : Bool) → is_at (cmp r.0) k ≡ b → (c : Bool) → is_at (cmp s.0) k ≡ c
              → by_row k (by_row k held r) s ≡ by_row k (by_row k held s) r
          by true e true g =
              let same : s.0 ≡ r.0 = order.same s.0 k g ∙ sym (order.same r.0 k e) in
              rw (e, g, same) (one_key r.0 r.1 s.1 held r_known.0 r_known.1 s_known.1 known)
          by true e false g = rw (e, g) refl
          by false e true g = rw (e, g) refl
          by false e false g = rw (e, g) refl
