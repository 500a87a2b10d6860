-- What a store stands for, before the first row and after one more.
use Rattle.std.proofs.Common.{◌≡◌, Bool, true, false, cond, List, [], ◌∷◌, ◌++◌, ◌&&◌, map, Option, Some, None, Ok, IsTrue, inl, inr, refl, sym, ◌∙◌, ap, ℤ, ℕ}
use Rattle.std.proofs.lemmas.Bool.{and_parts}
use Rattle.std.proofs.lemmas.List.{map-append, append-nil}
use Rattle.std.proofs.lemmas.List.Elements.{filter-append}
use Rattle.std.proofs.lemmas.List.Sums.{fold-append}
use Rattle.std.specs.List.{filter}
use Rattle.std.specs.Option.{option_or}
use Rattle.std.specs.declared.cmp.Ordering.{Ordering}
use Rattle.std.specs.BTreeMap.{is_at}
use Rattle.fkv_functions.specs.Meanings.{Meanings, updated}
use Rattle.fkv_functions.specs.Names.{name_cmp, same_names, name_ties, name_exact, name_total}
use Rattle.fkv_functions.specs.Plain.{PlainMap, Same, IsKeyOrder}
use Rattle.fkv_functions.specs.declared.names.Name.{Name}
use Rattle.fkv_functions.specs.declared.refusals.Refused.{Refused}
use Rattle.fkv_functions.proofs.KeyOrder.{key_order}
use Rattle.fkv_operations.specs.After.{after, after_update}
use Rattle.fkv_operations.specs.AfterLaws.{same_map}
use Rattle.fkv_operations.specs.declared.operations.Answer.{Answer}
use Rattle.fkv_operations.specs.declared.operations.KeyedOp.TheVariants.{Rmw}
use Rattle.fkv_partition.proofs.UnionLemmas.{is_at-turned}
use Rattle.fkv_local.specs.Storing.{StoreView, plain, IsRun, IsUpdateRun, SameTerms}
use Rattle.fkv_partition.specs.declared.limits.Config.{Config}
use Rattle.fkv_feeds.specs.declared.counting.RowMode.{RowMode}
use Rattle.fkv_feeds.specs.declared.counting.RowMode.TheVariants as modes
use Rattle.fkv_feeds.specs.Keeping.{kept_of, unread_in}
use Rattle.fkv_local.specs.Causing.{IsCausedBy}
use Rattle.fkv_local.specs.Failures.{Failures, failures_of}
use Rattle.fkv_local.specs.Refusing.{IsWorkRefusal, IsRefusal, IsStopped}
use Rattle.fkv_feeds.specs.Faults.{IsFault, IsDeviceFault}
use Rattle.fkv_feeds.specs.Refusing.{IsRowRefusal}
use Rattle.fkv_feeds.specs.Tables.{amounts_of, folded_on, folded, StandsFor}

-- ---- what amounts come to
module _ {K V I O : Type 0} (cmp : K → K → Ordering) (order : IsKeyOrder cmp) (f : Meanings K V I O) where
  folded-more : (k : K) (is : List I) (i : I) → folded f k (is ++ i ∷ []) ≡ folded_on f k (folded f k is) i
  folded-more k is i = fold-append (folded_on f k) None is (i ∷ [])

  amounts-more : (q : K) (rows : List (K × I)) (k : K) (i : I) (b : Bool) → is_at (cmp q) k ≡ b → amounts_of cmp q (rows ++ (k, i) ∷ []) ≡ cond b (amounts_of cmp q rows ++ i ∷ []) (amounts_of cmp q rows)
  amounts-more q rows k i b h =
      ap (map (λ (r : K × I). r.1)) (filter-append (λ (r : K × I). is_at (cmp q) r.0) rows ((k, i) ∷ []))
      ∙ map-append (λ (r : K × I). r.1) (filter (λ (r : K × I). is_at (cmp q) r.0) rows) (filter (λ (r : K × I). is_at (cmp q) r.0) ((k, i) ∷ []))
      ∙ last b h
    where
      last : (t : Bool) → is_at (cmp q) k ≡ t → amounts_of cmp q rows ++ map (λ (r : K × I). r.1) (filter (λ (r : K × I). is_at (cmp q) r.0) ((k, i) ∷ [])) ≡ cond t (amounts_of cmp q rows ++ i ∷ []) (amounts_of cmp q rows)
      last true e = rw e refl
      last false e = rw e (append-nil (amounts_of cmp q rows))

  -- one row more updates the value of its key
  pub table-more : (rows : List (K × I)) (k : K) (i : I) → Same (after cmp f (λ q. folded f q (amounts_of cmp q rows)) (Rmw k i)) (λ q. folded f q (amounts_of cmp q (rows ++ (k, i) ∷ [])))
  table-more rows k i q = at_key (updated f k i (now k)) ∙ by (is_at (cmp k) q) refl
    where
      now : K → Option V
      now x = folded f x (amounts_of cmp x rows)

      alike : (b : Bool) (o : Option V) → o ≡ cond b o o
      alike true o = refl
      alike false o = refl

      at_key : (o : Option V) → after_update cmp now k o q ≡ cond (is_at (cmp k) q) (option_or o (now q)) (now q)
      at_key None = alike (is_at (cmp k) q) (now q)
      at_key (Some v) = refl

      by : (b : Bool) → is_at (cmp k) q ≡ b → cond (is_at (cmp k) q) (option_or (updated f k i (now k)) (now q)) (now q) ≡ folded f q (amounts_of cmp q (rows ++ (k, i) ∷ []))
      by true e =
          let more = amounts-more q rows k i true (is_at-turned cmp order k q true e) in
          rw e (ap (λ x. option_or (updated f x i (now x)) (now q)) (order.same k q e) ∙ sym (ap (folded f q) more ∙ folded-more q (amounts_of cmp q rows) i))
      by false e =
          let more = amounts-more q rows k i false (is_at-turned cmp order k q false e) in
          rw e (sym (ap (folded f q) more))

-- ---- before the first row, and after one more
module _ {V O W P : Type 0} (keeps : Bool) (f : Meanings Name V ℤ O) (code : Name → ℕ) where
  pub stands-new : (s : StoreView Name V ℤ W P) → ((k : Name) → plain name_cmp code s k ≡ None) → StandsFor keeps f code s []
  stands-new s empty = λ kept k. empty k

  stands-more : (s t : StoreView Name V ℤ W P) (rows : List (Name × ℤ)) (k : Name) (i : ℤ) → StandsFor keeps f code s rows
      → (IsTrue keeps → Same (plain name_cmp code t) (after name_cmp f (plain name_cmp code s) (Rmw k i))) → StandsFor keeps f code t (rows ++ (k, i) ∷ [])
  stands-more s t rows k i stand done kept = (let maps : plain name_cmp code s ≡ (λ q. folded f q (amounts_of name_cmp q rows)) = same_map (plain name_cmp code s) (λ q. folded f q (amounts_of name_cmp q rows)) (stand kept) in
      λ q. done kept q
      ∙ ap (λ (m : PlainMap Name V). after name_cmp f m (Rmw k i) q) maps
      ∙ table-more name_cmp (key_order same_names name_cmp name_ties name_exact name_total) f rows k i q)

  pub stands-run : (s t : StoreView Name V ℤ W P) (rows : List (Name × ℤ)) (k : Name) (i : ℤ) (a : Answer O)
      → (IsTrue keeps → IsRun name_cmp f (plain name_cmp code s) (plain name_cmp code t) (Rmw k i) (Ok a)) → StandsFor keeps f code s rows → StandsFor keeps f code t (rows ++ (k, i) ∷ [])
  stands-run s t rows k i a ran stand = stands-more s t rows k i stand (λ kept. (ran kept).0)

  pub stands-update : (s t : StoreView Name V ℤ W P) (rows : List (Name × ℤ)) (k : Name) (i : ℤ) (a : Answer O)
      → (IsTrue keeps → IsUpdateRun name_cmp f (plain name_cmp code s) (plain name_cmp code t) k i (Ok a)) → StandsFor keeps f code s rows → StandsFor keeps f code t (rows ++ (k, i) ∷ [])
  stands-update s t rows k i a ran stand = stands-more s t rows k i stand (λ kept. elim (ran kept) [ inl r ↦ r.0 | inr r ↦ r.0 ])

-- ---- why a row is refused
module _ {D W P A B : Type 0} {keeps : Bool} {e : Refused} (opens : D → ℕ) (writes : W → ℕ) (reads : P → ℕ) (caused : IsTrue keeps → IsCausedBy A B e) where
  work-row : (w w_now : W) (p p_now : P) {tail clock : ℕ} → IsWorkRefusal keeps tail clock (failures_of writes reads w p) (failures_of writes reads w_now p_now) e → IsRowRefusal (IsDeviceFault keeps opens writes reads A B) e
  work-row w w_now p p_now (IsWorkRefusal.no_memory a s) = inl a
  work-row w w_now p p_now (IsWorkRefusal.unwritten page a s) = inr (inr (IsDeviceFault.unworked w w_now p p_now (IsFault.unwritten page a s) caused))
  work-row w w_now p p_now (IsWorkRefusal.unread page a s) = inr (inr (IsDeviceFault.unworked w w_now p p_now (IsFault.unread page a s) caused))
  work-row w w_now p p_now (IsWorkRefusal.misspelled page a b s) = inr (inr (IsDeviceFault.unworked w w_now p p_now (IsFault.misspelled page a b (ap (λ (f : Failures). f.writes) s) (ap (λ (f : Failures). f.reads) s)) caused))
  work-row w w_now p p_now (IsWorkRefusal.no_address a t s) = inr (inl a)
  work-row w w_now p p_now (IsWorkRefusal.no_moment a t s) = inr (inl a)

module _ {K V I D W P : Type 0} {keeps merges : Bool} {k : K} {i : I} {e : Refused} {A B : Type 0} (opens : D → ℕ) (writes : W → ℕ) (reads : P → ℕ) (caused : IsTrue keeps → IsCausedBy A B e) where
  stopped-row : (w w_now : W) (p p_now : P) {tail clock : ℕ} → IsStopped {V = V} keeps merges (Rmw k i) tail clock (failures_of writes reads w p) (failures_of writes reads w_now p_now) e → IsRowRefusal (IsDeviceFault keeps opens writes reads A B) e
  stopped-row w w_now p p_now (IsStopped.unworked h) = work-row opens writes reads caused w w_now p p_now h
  stopped-row w w_now p p_now (IsStopped.unmerged a m n s) = absurd (cc)

  pub refused-row : {code : K → ℕ} {old new : StoreView K V I W P} → IsRefusal keeps merges code writes reads old new (Rmw k i) e → IsRowRefusal (IsDeviceFault keeps opens writes reads A B) e
  refused-row h = stopped-row h.refused.writer_then h.writer_now h.refused.reader_then h.reader_now h.refused.stopped

-- ---- what a row leaves of the store of a run
module _ {K V I W P : Type 0} (merges : Bool) (old new : StoreView K V I W P) where
  none-read : (b : Bool) (mode : RowMode) → (mode ≡ modes.Merge → b ≡ true → new.readers ≡ old.readers) → unread_in b mode new.readers ≡ unread_in b mode old.readers
  none-read b modes.Update same = refl
  none-read true modes.Merge same = ap Some (same refl refl)
  none-read false modes.Merge same = refl

  pub row-keeps : (mode mode_now : RowMode) → mode_now ≡ mode → SameTerms old new → (IsTrue merges → mode ≡ modes.Merge → IsTrue old.keeps_log → new.readers ≡ old.readers)
      → kept_of merges mode_now new ≡ kept_of merges mode old
  row-keeps mode mode_now same terms unread =
      ap (λ (m : RowMode). kept_of merges m new) same
      ∙ ap (λ (c : Config). record { config = c; mode = mode; keeps_log = new.keeps_log; unread = unread_in (merges && new.keeps_log) mode new.readers }) terms.1
      ∙ ap (λ (b : Bool). record { config = old.config; mode = mode; keeps_log = b; unread = unread_in (merges && b) mode new.readers }) terms.0
      ∙ ap (λ (u : Option (List P)). record { config = old.config; mode = mode; keeps_log = old.keeps_log; unread = u })
      (none-read (merges && old.keeps_log) mode (λ merge both. let parts = and_parts merges old.keeps_log both in unread parts.0 merge parts.1))
