-- What workers that have read all their feeds come to.
use Rattle.std.proofs.Common.{◌≡◌, ◌<◌, [], ◌∷◌, ℕ, ◌+◌, ◌%◌, ◌==◌, ℤ, Bool, true, false, List, length, map, Option, Some, None, refl, sym, ap, subst, ◌∙◌}
use Rattle.std.specs.Prelude.{IfNone, IsSomeAnd, MatchOption, option_map, slice_get}
use Rattle.std.specs.List.{All, AllZip, filter, enumerate_from}
use Rattle.std.proofs.lemmas.List.{length-map}
use Rattle.std.proofs.lemmas.Simd.{map-map}
use Rattle.std.proofs.lemmas.Option.{slice_get-map}
use Rattle.std.proofs.lemmas.Slice.Zip.{AllZip-long, AllZip-right}
use Rattle.std.proofs.lemmas.List.Elements.{All-nil, All-cons, All-head, All-tail}
use Rattle.fkv_functions.specs.declared.names.Name.{Name}
use Rattle.fkv_functions.specs.declared.refusals.Refused.{Refused}
use Rattle.fkv_feeds.specs.Tables.{AreFeeds, most_rows}
use Rattle.fkv_feeds.specs.declared.counting.RowMode.{RowMode}
use Rattle.fkv_store.specs.Passes.{PassView}
use Rattle.fkv_workers.specs.Shares.{AreDealt, AreFedInTurn, HasShare, dealt}
use Rattle.fkv_workers.specs.Works.{HasDone, IsFedBy, AreMadeBy}
use Rattle.fkv_workers.proofs.DealLemmas.{fed_in_turn}

-- a worker's feeds by what is known of their texts
texts_dealt : {S T : Type 0} (f : S → T) (workers w place : ℕ) (items : List S)
    → map (λ item. item.1) (filter (λ item. item.0 % workers == w) (enumerate_from place (map f items)))
    ≡ map (λ item. f item.1) (filter (λ item. item.0 % workers == w) (enumerate_from place items))
texts_dealt f workers w place [] = refl
texts_dealt f workers w place (x ∷ xs) =
    let by : (b : Bool) → (place % workers == w) ≡ b
    → map (λ item. item.1) (filter (λ item. item.0 % workers == w) (enumerate_from place (map f (x ∷ xs))))
    ≡ map (λ item. f item.1) (filter (λ item. item.0 % workers == w) (enumerate_from place (x ∷ xs))) =
    elim [
      | true ↦ λ h. rw h (ap (λ l. f x ∷ l) (texts_dealt f workers w (place + 1) xs))
      | false ↦ λ h. rw h (texts_dealt f workers w (place + 1) xs)
    ] in
    by (place % workers == w) refl

module _ {W R S V O : Type 0} (rem : S → Option (List ℕ)) (code : Name → ℕ) (feeds_in : W → List (ℕ × S))
    (mode_of : W → RowMode) (pass_of : R → PassView Name V ℤ O) (fault_of : R → Option Refused) (keeps : Bool) (mode : RowMode)
    (stops : W → R → Type 0) where
  -- each worker that has no fault has the rows of its feeds
  pub record Shared (jobs : List W) (results : List R) : Type 0 where
    pub shares : List (List (Name × ℤ))
    pub read : AllZip (λ job rows. AreFeeds most_rows (map (λ feed. rem feed.1) (feeds_in job)) rows) jobs shares
    pub kept : AllZip (λ pass rows. HasShare code (length pass.told) pass.own rows) (map pass_of results) shares
    pub made : All (λ pass. AreMadeBy mode pass.own) (map pass_of results)

  pub shared : (jobs : List W) (results : List R) → keeps ≡ true
      → AllZip (λ job result. IfNone (fault_of result) (HasDone (AreFeeds most_rows (map (λ feed. rem feed.1) (feeds_in job))) keeps code (mode_of job) (pass_of result)) × stops job result)
      jobs results
      → All (λ job. mode_of job ≡ mode) jobs
      → All (λ fault. fault ≡ None) (map fault_of results)
      → Shared jobs results
  shared [] [] k each modes none = record { shares = []; read = tt; kept = tt; made = All-nil (λ pass. AreMadeBy mode pass.own) }
  shared [] (r ∷ rs) k each modes none = absurd each
  shared (w ∷ ws) [] k each modes none = absurd each
  shared (w ∷ ws) (r ∷ rs) k each modes none =
      let done : HasDone (AreFeeds most_rows (map (λ feed. rem feed.1) (feeds_in w))) keeps code (mode_of w) (pass_of r) =
      subst (λ fault. IfNone fault (HasDone (AreFeeds most_rows (map (λ feed. rem feed.1) (feeds_in w))) keeps code (mode_of w) (pass_of r))) (All-head (λ fault. fault ≡ None) (fault_of r) (map fault_of rs) none) each.0.0 in
      let rest = shared ws rs k each.1 (All-tail (λ job. mode_of job ≡ mode) w ws modes) (All-tail (λ fault. fault ≡ None) (fault_of r) (map fault_of rs) none) in
      record {
        shares = done.rows ∷ rest.shares;
        read = (done.read, rest.read);
        kept = (done.stands.share k, rest.kept);
        made = All-cons (λ pass. AreMadeBy mode pass.own) (pass_of r) (map pass_of rs)
            (subst (λ m. AreMadeBy m (pass_of r).own) (All-head (λ job. mode_of job ≡ mode) w ws modes) (done.stands.made k)) rest.made;
      }

-- what goes with an item of the second list
pub beside : {A B : Type 0} (R : A → B → Type 0) (xs : List A) (ys : List B) (w : ℕ) (y : B) → AllZip R xs ys → slice_get ys w ≡ Some y
    → (x : A) × (slice_get xs w ≡ Some x) × R x y
beside {A = A} {B = B} R xs ys w y h at =
    let right : MatchOption (slice_get ys w) (Unit {0}) (λ z. IsSomeAnd (slice_get xs w) (λ x. R x z)) = AllZip-right {A = A} {B = B} R xs ys h w in
    let there : IsSomeAnd (slice_get xs w) (λ x. R x y) =
    subst (λ o. MatchOption o (Unit {0}) (λ z. IsSomeAnd (slice_get xs w) (λ x. R x z))) at right in
    from (slice_get xs w) refl there
  where
    from : (o : Option A) → slice_get xs w ≡ o → IsSomeAnd o (λ x. R x y) → (x : A) × (slice_get xs w ≡ Some x) × R x y
    from None e t = absurd t
    from (Some x) e t = (x, e, t)

-- what workers share out among them, where feeds were dealt out
pub fed_by : {W S V O : Type 0} (rem : S → Option (List ℕ)) (code : Name → ℕ) (mode : RowMode) (feeds_in : W → List (ℕ × S)) (workers : ℕ) (items : List S)
    (jobs : List W) (passes : List (PassView Name V ℤ O)) (shares : List (List (Name × ℤ))) → 0 < workers
    → AreDealt workers items (map feeds_in jobs)
    → AllZip (λ job rows. AreFeeds most_rows (map (λ feed. rem feed.1) (feeds_in job)) rows) jobs shares
    → AllZip (λ pass rows. HasShare code (length pass.told) pass.own rows) passes shares
    → All (λ pass. AreMadeBy mode pass.own) passes
    → IsFedBy code mode (map rem items) passes
fed_by {W = W} rem code mode feeds_in workers items jobs passes shares some hands read kept made =
    let fed : W → List (Name × ℤ) → Type 0 = λ job rows. AreFeeds most_rows (map (λ feed. rem feed.1) (feeds_in job)) rows in
    let many : length shares ≡ workers = AllZip-long fed jobs shares read ∙ (sym (length-map jobs feeds_in) ∙ hands.count) in
    let turns : AreFedInTurn most_rows (map rem items) shares = record {
      some = rw many some;
      each = λ w rows at.
          let found = beside fed jobs shares w rows read at in
          let hand : feeds_in found.0 ≡ dealt workers w items = hands.each w (feeds_in found.0) (slice_get-map feeds_in jobs w ∙ ap (option_map feeds_in) found.1) in
          rw (many, texts_dealt rem workers w 0 items) (subst (λ feeds. AreFeeds most_rows (map (λ feed. rem feed.1) feeds) rows) hand found.2);
    } in
    record {
      shared = record { shares = shares; fed = fed_in_turn most_rows (map rem items) shares turns; kept = kept; made = made };
      in_turn = turns;
    }

-- as many partitions for each pass
pub counted : {V O : Type 0} (code : Name → ℕ) (count : ℕ) (passes : List (PassView Name V ℤ O)) (shares : List (List (Name × ℤ)))
    → All (λ pass. length pass.told ≡ count) passes
    → AllZip (λ pass rows. HasShare code (length pass.told) pass.own rows) passes shares
    → AllZip (HasShare code count) (map (λ pass. pass.own) passes) shares
counted code count [] [] all kept = tt
counted code count [] (r ∷ rs) all kept = absurd kept
counted code count (p ∷ ps) [] all kept = absurd kept
counted code count (p ∷ ps) (r ∷ rs) all kept = (
  subst (λ n. HasShare code n p.own r) (All-head (λ pass. length pass.told ≡ count) p ps all) kept.0,
  counted code count ps rs (All-tail (λ pass. length pass.told ≡ count) p ps all) kept.1,
)

-- the work of each worker has its hand
pub hands_are : {W H S : Type 0} (workers : ℕ) (items : List S) (of_hand : H → List (ℕ × S)) (hand_of : W → H) (jobs : List W) (hands : List H)
    → map hand_of jobs ≡ hands
    → AreDealt workers items (map of_hand hands)
    → AreDealt workers items (map (λ job. of_hand (hand_of job)) jobs)
hands_are workers items of_hand hand_of jobs hands is dealt =
    subst (AreDealt workers items) (ap (map of_hand) (sym is) ∙ map-map of_hand hand_of jobs) dealt
