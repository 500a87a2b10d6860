-- Workers that share the blocks of feeds.
use Rattle.std.proofs.Common.{◌≡◌, ◌⊎◌, inl, inr, ℕ, ℤ, Bool, true, List, [], ◌∷◌, ◌<◌, get_or, map, flat_map, Option, Some, None, Result, Ok, Err, refl, sym, subst, length}
use Rattle.std.specs.Prelude.{IfNone, IfSome, IfOk, IfErr, OnOk}
use Rattle.std.specs.List.{All, AllZip}
use Rattle.std.proofs.lemmas.List.Elements.{All-nil, All-cons, All-head, All-tail}
use Rattle.fkv_functions.specs.declared.names.Name.{Name}
use Rattle.fkv_functions.specs.declared.refusals.Refused.{Refused}
use Rattle.fkv_functions.specs.declared.refusals.Refused.TheVariants.{NoMemory, BadRow, Unreadable}
use Rattle.fkv_blocks.specs.Left.{IsUntaken}
use Rattle.fkv_blocks.specs.Pieces.{AreWhole}
use Rattle.fkv_blocks.specs.Shares.{AreRowsIn, IsBadBlock, IsStop}
use Rattle.fkv_blocks.specs.declared.blocks.Stop.{Stop}
use Rattle.fkv_blocks.specs.declared.spans.Ticket.{Ticket}
use Rattle.fkv_feeds.specs.Tables.{most_rows}
use Rattle.fkv_feeds.specs.declared.counting.RowMode.{RowMode}
use Rattle.fkv_store.specs.Passes.{PassView}
use Rattle.fkv_store.specs.Stores.{IsTold}
use Rattle.fkv_workers.specs.Shares.{HasShare}
use Rattle.fkv_workers.specs.Works.{AreMadeBy, HasDone, IsShared}

abbrev pub Rows : Type 0
Rows = List (Name × ℤ)

-- a fact of an answer that another one brings about
pub on_ok : {T E : Type 0} (r : Result T E) (P Q : T → Type 0) → IfOk r P → ((x : T) → P x → Q x) → IfOk r Q
on_ok (Ok x) P Q h f = f x h
on_ok (Err e) P Q h f = tt

pub on_err : {T E : Type 0} (r : Result T E) (P Q : E → Type 0) → IfErr r P → ((e : E) → P e → Q e) → IfErr r Q
on_err (Ok x) P Q h f = tt
on_err (Err e) P Q h f = f e h

-- what is said of each result, beside its job
pub each_third : {W R : Type 0} (A : W → R → Type 0) (B : W → R → Type 0) (P : R → Type 0) (jobs : List W) (results : List R) → AllZip (λ w r. A w r × B w r × P r) jobs results → All P results
each_third A B P [] [] all = All-nil P
each_third A B P [] (r ∷ rs) all = absurd all
each_third A B P (w ∷ ws) [] all = absurd all
each_third A B P (w ∷ ws) (r ∷ rs) all = All-cons P r rs all.0.2 (each_third A B P ws rs all.1)

pub each_second : {W R : Type 0} (A : W → R → Type 0) (B : R → Type 0) (P : R → Type 0) (jobs : List W) (results : List R) → AllZip (λ w r. A w r × B r × P r) jobs results → All B results
each_second A B P [] [] all = All-nil B
each_second A B P [] (r ∷ rs) all = absurd all
each_second A B P (w ∷ ws) [] all = absurd all
each_second A B P (w ∷ ws) (r ∷ rs) all = All-cons B r rs all.0.1 (each_second A B P ws rs all.1)

-- what is said of each in other words
pub map_zip : {W R : Type 0} (P Q : W → R → Type 0) (jobs : List W) (results : List R) → AllZip P jobs results → ((w : W) (r : R) → P w r → Q w r) → AllZip Q jobs results
map_zip P Q [] [] all f = tt
map_zip P Q [] (r ∷ rs) all f = absurd all
map_zip P Q (w ∷ ws) [] all f = absurd all
map_zip P Q (w ∷ ws) (r ∷ rs) all f = (f w r all.0, map_zip P Q ws rs all.1 f)

-- ---- workers without a fault
module _ {W R V O : Type 0} (feeds : List (Option (List ℕ))) (code : Name → ℕ) (keeps : Bool) (mode : RowMode) (mode_of : W → RowMode) (pass_of : R → PassView Name V ℤ O)
    (fault_of : R → Option Refused) (tickets_of : R → List Ticket) (others : W → R → Type 0) where
  abbrev pub Reads : R → Rows → Type 0
  Reads r rows = (parts : List Rows) × AllZip (AreRowsIn feeds) (tickets_of r) parts × (rows ≡ flat_map (λ part. part) parts)

  record Made (results : List R) : Type 0 where
    parts : List (List Rows)
    read : AllZip (AllZip (AreRowsIn feeds)) (map tickets_of results) parts
    kept : AllZip (λ pass rows. HasShare code (length pass.told) pass.own rows) (map pass_of results) (map (flat_map (λ part. part)) parts)
    made : All (λ pass. AreMadeBy mode pass.own) (map pass_of results)

  made_by : (jobs : List W) (results : List R) → keeps ≡ true
      → AllZip (λ job r. IfNone (fault_of r) (HasDone (Reads r) keeps code (mode_of job) (pass_of r)) × others job r) jobs results
      → All (λ job. mode_of job ≡ mode) jobs
      → All (λ fault. fault ≡ None) (map fault_of results)
      → Made results
  made_by [] [] k each modes none = record { parts = []; read = tt; kept = tt; made = All-nil (λ pass. AreMadeBy mode pass.own) }
  made_by [] (r ∷ rs) k each modes none = absurd each
  made_by (w ∷ ws) [] k each modes none = absurd each
  made_by (w ∷ ws) (r ∷ rs) k each modes none =
      let done : HasDone (Reads r) keeps code (mode_of w) (pass_of r) =
      subst (λ fault. IfNone fault (HasDone (Reads r) keeps code (mode_of w) (pass_of r))) (All-head (λ fault. fault ≡ None) (fault_of r) (map fault_of rs) none) each.0.0 in
      let rest = made_by ws rs k each.1 (All-tail (λ job. mode_of job ≡ mode) w ws modes) (All-tail (λ fault. fault ≡ None) (fault_of r) (map fault_of rs) none) in
      record {
        parts = done.read.0 ∷ rest.parts;
        read = (done.read.1, rest.read);
        kept = (subst (HasShare code (length (pass_of r).told) (pass_of r).own) done.read.2 (done.stands.share k), rest.kept);
        made = All-cons (λ pass. AreMadeBy mode pass.own) (pass_of r) (map pass_of rs)
            (subst (λ m. AreMadeBy m (pass_of r).own) (All-head (λ job. mode_of job ≡ mode) w ws modes) (done.stands.made k)) rest.made;
      }

  pub shared_whole : (jobs : List W) (results : List R) → keeps ≡ true
      → AllZip (λ job r. IfNone (fault_of r) (HasDone (Reads r) keeps code (mode_of job) (pass_of r)) × others job r) jobs results
      → All (λ job. mode_of job ≡ mode) jobs
      → All (λ fault. fault ≡ None) (map fault_of results)
      → AreWhole most_rows feeds (map tickets_of results)
      → IsShared code mode feeds (map pass_of results)
  shared_whole jobs results k each modes none whole =
      let m = made_by jobs results k each modes none in
      record { shares = map (flat_map (λ part. part)) m.parts; fed = whole m.parts m.read; kept = m.kept; made = m.made }

  -- where the passes are handed on
  pub shared_ok : {T E : Type 0} (r : Result T E) (items : T → List (PassView Name V ℤ O)) (jobs : List W) (results : List R)
      → AllZip (λ job r. IfNone (fault_of r) (HasDone (Reads r) keeps code (mode_of job) (pass_of r)) × others job r) jobs results
      → All (λ job. mode_of job ≡ mode) jobs
      → IfOk r (λ x. items x ≡ map pass_of results)
      → OnOk r (All (λ fault. fault ≡ None) (map fault_of results))
      → OnOk r (AreWhole most_rows feeds (map tickets_of results))
      → IfOk r (λ x. keeps ≡ true → IsShared code mode feeds (items x))
  shared_ok (Ok x) items jobs results each modes is none whole = λ k. subst (IsShared code mode feeds) (sym is) (shared_whole jobs results k each modes none whole)
  shared_ok (Err e) items jobs results each modes is none whole = tt

-- ---- what stopped the first worker
module _ (feeds : List (Option (List ℕ))) (limit feed low : ℕ) where
  told_bad : (why : Refused) → IsBadBlock feeds limit feed low why → ((f n : ℕ) → why ≡ BadRow f n → ⊥) → ((f : ℕ) → why ≡ Unreadable f → ⊥) → IsTold why
  told_bad NoMemory b row long = tt
  told_bad (BadRow f n) b row long = absurd (row f n refl)
  told_bad (Unreadable f) b row long = absurd (long f refl)
  told_bad other b row long = absurd b.tells

told_untaken : (feeds : List (Option (List ℕ))) (stop : Stop) → IsUntaken feeds stop → ((f : ℕ) → stop.refused ≡ Unreadable f → ⊥) → IsTold stop.refused
told_untaken feeds stop (IsUntaken.memory e) long = subst IsTold (sym e) tt
told_untaken feeds stop (IsUntaken.failed e has) long = absurd (long _ e)
told_untaken feeds stop (IsUntaken.wide e sound wide) long = absurd (long _ e)

pub told_store : (feeds : List (Option (List ℕ))) (limit : ℕ) (stop : Stop) → IsTold stop.refused ⊎ IsStop feeds limit stop
    → ((f n : ℕ) → stop.refused ≡ BadRow f n → ⊥)
    → ((f : ℕ) → stop.refused ≡ Unreadable f → ⊥)
    → IsTold stop.refused
told_store feeds limit stop (inl told) row long = told
told_store feeds limit stop (inr (IsStop.bad sound b)) row long = told_bad feeds limit stop.feed stop.low stop.refused b row long
told_store feeds limit stop (inr (IsStop.untaken u)) row long = told_untaken feeds stop u long

pub told_feed : (feeds : List (Option (List ℕ))) (limit : ℕ) (stop : Stop) → IsTold stop.refused ⊎ IsStop feeds limit stop
    → (IsTold stop.refused → ⊥)
    → IsStop feeds limit stop
told_feed feeds limit stop (inl told) not = absurd (not told)
told_feed feeds limit stop (inr stopped) not = stopped

-- the first of two stops is one of them
pub first_some : (P : Stop → Type 0) (first : Option Stop) (other result : Stop) → (result ≡ other) ⊎ (first ≡ Some result) → IfSome first P → P other → P result
first_some P first other result (inl is) had p = subst P (sym is) p
first_some P first other result (inr is) had p = subst (λ o. IfSome o P) is had

-- what is said of each is said of the one at a place
pub one_more : {W : Type 0} (P : W → Type 0) (ws : List W) (at : ℕ) (one : W) → at < length ws → one ≡ get_or ws at one → All P ws → P one
one_more P ws at one lt is all = subst P (sym is) (all at one lt)
