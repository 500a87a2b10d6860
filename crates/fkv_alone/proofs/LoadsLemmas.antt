-- How many pages an operation may still read, from one event to the next.
use Rattle.std.proofs.Common.{◌≡◌, ◌≢◌, ◌+◌, ◌<◌, ◌≤◌, ◌&&◌, ◌==◌, ℕ, List, Bool, true, false, cond, nat_le, IsTrue, Option, Some, refl, sym, ◌∙◌, ap, subst, arith}
use Rattle.std.proofs.lemmas.Bool.{and_parts, eq-eqb, eqb-true}
use Rattle.std.specs.declared.cmp.Ordering.{Ordering}
use Rattle.fkv_functions.specs.Meanings.{Meanings}
use Rattle.fkv_device.specs.Standing.{Standing}
use Rattle.fkv_hybrid.specs.Scans.{MayFail}
use Rattle.fkv_operations.specs.After.{key_of}
use Rattle.fkv_operations.specs.declared.operations.KeyedOp.{KeyedOp}
use Rattle.fkv_lookups.specs.RecordsViews.{RecordsView}
use Rattle.fkv_partition.specs.declared.contexts.Context.{Context}
use Rattle.fkv_partition.specs.declared.contexts.Loading.{Loading}
use Rattle.fkv_partition.specs.declared.contexts.Phase.{Phase}
use Rattle.fkv_partition.specs.declared.contexts.Phase.TheVariants.{Load}
use Rattle.fkv_partition.specs.declared.contexts.Progress.{Progress}
use Rattle.fkv_partition.specs.declared.contexts.Progress.TheVariants.{Done, Next, NeedsBuild, NeedsLoad, Waits}
use Rattle.fkv_partition.specs.KeySound.{IsSound}
use Rattle.fkv_partition.specs.Views.{PartitionView, context_at}
use Rattle.fkv_alone.specs.Stages.{IsOpen, IsFetching, HasCome}
use Rattle.fkv_alone.specs.Ending.{IsOn}
use Rattle.fkv_alone.specs.Bound.{is_evicted, evicted, evicted_to, may_load, rest_of, loads_of, loads_left, loads_now, IsNear, IsNearer}
use Rattle.fkv_alone.specs.Causes.{CanFailToRead}
use Rattle.fkv_alone.proofs.BoundLemmas.{near-some, wanted-some}
use Rattle.fkv_alone.proofs.CountLemmas.{count-fewer}
use Rattle.fkv_alone.proofs.MergeLemmas.{others-fetch-not}
use Rattle.fkv_alone.proofs.StageLemmas.{some-same}

-- up to an address there are no more than in all
to-within : {K V : Type 0} (code : K → ℕ) (r : RecordsView K V) (k : K) (a : ℕ) → evicted_to code r k a ≤ evicted code r k
to-within code r k a = count-fewer (is_evicted code r k) (λ e. nat_le e.address a && is_evicted code r k e) (λ e h. (and_parts (nat_le e.address a) (is_evicted code r k e) h).1) r.log.text

cond-within : (b : Bool) (m n : ℕ) → m ≤ n → cond b m 0 ≤ cond b n 0
cond-within true m n h = h
cond-within false m n h = omega arith

cond-rest : (b : Bool) (n : ℕ) → cond b n 0 ≤ cond b (1 + n) 0
cond-rest true n = omega arith
cond-rest false n = omega arith

cond-some : (b : Bool) (m n : ℕ) → 1 ≤ cond b n 0 → 1 + m ≤ n → 1 + cond b m 0 ≤ cond b n 0
cond-some true m n some less = less
cond-some false m n some less = absurd (omega arith)

cond-all : (b : Bool) (l n : ℕ) → 1 ≤ cond b n 0 → 1 + l ≤ n → 1 + l ≤ cond b n 0
cond-all true l n some less = less
cond-all false l n some less = absurd (omega arith)

load-same : {V : Type 0} (p : Phase V) (x y : Loading V) → p ≡ Load x → p ≡ Load y → x ≡ y
load-same p x y h k = let e : Load x ≡ Load y = sym h ∙ k in cc

may-some : (b : Bool) (n : ℕ) → (b ≡ false → ⊥) → 1 ≤ n → 1 ≤ cond b n 0
may-some true n may some = some
may-some false n may some = absurd (may refl)

-- a reader that failed in one call or in the next one can fail
pub caused-then : {C : Type 0} (a b d : ℕ) → (b ≢ a → C) → (d ≢ b → C) → d ≢ a → C
caused-then {C} a b d f g other = by (b == a) refl
  where
    by : (t : Bool) → (b == a) ≡ t → C
    by true e = g (λ same. other (same ∙ eqb-true b a e))
    by false e = f (λ same. let yes = eq-eqb b a same in absurd (cc))

pub may-fail-can : {R : Type 0} {stands : R → Standing} {can_fail : R → ℕ → Type 0} {receipts : List (Option Standing)} {bits page : ℕ} → MayFail stands can_fail receipts bits page → CanFailToRead stands can_fail
may-fail-can {R} {stands} {can_fail} m = (m.receipt, subst (can_fail m.receipt) (sym m.long) m.fails)

module _ {K V I O R : Type 0} (keeps : Bool) (stands : R → Standing) (cmp : K → K → Ordering) (join : V → V → V) (f : Meanings K V I O) (code : K → ℕ) (op : KeyedOp K V I) (old : PartitionView K V I) (slot c started : ℕ) where
  -- words of the index play no part in what is counted
  count-old : (v : PartitionView K V I) (x : Context K V I) → IsOpen op old v slot c started x → (a : ℕ) → evicted_to code v.records (key_of x.op) a ≡ evicted_to code old.records (key_of op) a
  count-old v x o a = ap (λ (z : KeyedOp K V I). evicted_to code v.records (key_of z) a) o.op_is ∙ ap (λ (r : RecordsView K V). evicted_to code r (key_of op) a) o.records

  rest-old : (v : PartitionView K V I) (x : Context K V I) → IsOpen op old v slot c started x → rest_of code v.records x.op ≡ rest_of code old.records op
  rest-old v x o = ap (rest_of code v.records) o.op_is ∙ ap (λ (r : RecordsView K V). rest_of code r op) o.records

  -- an operation that waits for a page is as near as its count says
  module _ (v : PartitionView K V I) (s : Standing) (a : ℕ) (h : IsFetching keeps cmp op old v slot c started s a) where
    wanted-count : (x : Context K V I) (l : Loading V) → context_at v slot c ≡ Some x → x.phase ≡ Load l → evicted_to code v.records (key_of x.op) l.wanted ≡ evicted_to code old.records (key_of op) a
    wanted-count x l here phase =
        let same : x ≡ h.operation = some-same x h.operation (context_at v slot c) here h.open_is.here in
        let loading : l ≡ h.loading = load-same x.phase l h.loading phase (ap (λ (z : Context K V I). z.phase) same ∙ h.awaits.loading) in
        ap (λ (z : Context K V I). evicted_to code v.records (key_of z.op) l.wanted) same
        ∙ ap (λ (z : Loading V). evicted_to code v.records (key_of h.operation.op) z.wanted) loading
        ∙ ap (evicted_to code v.records (key_of h.operation.op)) h.wanted
        ∙ count-old v h.operation h.open_is a

    load-exact : (r : R) (n : ℕ) → IsNear {O = O} code v slot c (NeedsLoad r a) n → IsNear {O = O} code v slot c (NeedsLoad r a) (1 + evicted_to code old.records (key_of op) a)
    load-exact r n (IsNear.begins x here fresh clear range t le) = absurd (cc)
    load-exact r n (IsNear.confirms x p here phase alone range t le) = absurd (cc)
    load-exact r n (IsNear.looks x p here fresh made t le) = absurd (cc)
    load-exact r n (IsNear.fetches x l r2 a2 await word t le) =
        let count = wanted-count x l await.here await.loading in
        IsNear.fetches x l r2 a2 await word t (omega arith)
    load-exact r n (IsNear.builds x e ask here q word t le) = absurd (cc)

    -- there is a record at the wanted address
    pub wanted-left : IsTrue keeps → IsSound keeps cmp join code v → 1 ≤ cond (may_load op) (evicted_to code old.records (key_of op) a) 0
    wanted-left kept sound =
        let some = wanted-some keeps cmp join code v slot c 0 sound kept h.operation h.loading h.awaits in
        let count = wanted-count h.operation h.loading h.awaits.here h.awaits.loading in
        may-some (may_load op) (evicted_to code old.records (key_of op) a) (others-fetch-not sound h) (omega arith)

    -- and how much nearer
    load-less : (r : R) (m : ℕ) → IsNear {O = O} code v slot c (NeedsLoad r a) m → 1 + evicted_to code old.records (key_of op) a ≤ m
    load-less r m (IsNear.begins x here fresh clear range t le) = absurd (cc)
    load-less r m (IsNear.confirms x p here phase alone range t le) = absurd (cc)
    load-less r m (IsNear.looks x p here fresh made t le) = absurd (cc)
    load-less r m (IsNear.fetches x l r2 a2 await word t le) = let count = wanted-count x l await.here await.loading in omega arith
    load-less r m (IsNear.builds x e ask here q word t le) = absurd (cc)

  -- one that asks nothing takes as many events as follow its look-up
  next-less : (v : PartitionView K V I) (m : ℕ) → (x : Context K V I) → IsOpen op old v slot c started x → IsNear {O = O} {R = R} code v slot c Next m → 1 + rest_of code old.records op ≤ m
  next-less v m x o (IsNear.begins y here fresh clear range t le) =
      let rest = ap (λ (z : Context K V I). rest_of code v.records z.op) (some-same y x (context_at v slot c) here o.here) ∙ rest-old v x o in omega arith
  next-less v m x o (IsNear.confirms y p here phase alone range t le) =
      let rest = ap (λ (z : Context K V I). rest_of code v.records z.op) (some-same y x (context_at v slot c) here o.here) ∙ rest-old v x o in omega arith
  next-less v m x o (IsNear.looks y p here fresh made t le) =
      let rest = ap (λ (z : Context K V I). rest_of code v.records z.op) (some-same y x (context_at v slot c) here o.here) ∙ rest-old v x o in omega arith
  next-less v m x o (IsNear.fetches y l r a await word t le) = absurd (cc)
  next-less v m x o (IsNear.builds y e ask here q word t le) = absurd (cc)

  build-exact : (v : PartitionView K V I) (ask : _) (n : ℕ) → IsNear {O = O} {R = R} code v slot c (NeedsBuild ask) n → IsNear {O = O} {R = R} code v slot c (NeedsBuild ask) 1
  build-exact v ask n (IsNear.begins x here fresh clear range t le) = absurd (cc)
  build-exact v ask n (IsNear.confirms x p here phase alone range t le) = absurd (cc)
  build-exact v ask n (IsNear.looks x p here fresh made t le) = absurd (cc)
  build-exact v ask n (IsNear.fetches x l r a await word t le) = absurd (cc)
  build-exact v ask n (IsNear.builds x e ask2 here q word t le) = IsNear.builds x e ask2 here q word t (omega arith)

  -- the event that goes on asks for no more than all
  next-left : (p : Progress K V I O R) → loads_left code old.records op p ≤ loads_of code old.records op
  next-left (Done a effect) = omega arith
  next-left Next = omega arith
  next-left (NeedsBuild ask) = omega arith
  next-left (NeedsLoad r a) = cond-within (may_load op) (evicted_to code old.records (key_of op) a) (evicted code old.records (key_of op)) (to-within code old.records (key_of op) a)
  next-left (Waits why) = omega arith

  -- a page leads on to fewer
  page-left : (w : PartitionView K V I) (p : Progress K V I O R) (a left : ℕ) → HasCome keeps stands cmp join f code op old w slot c started p → IsOn p → IsNear code w slot c p left → left < 1 + evicted_to code old.records (key_of op) a
      → 1 ≤ cond (may_load op) (evicted_to code old.records (key_of op) a) 0
      → 1 + loads_left code old.records op p ≤ cond (may_load op) (evicted_to code old.records (key_of op) a) 0
  page-left w (Done b effect) a left h on near less some = absurd on
  page-left w Next a left h on near less some =
      let all = next-less w left h.operation h.open_is near in
      let rest = cond-rest (may_load op) (evicted code old.records (key_of op)) in
      cond-all (may_load op) (loads_of code old.records op) (evicted_to code old.records (key_of op) a) some (omega arith)
  page-left w (NeedsBuild ask) a left h on near less some =
      let one = near-some code w slot c (NeedsBuild ask) left near in
      cond-all (may_load op) 0 (evicted_to code old.records (key_of op) a) some (omega arith)
  page-left w (NeedsLoad r b) a left h on near less some =
      let all = load-less w (stands r) b h r left near in
      cond-some (may_load op) (evicted_to code old.records (key_of op) b) (evicted_to code old.records (key_of op) a) some (omega arith)
  page-left w (Waits why) a left h on near less some = absurd on

  -- what an event reads and leaves to be read is no more than was left
  pub left-falls : (v w : PartitionView K V I) (told p : Progress K V I O R) (n : ℕ) → HasCome keeps stands cmp join f code op old v slot c started told → HasCome keeps stands cmp join f code op old w slot c started p → IsOn told → IsOn p → IsNear code v slot c told n
      → ((m : ℕ) → IsNear code v slot c told m → IsNearer code w slot c p m)
      → loads_now told ≤ loads_left code old.records op told
      → loads_now told + loads_left code old.records op p ≤ loads_left code old.records op told
  left-falls v w (Done a effect) p n h k on go near nearer some = absurd on
  left-falls v w Next p n h k on go near nearer some = let all = next-left p in omega arith
  left-falls v w (NeedsBuild ask) p n h k on go near nearer some =
      let e = nearer 1 (build-exact v ask n near) in
      let one = near-some code w slot c p e.left e.near in
      let few = e.fewer in
      absurd (omega arith)
  left-falls v w (NeedsLoad r a) p n h k on go near nearer some =
      let e = nearer (1 + evicted_to code old.records (key_of op) a) (load-exact v (stands r) a h r n near) in
      page-left w p a e.left k go e.near e.fewer some
  left-falls v w (Waits why) p n h k on go near nearer some = absurd on
