-- What holds of the regions at any time stays so.
use Rattle.std.proofs.Common.{◌≡◌, ◌≢◌, ◌^◌, ◌<◌, ◌≤◌, ◌⊎◌, inl, inr, ℕ, zero, suc, List, [], ◌∷◌, Some, None, refl, sym, ◌∙◌, subst, arith, length, get_or, set}
use Rattle.std.specs.Prelude.{IsTrue}
use Rattle.std.proofs.lemmas.Bool.{cases_eq}
use Rattle.std.proofs.lemmas.Nat.{pow_pos}
use Rattle.std.proofs.Math.Pow.{pow_mono}
use Rattle.std.proofs.Math.Nat.{div-eq_of_lt, mul-div_left}
use Rattle.std.proofs.lemmas.List.{get_or-set_same, get_or-set_other, set-set, length-set}
use Rattle.fkv_records.specs.Places.{page_at, start_at}
use Rattle.fkv_epoch.specs.declared.actions.Action.{Action}
use Rattle.fkv_epoch.specs.declared.actions.Action.TheVariants.{Safe, Closed}
use Rattle.fkv_epoch.specs.declared.actions.Waiting.{Waiting}
use Rattle.fkv_epoch.specs.SafeEpoch.{is_safe_epoch}
use Rattle.fkv_epoch.specs.Due.{due, settled, actions_of}
use Rattle.fkv_epoch.specs.Moves.{renewed, vacated, bumped}
use Rattle.fkv_epoch.specs.Timely.{IsOrdered}
use Rattle.fkv_functions.proofs.ListLemmas.{filter-split, get-set_cases, get-set_other}
use Rattle.fkv_epoch.proofs.SafeLemmas.{safe-first}
use Rattle.fkv_epoch.proofs.TimelyLemmas.{none-entered}
use Rattle.fkv_epoch.proofs.SeenLemmas.{agree-fresh, agree-renewed, agree-vacated, agree-bumped, agree-settled, seen-due}
use Rattle.fkv_regions.specs.declared.offsets.Offsets.{Offsets}
use Rattle.fkv_regions.specs.declared.offsets.View.{View}
use Rattle.fkv_regions.specs.Offsets.{view_of, ran, ran_all, has_seen, view_at, seen}
use Rattle.fkv_regions.specs.RegionsView.{RegionsView, fresh_regions, with_view, drained, entered, refreshed, left, with_read_only, with_head, with_flushed, IsHeadDue}
use Rattle.fkv_regions.specs.Agree.{IsMark, IsInOrder, ViewAgrees, AreAhead, IsRegions, IsRaised}
use Rattle.fkv_regions.proofs.OffsetLemmas.{head-ran, read_only-ran, raised-then, order-ran, ahead-split, ahead-join, ahead-higher, now-sees, view-ran, start-below, start-mark, starts-rise}

-- what is due comes out and is run
pub regions-drained : (s : RegionsView) → IsOrdered s.epochs → IsRegions s → IsRegions (drained s) × IsRaised s.offsets (drained s).offsets
regions-drained s e h =
    let split = filter-split (λ (w : Waiting). is_safe_epoch s.epochs.slots w.epoch) s.epochs.waiting (safe-first s.epochs.slots s.epochs.waiting e.rising) in
    let both = ahead-split s.bits s.offsets (due s.epochs) (settled s.epochs).waiting (rw split h.ahead) in
    let out = order-ran s.bits s.flushed s.offsets (due s.epochs) h.in_order both.0 in
    let saw = seen-due (λ i a. IsTrue (seen s.views i a)) s.epochs h.waits in (
      record {
        in_order = out.0;
        ahead = both.1;
        agree = record {
          each = λ slot c g. view-ran s.bits s.offsets (view_at s.views slot) (due s.epochs) both.0 (λ k d l. saw k d l slot c g) (h.agree.each slot c g);
        };
        waits = agree-settled (λ i a. IsTrue (seen s.views i a)) s.epochs h.waits;
        few = rw (head-ran s.offsets (due s.epochs), read_only-ran s.offsets (due s.epochs)) h.few;
        sixteen = h.sixteen;
      },
      out.1,
    )

-- after a write, a slot has the new view, or its own
pub view-set : (views : List View) (slot i : ℕ) (v : View) → (view_at (set views slot v) i ≡ v) ⊎ (view_at (set views slot v) i ≡ view_at views i)
view-set [] slot i v = inr refl
view-set (x ∷ xs) zero zero v = inl refl
view-set (x ∷ xs) zero (suc i) v = inr refl
view-set (x ∷ xs) (suc slot) zero v = inr refl
view-set (x ∷ xs) (suc slot) (suc i) v = view-set xs slot i v

-- the view of now agrees
pub now-agrees : (bits flushed : ℕ) (o : Offsets) → IsInOrder bits flushed o → ViewAgrees o (view_of o)
now-agrees bits flushed o h = record { mutable = h.safe; safe = omega arith; closed = h.closed; head = omega arith }

-- a slot that has the view of now
pub regions-looked : (s : RegionsView) (slot : ℕ) → IsRegions s → IsRegions (with_view s slot)
regions-looked s slot h =
    let now = view_of s.offsets in
    let sees = now-sees s.bits s.offsets (view_of s.offsets) s.epochs.waiting refl refl h.ahead in
    record {
      in_order = h.in_order;
      ahead = h.ahead;
      agree = record {
        each = λ i e g. elim (view-set s.views slot i (view_of s.offsets)) [
          | inl p ↦ rw p (now-agrees s.bits s.flushed s.offsets h.in_order)
          | inr p ↦ rw p (h.agree.each i e g)
        ];
      };
      waits = record {
        agree = λ k d l i e g m. elim (view-set s.views slot i (view_of s.offsets)) [
          | inl p ↦ rw p (sees k d l)
          | inr p ↦ rw p (h.waits.agree k d l i e g m)
        ];
      };
      few = h.few;
      sixteen = rw length-set h.sixteen;
    }

-- the view at a slot that is written, and at another
view-same : (views : List View) (slot i : ℕ) (v : View) → slot < length views → i ≡ slot → view_at (set views slot v) i ≡ v
view-same views slot i v inside e = rw e (get_or-set_same views slot v _ inside)

view-other : (views : List View) (slot i : ℕ) (v : View) → i ≢ slot → view_at (set views slot v) i ≡ view_at views i
view-other views slot i v ne = get_or-set_other views slot i v _ ne

-- a session that enters, or looks again
pub regions-entered : (s : RegionsView) (slot : ℕ) → slot < 16 → IsRegions s → IsRegions (entered s slot)
regions-entered s slot fits h =
    let inside : slot < length s.views = rw h.sixteen fits in
    let sees = now-sees s.bits s.offsets (view_of s.offsets) s.epochs.waiting refl refl h.ahead in
    record {
      in_order = h.in_order;
      ahead = h.ahead;
      agree = record {
        each = λ i e g. elim (cases_eq i slot) [
          | inl p ↦ subst (λ (v : View). ViewAgrees s.offsets v) (sym (view-same s.views slot i (view_of s.offsets) inside p)) (now-agrees s.bits s.flushed s.offsets h.in_order)
          | inr p ↦ subst (λ (v : View). ViewAgrees s.offsets v) (sym (view-other s.views slot i (view_of s.offsets) p))
              (h.agree.each i e (sym (get-set_other s.epochs.slots slot i (Some s.epochs.epoch) p) ∙ g))
        ];
      };
      waits = agree-renewed (λ i a. IsTrue (seen s.views i a)) (λ i a. IsTrue (seen (set s.views slot (view_of s.offsets)) i a)) s.epochs slot h.waits
          (λ i a other had. subst (λ (v : View). IsTrue (has_seen v a)) (sym (view-other s.views slot i (view_of s.offsets) other)) had)
          (λ k d l. subst (λ (v : View). IsTrue (has_seen v (get_or s.epochs.waiting k d).action)) (sym (view-same s.views slot slot (view_of s.offsets) inside refl)) (sees k d l));
      few = h.few;
      sixteen = rw length-set h.sixteen;
    }

-- looking, what is due is run, and looking again
pub refreshed-twice : (s : RegionsView) (slot : ℕ) → refreshed s slot ≡ with_view (drained (entered s slot)) slot
refreshed-twice s slot = λ i. record (drained (entered s slot)) { views = sym (set-set s.views slot (view_of s.offsets) (view_of (drained (entered s slot)).offsets)) i }

pub regions-refreshed : (s : RegionsView) (slot : ℕ) → slot < 16 → IsOrdered (renewed s.epochs slot) → IsRegions s → IsRegions (refreshed s slot) × IsRaised s.offsets (refreshed s slot).offsets
regions-refreshed s slot fits e h =
    let first = regions-entered s slot fits h in
    let mid = regions-drained (entered s slot) e first in
    (subst (λ (r : RegionsView). IsRegions r) (sym (refreshed-twice s slot)) (regions-looked (drained (entered s slot)) slot mid.0), mid.1)

-- a session that leaves
pub regions-left : (s : RegionsView) (slot : ℕ) → IsOrdered (vacated s.epochs slot) → IsRegions s → IsRegions (left s slot) × IsRaised s.offsets (left s slot).offsets
regions-left s slot e h =
    regions-drained (record s { epochs = vacated s.epochs slot }) e (record {
      in_order = h.in_order;
      ahead = h.ahead;
      agree = record { each = λ i c g. h.agree.each i c (elim (get-set_cases s.epochs.slots slot i None (Some c) g) [ inl bad ↦ absurd (cc) | inr old ↦ old ]) };
      waits = agree-vacated (λ i a. IsTrue (seen s.views i a)) s.epochs slot h.waits;
      few = h.few;
      sixteen = h.sixteen;
    })

-- what is run makes the same of SafeReadOnly and `closed`, whatever Head and the read-only offset
safe-step : (b : Action) (o p : Offsets) → o.safe_read_only ≡ p.safe_read_only → (ran o b).safe_read_only ≡ (ran p b).safe_read_only
safe-step (Safe b) o p e = refl
safe-step (Closed b) o p e = e

safe-after : (o p : Offsets) (ws : List Waiting) → o.safe_read_only ≡ p.safe_read_only → (ran_all o (actions_of ws)).safe_read_only ≡ (ran_all p (actions_of ws)).safe_read_only
safe-after o p [] e = e
safe-after o p (w ∷ ws) e = safe-after (ran o w.action) (ran p w.action) ws (safe-step w.action o p e)

closed-step : (b : Action) (o p : Offsets) → o.closed ≡ p.closed → (ran o b).closed ≡ (ran p b).closed
closed-step (Safe b) o p e = e
closed-step (Closed b) o p e = refl

closed-after : (o p : Offsets) (ws : List Waiting) → o.closed ≡ p.closed → (ran_all o (actions_of ws)).closed ≡ (ran_all p (actions_of ws)).closed
closed-after o p [] e = e
closed-after o p (w ∷ ws) e = closed-after (ran o w.action) (ran p w.action) ws (closed-step w.action o p e)

-- a bump with an offset that moved up
bumped-read_only : (s : RegionsView) (a : ℕ) → IsOrdered s.epochs → s.offsets.read_only < a → a ≤ 2 ^ 48 → IsMark s.bits a → IsRegions s
    → IsRegions (record s { offsets = record s.offsets { read_only = a }; epochs = bumped s.epochs (Safe a) })
bumped-read_only s a e up most mark h =
    let old = order-ran s.bits s.flushed s.offsets s.epochs.waiting h.in_order h.ahead in
    let safe_old : s.offsets.safe_read_only ≤ s.offsets.read_only = h.in_order.safe in
    let order : IsInOrder s.bits s.flushed (record s.offsets { read_only = a }) = record {
      first = h.in_order.first;
      closed = h.in_order.closed;
      head = h.in_order.head;
      safe = omega arith;
      most = most;
      flushed_low = h.in_order.flushed_low;
      flushed_high = h.in_order.flushed_high;
      closed_mark = h.in_order.closed_mark;
      head_mark = h.in_order.head_mark;
      safe_mark = h.in_order.safe_mark;
      read_only_mark = mark;
    } in
    let ahead_new : AreAhead s.bits (record s.offsets { read_only = a }) s.epochs.waiting = ahead-higher s.bits s.offsets s.offsets.head a s.epochs.waiting (omega arith) (omega arith) h.ahead in
    let moved = safe-after (record s.offsets { read_only = a }) s.offsets s.epochs.waiting refl in
    let safe_end : (ran_all s.offsets (actions_of s.epochs.waiting)).safe_read_only ≤ (ran_all s.offsets (actions_of s.epochs.waiting)).read_only = old.0.safe in
    let same : (ran_all s.offsets (actions_of s.epochs.waiting)).read_only ≡ s.offsets.read_only = read_only-ran s.offsets s.epochs.waiting in
    let top : (ran_all (record s.offsets { read_only = a }) (actions_of s.epochs.waiting)).read_only ≡ a = read_only-ran (record s.offsets { read_only = a }) s.epochs.waiting in
    record {
      in_order = order;
      ahead = ahead-join s.bits (record s.offsets { read_only = a }) s.epochs.waiting _ ahead_new ((omega arith, omega arith, mark), tt);
      agree = record { each = λ i c g. let v = h.agree.each i c g in record { mutable = v.mutable; safe = v.safe; closed = v.closed; head = v.head } };
      waits = agree-bumped (λ i a. IsTrue (seen s.views i a)) s.epochs (Safe a) e h.waits;
      few = let f = h.few in omega arith;
      sixteen = h.sixteen;
    }

pub regions-read_only : (s : RegionsView) (a : ℕ) → IsOrdered s.epochs → IsOrdered (bumped s.epochs (Safe a)) → s.offsets.read_only < a → a ≤ 2 ^ 48 → IsMark s.bits a → IsRegions s
    → IsRegions (with_read_only s a) × IsRaised s.offsets (with_read_only s a).offsets
regions-read_only s a e b up most mark h =
    let d = regions-drained (record s { offsets = record s.offsets { read_only = a }; epochs = bumped s.epochs (Safe a) }) b (bumped-read_only s a e up most mark h) in
    (d.0, raised-then s.offsets (record s.offsets { read_only = a }) _ (record { closed = omega arith; head = omega arith; safe = omega arith; read_only = omega arith }) d.1)

-- no session, and no record
pub regions-fresh : (bits : ℕ) → 8 ≤ bits → IsRegions (fresh_regions bits)
regions-fresh bits low = record {
  in_order = record {
    first = omega arith;
    closed = omega arith;
    head = omega arith;
    safe = omega arith;
    most = omega arith;
    flushed_low = (let big : 2 ^ 8 ≤ 2 ^ bits = pow_mono {i = 8} {j = bits} low in let none : page_at bits 64 ≡ 0 = div-eq_of_lt {n = 64} {m = 2 ^ bits} (omega arith) in omega arith);
    flushed_high = omega arith;
    closed_mark = inl refl;
    head_mark = inl refl;
    safe_mark = inl refl;
    read_only_mark = inl refl;
  };
  ahead = tt;
  agree = record { each = λ i e g. absurd (none-entered 16 i e g) };
  waits = agree-fresh _;
  few = omega arith;
  sixteen = refl;
}

-- a page that Head may be shifted to starts below what is frozen
pub head-most : (s : RegionsView) (page : ℕ) → IsRegions s → page ≤ s.flushed → start_at s.bits page ≤ s.offsets.safe_read_only
head-most s page h due = let up = starts-rise s.bits page s.flushed due in let f = h.in_order.flushed_high in omega arith

-- a bump with Head
bumped-head : (s : RegionsView) (page : ℕ) → IsOrdered s.epochs → IsHeadDue s page → IsRegions s
    → IsRegions (record s { offsets = record s.offsets { head = start_at s.bits page }; epochs = bumped s.epochs (Closed (start_at s.bits page)) })
bumped-head s page e due h =
    let up : s.offsets.head < start_at s.bits page = due.higher in
    let most : start_at s.bits page ≤ s.offsets.safe_read_only = head-most s page h due.flushed in
    let old = order-ran s.bits s.flushed s.offsets s.epochs.waiting h.in_order h.ahead in
    let closed_old : s.offsets.closed ≤ s.offsets.head = h.in_order.closed in
    let at_page : page_at s.bits (start_at s.bits page) ≡ page = mul-div_left page {n = 2 ^ s.bits} (pow_pos s.bits) in
    let mark : IsMark s.bits (start_at s.bits page) = start-mark s.bits page in
    let order : IsInOrder s.bits s.flushed (record s.offsets { head = start_at s.bits page }) = record {
      first = h.in_order.first;
      closed = omega arith;
      head = most;
      safe = h.in_order.safe;
      most = h.in_order.most;
      flushed_low = rw at_page due.flushed;
      flushed_high = h.in_order.flushed_high;
      closed_mark = h.in_order.closed_mark;
      head_mark = mark;
      safe_mark = h.in_order.safe_mark;
      read_only_mark = h.in_order.read_only_mark;
    } in
    let ahead_new : AreAhead s.bits (record s.offsets { head = start_at s.bits page }) s.epochs.waiting =
    ahead-higher s.bits s.offsets (start_at s.bits page) s.offsets.read_only s.epochs.waiting (omega arith) (omega arith) h.ahead in
    let moved = closed-after (record s.offsets { head = start_at s.bits page }) s.offsets s.epochs.waiting refl in
    let closed_end : (ran_all s.offsets (actions_of s.epochs.waiting)).closed ≤ (ran_all s.offsets (actions_of s.epochs.waiting)).head = old.0.closed in
    let same : (ran_all s.offsets (actions_of s.epochs.waiting)).head ≡ s.offsets.head = head-ran s.offsets s.epochs.waiting in
    let top : (ran_all (record s.offsets { head = start_at s.bits page }) (actions_of s.epochs.waiting)).head ≡ start_at s.bits page = head-ran (record s.offsets { head = start_at s.bits page }) s.epochs.waiting in
    record {
      in_order = order;
      ahead = ahead-join s.bits (record s.offsets { head = start_at s.bits page }) s.epochs.waiting _ ahead_new ((omega arith, omega arith, mark), tt);
      agree = record { each = λ i c g. let v = h.agree.each i c g in let top_view : (view_at s.views i).head ≤ s.offsets.head = v.head in record { mutable = v.mutable; safe = v.safe; closed = v.closed; head = omega arith } };
      waits = agree-bumped (λ i a. IsTrue (seen s.views i a)) s.epochs (Closed (start_at s.bits page)) e h.waits;
      few = let f = h.few in omega arith;
      sixteen = h.sixteen;
    }

pub regions-head : (s : RegionsView) (page : ℕ) → IsOrdered s.epochs → IsOrdered (bumped s.epochs (Closed (start_at s.bits page))) → IsHeadDue s page → IsRegions s
    → IsRegions (with_head s (start_at s.bits page)) × IsRaised s.offsets (with_head s (start_at s.bits page)).offsets
regions-head s page e b due h =
    let up : s.offsets.head < start_at s.bits page = due.higher in
    let d = regions-drained (record s { offsets = record s.offsets { head = start_at s.bits page }; epochs = bumped s.epochs (Closed (start_at s.bits page)) }) b (bumped-head s page e due h) in
    (d.0, raised-then s.offsets (record s.offsets { head = start_at s.bits page }) _ (record { closed = omega arith; head = omega arith; safe = omega arith; read_only = omega arith }) d.1)

-- more flushed pages
pub regions-flushed : (s : RegionsView) (page : ℕ) → s.flushed ≤ page → page ≤ page_at s.bits s.offsets.safe_read_only → IsRegions s → IsRegions (with_flushed s page)
regions-flushed s page up most h =
    let low : page_at s.bits s.offsets.head ≤ s.flushed = h.in_order.flushed_low in
    record {
      in_order = record {
        first = h.in_order.first;
        closed = h.in_order.closed;
        head = h.in_order.head;
        safe = h.in_order.safe;
        most = h.in_order.most;
        flushed_low = omega arith;
        flushed_high = start-below s.bits page s.offsets.safe_read_only most;
        closed_mark = h.in_order.closed_mark;
        head_mark = h.in_order.head_mark;
        safe_mark = h.in_order.safe_mark;
        read_only_mark = h.in_order.read_only_mark;
      };
      ahead = h.ahead;
      agree = h.agree;
      waits = h.waits;
      few = h.few;
      sixteen = h.sixteen;
    }
