-- What each event of a partition keeps of a world.
use Rattle.std.proofs.Common.{◌≡◌, ◌≢◌, Option, ℕ, suc, ◌<◌, ◌≤◌, inl, inr, true, List, [], ◌∷◌, ◌++◌, length, Some, None, slice_get, slice_set, refl, sym, ◌∙◌, ap, subst, arith}
use Rattle.std.proofs.lemmas.List.{length-set}
use Rattle.std.proofs.lemmas.Option.{slice_get_within}
use Rattle.std.specs.declared.cmp.Ordering.{Ordering}
use Rattle.fkv_functions.specs.Meanings.{Meanings}
use Rattle.fkv_functions.specs.Plain.{PlainMap, Same, IsKeyOrder}
use Rattle.fkv_operations.specs.After.{key_of}
use Rattle.fkv_operations.specs.Operations.{keyed, map_after, answer_to}
use Rattle.fkv_operations.specs.declared.operations.KeyedOp.{KeyedOp}
use Rattle.fkv_operations.specs.declared.operations.KeyedOp.TheVariants as on_key
use Rattle.fkv_operations.specs.AfterLaws.{same_map}
use Rattle.fkv_operations.specs.declared.operations.Op.{Op}
use Rattle.fkv_operations.specs.declared.operations.Answer.{Answer}
use Rattle.fkv_partition.specs.Views.{live_of, partition_of, PartitionView}
use Rattle.fkv_partition.specs.Pending.{Pending, pending, OthersPend, AllPend}
use Rattle.fkv_partition.specs.Effect.{Asked, asked, LeavesOthers, IsQuiet, IsIssue, IsAsking, to_find}
use Rattle.fkv_partition.specs.Unions.{union_of}
use Rattle.fkv_texts.specs.Text.{live}
use Rattle.fkv_operations.specs.After.{shown_of}
use Rattle.fkv_operations.specs.declared.operations.Op.TheVariants.{Read}
use Rattle.fkv_functions.proofs.ListLemmas.{get-set_cases, get-append_last}
use Rattle.fkv_lives.specs.declared.lives.Life.{Life}
use Rattle.fkv_lives.specs.declared.lives.End.{End}
use Rattle.fkv_lives.specs.declared.lives.End.TheVariants.{Open, Finished}
use Rattle.fkv_lives.specs.declared.lives.Finish.{Finish}
use Rattle.fkv_lives.specs.Lives.{finish_of, finish_in, map_before}
use Rattle.fkv_lives.specs.Changes.{ended_at}
use Rattle.fkv_lives.specs.declared.steps.ContextId.{ContextId}
use Rattle.fkv_partition.proofs.UnionLemmas.{live-here, live-quiet, live-after_op, answer-to_op}
use Rattle.fkv_worlds.specs.Worlds.{asked_in, pending_in, IsOpenLife, IsLinked, IsHoused, IsHeld, IsWorld}
use Rattle.fkv_worlds.proofs.LivesLemmas.{append_cases, append_old, ended_cases, ended_other}
use Rattle.fkv_worlds.proofs.PlacedLemmas.{placed-quiet, map-quiet, same_append, placed-append, map-append, same_ended, placed-ended, map-ended, same_now, placed-now, map-now, same_before, placed-before, map-before}
use Rattle.fkv_worlds.proofs.ManyLemmas.{asked-here, asked-was, asked-others, asked-all}
use Rattle.fkv_worlds.proofs.HeldLemmas.{same_where, closed-none, waiting-at, pend-here, pend-was, pend-others, pend-all, pend-sub, pend-same, pend-rest, held-on, held-same, held-sub, held-more}

-- a life that stands in a longer list, or beside one that ends
open-append : {K V I O : Type 0} (lives : List (Life K V I O)) (y : Life K V I O) (j : ℕ) (x : Asked K V I) → IsOpenLife lives j x → IsOpenLife (lives ++ y ∷ []) j x
open-append lives y j x l = record { life = l.life; here = append_old lives y j l.life l.here; op = l.op; issue = l.issue; unended = l.unended }

module _ {K V I O : Type 0} (cmp : K → K → Ordering) (o : IsKeyOrder cmp) (f : Meanings K V I O) (code : K → ℕ) (views : List (PartitionView K V I)) (life_at : ContextId → ℕ) (lives : List (Life K V I O)) (now next : ℕ) (e : next ≡ suc now) (world : IsWorld cmp f code views life_at lives now) where
  live-then : union_of cmp code views ≡ map_before cmp f lives (suc now)
  live-then = same_map (union_of cmp code views) (map_before cmp f lives (suc now)) world.denotes

  module _ (p : ℕ) (old new : PartitionView K V I) (here : slice_get views p ≡ Some old) (number : new.number ≡ old.number) (count : new.count ≡ old.count) (moment : new.moment ≡ next) where
    -- the partitions stay where they are
    housed-set : ((w : ContextId) (x : Asked K V I) (q : KeyedOp K V I) → asked_in (slice_set views p new) w ≡ Some x → keyed x.op ≡ Some q → partition_of (length views) (code (key_of q)) ≡ w.partition) → IsHoused code (slice_set views p new) next
    housed-set routed = record {
      some = rw (length-set views p new) world.housed.some;
      numbered = λ q v h. elim (get-set_cases views p q new v h) [
        | inl c ↦ ap (λ (u : PartitionView K V I). u.number) (sym c.1) ∙ number ∙ world.housed.numbered p old here ∙ sym c.0
        | inr c ↦ world.housed.numbered q v c
      ];
      counted = λ q v h. elim (get-set_cases views p q new v h) [
        | inl c ↦ ap (λ (u : PartitionView K V I). u.count) (sym c.1) ∙ count ∙ world.housed.counted p old here ∙ sym (length-set views p new)
        | inr c ↦ world.housed.counted q v c ∙ sym (length-set views p new)
      ];
      past = λ q v h. elim (get-set_cases views p q new v h) [
        | inl c ↦ (let m : v.moment ≡ next = ap (λ (u : PartitionView K V I). u.moment) (sym c.1) ∙ moment in omega arith)
        | inr c ↦ (let m : v.moment ≤ now = world.housed.past q v c in omega arith)
      ];
      routed = λ w x q h k. ap (λ n. partition_of n (code (key_of q))) (length-set views p new) ∙ routed w x q h k;
    }

    -- a step that changes no live value, no question and no life
    world-quiet : Same (live_of cmp new) (live_of cmp old) → ((w : ContextId) → asked_in (slice_set views p new) w ≡ asked_in views w) → IsHeld cmp f (slice_set views p new) life_at lives next → IsWorld cmp f code (slice_set views p new) life_at lives next
    world-quiet same questions held = record {
      placed = placed-quiet cmp f lives now next e world.placed;
      denotes = λ k. live-quiet cmp o f code views p old new here same k ∙ world.denotes k ∙ ap (λ (m : PlainMap K V). m k) (sym (map-quiet cmp f lives now next e world.placed));
      linked = record {
        linked = λ w x h. world.linked.linked w x (sym (questions w) ∙ h);
        apart = λ w u x y h k. world.linked.apart w u x y (sym (questions w) ∙ h) (sym (questions u) ∙ k);
      };
      housed = housed-set (λ w x q h k. world.housed.routed w x q (sym (questions w) ∙ h) k);
      held = held;
    }

  -- a session comes, goes or looks, an offset moves, or a page is flushed
  pub world-silent : (p : ℕ) (old new : PartitionView K V I) → slice_get views p ≡ Some old → IsQuiet true old new next → AllPend cmp old new → IsWorld cmp f code (slice_set views p new) life_at lives next
  world-silent p old new here ev pends =
      world-quiet p old new here ev.number ev.count ev.moment (λ k. ap (λ t. live cmp t k) (ev.text refl)) (asked-all views p old new here ev.same)
      (held-same cmp f views life_at lives now world.held (slice_set views p new) next (omega arith) (pend-all cmp views p old new here pends))

  -- a relocation goes on, or the log's start is cut: each look-up that still waits waited before
  pub world-kept : (p : ℕ) (old new : PartitionView K V I) → slice_get views p ≡ Some old → new.number ≡ old.number → new.count ≡ old.count → new.moment ≡ next → ((s d : ℕ) → asked new s d ≡ asked old s d) → Same (live_of cmp new) (live_of cmp old)
      → ((s d : ℕ) (q : Pending V) → pending cmp new s d ≡ Some q → pending cmp old s d ≡ Some q) → IsWorld cmp f code (slice_set views p new) life_at lives next
  world-kept p old new here number count moment same map sub =
      world-quiet p old new here number count moment map (asked-all views p old new here same)
      (held-sub cmp f views life_at lives now world.held (slice_set views p new) next (omega arith) (pend-sub cmp views p old new here sub))

  -- an operation is issued: one more life, at the end
  module _ (p : ℕ) (old new : PartitionView K V I) (slot c : ℕ) (op : Op K V I) (here : slice_get views p ≡ Some old) (ev : IsIssue code old new slot c op next) (pends : AllPend cmp old new) (begun : Life K V I O) (is : begun.op ≡ op) (at : begun.issue ≡ next) (unended : begun.end ≡ Open)
      (life_at' : ContextId → ℕ) (place : life_at' (record { partition = p; slot = slot; context = c }) ≡ length lives) (places : (u : ContextId) → u ≢ record { partition = p; slot = slot; context = c } → life_at' u ≡ life_at u) where
    there : ContextId
    there = record { partition = p; slot = slot; context = c }

    untold : finish_of begun ≡ None
    untold = ap (λ n. finish_of (record begun { end = n })) unended

    opened : asked_in (slice_set views p new) (record { partition = p; slot = slot; context = c }) ≡ Some (record { number = next; op = op })
    opened = asked-here views p old new here slot c ∙ ev.opened

    elsewhere : (u : ContextId) → u ≢ record { partition = p; slot = slot; context = c } → asked_in (slice_set views p new) u ≡ asked_in views u
    elsewhere = asked-others views p old new here slot c ev.frame.others

    is_new : (x : Asked K V I) → asked_in (slice_set views p new) (record { partition = p; slot = slot; context = c }) ≡ Some x → record { number = next; op = op } ≡ x
    is_new x h = let k : Some (record { number = next; op = op }) ≡ Some x = sym opened ∙ h in cc

    fresh : IsOpenLife (lives ++ begun ∷ []) (length lives) (record { number = next; op = op })
    fresh = record { life = begun; here = get-append_last lives begun; op = is; issue = at; unended = unended }

    old_place : (u : ContextId) (x : Asked K V I) → asked_in views u ≡ Some x → life_at u < length lives
    old_place u x h = let l = world.linked.linked u x h in slice_get_within lives (life_at u) l.life l.here

    linked-issue : IsLinked (asked_in (slice_set views p new)) life_at' (lives ++ begun ∷ [])
    linked-issue = record {
      linked = λ u x h. elim (same_where u (record { partition = p; slot = slot; context = c })) [
        | inl s ↦ rw (ap life_at' s ∙ place) (subst (λ (y : Asked K V I). IsOpenLife (lives ++ begun ∷ []) (length lives) y) (is_new x (ap (asked_in (slice_set views p new)) (sym s) ∙ h)) fresh)
        | inr n ↦ rw (places u n) (open-append lives begun (life_at u) x (world.linked.linked u x (sym (elsewhere u n) ∙ h)))
      ];
      apart = λ u v x y h k q. elim (same_where u (record { partition = p; slot = slot; context = c })) [
        | inl s ↦ elim (same_where v (record { partition = p; slot = slot; context = c })) [
          | inl t ↦ s ∙ sym t
          | inr t ↦ (let low = old_place v y (sym (elsewhere v t) ∙ k) in
              let same : length lives ≡ life_at v = sym (ap life_at' s ∙ place) ∙ q ∙ places v t in absurd (omega arith))
        ]
        | inr s ↦ elim (same_where v (record { partition = p; slot = slot; context = c })) [
          | inl t ↦ (let low = old_place u x (sym (elsewhere u s) ∙ h) in
              let same : life_at u ≡ length lives = sym (places u s) ∙ q ∙ ap life_at' t ∙ place in absurd (omega arith))
          | inr t ↦ world.linked.apart u v x y (sym (elsewhere u s) ∙ h) (sym (elsewhere v t) ∙ k) (sym (places u s) ∙ q ∙ places v t)
        ]
      ];
    }

    -- a look-up that waits is that of another context
    waits-else : (w : ContextId) (q : Pending V) → pending_in cmp (slice_set views p new) w ≡ Some q → (w ≢ record { partition = p; slot = slot; context = c }) × (pending_in cmp views w ≡ Some q)
    waits-else w q h =
        let before = sym (pend-all cmp views p old new here pends w) ∙ h in
        ((λ s. (let n : None ≡ Some q = sym (closed-none cmp old slot c ev.closed) ∙ sym (pend-was cmp views p old new here slot c) ∙ ap (pending_in cmp views) (sym s) ∙ before in absurd (cc))), before)

    held-issue : IsHeld cmp f (slice_set views p new) life_at' (lives ++ begun ∷ []) next
    held-issue = held-on cmp f views life_at lives now world.held (slice_set views p new) life_at' (lives ++ begun ∷ []) next (omega arith)
        (λ n b. same_append cmp f lives now next e world.placed begun at untold n)
        (λ w q h. (waits-else w q h).1)
        (λ w q h life k. rw (places w (waits-else w q h).0) (append_old lives begun (life_at w) life k))
        (λ w q h i y t hy ty. elim (append_cases lives begun i y hy) [
          | inl k ↦ (world.held.held w q (waits-else w q h).1).free i y t k ty
          | inr k ↦ (let n : None ≡ Some t = sym untold ∙ ap finish_of (sym k) ∙ ty in absurd (cc))
        ])

    pub world-issue : IsWorld cmp f code (slice_set views p new) life_at' (lives ++ begun ∷ []) next
    world-issue = record {
      placed = placed-append cmp f lives now next e world.placed begun at untold;
      denotes = λ k. live-quiet cmp o f code views p old new here (λ q. ap (λ t. live cmp t q) ev.text) k ∙ world.denotes k
          ∙ ap (λ (m : PlainMap K V). m k) (sym (map-append cmp f lives now next e world.placed begun at untold));
      linked = linked-issue;
      housed = housed-set p old new here ev.frame.number ev.frame.count ev.frame.moment (λ u x q h k. elim (same_where u (record { partition = p; slot = slot; context = c })) [
        | inl s ↦ (let same = is_new x (ap (asked_in (slice_set views p new)) (sym s) ∙ h) in
            ap (λ n. partition_of n (code (key_of q))) (sym (world.housed.counted p old here))
            ∙ ev.own q (ap (λ (y : Asked K V I). keyed y.op) same ∙ k) ∙ world.housed.numbered p old here ∙ ap (λ (w : ContextId). w.partition) (sym s))
        | inr n ↦ world.housed.routed u x q (sym (elsewhere u n) ∙ h) k
      ]);
      held = held-issue;
    }

  -- an operation ends: its context asks nothing any more, and the other contexts and look-ups stay
  module _ (p : ℕ) (old new : PartitionView K V I) (slot c : ℕ) (x : Asked K V I) (here : slice_get views p ≡ Some old) (was : asked old slot c ≡ Some x) (closed : asked new slot c ≡ None) (frame : LeavesOthers old new slot c next) (others : OthersPend cmp old new slot c) where
    asks : asked_in views (record { partition = p; slot = slot; context = c }) ≡ Some x
    asks = asked-was views p old new here slot c ∙ was

    own : (q : KeyedOp K V I) → keyed x.op ≡ Some q → partition_of (length views) (code (key_of q)) ≡ p
    own q k = world.housed.routed (record { partition = p; slot = slot; context = c }) x q asks k

    open_life : IsOpenLife lives (life_at (record { partition = p; slot = slot; context = c })) x
    open_life = world.linked.linked (record { partition = p; slot = slot; context = c }) x asks

    away : (u : ContextId) (y : Asked K V I) → asked_in (slice_set views p new) u ≡ Some y → u ≢ record { partition = p; slot = slot; context = c }
    away u y h s = let k : None ≡ Some y = sym (asked-here views p old new here slot c ∙ closed) ∙ ap (asked_in (slice_set views p new)) (sym s) ∙ h in absurd (cc)

    then : (u : ContextId) (y : Asked K V I) → asked_in (slice_set views p new) u ≡ Some y → asked_in views u ≡ Some y
    then u y h = sym (asked-others views p old new here slot c frame.others u (away u y h)) ∙ h

    rest : (w : ContextId) (q : Pending V) → pending_in cmp (slice_set views p new) w ≡ Some q → (w ≢ record { partition = p; slot = slot; context = c }) × (pending_in cmp views w ≡ Some q)
    rest = pend-rest cmp views p old new here slot c others (closed-none cmp new slot c closed)

    -- a look-up that waits is that of another life
    apart_life : (w : ContextId) (q : Pending V) → pending_in cmp (slice_set views p new) w ≡ Some q → life_at w ≢ life_at (record { partition = p; slot = slot; context = c })
    apart_life w q h s =
        let r = rest w q h in
        let a = waiting-at cmp views w q r.1 in
        r.0 (world.linked.apart w (record { partition = p; slot = slot; context = c }) a.0 x a.1 asks s)

    linked-ended : (end : End O) → IsLinked (asked_in (slice_set views p new)) life_at (ended_at lives (life_at (record { partition = p; slot = slot; context = c })) end)
    linked-ended end = record {
      linked = λ u y h. (let k = world.linked.linked u y (then u y h) in
          let other : life_at u ≢ life_at (record { partition = p; slot = slot; context = c }) = λ q. away u y h (world.linked.apart u (record { partition = p; slot = slot; context = c }) y x (then u y h) asks q) in
          record { life = k.life; here = ended_other lives (life_at (record { partition = p; slot = slot; context = c })) end (life_at u) other ∙ k.here; op = k.op; issue = k.issue; unended = k.unended });
      apart = λ u v y z h k q. world.linked.apart u v y z (then u y h) (then v z k) q;
    }

    housed-ended : IsHoused code (slice_set views p new) next
    housed-ended = housed-set p old new here frame.number frame.count frame.moment (λ u y q h k. world.housed.routed u y q (then u y h) k)

    -- where the map before past steps stays, and no life is finished at a step that is held
    held-ended : (end : End O) → ((n : ℕ) → n ≤ now → map_before cmp f (ended_at lives (life_at (record { partition = p; slot = slot; context = c })) end) n ≡ map_before cmp f lives n)
        → ((t : Finish O) → finish_in end ≡ Some t → (w : ContextId) (q : Pending V) → w ≢ record { partition = p; slot = slot; context = c } → pending_in cmp views w ≡ Some q → t.effect ≢ q.moment)
        → IsHeld cmp f (slice_set views p new) life_at (ended_at lives (life_at (record { partition = p; slot = slot; context = c })) end) next
    held-ended end same free = held-on cmp f views life_at lives now world.held (slice_set views p new) life_at (ended_at lives (life_at (record { partition = p; slot = slot; context = c })) end) next (omega arith) same
        (λ w q h. (rest w q h).1)
        (λ w q h life k. ended_other lives (life_at (record { partition = p; slot = slot; context = c })) end (life_at w) (apart_life w q h) ∙ k)
        (λ w q h i y t hy ty. (let l = open_life in elim (ended_cases lives (life_at (record { partition = p; slot = slot; context = c })) end l.life l.here i y hy) [
          | inl k ↦ (let r = rest w q h in free t (sym (ap finish_of k.1) ∙ ty) w q r.0 r.1)
          | inr k ↦ (world.held.held w q (rest w q h).1).free i y t k.1 ty
        ]))

    -- it is finished: its life ends with the answer, and its effect is now
    pub world-done : (a : Answer O) → Same (live_of cmp new) (map_after cmp f (live_of cmp old) x.op) → a ≡ answer_to f (live_of cmp old) x.op
        → IsWorld cmp f code (slice_set views p new) life_at (ended_at lives (life_at (record { partition = p; slot = slot; context = c })) (Finished (record { effect = next; done = next; answer = a }))) next
    world-done a map told =
        let l = open_life in
        let unended : finish_of l.life ≡ None = ap (λ n. finish_of (record (l.life) { end = n })) l.unended in
        let j = life_at (record { partition = p; slot = slot; context = c }) in
        record {
          placed = placed-now cmp f lives now next e world.placed j l.life l.here unended a
              (told ∙ answer-to_op cmp o f code views p old new here x.op own ∙ ap (λ m. answer_to f m x.op) live-then ∙ ap (answer_to f (map_before cmp f lives (suc now))) (sym l.op));
          denotes = λ k. live-after_op cmp o f code views p old new here x.op own map k
              ∙ ap (λ m. map_after cmp f m x.op k) live-then ∙ ap (λ q. map_after cmp f (map_before cmp f lives (suc now)) q k) (sym l.op)
              ∙ ap (λ (m : PlainMap K V). m k) (sym (map-now cmp f lives now next e world.placed j l.life l.here unended a));
          linked = linked-ended (Finished (record { effect = next; done = next; answer = a }));
          housed = housed-ended;
          held = held-ended (Finished (record { effect = next; done = next; answer = a }))
              (λ n b. same_now cmp f lives now next e world.placed j l.life l.here unended a n (omega arith))
              (λ t h w q n k m. (let s : record { effect = next; done = next; answer = a } ≡ t = cc in
              let at : next ≡ t.effect = ap (λ (z : Finish O). z.effect) s in
              let past = (world.held.held w q k).past in absurd (omega arith)));
        }

    -- a read is finished by the page that it waited for: its effect is at its look-up
    pub world-loaded : (q : Pending V) → pending cmp old slot c ≡ Some q → (a : Answer O) (k : K) (i : I) → x.op ≡ Read k i → a ≡ shown_of f k i q.value → Same (live_of cmp new) (live_of cmp old)
        → IsWorld cmp f code (slice_set views p new) life_at (ended_at lives (life_at (record { partition = p; slot = slot; context = c })) (Finished (record { effect = q.moment; done = next; answer = a }))) next
    world-loaded q waits a k i reads told same =
        let l = open_life in
        let unended : finish_of l.life ≡ None = ap (λ n. finish_of (record (l.life) { end = n })) l.unended in
        let j = life_at (record { partition = p; slot = slot; context = c }) in
        let look = world.held.held (record { partition = p; slot = slot; context = c }) q (pend-was cmp views p old new here slot c ∙ waits) in
        let op : l.life.op ≡ Read k i = l.op ∙ reads in
        let mine : look.life ≡ l.life = (let s : Some look.life ≡ Some l.life = sym look.here ∙ l.here in cc) in
        let both : Some look.op ≡ Some (on_key.Read k i) = sym look.is ∙ ap (λ (z : Life K V I O). keyed z.op) mine ∙ ap keyed op in
        let same_op : look.op ≡ on_key.Read k i = cc in
        let key : key_of look.op ≡ k = ap key_of same_op in
        record {
          placed = placed-before cmp f lives now next e world.placed j l.life l.here unended q.moment a k i op q.value
              look.free (let b : look.life.issue < q.moment = look.later in let s : look.life.issue ≡ l.life.issue = ap (λ (z : Life K V I O). z.issue) mine in omega arith)
              look.past (look.value ∙ ap (map_before cmp f lives q.moment) key) told;
          denotes = λ r. live-quiet cmp o f code views p old new here same r ∙ world.denotes r
              ∙ ap (λ (m : PlainMap K V). m r) (sym (map-before cmp f lives now next e world.placed j l.life l.here unended q.moment a k i op));
          linked = linked-ended (Finished (record { effect = q.moment; done = next; answer = a }));
          housed = housed-ended;
          held = held-ended (Finished (record { effect = q.moment; done = next; answer = a }))
              (λ n b. same_before cmp f lives now next e world.placed j l.life l.here unended q.moment a k i op n)
              (λ t h w r n u m. (let s : record { effect = q.moment; done = next; answer = a } ≡ t = cc in
              let at : q.moment ≡ t.effect = ap (λ (z : Finish O). z.effect) s in
              n (world.held.apart w (record { partition = p; slot = slot; context = c }) r q u (pend-was cmp views p old new here slot c ∙ waits) (sym m ∙ sym at))));
        }

    -- it is given up, or a fault ends it: its life ends without effect
    pub world-ended : (end : End O) → finish_in end ≡ None → Same (live_of cmp new) (live_of cmp old)
        → IsWorld cmp f code (slice_set views p new) life_at (ended_at lives (life_at (record { partition = p; slot = slot; context = c })) end) next
    world-ended end untold same =
        let l = open_life in
        let unended : finish_of l.life ≡ None = ap (λ n. finish_of (record (l.life) { end = n })) l.unended in
        let j = life_at (record { partition = p; slot = slot; context = c }) in
        record {
          placed = placed-ended cmp f lives now next e world.placed j l.life l.here unended end untold;
          denotes = λ k. live-quiet cmp o f code views p old new here same k ∙ world.denotes k
              ∙ ap (λ (m : PlainMap K V). m k) (sym (map-ended cmp f lives now next e world.placed j l.life l.here unended end untold));
          linked = linked-ended end;
          housed = housed-ended;
          held = held-ended end (λ n b. same_ended cmp f lives now next e world.placed j l.life l.here unended end untold n)
              (λ t h w q n k m. (let s : None ≡ Some t = sym untold ∙ h in absurd (cc)));
        }

  -- an event that finishes nothing
  module _ (p : ℕ) (old new : PartitionView K V I) (slot c : ℕ) (x : Asked K V I) (here : slice_get views p ≡ Some old) (was : asked old slot c ≡ Some x) (is : asked new slot c ≡ Some x) (frame : LeavesOthers old new slot c next) (same : Same (live_of cmp new) (live_of cmp old)) (others : OthersPend cmp old new slot c) where
    goes-on : IsHeld cmp f (slice_set views p new) life_at lives next → IsWorld cmp f code (slice_set views p new) life_at lives next
    goes-on held = world-quiet p old new here frame.number frame.count frame.moment same (λ w. elim (same_where w (record { partition = p; slot = slot; context = c })) [
      | inl s ↦ ap (asked_in (slice_set views p new)) s ∙ asked-here views p old new here slot c ∙ is ∙ sym was ∙ sym (asked-was views p old new here slot c) ∙ ap (asked_in views) (sym s)
      | inr n ↦ asked-others views p old new here slot c frame.others w n
    ]) held

    -- after which it waits for no page
    pub world-next : pending cmp new slot c ≡ None → IsWorld cmp f code (slice_set views p new) life_at lives next
    world-next none = goes-on (held-sub cmp f views life_at lives now world.held (slice_set views p new) next (omega arith)
        (λ w q h. (pend-rest cmp views p old new here slot c others none w q h).1))

    -- after which it waits for another page, to find the same
    pub world-further : pending cmp new slot c ≡ pending cmp old slot c → IsWorld cmp f code (slice_set views p new) life_at lives next
    world-further still = goes-on (held-same cmp f views life_at lives now world.held (slice_set views p new) next (omega arith) (pend-same cmp views p old new here slot c others still))

    -- by which a page is asked for: this step is held for its look-up
    pub world-asks : IsAsking cmp old new slot c next → IsWorld cmp f code (slice_set views p new) life_at lives next
    world-asks ask = by_key (keyed x.op) refl
      where
        w : ContextId
        w = record { partition = p; slot = slot; context = c }

        mine : ask.question ≡ x
        mine = let s : Some ask.question ≡ Some x = sym ask.was ∙ was in cc

        asks : asked_in views (record { partition = p; slot = slot; context = c }) ≡ Some x
        asks = asked-was views p old new here slot c ∙ was

        finds : (q : Option (KeyedOp K V I)) → keyed x.op ≡ q → pending cmp new slot c ≡ to_find cmp old next q
        finds q k = ask.asks ∙ ap (λ (z : Asked K V I). to_find cmp old next (keyed z.op)) mine ∙ ap (to_find cmp old next) k

        by_key : (q : Option (KeyedOp K V I)) → keyed x.op ≡ q → IsWorld cmp f code (slice_set views p new) life_at lives next
        by_key None k = world-next (finds None k)
        by_key (Some q) k =
            let l = world.linked.linked (record { partition = p; slot = slot; context = c }) x asks in
            let own : partition_of (length views) (code (key_of q)) ≡ p = world.housed.routed (record { partition = p; slot = slot; context = c }) x q asks k in
            let issued : l.life.issue ≤ now = world.placed.issued (life_at (record { partition = p; slot = slot; context = c })) l.life l.here in
            goes-on (held-more cmp f views life_at lives now world.held (slice_set views p new) next (omega arith) (record { partition = p; slot = slot; context = c }) (record { moment = next; value = live_of cmp old (key_of q) })
            (pend-here cmp views p old new here slot c ∙ finds (Some q) k)
            (record {
              life = l.life;
              here = l.here;
              op = q;
              is = ap keyed l.op ∙ k;
              later = omega arith;
              past = omega arith;
              free = λ i y t hy ty m. (let u = world.placed.timely i y t hy ty in let a : t.effect ≤ t.done = u.within in let b : t.done ≤ now = u.past in absurd (omega arith));
              value = sym (live-here cmp o f code views p old new here (key_of q) own)
                  ∙ ap (λ (m : PlainMap K V). m (key_of q)) live-then
                  ∙ ap (λ n. map_before cmp f lives n (key_of q)) (sym e);
            })
            (omega arith)
            (pend-others cmp views p old new here slot c others))
