-- What is kept under a lock stays so with each event, by what that is to the live map and to the contexts.
use Rattle.std.proofs.Common.{◌≡◌, ◌≢◌, ◌⊎◌, inl, inr, ℕ, ◌+◌, ◌<◌, ◌≤◌, true, false, List, [], ◌∷◌, ◌++◌, length, Option, Some, None, slice_index, slice_set, refl, sym, ap, ◌∙◌, arith, length-append}
use Rattle.std.specs.declared.cmp.Ordering.{Ordering}
use Rattle.std.proofs.lemmas.Bool.{cases_eq}
use Rattle.std.proofs.lemmas.List.{get_or-set_same, get_or-set_other}
use Rattle.std.proofs.lemmas.List.Elements.{filter-append}
use Rattle.fkv_functions.specs.Meanings.{Meanings}
use Rattle.fkv_functions.specs.Plain.{PlainMap, Same}
use Rattle.fkv_operations.specs.After.{is_update, key_of, after, answer, shown_of}
use Rattle.fkv_operations.specs.AfterLaws.{same_map}
use Rattle.fkv_operations.specs.Operations.{keyed, op_of}
use Rattle.fkv_operations.specs.declared.operations.KeyedOp.{KeyedOp}
use Rattle.fkv_operations.specs.declared.operations.KeyedOp.TheVariants.{Read}
use Rattle.fkv_operations.specs.declared.operations.Op.{Op}
use Rattle.fkv_partition.specs.Pending.{Pending}
use Rattle.fkv_partition.specs.Effect.{Asked}
use Rattle.fkv_partition.specs.Views.{PartitionView}
use Rattle.fkv_partition.proofs.EffectLemmas.{closed-pending, asked-low}
use Rattle.fkv_partition.proofs.AskedLemmas.{keyed-op}
use Rattle.fkv_histories.specs.declared.entries.Entry.{Entry}
use Rattle.fkv_histories.specs.Histories.{is_update_entry, updates, map_of, map_at, IsLegal}
use Rattle.fkv_histories.proofs.HistoryLemmas.{updates_none, map_at-more, map_at-all, history_map, legal_more}
use Rattle.fkv_locked.specs.Kept.{Seen, seen, place_of, IsPast, IsFaithful}

-- what asks nothing waits for nothing, and a session has eight contexts
pub record IsOrderly {K V I : Type 0} (s : Seen K V I) : Type 0 where
  pub closed : (t d : ℕ) → s.asked t d ≡ None → s.pending t d ≡ None
  pub within : (t d : ℕ) (x : Asked K V I) → s.asked t d ≡ Some x → d < 8

pub orderly : {K V I : Type 0} (cmp : K → K → Ordering) (v : PartitionView K V I) → IsOrderly (seen cmp v)
orderly cmp v = record { closed = λ t d h. closed-pending v t d cmp h; within = λ t d x h. asked-low v t d x h }

-- the same place, or another
pub same_place : (s d t c : ℕ) → ((s ≡ t) × (d ≡ c)) ⊎ ((s ≢ t) ⊎ (d ≢ c))
same_place s d t c =
    elim (cases_eq s t) [
      | inr n ↦ inr (inl n)
      | inl a ↦ elim (cases_eq d c) [ inr n ↦ inr (inr n) | inl b ↦ inl (a, b) ]
    ]

-- contexts of different places are told apart
pub apart : (s d t c : ℕ) → d < 8 → c < 8 → (s ≢ t) ⊎ (d ≢ c) → place_of s d ≢ place_of t c
apart s d t c low here other e = elim other [ inl n ↦ n (omega arith) | inr n ↦ n (omega arith) ]

-- two operations on keys that are one among all operations
pub op-same : {K V I : Type 0} (p q : KeyedOp K V I) → op_of p ≡ op_of q → p ≡ q
op-same p q h = let e : Some p ≡ Some q = sym (keyed-op p) ∙ (ap keyed h ∙ keyed-op q) in cc

-- the operation of a question, if there is one
abbrev pub op_in : {K V I : Type 0} → Op K V I → Option (Asked K V I) → Op K V I
op_in other None = other
op_in other (Some x) = x.op

differ : false ≡ true → ⊥
differ e = absurd (cc)

-- of two lists of places, one of which has another count at one place
pub marked_same : (marks marks' : List ℕ) (i count : ℕ) → marks' ≡ slice_set marks i count → i < length marks → slice_index marks' i ≡ count
marked_same marks marks' i count set lt = rw set (get_or-set_same marks i count 0 lt)

pub marked_other : (marks marks' : List ℕ) (i j count : ℕ) → marks' ≡ slice_set marks i count → j ≢ i → slice_index marks' j ≡ slice_index marks j
marked_other marks marks' i j count set ne = rw set (get_or-set_other marks i j count 0 ne)

-- the mark of a context in which nothing is open may be any that is not above the count
pub kept_unmarked : {K V I O : Type 0} (cmp : K → K → Ordering) (f : Meanings K V I O) (s : Seen K V I) → IsOrderly s → (slot c : ℕ) → c < 8 → s.asked slot c ≡ None
    → (es : List (Entry K V I O)) (lows lows' looks : List ℕ) (book : ℕ)
    → ((i : ℕ) → i ≢ place_of slot c → slice_index lows i ≡ slice_index lows' i)
    → ((i : ℕ) → slice_index lows i ≤ length (updates es))
    → IsFaithful cmp f s es lows' looks book
    → IsFaithful cmp f s es lows looks book
kept_unmarked cmp f s ordered slot c low closed es lows lows' looks book same below k = record {
  legal = k.legal;
  live = k.live;
  issued = below;
  past = λ t d p h. elim (same_place t d slot c) [
    | inl e ↦ (let here : s.pending slot c ≡ Some p = rw (← e.0, ← e.1) h in let bad : None ≡ Some p = sym (ordered.closed slot c closed) ∙ here in absurd (cc))
    | inr n ↦
        let was = k.past t d p h in
        let far = apart t d slot c (ordered.within t d (record { number = was.number; op = op_of was.op }) was.asks) low n in
        rw (same (place_of t d) far) was
  ];
  counted = k.counted;
}

module _ {K V I O : Type 0} (cmp : K → K → Ordering) (f : Meanings K V I O) (old new : Seen K V I) (later : old.moment ≤ new.moment) where
  -- what a look-up is to find stays, while updates are added
  past_stays : (us us' : List (Entry K V I O)) (s d : ℕ) (p : Pending V) (low look : ℕ) → new.asked s d ≡ old.asked s d
      → length us ≤ length us'
      → ((n : ℕ) → n ≤ length us → map_at cmp f us' n ≡ map_at cmp f us n)
      → IsPast cmp f old us s d p low look
      → IsPast cmp f new us' s d p low look
  past_stays us us' s d p low look same grows ats was =
      let early = was.early in
      let within = was.within in
      record {
        number = was.number;
        op = was.op;
        asks = same ∙ was.asks;
        early = omega arith;
        later = was.later;
        within = omega arith;
        value = was.value ∙ sym (ap (λ (m : PlainMap K V). m (key_of was.op)) (ats look was.within));
      }

  -- an event of nobody's operation
  pub kept_quiet : (es : List (Entry K V I O)) (lows looks : List ℕ) (book : ℕ) → ((s d : ℕ) → new.asked s d ≡ old.asked s d)
      → ((s d : ℕ) → new.pending s d ≡ old.pending s d)
      → Same new.live old.live
      → IsFaithful cmp f old es lows looks book
      → IsFaithful cmp f new es lows looks book
  kept_quiet es lows looks book same pend live k = record {
    legal = k.legal;
    live = λ q. live q ∙ k.live q;
    issued = k.issued;
    past = λ s d p h.
        past_stays (updates es) (updates es) s d p (slice_index lows (place_of s d)) (slice_index looks (place_of s d)) (same s d) (omega arith) (λ n le. refl)
        (k.past s d p (sym (pend s d) ∙ h));
    counted = k.counted;
  }

  -- an event of a compactor: each operation on a key goes on asking what it asked, and is to find what it was to find, or
  -- nothing
  pub kept_operations : (es : List (Entry K V I O)) (lows looks : List ℕ) (book : ℕ)
      → ((s d number : ℕ) (op : KeyedOp K V I) → old.asked s d ≡ Some (record { number = number; op = op_of op }) → new.asked s d ≡ Some (record { number = number; op = op_of op }))
      → ((s d : ℕ) (p : Pending V) → new.pending s d ≡ Some p → old.pending s d ≡ Some p)
      → Same new.live old.live
      → IsFaithful cmp f old es lows looks book
      → IsFaithful cmp f new es lows looks book
  kept_operations es lows looks book asks pend live k = record {
    legal = k.legal;
    live = λ q. live q ∙ k.live q;
    issued = k.issued;
    past = λ s d p h.
        let was = k.past s d p (pend s d p h) in
        let early = was.early in
        record {
          number = was.number;
          op = was.op;
          asks = asks s d was.number was.op was.asks;
          early = omega arith;
          later = was.later;
          within = was.within;
          value = was.value;
        };
    counted = k.counted;
  }

  -- an event of one context: what has to be shown of this context alone
  module _ (ordered : IsOrderly old) (ordered' : IsOrderly new) (slot c : ℕ) (low : c < 8)
      (asks : (s d : ℕ) → (s ≢ slot) ⊎ (d ≢ c) → new.asked s d ≡ old.asked s d)
      (pends : (s d : ℕ) → (s ≢ slot) ⊎ (d ≢ c) → new.pending s d ≡ old.pending s d)
      (es : List (Entry K V I O)) (lows looks : List ℕ) (book : ℕ) (k : IsFaithful cmp f old es lows looks book) where
    kept_frame : (es' : List (Entry K V I O)) (lows' looks' : List ℕ) (book' : ℕ) → IsLegal cmp f es'
        → Same new.live (map_of cmp f (updates es'))
        → length (updates es) ≤ length (updates es')
        → ((n : ℕ) → n ≤ length (updates es) → map_at cmp f (updates es') n ≡ map_at cmp f (updates es) n)
        → ((i : ℕ) → i ≢ place_of slot c → slice_index lows' i ≡ slice_index lows i)
        → ((i : ℕ) → i ≢ place_of slot c → slice_index looks' i ≡ slice_index looks i)
        → ((i : ℕ) → slice_index lows' i ≤ length (updates es'))
        → ((p : Pending V) → new.pending slot c ≡ Some p
        → IsPast cmp f new (updates es') slot c p (slice_index lows' (place_of slot c)) (slice_index looks' (place_of slot c)))
        → book' ≡ length es'
        → IsFaithful cmp f new es' lows' looks' book'
    kept_frame es' lows' looks' book' legal live grows ats lows_is looks_is issued past counted = record {
      legal = legal;
      live = live;
      issued = issued;
      past = λ s d p h. elim (same_place s d slot c) [
        | inl e ↦ rw (e.0, e.1) (past p (rw (← e.0, ← e.1) h))
        | inr n ↦
            let was = k.past s d p (sym (pends s d n) ∙ h) in
            let far = apart s d slot c (ordered.within s d (record { number = was.number; op = op_of was.op }) was.asks) low n in
            rw (lows_is (place_of s d) far, looks_is (place_of s d) far)
            (past_stays (updates es) (updates es') s d p (slice_index lows (place_of s d)) (slice_index looks (place_of s d)) (asks s d n) grows ats was)
      ];
      counted = counted;
    }

    -- one after which the context is to find nothing
    pub kept_still : new.pending slot c ≡ None → Same new.live old.live → IsFaithful cmp f new es lows looks book
    kept_still none live =
        kept_frame es lows looks book k.legal (λ q. live q ∙ k.live q) (omega arith) (λ n le. refl) (λ i n. refl) (λ i n. refl) k.issued
        (λ p h. let bad : None ≡ Some p = sym none ∙ h in absurd (cc))
        k.counted

    -- one that goes on with a look-up in another page
    pub kept_further : new.asked slot c ≡ old.asked slot c → new.pending slot c ≡ old.pending slot c → Same new.live old.live
        → IsFaithful cmp f new es lows looks book
    kept_further same pend live =
        kept_frame es lows looks book k.legal (λ q. live q ∙ k.live q) (omega arith) (λ n le. refl) (λ i n. refl) (λ i n. refl) k.issued
        (λ p h.
        past_stays (updates es) (updates es) slot c p (slice_index lows (place_of slot c)) (slice_index looks (place_of slot c)) same (omega arith) (λ n le. refl)
        (k.past slot c p (sym pend ∙ h)))
        k.counted

    -- one that asks for a page, to find what the live map says now
    pub kept_asks : (number : ℕ) (op : KeyedOp K V I) (now : ℕ) (looks' : List ℕ) → now ≤ new.moment
        → new.asked slot c ≡ Some (record { number = number; op = op_of op })
        → new.pending slot c ≡ Some (record { moment = now; value = old.live (key_of op) })
        → Same new.live old.live
        → looks' ≡ slice_set looks (place_of slot c) (length (updates es))
        → place_of slot c < length looks
        → IsFaithful cmp f new es lows looks' book
    kept_asks number op now looks' due is finds live set within =
        let us = updates es in
        let here = marked_same looks looks' (place_of slot c) (length us) set within in
        kept_frame es lows looks' book k.legal (λ q. live q ∙ k.live q) (omega arith) (λ n le. refl) (λ i n. refl)
        (λ i n. marked_other looks looks' (place_of slot c) i (length us) set n) k.issued
        (λ p h.
        let le = k.issued (place_of slot c) in
        let p_is : Some (record { moment = now; value = old.live (key_of op) }) ≡ Some p = sym finds ∙ h in
        let value : p.value ≡ old.live (key_of op) = cc in
        let moment : p.moment ≡ now = cc in
        record {
          number = number;
          op = op;
          asks = is;
          early = omega arith;
          later = omega arith;
          within = omega arith;
          value = value ∙ (k.live (key_of op) ∙ rw here (sym (ap (λ (m : PlainMap K V). m (key_of op)) (map_at-all cmp f us))));
        })
        k.counted

    -- one that ends the operation without effect
    pub kept_closed : new.asked slot c ≡ None → Same new.live old.live → IsFaithful cmp f new es lows looks book
    kept_closed closed live = kept_still (ordered'.closed slot c closed) live

    -- an issue
    pub kept_issue : (lows' : List ℕ) → old.asked slot c ≡ None → new.pending slot c ≡ old.pending slot c → Same new.live old.live
        → lows' ≡ slice_set lows (place_of slot c) (length (updates es))
        → place_of slot c < length lows
        → IsFaithful cmp f new es lows' looks book
    kept_issue lows' closed pend live set within =
        let us = updates es in
        let here = marked_same lows lows' (place_of slot c) (length us) set within in
        kept_frame es lows' looks book k.legal (λ q. live q ∙ k.live q) (omega arith) (λ n le. refl)
        (λ i n. marked_other lows lows' (place_of slot c) i (length us) set n) (λ i n. refl)
        (λ i. elim (cases_eq i (place_of slot c)) [
          | inl e ↦ rw e (omega (arith, here))
          | inr n ↦ (let was = k.issued i in let other = marked_other lows lows' (place_of slot c) i (length us) set n in omega (arith, was, other))
        ])
        (λ p h. let bad : None ≡ Some p = sym (ordered.closed slot c closed) ∙ (sym pend ∙ h) in absurd (cc))
        k.counted

    -- one that finishes the operation, with one entry more
    kept_entry : (e : Entry K V I O) → new.asked slot c ≡ None
        → IsLegal cmp f (es ++ e ∷ [])
        → Same new.live (map_of cmp f (updates (es ++ e ∷ [])))
        → IsFaithful cmp f new (es ++ e ∷ []) lows looks (book + 1)
    kept_entry e closed legal live =
        let grown : updates (es ++ e ∷ []) ≡ updates es ++ updates (e ∷ []) = filter-append is_update_entry es (e ∷ []) in
        let grows : length (updates es) ≤ length (updates (es ++ e ∷ [])) = omega (arith, ap length grown, length-append (updates es) (updates (e ∷ []))) in
        kept_frame (es ++ e ∷ []) lows looks (book + 1) legal live grows
        (λ n le. rw grown (map_at-more cmp f (updates es) (updates (e ∷ [])) n le))
        (λ i n. refl) (λ i n. refl)
        (λ i. let was = k.issued i in omega arith)
        (λ p h. let bad : None ≡ Some p = sym (ordered'.closed slot c closed) ∙ h in absurd (cc))
        (omega (arith, length-append es (e ∷ []), k.counted))

    -- one that finishes it now, behind all updates
    pub kept_done : (e : Entry K V I O) → new.asked slot c ≡ None
        → Same new.live (after cmp f old.live e.op)
        → e.answer ≡ answer f old.live e.op
        → e.at ≡ length (updates es)
        → e.high ≡ length (updates es)
        → e.low ≡ slice_index lows (place_of slot c)
        → IsFaithful cmp f new (es ++ e ∷ []) lows looks (book + 1)
    kept_done e closed live told at high low_is =
        let us = updates es in
        let live_is : old.live ≡ map_of cmp f us = same_map old.live (map_of cmp f us) k.live in
        let here : map_at cmp f us e.at ≡ old.live = ap (map_at cmp f us) at ∙ (map_at-all cmp f us ∙ sym live_is) in
        let issued = k.issued (place_of slot c) in
        kept_entry e closed
        (legal_more cmp f es e k.legal (λ h. at) high
        (record { low = omega arith; high = omega arith; answers = told ∙ sym (ap (λ (m : PlainMap K V). answer f m e.op) here) }))
        (λ q. live q ∙ (ap (λ (m : PlainMap K V). after cmp f m e.op q) live_is ∙ sym (ap (λ (m : PlainMap K V). m q) (history_map cmp f es e))))

    -- one that finishes a read, as it was at its look-up
    pub kept_loaded : (e : Entry K V I O) (p : Pending V) (number : ℕ) (key : K) (i : I) → new.asked slot c ≡ None
        → old.asked slot c ≡ Some (record { number = number; op = op_of e.op })
        → old.pending slot c ≡ Some p
        → Same new.live old.live
        → e.op ≡ Read key i
        → e.answer ≡ shown_of f key i p.value
        → e.at ≡ slice_index looks (place_of slot c)
        → e.high ≡ length (updates es)
        → e.low ≡ slice_index lows (place_of slot c)
        → IsFaithful cmp f new (es ++ e ∷ []) lows looks (book + 1)
    kept_loaded e p number key i closed asks waits live read told at high low_is =
        let us = updates es in
        let past = k.past slot c p waits in
        let both : Some (record { number = number; op = op_of e.op }) ≡ Some (record { number = past.number; op = op_of past.op }) = sym asks ∙ past.asks in
        let ops : op_of e.op ≡ op_of past.op = ap (λ (o : Option (Asked K V I)). op_in (op_of e.op) o) both in
        let op_is : past.op ≡ Read key i = sym (op-same e.op past.op ops) ∙ read in
        let key_is : key_of past.op ≡ key = ap key_of op_is in
        let quiet : is_update_entry e ≡ false = ap is_update read in
        let value : p.value ≡ map_at cmp f us e.at key = past.value ∙ (ap (map_at cmp f us (slice_index looks (place_of slot c))) key_is ∙ sym (ap (λ n. map_at cmp f us n key) at)) in
        let told_so : e.answer ≡ answer f (map_at cmp f us e.at) e.op = told ∙ (ap (shown_of f key i) value ∙ sym (ap (answer f (map_at cmp f us e.at)) read)) in
        let later = past.later in
        let within = past.within in
        kept_entry e closed
        (legal_more cmp f es e k.legal (λ h. absurd (differ (sym quiet ∙ h))) high
        (record { low = omega arith; high = omega arith; answers = told_so }))
        (rw (updates_none es e quiet) (λ q. live q ∙ k.live q))

-- a read that is finished at once changes nothing but that its entry is the last
pub kept_read : {K V I O : Type 0} (cmp : K → K → Ordering) (f : Meanings K V I O) (s : Seen K V I) (es : List (Entry K V I O)) (lows looks : List ℕ) (book : ℕ) → IsFaithful cmp f s es lows looks book
    → (e : Entry K V I O) (key : K) (i : I) → e.op ≡ Read key i
    → e.answer ≡ shown_of f key i (s.live key)
    → e.low ≡ length (updates es)
    → e.at ≡ length (updates es)
    → e.high ≡ length (updates es)
    → IsFaithful cmp f s (es ++ e ∷ []) lows looks (book + 1)
kept_read {K} {V} cmp f s es lows looks book k e key i read told low at high =
    let us = updates es in
    let quiet : is_update_entry e ≡ false = ap is_update read in
    let live_is : s.live ≡ map_of cmp f us = same_map s.live (map_of cmp f us) k.live in
    let here : map_at cmp f us e.at ≡ s.live = ap (map_at cmp f us) at ∙ (map_at-all cmp f us ∙ sym live_is) in
    let told_so : e.answer ≡ answer f (map_at cmp f us e.at) e.op = told ∙ (ap (λ (m : PlainMap K V). shown_of f key i (m key)) (sym here) ∙ sym (ap (answer f (map_at cmp f us e.at)) read)) in
    let none = updates_none es e quiet in
    record {
      legal = legal_more cmp f es e k.legal (λ h. absurd (differ (sym quiet ∙ h))) high (record { low = omega arith; high = omega arith; answers = told_so });
      live = rw none k.live;
      issued = rw none k.issued;
      past = rw none k.past;
      counted = omega (arith, length-append es (e ∷ []), k.counted);
    }
