-- Pairs in bytes and in pages: what one more adds, and what the first gives.
use Rattle.std.proofs.Common.{◌≡◌, ◌≤◌, ◌<◌, ◌+◌, inl, inr, ℕ, zero, suc, true, false, List, [], ◌∷◌, ◌++◌, Option, Some, None, length, take, drop, refl, sym, ◌∙◌, ap, subst, arith, length-append, length-take, length-drop, append_assoc, slice_index_or}
use Rattle.std.specs.Prelude.{unwrap_or, IfSome, IsSome}
use Rattle.std.proofs.lemmas.Bool.{false≢true}
use Rattle.std.proofs.lemmas.List.{take-append-le, drop-append-le, drop_all, take_all, drop-drop}
use Rattle.fkv_functions.specs.Codecs.{Codec}
use Rattle.fkv_functions.specs.declared.names.Name.{Name}
use Rattle.fkv_functions.specs.declared.refusals.Refused.{Refused}
use Rattle.fkv_device.specs.Failing.{ReadFailsBy}
use Rattle.fkv_device.specs.Standing.{Standing}
use Rattle.fkv_runs.specs.Merging.{first_pair}
use Rattle.fkv_spills.specs.declared.gathering.Gathered.{Gathered}
use Rattle.fkv_spills.specs.declared.pages.SpilledPage.{SpilledPage}
use Rattle.fkv_spills.specs.declared.unread.Unread.{Unread}
use Rattle.fkv_spills.specs.Spilling.{pair_size, IsPairIn, ArePairsIn, AreAllOf, AreSpilled, IsGathered}
use Rattle.fkv_spills.specs.Reading.{AreInHand, IsUnread, IsReady, IsUnreadable}

pub append-none : {A : Type 0} (xs : List A) → xs ++ [] ≡ xs
append-none [] = refl
append-none (x ∷ xs) = ap (λ ys. x ∷ ys) (append-none xs)

-- the one at the front of a list
pub front-is : {A : Type 0} (xs : List A) (x : A) → 0 < length xs → x ≡ slice_index_or xs 0 x → xs ≡ x ∷ drop 1 xs
front-is [] x low is = absurd (omega arith)
front-is (y ∷ xs) x low is = ap (λ z. z ∷ xs) (sym is)

-- a queue without a front is empty
pub no-front : (n : ℕ) → (0 < n → false ≡ true) → n ≡ 0
no-front zero h = refl
no-front (suc n) h = absurd (false≢true (h (omega arith)))

-- a size that is at hand, or none
pub size-is : (o : Option ℕ) (r n : ℕ) → r ≡ unwrap_or o 0 → IfSome o (λ m. m ≡ n) → IsSome o → r ≡ n
size-is None r n e is some = absurd (false≢true some)
size-is (Some m) r n e is some = e ∙ is

pub size-most : (o : Option ℕ) (r n : ℕ) → r ≡ unwrap_or o 0 → IfSome o (λ m. m ≡ n) → r ≤ n
size-most None r n e is = (let t : r ≡ 0 = e in omega arith)
size-most (Some m) r n e is = (let t : r ≡ m = e in omega arith)

-- the same refusal, where the counts are the same, and less is known
pub unreadable-weaker : (old was new : ℕ) (known less : Type 0) (e : Refused) → old ≡ was → (less → known) → IsUnreadable was new known e → IsUnreadable old new less e
unreadable-weaker old was new known less e same from (page, inl failed) = (page, inl (subst (λ n. ReadFailsBy page n new e) (sym same) failed))
unreadable-weaker old was new known less e same from (page, inr h) = (page, inr (h.0, λ k. h.1 (from k)))

module _ {V : Type 0} {vsize : ℕ} (value : Codec V vsize) where
  -- where so many bytes are taken, so many there are
  room-for : (bytes : List ℕ) (x : Name × V) → IsPairIn value (take (pair_size vsize) bytes) x → pair_size vsize ≤ length bytes
  room-for bytes x h = (let e = h.sized in omega (arith, length-take (pair_size vsize) bytes))

  -- and at a place
  pub room-at : (bytes : List ℕ) (at : ℕ) (x : Name × V) → IsPairIn value (take (pair_size vsize) (drop at bytes)) x → at + pair_size vsize ≤ length bytes
  room-at bytes at x h = (let e = h.sized in let some : 0 < pair_size vsize = omega arith in omega (arith, length-take (pair_size vsize) (drop at bytes), length-drop at bytes))

  pub in-all : (bytes : List ℕ) (xs : List (Name × V)) → AreAllOf value bytes xs → ArePairsIn value bytes xs
  in-all bytes [] h = tt
  in-all bytes (x ∷ xs) h = (h.0, in-all (drop (pair_size vsize) bytes) xs h.1)

  -- bytes behind them change nothing
  pub in-more : (bytes more : List ℕ) (xs : List (Name × V)) → ArePairsIn value bytes xs → ArePairsIn value (bytes ++ more) xs
  in-more bytes more [] h = tt
  in-more bytes more (x ∷ xs) h = (
    subst (λ b. IsPairIn value b x) (sym (take-append-le (pair_size vsize) bytes more (room-for bytes x h.0))) h.0,
    subst (λ b. ArePairsIn value b xs) (sym (drop-append-le (pair_size vsize) bytes more (room-for bytes x h.0)))
        (in-more (drop (pair_size vsize) bytes) more xs h.1),
  )

  -- one pair more
  pub all-more : (bytes spelled : List ℕ) (xs : List (Name × V)) (x : Name × V) → IsPairIn value spelled x → AreAllOf value bytes xs
      → AreAllOf value (bytes ++ spelled) (xs ++ x ∷ [])
  all-more bytes spelled [] x p h = (
    subst (λ b. IsPairIn value (take (pair_size vsize) (b ++ spelled)) x) (sym h)
        (subst (λ b. IsPairIn value b x) (sym (take_all (pair_size vsize) spelled (let e = p.sized in omega arith))) p),
    ap (λ b. drop (pair_size vsize) (b ++ spelled)) h ∙ drop_all (pair_size vsize) spelled (let e = p.sized in omega arith),
  )
  all-more bytes spelled (y ∷ xs) x p h = (
    subst (λ b. IsPairIn value b y) (sym (take-append-le (pair_size vsize) bytes spelled (room-for bytes y h.0))) h.0,
    subst (λ b. AreAllOf value b (xs ++ x ∷ [])) (sym (drop-append-le (pair_size vsize) bytes spelled (room-for bytes y h.0)))
        (all-more (drop (pair_size vsize) bytes) spelled xs x p h.1),
  )

  module _ {R : Type 0} (stands : R → Standing) where
    -- one page more
    pub spilled-more : (ps : List (SpilledPage R)) (page : SpilledPage R) (xs ys : List (Name × V)) → 0 < page.count → length ys ≡ page.count
        → ArePairsIn value (stands page.receipt).bytes ys → AreSpilled value stands ps xs → AreSpilled value stands (ps ++ page ∷ []) (xs ++ ys)
    spilled-more [] page xs ys some e pairs h = subst (λ zs. AreSpilled value stands (page ∷ []) (zs ++ ys)) (sym h) (
      some,
      (let t : page.count ≤ length ys = omega arith in t),
      subst (λ zs. ArePairsIn value (stands page.receipt).bytes zs) (sym (take_all page.count ys (omega arith))) pairs,
      drop_all page.count ys (omega arith),
    )
    spilled-more (p ∷ ps) page xs ys some e pairs h = (
      h.0,
      (let t : p.count ≤ length xs = h.1 in omega (arith, length-append xs ys)),
      subst (λ zs. ArePairsIn value (stands p.receipt).bytes zs) (sym (take-append-le p.count xs ys h.1)) h.2,
      subst (λ zs. AreSpilled value stands (ps ++ page ∷ []) zs) (sym (drop-append-le p.count xs ys h.1))
          (spilled-more ps page (drop p.count xs) ys some e pairs h.3),
    )

    -- no pages have no pairs
    pub none-spilled : (xs : List (Name × V)) → AreSpilled value stands [] (drop 0 xs) → xs ≡ []
    none-spilled xs h = h

    -- where no pair waits for its page, all stand in pages
    pub gathered-none : (g : Gathered V R) (xs : List (Name × V)) → g.here ≡ 0 → IsGathered value stands g xs → AreSpilled value stands g.pages.items xs
    gathered-none g xs e h = subst (AreSpilled value stands g.pages.items) (sym (h.all ∙ none h.last (h.counted ∙ e) h.before)) h.spilled
      where
        none : (ys : List (Name × V)) → length ys ≡ 0 → (zs : List (Name × V)) → zs ++ ys ≡ zs
        none [] n zs = append-none zs
        none (y ∷ ys) n zs = absurd (omega arith)

    -- the next page was written
    pub gathered-page : (g : Gathered V R) (page : SpilledPage R) (zeros : List ℕ) (xs : List (Name × V)) → 0 < g.here → page.count ≡ g.here
        → (stands page.receipt).bytes ≡ g.bytes.items ++ zeros → IsGathered value stands g xs
        → AreSpilled value stands (g.pages.items ++ page ∷ []) xs
    gathered-page g page zeros xs some e bytes h =
        subst (AreSpilled value stands (g.pages.items ++ page ∷ [])) (sym h.all)
        (spilled-more g.pages.items page h.before h.last (let t = e in omega arith) (let t = h.counted in omega arith)
        (subst (λ b. ArePairsIn value b h.last) (sym bytes) (in-more g.bytes.items zeros h.last (in-all g.bytes.items h.last h.in_bytes))) h.spilled)

    -- a pair more waits
    pub gathered-more : (g new : Gathered V R) (spelled : List ℕ) (xs : List (Name × V)) (x : Name × V) → new.pages.items ≡ g.pages.items
        → new.bytes.items ≡ g.bytes.items ++ spelled → new.here ≡ g.here + 1 → IsPairIn value spelled x → IsGathered value stands g xs
        → IsGathered value stands new (xs ++ x ∷ [])
    gathered-more g new spelled xs x pages bytes here p h = record {
      before = h.before;
      last = h.last ++ x ∷ [];
      all = ap (λ zs. zs ++ x ∷ []) h.all ∙ append_assoc h.before h.last (x ∷ []);
      spilled = subst (λ ps. AreSpilled value stands ps h.before) (sym pages) h.spilled;
      in_bytes = subst (λ b. AreAllOf value b (h.last ++ x ∷ [])) (sym bytes) (all-more g.bytes.items spelled h.last x p h.in_bytes);
      counted = (let t = h.counted in omega (arith, length-append h.last (x ∷ [])));
    }

    -- all pairs stand in pages, and none waits
    pub gathered-all : (g : Gathered V R) (xs : List (Name × V)) → g.bytes.items ≡ [] → g.here ≡ 0 → AreSpilled value stands g.pages.items xs → IsGathered value stands g xs
    gathered-all g xs bytes here h = record {
      before = xs;
      last = [];
      all = sym (append-none xs);
      spilled = h;
      in_bytes = bytes;
      counted = sym here;
    }

    module _ {P : Type 0} where
      -- none is in hand: all stand in the pages that are left
      pub unread-all : (u : Unread V R P) (xs : List (Name × V)) → u.page ≡ None → u.here ≡ 0 → AreSpilled value stands u.pages.items xs → IsUnread value stands u xs
      unread-all u xs none here h = record {
        fits = (let t = here in omega arith);
        in_hand = subst (λ p. AreInHand value p u.at (take u.here xs)) (sym none) (ap (λ n. take n xs) here);
        behind = subst (λ n. AreSpilled value stands u.pages.items (drop n xs)) (sym here) h;
      }

      -- where none of the page in hand is left, all stand in the pages behind it
      pub behind-all : (u : Unread V R P) (xs : List (Name × V)) → u.here ≡ 0 → IsUnread value stands u xs → AreSpilled value stands u.pages.items xs
      behind-all u xs e h = subst (λ n. AreSpilled value stands u.pages.items (drop n xs)) e h.behind

      -- no page is left
      pub unread-end : (u new : Unread V R P) (xs : List (Name × V)) → length u.pages.items ≡ 0 → u.here ≡ 0 → new.here ≡ 0 → new.page ≡ None
          → new.pages.items ≡ u.pages.items → IsUnread value stands u xs → IsUnread value stands new xs × IsReady new xs
      unread-end u new xs none e here page pages h =
          (let all : AreSpilled value stands u.pages.items xs = behind-all u xs e h in
          (unread-all new xs page here (subst (λ ps. AreSpilled value stands ps xs) (sym pages) all), inr (page, end u.pages.items none all)))
        where
          end : (ps : List (SpilledPage R)) → length ps ≡ 0 → AreSpilled value stands ps xs → xs ≡ []
          end [] n t = t
          end (p ∷ ps) n t = absurd (omega arith)

      -- the first of the pages is in hand
      pub unread-page : (u : Unread V R P) (p : SpilledPage R) (bytes : List ℕ) (ps pages : List (SpilledPage R)) (xs : List (Name × V))
          → pages ≡ p ∷ ps → u.pages.items ≡ ps → u.page ≡ Some bytes → u.at ≡ 0 → u.here ≡ p.count → bytes ≡ (stands p.receipt).bytes
          → AreSpilled value stands pages xs → IsUnread value stands u xs × IsReady u xs
      unread-page u p bytes ps pages xs whole rest page at here is h = by_pages (subst (λ qs. AreSpilled value stands qs xs) whole h)
        where
          by_pages : AreSpilled value stands (p ∷ ps) xs → IsUnread value stands u xs × IsReady u xs
          by_pages t = (
            record {
              fits = (let a = here in let b : p.count ≤ length xs = t.1 in omega arith);
              in_hand = subst (λ q. AreInHand value q u.at (take u.here xs)) (sym page)
                  (subst (λ n. ArePairsIn value (drop n bytes) (take u.here xs)) (sym at)
                  (subst (λ n. ArePairsIn value bytes (take n xs)) (sym here)
                  (subst (λ b. ArePairsIn value b (take p.count xs)) (sym is) t.2)));
              behind = subst (λ n. AreSpilled value stands u.pages.items (drop n xs)) (sym here)
                  (subst (λ qs. AreSpilled value stands qs (drop p.count xs)) (sym rest) t.3);
            },
            inl (let a = here in let b : 0 < p.count = t.0 in omega arith),
          )

      -- the pair that comes first, and what stands once it was taken out of the page in hand
      pub record IsTaken (u : Unread V R P) (bytes : List ℕ) (xs : List (Name × V)) : Type 0 where
        pub pair : Name × V
        pub first : Some pair ≡ first_pair xs
        pub here : IsPairIn value (take (pair_size vsize) (drop u.at bytes)) pair
        pub rest : (new : Unread V R P) → new.page ≡ Some bytes → new.at ≡ u.at + pair_size vsize → new.here + 1 ≡ u.here → new.pages.items ≡ u.pages.items
            → IsUnread value stands new (drop 1 xs)

      pub ready-here : (u : Unread V R P) (bytes : List ℕ) (xs : List (Name × V)) → u.page ≡ Some bytes → IsReady u xs → 0 < u.here
      ready-here u bytes xs page (inl some) = some
      ready-here u bytes xs page (inr none) = absurd (let t : Some bytes ≡ None = sym page ∙ none.0 in cc)

      pub taken : (u : Unread V R P) (bytes : List ℕ) (xs : List (Name × V)) → u.page ≡ Some bytes → IsUnread value stands u xs → IsReady u xs → IsTaken u bytes xs
      taken u bytes xs page h (inr none) = absurd (let t : Some bytes ≡ None = sym page ∙ none.0 in cc)
      taken u bytes [] page h (inl some) = absurd (let f = h.fits in omega arith)
      taken u bytes (x ∷ xs) page h (inl some) = by_here u.here refl
        where
          by_here : (n : ℕ) → u.here ≡ n → IsTaken u bytes (x ∷ xs)
          by_here zero e = absurd (omega arith)
          by_here (suc n) e = (let pairs : ArePairsIn value (drop u.at bytes) (x ∷ take n xs) =
              subst (λ p. AreInHand value p u.at (x ∷ take n xs)) page (subst (λ k. AreInHand value u.page u.at (take k (x ∷ xs))) e h.in_hand) in record {
                pair = x;
                first = refl;
                here = pairs.0;
                rest = λ new same at here pages. (let is : new.here ≡ n = omega arith in record {
                  fits = (let f = h.fits in omega arith);
                  in_hand = subst (λ p. AreInHand value p new.at (take new.here xs)) (sym same)
                      (subst (λ k. ArePairsIn value (drop new.at bytes) (take k xs)) (sym is)
                      (subst (λ k. ArePairsIn value (drop k bytes) (take n xs)) (sym at)
                      (subst (λ b. ArePairsIn value b (take n xs)) (drop-drop (pair_size vsize) u.at bytes) pairs.1)));
                  behind = subst (λ ps. AreSpilled value stands ps (drop new.here xs)) (sym pages)
                      (subst (λ k. AreSpilled value stands u.pages.items (drop k xs)) (sym is)
                      (subst (λ k. AreSpilled value stands u.pages.items (drop k (x ∷ xs))) e h.behind));
                });
              })

      -- none is in hand, and none comes
      pub untaken : (u : Unread V R P) (xs : List (Name × V)) → u.page ≡ None → IsUnread value stands u xs → IsReady u xs → xs ≡ []
      untaken u xs none h (inr end) = end.1
      untaken u [] none h (inl some) = refl
      untaken u (x ∷ xs) none h (inl some) = absurd (by_here u.here refl)
        where
          by_here : (n : ℕ) → u.here ≡ n → ⊥
          by_here zero e = omega arith
          by_here (suc n) e = (let t : x ∷ take n xs ≡ [] =
              subst (λ p. AreInHand value p u.at (x ∷ take n xs)) none (subst (λ k. AreInHand value u.page u.at (take k (x ∷ xs))) e h.in_hand) in cc)
