use Rattle.std.proofs.Common.{◌≡◌, ◌≢◌, ◌<◌, ◌%◌, ℕ, suc, zero, List, [], ◌∷◌, Option, Some, None, set, length, ◌^◌, refl, ◌∙◌, ap, arith, rules, true, false, ◌==◌, eq-eqb, Bool, length-set, replicate, bit_and, ◌-◌, ◌+◌, ◌*◌, ◌/◌}
use Rattle.std.proofs.lemmas.Nat.{and_mask, mod-mul-add, div-add-mod'}
use Rattle.std.proofs.lemmas.Option.{slice_get-map}
use Rattle.std.specs.Prelude.{slice_get}
use Rattle.std.proofs.lemmas.List.Elements.{All-head, All-tail}
use Rattle.fkv_functions.proofs.ListLemmas.{get-set_within, get-set_other}
use Rattle.fkv_frames.specs.Ring.{Ring}
use Rattle.fkv_frames.specs.Held.{held, in_slot, with_page, LeavesOthers, Opens, Writes, written_at}
use Rattle.std.proofs.lemmas.List.{map-set, length-map}
use Rattle.std.specs.Prelude.{map, cond, IfSome, IsSome, All}
use Rattle.std.specs.Vec.{with_item}
use Rattle.fkv_frames.specs.Inside.{ring_of}
use Rattle.fkv_frames.specs.declared.ring.Frames.TheInside.{Inside}
use Rattle.fkv_frames.specs.declared.ring.Frame.{Frame}

-- an offset by a mask
pub masked : (address bits : ℕ) → bit_and address (2 ^ bits - 1) ≡ address % 2 ^ bits
masked address bits = and_mask address bits

pub own_page : (n : ℕ) (bytes : List ℕ) → in_slot (Some (Some n, bytes)) n ≡ Some bytes
own_page n bytes = rw (eq-eqb n n refl) refl

pub held-with_page : (r : Ring) (n : ℕ) (bytes : List ℕ) → 0 < length r.slots → held (with_page r n bytes) n ≡ Some bytes
held-with_page r n bytes h =
    let within : n % length r.slots < length r.slots = omega arith in
    rw (length-set, get-set_within r.slots (n % length r.slots) (Some n, bytes) within) (own_page n bytes)

-- another page in that slot is gone
other_page : (n m : ℕ) (bytes : List ℕ) → m ≢ n → in_slot (Some (Some n, bytes)) m ≡ None
other_page n m bytes ne = by (n == m) refl
  where
    by : (b : Bool) → (n == m) ≡ b → in_slot (Some (Some n, bytes)) m ≡ None
    by true e = absurd (ne (search rules))
    by false e = rw e refl

pub others-with_page : (r : Ring) (n : ℕ) (bytes : List ℕ) → 0 < length r.slots → LeavesOthers n r (with_page r n bytes)
others-with_page r n bytes h =
    let within : n % length r.slots < length r.slots = omega arith in
    record {
      bits = refl;
      count = length-set _ _ _;
      others = λ m ne. rw length-set (ap (λ s. in_slot s m) (get-set_other r.slots (n % length r.slots) (m % length r.slots) (Some n, bytes) ne));
      dropped = λ m e ne. rw (length-set, e, get-set_within r.slots (n % length r.slots) (Some n, bytes) within) (other_page n m bytes ne);
    }

-- the slot that a frame is
abbrev pub slot : Frame → Option ℕ × List ℕ
slot x = (x.page, x.bytes.items)

-- a ring with another frame at a place
pub ring_of-with_item : (f : Inside) (round i : ℕ) (x : Frame) → ring_of (record { page_bits = f.page_bits; round = round; frames = with_item f.frames i x }) ≡ record { bits = f.page_bits; slots = set (ring_of f).slots i (slot x) }
ring_of-with_item f round i x = ap (λ (s : List (Option ℕ × List ℕ)). record { bits = f.page_bits; slots = s }) (map-set slot f.frames.items i x)

pub ring_of-page : (f : Inside) (round n i : ℕ) (x : Frame) (bytes : List ℕ) → i ≡ n % length f.frames.items → x.page ≡ Some n → x.bytes.items ≡ bytes
    → ring_of (record { page_bits = f.page_bits; round = round; frames = with_item f.frames i x }) ≡ with_page (ring_of f) n bytes
ring_of-page f round n i x bytes at p b = ring_of-with_item f round i x ∙ rw (length-map, at, p, b) refl

pub opens : (f : Inside) (round n i : ℕ) (x : Frame) → 0 < length f.frames.items → i ≡ n % length f.frames.items → x.page ≡ Some n → x.bytes.items ≡ replicate (2 ^ f.page_bits) 0
    → Opens n (ring_of f) (ring_of (record { page_bits = f.page_bits; round = round; frames = with_item f.frames i x }))
opens f round n i x some at p b =
    let some_slot : 0 < length (ring_of f).slots = rw length-map some in
    rw (ring_of-page f round n i x (replicate (2 ^ f.page_bits) 0) at p b)
    (record { exact = refl; opened = held-with_page (ring_of f) n _ some_slot; others = others-with_page (ring_of f) n _ some_slot })

pub none-in_slots : (xs : List Frame) (i n : ℕ) → All (λ x. x.page ≡ None) xs → in_slot (slice_get (map slot xs) i) n ≡ None
none-in_slots [] i n h = refl
none-in_slots (x ∷ xs) zero n h = let e : x.page ≡ None = h zero x (omega arith) in rw e refl
none-in_slots (x ∷ xs) (suc i) n h = none-in_slots xs i n (λ k d l. h (suc k) d (omega arith))

-- a held page's slot
pub held_slot : (r : Ring) (n : ℕ) (s : Option ℕ × List ℕ) → slice_get r.slots (n % length r.slots) ≡ Some s → IsSome (held r n) → (s.0 ≡ Some n) × (held r n ≡ Some s.1)
held_slot r n s e h = by s.0 refl
  where
    by : (o : Option ℕ) → s.0 ≡ o → (s.0 ≡ Some n) × (held r n ≡ Some s.1)
    by None q = let none : Option (List ℕ) = None in let bad : IsSome none = rw (e, q) at h in absurd (search rules)
    by (Some m) q = same (m == n) refl
      where
        same : (b : Bool) → (m == n) ≡ b → (s.0 ≡ Some n) × (held r n ≡ Some s.1)
        same true t = let is : m ≡ n = search rules in (q ∙ ap Some is, rw (e, q, t) refl)
        same false t = let none : Option (List ℕ) = None in let bad : IsSome none = rw (e, q, t) at h in absurd (search rules)

pub writes : (f : Inside) (n i at : ℕ) (old new : Frame) (bytes : List ℕ) → 0 < length f.frames.items → i ≡ n % length f.frames.items
    → slice_get f.frames.items i ≡ Some old → IsSome (held (ring_of f) n) → new.page ≡ old.page → new.bytes.items ≡ written_at old.bytes.items at bytes
    → Writes n at bytes (ring_of f) (ring_of (record { page_bits = f.page_bits; round = f.round; frames = with_item f.frames i new }))
writes f n i at old new bytes some is found inside p b =
    let some_slot : 0 < length (ring_of f).slots = rw length-map some in
    let here : slice_get (ring_of f).slots (n % length (ring_of f).slots) ≡ Some (slot old) = rw (length-map, slice_get-map, ← is, found) refl in
    let own = held_slot (ring_of f) n (slot old) here inside in
    rw (ring_of-page f f.round n i new (written_at old.bytes.items at bytes) is (p ∙ own.0) b)
    (record {
      exact = rw own.1 refl;
      written = rw own.1 (held-with_page (ring_of f) n _ some_slot);
      others = others-with_page (ring_of f) n _ some_slot;
    })

-- ---- rounds
-- so far behind a round's begin lies a page, which is its frame, in this round and in the next
pub behind-round : (round count far : ℕ) → round % count ≡ 0 → far < count → (round + far) % count ≡ far
behind-round round count far whole low =
    let split = div-add-mod' round count in
    let is : round + far ≡ round / count * count + far = omega (arith, split, whole) in
    rw is (mod-mul-add (round / count) count far low)

pub next-round : (round count : ℕ) → round % count ≡ 0 → 0 < count → (round + count) % count ≡ 0
next-round round count whole some =
    let split = div-add-mod' round count in
    let is : round + count ≡ (round / count + 1) * count + 0 = omega (arith, split, whole) in
    rw is (mod-mul-add (round / count + 1) count 0 some)

-- where no frame holds a page, no page is held
pub none-in_frames : (f : Inside) (n : ℕ) → All (λ x. x.page ≡ None) f.frames.items → held (ring_of f) n ≡ None
none-in_frames f n h = none-in_slots f.frames.items (n % length (ring_of f).slots) n h

-- each page that is held has its size
sized-slot : (o : Option ℕ) (n m : ℕ) (bytes : List ℕ) → length bytes ≡ m → IfSome (in_slot (Some (o, bytes)) n) (λ b. length b ≡ m)
sized-slot None n m bytes h = tt
sized-slot (Some k) n m bytes h =
    elim (k == n) as (λ v. IfSome (cond v (Some bytes) None) (λ b. length b ≡ m)) [ true ↦ h | false ↦ tt ]

sized-in_slots : (xs : List Frame) (i n m : ℕ) → All (λ x. length x.bytes.items ≡ m) xs → IfSome (in_slot (slice_get (map slot xs) i) n) (λ b. length b ≡ m)
sized-in_slots [] i n m h = tt
sized-in_slots (x ∷ xs) zero n m h =
    sized-slot x.page n m x.bytes.items (All-head (λ (y : Frame). length y.bytes.items ≡ m) x xs h)
sized-in_slots (x ∷ xs) (suc i) n m h = sized-in_slots xs i n m (All-tail (λ (y : Frame). length y.bytes.items ≡ m) x xs h)

pub sized-in_frames : (f : Inside) → All (λ x. length x.bytes.items ≡ 2 ^ f.page_bits) f.frames.items
    → (n : ℕ) → IfSome (held (ring_of f) n) (λ b. length b ≡ 2 ^ f.page_bits)
sized-in_frames f h n = sized-in_slots f.frames.items (n % length (ring_of f).slots) n (2 ^ f.page_bits) h
