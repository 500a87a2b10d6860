-- Pages and their frames.
use Rattle.std.proofs.Common.{◌≡◌, ◌≢◌, ◌+◌, ◌-◌, ◌*◌, ◌/◌, ◌%◌, ◌^◌, ◌<◌, ◌≤◌, inl, inr, ℕ, zero, suc, Bool, true, false, cond, List, [], ◌∷◌, ◌++◌, length, take, drop, replicate, Option, Some, None, slice_get, refl, sym, ◌∙◌, ap, subst, arith, nat_lt, nat_le, append_assoc}
use Rattle.std.specs.Prelude.{IfSome, IsSome, unwrap_or}
use Rattle.std.proofs.lemmas.Bool.{cases_lt}
use Rattle.std.proofs.lemmas.Bool.Decides.{nat_tests}
use Rattle.std.proofs.lemmas.Nat.{div-add-mod', pow_pos, pow-add, mul-le, le-div}
use Rattle.std.proofs.lemmas.List.{length-replicate}
use Rattle.std.proofs.Math.Nat.{div-mul-le_self}
use Rattle.fkv_records.specs.Places.{IsShape, page_at, offset_at, start_at, end_at, place_after, IsRecordStart}
use Rattle.fkv_records.proofs.PlaceLemmas.{page_sized, next_start, place_room}
use Rattle.fkv_device.specs.Standing.{Standing}
use Rattle.fkv_frames.specs.Ring.{Ring}
use Rattle.fkv_frames.specs.Held.{held, Opens, Writes}
use Rattle.fkv_frames.specs.Held as frame
use Rattle.fkv_texts.specs.Places.{tail_after}
use Rattle.fkv_texts.proofs.PlaceLemmas.{after_some, after_none, next_way}
use Rattle.fkv_hybrid.specs.Views.{receipt_at}
use Rattle.fkv_hybrid.specs.Pages.{page_in, pages_from, IsOpen, OpensAndWrites, there, made, IsRinged}
use Rattle.fkv_hybrid.proofs.ByteLemmas.{written_at}

-- ---- pages by arithmetic
pub page_high : (bits n a : ℕ) → start_at bits n ≤ a → n ≤ page_at bits a
page_high bits n a h = le-div n a (2 ^ bits) (pow_pos bits) h

pub page_low : (bits a : ℕ) → start_at bits (page_at bits a) ≤ a
page_low bits a = div-mul-le_self a (2 ^ bits)

pub start_rises : (bits m n : ℕ) → m ≤ n → start_at bits m ≤ start_at bits n
start_rises bits m n h = mul-le m (2 ^ bits) n (2 ^ bits) h (omega arith)

pub page_rises : (bits a b : ℕ) → a ≤ b → page_at bits a ≤ page_at bits b
page_rises bits a b h = let low = page_low bits a in page_high bits (page_at bits a) b (omega arith)

-- an address that lies below a page's start is of an earlier page
pub page_before : (bits a n : ℕ) → a < start_at bits n → page_at bits a < n
page_before bits a n h = elim (cases_lt (page_at bits a) n) [
  | inl less ↦ less
  | inr more ↦ (let s = start_rises bits n (page_at bits a) more in let low = page_low bits a in absurd (omega arith))
]

-- an address lies within its page
pub page_holds : (bits a : ℕ) → a < start_at bits (page_at bits a + 1)
page_holds bits a =
    let parts = div-add-mod' a (2 ^ bits) in
    let p = pow_pos bits in
    omega (arith, parts, next_start (a / 2 ^ bits) (2 ^ bits))

-- pages of the window have frames of their own
pub apart : (first count m p : ℕ) → m ≢ p → first ≤ m → m < first + count → first ≤ p → p < first + count → m % count ≢ p % count
apart first count m p ne ml mh pl ph same =
    let a : m / count * count + m % count ≡ m = div-add-mod' m count in
    let b : p / count * count + p % count ≡ p = div-add-mod' p count in
    elim (cases_lt (m / count) (p / count)) [
      | inl few ↦ (let more : (m / count + 1) * count ≤ p / count * count = mul-le (m / count + 1) count (p / count) count (omega arith) (omega arith) in
          absurd (omega (arith, more, next_start (m / count) count, a, b, same)))
      | inr many ↦ elim (cases_lt (p / count) (m / count)) [
        | inl few ↦ (let more : (p / count + 1) * count ≤ m / count * count = mul-le (p / count + 1) count (m / count) count (omega arith) (omega arith) in
            absurd (omega (arith, more, next_start (p / count) count, a, b, same)))
        | inr less ↦
            (let q : m / count ≡ p / count = omega arith in
            let base : m / count * count ≡ p / count * count = ap (λ (x : ℕ). x * count) q in
            absurd (ne (omega (arith, a, b, same, base))))
      ]
    ]

-- a record behind a page's end fits where that end lies a record's size below 2^48
no_next : (a e size : ℕ)
    → cond (nat_le (cond (nat_le (a + 2 * size) e) (a + size) e + size) (2 ^ 48)) (Some (cond (nat_le (a + 2 * size) e) (a + size) e)) None ≡ None
    → e + size ≤ 2 ^ 48 → ⊥
no_next a e size h k = grind (arith, nat_tests, h)

-- the page that a record's successor begins at the latest
pub tail_in : (bits size a : ℕ) → IsShape bits size → IsRecordStart bits size a → a < 2 ^ 48 → tail_after bits size a ≤ start_at bits (page_at bits a + 1)
tail_in bits size a s place below = by_next (place_after bits size a) refl
  where
    by_next : (o : Option ℕ) → place_after bits size a ≡ o → tail_after bits size a ≤ start_at bits (page_at bits a + 1)
    by_next (Some b) e = rw (after_some bits size a b e) (elim (next_way a (end_at bits a) size b e) [
      | inl way ↦ omega (arith, way.0, way.1, s.some)
      | inr end ↦ omega (arith, end)
    ])
    by_next None e =
        let p = page_sized bits size s in
        let parts = div-add-mod' a (2 ^ bits) in
        let fits = place_room bits size s a place in
        let some = s.some in
        let most = s.most in
        let whole : 2 ^ 48 ≡ 2 ^ (48 - bits) * 2 ^ bits = ap (λ (x : ℕ). 2 ^ x) (let high = s.high in let q : 48 ≡ 48 - bits + bits = omega arith in q) ∙ pow-add 2 (48 - bits) bits in
        let here : 2 ^ 48 ≤ start_at bits (page_at bits a + 1) = elim (cases_lt (page_at bits a + 1) (2 ^ (48 - bits))) [
          | inl less ↦
              (let up : (page_at bits a + 1 + 1) * 2 ^ bits ≤ 2 ^ (48 - bits) * 2 ^ bits = start_rises bits (page_at bits a + 1 + 1) (2 ^ (48 - bits)) (omega arith) in
              let two : (page_at bits a + 1 + 1) * 2 ^ bits ≡ start_at bits (page_at bits a + 1) + 2 ^ bits = next_start (page_at bits a + 1) (2 ^ bits) in
              absurd (no_next a (end_at bits a) size e (omega (arith, up, two, whole, p.low))))
          | inr more ↦ (let up = start_rises bits (2 ^ (48 - bits)) (page_at bits a + 1) more in omega (arith, up, whole))
        ] in
        rw (after_none bits size a e) here

-- ---- the page of a place in the text
pub page_in-high : (first n : ℕ) (receipts : List (Option Standing)) (ring : Ring) → first ≤ n → page_in first receipts ring n ≡ held ring n
page_in-high first n receipts ring h = let no : nat_lt n first ≡ false = grind (arith, nat_tests) in rw no refl

pub page_in-low : (first n : ℕ) (receipts : List (Option Standing)) (ring : Ring) (s : Standing) → n < first → receipt_at receipts n ≡ Some s → page_in first receipts ring n ≡ Some s.bytes
page_in-low first n receipts ring s h e = let yes : nat_lt n first ≡ true = grind (arith, nat_tests) in rw (yes, e) refl

-- other receipts, the same page
pub page_in-held : (first n : ℕ) (old new : List (Option Standing)) (ring : Ring) → receipt_at old n ≡ receipt_at new n → page_in first old ring n ≡ page_in first new ring n
page_in-held first n old new ring h = elim (cases_lt n first) [
  | inl low ↦ (let yes : nat_lt n first ≡ true = grind (arith, nat_tests) in rw (yes, h) refl)
  | inr high ↦ page_in-high first n old ring high ∙ sym (page_in-high first n new ring high)
]

-- other frames, the same pages
pub page_in-same : (first n : ℕ) (receipts : List (Option Standing)) (old new : Ring) → (first ≤ n → held new n ≡ held old n) → page_in first receipts new n ≡ page_in first receipts old n
page_in-same first n receipts old new h = elim (cases_lt n first) [
  | inl low ↦ (let yes : nat_lt n first ≡ true = grind (arith, nat_tests) in rw yes refl)
  | inr high ↦ page_in-high first n receipts new high ∙ h high ∙ sym (page_in-high first n receipts old high)
]

-- ---- bytes are put into a page of the window, which is opened before where it is new
pub record Puts (bits first tail p offset : ℕ) (bytes : List ℕ) (old new : Ring) : Type 0 where
  pub page : List ℕ
  pub sized : length page ≡ 2 ^ bits
  pub was : start_at bits p < tail → held old p ≡ Some page
  pub is : held new p ≡ Some (written_at page offset bytes)
  pub low : first ≤ p
  pub high : p < first + length old.slots
  pub others : (m : ℕ) → m ≢ p → first ≤ m → m < first + length old.slots → held new m ≡ held old m
  pub bits_same : new.bits ≡ old.bits
  pub count_same : length new.slots ≡ length old.slots

-- the bytes after a write, in either order of the appends
written : (new : Ring) (p offset : ℕ) (page bytes : List ℕ) (o : Option (List ℕ)) → o ≡ Some page → IfSome o (λ b. held new p ≡ Some (frame.written_at b offset bytes))
    → held new p ≡ Some (written_at page offset bytes)
written new p offset page bytes o e w =
    let x : held new p ≡ Some (frame.written_at page offset bytes) = subst (λ (y : Option (List ℕ)). IfSome y (λ b. held new p ≡ Some (frame.written_at b offset bytes))) e w in
    x ∙ ap Some (append_assoc (take offset page) bytes (drop (offset + length bytes) page))

-- into a page that is there
pub put_there : (bits first tail p offset : ℕ) (bytes : List ℕ) (old new : Ring) → (o : IsOpen bits old p) → first ≤ p → p < first + length old.slots → Writes p offset bytes old new
    → Puts bits first tail p offset bytes old new
put_there bits first tail p offset bytes old new o low high w = record {
  page = o.page;
  sized = o.sized;
  was = λ h. o.here;
  is = written new p offset o.page bytes (held old p) o.here w.written;
  low = low;
  high = high;
  others = λ m ne ml mh. w.others.others m (apart first (length old.slots) m p ne ml mh low high);
  bits_same = w.others.bits;
  count_same = w.others.count;
}

-- into a new page, of zeros
pub put_new : (bits first tail p offset : ℕ) (bytes : List ℕ) (old mid new : Ring) → old.bits ≡ bits → tail ≤ start_at bits p → first ≤ p → p < first + length old.slots → Opens p old mid → Writes p offset bytes mid new
    → Puts bits first tail p offset bytes old new
put_new bits first tail p offset bytes old mid new same begun low high o w =
    let count : length mid.slots ≡ length old.slots = o.others.count in
    record {
      page = replicate (2 ^ old.bits) 0;
      sized = length-replicate (2 ^ old.bits) 0 ∙ ap (λ (x : ℕ). 2 ^ x) same;
      was = λ h. absurd (omega arith);
      is = written new p offset (replicate (2 ^ old.bits) 0) bytes (held mid p) o.opened w.written;
      low = low;
      high = high;
      others = λ m ne ml mh.
          let far = apart first (length old.slots) m p ne ml mh low high in
          w.others.others m (rw count far) ∙ o.others.others m far;
      bits_same = w.others.bits ∙ o.others.bits;
      count_same = w.others.count ∙ count;
    }

-- a write at an address, whose page is opened before where it is new
pub wrote_there : (is_new : Bool) (page address : ℕ) (bytes : List ℕ) (old at new : Ring) → at ≡ old → page ≡ page_at old.bits address → is_new ≡ false
    → Writes (page_at at.bits address) (offset_at at.bits address) bytes at new → OpensAndWrites is_new page (offset_at old.bits address) bytes old new
wrote_there is_new page address bytes old at new e p same w =
    let there_at : Writes (page_at old.bits address) (offset_at old.bits address) bytes old new =
    subst (λ (r : Ring). Writes (page_at r.bits address) (offset_at r.bits address) bytes r new) e w in
    there same (subst (λ (n : ℕ). Writes n (offset_at old.bits address) bytes old new) (sym p) there_at)

pub wrote_made : (is_new : Bool) (page address : ℕ) (bytes : List ℕ) (old mid at new : Ring) → at ≡ mid → page ≡ page_at old.bits address → is_new ≡ true → Opens page old mid
    → Writes (page_at at.bits address) (offset_at at.bits address) bytes at new → OpensAndWrites is_new page (offset_at old.bits address) bytes old new
wrote_made is_new page address bytes old mid at new e p same o w =
    let at_mid : Writes (page_at mid.bits address) (offset_at mid.bits address) bytes mid new =
    subst (λ (r : Ring). Writes (page_at r.bits address) (offset_at r.bits address) bytes r new) e w in
    let by_old : Writes (page_at old.bits address) (offset_at old.bits address) bytes mid new =
    subst (λ (b : ℕ). Writes (page_at b address) (offset_at b address) bytes mid new) o.others.bits at_mid in
    made mid same o (subst (λ (n : ℕ). Writes n (offset_at old.bits address) bytes mid new) (sym p) by_old)

-- so bytes are put into the page of the tail: where it is not new it is there
pub put_at : (is_new : Bool) (bits closed tail offset : ℕ) (bytes : List ℕ) (old new : Ring) → IsRinged bits closed tail old → closed ≤ tail
    → (is_new ≡ true → tail ≤ start_at bits (page_at bits tail)) → (is_new ≡ false → start_at bits (page_at bits tail) < tail) → page_at bits tail < page_at bits closed + length old.slots
    → OpensAndWrites is_new (page_at bits tail) offset bytes old new → Puts bits (page_at bits closed) tail (page_at bits tail) offset bytes old new
put_at is_new bits closed tail offset bytes old new r le begins inside room (there same w) =
    let low = page_rises bits closed tail le in
    put_there bits (page_at bits closed) tail (page_at bits tail) offset bytes old new (r.there (page_at bits tail) low (inside same)) low room w
put_at is_new bits closed tail offset bytes old new r le begins inside room (made mid same o w) =
    put_new bits (page_at bits closed) tail (page_at bits tail) offset bytes old mid new r.bits_same (begins same) (page_rises bits closed tail le) room o w

-- a tail that begins a page, and one that does not
pub tail_begins : (bits tail : ℕ) → offset_at bits tail ≡ 0 → tail ≤ start_at bits (page_at bits tail)
tail_begins bits tail h = omega (arith, div-add-mod' tail (2 ^ bits))

pub tail_inside : (bits tail : ℕ) → offset_at bits tail ≢ 0 → start_at bits (page_at bits tail) < tail
tail_inside bits tail h = elim (cases_lt 0 (offset_at bits tail)) [
  | inl some ↦ omega (arith, some, div-add-mod' tail (2 ^ bits))
  | inr none ↦ absurd (h (omega arith))
]

pub wrote_count : (is_new : Bool) (page offset : ℕ) (bytes : List ℕ) (old new : Ring) → OpensAndWrites is_new page offset bytes old new → length new.slots ≡ length old.slots
wrote_count is_new page offset bytes old new (there same w) = w.others.count
wrote_count is_new page offset bytes old new (made mid same o w) = w.others.count ∙ o.others.count

-- the page of a page's start
pub page_start : (bits n : ℕ) → page_at bits (start_at bits n) ≡ n
page_start bits n =
    let low = page_high bits n (start_at bits n) (omega arith) in
    let more = next_start n (2 ^ bits) in
    let pos = pow_pos bits in
    let high = page_before bits (start_at bits n) (n + 1) (omega (arith, more, pos)) in
    omega arith

-- pages that are flushed are the same by their receipts as by their frames, where the device keeps
pub page_in-flushed : (base first n m : ℕ) (receipts : List (Option Standing)) (ring : Ring) → base ≤ m → first ≤ n → n ≤ length receipts
    → ((k : ℕ) → base ≤ k → k < length receipts → IsSome (receipt_at receipts k))
    → ((k : ℕ) (s : Standing) → first ≤ k → receipt_at receipts k ≡ Some s → held ring k ≡ Some s.bytes) → page_in n receipts ring m ≡ page_in first receipts ring m
page_in-flushed base first n m receipts ring begun le flushed some kept = elim (cases_lt m first) [
  | inl low ↦ (let a : nat_lt m first ≡ true = grind (arith, nat_tests) in let b : nat_lt m n ≡ true = grind (arith, nat_tests) in rw (a, b) refl)
  | inr high ↦ elim (cases_lt m n) [
    | inl below ↦ by_receipt (receipt_at receipts m) refl high below
    | inr above ↦ page_in-high n m receipts ring above ∙ sym (page_in-high first m receipts ring high)
  ]
]
  where
    by_receipt : (o : Option Standing) → receipt_at receipts m ≡ o → first ≤ m → m < n → page_in n receipts ring m ≡ page_in first receipts ring m
    by_receipt (Some s) e high below = page_in-low n m receipts ring s below e ∙ sym (kept m s high e) ∙ sym (page_in-high first m receipts ring high)
    by_receipt None e high below = absurd (let there : IsSome (receipt_at receipts m) = some m begun (omega arith) in let bad = rw e at there in cc)

-- ---- pages in their order
-- other frames, the same pages
pub pages_from-same : (old new : Ring) (n k : ℕ) → ((m : ℕ) → n ≤ m → m < n + k → held new m ≡ held old m) → pages_from new n k ≡ pages_from old n k
pages_from-same old new n zero h = refl
pages_from-same old new n (suc k) h =
    let head = h n (omega arith) (omega arith) in
    let rest = pages_from-same old new (n + 1) k (λ m low high. h m (omega arith) (omega arith)) in
    λ j. unwrap_or (head j) [] ∷ rest j

pub pages_from-length : (ring : Ring) (n k : ℕ) → length (pages_from ring n k) ≡ k
pages_from-length ring n zero = refl
pages_from-length ring n (suc k) = ap suc (pages_from-length ring (n + 1) k)

-- more pages
pub pages_from-more : (ring : Ring) (n k j : ℕ) → pages_from ring n (k + j) ≡ pages_from ring n k ++ pages_from ring (n + k) j
pages_from-more ring n zero j =
    let a : 0 + j ≡ j = omega arith in
    let b : n ≡ n + 0 = omega arith in
    ap (λ (k : ℕ). pages_from ring n k) a ∙ ap (λ (m : ℕ). pages_from ring m j) b
pages_from-more ring n (suc k) j =
    let c : suc k + j ≡ suc (k + j) = omega arith in
    let e : n + 1 + k ≡ n + suc k = omega arith in
    ap (λ (i : ℕ). pages_from ring n i) c
    ∙ ap (λ (l : List (List ℕ)). unwrap_or (held ring n) [] ∷ l) (pages_from-more ring (n + 1) k j ∙ ap (λ (m : ℕ). pages_from ring (n + 1) k ++ pages_from ring m j) e)

-- one of them
pub pages_from-get : (ring : Ring) (n k i : ℕ) (page : List ℕ) → slice_get (pages_from ring n k) i ≡ Some page → (i < k) × (unwrap_or (held ring (n + i)) [] ≡ page)
pages_from-get ring n zero i page g = absurd (cc)
pages_from-get ring n (suc k) zero page g =
    let same : unwrap_or (held ring n) [] ≡ page = cc in
    let e : n + 0 ≡ n = omega arith in
    (omega arith, ap (λ (m : ℕ). unwrap_or (held ring m) []) e ∙ same)
pages_from-get ring n (suc k) (suc i) page g =
    let r = pages_from-get ring (n + 1) k i page g in
    let low = r.0 in
    let e : n + suc i ≡ n + 1 + i = omega arith in
    (omega arith, ap (λ (m : ℕ). unwrap_or (held ring m) []) e ∙ r.1)

-- the lowest of them
pub pages_from-lowest : (ring : Ring) (n k : ℕ) (page : List ℕ) → 0 < k → held ring n ≡ Some page → pages_from ring n k ≡ page ∷ pages_from ring (n + 1) (k - 1)
pages_from-lowest ring n zero page some h = absurd (omega arith)
pages_from-lowest ring n (suc k) page some h =
    let e : suc k - 1 ≡ k = omega arith in
    rw (h, e) refl

-- there are none where they end before they begin
pub none_waits : (ring : Ring) (n m : ℕ) → m ≤ n → pages_from ring n (m - n) ≡ []
none_waits ring n m h = let e : m - n ≡ 0 = omega arith in ap (λ (k : ℕ). pages_from ring n k) e
