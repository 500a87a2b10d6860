-- Places by arithmetic: a run of next places from 64 comes to each address that stands in its page, and to no other.
use Rattle.std.proofs.Common.{◌≡◌, ◌+◌, ◌-◌, ◌*◌, ◌/◌, ◌%◌, ◌^◌, ◌<◌, ◌≤◌, ◌↔◌, ℕ, zero, suc, add-one, add-zero, arith, sym, ◌∙◌, ap, bit_and, nat_le, Some, None, cond, IsSomeAnd, ◌⊎◌, inl, inr}
use Rattle.std.proofs.Math.Pow.{pow_mono}
use Rattle.std.proofs.Math.Nat.{add-mod_right, zero-mod, add-mul, suc-mul}
use Rattle.std.proofs.lemmas.Nat.{and_mask, pow_pos, pow-add, div-add-mod', div-mul-add, mod-mul-add, shr_below, mod_below, mul-le}
use Rattle.std.proofs.lemmas.Bool.{cases_lt, cases_order}
use Rattle.std.proofs.lemmas.Bool.Decides.{nat_tests}
use Rattle.fkv_records.specs.Places.{IsShape, end_at, behind, place_after, first_offset, StandsInPage, IsRecordStart, first, next}

-- an offset by a mask
pub offset_masked : (address bits : ℕ) → bit_and address (2 ^ bits - 1) ≡ address % 2 ^ bits
offset_masked address bits = and_mask address bits

-- a page's size
pub record IsPageSize (page_size : ℕ) : Type 0 where
  pub low : 256 ≤ page_size
  pub high : page_size ≤ 2 ^ 20

pub page_sized : (bits size : ℕ) → IsShape bits size → IsPageSize (2 ^ bits)
page_sized bits size s = record { low = pow_mono {i = 8} {j = bits} s.low; high = pow_mono {i = bits} {j = 20} s.high }

-- one page more
pub next_start : (page p : ℕ) → (page + 1) * p ≡ page * p + p
next_start page p = add-mul page 1 p ∙ omega arith

-- the end of a page of an address below 2^48
pub end_fits : (bits size address : ℕ) → IsShape bits size → address < 2 ^ 48 → end_at bits address ≤ address + 2 ^ 20
end_fits bits size address s h =
    let p = page_sized bits size s in
    let parts : address / 2 ^ bits * 2 ^ bits + address % 2 ^ bits ≡ address = div-add-mod' address (2 ^ bits) in
    let more : (address / 2 ^ bits + 1) * 2 ^ bits ≡ address / 2 ^ bits * 2 ^ bits + 2 ^ bits = next_start (address / 2 ^ bits) (2 ^ bits) in
    omega (arith, p.high)

-- the next place by the end of the page
after_here : (a e size : ℕ) → a + 2 * size ≤ e → a + size + size ≤ 2 ^ 48
    → cond (nat_le (cond (nat_le (a + 2 * size) e) (a + size) e + size) (2 ^ 48)) (Some (cond (nat_le (a + 2 * size) e) (a + size) e)) None ≡ Some (a + size)
after_here a e size h k = grind (arith, nat_tests)

after_end : (a e size : ℕ) → e < a + 2 * size → e + size ≤ 2 ^ 48
    → cond (nat_le (cond (nat_le (a + 2 * size) e) (a + size) e + size) (2 ^ 48)) (Some (cond (nat_le (a + 2 * size) e) (a + size) e)) None ≡ Some e
after_end a e size h k = grind (arith, nat_tests)

after_fits : (b size : ℕ) → b + size ≤ 2 ^ 48 → cond (nat_le (b + size) (2 ^ 48)) (Some b) None ≡ Some b
after_fits b size h = grind (arith, nat_tests)

behind_way : (a e size : ℕ) → ((a + 2 * size ≤ e) × (cond (nat_le (a + 2 * size) e) (a + size) e ≡ a + size)) ⊎ ((e < a + 2 * size) × (cond (nat_le (a + 2 * size) e) (a + size) e ≡ e))
behind_way a e size = grind (arith, nat_tests)

record After (a e size b : ℕ) : Type 0 where
  way : ((a + 2 * size ≤ e) × (b ≡ a + size)) ⊎ ((e < a + 2 * size) × (b ≡ e))
  fits : b + size ≤ 2 ^ 48

after_way : (a e size b : ℕ)
    → cond (nat_le (cond (nat_le (a + 2 * size) e) (a + size) e + size) (2 ^ 48)) (Some (cond (nat_le (a + 2 * size) e) (a + size) e)) None ≡ Some b
    → After a e size b
after_way a e size b h = record { way = grind (arith, nat_tests, h); fits = grind (arith, nat_tests, h) }

-- the first place of a page other than page 0 stands at its start
first_later : (page : ℕ) → first_offset (page + 1) ≡ 0
first_later page = grind (arith, nat_tests)

first_most : (page : ℕ) → first_offset page ≤ 64
first_most page = grind (arith, nat_tests)

-- the first 64 bytes of a log hold no record
low_by_parts : (page offset p : ℕ) → 256 ≤ p → first_offset page ≤ offset → 64 ≤ page * p + offset
low_by_parts zero offset p h k = omega (arith, k)
low_by_parts (suc page) offset p h k = omega (arith, suc-mul page p)

-- of two whole numbers of records the greater is one record more, or greater still
whole_steps : (x y r : ℕ) → x % r ≡ 0 → y % r ≡ 0 → x < y → x + r ≤ y
whole_steps x y r h k less =
    let a : x / r * r + x % r ≡ x = div-add-mod' x r in
    let b : y / r * r + y % r ≡ y = div-add-mod' y r in
    elim (cases_lt (x / r) (y / r)) [
      | inl few ↦ let more : (x / r + 1) * r ≤ y / r * r = mul-le (x / r + 1) r (y / r) r (omega arith) (omega arith) in
          omega (arith, more, next_start (x / r) r, a, b)
      | inr many ↦ let back : y / r * r ≤ x / r * r = mul-le (y / r) r (x / r) r many (omega arith) in
          absurd (omega (arith, back, a, b))
    ]

module _ (bits size : ℕ) (s : IsShape bits size) where
  -- an address is its page and its offset
  parts_of : (a : ℕ) → a / 2 ^ bits * 2 ^ bits + a % 2 ^ bits ≡ a
  parts_of a = div-add-mod' a (2 ^ bits)

  -- a page with an address below 2^48 ends at or below 2^48
  page_below : (a : ℕ) → a < 2 ^ 48 → a / 2 ^ bits * 2 ^ bits + 2 ^ bits ≤ 2 ^ 48
  page_below a h =
      let high : bits ≤ 20 = s.high in
      let split : 48 - bits + bits ≡ 48 = omega arith in
      let whole : 2 ^ 48 ≡ 2 ^ (48 - bits) * 2 ^ bits = ap (λ k. 2 ^ k) (sym split) ∙ pow-add 2 (48 - bits) bits in
      let page : a / 2 ^ bits < 2 ^ (48 - bits) = shr_below a (48 - bits) bits (rw split h) in
      let more : (a / 2 ^ bits + 1) * 2 ^ bits ≡ a / 2 ^ bits * 2 ^ bits + 2 ^ bits = next_start (a / 2 ^ bits) (2 ^ bits) in
      let most : (a / 2 ^ bits + 1) * 2 ^ bits ≤ 2 ^ (48 - bits) * 2 ^ bits = mul-le (a / 2 ^ bits + 1) (2 ^ bits) (2 ^ (48 - bits)) (2 ^ bits) (omega arith) (omega arith) in
      omega (arith, more, most, whole)

  -- an address by its parts stands in its page
  stands_by_parts : (page offset : ℕ) → first_offset page ≤ offset → offset + size ≤ 2 ^ bits → (offset - first_offset page) % size ≡ 0
      → page * 2 ^ bits + offset < 2 ^ 48 → StandsInPage bits size (page * 2 ^ bits + offset)
  stands_by_parts page offset h room whole below =
      let inside : offset < 2 ^ bits = omega (arith, s.some) in
      let at : (page * 2 ^ bits + offset) / 2 ^ bits ≡ page = div-mul-add page (2 ^ bits) offset inside in
      let off : (page * 2 ^ bits + offset) % 2 ^ bits ≡ offset = mod-mul-add page (2 ^ bits) offset inside in
      record { first = rw (at, off) h; room = rw off room; whole = rw (at, off) whole; below = below }

  stands_first : StandsInPage bits size 64
  stands_first =
      let p = page_sized bits size s in
      let e : 0 * 2 ^ bits + 64 ≡ 64 = omega arith in
      rw (← e) (stands_by_parts 0 64 (omega arith) (omega (arith, p.low, s.most)) (zero-mod size) (omega arith))

  -- the next place of one that stands in its page stands in its page
  stands_next : (a b : ℕ) → StandsInPage bits size a → place_after bits size a ≡ Some b → StandsInPage bits size b
  stands_next a b h e =
      let t = after_way a (end_at bits a) size b e in
      let parts : a / 2 ^ bits * 2 ^ bits + a % 2 ^ bits ≡ a = parts_of a in
      let more : end_at bits a ≡ a / 2 ^ bits * 2 ^ bits + 2 ^ bits = next_start (a / 2 ^ bits) (2 ^ bits) in
      elim t.way [
        | inl way ↦
            let b_parts : a / 2 ^ bits * 2 ^ bits + (a % 2 ^ bits + size) ≡ b = omega (arith, way.1, parts) in
            let room : a % 2 ^ bits + size + size ≤ 2 ^ bits = omega (arith, way.0, parts, more) in
            let step : a % 2 ^ bits + size - first_offset (a / 2 ^ bits) ≡ a % 2 ^ bits - first_offset (a / 2 ^ bits) + size = omega (arith, h.first) in
            let whole : (a % 2 ^ bits + size - first_offset (a / 2 ^ bits)) % size ≡ 0 = rw (step, add-mod_right (a % 2 ^ bits - first_offset (a / 2 ^ bits)) size) h.whole in
            rw (← b_parts) (stands_by_parts (a / 2 ^ bits) (a % 2 ^ bits + size) (omega (arith, h.first)) room whole (omega (arith, b_parts, t.fits, s.some)))
        | inr way ↦
            let b_parts : (a / 2 ^ bits + 1) * 2 ^ bits + 0 ≡ b = omega (arith, way.1) in
            let p = page_sized bits size s in
            let at_start : first_offset (a / 2 ^ bits + 1) ≡ 0 = first_later (a / 2 ^ bits) in
            rw (← b_parts) (stands_by_parts (a / 2 ^ bits + 1) 0 (omega (arith, at_start)) (omega (arith, p.low, s.most)) (rw at_start (zero-mod size)) (omega (arith, b_parts, t.fits, s.some)))
      ]

  stands_of_place : (a : ℕ) → IsRecordStart bits size a → StandsInPage bits size a
  stands_of_place a first = stands_first
  stands_of_place b (next {a} p e) = stands_next a b (stands_of_place a p) e

  -- from the first place of a page, so many records on
  later_place : (page i : ℕ) → IsRecordStart bits size (page * 2 ^ bits + first_offset page) → first_offset page + i * size + size ≤ 2 ^ bits
      → page * 2 ^ bits + 2 ^ bits ≤ 2 ^ 48 → IsRecordStart bits size (page * 2 ^ bits + (first_offset page + i * size))
  later_place page zero p room below = let e : first_offset page + 0 * size ≡ first_offset page = omega arith in rw e p
  later_place page (suc i) p room below =
      let more : suc i * size ≡ i * size + size = suc-mul i size in
      let here : ℕ = first_offset page + i * size in
      let inside : here < 2 ^ bits = omega (arith, room, more, s.some) in
      let at : (page * 2 ^ bits + here) / 2 ^ bits ≡ page = div-mul-add page (2 ^ bits) here inside in
      let end : end_at bits (page * 2 ^ bits + here) ≡ page * 2 ^ bits + 2 ^ bits = rw at (next_start page (2 ^ bits)) in
      let there : page * 2 ^ bits + here + size ≡ page * 2 ^ bits + (first_offset page + suc i * size) = omega (arith, more) in
      let before = later_place page i p (omega (arith, room, more)) below in
      rw (← there) (next before (after_here (page * 2 ^ bits + here) (end_at bits (page * 2 ^ bits + here)) size (omega (arith, end, room, more)) (omega (arith, room, more, below))))

  -- the first place of a page is a place
  first_place : (page : ℕ) → page * 2 ^ bits + 2 ^ bits ≤ 2 ^ 48 → IsRecordStart bits size (page * 2 ^ bits + first_offset page)
  first_place zero h = let e : 0 * 2 ^ bits + 64 ≡ 64 = omega arith in rw e first
  first_place (suc page) h =
      let p = page_sized bits size s in
      let most = first_most page in
      let more : suc page * 2 ^ bits ≡ page * 2 ^ bits + 2 ^ bits = suc-mul page (2 ^ bits) in
      let below : page * 2 ^ bits + 2 ^ bits ≤ 2 ^ 48 = omega (arith, h, more) in
      let rest : ℕ = 2 ^ bits - first_offset page - size in
      let split : rest / size * size + rest % size ≡ rest = div-add-mod' rest size in
      let little : rest % size < size = mod_below rest size (omega (arith, s.some)) in
      let last : ℕ = first_offset page + rest / size * size in
      let inside : last < 2 ^ bits = omega (arith, split, most, p.low, s.most, s.some) in
      let at : (page * 2 ^ bits + last) / 2 ^ bits ≡ page = div-mul-add page (2 ^ bits) last inside in
      let end : end_at bits (page * 2 ^ bits + last) ≡ page * 2 ^ bits + 2 ^ bits = rw at (next_start page (2 ^ bits)) in
      let before = later_place page (rest / size) (first_place page below) (omega (arith, split, most, p.low, s.most)) below in
      let at_start : first_offset (suc page) ≡ 0 = rw add-one at (first_later page) in
      let there : end_at bits (page * 2 ^ bits + last) ≡ suc page * 2 ^ bits + first_offset (suc page) = omega (arith, end, more, at_start) in
      rw (← there) (next before (after_end (page * 2 ^ bits + last) (end_at bits (page * 2 ^ bits + last)) size (omega (arith, end, split, little)) (omega (arith, end, h, more, p.low, s.most))))

  place_of_stands : (a : ℕ) → StandsInPage bits size a → IsRecordStart bits size a
  place_of_stands a h =
      let rest : ℕ = a % 2 ^ bits - first_offset (a / 2 ^ bits) in
      let split : rest / size * size + rest % size ≡ rest = div-add-mod' rest size in
      let below = page_below a h.below in
      let e : a / 2 ^ bits * 2 ^ bits + (first_offset (a / 2 ^ bits) + rest / size * size) ≡ a = omega (arith, split, h.whole, h.first, parts_of a) in
      rw (← e) (later_place (a / 2 ^ bits) (rest / size) (first_place (a / 2 ^ bits) below) (omega (arith, split, h.whole, h.first, h.room)) below)

  -- a place is what stands in its page
  pub places : (a : ℕ) → StandsInPage bits size a ↔ IsRecordStart bits size a
  places a = (place_of_stands a, stands_of_place a)

  pub place_room : (a : ℕ) → IsRecordStart bits size a → a % 2 ^ bits + size ≤ 2 ^ bits
  place_room a p = (stands_of_place a p).room

  -- a place stands at or above 64, and its record ends in its page and at or below 2^48
  pub place_low : (a : ℕ) → IsRecordStart bits size a → 64 ≤ a
  place_low a p =
      let h = stands_of_place a p in
      let w = page_sized bits size s in
      omega (arith, low_by_parts (a / 2 ^ bits) (a % 2 ^ bits) (2 ^ bits) w.low h.first, parts_of a)

  pub place_fits : (a : ℕ) → IsRecordStart bits size a → a + size ≤ end_at bits a
  place_fits a p =
      let h = stands_of_place a p in
      let more : end_at bits a ≡ a / 2 ^ bits * 2 ^ bits + 2 ^ bits = next_start (a / 2 ^ bits) (2 ^ bits) in
      omega (arith, more, parts_of a, h.room)

  pub place_ends : (a : ℕ) → IsRecordStart bits size a → a + size ≤ 2 ^ 48
  place_ends a p =
      let h = stands_of_place a p in
      omega (arith, page_below a h.below, parts_of a, h.room)

  -- the next place is above any address
  pub after_above : (a b : ℕ) → place_after bits size a ≡ Some b → a < b
  after_above a b e =
      let t = after_way a (end_at bits a) size b e in
      let more : end_at bits a ≡ a / 2 ^ bits * 2 ^ bits + 2 ^ bits = next_start (a / 2 ^ bits) (2 ^ bits) in
      let little : a % 2 ^ bits < 2 ^ bits = mod_below a (2 ^ bits) (pow_pos bits) in
      elim t.way [ inl way ↦ omega (arith, way.1, s.some) | inr way ↦ omega (arith, way.1, more, little, parts_of a) ]

  -- places rise: the next one stands behind the record
  pub place_rises : (a b : ℕ) → IsRecordStart bits size a → place_after bits size a ≡ Some b → a + size ≤ b
  place_rises a b p e =
      let t = after_way a (end_at bits a) size b e in
      let fits = place_fits a p in
      elim t.way [ inl way ↦ omega (arith, way.1) | inr way ↦ omega (arith, way.1, fits) ]

  -- no place stands between a place and what is behind its record
  behind_least : (a b : ℕ) → IsRecordStart bits size a → IsRecordStart bits size b → a < b → behind bits size a ≤ b
  behind_least a b p q less =
      let way = behind_way a (end_at bits a) size in
      let h = stands_of_place a p in
      let k = stands_of_place b q in
      let fits = place_fits a p in
      let more : end_at bits a ≡ a / 2 ^ bits * 2 ^ bits + 2 ^ bits = next_start (a / 2 ^ bits) (2 ^ bits) in
      elim (cases_order (a / 2 ^ bits) (b / 2 ^ bits)) [
        | inl same ↦
            let bases : a / 2 ^ bits * 2 ^ bits ≡ b / 2 ^ bits * 2 ^ bits = ap (λ n. n * 2 ^ bits) same in
            let firsts : first_offset (a / 2 ^ bits) ≡ first_offset (b / 2 ^ bits) = ap first_offset same in
            let on : a % 2 ^ bits < b % 2 ^ bits = omega (arith, bases, parts_of a, parts_of b) in
            let steps : a % 2 ^ bits - first_offset (b / 2 ^ bits) + size ≤ b % 2 ^ bits - first_offset (b / 2 ^ bits) =
            whole_steps (a % 2 ^ bits - first_offset (b / 2 ^ bits)) (b % 2 ^ bits - first_offset (b / 2 ^ bits)) size (rw firsts at h.whole) k.whole (omega (arith, on, firsts, h.first)) in
            let apart : a % 2 ^ bits + size ≤ b % 2 ^ bits = omega (arith, steps, firsts, h.first, k.first) in
            elim way [
              | inl w ↦ omega (arith, w.1, apart, bases, parts_of a, parts_of b)
              | inr w ↦ absurd (omega (arith, w.0, more, apart, k.room, bases, parts_of a, parts_of b))
            ]
        | inr (inl before) ↦
            let pages : (a / 2 ^ bits + 1) * 2 ^ bits ≤ b / 2 ^ bits * 2 ^ bits = mul-le (a / 2 ^ bits + 1) (2 ^ bits) (b / 2 ^ bits) (2 ^ bits) (omega arith) (omega arith) in
            elim way [ inl w ↦ omega (arith, w.1, fits, pages, parts_of b) | inr w ↦ omega (arith, w.1, pages, parts_of b) ]
        | inr (inr behind) ↦
            let pages : (b / 2 ^ bits + 1) * 2 ^ bits ≤ a / 2 ^ bits * 2 ^ bits = mul-le (b / 2 ^ bits + 1) (2 ^ bits) (a / 2 ^ bits) (2 ^ bits) (omega arith) (omega arith) in
            absurd (omega (arith, pages, next_start (b / 2 ^ bits) (2 ^ bits), parts_of a, parts_of b, k.room, s.some))
      ]

  -- the next place is the nearest above, and there is one where a place stands above
  pub place_nearest : (a b : ℕ) → IsRecordStart bits size a → IsRecordStart bits size b → a < b → IsSomeAnd (place_after bits size a) (λ c. c ≤ b)
  place_nearest a b p q less =
      let least = behind_least a b p q less in
      let e : place_after bits size a ≡ Some (behind bits size a) = after_fits (behind bits size a) size (omega (arith, least, place_ends b q)) in
      rw e least

  -- each page but page 0 starts with a place
  pub start_place : (page : ℕ) → 1 ≤ page → page * 2 ^ bits < 2 ^ 48 → IsRecordStart bits size (page * 2 ^ bits)
  start_place zero h below = absurd (omega arith)
  start_place (suc page) h below =
      let at : suc page * 2 ^ bits / 2 ^ bits ≡ suc page = rw add-zero at (div-mul-add (suc page) (2 ^ bits) 0 (pow_pos bits)) in
      let fits : suc page * 2 ^ bits + 2 ^ bits ≤ 2 ^ 48 = rw at at (page_below (suc page * 2 ^ bits) below) in
      let first_at : first_offset (suc page) ≡ 0 = rw add-one at (first_later page) in
      let here : suc page * 2 ^ bits + first_offset (suc page) ≡ suc page * 2 ^ bits = omega (arith, first_at) in
      rw (← here) (first_place (suc page) fits)
