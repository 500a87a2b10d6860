-- What a change of a record's bytes leaves of its parts.
use Rattle.std.proofs.Common.{◌≡◌, ◌+◌, ◌-◌, ◌≤◌, ◌<◌, ◌^◌, ℕ, List, ◌++◌, Option, None, Some, IsSome, length, take, drop, refl, sym, ◌∙◌, ap, arith, append_assoc, length-append, length-take, length-drop, bit_or, slice_set, true, false}
use Rattle.std.proofs.lemmas.List.{take-append-drop, take-append-le, drop-drop, drop-set-lt, get_or-take}
use Rattle.std.proofs.Math.Seq.{take-set-lt}
use Rattle.std.specs.Prelude.{is_none, slice_index}
use Rattle.fkv_functions.specs.Codecs.{Codec}
use Rattle.fkv_records.specs.Headers.{header_bytes}
use Rattle.fkv_records.specs.Records.{header_part, key_part, padding_part, Spells}
use Rattle.fkv_records.specs.declared.records.Record.{Record}
use Rattle.fkv_records.proofs.HeaderLemmas.{tombstone_bytes}
use Rattle.fkv_records.proofs.RecordLemmas.{part_at, rest_at}

no_tombstone : {V : Type 0} (o : Option V) → IsSome o → is_none o ≡ false
no_tombstone None h = absurd (cc)
no_tombstone (Some v) h = refl

-- the front of some bytes has the header and the key
front_header : (front t : List ℕ) (ksize : ℕ) → length front ≡ 8 + ksize → header_part (front ++ t) ≡ take 8 front
front_header front t ksize size = take-append-le 8 front t (omega arith)

front_key : (front t : List ℕ) (ksize : ℕ) → length front ≡ 8 + ksize → key_part ksize (front ++ t) ≡ drop 8 front
front_key front t ksize size =
    let a : length (take 8 front) ≡ 8 = omega (arith, length-take 8 front) in
    let b : length (drop 8 front) ≡ ksize = omega (arith, length-drop 8 front) in
    let whole : take 8 front ++ drop 8 front ≡ front = take-append-drop 8 front in
    let apart : front ++ t ≡ take 8 front ++ (drop 8 front ++ t) = ap (λ x. x ++ t) (sym whole) ∙ append_assoc (take 8 front) (drop 8 front) t in
    ap (key_part ksize) apart ∙ part_at (take 8 front) (drop 8 front) t 8 (8 + ksize) (omega arith) (omega arith)

-- other bytes of a value
pub value_written : {K V : Type 0} {ksize vsize : ℕ} (key : Codec K ksize) (value : Codec V vsize) (bytes : List ℕ) (r : Record K V) (v : V)
    → 8 + ksize + vsize ≤ length bytes → length (value.bytes_of v) ≡ vsize → IsSome r.value → Spells key value bytes r
    → Spells key value (take (8 + ksize) bytes ++ (value.bytes_of v ++ drop (8 + ksize + vsize) bytes)) (record r { value = Some v })
value_written {K} {V} {ksize} {vsize} key value bytes r v room sized some s =
    let front : List ℕ = take (8 + ksize) bytes in
    let size : length front ≡ 8 + ksize = omega (arith, length-take (8 + ksize) bytes) in
    let whole : front ++ drop (8 + ksize) bytes ≡ bytes = take-append-drop (8 + ksize) bytes in
    let rest : List ℕ = value.bytes_of v ++ drop (8 + ksize + vsize) bytes in
    let header : header_part (front ++ rest) ≡ header_part bytes =
    front_header front rest ksize size ∙ sym (front_header front (drop (8 + ksize) bytes) ksize size) ∙ ap header_part whole in
    let key_kept : key_part ksize (front ++ rest) ≡ key_part ksize bytes =
    front_key front rest ksize size ∙ sym (front_key front (drop (8 + ksize) bytes) ksize size) ∙ ap (key_part ksize) whole in
    let two : length (front ++ value.bytes_of v) ≡ 8 + ksize + vsize = omega (arith, length-append front (value.bytes_of v)) in
    let apart : front ++ rest ≡ (front ++ value.bytes_of v) ++ drop (8 + ksize + vsize) bytes = sym (append_assoc front (value.bytes_of v) (drop (8 + ksize + vsize) bytes)) in
    record {
      header = header ∙ s.header ∙ ap (λ t. header_bytes r.previous t r.delta) (no_tombstone r.value some);
      key_same = key_kept ∙ s.key_same;
      value_same = part_at front (value.bytes_of v) (drop (8 + ksize + vsize) bytes) (8 + ksize) (8 + ksize + vsize) (omega arith) (omega arith);
      padding = ap (padding_part ksize vsize) apart ∙ rest_at (front ++ value.bytes_of v) (drop (8 + ksize + vsize) bytes) (8 + ksize + vsize) (omega arith) ∙ s.padding;
    }

-- the parts behind the header are those of what is behind it
same_behind : (one other : List ℕ) (ksize vsize : ℕ) → drop 8 one ≡ drop 8 other → padding_part ksize vsize one ≡ padding_part ksize vsize other
same_behind one other ksize vsize e =
    let sum : 8 + (ksize + vsize) ≡ 8 + ksize + vsize = omega arith in
    let split : (x : List ℕ) → drop (8 + ksize + vsize) x ≡ drop (ksize + vsize) (drop 8 x) = λ x. rw (← sum) (sym (drop-drop (ksize + vsize) 8 x)) in
    split one ∙ ap (drop (ksize + vsize)) e ∙ sym (split other)

-- the tombstone bit
pub tombstone_set : {K V : Type 0} {ksize vsize : ℕ} (key : Codec K ksize) (value : Codec V vsize) (bytes : List ℕ) (r : Record K V)
    → r.delta ≡ false → r.previous < 2 ^ 48 → Spells key value bytes r
    → Spells key value (slice_set bytes 6 (bit_or (slice_index bytes 6) 1)) (record r { value = None })
tombstone_set {K} {V} {ksize} {vsize} key value bytes r no_delta fits s =
    let now : List ℕ = slice_set bytes 6 (bit_or (slice_index bytes 6) 1) in
    let behind : drop 8 now ≡ drop 8 bytes = drop-set-lt 8 bytes 6 (bit_or (slice_index bytes 6) 1) (omega arith) in
    let flag : slice_index (take 8 bytes) 6 ≡ slice_index bytes 6 = get_or-take 8 bytes 6 0 (omega arith) in
    let front : take 8 now ≡ slice_set (take 8 bytes) 6 (bit_or (slice_index bytes 6) 1) = take-set-lt 8 bytes 6 (bit_or (slice_index bytes 6) 1) (omega arith) in
    let set : slice_set (take 8 bytes) 6 (bit_or (slice_index (take 8 bytes) 6) 1) ≡ header_bytes r.previous true r.delta =
    ap (λ (x : List ℕ). slice_set x 6 (bit_or (slice_index x 6) 1)) (rw no_delta at s.header) ∙ rw no_delta (tombstone_bytes r.previous (is_none r.value) fits) in
    record {
      header = front ∙ ap (λ x. slice_set (take 8 bytes) 6 (bit_or x 1)) (sym flag) ∙ set;
      key_same = ap (take (8 + ksize - 8)) behind ∙ s.key_same;
      value_same = tt;
      padding = same_behind now bytes ksize vsize behind ∙ s.padding;
    }
