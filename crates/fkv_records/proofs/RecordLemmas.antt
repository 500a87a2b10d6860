-- The parts of a record's bytes.
use Rattle.std.proofs.Common.{◌≡◌, ◌+◌, ◌-◌, ℕ, List, ◌++◌, Option, None, Some, length, take, drop, refl, sym, ◌∙◌, ap, arith, append_assoc, length-append, replicate}
use Rattle.std.proofs.Math.Seq.{take-append_seam, drop-append_seam}
use Rattle.std.proofs.lemmas.List.{take-append-drop}
use Rattle.std.proofs.lemmas.List.Folds.{drop_split}
use Rattle.std.specs.Prelude.{IfSome, slice_range, is_none, false}
use Rattle.fkv_functions.specs.Codecs.{Codec}
use Rattle.fkv_records.specs.Headers.{header_word, header_bytes}
use Rattle.fkv_records.proofs.HeaderLemmas.{length-word_bytes, same_header}
use Rattle.fkv_records.specs.Records.{padding_of, header_part, key_part, value_part, padding_part, value_bytes, record_bytes, IsRecord, Spells}
use Rattle.fkv_records.specs.declared.records.Record.{Record}

-- a part of parts that stand behind one another
pub part_at : (a b c : List ℕ) (i j : ℕ) → i ≡ length a → j ≡ length a + length b → slice_range (a ++ (b ++ c)) i j ≡ b
part_at a b c i j at end =
    let n : j - i ≡ length b = omega arith in
    rw (n, at, drop-append_seam a (b ++ c)) (take-append_seam b c)

pub rest_at : (a b : List ℕ) (i : ℕ) → i ≡ length a → drop i (a ++ b) ≡ b
rest_at a b i at = rw at (drop-append_seam a b)

-- four parts, each found in the whole
record Parts (whole h k v z : List ℕ) (ksize vsize : ℕ) : Type 0 where
  first : header_part whole ≡ h
  second : key_part ksize whole ≡ k
  third : value_part ksize vsize whole ≡ v
  last : padding_part ksize vsize whole ≡ z

parts : (h k v z : List ℕ) (ksize vsize : ℕ) → length h ≡ 8 → length k ≡ ksize → length v ≡ vsize → Parts (h ++ k ++ v ++ z) h k v z ksize vsize
parts h k v z ksize vsize hs ks vs =
    let two : length (h ++ k) ≡ 8 + ksize = omega (arith, length-append h k) in
    let three : length (h ++ k ++ v) ≡ 8 + ksize + vsize = omega (arith, two, length-append (h ++ k) v) in
    let regroup : h ++ k ++ v ++ z ≡ h ++ (k ++ (v ++ z)) = simp append_assoc in
    let regroup' : h ++ k ++ v ++ z ≡ (h ++ k) ++ (v ++ z) = simp append_assoc in
    record {
      first = rw (regroup, ← hs) (take-append_seam h (k ++ (v ++ z)));
      second = rw regroup (part_at h k (v ++ z) 8 (8 + ksize) (omega arith) (omega arith));
      third = rw regroup' (part_at (h ++ k) v z (8 + ksize) (8 + ksize + vsize) (omega arith) (omega arith));
      last = rest_at (h ++ k ++ v) z (8 + ksize + vsize) (omega arith);
    }

of_value : {V : Type 0} {size : ℕ} (value : Codec V size) (o : Option V) (x : List ℕ) → x ≡ value_bytes value o → IfSome o (λ v. x ≡ value.bytes_of v)
of_value value None x e = tt
of_value value (Some v) x e = e

-- the bytes that are written spell the record
pub spelled : {K V : Type 0} {ksize vsize : ℕ} (key : Codec K ksize) (value : Codec V vsize) (r : Record K V)
    → length (key.bytes_of r.key) ≡ ksize → length (value_bytes value r.value) ≡ vsize → Spells key value (record_bytes key value r) r
spelled {K} {V} {ksize} {vsize} key value r key_sized value_sized =
    let p = parts (header_bytes r.previous (is_none r.value) r.delta) (key.bytes_of r.key) (value_bytes value r.value) (replicate (padding_of ksize vsize) 0) ksize vsize
    (length-word_bytes (header_word r.previous (is_none r.value) r.delta)) key_sized value_sized in
    record { header = p.first; key_same = p.second; value_same = of_value value r.value _ p.third; padding = p.last }

regroup : (h k v z : List ℕ) → h ++ (k ++ (v ++ z)) ≡ h ++ k ++ v ++ z
regroup h k v z = simp append_assoc

-- bytes are their four parts
pub whole : (bytes h k z : List ℕ) (ksize vsize : ℕ) → header_part bytes ≡ h → key_part ksize bytes ≡ k → padding_part ksize vsize bytes ≡ z
    → bytes ≡ h ++ k ++ value_part ksize vsize bytes ++ z
whole bytes h k z ksize vsize hs ks zs =
    let behind_key : drop (8 + ksize) bytes ≡ value_part ksize vsize bytes ++ padding_part ksize vsize bytes = drop_split bytes (8 + ksize) (8 + ksize + vsize) (omega arith) in
    let behind_header : drop 8 bytes ≡ key_part ksize bytes ++ drop (8 + ksize) bytes = drop_split bytes 8 (8 + ksize) (omega arith) in
    let all : take 8 bytes ++ drop 8 bytes ≡ bytes = take-append-drop 8 bytes in
    let joined : bytes ≡ h ++ (k ++ (value_part ksize vsize bytes ++ z)) = cc in
    joined ∙ regroup h k (value_part ksize vsize bytes) z

-- bytes of a record differ in its value's place alone
pub same_bytes : {K V : Type 0} {ksize vsize : ℕ} (key : Codec K ksize) (value : Codec V vsize) (one other : List ℕ) (r : Record K V)
    → Spells key value one r → Spells key value other r → value_part ksize vsize one ≡ value_part ksize vsize other → one ≡ other
same_bytes {K} {V} {ksize} {vsize} key value one other r s t e =
    let a = whole one _ _ _ ksize vsize s.header s.key_same s.padding in
    let b = whole other _ _ _ ksize vsize t.header t.key_same t.padding in
    a ∙ ap (λ m. header_bytes r.previous (is_none r.value) r.delta ++ key.bytes_of r.key ++ m ++ replicate (padding_of ksize vsize) 0) e ∙ sym b

same_value : {V : Type 0} {size : ℕ} (value : Codec V size) (x : List ℕ) (o p : Option V) → is_none o ≡ is_none p
    → IfSome o value.is_known → IfSome p value.is_known → IfSome o (λ v. x ≡ value.bytes_of v) → IfSome p (λ v. x ≡ value.bytes_of v) → o ≡ p
same_value value x None None e h k s t = refl
same_value value x None (Some b) e h k s t = absurd (cc)
same_value value x (Some a) None e h k s t = absurd (cc)
same_value value x (Some a) (Some b) e h k s t = ap Some (value.readable a b h k (sym s ∙ t))

-- bytes spell one record at most, where the bytes of a key or a value are of one alone
pub same_record : {K V : Type 0} {ksize vsize : ℕ} (key : Codec K ksize) (value : Codec V vsize) (address : ℕ)
    (bytes : List ℕ) (r q : Record K V) → IsRecord key value address r → IsRecord key value address q
    → Spells key value bytes r → Spells key value bytes q → r ≡ q
same_record {K} {V} {ksize} {vsize} key value address bytes r q h k s t =
    let header = same_header (header_part bytes) (record { previous = r.previous; is_tombstone = is_none r.value; is_delta = r.delta })
    (record { previous = q.previous; is_tombstone = is_none q.value; is_delta = q.delta }) (record { fits = h.fits; same = s.header }) (record { fits = k.fits; same = t.header }) in
    let previous : r.previous ≡ q.previous = ap (λ x. x.previous) header in
    let keys : r.key ≡ q.key = key.readable r.key q.key h.key_known k.key_known (sym s.key_same ∙ t.key_same) in
    let values : r.value ≡ q.value = same_value value (value_part ksize vsize bytes) r.value q.value (ap (λ x. x.is_tombstone) header) h.value_known k.value_known s.value_same t.value_same in
    let deltas : r.delta ≡ q.delta = ap (λ x. x.is_delta) header in
    λ i. record { previous = previous i; key = keys i; value = values i; delta = deltas i }
