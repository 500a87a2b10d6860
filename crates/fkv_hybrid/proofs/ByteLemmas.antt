-- Texts by what spells them, and bytes written into pages.
use Rattle.std.proofs.Common.{◌≡◌, ◌+◌, ◌-◌, ◌^◌, ◌<◌, ◌≤◌, inl, inr, ℕ, List, ◌++◌, length, take, drop, Option, refl, sym, ◌∙◌, ap, arith, length-append, length-take, length-drop, append_assoc, Bool}
use Rattle.std.proofs.lemmas.List.{take-append-drop, take-append-le, drop-append-le, drop-drop, drop-take}
use Rattle.std.proofs.Math.Seq.{take-add, take-take}
use Rattle.std.proofs.lemmas.Slice.{drop-append-drop}
use Rattle.std.specs.Prelude.{slice_range, unwrap_or, IfSome, IsSome, IsTrue, OnErr, Result, Ok, Err}
use Rattle.std.specs.Coded.{Coded, Coded-set, coded_ℕ, coded_bool, coded_list, coded×, coded_option, code_by}
use mathlib.Core.Logic.{∥∥₁_elim}
use mathlib.Core.HLevel.{Σ_prop_path}
use Rattle.fkv_functions.specs.Codecs.{Codec}
use Rattle.fkv_records.specs.Places.{place_after}
use Rattle.fkv_records.specs.Records.{IsRecord, IsPrevious}
use Rattle.fkv_records.proofs.RecordLemmas.{part_at}
use Rattle.fkv_texts.specs.declared.entries.Entry.{Entry}
use Rattle.fkv_texts.specs.Places.{tail_after}
use Rattle.fkv_hybrid.specs.Spelled.{part_of, TheOne}

pub on_err : {T E : Type 0} (r : Result T E) {P : Type 0} → P → OnErr r P
on_err (Ok x) p = tt
on_err (Err e) p = p

-- the tail is the next place, or 2^48
pub tail_is : (bits size a : ℕ) (o : Option ℕ) (b : ℕ) → b ≡ unwrap_or o (2 ^ 48) → o ≡ place_after bits size a → b ≡ tail_after bits size a
tail_is bits size a o b e f = e ∙ ap (λ (x : Option ℕ). unwrap_or x (2 ^ 48)) f

-- a record that may stand at an address below 2^48
pub sound_record : {K V : Type 0} {ksize vsize : ℕ} (key : Codec K ksize) (value : Codec V vsize) (a p : ℕ) (k : K) (v : Option V) (d : Bool) → a < 2 ^ 48 → IsPrevious a p → key.is_known k → IfSome v value.is_known → (IsTrue d → IsSome v)
    → IsRecord key value a (record { previous = p; key = k; value = v; delta = d })
sound_record key value a p k v d below previous facts held whole =
    record { previous = previous; fits = elim previous [ inl one ↦ omega arith | inr low ↦ omega arith ]; key_known = facts; value_known = held; whole = whole }

-- ---- the one of which something holds
entry_code : {K V : Type 0} → Coded K → Coded V → Coded (Entry K V)
entry_code {K} {V} k v =
    code_by (ℕ × (ℕ × (K × (Option V × Bool)))) (coded× coded_ℕ (coded× coded_ℕ (coded× k (coded× (coded_option v) coded_bool))))
    (λ e. (e.address, (e.previous, (e.key, (e.value, e.delta))))) (λ p. record { address = p.0; previous = p.1.0; key = p.1.1.0; value = p.1.1.1.0; delta = p.1.1.1.1 }) (λ _. refl)

-- a value is the one where no other is
pub one_of : {A : Type 0} → Coded A → (P : A → Type 0) → ((a b : A) → P a → P b → a ≡ b) → (a : A) → P a → TheOne P
one_of {A} code P only a h =
    ((a, ∣ h ∣₁), λ x. Σ_prop_path (λ y. squash₁) (∥∥₁_elim x.1 (Coded-set code x.0 a) (λ k. only x.0 a k h)))

-- what is known of the one is known of it
pub one_is : {A : Type 0} (P : A → Type 0) (o : TheOne P) (a : A) → P a → a ≡ (o.0).0
one_is P o a h = ap (λ x. x.0) (o.1 (a, ∣ h ∣₁))

pub text_code : {K V : Type 0} → Coded K → Coded V → Coded (List (Entry K V))
text_code k v = coded_list (entry_code k v)

-- ---- bytes written over a part
abbrev pub written_at : List ℕ → ℕ → List ℕ → List ℕ
written_at page offset bytes = take offset page ++ (bytes ++ drop (offset + length bytes) page)

range-left : (a t : List ℕ) (i j : ℕ) → i ≤ j → j ≤ length a → slice_range (a ++ t) i j ≡ slice_range a i j
range-left a t i j low high =
    let short : j - i ≤ length (drop i a) = omega (arith, length-drop i a) in
    ap (λ x. take (j - i) x) (drop-append-le i a t (omega arith)) ∙ take-append-le (j - i) (drop i a) t short

module _ (page bytes : List ℕ) (offset : ℕ) (room : offset + length bytes ≤ length page) where
  front_length : length (take offset page) ≡ offset
  front_length = omega (arith, length-take offset page)

  pub written-length : length (written_at page offset bytes) ≡ length page
  written-length =
      omega (arith, front_length, length-append (take offset page) (bytes ++ drop (offset + length bytes) page), length-append bytes (drop (offset + length bytes) page), length-drop (offset + length bytes) page)

  -- the part itself, and a part that ends below it
  pub written-here : part_of (written_at page offset bytes) offset (length bytes) ≡ bytes
  written-here = part_at (take offset page) bytes (drop (offset + length bytes) page) offset (offset + length bytes) (sym front_length) (omega (arith, front_length))

  pub written-below : (at size : ℕ) → at + size ≤ offset → part_of (written_at page offset bytes) at size ≡ part_of page at size
  written-below at size low =
      range-left (take offset page) (bytes ++ drop (offset + length bytes) page) at (at + size) (omega arith) (omega (arith, front_length))
      ∙ sym (range-left (take offset page) (drop offset page) at (at + size) (omega arith) (omega (arith, front_length)))
      ∙ ap (λ x. part_of x at size) (take-append-drop offset page)

pub part-length : (page : List ℕ) (offset size : ℕ) → offset + size ≤ length page → length (part_of page offset size) ≡ size
part-length page offset size room = omega (arith, length-take (offset + size - offset) (drop offset page), length-drop offset page)

-- bytes written inside of a part: the whole part is written, with these in it
pub written-inside : (page bytes : List ℕ) (offset d e : ℕ) → offset + (d + length bytes + e) ≤ length page
    → written_at page (offset + d) bytes
    ≡ written_at page offset (take d (part_of page offset (d + length bytes + e)) ++ (bytes ++ drop (d + length bytes) (part_of page offset (d + length bytes + e))))
written-inside page bytes offset d e room =
    let n = length bytes in
    let rest : List ℕ = drop offset page in
    let part : part_of page offset (d + n + e) ≡ take (d + n + e) rest = ap (λ (k : ℕ). take k rest) (omega arith) in
    let front : take d (take (d + n + e) rest) ≡ take d rest = take-take d (d + n + e) rest (omega arith) in
    let back : drop (d + n) (take (d + n + e) rest) ≡ take e (drop (d + n) rest) = drop-take (d + n) e rest in
    let behind : drop (d + n) rest ≡ drop (offset + d + n) page = drop-drop (d + n) offset page ∙ ap (λ (k : ℕ). drop k page) (omega arith) in
    let inside : List ℕ = take d rest ++ (bytes ++ take e (drop (d + n) rest)) in
    let long : length (drop offset page) ≡ length page - offset = length-drop offset page in
    let sized : length inside ≡ d + n + e =
    omega (arith, long, length-append (take d rest) (bytes ++ take e (drop (d + n) rest)), length-append bytes (take e (drop (d + n) rest)), length-take d rest, length-take e (drop (d + n) rest), length-drop (d + n) rest) in
    let last : drop (offset + length inside) page ≡ drop e (drop (d + n) rest) =
    ap (λ (k : ℕ). drop k page) (omega (arith, sized)) ∙ sym (ap (drop e) behind ∙ drop-drop e (offset + d + n) page) in
    let whole : take e (drop (d + n) rest) ++ drop e (drop (d + n) rest) ≡ drop (offset + d + n) page = take-append-drop e (drop (d + n) rest) ∙ behind in
    rw (part, front, back)
    (rw (last, take-add offset d page)
    (append_assoc (take offset page) (take d rest) (bytes ++ drop (offset + d + n) page)
    ∙ ap (λ (x : List ℕ). take offset page ++ (take d rest ++ (bytes ++ x))) (sym whole)
    ∙ ap (λ (x : List ℕ). take offset page ++ (take d rest ++ x)) (sym (append_assoc bytes (take e (drop (d + n) rest)) (drop e (drop (d + n) rest))))
    ∙ ap (λ (x : List ℕ). take offset page ++ x) (sym (append_assoc (take d rest) (bytes ++ take e (drop (d + n) rest)) (drop e (drop (d + n) rest))))))

-- a part behind the bytes that are written stays
pub written-above : (page bytes : List ℕ) (offset at size : ℕ) → offset + length bytes ≤ length page → offset + length bytes ≤ at → part_of (written_at page offset bytes) at size ≡ part_of page at size
written-above page bytes offset at size room high =
    let front : length (take offset page) ≡ offset = omega (arith, length-take offset page) in
    let sized : length (take offset page ++ bytes) ≡ offset + length bytes = omega (arith, front, length-append (take offset page) bytes) in
    ap (λ (x : List ℕ). take (at + size - at) (drop at x)) (sym (append_assoc (take offset page) bytes (drop (offset + length bytes) page)))
    ∙ ap (λ (x : List ℕ). take (at + size - at) x) (drop-append-drop (offset + length bytes) page (take offset page ++ bytes) at high sized)
