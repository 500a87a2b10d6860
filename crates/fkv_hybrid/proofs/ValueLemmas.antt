-- A value's bytes, written alone: the record of which they are a part is edited.
use Rattle.std.proofs.Common.{◌≡◌, ◌+◌, ◌-◌, ◌^◌, ◌≤◌, ℕ, List, ◌++◌, length, take, drop, Option, None, Some, IsSome, refl, sym, ◌∙◌, ap, arith, append_assoc, length-append, length-take, length-drop}
use Rattle.std.specs.Prelude.{IfSome}
use Rattle.fkv_functions.specs.Codecs.{Codec}
use Rattle.fkv_records.specs.Places.{page_at, offset_at}
use Rattle.fkv_records.specs.Records.{size_of, with_value_part, Spells}
use Rattle.fkv_records.specs.declared.records.Record.{Record}
use Rattle.fkv_frames.specs.Ring.{Ring}
use Rattle.fkv_frames.specs.Held as frame
use Rattle.fkv_frames.specs.Held.{held, with_page, Writes}
use Rattle.fkv_hybrid.specs.Spelled.{part_of}
use Rattle.fkv_hybrid.specs.Pages.{IsEdited}
use Rattle.fkv_hybrid.proofs.ByteLemmas.{part-length, written-inside}

-- the same bytes of a page are written
written_whole : (page bytes : List ℕ) (offset ksize vsize : ℕ) → offset + size_of ksize vsize ≤ length page → length bytes ≡ vsize
    → frame.written_at page (offset + (8 + ksize)) bytes ≡ frame.written_at page offset (with_value_part ksize vsize (part_of page offset (size_of ksize vsize)) bytes)
written_whole page bytes offset ksize vsize room long =
    let size = size_of ksize vsize in
    let rest : ℕ = size - (8 + ksize + vsize) in
    let whole : 8 + ksize + length bytes + rest ≡ size = omega (arith, long) in
    let inside = written-inside page bytes offset (8 + ksize) rest (omega (arith, whole)) in
    let part : List ℕ = part_of page offset size in
    append_assoc (take (offset + (8 + ksize)) page) bytes (drop (offset + (8 + ksize) + length bytes) page)
    ∙ inside
    ∙ rw (whole, long) (sym (append_assoc (take offset page) (with_value_part ksize vsize part bytes) (drop (offset + length (with_value_part ksize vsize part bytes)) page)))

module _ {K V : Type 0} {ksize vsize : ℕ} (key : Codec K ksize) (value : Codec V vsize) where
  pub value_edited : (old new : Ring) (bits a page offset : ℕ) (bytes : List ℕ) (v : V)
      → page ≡ page_at bits a → offset ≡ offset_at bits a + (8 + ksize) → offset_at bits a + size_of ksize vsize ≤ 2 ^ bits
      → ((n : ℕ) → IfSome (held old n) (λ b. length b ≡ 2 ^ bits)) → length bytes ≡ vsize
      → ((b : List ℕ) (r : Record K V) → length b ≡ size_of ksize vsize → IsSome r.value → Spells key value b r
      → Spells key value (with_value_part ksize vsize b bytes) (record r { value = Some v }))
      → Writes page offset bytes old new
      → IfSome (held old (page_at bits a)) (IsEdited key value (λ r. IsSome r.value) (Some v) bits a old new)
  value_edited old new bits a page offset bytes v page_is offset_is fits sizes long spells w = by (held old (page_at bits a)) refl
    where
      by : (o : Option (List ℕ)) → held old (page_at bits a) ≡ o → IfSome o (IsEdited key value (λ r. IsSome r.value) (Some v) bits a old new)
      by None e = tt
      by (Some b) e =
          let size = size_of ksize vsize in
          let o = offset_at bits a in
          let n = page_at bits a in
          let sized : length b ≡ 2 ^ bits = rw e at (sizes n) in
          let part : List ℕ = part_of b o size in
          let part_sized : length part ≡ size = part-length b o size (omega (arith, sized)) in
          let all : List ℕ = with_value_part ksize vsize part bytes in
          let there : Writes n (o + (8 + ksize)) bytes old new = rw (page_is, offset_is) at w in
          let same : frame.written_at b (o + (8 + ksize)) bytes ≡ frame.written_at b o all = written_whole b bytes o ksize vsize (omega (arith, sized)) long in
          record {
            bytes = all;
            sized = omega (arith, part_sized, long, length-append (take (8 + ksize) part) (bytes ++ drop (8 + ksize + vsize) part), length-append bytes (drop (8 + ksize + vsize) part), length-take (8 + ksize) part, length-drop (8 + ksize + vsize) part);
            written = record {
              exact = rw e ((rw e at there.exact) ∙ ap (with_page old n) same);
              written = rw e ((rw e at there.written) ∙ ap Some same);
              others = there.others;
            };
            spells = λ r some s. spells part r part_sized some s;
          }
