-- A word that is found again at its place has stood there all the while.
use Rattle.std.proofs.Common.{◌≡◌, ◌<◌, ◌≤◌, ◌&&◌, inl, inr, false, IsTrue, ℕ, List, [], ◌∷◌, Option, Some, None, nat_le, refl, sym, ◌∙◌, ap, subst, arith}
use Rattle.std.proofs.lemmas.Bool.Decides.{nat_tests}
use Rattle.std.proofs.lemmas.Bool.{cases_lt}
use Rattle.std.specs.declared.cmp.Ordering.{Ordering}
use Rattle.fkv_texts.specs.declared.entries.Entry.{Entry}
use Rattle.fkv_texts.specs.Text.{has_key, last_of, newest, value_of, live}
use Rattle.fkv_texts.proofs.LastWhere.{last_where-none}
use Rattle.fkv_index.specs.Words.{address_of, is_final}
use Rattle.fkv_index.specs.Places.{word_at}
use Rattle.fkv_operations.specs.declared.classes.Class.{Class}
use Rattle.fkv_operations.specs.declared.entries.IndexEntry.{IndexEntry}
use Rattle.fkv_operations.specs.Still.{IsStill}
use Rattle.fkv_operations.specs.KeptWords.{IndexedText, IsFound, IsLed, LosesByCut, ReuseNoAddress, after_last}
use Rattle.fkv_operations.specs.KeptWords.LosesByCut.{dropped, passed}

-- what is still stays so while more is frozen
pub still-raised : {K V : Type 0} (a b : ℕ) (o : Option (Entry K V)) → a ≤ b → IsStill a o → IsStill b o
still-raised a b None up h = tt
still-raised a b (Some e) up (inl none) = inl none
still-raised a b (Some e) up (inr (inl part)) = inr (inl part)
still-raised a b (Some e) up (inr (inr low)) = inr (inr (omega arith))

module _ {K V : Type 0} (cmp : K → K → Ordering) (class : K → Class) where
  -- below Begin no key has a record
  none-below : (v : IndexedText K V) (k : K) (a : ℕ) → IsLed cmp class v → a < v.begin → newest cmp v.text k a ≡ None
  none-below v k a l low = last_where-none (λ e. nat_le e.address a && has_key cmp k e) v.text (λ i e h.
      let high : v.begin ≤ e.address = l.from i e h in
      let no : nat_le e.address a ≡ false = grind (arith, nat_tests) in
      rw no refl)

  -- what is lost of a key's last record was a tombstone
  cut-value : (v u : IndexedText K V) (k : K) (e : IndexEntry) → IsLed cmp class v → IsFound class v k e → LosesByCut cmp v u k (address_of e.word) → (newest cmp u.text k (address_of e.word) ≡ None) × (value_of (newest cmp v.text k (address_of e.word)) ≡ None)
  cut-value v u k e l found (dropped d was none gone) = (gone, ap value_of was ∙ none)
  cut-value v u k e l found (passed d was other) = absurd (other (sym (l.leads k e found) ∙ was))

  pub nowhere-none : (v : IndexedText K V) (k : K) (e : IndexEntry) → IsLed cmp class v → IsFound class v k e → address_of e.word < v.begin → last_of cmp v.text k ≡ None
  nowhere-none v k e l found low = sym (l.leads k e found) ∙ none-below v k (address_of e.word) l low

  module _ (k : K) (e : IndexEntry) (somewhere : 64 ≤ address_of e.word) where
    -- what stands after the events stood before
    stood : (v : IndexedText K V) (vs : List (IndexedText K V)) → ReuseNoAddress cmp class v vs → IsTrue (is_final e.word) → address_of e.word < v.tail → word_at (after_last v vs).words e.place ≡ e.word → word_at v.words e.place ≡ e.word
    stood v [] next final low here = here
    stood v (u ∷ us) (n, l, next) final low here =
        let up = n.tail in
        elim (n.words e.place e.word final (stood u us next final (omega arith) here)) [
          | inl was ↦ was
          | inr (inl none) ↦ absurd (omega arith)
          | inr (inr fresh) ↦ absurd (omega arith)
        ]

    -- the value of the key's newest record from where the entry leads
    stays : (v : IndexedText K V) (vs : List (IndexedText K V)) → IsLed cmp class v → ReuseNoAddress cmp class v vs → IsFound class v k e → IsStill v.frozen (newest cmp v.text k (address_of e.word)) → word_at (after_last v vs).words e.place ≡ e.word
        → value_of (newest cmp (after_last v vs).text k (address_of e.word)) ≡ value_of (newest cmp v.text k (address_of e.word))
    stays v [] l next found still here = refl
    stays v (u ∷ us) l (n, m, next) found still here =
        let low = l.low k e found in
        let up = n.tail in
        let there : word_at u.words e.place ≡ e.word = stood u us next found.final (omega arith) here in
        let again : IsFound class u k e = record { bucket = found.bucket; place = n.places e.place found.place; word = there; final = found.final; tag = found.tag } in
        elim (n.records k (address_of e.word) low still) [
          | inl same ↦ stays u us m next again (subst (IsStill u.frozen) (sym same) (still-raised v.frozen u.frozen (newest cmp v.text k (address_of e.word)) n.frozen still)) here ∙ ap value_of same
          | inr cut ↦ (let lost = cut-value v u k e l found cut in stays u us m next again (subst (IsStill u.frozen) (sym lost.0) tt) here ∙ ap value_of lost.0 ∙ sym lost.1)
        ]

  pub kept-sound : (v : IndexedText K V) (vs : List (IndexedText K V)) (k : K) (e : IndexEntry) → IsLed cmp class v → ReuseNoAddress cmp class v vs → IsFound class v k e → IsStill v.frozen (last_of cmp v.text k) → IsFound class (after_last v vs) k e → live cmp (after_last v vs).text k ≡ live cmp v.text k
  kept-sound v vs k e l next found still again = elim (cases_lt (address_of e.word) 64) [
    | inl none ↦ ap value_of (nowhere-none (after_last v vs) k e led again (let first = led.first in omega arith) ∙ sym (nowhere-none v k e l found (let first = l.first in omega arith)))
    | inr some ↦ ap value_of (sym (led.leads k e again))
        ∙ stays k e some v vs l next found (subst (IsStill v.frozen) (sym (l.leads k e found)) still) again.word
        ∙ ap value_of (l.leads k e found)
  ]
    where
      last-led : (u : IndexedText K V) (us : List (IndexedText K V)) → IsLed cmp class u → ReuseNoAddress cmp class u us → IsLed cmp class (after_last u us)
      last-led u [] m n = m
      last-led u (w ∷ ws) m (n, h, more) = last-led w ws h more

      led : IsLed cmp class (after_last v vs)
      led = last-led v vs l next
