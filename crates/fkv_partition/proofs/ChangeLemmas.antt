-- What each change of records and of one context keeps of a partition.
use Rattle.std.proofs.Common.{◌≡◌, true, false, ℕ, ◌+◌, ◌*◌, ◌<◌, Bool, inl, inr, IsTrue, List, Some, None, refl, sym, ◌∙◌, ap, subst, arith}
use Rattle.std.specs.Bool.{OnTrue, OnFalse}
use Rattle.std.proofs.lemmas.Bool.{OnTrue_at, OnFalse_at}
use Rattle.std.specs.declared.cmp.Ordering.{Ordering}
use Rattle.fkv_texts.specs.Text.{entry_at, newest}
use Rattle.fkv_index.specs.declared.words.Place.{Place}
use Rattle.fkv_index.specs.declared.words.Word.{Word}
use Rattle.fkv_index.specs.Words.{empty, final_word, tentative_word, address_of, tag_of, is_tentative, is_final}
use Rattle.fkv_index.specs.Places.{word_at, IsPlace}
use Rattle.fkv_index.proofs.WordFacts.{final_not_tentative, empty_not_tentative, made-address}
use Rattle.fkv_index.proofs.Written.{place_of-word, written_there}
use Rattle.fkv_operations.specs.After.{key_of}
use Rattle.fkv_lookups.specs.RecordsViews.{RecordsView, class_in, Claims, confirmed, released}
use Rattle.fkv_lookups.specs.RecordsViews.{ChangesAt}
use Rattle.fkv_lookups.specs.Traced.{IsTraced, IsResolved}
use Rattle.fkv_texts.specs.Chains.{IsIn}
use Rattle.fkv_operations.specs.declared.classes.Class.{Class}
use Rattle.fkv_partition.specs.declared.contexts.Context.{Context}
use Rattle.fkv_partition.specs.declared.contexts.OpenWork.TheVariants.{OnKey}
use Rattle.fkv_partition.specs.declared.contexts.Phase.TheVariants.{Fresh, Confirm}
use Rattle.fkv_partition.specs.Contexts.{joined, at_phase, claim_by, claim_of, claim_at}
use Rattle.fkv_partition.specs.Claiming.{IsClaimOf}
use Rattle.fkv_partition.specs.Views.{PartitionView, slots_of, context_at, with_context}
use Rattle.fkv_partition.specs.KeySound.{IsSound}
use Rattle.fkv_partition.proofs.AskedLemmas.{key_at}
use Rattle.fkv_partition.proofs.EventLemmas.{own-at}
use Rattle.fkv_partition.proofs.ClaimLemmas.{place-or}
use Rattle.fkv_partition.proofs.GrownLemmas.{Grows}
use Rattle.fkv_partition.proofs.SoundLemmas.{Fits, sound-claimed, sound-settled}

-- records whose words alone have changed
abbrev pub IsReworded : {K V : Type 0} → RecordsView K V → RecordsView K V → Type 0
IsReworded old new = new ≡ record old { words = new.words }

-- a word that is no final one, or leads nowhere
abbrev pub IsMade : Word → Type 0
IsMade w = IsTrue (is_final w) → address_of w < 64

pub grown-words : {K V : Type 0} (keeps : Bool) (cmp : K → K → Ordering) (join : V → V → V) (code : K → ℕ) (q : Place) (old new : RecordsView K V) → IsReworded old new → ChangesAt q old.words new.words → IsMade (word_at new.words q) → Grows keeps cmp join code old new
grown-words keeps cmp join code q old new is words made = record {
  class = λ k. ap (λ (r : RecordsView _ _). class_in code r k) is;
  tail = (let same : new.log.tail ≡ old.log.tail = ap (λ (r : RecordsView _ _). r.log.tail) is in omega arith);
  safe = (let same : new.log.regions.offsets.safe_read_only ≡ old.log.regions.offsets.safe_read_only = ap (λ (r : RecordsView _ _). r.log.regions.offsets.safe_read_only) is in omega arith);
  head = (let same : new.log.regions.offsets.head ≡ old.log.regions.offsets.head = ap (λ (r : RecordsView _ _). r.log.regions.offsets.head) is in omega arith);
  begin = ap (λ (r : RecordsView _ _). r.log.begin) is;
  from = (let same : new.log.from ≡ old.log.from = ap (λ (r : RecordsView _ _). r.log.from) is in omega arith);
  kept = λ keeps k a h still. ap (λ (r : RecordsView _ _). newest cmp r.text k a) is;
  was = λ e m low. (e, subst (λ (r : RecordsView _ _). IsIn r.log.text e) is m, refl, refl, refl);
  same_class = λ k a low begun o. record {
    entry = o.entry;
    here = ap (λ (r : RecordsView _ _). entry_at r.log.text a) is ∙ o.here;
    class = ap (λ (r : RecordsView _ _). class_in code r o.entry.key) is ∙ o.class ∙ sym (ap (λ (r : RecordsView _ _). class_in code r k) is);
  };
  places = words.places;
  held = λ p w final low h. elim (place-or p q) [
    | inl here ↦
        (let same : word_at new.words q ≡ w = ap (word_at new.words) (sym here) ∙ h in
        inr (subst (λ u. address_of u < 64) same (made (ap is_final same ∙ final))))
    | inr other ↦ inl (sym (words.others p other) ∙ h)
  ];
}

-- a word that was just made or confirmed, or is emptied
pub tentative-made : (w : Word) → IsTrue (is_tentative w) → IsMade w
tentative-made w is final = absurd (let no = sym (final_not_tentative w final) ∙ is in cc)

empty-made : IsMade empty
unfolding is_final
empty-made final = absurd (cc)

pub tentative-place : (words : List (List Word)) (q : Place) → IsTrue (is_tentative (word_at words q)) → IsPlace words q
tentative-place words q is = place_of-word is_tentative words q empty_not_tentative is

module _ {K V : Type 0} (old new : RecordsView K V) (q : Place) (is : IsTrue (is_tentative (word_at old.words q))) where
  pub confirmed-made : new ≡ confirmed old q → IsMade (word_at new.words q)
  confirmed-made made final =
      let t = tag_of (word_at old.words q) in
      let there : word_at new.words q ≡ final_word t 1 = ap (λ (w : RecordsView K V). word_at w.words q) made ∙ written_there old.words q (final_word t 1) (tentative-place old.words q is) in
      let one : address_of (word_at new.words q) ≡ 1 = ap address_of there ∙ made-address t in
      omega arith

  pub released-made : new ≡ released old q → IsMade (word_at new.words q)
  released-made made =
      let there : word_at new.words q ≡ empty = ap (λ (w : RecordsView K V). word_at w.words q) made ∙ written_there old.words q empty (tentative-place old.words q is) in
      subst IsMade (sym there) empty-made

  pub settled-made : (final : Bool) → OnTrue final (new ≡ confirmed old q) → OnFalse final (new ≡ released old q) → IsMade (word_at new.words q)
  settled-made true made emptied = confirmed-made made
  settled-made false made emptied = released-made emptied

-- the place that an operation claims
pub claims-place : {K V I : Type 0} (v : PartitionView K V I) (slot c : ℕ) (x : Context K V I) (q : Place) → context_at v slot c ≡ Some x → x.phase ≡ Confirm q → claim_at v.contexts (slot * 8 + c) ≡ Some q
claims-place v slot c x q h phase = ap (λ o. claim_of (joined o)) (key_at (slots_of v) v.contexts slot c x h).here ∙ ap claim_by phase

module _ {K V I : Type 0} {keeps : Bool} (cmp : K → K → Ordering) (join : V → V → V) (code : K → ℕ) (v : PartitionView K V I) (s : IsSound keeps cmp join code v) (slot c now : ℕ) (x : Context K V I) (h : context_at v slot c ≡ Some x) where
  pub is-tentative : (q : Place) → x.phase ≡ Confirm q → IsTrue (is_tentative (word_at v.records.words q))
  is-tentative q phase = s.owned.tentative (slot * 8 + c) q (claims-place v slot c x q h phase)

  -- a tentative entry is made for the class of the operation's key
  pub sound-claims : (r : RecordsView K V) (class : Class) (q : Place)
      → claim_by x.phase ≡ None
      → class ≡ class_in code v.records (key_of x.op)
      → Claims v.records r class q
      → ChangesAt q v.records.words r.words
      → is_tentative (word_at v.records.words q) ≡ false
      → q.bucket ≡ class.bucket
      → word_at r.words q ≡ tentative_word class.tag
      → IsTrue (is_tentative (word_at r.words q))
      → IsTraced keeps code r
      → IsResolved cmp join r
      → IsSound keeps cmp join code (record (with_context v slot c (Some (at_phase x (Confirm q))) now) { records = r })
  sound-claims r class q quiet own claims words was bucket word is traced resolved =
      let reworded : IsReworded v.records r = claims.is ∙ ap (λ (w : RecordsView K V). record v.records { words = w.words }) (sym claims.is) in
      let o = key_at (slots_of v) v.contexts slot c x h in
      let same : class ≡ class_in code r (key_of x.op) = own ∙ ap (λ (w : RecordsView K V). class_in code w (key_of x.op)) (sym reworded) in
      let claimed : IsClaimOf r class q = record { bucket = bucket; word = word } in
      sound-claimed s r slot c now x q traced resolved (grown-words keeps cmp join code q v.records r reworded words (tentative-made (word_at r.words q) is)) words
      (ap (λ (w : RecordsView K V). w.partition_bits) reworded)
      (ap (λ (w : RecordsView K V). w.log.regions) reworded)
      (ap (λ (w : RecordsView K V). w.log.text) reworded)
      was is o.here quiet (record { inside = o.inside; low = o.low })
      (record { stands = subst (λ d. IsClaimOf r d q) same claimed; own = own-at cmp join code v s slot c x h; merging = s.merging (slot * 8 + c) x o.here })

  -- it is confirmed or taken back, and the operation is to look again
  pub sound-settles : (r : RecordsView K V) (q : Place)
      → x.phase ≡ Confirm q
      → IsReworded v.records r
      → ChangesAt q v.records.words r.words
      → is_tentative (word_at r.words q) ≡ false
      → IsMade (word_at r.words q)
      → IsTraced keeps code r
      → IsResolved cmp join r
      → IsSound keeps cmp join code (record (with_context v slot c (Some (at_phase x Fresh)) now) { records = r })
  sound-settles r q phase reworded words freed made traced resolved =
      let o = key_at (slots_of v) v.contexts slot c x h in
      let fits : Fits s r (at_phase x Fresh) = record { stands = tt; own = own-at cmp join code v s slot c x h; merging = s.merging (slot * 8 + c) x o.here } in
      sound-settled s r slot c now x q (Some (OnKey (at_phase x Fresh))) traced resolved (grown-words keeps cmp join code q v.records r reworded words made) words
      (ap (λ (w : RecordsView K V). w.partition_bits) reworded)
      (ap (λ (w : RecordsView K V). w.log.regions) reworded)
      (ap (λ (w : RecordsView K V). w.log.text) reworded)
      freed o.here phase refl (record { inside = o.inside; low = o.low })
      (λ z e. (let same : at_phase x Fresh ≡ z = cc in subst (Fits s r) same fits))

  -- it is taken back, and the operation is over
  pub sound-cancels : (r : RecordsView K V) (q : Place)
      → x.phase ≡ Confirm q
      → IsReworded v.records r
      → ChangesAt q v.records.words r.words
      → is_tentative (word_at r.words q) ≡ false
      → IsMade (word_at r.words q)
      → IsTraced keeps code r
      → IsResolved cmp join r
      → IsSound keeps cmp join code (record (with_context v slot c None now) { records = r })
  sound-cancels r q phase reworded words freed made traced resolved =
      let o = key_at (slots_of v) v.contexts slot c x h in
      sound-settled s r slot c now x q None traced resolved (grown-words keeps cmp join code q v.records r reworded words made) words
      (ap (λ (w : RecordsView K V). w.partition_bits) reworded)
      (ap (λ (w : RecordsView K V). w.log.regions) reworded)
      (ap (λ (w : RecordsView K V). w.log.text) reworded)
      freed o.here phase refl (record { inside = o.inside; low = o.low })
      (λ z e. absurd (cc))

-- records after a confirmation
pub reworded-by : {K V : Type 0} (old new : RecordsView K V) (q : Place) (final : Bool) → OnTrue final (new ≡ confirmed old q) → OnFalse final (new ≡ released old q) → IsReworded old new
reworded-by old new q final made emptied = by_test final refl
  where
    by_test : (b : Bool) → final ≡ b → new ≡ record old { words = new.words }
    by_test true e = OnTrue_at e made ∙ ap (λ (w : RecordsView _ _). record old { words = w.words }) (sym (OnTrue_at e made))
    by_test false e = OnFalse_at e emptied ∙ ap (λ (w : RecordsView _ _). record old { words = w.words }) (sym (OnFalse_at e emptied))

pub reworded-released : {K V : Type 0} (old new : RecordsView K V) (q : Place) → new ≡ released old q → IsReworded old new
reworded-released old new q e = e ∙ ap (λ (w : RecordsView _ _). record old { words = w.words }) (sym e)
