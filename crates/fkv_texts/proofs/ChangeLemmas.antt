-- What a text says once an entry has another value, or is a tombstone.
use Rattle.std.proofs.Common.{◌≡◌, ◌≢◌, Bool, true, false, cond, ◌&&◌, ℕ, ◌<◌, ◌≤◌, ◌==◌, List, [], ◌∷◌, inl, inr, Option, Some, None, IsSome, option_map, slice_get, refl, sym, ◌∙◌, ap, subst, arith, nat_le, nat_lt}
use Rattle.std.proofs.lemmas.Bool.{cases_eq, and_parts, leb-true, eq-eqb, eqb-true, ne_eqb}
use Rattle.std.proofs.lemmas.Option.{slice_get-map}
use Rattle.std.specs.declared.cmp.Ordering.{Ordering}
use Rattle.std.specs.BTreeMap.{is_at}
use Rattle.fkv_functions.specs.Plain.{Same, with_at, IsKeyOrder}
use Rattle.fkv_texts.specs.declared.entries.Entry.{Entry}
use Rattle.fkv_texts.specs.Text.{last_where, entry_at, value_at, has_key, last_of, value_of, live, newest, set_at, changed, AllAbove, IsRising, IsFrom, IsBelow}
use Rattle.fkv_texts.specs.Places.{tail_after, IsLaidOut}
use Rattle.fkv_texts.specs.Chains.{has_class, last_of_class, last_below, Leads, IsChained}
use Rattle.fkv_texts.proofs.LastWhere.{last_where-map, last_where-found, last_where-in, none-passes}
use Rattle.fkv_texts.proofs.TextLemmas.{one_address}

module _ {K V : Type 0} (a : ℕ) (v : Option V) where
  -- ---- an entry
  pub by_test : (P : Entry K V → Type 0) (b : Bool) (e : Entry K V) → P (record e { value = v }) → P e → P (cond b (record e { value = v }) e)
  by_test P true e p q = p
  by_test P false e p q = q

  pub set_at-address : (e : Entry K V) → (set_at a v e).address ≡ e.address
  set_at-address e = by_test (λ d. d.address ≡ e.address) (e.address == a) e refl refl

  pub set_at-key : (e : Entry K V) → (set_at a v e).key ≡ e.key
  set_at-key e = by_test (λ d. d.key ≡ e.key) (e.address == a) e refl refl

  pub set_at-here : (e : Entry K V) → e.address ≡ a → set_at a v e ≡ record e { value = v }
  set_at-here e h = let yes : (e.address == a) ≡ true = eq-eqb e.address a h in rw yes refl

  pub set_at-other : (e : Entry K V) → e.address ≢ a → set_at a v e ≡ e
  set_at-other e h = let no : (e.address == a) ≡ false = ne_eqb e.address a h in rw no refl

  -- an entry of the changed text was one of the text
  pub record WasAt (text : List (Entry K V)) (i : ℕ) (d : Entry K V) : Type 0 where
    pub entry : Entry K V
    pub here : slice_get text i ≡ Some entry
    pub is : set_at a v entry ≡ d

  pub was_at : (text : List (Entry K V)) (i : ℕ) (d : Entry K V) → slice_get (changed text a v) i ≡ Some d → WasAt text i d
  was_at text i d h = by_entry (slice_get text i) refl (sym (slice_get-map (set_at a v) text i) ∙ h)
    where
      by_entry : (o : Option (Entry K V)) → slice_get text i ≡ o → option_map (set_at a v) o ≡ Some d → WasAt text i d
      by_entry None g k = absurd (cc)
      by_entry (Some e) g k = let is : set_at a v e ≡ d = cc in record { entry = e; here = g; is = is }

  -- what holds of an entry with either value holds of the entries of the changed text
  pub at_all : (P : Entry K V → Type 0) (text : List (Entry K V)) → ((i : ℕ) (e : Entry K V) → slice_get text i ≡ Some e → P (record e { value = v }) × P e)
      → (i : ℕ) (d : Entry K V) → slice_get (changed text a v) i ≡ Some d → P d
  at_all P text h i d g =
      let w = was_at text i d g in
      let p = h i w.entry w.here in
      subst P w.is (by_test P (w.entry.address == a) w.entry p.0 p.1)

  -- ---- where the entries stand
  pub laid_out-changed : (bits size begin tail : ℕ) (text : List (Entry K V)) → IsLaidOut bits size begin tail text → IsLaidOut bits size begin tail (changed text a v)
  laid_out-changed bits size begin tail [] h = h
  laid_out-changed bits size begin tail (e ∷ es) h = (set_at-address e ∙ h.0, h.1, laid_out-changed bits size (tail_after bits size begin) tail es h.2)

  above-changed : (b : ℕ) (text : List (Entry K V)) → AllAbove b text → AllAbove b (changed text a v)
  above-changed b [] h = tt
  above-changed b (e ∷ es) h = (subst (λ (n : ℕ). b < n) (sym (set_at-address e)) h.0, above-changed b es h.1)

  pub rising-changed : (text : List (Entry K V)) → IsRising text → IsRising (changed text a v)
  rising-changed [] h = tt
  rising-changed (e ∷ es) h = (subst (λ (n : ℕ). AllAbove n (changed es a v)) (sym (set_at-address e)) (above-changed e.address es h.0), rising-changed es h.1)

  pub from-changed : (begin : ℕ) (text : List (Entry K V)) → IsFrom begin text → IsFrom begin (changed text a v)
  from-changed begin text h = at_all (λ d. begin ≤ d.address) text (λ i e g. (h i e g, h i e g))

  pub below-changed : (tail : ℕ) (text : List (Entry K V)) → IsBelow tail text → IsBelow tail (changed text a v)
  below-changed tail text h = at_all (λ d. d.address < tail) text (λ i e g. (h i e g, h i e g))

  -- ---- the last that passes a test, which does not look at values
  pub last-changed : (p : Entry K V → Bool) → ((x : Entry K V) → p (set_at a v x) ≡ p x) → (text : List (Entry K V)) → last_where p (changed text a v) ≡ option_map (set_at a v) (last_where p text)
  last-changed p h text = last_where-map p (set_at a v) h text

  -- it stays where no entry that passes stands at the address
  pub last-stays : (p : Entry K V → Bool) → ((x : Entry K V) → p (set_at a v x) ≡ p x) → (text : List (Entry K V))
      → ((i : ℕ) (x : Entry K V) → slice_get text i ≡ Some x → p x ≡ true → x.address ≢ a) → last_where p (changed text a v) ≡ last_where p text
  last-stays p h text off = last-changed p h text ∙ by_last (last_where p text) refl
    where
      by_last : (l : Option (Entry K V)) → last_where p text ≡ l → option_map (set_at a v) (last_where p text) ≡ last_where p text
      by_last None n = rw n refl
      by_last (Some e) n =
          let m = last_where-in p text e n in
          rw n (ap Some (set_at-other e (off m.place e m.here (last_where-found p text e n))))

  -- and so does one that stands elsewhere
  pub last-elsewhere : (p : Entry K V → Bool) → ((x : Entry K V) → p (set_at a v x) ≡ p x) → (text : List (Entry K V)) (e : Entry K V)
      → last_where p text ≡ Some e → e.address ≢ a → last_where p (changed text a v) ≡ Some e
  last-elsewhere p h text e is ne = last-changed p h text ∙ ap (option_map (set_at a v)) is ∙ ap Some (set_at-other e ne)

  address-test : (b : ℕ) (x : Entry K V) → ((set_at a v x).address == b) ≡ (x.address == b)
  address-test b x = ap (λ n. n == b) (set_at-address x)

  pub entry_at-changed : (text : List (Entry K V)) (b : ℕ) → entry_at (changed text a v) b ≡ option_map (set_at a v) (entry_at text b)
  entry_at-changed text b = last-changed (λ x. x.address == b) (address-test b) text

  pub entry_at-here : (text : List (Entry K V)) (e : Entry K V) → entry_at text a ≡ Some e → entry_at (changed text a v) a ≡ Some (record e { value = v })
  entry_at-here text e h =
      entry_at-changed text a ∙ ap (option_map (set_at a v)) h
      ∙ ap Some (set_at-here e (eqb-true e.address a (last_where-found (λ x. x.address == a) text e h)))

  pub entry_at-elsewhere : (text : List (Entry K V)) (b : ℕ) → b ≢ a → entry_at (changed text a v) b ≡ entry_at text b
  entry_at-elsewhere text b ne =
      last-stays (λ x. x.address == b) (address-test b) text (λ i x g t e. ne (sym (eqb-true x.address b t) ∙ e))

  value-here : (text : List (Entry K V)) → IsSome (entry_at text a) → value_at (changed text a v) a ≡ v
  value-here text some = by_entry (entry_at text a) refl some
    where
      by_entry : (o : Option (Entry K V)) → entry_at text a ≡ o → IsSome o → value_at (changed text a v) a ≡ v
      by_entry None is n = absurd (cc)
      by_entry (Some e) is n = ap value_of (entry_at-here text e is)

  pub value_at-changed : (text : List (Entry K V)) (b : ℕ) → IsSome (entry_at text a) → value_at (changed text a v) b ≡ cond (a == b) v (value_at text b)
  value_at-changed text b some = elim (cases_eq b a) [
    | inl same ↦
        (let yes : (a == b) ≡ true = eq-eqb a b (sym same) in
        rw yes (ap (value_at (changed text a v)) same ∙ value-here text some))
    | inr ne ↦
        (let no : (a == b) ≡ false = ne_eqb a b (λ q. ne (sym q)) in
        rw no (ap value_of (entry_at-elsewhere text b ne)))
  ]

  -- ---- keys
  module _ (cmp : K → K → Ordering) where
    key-test : (k : K) (x : Entry K V) → has_key cmp k (set_at a v x) ≡ has_key cmp k x
    key-test k x = ap (λ (q : K). is_at (cmp q) k) (set_at-key x)

    newest-test : (k : K) (b : ℕ) (x : Entry K V) → (nat_le (set_at a v x).address b && has_key cmp k (set_at a v x)) ≡ (nat_le x.address b && has_key cmp k x)
    newest-test k b x = ap (λ n. nat_le n b && has_key cmp k (set_at a v x)) (set_at-address x) ∙ ap (λ t. nat_le x.address b && t) (key-test k x)

    pub last_of-changed : (text : List (Entry K V)) (k : K) → last_of cmp (changed text a v) k ≡ option_map (set_at a v) (last_of cmp text k)
    last_of-changed text k = last-changed (has_key cmp k) (key-test k) text

    pub newest-changed : (text : List (Entry K V)) (k : K) (b : ℕ) → newest cmp (changed text a v) k b ≡ option_map (set_at a v) (newest cmp text k b)
    newest-changed text k b = last-changed (λ x. nat_le x.address b && has_key cmp k x) (newest-test k b) text

    pub last_of-elsewhere : (text : List (Entry K V)) (k : K) (e : Entry K V) → last_of cmp text k ≡ Some e → e.address ≢ a → last_of cmp (changed text a v) k ≡ Some e
    last_of-elsewhere text k e is ne = last-elsewhere (has_key cmp k) (key-test k) text e is ne

    pub newest-elsewhere : (text : List (Entry K V)) (k : K) (b : ℕ) (e : Entry K V) → newest cmp text k b ≡ Some e → e.address ≢ a → newest cmp (changed text a v) k b ≡ Some e
    newest-elsewhere text k b e is ne = last-elsewhere (λ x. nat_le x.address b && has_key cmp k x) (newest-test k b) text e is ne

    -- what is newest below the address stays
    pub newest-lower : (text : List (Entry K V)) (k : K) (b : ℕ) → b < a → newest cmp (changed text a v) k b ≡ newest cmp text k b
    newest-lower text k b lower =
        last-stays (λ x. nat_le x.address b && has_key cmp k x) (newest-test k b) text
        (λ i x g t e. let low : x.address ≤ b = leb-true x.address b (and_parts (nat_le x.address b) (has_key cmp k x) t).0 in omega arith)

    -- no entry of another key stands at the address
    off_key : (text : List (Entry K V)) (e : Entry K V) (k : K) → IsRising text → entry_at text a ≡ Some e → has_key cmp k e ≡ false
        → (i : ℕ) (x : Entry K V) → slice_get text i ≡ Some x → has_key cmp k x ≡ true → x.address ≢ a
    off_key text e k r here other i x g t at =
        let m = last_where-in (λ x. x.address == a) text e here in
        let stands : e.address ≡ a = eqb-true e.address a (last_where-found (λ x. x.address == a) text e here) in
        let same : x ≡ e = one_address text r i m.place x e g m.here (at ∙ sym stands) in
        let both : true ≡ false = sym t ∙ ap (has_key cmp k) same ∙ other in cc

    pub last_of-other : (text : List (Entry K V)) (e : Entry K V) (k : K) → IsRising text → entry_at text a ≡ Some e → has_key cmp k e ≡ false
        → last_of cmp (changed text a v) k ≡ last_of cmp text k
    last_of-other text e k r here other = last-stays (has_key cmp k) (key-test k) text (off_key text e k r here other)

    pub newest-other : (text : List (Entry K V)) (e : Entry K V) (k : K) (b : ℕ) → IsRising text → entry_at text a ≡ Some e → has_key cmp k e ≡ false
        → newest cmp (changed text a v) k b ≡ newest cmp text k b
    newest-other text e k b r here other =
        last-stays (λ x. nat_le x.address b && has_key cmp k x) (newest-test k b) text
        (λ i x g t. off_key text e k r here other i x g (and_parts (nat_le x.address b) (has_key cmp k x) t).1)

    -- ---- the live map, where the entry is the last of its key
    live-at : (q : K) (e l : Entry K V) (b : Bool) → is_at (cmp e.key) q ≡ b → e.address ≡ a → (b ≡ true → l ≡ e) → (l.address ≡ a → b ≡ true) → value_of (Some (set_at a v l)) ≡ cond b v l.value
    live-at q e l true t here same back =
        let at_a : (l.address == a) ≡ true = eq-eqb l.address a (ap (λ (w : Entry K V). w.address) (same refl) ∙ here) in
        rw at_a refl
    live-at q e l false t here same back =
        let off : (l.address == a) ≡ false = ne_eqb l.address a (λ k. (let n : false ≡ true = back k in absurd (cc))) in
        rw off refl

    pub live-changed : IsKeyOrder cmp → (text : List (Entry K V)) → IsRising text → (k : K) (e : Entry K V) → last_of cmp text k ≡ Some e → e.address ≡ a
        → Same (live cmp (changed text a v)) (with_at cmp (live cmp text) k v)
    live-changed o text r k e h here q =
        let key_e : e.key ≡ k = o.same e.key k (last_where-found (has_key cmp k) text e h) in
        ap value_of (last_of-changed text q) ∙ by_last (last_of cmp text q) refl ∙ ap (λ x. cond (is_at (cmp x) q) v (live cmp text q)) key_e
      where
        by_last : (l : Option (Entry K V)) → last_of cmp text q ≡ l → value_of (option_map (set_at a v) (last_of cmp text q)) ≡ cond (is_at (cmp e.key) q) v (value_of (last_of cmp text q))
        by_last None n =
            let m = last_where-in (has_key cmp k) text e h in
            let no : is_at (cmp e.key) q ≡ false = none-passes (has_key cmp q) text n m.place e m.here in
            rw (no, n) refl
        by_last (Some l) n =
            let m = last_where-in (has_key cmp k) text e h in
            let i = last_where-in (has_key cmp q) text l n in
            rw n (live-at q e l (is_at (cmp e.key) q) refl here
            (λ t. (let kq : k ≡ q = sym (o.same e.key k (last_where-found (has_key cmp k) text e h)) ∙ o.same e.key q t in
            let both : Some l ≡ Some e = sym n ∙ ap (last_of cmp text) (sym kq) ∙ h in cc))
            (λ t. (let same : l ≡ e = one_address text r i.place m.place l e i.here m.here (t ∙ sym here) in
            ap (λ (w : Entry K V). is_at (cmp w.key) q) (sym same) ∙ last_where-found (has_key cmp q) text l n)))

  -- ---- classes and their chains
  module _ {C : Type 0} (class : K → C) (same : C → C → Bool) where
    class-test : (c : C) (x : Entry K V) → has_class class same c (set_at a v x) ≡ has_class class same c x
    class-test c x = ap (λ (q : K). same (class q) c) (set_at-key x)

    below-test : (c : C) (b : ℕ) (x : Entry K V) → (nat_lt (set_at a v x).address b && has_class class same c (set_at a v x)) ≡ (nat_lt x.address b && has_class class same c x)
    below-test c b x = ap (λ n. nat_lt n b && has_class class same c (set_at a v x)) (set_at-address x) ∙ ap (λ t. nat_lt x.address b && t) (class-test c x)

    pub last_of_class-changed : (text : List (Entry K V)) (c : C) → last_of_class class same (changed text a v) c ≡ option_map (set_at a v) (last_of_class class same text c)
    last_of_class-changed text c = last-changed (has_class class same c) (class-test c) text

    -- what leads to an entry leads to it still
    leads-set : (begin : ℕ) (l : Option (Entry K V)) (p : ℕ) → Leads begin l p → Leads begin (option_map (set_at a v) l) p
    leads-set begin None p h = h
    leads-set begin (Some e) p h = h ∙ sym (set_at-address e)

    pub leads-changed : (begin : ℕ) (text : List (Entry K V)) (c : C) (p : ℕ) → Leads begin (last_of_class class same text c) p → Leads begin (last_of_class class same (changed text a v) c) p
    leads-changed begin text c p h =
        subst (λ (l : Option (Entry K V)). Leads begin l p) (sym (last_of_class-changed text c)) (leads-set begin (last_of_class class same text c) p h)

    below-leads : (begin : ℕ) (text : List (Entry K V)) (c : C) (bound p : ℕ) → Leads begin (last_below class same text c bound) p → Leads begin (last_below class same (changed text a v) c bound) p
    below-leads begin text c bound p h =
        subst (λ (l : Option (Entry K V)). Leads begin l p) (sym (last-changed (λ x. nat_lt x.address bound && has_class class same c x) (below-test c bound) text))
        (leads-set begin (last_below class same text c bound) p h)

    pub chained-changed : (begin : ℕ) (text : List (Entry K V)) → IsChained class same begin text → IsChained class same begin (changed text a v)
    chained-changed begin text h =
        at_all (λ d. Leads begin (last_below class same (changed text a v) (class d.key) d.address) d.previous) text
        (λ i e g. let l = below-leads begin text (class e.key) e.address e.previous (h i e g) in (l, l))
