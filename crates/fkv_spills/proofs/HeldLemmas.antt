-- Several that each have what a list says.
use Rattle.std.proofs.Common.{◌≡◌, ◌<◌, ℕ, zero, suc, List, [], ◌∷◌, map, length, get_or, drop, Option, Some, None, slice_get, slice_set, refl, sym, ◌∙◌, ap, subst, arith}
use Rattle.fkv_functions.specs.Names.{name_cmp}
use Rattle.fkv_functions.specs.declared.names.Name.{Name}
use Rattle.fkv_runs.specs.Merging.{chosen, first_from, first_key, first_pair}
use Rattle.fkv_runs.proofs.MergeLemmas.{Gives, tells}
use Rattle.std.proofs.lemmas.List.{drop_all}
use Rattle.std.proofs.lemmas.Option.{slice_get-get_or, slice_get_within}
use Rattle.fkv_spills.specs.Reading.{AreHeld, IsMergeOf}

module _ {A B : Type 0} (holds : A → B → Type 0) where
  pub held-length : (rests : List A) (lists : List B) → AreHeld holds rests lists → length rests ≡ length lists
  held-length [] [] h = refl
  held-length [] (b ∷ bs) h = absurd h
  held-length (a ∷ more) [] h = absurd h
  held-length (a ∷ more) (b ∷ bs) h = ap (λ n. suc n) (held-length more bs h.1)

  -- the one at a place
  pub held-at : (rests : List A) (lists : List B) (p : ℕ) (b : B) → AreHeld holds rests lists → slice_get lists p ≡ Some b
      → (a : A) × (slice_get rests p ≡ Some a) × holds a b
  held-at [] [] p b h here = absurd (cc)
  held-at [] (c ∷ bs) p b h here = absurd h
  held-at (a ∷ more) [] p b h here = absurd h
  held-at (a ∷ more) (c ∷ bs) zero b h here = (let same : c ≡ b = cc in (a, refl, subst (λ d. holds a d) same h.0))
  held-at (a ∷ more) (c ∷ bs) (suc p) b h here = held-at more bs p b h.1 here

  -- another in its place, with another list in its place
  pub held-set : (rests : List A) (lists : List B) (p : ℕ) (a : A) (b : B) → AreHeld holds rests lists → holds a b → AreHeld holds (slice_set rests p a) (slice_set lists p b)
  held-set [] [] p a b h one = tt
  held-set [] (c ∷ bs) p a b h one = absurd h
  held-set (d ∷ more) [] p a b h one = absurd h
  held-set (d ∷ more) (c ∷ bs) zero a b h one = (one, h.1)
  held-set (d ∷ more) (c ∷ bs) (suc p) a b h one = (h.0, held-set more bs p a b h.1 one)

  -- another in its place, of the same list
  pub held-kept : (rests : List A) (lists : List B) (p : ℕ) (a : A) (b : B) → AreHeld holds rests lists → slice_get lists p ≡ Some b → holds a b → AreHeld holds (slice_set rests p a) lists
  held-kept [] [] p a b h here one = tt
  held-kept [] (c ∷ bs) p a b h here one = absurd h
  held-kept (d ∷ more) [] p a b h here one = absurd h
  held-kept (d ∷ more) (c ∷ bs) zero a b h here one = (let same : c ≡ b = cc in (subst (λ t. holds a t) (sym same) one, h.1))
  held-kept (d ∷ more) (c ∷ bs) (suc p) a b h here one = (h.0, held-kept more bs p a b h.1 here one)

module _ {A V : Type 0} (holds : A → List (Name × V) → Type 0) where
  -- from the end on there is none
  pub first-end : (rests : List A) (lists : List (List (Name × V))) (n : ℕ) → n ≡ length rests → AreHeld holds rests lists
      → None ≡ first_from name_cmp n (map first_key (drop n lists))
  first-end rests lists n e h =
      ap (λ ys. first_from name_cmp n (map first_key ys)) (sym (drop_all n lists (let l = held-length holds rests lists h in omega arith)))

  -- the first of the keys, found from the end
  step : (rests : List A) (lists : List (List (Name × V))) (i n : ℕ) (d : A) (o : Option Name) → i < length rests → AreHeld holds rests lists
      → ((xs : List (Name × V)) → holds (get_or rests i d) xs → o ≡ first_key xs)
      → first_from name_cmp n (map first_key (drop i lists)) ≡ chosen name_cmp n o (first_from name_cmp (suc n) (map first_key (drop (suc i) lists)))
  step [] lists i n d o low h key = absurd (omega arith)
  step (a ∷ more) [] i n d o low h key = absurd h
  step (a ∷ more) (xs ∷ lists) zero n d o low h key =
      ap (λ k. chosen name_cmp n k (first_from name_cmp (suc n) (map first_key lists))) (sym (key xs h.0))
  step (a ∷ more) (xs ∷ lists) (suc i) n d o low h key = step more lists i n d o (omega arith) h.1 key

  pub first-step : (rests : List A) (lists : List (List (Name × V))) (i j : ℕ) (d : A) (o : Option Name) → i < length rests → j ≡ suc i → AreHeld holds rests lists
      → ((xs : List (Name × V)) → holds (get_or rests i d) xs → o ≡ first_key xs)
      → first_from name_cmp i (map first_key (drop i lists)) ≡ chosen name_cmp i o (first_from name_cmp j (map first_key (drop j lists)))
  first-step rests lists i j d o low e h key =
      step rests lists i i d o low h key ∙ ap (λ n. chosen name_cmp i o (first_from name_cmp n (map first_key (drop n lists)))) (sym e)

  module _ (rests : List A) (first : Option (ℕ × Name)) (xs : List (Name × V)) (h : IsMergeOf holds rests first xs) where
    -- none has a pair left
    pub merge-none : first ≡ None → xs ≡ []
    merge-none e = h.together ∙ tells name_cmp h.lists None (sym e ∙ h.is_first)

    module _ (p : ℕ) (k : Name) (e : first ≡ Some (p, k)) where
      given : Gives name_cmp h.lists p k
      given = tells name_cmp h.lists (Some (p, k)) (sym e ∙ h.is_first)

      there : (a : A) × (slice_get rests p ≡ Some a) × holds a (given.first ∷ given.rest)
      there = held-at holds rests h.lists p (given.first ∷ given.rest) h.held given.here

      pub merge-key : Some k ≡ first_key xs
      merge-key = ap (λ q. Some q) given.key ∙ ap first_key (sym (h.together ∙ given.next))

      pub merge-within : p < length rests
      merge-within = slice_get_within rests p there.0 there.1

      -- what the first of them has, and what stands once it gave a pair, or was refused
      pub record IsChosen (one : A) : Type 0 where
        pub pairs : List (Name × V)
        pub has : holds one pairs
        pub same : first_pair pairs ≡ first_pair xs
        pub after : (other : A) (now : Option (ℕ × Name)) → holds other (drop 1 pairs)
            → ((lists : List (List (Name × V))) → AreHeld holds (slice_set rests p other) lists → now ≡ first_from name_cmp 0 (map first_key lists))
            → IsMergeOf holds (slice_set rests p other) now (drop 1 xs)
        pub kept : (other : A) → holds other pairs → IsMergeOf holds (slice_set rests p other) first xs

      pub merge-gives : (one : A) → one ≡ get_or rests p one → IsChosen one
      merge-gives one at = record {
        pairs = given.first ∷ given.rest;
        has = subst (λ a. holds a (given.first ∷ given.rest)) is there.2;
        same = sym (ap first_pair (h.together ∙ given.next));
        after = λ other now hold chosen.
            (let held : AreHeld holds (slice_set rests p other) (slice_set h.lists p given.rest) = held-set holds rests h.lists p other given.rest h.held hold in
            record {
              lists = slice_set h.lists p given.rest;
              held = held;
              is_first = chosen (slice_set h.lists p given.rest) held;
              together = ap (drop 1) (h.together ∙ given.next);
            });
        kept = λ other hold. record {
          lists = h.lists;
          held = held-kept holds rests h.lists p other (given.first ∷ given.rest) h.held given.here hold;
          is_first = h.is_first;
          together = h.together;
        };
      }
        where
          is : there.0 ≡ one
          is = (let t : Some there.0 ≡ Some one = sym there.1 ∙ slice_get-get_or rests p one merge-within ∙ ap (λ a. Some a) (sym at) in cc)
