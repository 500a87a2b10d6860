use Rattle.std.proofs.Common.{◌≡◌, ◌≤◌, ◌<◌, ◌-◌, ◌+◌, ◌%◌, ◌∷◌, [], ◌++◌, ℕ, List, Bool, true, false, cond, filter, length, nat_eq, refl, sym, ◌∙◌, ap, subst, arith, append_assoc, rules}
use Rattle.fkv_device.specs.Failing.{FailsOnlyBy}
use Rattle.fkv_runs.proofs.MadeLemmas.{nat_eq-refl, nat_eq-is}
use Rattle.fkv_spills.specs.Spilling.{AreSpilled}
use Rattle.fkv_spills.proofs.SpillLemmas.{append-none}
use Rattle.fkv_spills.proofs.spilled.Spilled.of_home.Goals as goal

not-true : (b : Bool) → (b ≡ true → ⊥) → b ≡ false
not-true true h = absurd (h refl)
not-true false h = refl

filter-yes : {A : Type 0} (f : A → Bool) (xs rest all ys : List A) (x : A) → ys ≡ x ∷ rest → f x ≡ true → xs ++ filter f ys ≡ filter f all
    → (xs ++ x ∷ []) ++ filter f rest ≡ filter f all
filter-yes f xs rest all ys x e has h =
    append_assoc xs (x ∷ []) (filter f rest) ∙ ap (λ zs. xs ++ zs) (sym first) ∙ h
  where
    kept : filter f (x ∷ rest) ≡ x ∷ filter f rest
    kept = rw has refl

    first : filter f ys ≡ x ∷ filter f rest
    first = ap (filter f) e ∙ kept

filter-no : {A : Type 0} (f : A → Bool) (xs rest all ys : List A) (x : A) → ys ≡ x ∷ rest → f x ≡ false → xs ++ filter f ys ≡ filter f all
    → xs ++ filter f rest ≡ filter f all
filter-no f xs rest all ys x e not h = ap (λ zs. xs ++ zs) (sym first) ∙ h
  where
    kept : filter f (x ∷ rest) ≡ filter f rest
    kept = rw not refl

    first : filter f ys ≡ filter f rest
    first = ap (filter f) e ∙ kept

-- ---- how many they are
filter-less : {A : Type 0} (f : A → Bool) (xs : List A) → length (filter f xs) ≤ length xs
filter-less f [] = omega arith
filter-less f (x ∷ xs) = by (f x) (filter-less f xs)
  where
    by : (b : Bool) → length (filter f xs) ≤ length xs → length (cond b (x ∷ filter f xs) (filter f xs)) ≤ length (x ∷ xs)
    by true r = omega arith
    by false r = omega arith

counted-all : {A : Type 0} (f : A → Bool) (xs ys : List A) (len : ℕ) → xs ≡ ys → len ≡ length ys → len + length (filter f xs) ≡ length (filter f ys) + length xs
counted-all f xs ys len e long =
    ap (λ zs. len + length (filter f zs)) e ∙ (let l : len + length (filter f ys) ≡ length (filter f ys) + length ys = omega arith in l) ∙ ap (λ zs. length (filter f ys) + length zs) (sym e)

counted-yes : {A : Type 0} (f : A → Bool) (rest ys : List A) (x : A) (len all : ℕ) → ys ≡ x ∷ rest → f x ≡ true
    → len + length (filter f ys) ≡ all + length ys → len + length (filter f rest) ≡ all + length rest
counted-yes f rest ys x len all e has h =
    let first : length (filter f ys) ≡ length (filter f rest) + 1 = ap (λ zs. length (filter f zs)) e ∙ rw has (omega arith) in
    let long : length ys ≡ length rest + 1 = ap length e ∙ (omega arith) in
    omega arith

counted-no : {A : Type 0} (f : A → Bool) (rest ys : List A) (x : A) (len all : ℕ) → ys ≡ x ∷ rest → f x ≡ false
    → len + length (filter f ys) ≡ all + length ys → (0 < len) × (len - 1 + length (filter f rest) ≡ all + length rest)
counted-no f rest ys x len all e not h =
    let first : length (filter f ys) ≡ length (filter f rest) = ap (λ zs. length (filter f zs)) e ∙ rw not refl in
    let long : length ys ≡ length rest + 1 = ap length e ∙ (omega arith) in
    let less = filter-less f rest in
    (omega arith, omega arith)

pub loop-name-init : goal.loop-name-init
loop-name-init g c = record {
  gathered = λ keeps. ([], c.new-gathered.ensures, search rules);
  counted = counted-all (λ pair. nat_eq (g.F.Functions.code pair.0 % c.args.count) c.args.number) _ c.args.map.now.entries _ c.into_iter-name-iterator.ensures.into_iter_gives.0 c.len-len.ensures.len;
  steady = refl;
}

pub loop-name-preserved-in-Ok : goal.loop-name-preserved-in-Ok
loop-name-preserved-in-Ok g c =
    let is : g.F.Functions.code c.in-Some.name.now % c.args.count ≡ c.args.number = ap (λ n. n % c.args.count) (sym c.hash.ensures) ∙ c.if-hash-count.true in
    record {
      gathered = λ keeps.
          (let old = c.loop-name.invariant.gathered keeps in (
            old.0 ++ (c.in-Some.name.now, c.in-Some.value.now) ∷ [],
            c.in-Ok.ensures.ok old.0 keeps old.1,
            filter-yes (λ pair. nat_eq (g.F.Functions.code pair.0 % c.args.count) c.args.number) old.0 c.next.new.self c.args.map.now.entries c.loop-name.name-iterator
                (c.in-Some.name.now, c.in-Some.value.now) c.in-Some.ensures.steps (nat_eq-refl _ _ is) old.2,
          ));
      counted = counted-yes (λ pair. nat_eq (g.F.Functions.code pair.0 % c.args.count) c.args.number) c.next.new.self c.loop-name.name-iterator (c.in-Some.name.now, c.in-Some.value.now) c.loop-name.len _
          c.in-Some.ensures.steps (nat_eq-refl _ _ is) c.loop-name.invariant.counted;
      steady = c.in-Ok.ensures.steady ∙ c.loop-name.invariant.steady;
    }

pub overflow_sub-len : goal.overflow_sub-len
overflow_sub-len g c =
    let out : nat_eq (g.F.Functions.code c.in-Some.name.now % c.args.count) c.args.number ≡ false =
    not-true _ (λ t. c.if-hash-count.false (ap (λ n. n % c.args.count) c.hash.ensures ∙ nat_eq-is _ _ t)) in
    let some = (counted-no (λ pair. nat_eq (g.F.Functions.code pair.0 % c.args.count) c.args.number) c.next.new.self c.loop-name.name-iterator (c.in-Some.name.now, c.in-Some.value.now) c.loop-name.len _
    c.in-Some.ensures.steps out c.loop-name.invariant.counted).0 in
    omega arith

pub loop-name-preserved : goal.loop-name-preserved
loop-name-preserved g c =
    let out : nat_eq (g.F.Functions.code c.in-Some.name.now % c.args.count) c.args.number ≡ false =
    not-true _ (λ t. c.if-hash-count.false (ap (λ n. n % c.args.count) c.hash.ensures ∙ nat_eq-is _ _ t)) in
    record {
      gathered = λ keeps.
          (let old = c.loop-name.invariant.gathered keeps in (
            old.0,
            old.1,
            filter-no (λ pair. nat_eq (g.F.Functions.code pair.0 % c.args.count) c.args.number) old.0 c.next.new.self c.args.map.now.entries c.loop-name.name-iterator
                (c.in-Some.name.now, c.in-Some.value.now) c.in-Some.ensures.steps out old.2,
          ));
      counted = (counted-no (λ pair. nat_eq (g.F.Functions.code pair.0 % c.args.count) c.args.number) c.next.new.self c.loop-name.name-iterator (c.in-Some.name.now, c.in-Some.value.now) c.loop-name.len _
          c.in-Some.ensures.steps out c.loop-name.invariant.counted).1;
      steady = c.loop-name.invariant.steady;
    }

pub returns-in-Err-clause-refused : goal.returns-in-Err-clause-refused
returns-in-Err-clause-refused g c =
    subst (λ n. (page : ℕ) × FailsOnlyBy 2 page n (g.W.PageWriter.failures c.put.new.writer) c.in-Err.refused) c.loop-name.invariant.steady c.in-Err.ensures.refused

pub returns-in-Ok-finish-clause-ok : goal.returns-in-Ok-finish-clause-ok
returns-in-Ok-finish-clause-ok g c keeps =
    let old = c.loop-name.invariant.gathered keeps in
    subst (λ xs. AreSpilled g.V.Fixed.codec g.R.Receipt.stands c.in-Ok-finish.pages.items xs)
    (sym (append-none old.0)
    ∙ ap (λ ys. old.0 ++ filter (λ pair. nat_eq (g.F.Functions.code pair.0 % c.args.count) c.args.number) ys) (sym c.in-None.ensures.steps.0) ∙ old.2)
    (c.in-Ok-finish.ensures.ok old.0 keeps old.1)

pub returns-in-Ok-finish-clause-steady : goal.returns-in-Ok-finish-clause-steady
returns-in-Ok-finish-clause-steady g c = c.in-Ok-finish.ensures.steady ∙ c.loop-name.invariant.steady

pub returns-in-Err-finish-clause-refused : goal.returns-in-Err-finish-clause-refused
returns-in-Err-finish-clause-refused g c =
    subst (λ n. (page : ℕ) × FailsOnlyBy 2 page n (g.W.PageWriter.failures c.finish.new.writer) c.in-Err-finish.refused) c.loop-name.invariant.steady c.in-Err-finish.ensures.refused
