-- Records on the way, and the rows that they are.
use Rattle.std.proofs.Common.{◌≡◌, ◌+◌, ◌++◌, ◌∷◌, [], ℕ, ℤ, List, Option, None, Some, true, false, refl, sym, length, arith}
use Rattle.std.specs.Prelude.{◌≤◌, ◌<◌, IfSome, ⊤}
use Rattle.csv.specs.Records.{field_at}
use Rattle.csv.specs.Reading.{Reached, ReadRecord, default_config, source_of, reader_state, reader_config}
use Rattle.csv.specs.declared.parser.State.TheVariants as st
use Rattle.csv.specs.declared.reader.Reader.{Reader}
use Rattle.csv.proofs.ReadFacts.{rows-end, rows-more}
use Rattle.fkv_functions.specs.declared.names.Name.{Name}
use Rattle.fkv_feed_rows.specs.Rows.{IsRow, AreRows}
use Rattle.fkv_feed_rows.specs.Feeds.{IsBadRow, IsTooLong}
use Rattle.fkv_feed_rows.specs.Watching.{AreRowsIn}

-- ---- fields
-- a record with a field at 0 and at 1, and none at 2, has two
pub two : (xs : List (List ℕ)) (k a : List ℕ) → field_at xs 0 ≡ Some k → field_at xs 1 ≡ Some a → field_at xs 2 ≡ None → xs ≡ k ∷ a ∷ []
unfolding field_at
two [] k a e f g = cc
two (x ∷ []) k a e f g = cc
two (x ∷ y ∷ []) k a e f g = cc
two (x ∷ y ∷ z ∷ zs) k a e f g = cc

pub no_first : (xs : List (List ℕ)) (k a : List ℕ) → None ≡ field_at xs 0 → xs ≡ k ∷ a ∷ [] → ⊥
unfolding field_at
no_first xs k a e f = let bad : None ≡ Some k = rw f at e in cc

pub no_second : (xs : List (List ℕ)) (k a : List ℕ) → None ≡ field_at xs 1 → xs ≡ k ∷ a ∷ [] → ⊥
unfolding field_at
no_second xs k a e f = let bad : None ≡ Some a = rw f at e in cc

pub no_third : (xs : List (List ℕ)) (k a x : List ℕ) → Some x ≡ field_at xs 2 → xs ≡ k ∷ a ∷ [] → ⊥
unfolding field_at
no_third xs k a x e f = let bad : Some x ≡ None = rw f at e in cc

-- ---- rows
pub are_rows-more : (fs : List (List (List ℕ))) (rs : List (Name × ℤ)) (f : List (List ℕ)) (r : Name × ℤ) → AreRows fs rs → IsRow f r → AreRows (fs ++ f ∷ []) (rs ++ r ∷ [])
are_rows-more [] [] f r s e = (e, tt)
are_rows-more [] (q ∷ qs) f r s e = absurd s
are_rows-more (g ∷ gs) [] f r s e = absurd s
are_rows-more (g ∷ gs) (q ∷ qs) f r s e = (s.0, are_rows-more gs qs f r s.1 e)

pub are_rows-length : (fs : List (List (List ℕ))) (rs : List (Name × ℤ)) → AreRows fs rs → length rs ≡ length fs
are_rows-length [] [] s = refl
are_rows-length [] (q ∷ qs) s = absurd s
are_rows-length (g ∷ gs) [] s = absurd s
are_rows-length (g ∷ gs) (q ∷ qs) s = let k = are_rows-length gs qs s.1 in omega arith

-- ---- records on the way
-- of a text, where it is known, these records were read, and the reader has the rest
abbrev pub HasRead : {R : Type 0} → (R → Option (List ℕ)) → Option (List ℕ) → Reader R → List (List (List ℕ)) → Type 0
HasRead rem None rdr records = ⊤
HasRead rem (Some text) rdr records = (y : List ℕ) × (source_of rem rdr ≡ Some y) × Reached default_config st.StartRecord text records (reader_state rdr) y

module _ {R : Type 0} (rem : R → Option (List ℕ)) where
  pub has_read-start : (o : Option (List ℕ)) (rdr : Reader R) → source_of rem rdr ≡ o → reader_state rdr ≡ st.StartRecord → HasRead rem o rdr []
  unfolding Reached
  has_read-start None rdr e s = tt
  has_read-start (Some text) rdr e s = (text, e, (sym s, refl))

  pub has_read-more : (o : Option (List ℕ)) (a b : Reader R) (f : List (List ℕ)) (records : List (List (List ℕ)))
      → reader_config a ≡ default_config → HasRead rem o a records → ReadRecord rem a b true f → HasRead rem o b (records ++ f ∷ [])
  has_read-more None a b f records c h r = tt
  has_read-more (Some text) a b f records c h r = rows-more rem a b f default_config st.StartRecord text h.0 records c h.1 h.2 r

  pub has_read-end : (limit : ℕ) (o : Option (List ℕ)) (a b : Reader R) (f : List (List ℕ)) (records : List (List (List ℕ))) (rows : List (Name × ℤ))
      → reader_config a ≡ default_config → HasRead rem o a records → ReadRecord rem a b false f → AreRows records rows → length records ≤ limit → AreRowsIn limit o rows
  has_read-end limit None a b f records rows c h r g l = tt
  has_read-end limit (Some text) a b f records rows c h r g l = record {
    records = records;
    all = (reader_state a, h.0, h.2, rows-end rem a b f default_config h.0 c h.1 r);
    good = g;
    within = omega (arith, are_rows-length records rows g);
  }

  pub bad_row : (o : Option (List ℕ)) (rdr : Reader R) (before : List (List (List ℕ))) (here : List (List ℕ)) (rows : List (Name × ℤ)) (n : ℕ)
      → HasRead rem o rdr (before ++ here ∷ []) → AreRows before rows → n ≡ length before + 1 → ((row : Name × ℤ) → IsRow here row → ⊥) → IfSome o (λ text. IsBadRow text n)
  bad_row None rdr before here rows n h g m b = tt
  bad_row (Some text) rdr before here rows n h g m b = record {
    before = before;
    here = here;
    state = reader_state rdr;
    left = h.0;
    reached = h.2;
    rows = rows;
    good = g;
    number = m;
    bad = b;
  }

  pub too_long : (limit : ℕ) (o : Option (List ℕ)) (rdr : Reader R) (records : List (List (List ℕ)))
      → HasRead rem o rdr records → limit < length records → IfSome o (λ text. IsTooLong limit text)
  too_long limit None rdr records h l = tt
  too_long limit (Some text) rdr records h l = record {
    records = records;
    state = reader_state rdr;
    left = h.0;
    reached = h.2;
    more = l;
  }
