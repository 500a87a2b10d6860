-- What is left of a store, as contracts name it.
use Rattle.std.proofs.Common.{◌≡◌, ◌+◌, ◌∷◌, [], ℕ, Bool, true, IsTrue, List, length, map, sum, sum_by, refl, sym, ap, subst, ◌∙◌}
use Rattle.std.specs.List.{All}
use Rattle.std.specs.declared.cmp.Ordering.{Ordering}
use Rattle.std.proofs.lemmas.List.{length-map}
use Rattle.std.proofs.lemmas.List.Elements.{All-map}
use Rattle.std.proofs.lemmas.List.Sums.{sum-map}
use Rattle.fkv_functions.specs.Meanings.{Meanings}
use Rattle.fkv_functions.specs.declared.refusals.Refused.{Refused}
use Rattle.fkv_partition.specs.Views.{PartitionView}
use Rattle.fkv_histories.specs.declared.entries.Entry.{Entry}
use Rattle.fkv_locked.specs.Kept.{seen, IsEnded}
use Rattle.fkv_closing.specs.Lists.{lists_of}
use Rattle.fkv_closing.specs.Refusing.{IsUnclosed, IsUnsettled}
use Rattle.fkv_store.specs.Closes.{LeftView, IsLeft, IsUnclosedBy, IsUnsettledBy}

module _ {P K V I O : Type 0} (part : P → PartitionView K V I) (history : P → List (Entry K V I O)) (book : P → ℕ) where
  abbrev view : P → LeftView K V I O
  view p = record { partition = part p; history = history p; book = book p }

  parts : (ps : List P) → map (λ l. l.partition) (map view ps) ≡ map part ps
  parts [] = refl
  parts (p ∷ ps) = ap (λ vs. part p ∷ vs) (parts ps)

  histories : (ps : List P) → map (λ l. l.history) (map view ps) ≡ map history ps
  histories [] = refl
  histories (p ∷ ps) = ap (λ hs. history p ∷ hs) (histories ps)

  all_books : (ps : List P) → map (λ l. l.book) (map view ps) ≡ map book ps
  all_books [] = refl
  all_books (p ∷ ps) = ap (λ ns. book p ∷ ns) (all_books ps)

  books : (ps : List P) → sum_by (λ l. l.book) (map view ps) ≡ sum_by book ps
  books ps = sym (sum-map (λ (l : LeftView K V I O). l.book) (map view ps)) ∙ (ap sum (all_books ps) ∙ sum-map book ps)

  module _ (cmp : K → K → Ordering) (f : Meanings K V I O) (entries keeps : Bool) (count : ℕ) (ps : List P)
      (sized : length ps ≡ count)
      (kept : entries ≡ true → IsTrue keeps → All (λ p. IsEnded cmp f (seen cmp (part p)) (history p) (book p)) ps)
      (owns : List (List (List (Entry K V I O)))) (shares : List ℕ) (why : Refused) where
    are_left : IsLeft cmp f entries keeps count (map view ps)
    are_left = record {
      sized = length-map ps view ∙ sized;
      kept = λ e k. All-map (λ l. IsEnded cmp f (seen cmp l.partition) l.history l.book) view ps (kept e k);
    }

    pub unclosed_by : (before now : List ℕ)
        → IsUnclosed keeps (map part ps) (map history ps) (lists_of owns) (sum shares) (sum_by book ps) before now why
        → IsUnclosedBy cmp f entries keeps count owns shares why
    unclosed_by before now h = record {
      left = map view ps;
      are_left = are_left;
      before = before;
      now = now;
      refused = rw (parts ps, histories ps, books ps) h;
    }

    pub unsettled_by : IsUnsettled (map part ps) (map history ps) (lists_of owns) (sum shares) (sum_by book ps) why
        → IsUnsettledBy cmp f entries keeps count owns shares why
    unsettled_by h = record { left = map view ps; are_left = are_left; refused = rw (parts ps, histories ps, books ps) h }
