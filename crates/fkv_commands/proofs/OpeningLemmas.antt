-- Feeds that were opened, and the bytes that their paths lead to.
use Rattle.std.proofs.Common.{◌≡◌, ◌++◌, [], ◌∷◌, ℕ, ℤ, List, Option, None, Some, Result, Ok, Err, refl, subst, ap, length, map, suc}
use Rattle.std.proofs.lemmas.Simd.{map-map}
use Rattle.std.specs.Prelude.{IfOk}
use Rattle.std.specs.List.{AllZip}
use Rattle.fkv_functions.specs.Meanings.{Meanings}
use Rattle.fkv_functions.specs.declared.names.Name.{Name}
use Rattle.fkv_feed_rows.specs.Feeds.{IsFeed}
use Rattle.fkv_feeds.specs.Tables.{AreFeeds, IsTableOf, most_rows}
use Rattle.fkv_commands.specs.Plans.{feeds_of}
use Rattle.fkv_commands.specs.Sources.{Agrees}

pub agrees-feed : (limit : ℕ) (known told : Option (List ℕ)) (rows : List (Name × ℤ)) → Agrees known told → IsFeed limit told rows
    → IsFeed limit known rows
agrees-feed limit None told rows h k = tt
agrees-feed limit (Some xs) told rows h k = subst (λ t. IsFeed limit t rows) h k

pub agree-feeds : (limit : ℕ) (known told : List (Option (List ℕ))) (rows : List (Name × ℤ)) → AllZip Agrees known told
    → AreFeeds limit told rows
    → AreFeeds limit known rows
agree-feeds limit [] [] rows h k = k
agree-feeds limit [] (t ∷ ts) rows h k = absurd h
agree-feeds limit (x ∷ xs) [] rows h k = absurd h
agree-feeds limit (x ∷ xs) (t ∷ ts) rows (h, hs) (one, others, f, rest, e) =
    (one, others, agrees-feed limit x t one h f, agree-feeds limit xs ts others hs rest, e)

-- the table of feeds that were opened is that of the paths' bytes
pub agree-table : {V O : Type 0} (f : Meanings Name V ℤ O) (known told : List (Option (List ℕ))) (pairs : List (Name × V))
    → AllZip Agrees known told
    → IsTableOf f told pairs
    → IsTableOf f known pairs
agree-table f known told pairs h made =
    record { rows = made.rows; read = agree-feeds most_rows known told made.rows h made.read; value = made.value; rising = made.rising }

pub agree-more : (xs ys : List (Option (List ℕ))) (x y : Option (List ℕ)) → AllZip Agrees xs ys → Agrees x y
    → AllZip Agrees (xs ++ x ∷ []) (ys ++ y ∷ [])
agree-more [] [] x y h k = (k, tt)
agree-more [] (b ∷ ys) x y h k = absurd h
agree-more (a ∷ xs) [] x y h k = absurd h
agree-more (a ∷ xs) (b ∷ ys) x y (h, hs) k = (h, agree-more xs ys x y hs k)

pub agree-run : {R E V O : Type 0} (f : Meanings Name V ℤ O) (table : R → List (Name × V)) (known told : List (Option (List ℕ)))
    (r : Result R E)
    → AllZip Agrees known told
    → IfOk r (λ run. IsTableOf f told (table run))
    → IfOk r (λ run. IsTableOf f known (table run))
agree-run f table known told (Ok run) h made = agree-table f known told (table run) h made
agree-run f table known told (Err e) h made = tt

-- as many feeds were opened as there are paths
pub opened-length : {A B : Type 0} (known : A → Option (List ℕ)) (told : B → Option (List ℕ)) (paths : List A) (feeds : List B)
    → AllZip Agrees (map known paths) (map told feeds)
    → length feeds ≡ length paths
opened-length known told [] [] h = refl
opened-length known told [] (f ∷ fs) h = absurd h
opened-length known told (p ∷ ps) [] h = absurd h
opened-length known told (p ∷ ps) (f ∷ fs) (h, hs) = ap (λ n. suc n) (opened-length known told ps fs hs)

pub unmapped : {A B : Type 0} (f : A → B) (xs : List A) → map f xs ≡ [] → xs ≡ []
unmapped f [] e = refl
unmapped f (x ∷ xs) e = absurd (cc)

-- where a path is named, the feeds are those of the paths
pub feeds-named : {A : Type 0} (bytes : List ℕ → Option (List ℕ)) (of : A → List ℕ) (items : List A) (input : Option (List ℕ))
    → (items ≡ [] → ⊥)
    → feeds_of bytes (map of items) input ≡ map (λ a. bytes (of a)) items
feeds-named bytes of [] input some = absurd (some refl)
feeds-named bytes of (a ∷ more) input some = ap (λ t. bytes (of a) ∷ t) (map-map bytes of more)
