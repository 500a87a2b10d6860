-- Feeds that are read one after the other.
use Rattle.std.proofs.Common.{◌≡◌, Bool, IsTrue, ◌⊎◌, ℕ, zero, suc, ◌+◌, ◌-◌, inl, inr, ℤ, List, [], ◌∷◌, ◌++◌, length, map, take, drop, Option, Some, slice_get, slice_set, get_or, refl, sym, ◌∙◌, ap, subst, arith, append_assoc}
use Rattle.std.proofs.lemmas.List.{append-nil}
use Rattle.std.specs.Prelude.{slice_index}
use Rattle.fkv_functions.specs.declared.names.Name.{Name}
use Rattle.fkv_functions.specs.declared.refusals.Refused.{Refused}
use Rattle.fkv_functions.specs.declared.refusals.Refused.TheVariants.{NoMemory, BadConfig, Worn, BadRow, Unreadable, Device, Damaged}
use Rattle.fkv_streams.specs.Counting.{one_more}
use Rattle.fkv_feed_rows.specs.Feeds.{IsFeed, TellsUnread, TellsWhy}
use Rattle.fkv_feeds.specs.Tables.{AreFeeds, most_rows}
use Rattle.std.specs.Prelude.{Result, Ok, Err, IfOk, IfErr, OnOk}
use Rattle.fkv_partition.specs.declared.limits.Config.{Config}
use Rattle.fkv_device.specs.Failing.{FailsOnlyBy, ReadFailsBy}
use Rattle.fkv_hybrid.specs.Scans.{IsScanRefusal}
use Rattle.fkv_local.specs.Causing.{IsCausedBy}
use Rattle.fkv_local.specs.Listing.{ListsView, IsUnlisted}
use Rattle.fkv_feeds.specs.Faults.{IsFault, IsDeviceFault}
use Rattle.fkv_feeds.specs.Refusing.{IsRowRefusal, IsReached, counted_at, TellsStopped, TellsWhyNone}

-- ---- lists
split-map : {S A : Type 0} (f : S → A) (xs : List S) (i : ℕ) (x : S) → slice_get xs i ≡ Some x → map f xs ≡ map f (take i xs) ++ f x ∷ map f (drop (suc i) xs)
split-map f [] i x h = absurd (cc)
split-map f (y ∷ ys) zero x h = let same : y ≡ x = cc in ap (λ z. f z ∷ map f ys) same
split-map f (y ∷ ys) (suc i) x h = ap (λ zs. f y ∷ zs) (split-map f ys i x h)

front-map : {S A : Type 0} (f : S → A) (xs : List S) (i : ℕ) (x : S) → slice_get xs i ≡ Some x → map f (take (suc i) xs) ≡ map f (take i xs) ++ f x ∷ []
front-map f [] i x h = absurd (cc)
front-map f (y ∷ ys) zero x h = let same : y ≡ x = cc in ap (λ z. f z ∷ []) same
front-map f (y ∷ ys) (suc i) x h = ap (λ zs. f y ∷ zs) (front-map f ys i x h)

map-set : {S A : Type 0} (f : S → A) (xs : List S) (i : ℕ) (y : S) → map f (slice_set xs i y) ≡ slice_set (map f xs) i (f y)
map-set f [] i y = refl
map-set f (x ∷ xs) zero y = refl
map-set f (x ∷ xs) (suc i) y = ap (λ zs. f x ∷ zs) (map-set f xs i y)

set-same : {S A : Type 0} (f : S → A) (xs : List S) (i : ℕ) (x : S) (a : A) → slice_get xs i ≡ Some x → a ≡ f x → slice_set (map f xs) i a ≡ map f xs
set-same f [] i x a h e = refl
set-same f (y ∷ ys) zero x a h e = let same : y ≡ x = cc in ap (λ b. b ∷ map f ys) (e ∙ ap f (sym same))
set-same f (y ∷ ys) (suc i) x a h e = ap (λ zs. f y ∷ zs) (set-same f ys i x a h e)

drop-set : {S : Type 0} (xs : List S) (i : ℕ) (y : S) → drop (suc i) (slice_set xs i y) ≡ drop (suc i) xs
drop-set [] i y = refl
drop-set (x ∷ xs) zero y = refl
drop-set (x ∷ xs) (suc i) y = drop-set xs i y

drop-next : {S : Type 0} (xs : List S) (i : ℕ) → drop (suc i) xs ≡ drop 1 (drop i xs)
drop-next [] zero = refl
drop-next [] (suc i) = refl
drop-next (x ∷ xs) zero = refl
drop-next (x ∷ xs) (suc i) = drop-next xs i

first-dropped : {S : Type 0} (xs : List S) (i : ℕ) → slice_get xs i ≡ slice_get (drop i xs) 0
first-dropped [] zero = refl
first-dropped [] (suc i) = refl
first-dropped (x ∷ xs) zero = refl
first-dropped (x ∷ xs) (suc i) = first-dropped xs i

pub unread-here : {S : Type 0} (xs ys : List S) (i : ℕ) (x : S) → drop i xs ≡ drop i ys → slice_get xs i ≡ Some x → slice_get ys i ≡ Some x
unread-here xs ys i x e h = first-dropped ys i ∙ ap (λ zs. slice_get zs 0) (sym e) ∙ sym (first-dropped xs i) ∙ h

pub unread-next : {S : Type 0} (xs ys : List S) (i : ℕ) (y : S) → drop i xs ≡ drop i ys → drop (i + 1) (slice_set xs i y) ≡ drop (i + 1) ys
unread-next xs ys i y e =
    let one : i + 1 ≡ suc i = omega arith in
    rw one (drop-set xs i y ∙ drop-next xs i ∙ ap (drop 1) e ∙ sym (drop-next ys i))

pub counts-kept : {S : Type 0} (fails : S → ℕ) (xs : List S) (i : ℕ) (x y : S) → slice_get xs i ≡ Some x → fails y ≡ fails x → map fails (slice_set xs i y) ≡ map fails xs
counts-kept fails xs i x y h e = map-set fails xs i y ∙ set-same fails xs i x (fails y) h e

get-map : {S : Type 0} (fails : S → ℕ) (xs : List S) (i : ℕ) (x : S) → slice_get xs i ≡ Some x → get_or (map fails xs) i 0 ≡ fails x
get-map fails [] i x h = absurd (cc)
get-map fails (y ∷ ys) zero x h = let same : y ≡ x = cc in ap fails same
get-map fails (y ∷ ys) (suc i) x h = get-map fails ys i x h

length-front : {S A : Type 0} (f : S → A) (xs : List S) (i : ℕ) (x : S) → slice_get xs i ≡ Some x → length (map f (take i xs)) ≡ i
length-front f [] i x h = absurd (cc)
length-front f (y ∷ ys) zero x h = refl
length-front f (y ∷ ys) (suc i) x h = ap suc (length-front f ys i x h)

-- ---- one feed more
feeds-more : (limit : ℕ) (texts : List (Option (List ℕ))) (rows : List (Name × ℤ)) (text : Option (List ℕ)) (more : List (Name × ℤ)) → AreFeeds limit texts rows → IsFeed limit text more → AreFeeds limit (texts ++ text ∷ []) (rows ++ more)
feeds-more limit [] rows text more h g = (more, [], g, refl, rw h (sym (append-nil more)))
feeds-more limit (t ∷ ts) rows text more (first, others, f, h, e) g = (first, others ++ more, f, feeds-more limit ts others text more h g, rw e (append_assoc first others more))

pub feeds-next : {S : Type 0} (rem : S → Option (List ℕ)) (xs : List S) (i : ℕ) (x : S) (rows more : List (Name × ℤ)) → slice_get xs i ≡ Some x → AreFeeds most_rows (map rem (take i xs)) rows → IsFeed most_rows (rem x) more → AreFeeds most_rows (map rem (take (i + 1) xs)) (rows ++ more)
feeds-next rem xs i x rows more h before one =
    let next : i + 1 ≡ suc i = omega arith in
    subst (λ ts. AreFeeds most_rows ts (rows ++ more)) (sym (ap (λ n. map rem (take n xs)) next ∙ front-map rem xs i x h)) (feeds-more most_rows (map rem (take i xs)) rows (rem x) more before one)

-- ---- a feed that is refused
module _ {S : Type 0} (rem : S → Option (List ℕ)) (fails : S → ℕ) (xs : List S) (i : ℕ) (x : S) (h : slice_get xs i ≡ Some x) (rows : List (Name × ℤ)) (before : AreFeeds most_rows (map rem (take i xs)) rows) where
  reached : IsReached (map rem xs) (i + 1) (rem x)
  reached = record {
    before = map rem (take i xs);
    after = map rem (drop (suc i) xs);
    whole = split-map rem xs i x h;
    number = (let l = length-front rem xs i x h in omega arith);
    rows = rows;
    good = before;
  }

  counted : (ys : List S) (y : S) → map fails ys ≡ map fails xs → slice_get ys i ≡ Some x → fails y ≡ one_more (fails x) → map fails (slice_set ys i y) ≡ counted_at (i + 1) (map fails xs)
  counted ys y same here e =
      let less : i + 1 - 1 ≡ i = omega arith in
      map-set fails ys i y ∙ ap (λ zs. slice_set zs i (fails y)) same ∙ ap (slice_set (map fails xs) i) (e ∙ ap one_more (sym (get-map fails xs i x h)))
      ∙ ap (λ n. slice_set (map fails xs) n (one_more (slice_index (map fails xs) n))) (sym less)

  pub stopped : (fault : Refused → Type 0) (ys : List S) (y : S) (e : Refused) → map fails ys ≡ map fails xs → slice_get ys i ≡ Some x → TellsWhy fault (i + 1) most_rows (rem x) (fails x) (fails y) e → TellsStopped fault (map rem xs) (map fails xs) (map fails (slice_set ys i y)) e
  stopped fault ys y NoMemory same here t = counts-kept fails ys i x y here t ∙ same
  stopped fault ys y Worn same here t = counts-kept fails ys i x y here t ∙ same
  stopped fault ys y (Device code page) same here t = (counts-kept fails ys i x y here t.0 ∙ same, t.1)
  stopped fault ys y (Damaged page) same here t = (counts-kept fails ys i x y here t.0 ∙ same, t.1)
  stopped fault ys y (BadRow f n) same here t = (counts-kept fails ys i x y here t.0 ∙ same, rem x, subst (λ m. IsReached (map rem xs) m (rem x)) (sym t.1) reached, t.2)
  stopped fault ys y (Unreadable f) same here t = (
    rem x,
    subst (λ m. IsReached (map rem xs) m (rem x)) (sym t.0) reached,
    elim t.1 [
      | inl a ↦ inl (subst (λ m. map fails (slice_set ys i y) ≡ counted_at m (map fails xs)) (sym t.0) (counted ys y same here a))
      | inr b ↦ inr (counts-kept fails ys i x y here b.0 ∙ same, b.1)
    ],
  )
  stopped fault ys y other same here t = absurd t

-- ---- tables and refusals of runs
pub why_none : (fault : Refused → Type 0) (config : Config) (size : ℕ) (feeds : List (Option (List ℕ))) (old new : List ℕ) (e : Refused) → TellsStopped fault feeds old new e → TellsWhyNone fault config size feeds old new e
why_none fault config size feeds old new BadConfig t = absurd t
why_none fault config size feeds old new other t = t

pub both_ok : {T E : Type 0} {P Q : T → Type 0} (R : T → Type 0) (r : Result T E) → IfOk r P → IfOk r Q → ((v : T) → P v → Q v → R v) → IfOk r R
both_ok R (Ok v) p q f = f v p q
both_ok R (Err e) p q f = tt

-- a device tells these alone, and want of memory
abbrev pub IsOfDevice : Refused → Type 0
IsOfDevice e = (e ≡ NoMemory) ⊎ ((code : ℕ) × (page : ℕ) × (e ≡ Device code page)) ⊎ ((page : ℕ) × (e ≡ Damaged page))

pub stopped-by : (fault : Refused → Type 0) (feeds : List (Option (List ℕ))) (old new : List ℕ) (e : Refused) → new ≡ old → fault e → IsOfDevice e → TellsStopped fault feeds old new e
stopped-by fault feeds old new e same f why = elim why [
  | inl a ↦ rw a same
  | inr b ↦ elim b [
    | inl d ↦ (let g = rw d.2 at f in rw d.2 (same, g))
    | inr d ↦ (let g = rw d.1 at f in rw d.1 (same, g))
  ]
]

-- of a row that was refused
row-told : (fault : Refused → Type 0) (feed limit : ℕ) (bytes : Option (List ℕ)) (old new : ℕ) (e : Refused) → (fault e → IsOfDevice e) → new ≡ old
    → IsRowRefusal fault e
    → TellsWhy fault feed limit bytes old new e
row-told fault feed limit bytes old new e shape same why = elim why [
  | inl a ↦ rw a same
  | inr b ↦ elim b [
    | inl a ↦ rw a same
    | inr f ↦ elim (shape f) [
      | inl a ↦ rw a same
      | inr m ↦ elim m [
        | inl n ↦ (let g = rw n.2 at f in rw n.2 (same, g))
        | inr n ↦ (let g = rw n.1 at f in rw n.1 (same, g))
      ]
    ]
  ]
]

unread-told : (fault : Refused → Type 0) (feed limit : ℕ) (bytes : Option (List ℕ)) (old new : ℕ) (e : Refused) → TellsUnread feed limit bytes old new e → TellsWhy fault feed limit bytes old new e
unread-told fault feed limit bytes old new Worn t = absurd t
unread-told fault feed limit bytes old new (Device code page) t = absurd t
unread-told fault feed limit bytes old new (Damaged page) t = absurd t
unread-told fault feed limit bytes old new other t = t

-- of a feed that was not read into partitions
pub feed-told : (fault : Refused → Type 0) (feed limit : ℕ) (bytes : Option (List ℕ)) (old new : ℕ) (e : Refused) → (fault e → IsOfDevice e)
    → (IsRowRefusal fault e × (new ≡ old)) ⊎ TellsUnread feed limit bytes old new e
    → TellsWhy fault feed limit bytes old new e
feed-told fault feed limit bytes old new e shape (inl why) = row-told fault feed limit bytes old new e shape why.1 why.0
feed-told fault feed limit bytes old new e shape (inr t) = unread-told fault feed limit bytes old new e t

opens-by : (old new : ℕ) (e : Refused) → FailsOnlyBy 1 0 old new e → IsOfDevice e
opens-by old new e f = elim f [ inl a ↦ inl a.0 | inr b ↦ inr (inl (1, 0, b.0)) ]

pub reads-by : (page old new : ℕ) (e : Refused) → ReadFailsBy page old new e → IsOfDevice e
reads-by page old new e f = elim f [
  | inl a ↦ elim a [ inl b ↦ inl b.0 | inr b ↦ inr (inl (3, page, b.0)) ]
  | inr b ↦ inr (inr (page, b.0))
]

scans-by : (keeps : Bool) (low flushed old new : ℕ) (e : Refused) → IsScanRefusal keeps low flushed old new e → IsOfDevice e
scans-by keeps low flushed old new e (IsScanRefusal.memory a b) = inl a
scans-by keeps low flushed old new e (IsScanRefusal.at_page {page} a b why) = elim why [
  | inl r ↦ reads-by page old new e r
  | inr s ↦ inr (inr (page, s.1))
]

faults-by : (keeps : Bool) (w w' r r' : ℕ) (e : Refused) → IsFault keeps w w' r r' e → IsOfDevice e
faults-by keeps w w' r r' e (IsFault.unwritten page f s) = elim f [ inl a ↦ inl a.0 | inr b ↦ inr (inl (2, page, b.0)) ]
faults-by keeps w w' r r' e (IsFault.unread page f s) = reads-by page r r' e f
faults-by keeps w w' r r' e (IsFault.misspelled page s d a b) = inr (inr (page, d))

pub devices-by : {D W R A B : Type 0} (keeps : Bool) (opens : D → ℕ) (writes : W → ℕ) (reads : R → ℕ) (e : Refused) → IsDeviceFault keeps opens writes reads A B e → IsOfDevice e
devices-by keeps opens writes reads e (IsDeviceFault.unopened old new f) = opens-by (opens old) (opens new) e f
devices-by keeps opens writes reads e (IsDeviceFault.unworked old new before now f caused) = faults-by keeps (writes old) (writes new) (reads before) (reads now) e f
devices-by keeps opens writes reads e (IsDeviceFault.unlisted low flushed before now f caused) = scans-by keeps low flushed (reads before) (reads now) e f

-- for want of memory at the end a run is refused as where its device is not opened for it
pub ended-by : {D W R L M I A B : Type 0} (keeps : Bool) (opens : D → ℕ) (writes : W → ℕ) (reads : R → ℕ) (device : D) (e : Refused)
    → (e ≡ NoMemory) ⊎ ((was : ListsView L M I R) × (readers : List R) × IsUnlisted keeps reads was.parts was.readers readers e × (IsTrue keeps → IsCausedBy A B e)) → IsDeviceFault keeps opens writes reads A B e
ended-by keeps opens writes reads device e (inl none) = IsDeviceFault.unopened device device (inl (none, refl))
ended-by keeps opens writes reads device e (inr h) = IsDeviceFault.unlisted _ _ h.2.1.reader h.2.1.reader_now h.2.1.refused h.3

-- ---- what several clauses say of one result
pub two_ok : {A E P Q R : Type 0} (r : Result A E) → OnOk r P → OnOk r Q → (P → Q → R) → OnOk r R
two_ok (Ok v) p q f = f p q
two_ok (Err e) p q f = tt

pub err_weaker : {A E : Type 0} {P : E → Type 0} (Q : E → Type 0) (r : Result A E) → ((e : E) → P e → Q e) → IfErr r P → IfErr r Q
err_weaker Q (Ok v) f p = tt
err_weaker Q (Err e) f p = f e p
