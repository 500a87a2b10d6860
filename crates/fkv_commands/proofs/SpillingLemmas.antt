-- Tables that stand on a device, and what was written of them.
use Rattle.std.proofs.Common.{◌≡◌, ◌⊎◌, ⊎_elim, ℕ, ℤ, Bool, true, false, List, [], ◌∷◌, map, Option, None, Result, Ok, Err, IsTrue, refl, sym, subst, inl, inr, option_map, string_bytes}
use Rattle.std.specs.Prelude.{◌||◌, OnOk, OnErr, IfOk, IfErr}
use Rattle.std.specs.List.{AllZip}
use Rattle.std.proofs.lemmas.Bool.{cases_eq}
use Rattle.fkv_functions.specs.Codecs.{Codec}
use Rattle.fkv_functions.specs.Meanings.{Meanings}
use Rattle.fkv_functions.specs.declared.names.Name.{Name}
use Rattle.fkv_functions.specs.declared.refusals.Refused.{Refused}
use Rattle.fkv_functions.specs.declared.refusals.Refused.TheVariants.{Unwritable}
use Rattle.fkv_device.specs.Known.{Pages, are_kept}
use Rattle.fkv_device.specs.Standing.{Standing}
use Rattle.fkv_spills.specs.Reading.{IsRefusedByOne, IsUnreadable}
use Rattle.fkv_spills.specs.declared.merging.ReadMerge.{ReadMerge}
use Rattle.fkv_spills.specs.declared.rests.SpilledRest.{SpilledRest}
use Rattle.fkv_feeds.specs.Spilling.{HasTableOf}
use Rattle.fkv_feeds.specs.Writing.{IsUnwritten}
use Rattle.fkv_feeds.specs.declared.counting.Plan.{Plan}
use Rattle.fkv_feeds.specs.declared.spilling.SpilledRun.{SpilledRun}
use Rattle.fkv_requests.specs.declared.requests.TableRequest.{TableRequest}
use Rattle.fkv_commands.specs.Plans.{IsPlanOf}
use Rattle.fkv_commands.specs.Endings.{IsKnown, IsOfPages, IsSpoilt, MayBeLate}
use Rattle.fkv_commands.specs.Sources.{Agrees}
use Rattle.fkv_commands.proofs.MakingLemmas.{unkept}
use Rattle.fkv_commands.proofs.OpeningLemmas.{agree-table}

-- the table of feeds that were opened is that of the paths' bytes
pub agree-spilled : {V R P O E : Type 0} {vsize : ℕ} (value : Codec V vsize) (keeps : Bool) (stands : R → Standing) (f : Meanings Name V ℤ O)
    (known told : List (Option (List ℕ))) (r : Result (SpilledRun V R P) E)
    → AllZip Agrees known told
    → IfOk r (HasTableOf value keeps stands f told)
    → IfOk r (HasTableOf value keeps stands f known)
agree-spilled value keeps stands f known told (Ok run) h made =
    record { pairs = made.pairs; come = made.come; table = agree-table f known told made.pairs h made.table; counted = made.counted }
agree-spilled value keeps stands f known told (Err e) h made = tt

-- a page that can't be read is one of these refusals, whichever run of a merge has it
unreadable-pages : (old new : ℕ) (known : Type 0) (e : Refused) → IsUnreadable old new known e → IsOfPages e
unreadable-pages old new known e (page, inl (inl (inl memory))) = subst IsOfPages (sym memory.0) tt
unreadable-pages old new known e (page, inl (inl (inr fault))) = subst IsOfPages (sym fault.0) refl
unreadable-pages old new known e (page, inl (inr damage)) = subst IsOfPages (sym damage.0) tt
unreadable-pages old new known e (page, inr misspelled) = subst IsOfPages (sym misspelled.0) tt

by-one : {A : Type 0} (refuses : A → A → Refused → Type 0) (old new : List A) (e : Refused)
    → ((was is : A) → refuses was is e → IsOfPages e)
    → IsRefusedByOne refuses old new e
    → IsOfPages e
by-one refuses old new e each (place, was, is, before, after, refused) = each was is refused

unwritten-pages : {P : Type 0} (refuses : P → P → Refused → Type 0) (old new : Option (List ℕ)) (failed fails : ℕ) (e : Refused)
    → ((was is : P) → refuses was is e → IsOfPages e)
    → IsUnwritten refuses old new failed fails e
    → (e ≡ Unwritable) ⊎ IsOfPages e
unwritten-pages refuses old new failed fails e each (inl memory) = inr (subst IsOfPages (sym memory.0) tt)
unwritten-pages refuses old new failed fails e each (inr (inl writer)) = inl writer.0
unwritten-pages refuses old new failed fails e each (inr (inr (inl worn))) = inr (subst IsOfPages (sym worn.0) tt)
unwritten-pages refuses old new failed fails e each (inr (inr (inr (was, is, refused, steady)))) = inr (each was is refused)

abbrev IsUnreadIn : {V R P : Type 0} → (P → ℕ) → (SpilledRest V R P → Type 0) → SpilledRest V R P → SpilledRest V R P → Refused → Type 0
IsUnreadIn failures known a b e = IsUnreadable (failures a.behind.reader) (failures b.behind.reader) (known a) e

abbrev IsUnreadOf : {V R P : Type 0} → (P → ℕ) → (SpilledRest V R P → Type 0) → ReadMerge (SpilledRest V R P) → ReadMerge (SpilledRest V R P)
    → Refused → Type 0
IsUnreadOf failures known a b e = IsRefusedByOne (IsUnreadIn failures known) a.rests.items b.rests.items e

pub merged-pages : {V R P : Type 0} (failures : P → ℕ) (known : SpilledRest V R P → Type 0) (old new : Option (List ℕ)) (failed fails : ℕ)
    (e : Refused)
    → IsUnwritten {P = ReadMerge (ReadMerge (SpilledRest V R P))} (λ a b x. IsRefusedByOne (IsUnreadOf failures known) a.rests.items b.rests.items x)
    old new failed fails e
    → (e ≡ Unwritable) ⊎ IsOfPages e
merged-pages failures known old new failed fails e h =
    unwritten-pages (λ a b x. IsRefusedByOne (IsUnreadOf failures known) a.rests.items b.rests.items x) old new failed fails e
    (λ was is refused. by-one (IsUnreadOf failures known) was.rests.items is.rests.items e
    (λ a b one. by-one (IsUnreadIn failures known) a.rests.items b.rests.items e
    (λ x y unread. unreadable-pages (failures x.behind.reader) (failures y.behind.reader) (known x) e unread) one) refused)
    h

-- whether the table is known
nil-or-not : {A : Type 0} (xs : List A) → (xs ≡ []) ⊎ (xs ≡ [] → ⊥)
nil-or-not [] = inl refl
nil-or-not (x ∷ xs) = inr (λ e. absurd (cc))

true-or-not : (b : Bool) → (b ≡ true) ⊎ (b ≡ true → ⊥)
true-or-not true = inl refl
true-or-not false = inr (λ e. absurd (cc))

pub known-or-not : (table : TableRequest) → IsKnown table ⊎ (IsKnown table → ⊥)
known-or-not table = elim (nil-or-not (map string_bytes table.paths.items)) [
  | inl none ↦ inl (inl none)
  | inr some ↦ elim (true-or-not table.audit) [
    | inl audited ↦ inl (inr (inl audited))
    | inr not ↦ elim (cases_eq table.workers 1) [
      | inl one ↦ inl (inr (inr one))
      | inr others ↦ inr (λ known. ⊎_elim (λ a. some a) (λ rest. ⊎_elim (λ b. not b) (λ w. others w) rest) known)
    ]
  ]
]

-- what comes of pairs that are read back: where these are known it is the table, and else some rows
written : {V : Type 0} (keeps : Bool) (Known : Type 0) (Table Text : List V → Type 0)
    → Known ⊎ (Known → ⊥)
    → (IsTrue keeps → Known → (xs : List V) × Table xs × Text xs)
    → ((xs : List V) × Text xs)
    → (xs : List V) × (IsTrue keeps → Known → Table xs) × Text xs
written true Known Table Text (inl sure) known some = let h = known refl sure in (h.0, (λ _ _. h.1), h.2)
written true Known Table Text (inr not) known some = (some.0, (λ _ sure. absurd (not sure)), some.1)
written false Known Table Text decided known some = (some.0, (λ keeps _. let bad : false ≡ true = keeps in absurd (cc)), some.1)

pub written-whole : {T E V : Type 0} (r : Result T E) (keeps : Bool) (Known : Type 0) (Come Table Whole Front : List V → Type 0)
    → Known ⊎ (Known → ⊥)
    → ((xs : List V) → Come xs → OnOk r (Whole xs))
    → ((xs : List V) × OnOk r (Whole xs) × OnErr r (Front xs))
    → (IsTrue keeps → Known → (xs : List V) × Come xs × Table xs)
    → OnOk r ((xs : List V) × (IsTrue keeps → Known → Table xs) × Whole xs)
written-whole (Ok t) keeps Known Come Table Whole Front decided whole some known =
    written keeps Known Table Whole decided (λ k sure. let h = known k sure in (h.0, h.2, whole h.0 h.1)) (some.0, some.1)
written-whole (Err e) keeps Known Come Table Whole Front decided whole some known = tt

pub written-front : {T E V : Type 0} (r : Result T E) (keeps : Bool) (Known : Type 0) (Come Table Whole Front : List V → Type 0)
    → Known ⊎ (Known → ⊥)
    → ((xs : List V) → Come xs → OnErr r (Front xs))
    → ((xs : List V) × OnOk r (Whole xs) × OnErr r (Front xs))
    → (IsTrue keeps → Known → (xs : List V) × Come xs × Table xs)
    → OnErr r ((xs : List V) × (IsTrue keeps → Known → Table xs) × Front xs)
written-front (Ok t) keeps Known Come Table Whole Front decided front some known = tt
written-front (Err e) keeps Known Come Table Whole Front decided front some known =
    written keeps Known Table Front decided (λ k sure. let h = known k sure in (h.0, h.2, front h.0 h.1)) (some.0, some.2)

-- facts of an answer, side by side
pub at-err : {T E : Type 0} (r : Result T E) (e : E) (X : Type 0) → OnErr r X → r ≡ Err e → X
at-err (Ok t) e X h is = absurd (cc)
at-err (Err other) e X h is = h

pub or-front : {T E : Type 0} (r : Result T E) (Same X : Type 0) → OnErr r X → OnErr r (Same ⊎ X)
or-front (Ok t) Same X h = tt
or-front (Err e) Same X h = inr h

pub or-same : {T : Type 0} (r : Result T Refused) (Same : Type 0) → IfErr r (λ e. (e ≡ Unwritable) ⊎ IsOfPages e)
    → IfErr r (λ e. (e ≡ Unwritable) ⊎ IsOfPages e ⊎ Same)
or-same (Ok t) Same h = tt
or-same (Err e) Same (inl u) = inl u
or-same (Err e) Same (inr pages) = inr (inl pages)

pub or-late : {T : Type 0} (r : Result T Refused) (table : TableRequest) (Same : Type 0) → table.spill ≡ true
    → IfErr r (λ e. (e ≡ Unwritable) ⊎ IsOfPages e ⊎ Same)
    → IfErr r (λ e. MayBeLate table e ⊎ Same)
or-late (Ok t) table Same is h = tt
or-late (Err e) table Same is (inl u) = inl (inl u)
or-late (Err e) table Same is (inr (inl pages)) = inl (inr (is, pages))
or-late (Err e) table Same is (inr (inr same)) = inr same

pub both-steady : {T E : Type 0} (r : Result T E) (A B : Type 0) → A → OnOk r B → OnOk r (A × B)
both-steady (Ok t) A B a b = (a, b)
both-steady (Err e) A B a b = tt

pub planned : {T E : Type 0} (plan : T → Plan) (run : Plan) (table : TableRequest) (r : Result T E)
    → IfOk r (λ ran. plan ran ≡ run)
    → IsPlanOf table run
    → IfOk r (λ ran. IsPlanOf table (plan ran))
planned plan run table (Ok ran) is by = subst (λ p. IsPlanOf table p) (sym is) by
planned plan run table (Err e) is by = tt

-- the table, where the device keeps, or what spoils it
pub table-or-spoilt : (T : Type 0) (absent : Bool) (pages : Option Pages) (table : TableRequest)
    → (option_map string_bytes table.folder ≡ None → IsTrue absent)
    → (IsTrue (absent || are_kept pages) → T)
    → T ⊎ IsSpoilt pages table
table-or-spoilt T true pages table unnamed made = inl (made refl)
table-or-spoilt T false pages table unnamed made = go (are_kept pages) refl
  where
    go : (b : Bool) → b ≡ are_kept pages → T ⊎ IsSpoilt pages table
    go true e = inl (made (sym e))
    go false e = inr ((λ none. let bad : false ≡ true = unnamed none in absurd (cc)), unkept pages (sym e))
