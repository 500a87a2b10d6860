-- What readers count while an operation runs.
use Rattle.std.proofs.Common.{◌≡◌, ◌≢◌, ◌+◌, ◌<◌, ◌≤◌, ◌⊎◌, refl, inl, inr, ℕ, Bool, IsTrue, Result, Ok, Err, Option, Some, None, List, [], ◌∷◌, zero, suc, length, map, get_or, slice_index, slice_set, sym, ap, subst, ◌∙◌, arith, add-zero}
use Rattle.std.specs.Prelude.{IfErr, OnOk, OnErr}
use Rattle.std.proofs.lemmas.List.{set-get_or, map-set}
use Rattle.fkv_functions.specs.declared.refusals.Refused.{Refused}
use Rattle.fkv_functions.specs.declared.refusals.Refused.TheVariants.{NoMemory, NoSlot, Unknown, Stranger, Worn, Device, Damaged, Stalled}
use Rattle.fkv_functions.specs.declared.refusals.What.TheVariants as what
use Rattle.fkv_device.specs.Failing.{ReadFailsBy}
use Rattle.fkv_store.specs.Stores.{StoreView, IsUndone, IsUnturned, IsUntidy, IsUnrefreshed, IsUnentered, IsPageFault}
use Rattle.fkv_store.specs.Passes.{PassView, IsStrange}
use Rattle.fkv_store.specs.Runs.{TurnsView, IsSaid, IsCounted, AreCounted, AreSteady, fault_in, faults_of}

-- ---- what is no fault of a page
pub undone-plain : (known : ℕ) (why : Refused) → IsUndone known why → IsPageFault why → ⊥
undone-plain known (Device code page) h f = h
undone-plain known (Damaged page) h f = h
undone-plain known other h f = f

module _ (keeps : Bool) (before now missed : ℕ) where
  pub plain-counted : (why : Refused) → (IsPageFault why → ⊥) → now ≡ before + missed → IsCounted keeps before now missed why
  plain-counted (Device code page) f n = inr (f, n)
  plain-counted (Damaged page) f n = absurd (f tt)
  plain-counted other f n = n

  pub fault-counted : (why : Refused) → IsPageFault why → now ≡ before + missed + 1 → IsCounted keeps before now missed why
  fault-counted (Device code page) f n = inl (f, n)
  fault-counted (Damaged page) f n = inl n
  fault-counted other f n = absurd f

  pub misspelled-counted : (why : Refused) (page : ℕ) → (IsTrue keeps → ⊥) → why ≡ Damaged page → now ≡ before + missed
      → IsCounted keeps before now missed why
  misspelled-counted why page lost is n = subst (IsCounted keeps before now missed) (sym is) (inr (lost, n))

-- ---- a page that was asked for
read-counted : (page old now : ℕ) (why : Refused) → ReadFailsBy page old now why → IsPageFault why → now ≡ old + 1
read-counted page old now why (inl (inl memory)) f = absurd (subst IsPageFault memory.0 f)
read-counted page old now why (inl (inr device)) f = device.1
read-counted page old now why (inr damaged) f = damaged.1

read-faults : (page old now : ℕ) (why : Refused) → ReadFailsBy page old now why → now ≡ old + faults_of (Some why)
read-faults page old now why (inl (inl memory)) = rw memory.0 (memory.1 ∙ sym (add-zero old))
read-faults page old now why (inl (inr device)) = rw device.0 device.1
read-faults page old now why (inr damaged) = rw damaged.0 damaged.1

module _ {A : Type 0} where
  pub came-faults : (came : Result A Refused) (page old now : ℕ) → OnOk came (now ≡ old) → IfErr came (ReadFailsBy page old now)
      → now ≡ old + faults_of (fault_in came)
  came-faults (Ok x) page old now steady counted = steady ∙ sym (add-zero old)
  came-faults (Err why) page old now steady counted = read-faults page old now why counted

  came-told : (came : Result A Refused) (page old now : ℕ) (why : Refused) → IfErr came (ReadFailsBy page old now)
      → fault_in came ≡ Some why → IsPageFault why → now ≡ old + 1
  came-told (Ok x) page old now why counted is f = absurd (cc)
  came-told (Err e) page old now why counted is f =
      let same : e ≡ why = cc in
      read-counted page old now why (subst (ReadFailsBy page old now) same counted) f

  pub said-counted : (keeps : Bool) (came : Result A Refused) (page before old now missed missed_now : ℕ) (why : Refused)
      → OnOk came (now ≡ old) → IfErr came (ReadFailsBy page old now)
      → old ≡ before + missed
      → IsSaid keeps (fault_in came) missed missed_now why
      → IsCounted keeps before now missed_now why
  said-counted keeps came page before old now missed missed_now why steady counted start (IsSaid.told is f same) =
      let one = came-told came page old now why counted is f in
      fault-counted keeps before now missed_now why f (omega arith)
  said-counted keeps came page before old now missed missed_now why steady counted start (IsSaid.misspelled at lost none is same) =
      let all = came-faults came page old now steady counted in
      let zero : faults_of (fault_in came) ≡ 0 = ap faults_of none in
      misspelled-counted keeps before now missed_now why at lost is (omega arith)
  said-counted keeps came page before old now missed missed_now why steady counted start (IsSaid.passed f more) =
      let all = came-faults came page old now steady counted in
      plain-counted keeps before now missed_now why f (omega arith)

none-fault : {A : Type 0} (came : Result A Refused) (why : Refused) → fault_in came ≡ None → came ≡ Err why → ⊥
none-fault came why none is = let bad : None ≡ Some why = sym none ∙ ap fault_in is in absurd (cc)

-- why a load is refused that tells a fault
pub said-fault : {A T : Type 0} (keeps : Bool) (came : Result A Refused) (fault : Option Refused) (result : Result T Refused) (refused why : Refused) (missed : ℕ)
    → fault ≡ fault_in came
    → IsPageFault why
    → (IsPageFault why → (why ≡ refused) × ((fault ≡ Some why) ⊎ ((fault ≡ None) × ((page : ℕ) × (why ≡ Damaged page)))))
    → result ≡ Err refused
    → (IsTrue keeps → (page : ℕ) → result ≡ Err (Damaged page) → came ≡ Err (Damaged page))
    → IsSaid keeps (fault_in came) missed missed why
said-fault keeps came fault result refused why missed same f cause is undamaged = by (cause f).1
  where
    by : (fault ≡ Some why) ⊎ ((fault ≡ None) × ((page : ℕ) × (why ≡ Damaged page))) → IsSaid keeps (fault_in came) missed missed why
    by (inl told) = IsSaid.told (sym same ∙ told) f refl
    by (inr bad) = IsSaid.misspelled bad.1.0
        (λ k. none-fault came (Damaged bad.1.0) (sym same ∙ bad.0) (undamaged k bad.1.0 (is ∙ ap (λ e. Err e) (sym (cause f).0 ∙ bad.1.1)))) (sym same ∙ bad.0) bad.1.1 refl

-- ---- turns
pub faults-few : (fault : Option Refused) → faults_of fault ≤ 1
faults-few None = omega arith
faults-few (Some NoMemory) = omega arith
faults-few (Some why) = omega arith

module _ {T : Type 0} where
  pub go-steady : (r : Result T Refused) (old new : TurnsView) (n before : ℕ) → OnOk r (new ≡ record old { count = old.count + 1 })
      → n ≡ before + old.missed → OnOk r (n ≡ before + new.missed)
  go-steady (Ok x) old new n before h start = start ∙ ap (λ (t : TurnsView). before + t.missed) (sym h)
  go-steady (Err e) old new n before h start = tt

  pub go-missed : (r : Result T Refused) (old new : TurnsView) → OnOk r (new ≡ record old { count = old.count + 1 }) → OnErr r (new ≡ old)
      → new.missed ≡ old.missed
  go-missed (Ok x) old new h same = ap (λ (t : TurnsView). t.missed) h
  go-missed (Err e) old new h same = ap (λ (t : TurnsView). t.missed) same

  pub go-few : (r : Result T Refused) (old new : TurnsView) → OnOk r (new ≡ record old { count = old.count + 1 })
      → old.missed ≤ old.count → OnOk r (new.missed ≤ new.count)
  go-few (Ok x) old new h few =
      let m : new.missed ≡ old.missed = ap (λ (t : TurnsView). t.missed) h in
      let n : new.count ≡ old.count + 1 = ap (λ (t : TurnsView). t.count) h in omega arith
  go-few (Err e) old new h few = tt

  pub go-read : (keeps : Bool) (known : ℕ) (r : Result T Refused) (old new : TurnsView) (n before : ℕ) → OnErr r (new ≡ old)
      → IfErr r (IsUndone known) → n ≡ before + old.missed → IfErr r (IsCounted keeps before n new.missed)
  go-read keeps known (Ok x) old new n before same only start = tt
  go-read keeps known (Err why) old new n before same only start =
      plain-counted keeps before n new.missed why (undone-plain known why only) (start ∙ ap (λ (t : TurnsView). before + t.missed) (sym same))

  -- what was built is installed
  pub install-read : (keeps : Bool) (known : ℕ) (r : Result T Refused) (n before missed : ℕ) → IfErr r (IsUndone known) → n ≡ before + missed
      → IfErr r (IsCounted keeps before n missed)
  install-read keeps known (Ok x) n before missed only start = tt
  install-read keeps known (Err why) n before missed only start = plain-counted keeps before n missed why (undone-plain known why only) start

  pub on-ok : {P : Type 0} (r : Result T Refused) → P → OnOk r P
  on-ok (Ok x) p = p
  on-ok (Err e) p = tt

  pub undone-unturned : (known : ℕ) (r : Result T Refused) → IfErr r (IsUndone known) → IfErr r (IsUnturned known)
  undone-unturned known (Ok x) h = tt
  undone-unturned known (Err why) h = inl h

  module _ {A : Type 0} (r : Result T Refused) (came : Result A Refused) (page was now before : ℕ) (old new : TurnsView)
      (steady : OnOk came (now ≡ was)) (counted : IfErr came (ReadFailsBy page was now)) (start : was ≡ before + old.missed) where
    pub load-steady : OnOk r (new ≡ record { count = old.count + 1; missed = old.missed + faults_of (fault_in came) })
        → OnOk r (now ≡ before + new.missed)
    load-steady h = by r h
      where
        by : (q : Result T Refused) → OnOk q (new ≡ record { count = old.count + 1; missed = old.missed + faults_of (fault_in came) })
            → OnOk q (now ≡ before + new.missed)
        by (Ok x) is =
            let all = came-faults came page was now steady counted in
            let m : new.missed ≡ old.missed + faults_of (fault_in came) = ap (λ (t : TurnsView). t.missed) is in omega arith
        by (Err e) is = tt

    pub load-read : (keeps : Bool) → IfErr r (IsSaid keeps (fault_in came) old.missed new.missed) → IfErr r (IsCounted keeps before now new.missed)
    load-read keeps h = by r h
      where
        by : (q : Result T Refused) → IfErr q (IsSaid keeps (fault_in came) old.missed new.missed) → IfErr q (IsCounted keeps before now new.missed)
        by (Ok x) is = tt
        by (Err why) is = said-counted keeps came page before was now old.missed new.missed why steady counted start is

  pub load-few : (r : Result T Refused) (fault : Option Refused) (old new : TurnsView)
      → OnOk r (new ≡ record { count = old.count + 1; missed = old.missed + faults_of fault }) → old.missed ≤ old.count → OnOk r (new.missed ≤ new.count)
  load-few (Ok x) fault old new h few =
      let m : new.missed ≡ old.missed + faults_of fault = ap (λ (t : TurnsView). t.missed) h in
      let n : new.count ≡ old.count + 1 = ap (λ (t : TurnsView). t.count) h in
      let one = faults-few fault in omega arith
  load-few (Err e) fault old new h few = tt

-- ---- waits
pub waited-plain : (why : Refused) → IsUntidy why ⊎ IsUnrefreshed why → IsPageFault why → ⊥
waited-plain (Device code page) (inl h) f = (let two : code ≡ 2 = h in let three : code ≡ 3 = f in absurd (omega arith))
waited-plain (Device code page) (inr h) f = h
waited-plain (Damaged page) (inl h) f = h
waited-plain (Damaged page) (inr h) f = h
waited-plain other h f = f

-- ---- the readers of a pass
pub none-counted : (keeps : Bool) (home : ℕ) (old : List ℕ) (missed : ℕ) (why : Refused) → missed ≡ 0 → (IsPageFault why → ⊥)
    → AreCounted keeps home old old missed why
none-counted keeps home old missed why none f = (
  slice_index old home,
  plain-counted keeps (slice_index old home) (slice_index old home) missed why f (omega arith),
  sym (set-get_or old home 0),
)

pub none-steady : (home : ℕ) (old : List ℕ) (missed : ℕ) → missed ≡ 0 → AreSteady home old old missed
none-steady home old missed none =
    let same : slice_index old home + missed ≡ slice_index old home = omega arith in
    rw same (sym (set-get_or old home 0))

-- one of them read, and failed so often meanwhile
here : {P : Type 0} (failures : P → ℕ) (ps : List P) (home : ℕ) (p : P) → home < length ps → p ≡ get_or ps home p
    → failures p ≡ slice_index (map failures ps) home
here failures [] home p within at = absurd (omega arith)
here failures (q ∷ ps) zero p within at = ap failures at
here failures (q ∷ ps) (suc n) p within at = here failures ps n p (omega arith) at

module _ {P : Type 0} (failures : P → ℕ) (ps : List P) (home : ℕ) (p q : P) (was missed : ℕ) (within : home < length ps)
    (at : p ≡ get_or ps home p) (same : was ≡ failures p) where
  pub one-steady : failures q ≡ was + missed → AreSteady home (map failures ps) (map failures (slice_set ps home q)) missed
  one-steady steady =
      map-set failures ps home q ∙ ap (λ n. slice_set (map failures ps) home n) (steady ∙ ap (λ n. n + missed) (same ∙ here failures ps home p within at))

  pub one-counts : (keeps : Bool) (why : Refused) → IsCounted keeps was (failures q) missed why
      → AreCounted keeps home (map failures ps) (map failures (slice_set ps home q)) missed why
  one-counts keeps why counted = (
    failures q,
    subst (λ n. IsCounted keeps n (failures q) missed why) (same ∙ here failures ps home p within at) counted,
    map-set failures ps home q,
  )

  pub reads-steady : {T : Type 0} (r : Result T Refused) → OnOk r (failures q ≡ was + missed)
      → OnOk r (AreSteady home (map failures ps) (map failures (slice_set ps home q)) missed)
  reads-steady (Ok x) steady = one-steady steady
  reads-steady (Err e) steady = tt

  pub reads-counts : {T : Type 0} (keeps : Bool) (r : Result T Refused) → IfErr r (IsCounted keeps was (failures q) missed)
      → IfErr r (AreCounted keeps home (map failures ps) (map failures (slice_set ps home q)) missed)
  reads-counts keeps (Ok x) counted = tt
  reads-counts keeps (Err why) counted = one-counts keeps why counted

-- ---- what comes before an operation runs
pub strange-plain : {K V I O : Type 0} (s : StoreView) (p : PassView K V I O) (why : Refused) → IsStrange s p why → IsPageFault why → ⊥
strange-plain s p (Device code page) h f = h
strange-plain s p (Damaged page) h f = h
strange-plain s p other h f = f

pub roomless-plain : (why : Refused) → (why ≡ Worn) ⊎ (why ≡ NoMemory) → IsPageFault why → ⊥
roomless-plain why (inl worn) f = subst IsPageFault worn f
roomless-plain why (inr memory) f = subst IsPageFault memory f

pub unrefreshed-plain : (why : Refused) → IsUnrefreshed why → IsPageFault why → ⊥
unrefreshed-plain (Device code page) h f = h
unrefreshed-plain (Damaged page) h f = h
unrefreshed-plain other h f = f

pub unentered-plain : (why : Refused) → IsUnentered why → IsPageFault why → ⊥
unentered-plain (Device code page) h f = h
unentered-plain (Damaged page) h f = h
unentered-plain other h f = f
