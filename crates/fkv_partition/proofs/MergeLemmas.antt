-- A merge asks for nothing, and takes neither a built value nor a page.
use Rattle.std.proofs.Common.{◌≡◌, true, ℕ, Bool, List, Option, Some, None, Result, Ok, Err, option_map, refl, sym, ◌∙◌, ap}
use Rattle.std.specs.declared.cmp.Ordering.{Ordering}
use Rattle.fkv_functions.specs.Meanings.{Meanings}
use Rattle.fkv_functions.specs.declared.asks.Ask.{Ask}
use Rattle.fkv_functions.specs.declared.refusals.Refused.{Refused}
use Rattle.fkv_functions.specs.declared.refusals.Refused.TheVariants.{NotReady}
use Rattle.fkv_device.specs.Standing.{Standing, Joined}
use Rattle.fkv_texts.specs.declared.entries.Entry.{Entry}
use Rattle.fkv_operations.specs.After.{is_merge}
use Rattle.fkv_operations.specs.Operations.{op_of}
use Rattle.fkv_operations.specs.declared.operations.KeyedOp.{KeyedOp}
use Rattle.fkv_operations.specs.declared.operations.KeyedOp.TheVariants as on_key
use Rattle.fkv_operations.specs.declared.operations.Op.TheVariants.{Merge, Relocate}
use Rattle.fkv_partition.specs.declared.contexts.Context.{Context}
use Rattle.fkv_partition.specs.declared.contexts.Progress.{Progress}
use Rattle.fkv_partition.specs.Asking.{AsksNothing}
use Rattle.fkv_partition.specs.KeyEffect as key_effect
use Rattle.fkv_partition.specs.KeyGoing as going
use Rattle.fkv_partition.specs.KeyInstalling as installing
use Rattle.fkv_partition.specs.KeyLoading as loading
use Rattle.fkv_partition.specs.Views.{context_at, PartitionView, relocation_at}
use Rattle.fkv_partition.specs.declared.relocations.Relocation.{Relocation}
use Rattle.fkv_partition.specs.Effect.{Asked, asked, asked_of}
use Rattle.fkv_partition.specs.Events.{Goes, Installs, Loads}
use Rattle.fkv_partition.specs.Sound.{IsCompacting}
use Rattle.fkv_partition.proofs.EffectLemmas.{relocation-asked}

merge-is : {K V I : Type 0} (o : KeyedOp K V I) (k : K) (i : I) → op_of o ≡ Merge k i → is_merge o ≡ true
merge-is (on_key.Read q j) k i h = absurd (cc)
merge-is (on_key.Upsert q v) k i h = absurd (cc)
merge-is (on_key.Rmw q j) k i h = absurd (cc)
merge-is (on_key.Delete q) k i h = absurd (cc)
merge-is (on_key.Merge q j) k i h = refl

some-is : {A : Type 0} (x y : A) → Some x ≡ Some y → x ≡ y
some-is x y h = cc

-- a merge is open in a context
module _ {K V I : Type 0} {keeps : Bool} (cmp : K → K → Ordering) (join : V → V → V) (code : K → ℕ) (old : PartitionView K V I) (slot c : ℕ)
    (compacting : IsCompacting keeps cmp join code old) (x : Asked K V I) (k : K) (i : I) (here : asked old slot c ≡ Some x) (is : x.op ≡ Merge k i) where
  -- it is no relocation
  no-relocation : (y : Relocation K V) → relocation_at old slot c ≡ Some y → ⊥
  no-relocation y h =
      let same = some-is _ x (sym (relocation-asked old slot c y h) ∙ here) in
      let no : Relocate ≡ Merge k i = ap (λ (z : Asked K V I). z.op) same ∙ is in
      absurd (cc)

  -- but an operation on its key
  merge-here : relocation_at old slot c ≡ None → (y : Context K V I) × (context_at old slot c ≡ Some y) × (is_merge y.op ≡ true)
  merge-here none = by_context (context_at old slot c) refl
    where
      was : (o : Option (Context K V I)) → context_at old slot c ≡ o → asked_of (option_map key_effect.asked_by o) None ≡ Some x
      was o h = ap (λ (p : Option (Context K V I)). asked_of (option_map key_effect.asked_by p) None) (sym h) ∙ ap (asked_of (key_effect.asked old slot c)) (sym none) ∙ here

      by_context : (o : Option (Context K V I)) → context_at old slot c ≡ o → (y : Context K V I) × (context_at old slot c ≡ Some y) × (is_merge y.op ≡ true)
      by_context None h = absurd (let no : None ≡ Some x = was None h in cc)
      by_context (Some y) h =
          let same = some-is (key_effect.asked_by y) x (was (Some y) h) in
          (y, h, merge-is y.op k i (ap (λ (z : Asked K V I). z.op) same ∙ is))

  pub merge-goes : {O R : Type 0} (f : Meanings K V I O) (new : PartitionView K V I) (now : ℕ) (stands : R → Standing) (progress : Progress K V I O R)
      → ((y : Context K V I) → context_at old slot c ≡ Some y → is_merge y.op ≡ true → going.Goes stands cmp join f code old new slot c now (Ok progress) → AsksNothing progress)
      → Goes stands cmp join f code old new slot c now (Ok progress) → AsksNothing progress
  merge-goes f new now stands progress law (Goes.relocation y h goes) = absurd (no-relocation y h)
  merge-goes f new now stands progress law (Goes.on_key none goes rest) = let m = merge-here none in law m.0 m.1 m.2 goes

  pub merge-installs : {O R : Type 0} (f : Meanings K V I O) (new : PartitionView K V I) (ask : Ask K V I) (now : ℕ) (result : Result (Progress K V I O R) Refused)
      → ((y : Context K V I) → context_at old slot c ≡ Some y → is_merge y.op ≡ true → installing.Installs cmp f code old new slot c ask now result → result ≡ Err NotReady)
      → Installs cmp f code old new slot c ask now result → result ≡ Err NotReady
  merge-installs f new ask now result law (Installs.relocation y h same is_ready) = is_ready
  merge-installs f new ask now result law (Installs.on_key none installs rest) = let m = merge-here none in law m.0 m.1 m.2 installs

  pub merge-loads : {O R : Type 0} (f : Meanings K V I O) (stands : R → Standing) (spells : ℕ → List ℕ → ℕ → Entry K V → Type 0) (new : PartitionView K V I) (came : Result (Joined R) Refused) (now : ℕ) (result : Result (Progress K V I O R) Refused)
      → ((y : Context K V I) → context_at old slot c ≡ Some y → is_merge y.op ≡ true → loading.Loads stands spells cmp join f old new slot c came now result → result ≡ Err NotReady)
      → Loads stands spells cmp join f code old new slot c came now result → result ≡ Err NotReady
  merge-loads f stands spells new came now result law (Loads.relocation y h loads) = absurd (no-relocation y h)
  merge-loads f stands spells new came now result law (Loads.on_key none loads rest) = let m = merge-here none in law m.0 m.1 m.2 loads
