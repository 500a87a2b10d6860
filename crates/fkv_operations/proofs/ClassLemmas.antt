-- The test of classes tells all of them apart, and what the entries of all classes are once one was set.
use Rattle.std.proofs.Common.{◌≡◌, ◌==◌, Bool, true, false, cond, ℕ, List, Some, refl, sym, ◌∙◌, ap}
use Rattle.std.proofs.lemmas.Bool.{and_parts, and_from, eqb-true, eq-eqb}
use Rattle.fkv_texts.specs.Chains.{IsClassTest}
use Rattle.fkv_index.specs.declared.words.Word.{Word}
use Rattle.fkv_index.specs.Entries.{entry_at}
use Rattle.fkv_index.specs.Changes.{SetsEntry}
use Rattle.fkv_operations.specs.declared.classes.Class.{Class}
use Rattle.fkv_operations.specs.Classes.{same_class}

one_class : (c d : Class) → c.bucket ≡ d.bucket → c.tag ≡ d.tag → c ≡ d
one_class c d b t = λ i. record { bucket = b i; tag = t i }

pub class_test : IsClassTest same_class
class_test = record {
  only = λ c d h.
      let p = and_parts (c.bucket == d.bucket) (c.tag == d.tag) h in
      one_class c d (eqb-true c.bucket d.bucket p.0) (eqb-true c.tag d.tag p.1);
  self = λ c. and_from (c.bucket == c.bucket) (c.tag == c.tag) (eq-eqb c.bucket c.bucket refl) (eq-eqb c.tag c.tag refl);
}

-- the class has the address, and each other one what it had
pub entry-set : (old new : List (List Word)) (c : Class) (a : ℕ) → SetsEntry c.bucket c.tag a old new → (d : Class)
    → entry_at new d.bucket d.tag ≡ cond (same_class c d) (Some a) (entry_at old d.bucket d.tag)
entry-set old new c a sets d = by_test (same_class c d) refl
  where
    by_test : (b : Bool) → same_class c d ≡ b → entry_at new d.bucket d.tag ≡ cond b (Some a) (entry_at old d.bucket d.tag)
    by_test true h = ap (λ (x : Class). entry_at new x.bucket x.tag) (sym (class_test.only c d h)) ∙ sets.there
    by_test false h = sets.elsewhere d.bucket d.tag (λ e.
        let same : c ≡ d = one_class c d (sym e.0) (sym e.1) in
        let no : true ≡ false = sym (class_test.self c) ∙ ap (same_class c) same ∙ h in
        absurd (cc))
