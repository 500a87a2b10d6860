-- Several in groups that are merged, and those that are not merged yet.
use Rattle.std.proofs.Common.{◌≡◌, List, [], ◌∷◌, ◌++◌, refl, sym, ◌∙◌, ap, subst, append_assoc}
use Rattle.fkv_functions.specs.Names.{name_cmp, name_total}
use Rattle.fkv_functions.specs.declared.names.Name.{Name}
use Rattle.fkv_runs.specs.Merging.{merged, merged_two}
use Rattle.fkv_runs.proofs.GroupLemmas.{merged-append, merged-group}
use Rattle.fkv_spills.specs.declared.groups.ReadGroups.{ReadGroups}
use Rattle.fkv_spills.specs.declared.merging.ReadMerge.{ReadMerge}
use Rattle.fkv_spills.specs.Reading.{AreHeld, HasMerged, IsGrouped}
use Rattle.fkv_spills.proofs.SpillLemmas.{append-none}

held-more : {A B : Type 0} (holds : A → B → Type 0) (rests : List A) (lists : List B) (a : A) (b : B) → AreHeld holds rests lists → holds a b
    → AreHeld holds (rests ++ a ∷ []) (lists ++ b ∷ [])
held-more holds [] [] a b h one = (one, tt)
held-more holds [] (c ∷ bs) a b h one = absurd h
held-more holds (d ∷ more) [] a b h one = absurd h
held-more holds (d ∷ more) (c ∷ bs) a b h one = (h.0, held-more holds more bs a b h.1 one)

none-held : {A B : Type 0} (holds : A → B → Type 0) (lists : List B) → AreHeld holds [] lists → lists ≡ []
none-held holds [] h = refl
none-held holds (b ∷ bs) h = absurd h

module _ {A V : Type 0} (holds : A → List (Name × V) → Type 0) where
  pub grouped-none : (g : ReadGroups A) → g.groups.items ≡ [] → g.rests.items ≡ [] → IsGrouped holds g []
  grouped-none g groups rests = record {
    before = [];
    last = [];
    all = refl;
    merges = [];
    grouped = subst (λ gs. AreHeld (HasMerged holds) gs []) (sym groups) tt;
    together = refl;
    held = subst (λ rs. AreHeld holds rs []) (sym rests) tt;
  }

  pub grouped-more : (g new : ReadGroups A) (lists : List (List (Name × V))) (one : A) (xs : List (Name × V)) → new.groups.items ≡ g.groups.items
      → new.rests.items ≡ g.rests.items ++ one ∷ [] → IsGrouped holds g lists → holds one xs → IsGrouped holds new (lists ++ xs ∷ [])
  grouped-more g new lists one xs groups rests h has = record {
    before = h.before;
    last = h.last ++ xs ∷ [];
    all = ap (λ l. l ++ xs ∷ []) h.all ∙ append_assoc h.before h.last (xs ∷ []);
    merges = h.merges;
    grouped = subst (λ gs. AreHeld (HasMerged holds) gs h.merges) (sym groups) h.grouped;
    together = h.together;
    held = subst (λ rs. AreHeld holds rs (h.last ++ xs ∷ [])) (sym rests) (held-more holds g.rests.items h.last one xs h.held has);
  }

  pub grouped-close : (g new : ReadGroups A) (lists : List (List (Name × V))) (merge : ReadMerge A) → new.groups.items ≡ g.groups.items ++ merge ∷ []
      → new.rests.items ≡ [] → ((ls : List (List (Name × V))) → AreHeld holds g.rests.items ls → HasMerged holds merge (merged name_cmp ls))
      → IsGrouped holds g lists → IsGrouped holds new lists
  grouped-close g new lists merge groups rests made h = record {
    before = h.before ++ h.last;
    last = [];
    all = h.all ∙ sym (append-none (h.before ++ h.last));
    merges = h.merges ++ merged name_cmp h.last ∷ [];
    grouped = subst (λ gs. AreHeld (HasMerged holds) gs (h.merges ++ merged name_cmp h.last ∷ [])) (sym groups)
        (held-more (HasMerged holds) g.groups.items h.merges merge (merged name_cmp h.last) h.grouped (made h.last h.held));
    together = merged-group name_cmp name_total h.merges h.last
        ∙ (merged-append name_cmp name_total h.merges h.last
        ∙ (ap (λ l. merged_two name_cmp l (merged name_cmp h.last)) h.together ∙ sym (merged-append name_cmp name_total h.before h.last)));
    held = subst (λ rs. AreHeld holds rs []) (sym rests) tt;
  }

  -- none is left that is not merged: so what the groups have is the merge of all
  pub grouped-all : (g : ReadGroups A) (lists : List (List (Name × V))) → g.rests.items ≡ [] → IsGrouped holds g lists
      → (merges : List (List (Name × V))) × AreHeld (HasMerged holds) g.groups.items merges × (merged name_cmp merges ≡ merged name_cmp lists)
  grouped-all g lists rests h =
      let none : h.last ≡ [] = none-held holds h.last (subst (λ rs. AreHeld holds rs h.last) rests h.held) in
      (h.merges, h.grouped, h.together ∙ ap (merged name_cmp) (sym (h.all ∙ ap (λ l. h.before ++ l) none ∙ append-none h.before)))
