-- How many pairs runs have, with one run more.
use Rattle.std.proofs.Common.{◌≡◌, ◌+◌, ◌++◌, ◌∷◌, [], ℕ, List, length, ap, ◌∙◌, arith}
use Rattle.fkv_functions.specs.Names.{name_cmp, name_total}
use Rattle.fkv_functions.specs.declared.names.Name.{Name}
use Rattle.fkv_runs.specs.Merging.{merged}
use Rattle.fkv_runs.proofs.GroupLemmas.{merged-append}
use Rattle.fkv_runs.proofs.LengthLemmas.{length-two}

length-with : {V : Type 0} (xss : List (List (Name × V))) (xs : List (Name × V)) → length (merged name_cmp (xss ++ xs ∷ [])) ≡ length (merged name_cmp xss) + length xs
length-with xss xs =
    let all = ap length (merged-append name_cmp name_total xss (xs ∷ [])) ∙ length-two name_cmp (merged name_cmp xss) (merged name_cmp (xs ∷ [])) in
    let one = length-two name_cmp xs [] in
    all ∙ ap (λ n. length (merged name_cmp xss) + n) (one ∙ (omega arith))

pub keys-more : {V : Type 0} (keys len more : ℕ) (xss : List (List (Name × V))) (xs : List (Name × V)) → more ≡ keys + len → keys ≡ length (merged name_cmp xss) → len ≡ length xs
    → more ≡ length (merged name_cmp (xss ++ xs ∷ []))
keys-more keys len more xss xs e k l = (let all = length-with xss xs in omega arith)
