-- What a look-up finds.
use Rattle.std.proofs.Common.{◌≡◌, ◌<◌, ℕ, List, None, Some, true, false, length, nat_lt, get_or, refl, sym, ap, ◌∙◌, option_map, arith}
use Rattle.std.specs.List.{find, position_or_len}
use Rattle.std.proofs.lemmas.List.Sums.{position_or_len_is}
use Rattle.std.proofs.lemmas.Bool.Decides.{nat_tests}
use Rattle.std.proofs.lemmas.List.Recursion.{found_at, found_nowhere}
use Rattle.fkv_index.specs.declared.words.Word.{Word}
use Rattle.fkv_index.specs.Words.{empty, address_of, is_final_of}
use Rattle.fkv_index.specs.Places.{words_of, IsFirst, NonePasses}
use Rattle.fkv_index.specs.Entries.{entry_at, place_of}

pub entry_at-first : (index : List (List Word)) (b t at : ℕ) (w : Word) → IsFirst (is_final_of t) (words_of index b) at → w ≡ get_or (words_of index b) at empty → Some (address_of w) ≡ entry_at index b t
unfolding entry_at
entry_at-first index b t at w first read =
    ap (λ (x : Word). Some (address_of x)) read
    ∙ sym (ap (option_map address_of) (found_at (find (is_final_of t)) (is_final_of t) Some None refl (λ _ _. refl) (words_of index b) at empty first.within first.before first.passes))

pub entry_at-none : (index : List (List Word)) (b t : ℕ) → NonePasses (is_final_of t) (words_of index b) → entry_at index b t ≡ None
unfolding entry_at
entry_at-none index b t none = ap (option_map address_of) (found_nowhere (find (is_final_of t)) (is_final_of t) Some None refl (λ _ _. refl) (words_of index b) empty none)

-- where it is found
pub place_of-first : (index : List (List Word)) (b t at : ℕ) → IsFirst (is_final_of t) (words_of index b) at
    → Some (record { bucket = b; at = at }) ≡ place_of index b t
unfolding place_of
place_of-first index b t at first =
    let ws : List Word = words_of index b in
    let within : at < length ws = first.within in
    let here : position_or_len (is_final_of t) ws ≡ at = position_or_len_is (is_final_of t) ws at empty (omega arith) first.before (λ _. first.passes) in
    let yes : nat_lt at (length ws) ≡ true = grind (arith, nat_tests) in
    rw (here, yes) refl

pub place_of-none : (index : List (List Word)) (b t : ℕ) → NonePasses (is_final_of t) (words_of index b) → place_of index b t ≡ None
unfolding place_of
place_of-none index b t none =
    let ws : List Word = words_of index b in
    let here : position_or_len (is_final_of t) ws ≡ length ws = position_or_len_is (is_final_of t) ws (length ws) empty (omega arith) none (λ l. absurd (omega arith)) in
    let no : nat_lt (length ws) (length ws) ≡ false = grind (arith, nat_tests) in
    rw (here, no) refl
