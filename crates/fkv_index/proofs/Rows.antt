-- Rows and blocks: what a write to one of them does to the words of the buckets.
use Rattle.std.proofs.Common.{◌≡◌, ◌-◌, ◌<◌, ◌≤◌, ◌++◌, ◌∷◌, [], ℕ, List, length, get_or, set, map, take, drop, replicate, sym, ap, ◌∙◌, refl, arith, subst, zero, suc, ⊎_elim, append_assoc, length-append}
use Rattle.std.proofs.lemmas.List.{get_or-map, get_or-set_same, get_or-set_other, same_lists, length-map, length-set, take_at, drop_at, map-set, set-append_left, set-append_right, get_or_append_left, get_or_push, append-nil, map_push, take_all, get_or_default, get_or_past}
use Rattle.std.proofs.lemmas.Bool.{cases_eq, cases_lt}
use Rattle.std.proofs.Math.Seq.{map-set_same}
use Rattle.std.specs.declared.alloc.Global.{Global}
use Rattle.std.specs.declared.vec.Vec.{Vec}
use Rattle.fkv_index.specs.declared.words.Word.{Word}
use Rattle.fkv_index.specs.declared.buckets.Bucket.{Bucket}
use Rattle.fkv_index.specs.Words.{empty}
use Rattle.fkv_index.specs.Places.{words_of, with_word, with_overflow}
use Rattle.fkv_index.specs.Storage.{row_words, AreApart}

-- a bucket's words are its row's and its block's
pub words_of-row : (rows : List Bucket) (blocks : List (List Word)) (b : ℕ) (row : Bucket) → b < length rows → row ≡ get_or rows b row
    → words_of (map (row_words blocks) rows) b ≡ row.words ++ get_or blocks row.overflow []
words_of-row rows blocks b row within is = get_or-map (row_words blocks) rows b row [] within ∙ ap (row_words blocks) (sym is)

seven_of : (rows : List Bucket) (blocks : List (List Word)) (b : ℕ) (row : Bucket) → AreApart rows blocks → b < length rows → row ≡ get_or rows b row → length row.words ≡ 7
seven_of rows blocks b row apart within is = ap (λ (r : Bucket). length r.words) is ∙ apart.seven b row within

pub first_words : (rows : List Bucket) (blocks : List (List Word)) (b : ℕ) (row : Bucket) → AreApart rows blocks → b < length rows → row ≡ get_or rows b row
    → row.words ≡ take 7 (words_of (map (row_words blocks) rows) b)
first_words rows blocks b row apart within is =
    rw (words_of-row rows blocks b row within is) (sym (take_at row.words (get_or blocks row.overflow []) 7 (seven_of rows blocks b row apart within is)))

pub block_words : (rows : List Bucket) (blocks : List (List Word)) (b : ℕ) (row : Bucket) → AreApart rows blocks → b < length rows → row ≡ get_or rows b row
    → get_or blocks row.overflow [] ≡ drop 7 (words_of (map (row_words blocks) rows) b)
block_words rows blocks b row apart within is =
    rw (words_of-row rows blocks b row within is) (sym (drop_at row.words (get_or blocks row.overflow []) 7 (seven_of rows blocks b row apart within is)))

-- a block by its number
pub numbered_at : (vecs : List (Vec Word Global)) (n k : ℕ) (v : Vec Word Global) → n ≡ suc k → k < length vecs → v ≡ get_or vecs k v
    → get_or ([] ∷ map (λ block. block.items) vecs) n [] ≡ v.items
numbered_at vecs n k v e within is =
    rw e (get_or-map (λ (block : Vec Word Global). block.items) vecs k v [] within ∙ ap (λ (block : Vec Word Global). block.items) (sym is))

-- a write to the words of a row
pub write_row : (rows : List Bucket) (blocks : List (List Word)) (b at : ℕ) (row : Bucket) (w : Word) → AreApart rows blocks → b < length rows → row ≡ get_or rows b row → at < 7
    → map (row_words blocks) (set rows b (record { words = set row.words at w; overflow = row.overflow })) ≡ with_word (map (row_words blocks) rows) (record { bucket = b; at = at }) w
write_row rows blocks b at row w apart within is low =
    rw (words_of-row rows blocks b row within is) (
    map-set (row_words blocks) rows b (record { words = set row.words at w; overflow = row.overflow })
    ∙ ap (λ (ws : List Word). set (map (row_words blocks) rows) b ws) (sym (set-append_left row.words (get_or blocks row.overflow []) at w (omega (arith, seven_of rows blocks b row apart within is)))))

number_below : (rows : List Bucket) (blocks : List (List Word)) (b : ℕ) (row : Bucket) → AreApart rows blocks → b < length rows → row ≡ get_or rows b row → row.overflow < length blocks
number_below rows blocks b row apart within is = rw (ap (λ (r : Bucket). r.overflow) is) (apart.within b row within)

-- another block in the place of a row's: that bucket
change_here : (rows : List Bucket) (blocks : List (List Word)) (b k : ℕ) (row : Bucket) (x d : List Word) → AreApart rows blocks → b < length rows → row ≡ get_or rows b row → k ≡ b
    → get_or (map (row_words (set blocks row.overflow x)) rows) k d ≡ get_or (set (map (row_words blocks) rows) b (row.words ++ x)) k d
change_here rows blocks b k row x d apart within is e =
    let low : b < length (map (row_words blocks) rows) = omega (arith, length-map rows (row_words blocks)) in
    rw e (
    get_or-map (row_words (set blocks row.overflow x)) rows b row d within
    ∙ ap (row_words (set blocks row.overflow x)) (sym is)
    ∙ ap (λ (t : List Word). row.words ++ t) (get_or-set_same blocks row.overflow x [] (number_below rows blocks b row apart within is))
    ∙ sym (get_or-set_same (map (row_words blocks) rows) b (row.words ++ x) d low))

-- and every other bucket
change_other : (rows : List Bucket) (blocks : List (List Word)) (b k : ℕ) (row : Bucket) (x d : List Word) → AreApart rows blocks → b < length rows → row ≡ get_or rows b row → 0 < row.overflow
    → k < length rows → (k ≡ b → ⊥)
    → get_or (map (row_words (set blocks row.overflow x)) rows) k d ≡ get_or (set (map (row_words blocks) rows) b (row.words ++ x)) k d
change_other rows blocks b k row x d apart within is some low ne =
    let other : Bucket = get_or rows k row in
    let apart_from : other.overflow ≡ row.overflow → ⊥ = λ h. ne (apart.own k b row low within (h ∙ ap (λ (r : Bucket). r.overflow) is) (rw h some)) in
    get_or-map (row_words (set blocks row.overflow x)) rows k row d low
    ∙ ap (λ (t : List Word). other.words ++ t) (get_or-set_other blocks row.overflow other.overflow x [] apart_from)
    ∙ sym (get_or-map (row_words blocks) rows k row d low)
    ∙ sym (get_or-set_other (map (row_words blocks) rows) b k (row.words ++ x) d ne)

pub change_block : (rows : List Bucket) (blocks : List (List Word)) (b : ℕ) (row : Bucket) (x : List Word) → AreApart rows blocks → b < length rows → row ≡ get_or rows b row → 0 < row.overflow
    → map (row_words (set blocks row.overflow x)) rows ≡ set (map (row_words blocks) rows) b (row.words ++ x)
change_block rows blocks b row x apart within is some =
    let new : List (List Word) = set blocks row.overflow x in
    let lengths : length (map (row_words new) rows) ≡ length (set (map (row_words blocks) rows) b (row.words ++ x)) =
    length-map rows (row_words new) ∙ sym (length-set (map (row_words blocks) rows) b (row.words ++ x) ∙ length-map rows (row_words blocks)) in
    same_lists _ _ lengths (λ k d low.
    let within_rows : k < length rows = omega (arith, length-map rows (row_words new)) in
    ⊎_elim (λ e. change_here rows blocks b k row x d apart within is e) (λ ne. change_other rows blocks b k row x d apart within is some within_rows ne) (cases_eq k b))

-- a write to a word of a block
pub write_block : (rows : List Bucket) (blocks : List (List Word)) (b at : ℕ) (row : Bucket) (w : Word) → AreApart rows blocks → b < length rows → row ≡ get_or rows b row → 0 < row.overflow → 7 ≤ at
    → map (row_words (set blocks row.overflow (set (get_or blocks row.overflow []) (at - 7) w))) rows ≡ with_word (map (row_words blocks) rows) (record { bucket = b; at = at }) w
write_block rows blocks b at row w apart within is some high =
    let block : List Word = get_or blocks row.overflow [] in
    rw (words_of-row rows blocks b row within is) (
    change_block rows blocks b row (set block (at - 7) w) apart within is some
    ∙ ap (λ (ws : List Word). set (map (row_words blocks) rows) b ws) (sym (set-append_right row.words block 7 at w (seven_of rows blocks b row apart within is) high)))

-- seven more places in a block
pub extend_block : (rows : List Bucket) (blocks : List (List Word)) (b : ℕ) (row : Bucket) → AreApart rows blocks → b < length rows → row ≡ get_or rows b row → 0 < row.overflow
    → map (row_words (set blocks row.overflow (get_or blocks row.overflow [] ++ replicate 7 empty))) rows ≡ with_overflow (map (row_words blocks) rows) b
extend_block rows blocks b row apart within is some =
    let block : List Word = get_or blocks row.overflow [] in
    rw (words_of-row rows blocks b row within is) (
    change_block rows blocks b row (block ++ replicate 7 empty) apart within is some
    ∙ ap (λ (ws : List Word). set (map (row_words blocks) rows) b ws) (sym (append_assoc row.words block (replicate 7 empty))))

-- a new block changes no row that does not have its number
more_blocks : (rows : List Bucket) (blocks : List (List Word)) (x : List Word) → AreApart rows blocks → map (row_words (blocks ++ x ∷ [])) rows ≡ map (row_words blocks) rows
more_blocks rows blocks x apart =
    same_lists _ _ (length-map rows (row_words (blocks ++ x ∷ [])) ∙ sym (length-map rows (row_words blocks))) (λ k d low.
    let within : k < length rows = omega (arith, length-map rows (row_words (blocks ++ x ∷ []))) in
    let row : Bucket = get_or rows k (record { words = []; overflow = 0 }) in
    get_or-map (row_words (blocks ++ x ∷ [])) rows k (record { words = []; overflow = 0 }) d within
    ∙ ap (λ (t : List Word). row.words ++ t) (get_or_append_left blocks (x ∷ []) [] row.overflow (apart.within k (record { words = []; overflow = 0 }) within))
    ∙ sym (get_or-map (row_words blocks) rows k (record { words = []; overflow = 0 }) d within))

-- the first block of a row that had none
pub add_block : (rows : List Bucket) (blocks : List (List Word)) (b : ℕ) (row : Bucket) → AreApart rows blocks → b < length rows → row ≡ get_or rows b row → get_or blocks row.overflow [] ≡ []
    → map (row_words (blocks ++ replicate 7 empty ∷ [])) (set rows b (record { words = row.words; overflow = length blocks })) ≡ with_overflow (map (row_words blocks) rows) b
add_block rows blocks b row apart within is none =
    let x : List Word = replicate 7 empty in
    let new : Bucket = record { words = row.words; overflow = length blocks } in
    rw (words_of-row rows blocks b row within is, none, append-nil row.words) (
    map-set (row_words (blocks ++ x ∷ [])) rows b new
    ∙ ap (λ (m : List (List Word)). set m b (row.words ++ get_or (blocks ++ x ∷ []) (length blocks) [])) (more_blocks rows blocks x apart)
    ∙ ap (λ (t : List Word). set (map (row_words blocks) rows) b (row.words ++ t)) (get_or_push blocks x [] (length blocks) refl))

-- a block written anew, among the blocks by their numbers
pub numbered_set : (vecs : List (Vec Word Global)) (n k : ℕ) (v : Vec Word Global) → n ≡ suc k
    → [] ∷ map (λ block. block.items) (set vecs k v) ≡ set ([] ∷ map (λ block. block.items) vecs) n v.items
numbered_set vecs n k v e = rw e (ap (λ (t : List (List Word)). [] ∷ t) (map-set (λ (block : Vec Word Global). block.items) vecs k v))

pub numbered_push : (vecs : List (Vec Word Global)) (v : Vec Word Global)
    → [] ∷ map (λ block. block.items) (vecs ++ v ∷ []) ≡ ([] ∷ map (λ block. block.items) vecs) ++ v.items ∷ []
numbered_push vecs v = ap (λ (t : List (List Word)). [] ∷ t) (map_push (λ (block : Vec Word Global). block.items) vecs v)

-- the place of a word behind the first seven
pub place_behind : (rows : List Bucket) (blocks : List (List Word)) (b at : ℕ) (row : Bucket) → AreApart rows blocks → b < length rows → row ≡ get_or rows b row → 7 ≤ at
    → at < length (words_of (map (row_words blocks) rows) b) → at - 7 < length (get_or blocks row.overflow [])
place_behind rows blocks b at row apart within is high place =
    let all : at < length (row.words ++ get_or blocks row.overflow []) = subst (λ (ws : List Word). at < length ws) (words_of-row rows blocks b row within is) place in
    omega (arith, length-append row.words (get_or blocks row.overflow []), seven_of rows blocks b row apart within is)

-- a bucket of the index is one of the rows
pub within_rows : (rows : List Bucket) (blocks words : List (List Word)) (b : ℕ) → map (row_words blocks) rows ≡ words → b < length words → b < length rows
within_rows rows blocks words b e within = omega (arith, length-map rows (row_words blocks), ap length e)

-- a bucket that has a place is one of the index
pub bucket_of-place : (index : List (List Word)) (b at : ℕ) → at < length (words_of index b) → b < length index
bucket_of-place index b at place =
    ⊎_elim (λ low. low) (λ high. absurd (omega (arith, ap length (get_or_past index b [] high)))) (cases_lt b (length index))

-- the number of a row's block, as a place among the blocks
pub number_before : (rows : List Bucket) (vecs : List (Vec Word Global)) (b : ℕ) (row : Bucket) → AreApart rows ([] ∷ map (λ block. block.items) vecs) → b < length rows → row ≡ get_or rows b row
    → 0 < row.overflow → row.overflow - 1 < length vecs
number_before rows vecs b row apart within is some =
    omega (arith, number_below rows ([] ∷ map (λ block. block.items) vecs) b row apart within is, length-map vecs (λ (block : Vec Word Global). block.items))

pub next_of : (n : ℕ) → 0 < n → n ≡ suc (n - 1)
next_of n some = omega arith

pub some_of : (n : ℕ) → (n ≡ 0 → ⊥) → 0 < n
some_of n ne = omega arith

-- the words of a row's block
pub block_at : (rows : List Bucket) (vecs : List (Vec Word Global)) (b : ℕ) (row : Bucket) (v : Vec Word Global) → AreApart rows ([] ∷ map (λ block. block.items) vecs) → b < length rows
    → row ≡ get_or rows b row → 0 < row.overflow → v ≡ get_or vecs (row.overflow - 1) v → get_or ([] ∷ map (λ block. block.items) vecs) row.overflow [] ≡ v.items
block_at rows vecs b row v apart within is some read =
    numbered_at vecs row.overflow (row.overflow - 1) v (next_of row.overflow some) (number_before rows vecs b row apart within is some) read

-- a block that has a place has a number
pub number_of-place : (blocks : List (List Word)) (n k : ℕ) → k < length (get_or ([] ∷ blocks) n []) → 0 < n
number_of-place blocks zero k h = absurd (omega arith)
number_of-place blocks (suc n) k h = omega arith

pub map-replicate : {X Y : Type 0} (f : X → Y) (n : ℕ) (x : X) → map f (replicate n x) ≡ replicate n (f x)
map-replicate f zero x = refl
map-replicate f (suc n) x = ap (λ t. f x ∷ t) (map-replicate f n x)

-- what a resize of no rows gives
pub filled : (rows before : List Bucket) (n m len : ℕ) (x : Bucket) → rows ≡ take n before ++ replicate (n - len) x → before ≡ [] → len ≡ 0 → n ≡ m → rows ≡ replicate m x
filled rows before n m len x h none nothing e =
    let size : n - len ≡ m = omega arith in
    h ∙ rw (none, size, take_all {A = Bucket} n [] (omega arith)) refl

-- empty rows
pub made : (rows : List Bucket) (blocks : List (List Word)) (n : ℕ) (e : Word) → rows ≡ replicate n (record { words = e ∷ e ∷ e ∷ e ∷ e ∷ e ∷ e ∷ []; overflow = 0 }) → e ≡ empty
    → map (row_words ([] ∷ blocks)) rows ≡ replicate n (replicate 7 empty)
made rows blocks n e h none =
    ap (map (row_words ([] ∷ blocks))) h
    ∙ map-replicate (row_words ([] ∷ blocks)) n (record { words = e ∷ e ∷ e ∷ e ∷ e ∷ e ∷ e ∷ []; overflow = 0 })
    ∙ ap (λ (w : Word). replicate n (w ∷ w ∷ w ∷ w ∷ w ∷ w ∷ w ∷ [])) none

-- a place behind the first seven, in its block
pub place_in_block : (rows : List Bucket) (vecs : List (Vec Word Global)) (index : List (List Word)) (b at : ℕ) (row : Bucket) → AreApart rows ([] ∷ map (λ block. block.items) vecs)
    → map (row_words ([] ∷ map (λ block. block.items) vecs)) rows ≡ index → at < length (words_of index b) → row ≡ get_or rows b row → 7 ≤ at
    → (0 < row.overflow) × (at - 7 < length (get_or ([] ∷ map (λ block. block.items) vecs) row.overflow []))
place_in_block rows vecs index b at row apart view place read high =
    let blocks : List (List Word) = [] ∷ map (λ block. block.items) vecs in
    let within : b < length rows = within_rows rows blocks index b view (bucket_of-place index b at place) in
    let there : at < length (words_of (map (row_words blocks) rows) b) = rw view place in
    let behind : at - 7 < length (get_or blocks row.overflow []) = place_behind rows blocks b at row apart within read high there in
    (number_of-place (map (λ block. block.items) vecs) row.overflow (at - 7) behind, behind)

pub place_in_vec : (rows : List Bucket) (vecs : List (Vec Word Global)) (index : List (List Word)) (b at : ℕ) (row : Bucket) (v : Vec Word Global) → AreApart rows ([] ∷ map (λ block. block.items) vecs)
    → map (row_words ([] ∷ map (λ block. block.items) vecs)) rows ≡ index → at < length (words_of index b) → row ≡ get_or rows b row → 7 ≤ at → v ≡ get_or vecs (row.overflow - 1) v
    → at - 7 < length v.items
place_in_vec rows vecs index b at row v apart view place read high readv =
    let blocks : List (List Word) = [] ∷ map (λ block. block.items) vecs in
    let within : b < length rows = within_rows rows blocks index b view (bucket_of-place index b at place) in
    let behind = place_in_block rows vecs index b at row apart view place read high in
    omega (arith, ap length (block_at rows vecs b row v apart within read (behind.0) readv), behind.1)

-- a write to a word of a block
pub write_in_block : (rows : List Bucket) (vecs : List (Vec Word Global)) (index : List (List Word)) (b at : ℕ) (row : Bucket) (v w : Vec Word Global) (x : Word)
    → AreApart rows ([] ∷ map (λ block. block.items) vecs) → map (row_words ([] ∷ map (λ block. block.items) vecs)) rows ≡ index → at < length (words_of index b)
    → row ≡ get_or rows b row → 7 ≤ at → v ≡ get_or vecs (row.overflow - 1) v → w.items ≡ set v.items (at - 7) x
    → map (row_words ([] ∷ map (λ block. block.items) (set vecs (row.overflow - 1) w))) rows ≡ with_word index (record { bucket = b; at = at }) x
write_in_block rows vecs index b at row v w x apart view place read high readv written =
    let blocks : List (List Word) = [] ∷ map (λ block. block.items) vecs in
    let within : b < length rows = within_rows rows blocks index b view (bucket_of-place index b at place) in
    let behind = place_in_block rows vecs index b at row apart view place read high in
    rw (← view) (
    ap (λ (m : List (List Word)). map (row_words m) rows) (numbered_set vecs row.overflow (row.overflow - 1) w (next_of row.overflow (behind.0)))
    ∙ ap (λ (block : List Word). map (row_words (set blocks row.overflow block)) rows) (written ∙ ap (λ (block : List Word). set block (at - 7) x) (sym (block_at rows vecs b row v apart within read (behind.0) readv)))
    ∙ write_block rows blocks b at row x apart within read (behind.0) high)

-- seven more places behind a bucket that has a block
pub extend_in_block : (rows : List Bucket) (vecs : List (Vec Word Global)) (index : List (List Word)) (b : ℕ) (row : Bucket) (v w : Vec Word Global)
    → AreApart rows ([] ∷ map (λ block. block.items) vecs) → map (row_words ([] ∷ map (λ block. block.items) vecs)) rows ≡ index → b < length index
    → row ≡ get_or rows b row → 0 < row.overflow → v ≡ get_or vecs (row.overflow - 1) v → w.items ≡ v.items ++ replicate 7 empty
    → map (row_words ([] ∷ map (λ block. block.items) (set vecs (row.overflow - 1) w))) rows ≡ with_overflow index b
extend_in_block rows vecs index b row v w apart view bucket read some readv written =
    let blocks : List (List Word) = [] ∷ map (λ block. block.items) vecs in
    let within : b < length rows = within_rows rows blocks index b view bucket in
    rw (← view) (
    ap (λ (m : List (List Word)). map (row_words m) rows) (numbered_set vecs row.overflow (row.overflow - 1) w (next_of row.overflow some))
    ∙ ap (λ (block : List Word). map (row_words (set blocks row.overflow block)) rows) (written ∙ ap (λ (block : List Word). block ++ replicate 7 empty) (sym (block_at rows vecs b row v apart within read some readv)))
    ∙ extend_block rows blocks b row apart within read some)

-- the first block of a bucket
pub add_in_block : (rows : List Bucket) (vecs vecs' : List (Vec Word Global)) (index : List (List Word)) (b n : ℕ) (row : Bucket) (v : Vec Word Global)
    → AreApart rows ([] ∷ map (λ block. block.items) vecs) → map (row_words ([] ∷ map (λ block. block.items) vecs)) rows ≡ index → b < length index
    → row ≡ get_or rows b row → row.overflow ≡ 0 → vecs' ≡ vecs ++ v ∷ [] → n ≡ length vecs' → v.items ≡ replicate 7 empty
    → map (row_words ([] ∷ map (λ block. block.items) vecs')) (set rows b (record { words = row.words; overflow = n })) ≡ with_overflow index b
add_in_block rows vecs vecs' index b n row v apart view bucket read none pushed count written =
    let blocks : List (List Word) = [] ∷ map (λ block. block.items) vecs in
    let within : b < length rows = within_rows rows blocks index b view bucket in
    let number : n ≡ length blocks = omega (arith, ap length pushed, length-append vecs (v ∷ []), length-map vecs (λ (block : Vec Word Global). block.items)) in
    rw (← view) (
    ap (λ (m : List (Vec Word Global)). map (row_words ([] ∷ map (λ block. block.items) m)) (set rows b (record { words = row.words; overflow = n }))) pushed
    ∙ ap (λ (m : List (List Word)). map (row_words m) (set rows b (record { words = row.words; overflow = n }))) (numbered_push vecs v)
    ∙ ap (λ (k : ℕ). map (row_words (blocks ++ v.items ∷ [])) (set rows b (record { words = row.words; overflow = k }))) number
    ∙ ap (λ (ws : List Word). map (row_words (blocks ++ ws ∷ [])) (set rows b (record { words = row.words; overflow = length blocks }))) written
    ∙ add_block rows blocks b row apart within read (ap (λ (k : ℕ). get_or blocks k []) none))

-- a block written as it was
pub same_blocks : (vecs : List (Vec Word Global)) (k : ℕ) (v w : Vec Word Global) → v ≡ get_or vecs k v → w.items ≡ v.items
    → [] ∷ map (λ block. block.items) (set vecs k w) ≡ [] ∷ map (λ block. block.items) vecs
same_blocks vecs k v w read same =
    ap (λ (t : List (List Word)). [] ∷ t) (map-set_same (λ (block : Vec Word Global). block.items) vecs k w v (same ∙ ap (λ (block : Vec Word Global). block.items) read))

-- two reads of one row
pub same_read : (rows : List Bucket) (b : ℕ) (first second : Bucket) → b < length rows → first ≡ get_or rows b first → second ≡ get_or rows b second → second ≡ first
same_read rows b first second within one two = two ∙ get_or_default rows b second first within ∙ sym one
