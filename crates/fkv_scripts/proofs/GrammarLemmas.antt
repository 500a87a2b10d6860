-- What the steps of reading find is what the grammar says, both ways.
use Rattle.std.proofs.Common.{◌≡◌, ◌∷◌, [], ℕ, ℤ, List, Bool, Option, None, Some, true, false, cond, refl, sym, ap}
use Rattle.std.specs.Prelude.{codes, option_map, IfSome, pos}
use Rattle.std.specs.Str.{bytes_eq}
use Rattle.std.proofs.lemmas.Slice.Eq.{bytes_eq-Decides}
use Rattle.std.proofs.lemmas.Option.{same_Some}
use Rattle.fkv_functions.specs.declared.names.Name.{Name}
use Rattle.fkv_operations.specs.declared.operations.KeyedOp.{KeyedOp}
use Rattle.fkv_operations.specs.declared.operations.KeyedOp.TheVariants.{Read, Upsert, Rmw, Delete, Merge}
use Rattle.fkv_scripts.specs.Words.{number_of, amount_of}
use Rattle.fkv_scripts.specs.Grammar.{Token, word, number, key, amount, Spells, SpellAll, Spelled, HasText, ReadsWithZero, place, access_word, verb, operands, tokens, opening, functions_name}
use Rattle.fkv_scripts.specs.Reading.{◌>>=◌, first_as, end_of, key_of, key_alone, key_and_amount, place_of, alone_of, pair_of, access_of, flush_of, load_of, operation_of, issue_of, do_of, served_of, line_of, functions_of, store_of, opening_of}
use Rattle.fkv_scripts.specs.declared.lines.FunctionsName.{FunctionsName}
use Rattle.fkv_scripts.specs.declared.lines.FunctionsName.TheVariants.{Count, Sum, Max, Capped}
use Rattle.fkv_scripts.specs.declared.lines.Opening.{Opening}
use Rattle.fkv_lives.specs.declared.steps.Access.{Access}
use Rattle.fkv_lives.specs.declared.steps.Access.TheVariants.{Works, Fails}
use Rattle.fkv_lives.specs.declared.steps.ContextId.{ContextId}
use Rattle.fkv_scripts.specs.declared.lines.Line.{Line}
use Rattle.fkv_scripts.specs.declared.lines.Line.TheVariants.{Enter, Leave, Refresh, ReadOnly, Head, Flush, Truncate, Issue, Do, Compact, Go, Install, Load, GiveUp, Ready, Finish}
use Rattle.fkv_scripts.proofs.KeyLemmas.{key_only, key_found}

-- a word that stands for the first token is read as its value
takes : {A : Type 0} (read : List ℕ → Option A) (x : A) (t : Token) (ts : List Token) (ws : List (List ℕ)) → ((w : List ℕ) → Spells w t → read w ≡ Some x) → SpellAll ws (t ∷ ts)
    → (rest : List (List ℕ)) × (first_as read ws ≡ Some (x, rest)) × SpellAll rest ts
takes read x t ts [] h s = absurd s
takes read x t ts (w ∷ ws) h s = (ws, rw (h w s.0) refl, s.1)

ends : {A : Type 0} (ws : List (List ℕ)) (x : A) → SpellAll ws [] → end_of ws x ≡ Some x
ends [] x s = refl
ends (w ∷ ws) x s = absurd s

takes_number : (n : ℕ) (ts : List Token) (ws : List (List ℕ)) → SpellAll ws (number n ∷ ts) → (rest : List (List ℕ)) × (first_as number_of ws ≡ Some (n, rest)) × SpellAll rest ts
takes_number n ts ws s = takes number_of n (number n) ts ws (λ w e. e) s

place_only : (p : ContextId) (ws : List (List ℕ)) → SpellAll ws (place p) → place_of ws ≡ Some p
unfolding place_of
place_only p ws s =
    let a = takes_number p.partition (number p.slot ∷ number p.context ∷ []) ws s in
    let b = takes_number p.slot (number p.context ∷ []) a.0 a.2 in
    let c = takes_number p.context [] b.0 b.2 in
    rw (a.1, b.1, c.1) (ends c.0 p c.2)

alone_only : (n : ℕ) (ws : List (List ℕ)) → SpellAll ws (number n ∷ []) → alone_of ws ≡ Some n
unfolding alone_of
alone_only n ws s = let a = takes_number n [] ws s in rw a.1 (ends a.0 n a.2)

pair_only : (m n : ℕ) (ws : List (List ℕ)) → SpellAll ws (number m ∷ number n ∷ []) → pair_of ws ≡ Some (m, n)
unfolding pair_of
pair_only m n ws h =
    let a = takes_number m (number n ∷ []) ws h in
    let b = takes_number n [] a.0 a.2 in
    rw (a.1, b.1) (ends b.0 (m, n) b.2)

access_only : (a : Access) (w : List ℕ) → Spells w (access_word a) → access_of w ≡ Some a
unfolding access_of
access_only Works w e = rw e refl
access_only Fails w e = rw e refl

flush_only : (p : ℕ) (x : Access) (ws : List (List ℕ)) → SpellAll ws (number p ∷ access_word x ∷ []) → flush_of ws ≡ Some (Flush p x)
unfolding flush_of
flush_only p x ws h =
    let a = takes_number p (access_word x ∷ []) ws h in
    let b = takes access_of x (access_word x) [] a.0 (access_only x) a.2 in
    rw (a.1, b.1) (ends b.0 (Flush p x) b.2)

load_only : (p : ContextId) (x : Access) (ws : List (List ℕ)) → SpellAll ws (number p.partition ∷ number p.slot ∷ number p.context ∷ access_word x ∷ []) → load_of ws ≡ Some (Load p x)
unfolding load_of
load_only p x ws h =
    let a = takes_number p.partition (number p.slot ∷ number p.context ∷ access_word x ∷ []) ws h in
    let b = takes_number p.slot (number p.context ∷ access_word x ∷ []) a.0 a.2 in
    let c = takes_number p.context (access_word x ∷ []) b.0 b.2 in
    let d = takes access_of x (access_word x) [] c.0 (access_only x) c.2 in
    rw (a.1, b.1, c.1, d.1) (ends d.0 (Load p x) d.2)

key_alone_only : (k : Name) (ws : List (List ℕ)) → SpellAll ws (key k ∷ []) → key_alone ws ≡ Some k
unfolding key_alone
key_alone_only k ws s = let a = takes key_of k (key k) [] ws (key_only k) s in rw a.1 (ends a.0 k a.2)

key_and_amount_only : (k : Name) (n : ℤ) (ws : List (List ℕ)) → SpellAll ws (key k ∷ amount n ∷ []) → key_and_amount ws ≡ Some (k, n)
unfolding key_and_amount
key_and_amount_only k n ws s =
    let a = takes key_of k (key k) (amount n ∷ []) ws (key_only k) s in
    let b = takes amount_of n (amount n) [] a.0 (λ w f. f) a.2 in
    rw (a.1, b.1) (ends b.0 (k, n) b.2)

operation_only : (o : KeyedOp Name ℤ ℤ) (v : List ℕ) (ws : List (List ℕ)) → ReadsWithZero o → Spells v (verb o) → SpellAll ws (operands o) → operation_of v ws ≡ Some o
unfolding operation_of
operation_only (Read k i) v ws z e s = rw (e, key_alone_only k ws s, z) refl
operation_only (Upsert k n) v ws z e s = rw (e, key_and_amount_only k n ws s) refl
operation_only (Rmw k n) v ws z e s = rw (e, key_and_amount_only k n ws s) refl
operation_only (Delete k) v ws z e s = rw (e, key_alone_only k ws s) refl
operation_only (Merge k n) v ws z e s = rw (e, key_and_amount_only k n ws s) refl

issue_only : (p s : ℕ) (o : KeyedOp Name ℤ ℤ) (v : List ℕ) (ws : List (List ℕ)) → ReadsWithZero o → Spells v (verb o) → SpellAll ws (number p ∷ number s ∷ operands o) → issue_of v ws ≡ Some (Issue p s o)
unfolding issue_of
issue_only p s o v ws z e h =
    let a = takes_number p (number s ∷ operands o) ws h in
    let b = takes_number s (operands o) a.0 a.2 in
    rw (a.1, b.1, operation_only o v b.0 z e b.2) refl

do_only : (p s : ℕ) (o : KeyedOp Name ℤ ℤ) (ws : List (List ℕ)) → ReadsWithZero o → SpellAll ws (number p ∷ number s ∷ verb o ∷ operands o) → do_of ws ≡ Some (Do p s o)
unfolding do_of
do_only p s o ws z h =
    let a = takes_number p (number s ∷ verb o ∷ operands o) ws h in
    let b = takes_number s (verb o ∷ operands o) a.0 a.2 in
    rw (a.1, b.1) (last b.0 b.2)
  where
    last : (vs : List (List ℕ)) → SpellAll vs (verb o ∷ operands o) → (first_as Some vs >>= λ v. operation_of v.0 v.1 >>= λ q. Some (Do p s q)) ≡ Some (Do p s o)
    last [] h = absurd h
    last (v ∷ vs) h = rw (operation_only o v vs z h.0 h.1) refl

-- What the tokens of a line spell is read as that line.
pub only : (l : Line) (ws : List (List ℕ)) → Spelled ws l → line_of ws ≡ Some l
unfolding line_of served_of
only (Enter p) (v ∷ ws) h = rw (h.0.0, alone_only p ws h.0.1) refl
only (Leave p s) (v ∷ ws) h = rw (h.0.0, pair_only p s ws h.0.1) refl
only (Refresh p s) (v ∷ ws) h = rw (h.0.0, pair_only p s ws h.0.1) refl
only (ReadOnly p n) (v ∷ ws) h = rw (h.0.0, pair_only p n ws h.0.1) refl
only (Head p n) (v ∷ ws) h = rw (h.0.0, pair_only p n ws h.0.1) refl
only (Flush p a) (v ∷ ws) h = rw h.0.0 (flush_only p a ws h.0.1)
only (Truncate p) (v ∷ ws) h = rw (h.0.0, alone_only p ws h.0.1) refl
only (Do p s o) (v ∷ ws) h = rw h.0.0 (do_only p s o ws h.1 h.0.1)
only (Compact p s) (v ∷ ws) h = rw (h.0.0, pair_only p s ws h.0.1) refl
only (Go p) (v ∷ ws) h = rw (h.0.0, place_only p ws h.0.1) refl
only (Install p) (v ∷ ws) h = rw (h.0.0, place_only p ws h.0.1) refl
only (Load p a) (v ∷ ws) h = rw h.0.0 (load_only p a ws h.0.1)
only (GiveUp p) (v ∷ ws) h = rw (h.0.0, place_only p ws h.0.1) refl
only (Ready p) (v ∷ ws) h = rw (h.0.0, place_only p ws h.0.1) refl
only (Finish p) (v ∷ ws) h = rw (h.0.0, place_only p ws h.0.1) refl
only (Issue p s o) (v ∷ ws) h = issued o h.1 h.0.0 h.0.1
  where
    issued : (o : KeyedOp Name ℤ ℤ) → ReadsWithZero o → Spells v (verb o) → SpellAll ws (number p ∷ number s ∷ operands o) → line_of (v ∷ ws) ≡ Some (Issue p s o)
    issued (Read k i) z e f = rw e (issue_only p s (Read k i) (codes "read") ws z refl f)
    issued (Upsert k n) z e f = rw e (issue_only p s (Upsert k n) (codes "upsert") ws z refl f)
    issued (Rmw k n) z e f = rw e (issue_only p s (Rmw k n) (codes "rmw") ws z refl f)
    issued (Delete k) z e f = rw e (issue_only p s (Delete k) (codes "delete") ws z refl f)
    issued (Merge k n) z e f = rw e (issue_only p s (Merge k n) (codes "merge") ws z refl f)
only (Enter p) [] h = absurd h.0
only (Leave p s) [] h = absurd h.0
only (Refresh p s) [] h = absurd h.0
only (ReadOnly p n) [] h = absurd h.0
only (Head p n) [] h = absurd h.0
only (Flush p a) [] h = absurd h.0
only (Truncate p) [] h = absurd h.0
only (Load p a) [] h = absurd h.0
only (Do p s o) [] h = absurd h.0
only (Compact p s) [] h = absurd h.0
only (Go p) [] h = absurd h.0
only (Install p) [] h = absurd h.0
only (GiveUp p) [] h = absurd h.0
only (Ready p) [] h = absurd h.0
only (Finish p) [] h = absurd h.0
only (Issue p s o) [] h = absurd h.0

functions_only : (f : FunctionsName) (w : List ℕ) → Spells w (functions_name f) → functions_of w ≡ Some f
unfolding functions_of
functions_only Count w e = rw e refl
functions_only Sum w e = rw e refl
functions_only Max w e = rw e refl
functions_only Capped w e = rw e refl

store_only : (o : Opening) (ws : List (List ℕ)) → SpellAll ws (functions_name o.functions ∷ number o.partition_bits ∷ number o.bucket_bits ∷ number o.page_bits ∷ number o.frames ∷ []) → store_of ws ≡ Some o
unfolding store_of
store_only o ws s =
    let n = takes functions_of o.functions (functions_name o.functions) (number o.partition_bits ∷ number o.bucket_bits ∷ number o.page_bits ∷ number o.frames ∷ []) ws (functions_only o.functions) s in
    let p = takes_number o.partition_bits (number o.bucket_bits ∷ number o.page_bits ∷ number o.frames ∷ []) n.0 n.2 in
    let k = takes_number o.bucket_bits (number o.page_bits ∷ number o.frames ∷ []) p.0 p.2 in
    let b = takes_number o.page_bits (number o.frames ∷ []) k.0 k.2 in
    let f = takes_number o.frames [] b.0 b.2 in
    rw (n.1, p.1, k.1, b.1, f.1) (ends f.0 o f.2)

-- What the tokens of an opening spell is read as that opening.
pub opening_only : (o : Opening) (ws : List (List ℕ)) → SpellAll ws (opening o) → opening_of ws ≡ Some o
unfolding opening_of
opening_only o [] h = absurd h
opening_only o (v ∷ ws) h = rw h.0 (store_only o ws h.1)

bind_ok : {A B : Type 0} (r : Option A) (f : A → Option B) (y : B) → (r >>= f) ≡ Some y → (x : A) × (r ≡ Some x) × (f x ≡ Some y)
bind_ok None f y e = absurd (let bad : None ≡ Some y = e in cc)
bind_ok (Some x) f y e = (x, refl, e)

taken : {A : Type 0} (read : List ℕ → Option A) (t : A → Token) → ((w : List ℕ) (x : A) → read w ≡ Some x → Spells w (t x)) → (ws : List (List ℕ)) (x : A × List (List ℕ)) → first_as read ws ≡ Some x
    → (ts : List Token) → SpellAll x.1 ts → SpellAll ws (t x.0 ∷ ts)
taken read t h [] x e ts s = absurd (let bad : None ≡ Some x = e in cc)
taken {A} read t h (w ∷ ws) x e ts s = by (read w) refl e
  where
    by : (o : Option A) → read w ≡ o → option_map (λ y. (y, ws)) o ≡ Some x → SpellAll (w ∷ ws) (t x.0 ∷ ts)
    by None f g = absurd (let bad : None ≡ Some x = g in cc)
    by (Some y) f g =
        let same = same_Some (y, ws) x g in
        let front : y ≡ x.0 = ap (λ (p : A × List (List ℕ)). p.0) same in
        let back : ws ≡ x.1 = ap (λ (p : A × List (List ℕ)). p.1) same in
        (h w x.0 (rw (← front) f), rw back s)

taken_number : (ws : List (List ℕ)) (x : ℕ × List (List ℕ)) → first_as number_of ws ≡ Some x → (ts : List Token) → SpellAll x.1 ts → SpellAll ws (number x.0 ∷ ts)
taken_number ws x e ts s = taken number_of number (λ w n f. f) ws x e ts s

ended : {A : Type 0} (ws : List (List ℕ)) (x y : A) → end_of ws x ≡ Some y → SpellAll ws [] × (x ≡ y)
ended [] x y e = (tt, same_Some x y e)
ended (w ∷ ws) x y e = absurd (let bad : None ≡ Some y = e in cc)

alone_found : (ws : List (List ℕ)) (n : ℕ) → alone_of ws ≡ Some n → SpellAll ws (number n ∷ [])
unfolding alone_of
alone_found ws n e =
    let a = bind_ok {A = ℕ × List (List ℕ)} (first_as number_of ws) _ n e in
    let b = ended a.0.1 a.0.0 n a.2 in
    rw (← b.1) (taken_number ws a.0 a.1 [] b.0)

-- a line of a verb and a number
single_found : (make : ℕ → Line) (text : List ℕ) → ((n : ℕ) → tokens (make n) ≡ word text ∷ number n ∷ []) → ((n : ℕ) → HasText (make n)) → (ws : List (List ℕ)) (l : Line) → option_map make (alone_of ws) ≡ Some l
    → (v : List ℕ) → v ≡ text → Spelled (v ∷ ws) l
single_found make text h k ws l e v t = by (alone_of ws) refl e
  where
    by : (o : Option ℕ) → alone_of ws ≡ o → option_map make o ≡ Some l → Spelled (v ∷ ws) l
    by None f g = absurd (let bad : None ≡ Some l = g in cc)
    by (Some n) f g = rw (← same_Some (make n) l g, h n) ((t, alone_found ws n f), k n)

pair_found : (ws : List (List ℕ)) (p : ℕ × ℕ) → pair_of ws ≡ Some p → SpellAll ws (number p.0 ∷ number p.1 ∷ [])
unfolding pair_of
pair_found ws p e =
    let a = bind_ok _ _ p e in
    let b = bind_ok _ _ p a.2 in
    let c = ended b.0.1 (a.0.0, b.0.0) p b.2 in
    rw (← c.1) (taken_number ws a.0 a.1 _ (taken_number a.0.1 b.0 b.1 [] c.0))

-- a line of a verb and two numbers
paired_found : (make : ℕ × ℕ → Line) (text : List ℕ) → ((p : ℕ × ℕ) → tokens (make p) ≡ word text ∷ number p.0 ∷ number p.1 ∷ []) → ((p : ℕ × ℕ) → HasText (make p)) → (ws : List (List ℕ)) (l : Line) → option_map make (pair_of ws) ≡ Some l
    → (v : List ℕ) → v ≡ text → Spelled (v ∷ ws) l
paired_found make text h k ws l e v t = by (pair_of ws) refl e
  where
    by : (o : Option (ℕ × ℕ)) → pair_of ws ≡ o → option_map make o ≡ Some l → Spelled (v ∷ ws) l
    by None f g = absurd (let bad : None ≡ Some l = g in cc)
    by (Some p) f g = rw (← same_Some (make p) l g, h p) ((t, pair_found ws p f), k p)

place_found : (ws : List (List ℕ)) (p : ContextId) → place_of ws ≡ Some p → SpellAll ws (place p)
unfolding place_of
place_found ws p e =
    let a = bind_ok _ _ p e in
    let b = bind_ok _ _ p a.2 in
    let c = bind_ok _ _ p b.2 in
    let d = ended c.0.1 (record { partition = a.0.0; slot = b.0.0; context = c.0.0 }) p c.2 in
    rw (← d.1) (taken_number ws a.0 a.1 _ (taken_number a.0.1 b.0 b.1 _ (taken_number b.0.1 c.0 c.1 [] d.0)))

-- a line of a verb and a place
placed_found : (make : ContextId → Line) (text : List ℕ) → ((p : ContextId) → tokens (make p) ≡ word text ∷ place p) → ((p : ContextId) → HasText (make p)) → (ws : List (List ℕ)) (l : Line) → option_map make (place_of ws) ≡ Some l
    → (v : List ℕ) → v ≡ text → Spelled (v ∷ ws) l
placed_found make text h k ws l e v t = by (place_of ws) refl e
  where
    by : (o : Option ContextId) → place_of ws ≡ o → option_map make o ≡ Some l → Spelled (v ∷ ws) l
    by None f g = absurd (let bad : None ≡ Some l = g in cc)
    by (Some p) f g = rw (← same_Some (make p) l g, h p) ((t, place_found ws p f), k p)

-- the branch of a test that was taken
chosen : {A P : Type 0} (b : Bool) (x y z : A) → cond b x y ≡ z → (b ≡ true → x ≡ z → P) → (y ≡ z → P) → P
chosen true x y z e f g = f refl e
chosen false x y z e f g = g e

same_text : (v w : List ℕ) → bytes_eq v w ≡ true → v ≡ w
same_text v w e = (bytes_eq-Decides v w).0 e

access_found : (w : List ℕ) (a : Access) → access_of w ≡ Some a → Spells w (access_word a)
unfolding access_of
access_found w a e =
    chosen (bytes_eq w (codes "ok")) _ _ (Some a) e (λ t f. rw (← same_Some Works a f) (same_text w (codes "ok") t))
    (λ f. chosen (bytes_eq w (codes "fault")) _ _ (Some a) f (λ t g. rw (← same_Some Fails a g) (same_text w (codes "fault") t))
    (λ g. absurd (let bad : None ≡ Some a = g in cc)))

flush_found : (ws : List (List ℕ)) (l : Line) → flush_of ws ≡ Some l → (v : List ℕ) → v ≡ codes "flush" → Spelled (v ∷ ws) l
unfolding flush_of
flush_found ws l e v t =
    let a = bind_ok {A = ℕ × List (List ℕ)} (first_as number_of ws) _ l e in
    let b = bind_ok {A = Access × List (List ℕ)} (first_as access_of a.0.1) _ l a.2 in
    let c = ended b.0.1 (Flush a.0.0 b.0.0) l b.2 in
    rw (← c.1) ((t, taken_number ws a.0 a.1 _ (taken access_of access_word access_found a.0.1 b.0 b.1 [] c.0)), tt)

load_found : (ws : List (List ℕ)) (l : Line) → load_of ws ≡ Some l → (v : List ℕ) → v ≡ codes "load" → Spelled (v ∷ ws) l
unfolding load_of
load_found ws l e v t =
    let a = bind_ok {A = ℕ × List (List ℕ)} (first_as number_of ws) _ l e in
    let b = bind_ok {A = ℕ × List (List ℕ)} (first_as number_of a.0.1) _ l a.2 in
    let c = bind_ok {A = ℕ × List (List ℕ)} (first_as number_of b.0.1) _ l b.2 in
    let d = bind_ok {A = Access × List (List ℕ)} (first_as access_of c.0.1) _ l c.2 in
    let k = ended d.0.1 (Load (record { partition = a.0.0; slot = b.0.0; context = c.0.0 }) d.0.0) l d.2 in
    rw (← k.1) ((t, taken_number ws a.0 a.1 _ (taken_number a.0.1 b.0 b.1 _ (taken_number b.0.1 c.0 c.1 _ (taken access_of access_word access_found c.0.1 d.0 d.1 [] k.0)))), tt)

key_alone_found : (ws : List (List ℕ)) (k : Name) → key_alone ws ≡ Some k → SpellAll ws (key k ∷ [])
unfolding key_alone
key_alone_found ws k e =
    let a = bind_ok _ _ k e in
    let b = ended a.0.1 a.0.0 k a.2 in
    rw (← b.1) (taken key_of key key_found ws a.0 a.1 [] b.0)

key_and_amount_found : (ws : List (List ℕ)) (p : Name × ℤ) → key_and_amount ws ≡ Some p → SpellAll ws (key p.0 ∷ amount p.1 ∷ [])
unfolding key_and_amount
key_and_amount_found ws p e =
    let a = bind_ok _ _ p e in
    let b = bind_ok _ _ p a.2 in
    let d = ended b.0.1 (a.0.0, b.0.0) p b.2 in
    rw (← d.1) (taken key_of key key_found ws a.0 a.1 (amount b.0.0 ∷ []) (taken amount_of amount (λ w x k. k) a.0.1 b.0 b.1 [] d.0))

-- what was read, and what was made of it
mapped : {A B : Type 0} (o : Option A) (f : A → B) (y : B) → option_map f o ≡ Some y → (x : A) × (o ≡ Some x) × (f x ≡ y)
mapped None f y e = absurd (let bad : None ≡ Some y = e in cc)
mapped (Some x) f y e = (x, refl, same_Some (f x) y e)

operation_found : (v : List ℕ) (ws : List (List ℕ)) (o : KeyedOp Name ℤ ℤ) → operation_of v ws ≡ Some o → Spells v (verb o) × SpellAll ws (operands o) × ReadsWithZero o
unfolding operation_of
operation_found v ws o e =
    chosen (bytes_eq v (codes "read")) _ _ (Some o) e
    (λ t f. let a = mapped (key_alone ws) (λ k. Read k (pos 0)) o f in rw (← a.2) (same_text v (codes "read") t, key_alone_found ws a.0 a.1, refl))
    (λ f. chosen (bytes_eq v (codes "upsert")) _ _ (Some o) f
    (λ t g. let a = mapped (key_and_amount ws) (λ p. Upsert p.0 p.1) o g in rw (← a.2) (same_text v (codes "upsert") t, key_and_amount_found ws a.0 a.1, tt))
    (λ f. chosen (bytes_eq v (codes "rmw")) _ _ (Some o) f
    (λ t g. let a = mapped (key_and_amount ws) (λ p. Rmw p.0 p.1) o g in rw (← a.2) (same_text v (codes "rmw") t, key_and_amount_found ws a.0 a.1, tt))
    (λ f. chosen (bytes_eq v (codes "delete")) _ _ (Some o) f
    (λ t g. let a = mapped (key_alone ws) Delete o g in rw (← a.2) (same_text v (codes "delete") t, key_alone_found ws a.0 a.1, tt))
    (λ f. chosen (bytes_eq v (codes "merge")) _ _ (Some o) f
    (λ t g. let a = mapped (key_and_amount ws) (λ p. Merge p.0 p.1) o g in rw (← a.2) (same_text v (codes "merge") t, key_and_amount_found ws a.0 a.1, tt))
    (λ g. absurd (let bad : None ≡ Some o = g in cc))))))

issue_found : (v : List ℕ) (ws : List (List ℕ)) (l : Line) → issue_of v ws ≡ Some l → Spelled (v ∷ ws) l
unfolding issue_of
issue_found v ws l e =
    let a = bind_ok {A = ℕ × List (List ℕ)} (first_as number_of ws) _ l e in
    let b = bind_ok {A = ℕ × List (List ℕ)} (first_as number_of a.0.1) _ l a.2 in
    let c = bind_ok {A = KeyedOp Name ℤ ℤ} (operation_of v b.0.1) _ l b.2 in
    let o = operation_found v b.0.1 c.0 c.1 in
    let same : Issue a.0.0 b.0.0 c.0 ≡ l = same_Some (Issue a.0.0 b.0.0 c.0) l c.2 in
    rw (← same) ((o.0, taken_number ws a.0 a.1 _ (taken_number a.0.1 b.0 b.1 _ o.1)), o.2)

do_found : (ws : List (List ℕ)) (l : Line) → do_of ws ≡ Some l → (v : List ℕ) → v ≡ codes "do" → Spelled (v ∷ ws) l
unfolding do_of
do_found ws l e v t =
    let a = bind_ok {A = ℕ × List (List ℕ)} (first_as number_of ws) _ l e in
    let b = bind_ok {A = ℕ × List (List ℕ)} (first_as number_of a.0.1) _ l a.2 in
    let c = bind_ok {A = List ℕ × List (List ℕ)} (first_as Some b.0.1) _ l b.2 in
    let d = bind_ok {A = KeyedOp Name ℤ ℤ} (operation_of c.0.0 c.0.1) _ l c.2 in
    let o = operation_found c.0.0 c.0.1 d.0 d.1 in
    let same : Do a.0.0 b.0.0 d.0 ≡ l = same_Some (Do a.0.0 b.0.0 d.0) l d.2 in
    rw (← same) ((t, taken_number ws a.0 a.1 (number b.0.0 ∷ verb d.0 ∷ operands d.0) (taken_number a.0.1 b.0 b.1 (verb d.0 ∷ operands d.0) (first_word b.0.1 c.0 c.1 (verb d.0) (operands d.0) o.0 o.1))), o.2)
  where
    first_word : (vs : List (List ℕ)) (x : List ℕ × List (List ℕ)) → first_as Some vs ≡ Some x → (t : Token) (ts : List Token) → Spells x.0 t → SpellAll x.1 ts → SpellAll vs (t ∷ ts)
    first_word [] x f t ts g h = absurd (let bad : None ≡ Some x = f in cc)
    first_word (u ∷ us) x f t ts g h =
        let same = same_Some (u, us) x f in
        let front : u ≡ x.0 = ap (λ (p : List ℕ × List (List ℕ)). p.0) same in
        let back : us ≡ x.1 = ap (λ (p : List ℕ × List (List ℕ)). p.1) same in
        (rw front g, rw back h)

served_found : (v : List ℕ) (ws : List (List ℕ)) (l : Line) → served_of v ws ≡ Some l → Spelled (v ∷ ws) l
unfolding served_of
served_found v ws l e =
    chosen (bytes_eq v (codes "do")) _ _ (Some l) e (λ t g. do_found ws l g v (same_text v (codes "do") t))
    (λ f. chosen (bytes_eq v (codes "compact")) _ _ (Some l) f (λ t g. paired_found (λ p. Compact p.0 p.1) (codes "compact") (λ p. refl) (λ p. tt) ws l g v (same_text v (codes "compact") t))
    (λ f. chosen (bytes_eq v (codes "go")) _ _ (Some l) f (λ t g. placed_found Go (codes "go") (λ p. refl) (λ p. tt) ws l g v (same_text v (codes "go") t))
    (λ f. chosen (bytes_eq v (codes "install")) _ _ (Some l) f (λ t g. placed_found Install (codes "install") (λ p. refl) (λ p. tt) ws l g v (same_text v (codes "install") t))
    (λ f. chosen (bytes_eq v (codes "load")) _ _ (Some l) f (λ t g. load_found ws l g v (same_text v (codes "load") t))
    (λ f. chosen (bytes_eq v (codes "giveup")) _ _ (Some l) f (λ t g. placed_found GiveUp (codes "giveup") (λ p. refl) (λ p. tt) ws l g v (same_text v (codes "giveup") t))
    (λ f. chosen (bytes_eq v (codes "ready")) _ _ (Some l) f (λ t g. placed_found Ready (codes "ready") (λ p. refl) (λ p. tt) ws l g v (same_text v (codes "ready") t))
    (λ f. chosen (bytes_eq v (codes "finish")) _ _ (Some l) f (λ t g. placed_found Finish (codes "finish") (λ p. refl) (λ p. tt) ws l g v (same_text v (codes "finish") t))
    (λ f. issue_found v ws l f))))))))

-- What is read as a line is spelled by its tokens.
pub found : (ws : List (List ℕ)) (l : Line) → line_of ws ≡ Some l → Spelled ws l
unfolding line_of
found [] l e = absurd (let bad : None ≡ Some l = e in cc)
found (v ∷ ws) l e =
    chosen (bytes_eq v (codes "enter")) _ _ (Some l) e (λ t f. single_found Enter (codes "enter") (λ n. refl) (λ n. tt) ws l f v (same_text v (codes "enter") t))
    (λ f. chosen (bytes_eq v (codes "leave")) _ _ (Some l) f (λ t g. paired_found (λ p. Leave p.0 p.1) (codes "leave") (λ p. refl) (λ p. tt) ws l g v (same_text v (codes "leave") t))
    (λ f. chosen (bytes_eq v (codes "refresh")) _ _ (Some l) f (λ t g. paired_found (λ p. Refresh p.0 p.1) (codes "refresh") (λ p. refl) (λ p. tt) ws l g v (same_text v (codes "refresh") t))
    (λ f. chosen (bytes_eq v (codes "readonly")) _ _ (Some l) f (λ t g. paired_found (λ p. ReadOnly p.0 p.1) (codes "readonly") (λ p. refl) (λ p. tt) ws l g v (same_text v (codes "readonly") t))
    (λ f. chosen (bytes_eq v (codes "head")) _ _ (Some l) f (λ t g. paired_found (λ p. Head p.0 p.1) (codes "head") (λ p. refl) (λ p. tt) ws l g v (same_text v (codes "head") t))
    (λ f. chosen (bytes_eq v (codes "flush")) _ _ (Some l) f (λ t g. flush_found ws l g v (same_text v (codes "flush") t))
    (λ f. chosen (bytes_eq v (codes "truncate")) _ _ (Some l) f (λ t g. single_found Truncate (codes "truncate") (λ n. refl) (λ n. tt) ws l g v (same_text v (codes "truncate") t))
    (λ f. served_found v ws l f)))))))

functions_found : (w : List ℕ) (f : FunctionsName) → functions_of w ≡ Some f → Spells w (functions_name f)
unfolding functions_of
functions_found w f e =
    chosen (bytes_eq w (codes "count")) _ _ (Some f) e (λ t g. rw (← same_Some Count f g) (same_text w (codes "count") t))
    (λ g. chosen (bytes_eq w (codes "sum")) _ _ (Some f) g (λ t h. rw (← same_Some Sum f h) (same_text w (codes "sum") t))
    (λ g. chosen (bytes_eq w (codes "max")) _ _ (Some f) g (λ t h. rw (← same_Some Max f h) (same_text w (codes "max") t))
    (λ g. chosen (bytes_eq w (codes "capped")) _ _ (Some f) g (λ t h. rw (← same_Some Capped f h) (same_text w (codes "capped") t))
    (λ g. absurd (let bad : None ≡ Some f = g in cc)))))

store_found : (ws : List (List ℕ)) (o : Opening) → store_of ws ≡ Some o
    → SpellAll ws (functions_name o.functions ∷ number o.partition_bits ∷ number o.bucket_bits ∷ number o.page_bits ∷ number o.frames ∷ [])
unfolding store_of
store_found ws o e =
    let n = bind_ok {A = FunctionsName × List (List ℕ)} (first_as functions_of ws) _ o e in
    let p = bind_ok {A = ℕ × List (List ℕ)} (first_as number_of n.0.1) _ o n.2 in
    let k = bind_ok {A = ℕ × List (List ℕ)} (first_as number_of p.0.1) _ o p.2 in
    let b = bind_ok {A = ℕ × List (List ℕ)} (first_as number_of k.0.1) _ o k.2 in
    let f = bind_ok {A = ℕ × List (List ℕ)} (first_as number_of b.0.1) _ o b.2 in
    let d = ended f.0.1 (record { functions = n.0.0; partition_bits = p.0.0; bucket_bits = k.0.0; page_bits = b.0.0; frames = f.0.0 }) o f.2 in
    rw (← d.1) (taken functions_of functions_name functions_found ws n.0 n.1 _ (taken_number n.0.1 p.0 p.1 _ (taken_number p.0.1 k.0 k.1 _ (taken_number k.0.1 b.0 b.1 _ (taken_number b.0.1 f.0 f.1 [] d.0)))))

-- What is read as an opening is spelled by its tokens.
pub opening_found : (ws : List (List ℕ)) (o : Opening) → opening_of ws ≡ Some o → SpellAll ws (opening o)
unfolding opening_of
opening_found [] o e = absurd (let bad : None ≡ Some o = e in cc)
opening_found (v ∷ ws) o e =
    chosen (bytes_eq v (codes "store")) _ _ (Some o) e (λ t f. (same_text v (codes "store") t, store_found ws o f)) (λ f. absurd (let bad : None ≡ Some o = f in cc))

pub opening_found_if : (ws : List (List ℕ)) (o : Option Opening) → o ≡ opening_of ws → IfSome o (λ x. SpellAll ws (opening x))
opening_found_if ws None e = tt
opening_found_if ws (Some x) e = opening_found ws x (sym e)
