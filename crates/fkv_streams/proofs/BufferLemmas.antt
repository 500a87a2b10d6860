-- Bytes that are written in parts, some of which are held back.
use Rattle.std.proofs.Common.{◌≡◌, ◌+◌, ◌<◌, ◌≤◌, ◌++◌, [], ◌⊎◌, inl, inr, ℕ, List, Option, Result, Ok, Err, sym, ◌∙◌, ap, subst, arith, take, length, append_assoc}
use Rattle.std.specs.Prelude.{OnOk, OnErr}
use Rattle.std.proofs.lemmas.Bool.{cases_lt}
use Rattle.std.proofs.lemmas.List.{append-nil, take-append-le, take_all}
use Rattle.std.proofs.Math.Seq.{take-append-add, take-append_seam, take-length}
use Rattle.std.proofs.KnownBytes.{Appends-nil, Appends-trans}
use Rattle.std.specs.Io.KnownBytes.{Keeps, Appends}
use Rattle.fkv_streams.specs.Streams.{AppendsPrefix, PassesOn}
use Rattle.fkv_streams.proofs.StreamLemmas.{front-written}

-- a front of bytes is one of more bytes
pub prefix-more : (a b : Option (List ℕ)) (xs ys : List ℕ) → AppendsPrefix a b xs → AppendsPrefix a b (xs ++ ys)
prefix-more a b xs ys p = by_length (cases_lt (length xs) p.0)
  where
    by_length : (length xs < p.0) ⊎ (p.0 ≤ length xs) → AppendsPrefix a b (xs ++ ys)
    by_length (inl past) = (length xs, subst (Appends a b) (take_all p.0 xs (omega arith) ∙ sym (take-append_seam xs ys)) p.1)
    by_length (inr within) = (p.0, subst (Appends a b) (sym (take-append-le p.0 xs ys within)) p.1)

-- all of some bytes, and then a front of others
pub prefix-behind : (a b c : Option (List ℕ)) (xs ys : List ℕ) → Appends a b xs → AppendsPrefix b c ys → AppendsPrefix a c (xs ++ ys)
prefix-behind a b c xs ys h p =
    (length xs + p.0, subst (Appends a c) (sym (take-append-add xs ys p.0)) (Appends-trans a b c xs (take p.0 ys) h p.1))

-- all bytes were written, and then let out or not
pub whole-written : {T E : Type 0} (a b c : Option (List ℕ)) (bytes : List ℕ) (r : Result T E) → Appends a b bytes → Keeps b c → OnErr r (AppendsPrefix a c bytes)
whole-written a b c bytes r h k = front-written a b c bytes (length bytes) r (subst (Appends a b) (sym (take-length bytes)) h) k

-- what was held back is written, and more behind it
pub all-behind : {T E : Type 0} (a b c : Option (List ℕ)) (held after bytes : List ℕ) (r : Result T E) → after ≡ [] → Appends a b held → OnOk r (Appends b c bytes) → OnOk r (PassesOn a c after (held ++ bytes))
all-behind a b c held after bytes (Ok x) none h k = (held ++ bytes, Appends-trans a b c held bytes h k, ap (λ t. (held ++ bytes) ++ t) none ∙ append-nil (held ++ bytes))
all-behind a b c held after bytes (Err e) none h k = tt

pub front-behind : {T E : Type 0} (a b c : Option (List ℕ)) (held bytes : List ℕ) (r : Result T E) → Appends a b held → OnErr r (AppendsPrefix b c bytes) → OnErr r (AppendsPrefix a c (held ++ bytes))
front-behind a b c held bytes (Ok x) h k = tt
front-behind a b c held bytes (Err e) h k = prefix-behind a b c held bytes h k

-- what is put, behind what was put
pub passes-behind : (a b c : Option (List ℕ)) (before held after xs ys : List ℕ) → PassesOn a b held (before ++ xs) → PassesOn b c after (held ++ ys) → PassesOn a c after (before ++ (xs ++ ys))
passes-behind a b c before held after xs ys p q = (
  p.0 ++ q.0,
  Appends-trans a b c p.0 q.0 p.1 q.1,
  append_assoc p.0 q.0 after ∙ ap (λ t. p.0 ++ t) q.2 ∙ sym (append_assoc p.0 held ys) ∙ ap (λ t. t ++ ys) p.2 ∙ append_assoc before xs ys,
)

-- of what is put a front is written, behind what was put
pub passes-front : (a b c : Option (List ℕ)) (before held xs ys : List ℕ) → PassesOn a b held (before ++ xs) → AppendsPrefix b c (held ++ ys) → AppendsPrefix a c (before ++ (xs ++ ys))
passes-front a b c before held xs ys p q =
    subst (AppendsPrefix a c) (sym (append_assoc p.0 held ys) ∙ ap (λ t. t ++ ys) p.2 ∙ append_assoc before xs ys) (prefix-behind a b c p.0 (held ++ ys) p.1 q)

-- a front of what is put is one of more
pub prefix-longer : (a b : Option (List ℕ)) (before xs ys : List ℕ) → AppendsPrefix a b (before ++ xs) → AppendsPrefix a b (before ++ (xs ++ ys))
prefix-longer a b before xs ys p = subst (AppendsPrefix a b) (append_assoc before xs ys) (prefix-more a b (before ++ xs) ys p)

-- the same of a call that comes last
pub passes-last : {T E : Type 0} (a b c : Option (List ℕ)) (before held after xs ys : List ℕ) (r : Result T E) → PassesOn a b held (before ++ xs) → OnOk r (PassesOn b c after (held ++ ys)) → OnOk r (PassesOn a c after (before ++ (xs ++ ys)))
passes-last a b c before held after xs ys (Ok x) p q = passes-behind a b c before held after xs ys p q
passes-last a b c before held after xs ys (Err e) p q = tt

pub front-last : {T E : Type 0} (a b c : Option (List ℕ)) (before held xs ys : List ℕ) (r : Result T E) → PassesOn a b held (before ++ xs) → OnErr r (AppendsPrefix b c (held ++ ys)) → OnErr r (AppendsPrefix a c (before ++ (xs ++ ys)))
front-last a b c before held xs ys (Ok x) p q = tt
front-last a b c before held xs ys (Err e) p q = passes-front a b c before held xs ys p q

-- what was held back is written at the end
pub passes-out : {T E : Type 0} (a b c : Option (List ℕ)) (held bytes : List ℕ) (r : Result T E) → PassesOn a b held bytes → OnOk r (Appends b c held) → OnOk r (Appends a c bytes)
passes-out a b c held bytes (Ok x) p q = subst (Appends a c) p.2 (Appends-trans a b c p.0 held p.1 q)
passes-out a b c held bytes (Err e) p q = tt

pub front-out : {T E : Type 0} (a b c : Option (List ℕ)) (held bytes : List ℕ) (r : Result T E) → PassesOn a b held bytes → OnErr r (AppendsPrefix b c held) → OnErr r (AppendsPrefix a c bytes)
front-out a b c held bytes (Ok x) p q = tt
front-out a b c held bytes (Err e) p q = subst (AppendsPrefix a c) p.2 (prefix-behind a b c p.0 held p.1 q)

-- nothing was put yet
pub passes-none : (a : Option (List ℕ)) (held : List ℕ) → PassesOn a a held (held ++ [])
passes-none a held = ([], Appends-nil a, sym (append-nil held))
