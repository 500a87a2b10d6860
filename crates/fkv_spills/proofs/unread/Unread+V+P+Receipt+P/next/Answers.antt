use Rattle.std.proofs.Common.{◌≡◌, ◌<◌, ℕ, zero, suc, List, inl, inr, Ok, Err, Result, refl, sym, subst, arith, IsTrue}
use Rattle.std.specs.Prelude.{IsOk, OnOk, OnErr, IfErr}
use Rattle.std.proofs.lemmas.Bool.{false≢true}
use Rattle.fkv_functions.specs.declared.names.Name.{Name}
use Rattle.fkv_functions.specs.declared.refusals.Refused.{Refused}
use Rattle.fkv_functions.specs.declared.refusals.Refused.TheVariants as refused
use Rattle.fkv_spills.specs.declared.unread.Unread.{Unread}
use Rattle.fkv_spills.specs.Reading.{IsUnread, IsReady, IsUnreadable}
use Rattle.fkv_spills.proofs.unread.Unread+V+P+Receipt+P.next.Given as given
use Rattle.fkv_spills.proofs.unread.Unread+V+P+Receipt+P.next.Goals as goal
use Rattle.fkv_spills.proofs.unread.Unread+V+P+Receipt+P.next.Goals.{then-self-eq0+in-Ok, else-self-eq0}

on-ok : {A E : Type 0} (r : Result A E) (P : Type 0) → P → OnOk r P
on-ok (Ok x) P p = p
on-ok (Err e) P p = tt

on-err : {A E : Type 0} (r : Result A E) (P : Type 0) → IsOk r → OnErr r P
on-err (Ok x) P is = tt
on-err (Err e) P is = absurd (false≢true is)

told-of : {A : Type 0} (r : Result A Refused) (old new : ℕ) (known : Type 0) → (known → IsOk r)
    → IfErr r (λ e. (page : ℕ) × (e ≡ refused.Damaged page)) → IfErr r (IsUnreadable old new known)
told-of (Ok x) old new known is damaged = tt
told-of (Err e) old new known is damaged = (damaged.0, inr (damaged.1, λ k. absurd (false≢true (is k))))

none-of : {A E : Type 0} (r : Result A E) (P : E → Type 0) → IsOk r → IfErr r P
none-of (Ok x) P is = tt
none-of (Err e) P is = absurd (false≢true is)

positive : (n : ℕ) → (n ≡ 0 → ⊥) → 0 < n
positive zero h = absurd (h refl)
positive (suc n) h = omega arith

is-ready : (g : given.Over) (c : goal.After-take g) (xs : List (Name × g.row.V.Denot)) → IsTrue g.P.Receipt.Receipt.keeps
    → IsUnread g.V.Fixed.codec g.P.Receipt.Receipt.stands c.args.self.now xs
    → IsUnread g.V.Fixed.codec g.P.Receipt.Receipt.stands c.if-self-eq0.self xs × IsReady c.if-self-eq0.self xs
is-ready g c xs keeps h = elim c.if-self-eq0.branch [
  | then-self-eq0+in-Ok w ↦ subst (λ (s : Unread g.row.V.Denot g.row.P-Receipt.Denot g.row.P.Denot). IsUnread g.V.Fixed.codec g.P.Receipt.Receipt.stands s xs × IsReady s xs)
      (sym w.self-is) (w.in-Ok.ensures.ok xs keeps w.if-self-eq0.true h)
  | else-self-eq0 w ↦ subst (λ (s : Unread g.row.V.Denot g.row.P-Receipt.Denot g.row.P.Denot). IsUnread g.V.Fixed.codec g.P.Receipt.Receipt.stands s xs × IsReady s xs)
      (sym w.self-is) (h, inl (positive c.args.self.now.here w.if-self-eq0.false))
]

pub returns-in-Err-clause-kept : goal.returns-in-Err-clause-kept
returns-in-Err-clause-kept g c xs keeps h = c.in-Err.ensures.kept xs c.if-self-eq0.true h

pub returns-in-Err-clause-told : goal.returns-in-Err-clause-told
returns-in-Err-clause-told g c = (c.in-Err.ensures.refused.0, inl c.in-Err.ensures.refused.1)

pub returns-clause-pair : goal.returns-clause-pair
returns-clause-pair g c xs keeps h = (let ready = is-ready g c xs keeps h in c.take.ensures.pair xs ready.0 ready.1)

pub returns-clause-after : goal.returns-clause-after
returns-clause-after g c xs keeps h = (let ready = is-ready g c xs keeps h in on-ok c.take.result _ (c.take.ensures.after xs ready.0 ready.1))

pub returns-clause-kept : goal.returns-clause-kept
returns-clause-kept g c xs keeps h = (let ready = is-ready g c xs keeps h in on-err c.take.result _ (c.take.ensures.done xs ready.0 ready.1))

pub returns-clause-told : goal.returns-clause-told
returns-clause-told g c =
    told-of c.take.result _ _ _ (λ k. (let ready = is-ready g c k.0 k.1 k.2 in c.take.ensures.done k.0 ready.0 ready.1)) c.take.ensures.damaged

pub returns-in-Err-clause-caused : goal.returns-in-Err-clause-caused
returns-in-Err-clause-caused g c xs keeps h = c.in-Err.ensures.caused

pub returns-clause-caused : goal.returns-clause-caused
returns-clause-caused g c xs keeps h = (let ready = is-ready g c xs keeps h in none-of c.take.result _ (c.take.ensures.done xs ready.0 ready.1))
