use Rattle.std.proofs.Common.{◌≡◌, ℕ, List, length, refl, sym, ap, ◌∙◌, true, false, inl}
use Rattle.std.specs.List.{All}
use Rattle.fkv_functions.proofs.CallLemmas.{with_ten}
use Rattle.fkv_store.specs.Passes.{PassView, IsPassOf}
use Rattle.fkv_store.specs.Stores.{StoreView}
use Rattle.fkv_store.proofs.ClosingLemmas.{ending_unopened}
use Rattle.fkv_store.proofs.stores.Store.leave.Goals as goal

-- passes of a store were told of as many partitions as it has
of_store : {K V I O : Type 0} (s : StoreView) (ps : List (PassView K V I O)) (n : ℕ) → n ≡ s.count → All (IsPassOf s) ps
    → All (λ p. length p.told ≡ n) ps
of_store s ps n is all k d lt = (all k d lt).1 ∙ sym is

pub kept_by-requires-whole : goal.kept_by-requires-whole
kept_by-requires-whole g c κs =
    let all : All (IsPassOf c.args.self) c.args.passes.items = rw c.as_slice.ensures.value at c.if-not-knows_all.ensures.0 refl in
    with_ten (of_store c.args.self c.args.passes.items c.len-2.result
    (c.len-2.ensures
    ∙ (c.in-Ok-parts_of.parts.ok.0
    ∙ (c.in-Ok-parts_of.ensures.len ∙ (c.self.inside.locks.ok.0 ∙ ap (λ s. s.count) c.self.view_is)))) all)

pub returns-then-not-knows_all-clause-known : goal.returns-then-not-knows_all-clause-known
returns-then-not-knows_all-clause-known g c own =
    let bad : false ≡ true = c.if-not-knows_all.ensures.1 (rw c.as_slice.ensures.value own) in
    absurd (cc)

pub returns-in-Err-clause-foreign : goal.returns-in-Err-clause-foreign
returns-in-Err-clause-foreign g c foreign = absurd (foreign (rw c.as_slice.ensures.value at c.if-not-knows_all.ensures.0 refl))

pub returns-in-Err-clause-only : goal.returns-in-Err-clause-only
returns-in-Err-clause-only g c = ending_unopened _ c.in-Err.ensures.only

pub returns-in-Err-parts_of-clause-foreign : goal.returns-in-Err-parts_of-clause-foreign
returns-in-Err-parts_of-clause-foreign g c foreign =
    absurd (foreign (rw c.as_slice.ensures.value at c.if-not-knows_all.ensures.0 refl))

pub returns-in-Err-kept_by-clause-foreign : goal.returns-in-Err-kept_by-clause-foreign
returns-in-Err-kept_by-clause-foreign g c foreign =
    absurd (foreign (rw c.as_slice.ensures.value at c.if-not-knows_all.ensures.0 refl))

pub returns-clause-own : goal.returns-clause-own
returns-clause-own g c = rw c.as_slice.ensures.value at c.if-not-knows_all.ensures.0 refl

pub returns-clause-foreign : goal.returns-clause-foreign
returns-clause-foreign g c foreign = absurd (foreign (rw c.as_slice.ensures.value at c.if-not-knows_all.ensures.0 refl))

pub returns-in-Err-clause-known : goal.returns-in-Err-clause-known
returns-in-Err-clause-known g c = λ own. c.in-Err.ensures.only

pub returns-in-Err-parts_of-clause-known : goal.returns-in-Err-parts_of-clause-known
returns-in-Err-parts_of-clause-known g c = λ own. inl c.in-Err-parts_of.ensures.only

pub returns-in-Err-parts_of-clause-only : goal.returns-in-Err-parts_of-clause-only
returns-in-Err-parts_of-clause-only g c = rw c.in-Err-parts_of.ensures.only tt

pub returns-in-Err-kept_by-clause-known : goal.returns-in-Err-kept_by-clause-known
returns-in-Err-kept_by-clause-known g c = λ own. inl c.in-Err-kept_by.ensures.only

pub returns-in-Err-kept_by-clause-only : goal.returns-in-Err-kept_by-clause-only
returns-in-Err-kept_by-clause-only g c = rw c.in-Err-kept_by.ensures.only tt

pub returns-clause-parts : goal.returns-clause-parts
returns-clause-parts g c = c.in-Ok-parts_of.ensures.len ∙ (c.self.inside.locks.ok.0 ∙ ap (λ s. s.count) c.self.view_is)

pub returns-clause-readers : goal.returns-clause-readers
returns-clause-readers g c = c.in-Ok.ensures.ok ∙ (c.len.ensures ∙ (c.self.inside.locks.ok.0 ∙ ap (λ s. s.count) c.self.view_is))
