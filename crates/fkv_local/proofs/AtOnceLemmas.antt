-- What a write in one call leaves of a session that had nothing open, and a read.
use Rattle.std.proofs.Common.{◌≡◌, ◌≢◌, Bool, true, false, ℕ, ◌<◌, inr, Option, Some, None, Ok, nat_lt, option_map, refl, sym, ◌∙◌, ap, subst, arith}
use Rattle.std.proofs.lemmas.Option.{same_Some}
use Rattle.std.proofs.lemmas.Bool.Decides.{nat_tests}
use Rattle.std.specs.declared.cmp.Ordering.{Ordering}
use Rattle.fkv_functions.specs.Meanings.{Meanings}
use Rattle.fkv_functions.specs.Plain.{Same}
use Rattle.fkv_device.specs.Standing.{Standing}
use Rattle.fkv_texts.specs.Text.{live}
use Rattle.fkv_regions.specs.Settled.{IsSettled}
use Rattle.fkv_operations.specs.After.{after, answer}
use Rattle.fkv_operations.specs.Operations.{keyed, op_of, after_keyed, answer_keyed}
use Rattle.fkv_operations.specs.declared.operations.KeyedOp.{KeyedOp}
use Rattle.fkv_operations.specs.declared.operations.KeyedOp.TheVariants.{Read}
use Rattle.fkv_operations.specs.declared.operations.Answer.{Answer}
use Rattle.fkv_partition.specs.Contexts.{is_session}
use Rattle.fkv_partition.specs.Views.{context_at, live_of, PartitionView, relocation_at}
use Rattle.fkv_partition.specs.KeyEffect as key_effect
use Rattle.fkv_partition.specs.AtOnce.{IsDoneAtOnce, IsReadAtOnce}
use Rattle.fkv_partition.specs.Effect.{Asked, asked, asked_of}
use Rattle.fkv_partition.specs.declared.relocations.Relocation.{Relocation}
use Rattle.fkv_partition.proofs.AskedLemmas.{keyed-op}
use Rattle.fkv_local.specs.Resting.{IsIdle}
use Rattle.fkv_local.specs.Storing.{Runs}
use Rattle.fkv_local.proofs.DriveLemmas.{none-mapped}

module _ {K V I : Type 0} where
  pub no-operation : (o : Option (key_effect.Asked K V I)) (r : Option (Relocation K V)) → asked_of o r ≡ None → o ≡ None
  no-operation None r h = refl
  no-operation (Some x) r h = absurd (cc)

  pub no-relocation : (o : Option (key_effect.Asked K V I)) (r : Option (Relocation K V)) → asked_of o r ≡ None → r ≡ None
  no-relocation None None h = refl
  no-relocation None (Some x) h = absurd (cc)
  no-relocation (Some y) r h = absurd (cc)

  pub unasked : (v : PartitionView K V I) (c : ℕ) → IsIdle v 0 → asked v 0 c ≡ None
  unasked v c i = ap (λ o. asked_of (option_map key_effect.asked_by o) (relocation_at v 0 c)) (i.free c) ∙ ap (asked_of None) (i.relocations c)

pub at-once_runs : {K V I O R : Type 0} (stands : R → Standing) (cmp : K → K → Ordering) (join : V → V → V) (f : Meanings K V I O) (code : K → ℕ) (v w : PartitionView K V I) (op : KeyedOp K V I) (issued now : ℕ) (told : Answer O)
    → IsIdle v 0 → IsDoneAtOnce stands cmp join f code v w 0 op issued now told → Runs true cmp f v w op (Ok told)
at-once_runs {K} {V} {I} stands cmp join f code v w op issued now told i d = record {
  number = d.event.frame.number ∙ d.issue.frame.number;
  count = d.event.frame.count ∙ d.issue.frame.count;
  idle = record {
    entered = ap (λ r. is_session r.epochs.slots 0) (d.event.frame.regions ∙ d.issue.frame.regions) ∙ i.entered;
    settled = subst IsSettled (sym (d.event.frame.regions ∙ d.issue.frame.regions)) i.settled;
    free = λ c. none-mapped key_effect.asked_by (context_at w 0 c) (no-operation (key_effect.asked w 0 c) (relocation_at w 0 c) (none c));
    relocations = λ c. no-relocation (key_effect.asked w 0 c) (relocation_at w 0 c) (none c);
  };
  effect = λ _. (subst (λ t. Same (live_of cmp w) (after cmp f (live cmp t) op)) d.issue.text done, subst (λ t. told ≡ answer f (live cmp t) op) d.issue.text answered);
}
  where
    here : ℕ
    here = d.context

    other : (c : ℕ) → c ≢ d.context → asked w 0 c ≡ None
    other c n = d.event.frame.others 0 c (inr n) ∙ d.issue.frame.others 0 c (inr n) ∙ unasked v c i

    by : (c : ℕ) (a b : Bool) → nat_lt c d.context ≡ a → nat_lt d.context c ≡ b → asked w 0 c ≡ None
    by c true b p q = other c (λ e. absurd (let l : c < d.context = grind (arith, nat_tests) in omega arith))
    by c false true p q = other c (λ e. absurd (let l : d.context < c = grind (arith, nat_tests) in omega arith))
    by c false false p q = let same : c ≡ d.context = grind (arith, nat_tests) in rw same d.event.effect.0

    none : (c : ℕ) → asked w 0 c ≡ None
    none c = by c (nat_lt c d.context) (nat_lt d.context c) refl refl

    question : d.event.question.op ≡ op_of op
    question = ap (λ (q : Asked K V I). q.op) (same_Some d.event.question (record { number = issued; op = op_of op }) (sym d.event.was ∙ d.issue.opened))

    by_key : keyed d.event.question.op ≡ Some op
    by_key = ap keyed question ∙ keyed-op op

    done : Same (live_of cmp w) (after cmp f (live_of cmp d.between) op)
    done = subst (λ o. Same (live_of cmp w) (after_keyed cmp f (live_of cmp d.between) o)) by_key d.event.effect.2

    answered : told ≡ answer f (live_of cmp d.between) op
    answered = subst (λ o. told ≡ answer_keyed f (live_of cmp d.between) o) by_key d.event.effect.3

pub read_runs : {K V I O : Type 0} (keeps : Bool) (cmp : K → K → Ordering) (join : V → V → V) (f : Meanings K V I O) (code : K → ℕ) (v : PartitionView K V I) (key : K) (input : I) (told : Answer O)
    → IsIdle v 0 → IsReadAtOnce cmp join f code v 0 key input told → Runs keeps cmp f v v (Read key input) (Ok told)
read_runs keeps cmp join f code v key input told i d = record { number = refl; count = refl; idle = i; effect = λ _. ((λ k. refl), d.read.shows) }
