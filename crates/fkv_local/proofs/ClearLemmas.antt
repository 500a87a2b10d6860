-- What the events of a relocation leave of a session that has nothing else open.
use Rattle.std.proofs.Common.{◌≡◌, ◌≢◌, Bool, true, false, ℕ, ◌<◌, ◌⊎◌, inl, inr, Some, None, Result, Ok, Err, IfOk, IfErr, OnOk, OnErr, nat_lt, option_map, refl, sym, ◌∙◌, ap, subst, arith}
use Rattle.std.proofs.lemmas.Bool.Decides.{nat_tests}
use Rattle.std.specs.declared.cmp.Ordering.{Ordering}
use Rattle.fkv_functions.specs.declared.refusals.Refused.{Refused}
use Rattle.fkv_texts.specs.Text.{live}
use Rattle.fkv_regions.specs.Settled.{IsSettled}
use Rattle.fkv_partition.specs.Contexts.{is_session}
use Rattle.fkv_partition.specs.KeyEffect as key_effect
use Rattle.fkv_partition.specs.Views.{slots_of, context_at, PartitionView, relocation_at}
use Rattle.fkv_partition.specs.Beginning.{Drops}
use Rattle.fkv_partition.specs.Effect.{asked, asked_of, IsGiveUp, IsTruncation}
use Rattle.fkv_partition.specs.Events.{GivesUp}
use Rattle.fkv_partition.specs.Relocating.{IsRelocating}
use Rattle.fkv_partition.specs.declared.relocations.Relocation.{Relocation}
use Rattle.fkv_local.specs.Resting.{IsIdle, IsIdleBut, StaysIdle, StaysIdleBut}
use Rattle.fkv_local.proofs.DriveLemmas.{none-mapped}
use Rattle.fkv_local.proofs.AtOnceLemmas.{no-operation, no-relocation, unasked}

module _ {K V I : Type 0} where
  -- what asks nothing is open for nothing
  pub asks-nothing : (w : PartitionView K V I) → is_session (slots_of w) 0 ≡ true → IsSettled w.records.log.regions → ((d : ℕ) → asked w 0 d ≡ None) → IsIdle w 0
  asks-nothing w entered settled none = record {
    entered = entered;
    settled = settled;
    free = λ c. none-mapped key_effect.asked_by (context_at w 0 c) (no-operation (key_effect.asked w 0 c) (relocation_at w 0 c) (none c));
    relocations = λ c. no-relocation (key_effect.asked w 0 c) (relocation_at w 0 c) (none c);
  }

  pub idle-but : (v : PartitionView K V I) (c : ℕ) → IsIdle v 0 → IsIdleBut v 0 c
  idle-but v c i = record { entered = i.entered; settled = i.settled; free = i.free; relocations = λ d n. i.relocations d }

  pub but-idle : (v : PartitionView K V I) (c : ℕ) → IsIdleBut v 0 c → relocation_at v 0 c ≡ None → IsIdle v 0
  but-idle v c i none = record { entered = i.entered; settled = i.settled; free = i.free; relocations = λ d. by d (nat_lt d c) (nat_lt c d) refl refl }
    where
      by : (d : ℕ) (a b : Bool) → nat_lt d c ≡ a → nat_lt c d ≡ b → relocation_at v 0 d ≡ None
      by d true b p q = i.relocations d (λ e. absurd (let l : d < c = grind (arith, nat_tests) in omega arith))
      by d false true p q = i.relocations d (λ e. absurd (let l : c < d = grind (arith, nat_tests) in omega arith))
      by d false false p q = let same : d ≡ c = grind (arith, nat_tests) in rw same none

module _ {K V I : Type 0} {keeps : Bool} {cmp : K → K → Ordering} where
  pub stays-same : {v : PartitionView K V I} → IsIdle v 0 → StaysIdle keeps cmp v v
  stays-same i = record { number = refl; count = refl; idle = i; live = λ k q. refl }

  pub stays-then : {u v w : PartitionView K V I} → StaysIdle keeps cmp u v → StaysIdle keeps cmp v w → StaysIdle keeps cmp u w
  stays-then s t = record {
    number = t.number ∙ s.number;
    count = t.count ∙ s.count;
    idle = t.idle;
    live = λ k q. t.live k q ∙ s.live k q;
  }

  pub but-same : {v : PartitionView K V I} {c : ℕ} → IsIdleBut v 0 c → StaysIdleBut keeps cmp v v c
  but-same i = record { number = refl; count = refl; idle = i; live = λ k q. refl }

  pub but-then : {u v w : PartitionView K V I} {c : ℕ} → StaysIdleBut keeps cmp u v c → StaysIdleBut keeps cmp v w c → StaysIdleBut keeps cmp u w c
  but-then s t = record {
    number = t.number ∙ s.number;
    count = t.count ∙ s.count;
    idle = t.idle;
    live = λ k q. t.live k q ∙ s.live k q;
  }

  -- a relocation that was issued, and what was made of it
  pub stays-through : {u v w : PartitionView K V I} {c : ℕ} → StaysIdleBut keeps cmp u v c → StaysIdle keeps cmp v w → StaysIdle keeps cmp u w
  stays-through s t = record {
    number = t.number ∙ s.number;
    count = t.count ∙ s.count;
    idle = t.idle;
    live = λ k q. t.live k q ∙ s.live k q;
  }

  pub but-still : {v w : PartitionView K V I} {c : ℕ} → StaysIdle keeps cmp v w → StaysIdleBut keeps cmp v w c
  but-still {v} {w} {c} s = record { number = s.number; count = s.count; idle = idle-but w c s.idle; live = s.live }

  -- an event of it
  pub but-relocating : (v w : PartitionView K V I) (c now : ℕ) → IsIdleBut v 0 c → IsRelocating keeps cmp v w 0 c now → StaysIdleBut keeps cmp v w c
  but-relocating v w c now i r = record {
    number = r.number;
    count = r.count;
    idle = record {
      entered = ap (λ x. is_session x.epochs.slots 0) r.regions ∙ i.entered;
      settled = subst IsSettled (sym r.regions) i.settled;
      free = λ d. none-mapped key_effect.asked_by (context_at w 0 d) (r.same 0 d ∙ ap (option_map key_effect.asked_by) (i.free d));
      relocations = λ d n. r.others 0 d (inr n) ∙ i.relocations d n;
    };
    live = r.live;
  }

  -- it is given up
  pub given-up : (v w : PartitionView K V I) (c now : ℕ) → IsIdleBut v 0 c → IsGiveUp v w 0 c now → StaysIdle keeps cmp v w
  given-up v w c now i h = record {
    number = h.frame.number;
    count = h.frame.count;
    idle = asks-nothing w (ap (λ x. is_session x.epochs.slots 0) h.frame.regions ∙ i.entered) (subst IsSettled (sym h.frame.regions) i.settled) (λ d. by d (nat_lt d c) (nat_lt c d) refl refl);
    live = λ k q. ap (λ t. live cmp t q) h.text;
  }
    where
      other : (d : ℕ) → d ≢ c → asked w 0 d ≡ None
      other d n = h.frame.others 0 d (inr n) ∙ ap (λ o. asked_of (option_map key_effect.asked_by o) (relocation_at v 0 d)) (i.free d) ∙ ap (asked_of None) (i.relocations d n)

      by : (d : ℕ) (a b : Bool) → nat_lt d c ≡ a → nat_lt c d ≡ b → asked w 0 d ≡ None
      by d true b p q = other d (λ e. absurd (let l : d < c = grind (arith, nat_tests) in omega arith))
      by d false true p q = other d (λ e. absurd (let l : c < d = grind (arith, nat_tests) in omega arith))
      by d false false p q = let same : d ≡ c = grind (arith, nat_tests) in rw same h.closed

  -- a page that is refused changes nothing, or ends it
  pub load-fails : (v w : PartitionView K V I) (c now : ℕ) → IsIdleBut v 0 c → (w ≡ v) ⊎ IsGiveUp v w 0 c now → StaysIdleBut keeps cmp v w c
  load-fails v w c now i (inl same) = subst (λ x. StaysIdleBut keeps cmp v x c) (sym same) (but-same i)
  load-fails v w c now i (inr h) = but-still (given-up v w c now i h)

  -- by what a call of it answers
  pub go-stays : {A : Type 0} {v w : PartitionView K V I} {c : ℕ} (now : ℕ) (r : Result A Refused) → IsIdleBut v 0 c → IfOk r (λ _. IsRelocating keeps cmp v w 0 c now) → OnErr r (w ≡ v) → StaysIdleBut keeps cmp v w c
  go-stays {A} {v} {w} {c} now (Ok a) i ok err = but-relocating v w c now i ok
  go-stays {A} {v} {w} {c} now (Err e) i ok err = load-fails v w c now i (inl err)

  pub load-stays : {A : Type 0} {v w : PartitionView K V I} {c : ℕ} (now : ℕ) (r : Result A Refused) → IsIdleBut v 0 c → IfOk r (λ _. IsRelocating keeps cmp v w 0 c now) → IfErr r (λ _. (w ≡ v) ⊎ IsGiveUp v w 0 c now) → StaysIdleBut keeps cmp v w c
  load-stays {A} {v} {w} {c} now (Ok a) i ok err = but-relocating v w c now i ok
  load-stays {A} {v} {w} {c} now (Err e) i ok err = load-fails v w c now i err

  pub drop-stays : (v w : PartitionView K V I) (c now : ℕ) (x : Relocation K V) (r : Result (Unit {0}) Refused) → IsIdleBut v 0 c → relocation_at v 0 c ≡ Some x → GivesUp v w 0 c now r → OnOk r (IsGiveUp v w 0 c now) → StaysIdle keeps cmp v w
  drop-stays v w c now x (Ok y) i here g event = given-up v w c now i event
  drop-stays v w c now x (Err e) i here (GivesUp.on_key none d p) event = let bad : None ≡ Some x = sym none ∙ here in absurd (cc)
  drop-stays v w c now x (Err e) i here (GivesUp.relocation z h (Drops.unknown n s q)) event = let bad : None ≡ Some x = sym n ∙ here in absurd (cc)
  drop-stays v w c now x (Err e) i here (GivesUp.relocation z h (Drops.drops y n s q)) event = absurd (cc)

  -- the log's start is cut
  pub truncation-stays : (v w : PartitionView K V I) (page now : ℕ) → IsIdle v 0 → IsTruncation keeps cmp v w page now → StaysIdle keeps cmp v w
  truncation-stays v w page now i t = record {
    number = t.number;
    count = t.count;
    idle = asks-nothing w (ap (λ x. is_session x.epochs.slots 0) t.regions ∙ i.entered) (subst IsSettled (sym t.regions) i.settled) (λ d. t.same 0 d ∙ unasked v d i);
    live = t.live;
  }
