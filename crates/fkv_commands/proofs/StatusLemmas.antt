-- Statuses are apart, and what is done counted no failure.
use Rattle.std.proofs.Common.{◌≡◌, ℕ, Ok, Err, arith}
use Rattle.fkv_functions.specs.declared.refusals.Refused.{Refused}
use Rattle.fkv_streams.specs.Counting.{CountsOnly}

pub done_is_no_fault : (status : ℕ) → status ≡ 0 → status ≡ 1 → ⊥
done_is_no_fault status e f = omega arith

pub done_is_no_mistake : (status : ℕ) → status ≡ 0 → status ≡ 2 → ⊥
done_is_no_mistake status e f = omega arith

pub fault_is_no_mistake : (status : ℕ) → status ≡ 1 → status ≡ 2 → ⊥
fault_is_no_mistake status e f = omega arith

pub uncounted : {T : Type 0} {refusal : Refused} {x : T} {old new : ℕ} → CountsOnly refusal (Ok x) old new → new ≡ old
uncounted {T} {refusal} {x} h = h.steady (λ e. let bad : Ok x ≡ Err refusal = e in absurd (cc))
