use Rattle.std.proofs.Common.{◌≡◌, ◌<◌, ◌≤◌, ◌∙◌, sym, ap, subst}
use Rattle.std.specs.Prelude.{codes}
use Rattle.clap.specs.Words.{found_of, rows_of}
use Rattle.clap.proofs.WalkLemmas.{first_value-rows}
use Rattle.fkv_requests.specs.Requests.{given_or, number_in, number_of, workers_of}
use Rattle.fkv_requests.proofs.MemoryLemmas.{for_one, for_several}
use Rattle.fkv_requests.proofs.requests.partition_bits_by.Goals.{then-number_by-gt1, else-number_by-gt1}
use Rattle.fkv_requests.proofs.requests.partition_bits_by.Goals as goal

pub returns : goal.returns
returns c =
    let found = found_of c.args.options.now in
    let rows = rows_of found in
    let bits = codes "partition-bits" in
    let workers : c.number_by.result ≡ workers_of rows = c.number_by.ensures ∙ ap number_of (first_value-rows found (codes "workers")) in
    elim c.if-number_by-gt1.branch [
      | then-number_by-gt1 w ↦ c.number_or.ensures
          ∙ ap (given_or bits rows) (w.usual-is ∙ sym (for_several (workers_of rows) (number_in bits rows) (subst (λ n. 1 < n) workers w.if-number_by-gt1.true)))
      | else-number_by-gt1 w ↦ c.number_or.ensures
          ∙ ap (given_or bits rows) (w.usual-is ∙ (w.number_by-usual.ensures ∙ (ap number_of (first_value-rows found bits)
          ∙ sym (for_one (workers_of rows) (number_in bits rows) (subst (λ n. n ≤ 1) workers w.if-number_by-gt1.false)))))
    ]
