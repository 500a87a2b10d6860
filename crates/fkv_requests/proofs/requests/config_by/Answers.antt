use Rattle.std.proofs.Common.{◌≡◌, ◌∙◌, ap}
use Rattle.std.specs.Prelude.{codes}
use Rattle.clap.specs.Words.{found_of, rows_of}
use Rattle.clap.proofs.WalkLemmas.{first_value-rows}
use Rattle.fkv_requests.specs.Memory.{share_of, bucket_bits_in, page_bits_in, frames_in}
use Rattle.fkv_requests.specs.Requests.{number_of, given_or, is_set, merge_of}
use Rattle.fkv_requests.proofs.requests.config_by.Goals as goal

pub returns-in_default : goal.returns-in_default
returns-in_default c =
    let found = found_of c.args.options.now in
    let partition = c.partition_bits_by.ensures in
    let bucket = c.number_by.ensures ∙ ap number_of (first_value-rows found (codes "bucket-bits")) in
    let page = c.number_by-in_default.ensures ∙ ap number_of (first_value-rows found (codes "page-bits")) in
    let frames = c.number_by-in_default-2.ensures ∙ ap number_of (first_value-rows found (codes "frames")) in
    rw c.in_default.is (λ i. record { id = 1; partition_bits = partition i; bucket_bits = bucket i; page_bits = page i; frames = frames i; turns = 1000000 })

pub returns : goal.returns
returns c =
    let rows = rows_of (found_of c.args.options.now) in
    let partition = c.number_or-partition_bits.ensures ∙ ap (given_or (codes "partition-bits") rows) c.partition_bits_in.ensures in
    let share = c.share_of-share.ensures ∙ ap (share_of c.in-Some.memory) partition in
    let bucket =
    c.number_or-bucket_bits.ensures ∙ ap (given_or (codes "bucket-bits") rows) (c.bucket_bits_in.ensures ∙ ap bucket_bits_in share) in
    let merge : c.flag_by-merge.result ≡ merge_of rows = c.flag_by-merge.ensures ∙ ap is_set (first_value-rows (found_of c.args.options.now) (codes "merge")) in
    let page =
    c.number_or-page_bits.ensures
    ∙ ap (given_or (codes "page-bits") rows) (c.page_bits_in.ensures ∙ (λ i. page_bits_in (share i) (merge i))) in
    let frames =
    c.number_or.ensures
    ∙ ap (given_or (codes "frames") rows) (c.frames_in-frames.ensures ∙ (λ i. frames_in (bucket i) (page i) (share i))) in
    rw c.in-Some.is (λ i. record { id = 1; partition_bits = partition i; bucket_bits = bucket i; page_bits = page i; frames = frames i; turns = 1000000 })
