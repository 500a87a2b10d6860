use Rattle.std.proofs.Common.{◌≡◌, ◌++◌, ◌∷◌, [], true, false, refl, sym, ◌∙◌, rules, arith, length-append, append_assoc}
use Rattle.std.proofs.Common.{inl, inr}
use Rattle.std.specs.Prelude.{FitsSigned}
use Rattle.std.specs.Int.{w64}
use Rattle.std.proofs.lemmas.Int.{to_z-of_z}
use Rattle.std.proofs.lemmas.List.{append-nil}
use Rattle.fkv_feed_rows.proofs.AmountLemmas.{amount_fits}
use Rattle.csv.specs.Reading.{source_of}
use Rattle.csv.specs.Records.{fields_of}
use Rattle.fkv_feed_rows.proofs.RecordLemmas.{are_rows-more, are_rows-length, has_read-start, has_read-more, has_read-end, bad_row, too_long}
use Rattle.fkv_feed_rows.proofs.reading.add_rows.Goals as goal

pub loop-count-init : goal.loop-count-init
loop-count-init g c = record {
  plain = c.requires.fresh.plain;
  ready = c.requires.fresh.ready;
  config = c.requires.fresh.config;
  kept = refl;
  so_far = ([], [], has_read-start g.R.Read.remaining _ c.args.reader.now refl c.requires.fresh.start, tt, refl, λ before h. rw (append-nil before) h);
}

pub returns-in-Ok-false-clause-ok : goal.returns-in-Ok-false-clause-ok
returns-in-Ok-false-clause-ok g c =
    let old = c.loop-count.invariant in
    let done : c.in-Ok-false.field-0 ≡ false = search rules in
    let read = rw done at c.in-Ok-false.ensures.reads old.plain old.ready in
    λ before h. (
      old.so_far.1,
      has_read-end g.R.Read.remaining c.args.limit (source_of g.R.Read.remaining c.args.reader.now) c.loop-count.reader c.read_byte_record.new.self (fields_of c.read_byte_record.new.row) old.so_far.0 old.so_far.1 old.config old.so_far.2 read old.so_far.3 (omega (arith, old.so_far.4)),
      old.so_far.5 before h,
      old.so_far.4 ∙ sym (are_rows-length old.so_far.0 old.so_far.1 old.so_far.3),
    )

pub returns-in_default-clause-told : goal.returns-in_default-clause-told
returns-in_default-clause-told g c =
    let old = c.loop-count.invariant in
    let found : c.in-Ok-true.field-0 ≡ true = search rules in
    let read = rw found at c.in-Ok-true.ensures.reads old.plain old.ready in
    let fields = fields_of c.read_byte_record.new.row in inr (
      refl,
      bad_row g.R.Read.remaining (source_of g.R.Read.remaining c.args.reader.now) c.read_byte_record.new.self old.so_far.0 fields old.so_far.1 _
          (has_read-more g.R.Read.remaining (source_of g.R.Read.remaining c.args.reader.now) c.loop-count.reader c.read_byte_record.new.self fields old.so_far.0 old.config old.so_far.2 read)
          old.so_far.3 (omega (arith, old.so_far.4)) c.in_default.ensures.none,
    )

pub loop-count-preserved : goal.loop-count-preserved
loop-count-preserved g c =
    let old = c.loop-count.invariant in
    let found : c.in-Ok-true.field-0 ≡ true = search rules in
    let read = rw found at c.in-Ok-true.ensures.reads old.plain old.ready in
    let fields = fields_of c.read_byte_record.new.row in
    let fits : FitsSigned w64 c.in-Some.amount = amount_fits c.in-Some.ensures.row.0 c.in-Some.amount c.in-Some.ensures.row.2 in
    record {
      plain = read.3 ∙ old.plain;
      ready = inl (c.in-Ok-true.ensures.ready old.plain);
      config = read.2 ∙ old.config;
      kept = c.add.ensures.kept ∙ old.kept;
      so_far = (
        old.so_far.0 ++ fields ∷ [],
        old.so_far.1 ++ (c.in-Some.key, c.in-Some.amount) ∷ [],
        has_read-more g.R.Read.remaining (source_of g.R.Read.remaining c.args.reader.now) c.loop-count.reader c.read_byte_record.new.self fields old.so_far.0 old.config old.so_far.2 read,
        are_rows-more old.so_far.0 old.so_far.1 fields (c.in-Some.key, c.in-Some.amount) old.so_far.3 c.in-Some.ensures.row,
        omega (arith, old.so_far.4, length-append old.so_far.0 (fields ∷ [])),
        λ before h. rw (← append_assoc before old.so_far.1 ((c.in-Some.key, c.in-Some.amount) ∷ [])) (rw (to_z-of_z w64 c.in-Some.amount fits) at c.in-Ok.ensures.ok (before ++ old.so_far.1) (old.so_far.5 before h)),
      );
    }

pub returns-in-Ok-true-read_byte_record-clause-told : goal.returns-in-Ok-true-read_byte_record-clause-told
returns-in-Ok-true-read_byte_record-clause-told g c =
    let old = c.loop-count.invariant in
    let found : c.in-Ok-true-read_byte_record.field-0 ≡ true = search rules in
    let read = rw found at c.in-Ok-true-read_byte_record.ensures.reads old.plain old.ready in
    let fields = fields_of c.read_byte_record-2.new.row in inr (
      refl,
      too_long g.R.Read.remaining c.args.limit (source_of g.R.Read.remaining c.args.reader.now) c.read_byte_record-2.new.self (old.so_far.0 ++ fields ∷ [])
          (has_read-more g.R.Read.remaining (source_of g.R.Read.remaining c.args.reader.now) c.loop-count.reader c.read_byte_record-2.new.self fields old.so_far.0 old.config old.so_far.2 read)
          (omega (arith, old.so_far.4, length-append old.so_far.0 (fields ∷ []))),
    )

pub returns-in-Ok-false-read_byte_record-clause-ok : goal.returns-in-Ok-false-read_byte_record-clause-ok
returns-in-Ok-false-read_byte_record-clause-ok g c =
    let old = c.loop-count.invariant in
    let done : c.in-Ok-false-read_byte_record.field-0 ≡ false = search rules in
    let read = rw done at c.in-Ok-false-read_byte_record.ensures.reads old.plain old.ready in
    λ before h. (
      old.so_far.1,
      has_read-end g.R.Read.remaining c.args.limit (source_of g.R.Read.remaining c.args.reader.now) c.loop-count.reader c.read_byte_record-2.new.self (fields_of c.read_byte_record-2.new.row) old.so_far.0 old.so_far.1 old.config old.so_far.2 read old.so_far.3 (omega (arith, old.so_far.4)),
      old.so_far.5 before h,
      omega (arith, old.so_far.4, are_rows-length old.so_far.0 old.so_far.1 old.so_far.3),
    )

pub add-requires : goal.add-requires
add-requires g c =
    let old = c.loop-count.invariant in
    (c.requires.stands.0 ++ old.so_far.1, old.so_far.5 c.requires.stands.0 c.requires.stands.1)
