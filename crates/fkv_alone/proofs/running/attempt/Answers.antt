use Rattle.std.proofs.Common.{◌≡◌, ◌+◌, ◌<◌, ◌^◌, inl, inr, Ok, Err, refl, ◌∙◌, ap, subst, arith}
use Rattle.fkv_operations.specs.After.{key_of}
use Rattle.fkv_partition.specs.Beginning.{IssuesOnKey}
use Rattle.fkv_partition.specs.Views.{PartitionView}
use Rattle.fkv_alone.specs.Bound.{rest_of}
use Rattle.fkv_alone.specs.Ending.{Ends}
use Rattle.fkv_alone.proofs.BoundLemmas.{issue-near}
use Rattle.fkv_alone.proofs.DriveLemmas.{pend-then, pend-free, given-over, given-others}
use Rattle.fkv_alone.proofs.EndLemmas.{issue-told, issue-stalled, issue-begun, issue-rest, issue-none, driven-ends, driven-over}
use Rattle.fkv_alone.proofs.KeyLemmas.{issued-on-key, rest-then, rest-same}
use Rattle.fkv_alone.proofs.running.attempt.Goals as goal

pub returns-in-Err-issue-clause-ends : goal.returns-in-Err-issue-clause-ends
returns-in-Err-issue-clause-ends g c =
    let first = c.in-Ok.ensures.ok in
    let some = first.2 in
    let v = c.args.partition.now in
    let does = issued-on-key g.F.Functions.code v c.issue.new.self c.args.slot c.in-Ok.now c.args.op c.op.result (Err c.in-Err-issue.refused) c.op.ensures c.in-Err-issue.ensures.effect in
    Ends.unissued c.in-Err-issue.refused (λ none. omega arith)
    (subst (λ n. IssuesOnKey g.F.Functions.code v c.issue.new.self c.args.slot c.args.op n (Err c.in-Err-issue.refused)) first.0 does)
    c.in-Err-issue.ensures.unchanged
    (first.1 ∙ first.0) refl refl

pub drive-requires-clause-none : goal.drive-requires-clause-none
drive-requires-clause-none g c =
    let first = c.in-Ok.ensures.ok in
    let v = c.args.partition.now in
    let w = c.issue.new.self in
    let k = c.in-Ok-issue.context in
    let issued = issue-told g.F.Functions.code v w c.args.slot k c.in-Ok.now c.args.op (issued-on-key g.F.Functions.code v w c.args.slot c.in-Ok.now c.args.op c.op.result (Ok k) c.op.ensures c.in-Ok-issue.ensures.effect) in
    issue-none g.F.Functions.code v w c.args.slot k c.in-Ok.now c.args.op issued

pub returns-in-Ok-drive-clause-ends : goal.returns-in-Ok-drive-clause-ends
returns-in-Ok-drive-clause-ends g c =
    let first = c.in-Ok.ensures.ok in
    let v = c.args.partition.now in
    let w = c.issue.new.self in
    let k = c.in-Ok-issue.context in
    let issued = issue-told g.F.Functions.code v w c.args.slot k c.in-Ok.now c.args.op (issued-on-key g.F.Functions.code v w c.args.slot c.in-Ok.now c.args.op c.op.result (Ok k) c.op.ensures c.in-Ok-issue.ensures.effect) in
    let begun = issue-begun g.F.Functions.code v w c.args.slot k c.in-Ok.now c.args.op issued c.facts.ensures.sound.places c.in-Ok-issue.ensures.within.0 in
    let drives = c.in-Ok-drive.ensures.drives c.args.op v c.in-Ok.now begun.ready in
    driven-ends g.R.Receipt.keeps g.R.Receipt.stands g.F.Key.Ord.cmp g.F.Mergeable.parts.joined g.F.Functions.meaning g.F.Functions.code c.args.op v c.drive.new.partition c.args.slot k c.args.limit c.args.clock.now c.in-Ok.now c.drive.new.clock (g.P.PageReader.failures c.args.reader.now) (g.P.PageReader.failures c.drive.new.reader) issued.opens first.0 first.2 c.in-Ok-drive.progress (rw first.1 at drives)

pub returns-in-Err-drive-clause-ends : goal.returns-in-Err-drive-clause-ends
returns-in-Err-drive-clause-ends g c =
    let first = c.in-Ok.ensures.ok in
    let v = c.args.partition.now in
    let w = c.issue.new.self in
    let k = c.in-Ok-issue.context in
    let issued = issue-told g.F.Functions.code v w c.args.slot k c.in-Ok.now c.args.op (issued-on-key g.F.Functions.code v w c.args.slot c.in-Ok.now c.args.op c.op.result (Ok k) c.op.ensures c.in-Ok-issue.ensures.effect) in
    let begun = issue-begun g.F.Functions.code v w c.args.slot k c.in-Ok.now c.args.op issued c.facts.ensures.sound.places c.in-Ok-issue.ensures.within.0 in
    let drives = c.in-Err-drive.ensures.drives c.args.op v c.in-Ok.now begun.ready in
    let given = c.give_up_untimed-given_up.new.self in
    driven-over g.R.Receipt.keeps g.R.Receipt.stands g.F.Key.Ord.cmp g.F.Mergeable.parts.joined g.F.Functions.meaning g.F.Functions.code c.args.op v c.drive.new.partition c.args.slot k c.args.limit c.args.clock.now c.in-Ok.now c.drive.new.clock (g.P.PageReader.failures c.args.reader.now) (g.P.PageReader.failures c.drive.new.reader) issued.opens first.0 first.2 given c.in-Err-drive.refused (rw first.1 at drives)
    (given-over c.drive.new.partition given c.args.slot k c.drive.new.partition.moment c.give_up_untimed-given_up.result c.give_up_untimed-given_up.ensures.effect)

pub returns-in-Ok-drive-clause-bound : goal.returns-in-Ok-drive-clause-bound
returns-in-Ok-drive-clause-bound g c = λ kept clear.
    let first = c.in-Ok.ensures.ok in
    let v = c.args.partition.now in
    let w = c.issue.new.self in
    let k = c.in-Ok-issue.context in
    let issued = issue-told g.F.Functions.code v w c.args.slot k c.in-Ok.now c.args.op (issued-on-key g.F.Functions.code v w c.args.slot c.in-Ok.now c.args.op c.op.result (Ok k) c.op.ensures c.in-Ok-issue.ensures.effect) in
    let begun = issue-begun g.F.Functions.code v w c.args.slot k c.in-Ok.now c.args.op issued c.facts.ensures.sound.places c.in-Ok-issue.ensures.within.0 in
    let hashed : c.hash-hash.result ≡ g.F.Functions.code (key_of c.args.op) = c.hash-hash.ensures ∙ ap g.F.Functions.code c.key.ensures in
    let fits = c.hash-hash.type_inv in
    let range : g.F.Functions.code (key_of c.args.op) < 2 ^ 64 = subst (λ h. h < 2 ^ 64) hashed fits in
    let near = issue-near g.F.Functions.code v w c.args.slot k c.in-Ok.now c.args.op (ap (λ (u : PartitionView _ _ _). u) issued.is) begun.ready begun.fresh clear range in
    let bound = c.in-Ok-drive.ensures.bound (3 + rest_of g.F.Functions.code v.records c.args.op) kept near in
    let start = first.1 in
    let now = first.0 in
    omega arith

pub returns-in-Err-drive-clause-bound : goal.returns-in-Err-drive-clause-bound
returns-in-Err-drive-clause-bound g c = λ kept clear.
    let first = c.in-Ok.ensures.ok in
    let v = c.args.partition.now in
    let w = c.issue.new.self in
    let k = c.in-Ok-issue.context in
    let issued = issue-told g.F.Functions.code v w c.args.slot k c.in-Ok.now c.args.op (issued-on-key g.F.Functions.code v w c.args.slot c.in-Ok.now c.args.op c.op.result (Ok k) c.op.ensures c.in-Ok-issue.ensures.effect) in
    let begun = issue-begun g.F.Functions.code v w c.args.slot k c.in-Ok.now c.args.op issued c.facts.ensures.sound.places c.in-Ok-issue.ensures.within.0 in
    let hashed : c.hash-hash.result ≡ g.F.Functions.code (key_of c.args.op) = c.hash-hash.ensures ∙ ap g.F.Functions.code c.key.ensures in
    let fits = c.hash-hash.type_inv in
    let range : g.F.Functions.code (key_of c.args.op) < 2 ^ 64 = subst (λ h. h < 2 ^ 64) hashed fits in
    let near = issue-near g.F.Functions.code v w c.args.slot k c.in-Ok.now c.args.op (ap (λ (u : PartitionView _ _ _). u) issued.is) begun.ready begun.fresh clear range in
    let bound = c.in-Err-drive.ensures.bound (3 + rest_of g.F.Functions.code v.records c.args.op) kept near in
    let start = first.1 in
    let now = first.0 in
    omega arith

pub returns-in-Err-clause-enough : goal.returns-in-Err-clause-enough
returns-in-Err-clause-enough g c = λ kept clear low e. elim c.in-Err.ensures.refused.1 [
  | inl a ↦ absurd (let none = a.1 in omega arith)
  | inr b ↦ absurd (let is = b.0 in cc)
]

pub returns-in-Err-issue-clause-enough : goal.returns-in-Err-issue-clause-enough
returns-in-Err-issue-clause-enough g c = λ kept clear low e.
    (let v = c.args.partition.now in
    let does = issued-on-key g.F.Functions.code v c.issue.new.self c.args.slot c.in-Ok.now c.args.op c.op.result (Err c.in-Err-issue.refused) c.op.ensures c.in-Err-issue.ensures.effect in
    issue-stalled g.F.Functions.code v c.issue.new.self c.args.slot c.in-Ok.now c.args.op c.in-Err-issue.refused does (cc))

pub returns-in-Ok-drive-clause-enough : goal.returns-in-Ok-drive-clause-enough
returns-in-Ok-drive-clause-enough g c = λ kept clear low e. absurd (cc)

pub returns-in-Err-drive-clause-enough : goal.returns-in-Err-drive-clause-enough
returns-in-Err-drive-clause-enough g c = λ kept clear low e.
    (let first = c.in-Ok.ensures.ok in
    let v = c.args.partition.now in
    let w = c.issue.new.self in
    let k = c.in-Ok-issue.context in
    let issued = issue-told g.F.Functions.code v w c.args.slot k c.in-Ok.now c.args.op (issued-on-key g.F.Functions.code v w c.args.slot c.in-Ok.now c.args.op c.op.result (Ok k) c.op.ensures c.in-Ok-issue.ensures.effect) in
    let begun = issue-begun g.F.Functions.code v w c.args.slot k c.in-Ok.now c.args.op issued c.facts.ensures.sound.places c.in-Ok-issue.ensures.within.0 in
    let hashed : c.hash-hash.result ≡ g.F.Functions.code (key_of c.args.op) = c.hash-hash.ensures ∙ ap g.F.Functions.code c.key.ensures in
    let fits = c.hash-hash.type_inv in
    let range : g.F.Functions.code (key_of c.args.op) < 2 ^ 64 = subst (λ h. h < 2 ^ 64) hashed fits in
    let near = issue-near g.F.Functions.code v w c.args.slot k c.in-Ok.now c.args.op (ap (λ (u : PartitionView _ _ _). u) issued.is) begun.ready begun.fresh clear range in
    c.in-Err-drive.ensures.enough c.args.op v c.in-Ok.now (3 + rest_of g.F.Functions.code v.records c.args.op) begun.ready kept near (omega arith) e)

pub returns-in-Ok-drive-clause-others : goal.returns-in-Ok-drive-clause-others
returns-in-Ok-drive-clause-others g c = λ kept s e other.
    let first = c.in-Ok.ensures.ok in
    let v = c.args.partition.now in
    let w = c.issue.new.self in
    let k = c.in-Ok-issue.context in
    let issued = issue-told g.F.Functions.code v w c.args.slot k c.in-Ok.now c.args.op (issued-on-key g.F.Functions.code v w c.args.slot c.in-Ok.now c.args.op c.op.result (Ok k) c.op.ensures c.in-Ok-issue.ensures.effect) in
    pend-free g.F.Key.Ord.cmp v w c.drive.new.partition c.args.slot k s e (c.in-Ok-issue.ensures.pends kept) (c.in-Ok-drive.ensures.others kept) issued.opens.free other

pub returns-in-Err-drive-clause-others : goal.returns-in-Err-drive-clause-others
returns-in-Err-drive-clause-others g c = λ kept s e other.
    let first = c.in-Ok.ensures.ok in
    let v = c.args.partition.now in
    let w = c.issue.new.self in
    let k = c.in-Ok-issue.context in
    let issued = issue-told g.F.Functions.code v w c.args.slot k c.in-Ok.now c.args.op (issued-on-key g.F.Functions.code v w c.args.slot c.in-Ok.now c.args.op c.op.result (Ok k) c.op.ensures c.in-Ok-issue.ensures.effect) in
    let given = c.give_up_untimed-given_up.new.self in
    pend-free g.F.Key.Ord.cmp v w given c.args.slot k s e (c.in-Ok-issue.ensures.pends kept)
    (pend-then g.F.Key.Ord.cmp w c.drive.new.partition given c.args.slot k (c.in-Err-drive.ensures.others kept)
    (given-others g.F.Key.Ord.cmp c.drive.new.partition given c.args.slot k c.drive.new.partition.moment c.give_up_untimed-given_up.result c.give_up_untimed-given_up.ensures.effect))
    issued.opens.free other

pub returns-in-Err-issue-clause-rest : goal.returns-in-Err-issue-clause-rest
returns-in-Err-issue-clause-rest g c = rest-same c.args.partition.now c.issue.new.self c.in-Err-issue.ensures.unchanged

pub returns-in-Ok-drive-clause-rest : goal.returns-in-Ok-drive-clause-rest
returns-in-Ok-drive-clause-rest g c =
    let first = c.in-Ok.ensures.ok in
    let v = c.args.partition.now in
    let w = c.issue.new.self in
    let k = c.in-Ok-issue.context in
    let issued = issue-told g.F.Functions.code v w c.args.slot k c.in-Ok.now c.args.op (issued-on-key g.F.Functions.code v w c.args.slot c.in-Ok.now c.args.op c.op.result (Ok k) c.op.ensures c.in-Ok-issue.ensures.effect) in
    rest-then v w c.drive.new.partition (issue-rest g.F.Functions.code v w c.args.slot k c.in-Ok.now c.args.op issued) c.in-Ok-drive.ensures.rest

pub returns-in-Err-drive-clause-rest : goal.returns-in-Err-drive-clause-rest
returns-in-Err-drive-clause-rest g c =
    let first = c.in-Ok.ensures.ok in
    let v = c.args.partition.now in
    let w = c.issue.new.self in
    let k = c.in-Ok-issue.context in
    let issued = issue-told g.F.Functions.code v w c.args.slot k c.in-Ok.now c.args.op (issued-on-key g.F.Functions.code v w c.args.slot c.in-Ok.now c.args.op c.op.result (Ok k) c.op.ensures c.in-Ok-issue.ensures.effect) in
    let driven = rest-then v w c.drive.new.partition (issue-rest g.F.Functions.code v w c.args.slot k c.in-Ok.now c.args.op issued) c.in-Err-drive.ensures.rest in
    rest-then v c.drive.new.partition c.give_up_untimed-given_up.new.self driven c.give_up_untimed-given_up.ensures.rest

pub returns-in-Ok-drive-clause-within : goal.returns-in-Ok-drive-clause-within
returns-in-Ok-drive-clause-within g c =
    let first = c.in-Ok.ensures.ok in
    let start = first.1 in
    let now = first.0 in
    let some = first.2 in
    let driven = c.in-Ok-drive.ensures.within in
    omega arith

pub returns-in-Err-drive-clause-within : goal.returns-in-Err-drive-clause-within
returns-in-Err-drive-clause-within g c =
    let first = c.in-Ok.ensures.ok in
    let start = first.1 in
    let now = first.0 in
    let some = first.2 in
    let driven = c.in-Err-drive.ensures.within in
    omega arith

pub returns-in-Err-issue-clause-within : goal.returns-in-Err-issue-clause-within
returns-in-Err-issue-clause-within g c =
    let first = c.in-Ok.ensures.ok in
    let start = first.1 in
    let now = first.0 in
    let some = first.2 in
    omega arith

pub returns-in-Ok-drive-clause-unread : goal.returns-in-Ok-drive-clause-unread
returns-in-Ok-drive-clause-unread g c = λ merge.
    let first = c.in-Ok.ensures.ok in
    let v = c.args.partition.now in
    let w = c.issue.new.self in
    let k = c.in-Ok-issue.context in
    let issued = issue-told g.F.Functions.code v w c.args.slot k c.in-Ok.now c.args.op (issued-on-key g.F.Functions.code v w c.args.slot c.in-Ok.now c.args.op c.op.result (Ok k) c.op.ensures c.in-Ok-issue.ensures.effect) in
    let begun = issue-begun g.F.Functions.code v w c.args.slot k c.in-Ok.now c.args.op issued c.facts.ensures.sound.places c.in-Ok-issue.ensures.within.0 in
    c.in-Ok-drive.ensures.unread c.args.op v c.in-Ok.now begun.ready merge

pub returns-in-Err-drive-clause-unread : goal.returns-in-Err-drive-clause-unread
returns-in-Err-drive-clause-unread g c = λ merge.
    let first = c.in-Ok.ensures.ok in
    let v = c.args.partition.now in
    let w = c.issue.new.self in
    let k = c.in-Ok-issue.context in
    let issued = issue-told g.F.Functions.code v w c.args.slot k c.in-Ok.now c.args.op (issued-on-key g.F.Functions.code v w c.args.slot c.in-Ok.now c.args.op c.op.result (Ok k) c.op.ensures c.in-Ok-issue.ensures.effect) in
    let begun = issue-begun g.F.Functions.code v w c.args.slot k c.in-Ok.now c.args.op issued c.facts.ensures.sound.places c.in-Ok-issue.ensures.within.0 in
    c.in-Err-drive.ensures.unread c.args.op v c.in-Ok.now begun.ready merge

pub returns-in-Ok-drive-clause-loads : goal.returns-in-Ok-drive-clause-loads
returns-in-Ok-drive-clause-loads g c = λ kept clear.
    let first = c.in-Ok.ensures.ok in
    let v = c.args.partition.now in
    let w = c.issue.new.self in
    let k = c.in-Ok-issue.context in
    let issued = issue-told g.F.Functions.code v w c.args.slot k c.in-Ok.now c.args.op (issued-on-key g.F.Functions.code v w c.args.slot c.in-Ok.now c.args.op c.op.result (Ok k) c.op.ensures c.in-Ok-issue.ensures.effect) in
    let begun = issue-begun g.F.Functions.code v w c.args.slot k c.in-Ok.now c.args.op issued c.facts.ensures.sound.places c.in-Ok-issue.ensures.within.0 in
    let hashed : c.hash-hash.result ≡ g.F.Functions.code (key_of c.args.op) = c.hash-hash.ensures ∙ ap g.F.Functions.code c.key.ensures in
    let fits = c.hash-hash.type_inv in
    let range : g.F.Functions.code (key_of c.args.op) < 2 ^ 64 = subst (λ h. h < 2 ^ 64) hashed fits in
    let near = issue-near g.F.Functions.code v w c.args.slot k c.in-Ok.now c.args.op (ap (λ (u : PartitionView _ _ _). u) issued.is) begun.ready begun.fresh clear range in
    c.in-Ok-drive.ensures.loads kept c.args.op v c.in-Ok.now (3 + rest_of g.F.Functions.code v.records c.args.op) begun.ready near

pub returns-in-Err-drive-clause-loads : goal.returns-in-Err-drive-clause-loads
returns-in-Err-drive-clause-loads g c = λ kept clear.
    let first = c.in-Ok.ensures.ok in
    let v = c.args.partition.now in
    let w = c.issue.new.self in
    let k = c.in-Ok-issue.context in
    let issued = issue-told g.F.Functions.code v w c.args.slot k c.in-Ok.now c.args.op (issued-on-key g.F.Functions.code v w c.args.slot c.in-Ok.now c.args.op c.op.result (Ok k) c.op.ensures c.in-Ok-issue.ensures.effect) in
    let begun = issue-begun g.F.Functions.code v w c.args.slot k c.in-Ok.now c.args.op issued c.facts.ensures.sound.places c.in-Ok-issue.ensures.within.0 in
    let hashed : c.hash-hash.result ≡ g.F.Functions.code (key_of c.args.op) = c.hash-hash.ensures ∙ ap g.F.Functions.code c.key.ensures in
    let fits = c.hash-hash.type_inv in
    let range : g.F.Functions.code (key_of c.args.op) < 2 ^ 64 = subst (λ h. h < 2 ^ 64) hashed fits in
    let near = issue-near g.F.Functions.code v w c.args.slot k c.in-Ok.now c.args.op (ap (λ (u : PartitionView _ _ _). u) issued.is) begun.ready begun.fresh clear range in
    c.in-Err-drive.ensures.loads kept c.args.op v c.in-Ok.now (3 + rest_of g.F.Functions.code v.records c.args.op) begun.ready near
