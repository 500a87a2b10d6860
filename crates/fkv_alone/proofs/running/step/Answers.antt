use Rattle.std.proofs.Common.{arith}
use Rattle.std.proofs.lemmas.Result.{IfOk-weaker}
use Rattle.fkv_hybrid.specs.Spelled.{IsEntryIn}
use Rattle.fkv_alone.proofs.BoundLemmas.{goes-nearer, installs-nearer, reads-nearer}
use Rattle.fkv_alone.proofs.DriveLemmas.{core-same}
use Rattle.fkv_alone.proofs.KeyLemmas.{goes-on-key, installs-on-key, reads-on-key, none-here, finds-asks, event-finishes, load-tells}
use Rattle.fkv_alone.proofs.LoadsLemmas.{wanted-left, may-fail-can}
use Rattle.fkv_alone.proofs.MergeLemmas.{others-fetch-not}
use Rattle.fkv_alone.proofs.StageLemmas.{goes-advances, installs-advances, reads-advances}
use Rattle.fkv_alone.proofs.running.step.Goals as goal

pub returns-in-Next-clause-advances : goal.returns-in-Next-clause-advances
returns-in-Next-clause-advances g c = λ op old started h.
    let v = c.args.partition.now in
    let w = c.go.new.self in
    let on = goes-on-key v w c.args.slot c.args.context c.args.now c.requires.none g.R.Receipt.stands g.F.Key.Ord.cmp g.F.Mergeable.parts.joined g.F.Functions.meaning g.F.Functions.code c.go.result c.go.ensures.effect in
    goes-advances g.R.Receipt.keeps g.R.Receipt.stands g.F.Key.Ord.cmp g.F.Mergeable.parts.joined g.F.Functions.meaning g.F.Functions.code op old v w c.args.slot c.args.context started c.args.now c.requires.later (rw c.in-Next.is at h) (g.P.PageReader.failures c.args.reader.now) c.go.result on.0
    (c.go.ensures.on_key (none-here v w c.args.slot c.args.context c.args.now c.requires.none))
    (λ kept. IfOk-weaker c.go.result _ _ (λ p finds. finds-asks v w c.args.slot c.args.context c.args.now g.F.Key.Ord.cmp p finds) (c.go.ensures.finds kept))
    (core-same v w c.go.result c.go.ensures.unchanged)

pub returns-in-NeedsBuild-clause-advances : goal.returns-in-NeedsBuild-clause-advances
returns-in-NeedsBuild-clause-advances g c = λ op old started h.
    let v = c.args.partition.now in
    let w = c.install.new.self in
    let on = installs-on-key v w c.args.slot c.args.context c.args.now c.requires.none g.F.Key.Ord.cmp g.F.Functions.meaning g.F.Functions.code c.in-NeedsBuild.ask c.install.result (rw c.make-built.ensures at c.install.ensures.effect) in
    installs-advances g.R.Receipt.keeps g.R.Receipt.stands g.F.Key.Ord.cmp g.F.Mergeable.parts.joined g.F.Functions.meaning g.F.Functions.code op old v w c.args.slot c.args.context started c.args.now c.requires.later c.in-NeedsBuild.ask (rw c.in-NeedsBuild.is at h) (g.P.PageReader.failures c.args.reader.now) c.install.result on.0
    (λ kept. IfOk-weaker c.install.result _ _ (λ p event. event-finishes v w c.args.slot c.args.context c.args.now g.F.Key.Ord.cmp g.F.Functions.meaning p event) (c.install.ensures.event kept))
    (core-same v w c.install.result c.install.ensures.unchanged)

pub returns-in-Next-clause-nearer : goal.returns-in-Next-clause-nearer
returns-in-Next-clause-nearer g c = λ n kept near.
    let v = c.args.partition.now in
    let w = c.go.new.self in
    let on = goes-on-key v w c.args.slot c.args.context c.args.now c.requires.none g.R.Receipt.stands g.F.Key.Ord.cmp g.F.Mergeable.parts.joined g.F.Functions.meaning g.F.Functions.code c.go.result c.go.ensures.effect in
    goes-nearer g.R.Receipt.keeps g.F.Key.Ord.cmp g.F.Mergeable.parts.joined g.F.Functions.code v c.args.slot c.args.context n c.facts.ensures.sound g.R.Receipt.stands g.F.Functions.meaning w c.args.now (rw c.in-Next.is at near) c.go.result on.0

pub returns-in-NeedsBuild-clause-nearer : goal.returns-in-NeedsBuild-clause-nearer
returns-in-NeedsBuild-clause-nearer g c = λ n kept near.
    let v = c.args.partition.now in
    let w = c.install.new.self in
    let on = installs-on-key v w c.args.slot c.args.context c.args.now c.requires.none g.F.Key.Ord.cmp g.F.Functions.meaning g.F.Functions.code c.in-NeedsBuild.ask c.install.result (rw c.make-built.ensures at c.install.ensures.effect) in
    installs-nearer g.R.Receipt.keeps g.F.Key.Ord.cmp g.F.Mergeable.parts.joined g.F.Functions.code v c.args.slot c.args.context n c.facts.ensures.sound g.R.Receipt.stands g.F.Functions.meaning w c.args.now c.in-NeedsBuild.ask (rw c.in-NeedsBuild.is at near) c.install.result on.0

pub returns-in-NeedsLoad-clause-advances : goal.returns-in-NeedsLoad-clause-advances
returns-in-NeedsLoad-clause-advances g c = λ op old started h.
    let v = c.args.partition.now in
    let w = c.load_by.new.self in
    let entry = IsEntryIn g.F.Key.Fixed.codec g.F.Value.Fixed.codec in
    let on = reads-on-key v w c.args.slot c.args.context c.args.now c.requires.none g.R.Receipt.stands entry g.F.Key.Ord.cmp g.F.Mergeable.parts.joined g.F.Functions.meaning g.F.Functions.code (g.P.PageReader.failures c.args.reader.now) (g.P.PageReader.failures c.load_by.new.reader) c.load_by.result c.load_by.ensures.effect in
    reads-advances g.R.Receipt.keeps g.R.Receipt.stands g.F.Key.Ord.cmp g.F.Mergeable.parts.joined g.F.Functions.meaning g.F.Functions.code op old v w c.args.slot c.args.context started c.args.now c.requires.later
    entry
    c.in-NeedsLoad._address (g.R.Receipt.stands c.in-NeedsLoad._receipt) (rw c.in-NeedsLoad.is at h) (g.P.PageReader.failures c.args.reader.now) (g.P.PageReader.failures c.load_by.new.reader) c.load_by.result c.load_by.ensures.undamaged on.0
    (λ kept. IfOk-weaker c.load_by.result _ _ (λ p load. load-tells v w c.args.slot c.args.context c.args.now g.F.Key.Ord.cmp g.F.Functions.meaning p load) (c.load_by.ensures.event kept))

pub returns-in-NeedsLoad-clause-nearer : goal.returns-in-NeedsLoad-clause-nearer
returns-in-NeedsLoad-clause-nearer g c = λ n kept near.
    let v = c.args.partition.now in
    let w = c.load_by.new.self in
    let entry = IsEntryIn g.F.Key.Fixed.codec g.F.Value.Fixed.codec in
    let on = reads-on-key v w c.args.slot c.args.context c.args.now c.requires.none g.R.Receipt.stands entry g.F.Key.Ord.cmp g.F.Mergeable.parts.joined g.F.Functions.meaning g.F.Functions.code (g.P.PageReader.failures c.args.reader.now) (g.P.PageReader.failures c.load_by.new.reader) c.load_by.result c.load_by.ensures.effect in
    reads-nearer g.R.Receipt.keeps g.F.Key.Ord.cmp g.F.Mergeable.parts.joined g.F.Functions.code v c.args.slot c.args.context n c.facts.ensures.sound g.R.Receipt.stands g.F.Functions.meaning w c.args.now kept
    entry
    c.in-NeedsLoad._receipt c.in-NeedsLoad._address (g.P.PageReader.failures c.args.reader.now) (g.P.PageReader.failures c.load_by.new.reader) (rw c.in-NeedsLoad.is at near) c.load_by.result on.0

pub returns-in-NeedsLoad-clause-rest : goal.returns-in-NeedsLoad-clause-rest
returns-in-NeedsLoad-clause-rest g c =
    let v = c.args.partition.now in
    let w = c.load_by.new.self in
    let entry = IsEntryIn g.F.Key.Fixed.codec g.F.Value.Fixed.codec in
    let on = reads-on-key v w c.args.slot c.args.context c.args.now c.requires.none g.R.Receipt.stands entry g.F.Key.Ord.cmp g.F.Mergeable.parts.joined g.F.Functions.meaning g.F.Functions.code (g.P.PageReader.failures c.args.reader.now) (g.P.PageReader.failures c.load_by.new.reader) c.load_by.result c.load_by.ensures.effect in
    on.1

pub returns-in-Next-clause-rest : goal.returns-in-Next-clause-rest
returns-in-Next-clause-rest g c =
    (goes-on-key c.args.partition.now c.go.new.self c.args.slot c.args.context c.args.now c.requires.none g.R.Receipt.stands g.F.Key.Ord.cmp g.F.Mergeable.parts.joined g.F.Functions.meaning g.F.Functions.code c.go.result c.go.ensures.effect).1

pub returns-in-NeedsBuild-clause-rest : goal.returns-in-NeedsBuild-clause-rest
returns-in-NeedsBuild-clause-rest g c =
    (installs-on-key c.args.partition.now c.install.new.self c.args.slot c.args.context c.args.now c.requires.none g.F.Key.Ord.cmp g.F.Functions.meaning g.F.Functions.code c.make-built.result c.install.result c.install.ensures.effect).1

pub returns-in-NeedsLoad-clause-unread : goal.returns-in-NeedsLoad-clause-unread
returns-in-NeedsLoad-clause-unread g c = λ op old started h merge. absurd (others-fetch-not c.facts.ensures.sound (rw c.in-NeedsLoad.is at h) merge)

pub returns-in-NeedsLoad-clause-once : goal.returns-in-NeedsLoad-clause-once
returns-in-NeedsLoad-clause-once g c = rw c.in-NeedsLoad.is c.load_by.ensures.once

pub returns-in-Next-clause-once : goal.returns-in-Next-clause-once
returns-in-Next-clause-once g c = omega arith

pub returns-in-NeedsBuild-clause-once : goal.returns-in-NeedsBuild-clause-once
returns-in-NeedsBuild-clause-once g c = omega arith

pub returns-in-NeedsLoad-clause-wanted : goal.returns-in-NeedsLoad-clause-wanted
returns-in-NeedsLoad-clause-wanted g c = λ kept op old started h.
    rw c.in-NeedsLoad.is (wanted-left g.R.Receipt.keeps g.R.Receipt.stands g.F.Key.Ord.cmp g.F.Mergeable.parts.joined g.F.Functions.meaning g.F.Functions.code op old c.args.slot c.args.context started c.args.partition.now (g.R.Receipt.stands c.in-NeedsLoad._receipt) c.in-NeedsLoad._address (rw c.in-NeedsLoad.is at h) kept c.facts.ensures.sound)

pub returns-in-Next-clause-wanted : goal.returns-in-Next-clause-wanted
returns-in-Next-clause-wanted g c = λ kept op old started h. rw c.in-Next.is (omega arith)

pub returns-in-NeedsBuild-clause-wanted : goal.returns-in-NeedsBuild-clause-wanted
returns-in-NeedsBuild-clause-wanted g c = λ kept op old started h. rw c.in-NeedsBuild.is (omega arith)

pub returns-in-NeedsLoad-clause-caused : goal.returns-in-NeedsLoad-clause-caused
returns-in-NeedsLoad-clause-caused g c = λ other. may-fail-can (c.load_by.ensures.caused other).1
