use Rattle.std.proofs.Common.{◌≡◌, ◌<◌, ◌≤◌, true, false, Ok, Err, length, refl, sym, ap, subst, ◌∙◌, arith}
use Rattle.std.proofs.Math.Nat.{le_refl}
use Rattle.fkv_functions.proofs.KeyOrder.{key_order}
use Rattle.fkv_records.specs.Places.{page_at, IsRecordStart}
use Rattle.fkv_texts.specs.declared.entries.ChainPosition.TheVariants.{Found, Below}
use Rattle.fkv_texts.specs.Deltas.{combined}
use Rattle.fkv_hybrid.specs.Spelled.{IsEntryIn}
use Rattle.fkv_hybrid.specs.Loads.{IsHeldBy}
use Rattle.fkv_operations.specs.After.{key_of}
use Rattle.fkv_hybrid.proofs.ReceiptLemmas.{receipt-within}
use Rattle.fkv_partition.specs.Contexts.{claim_by}
use Rattle.fkv_partition.specs.Inside.{view_of}
use Rattle.fkv_partition.specs.KeyLoading.{Tells, Loads, found, ended}
use Rattle.fkv_functions.proofs.CallLemmas.{with_six}
use Rattle.fkv_partition.proofs.EventLemmas.{claims-none}
use Rattle.fkv_partition.proofs.LoadLemmas.{came-of, told-done, further-done, may-load, wanted-flushed, reads-on, kept-told, further-flushed, further-stands, newest-told, page-undamaged, page-place}
use Rattle.fkv_partition.proofs.PendingLemmas.{load-told, further-load}
use Rattle.std.proofs.lemmas.Bool.{false≢true}
use Rattle.fkv_partition.proofs.DamageLemmas.{answer-not, memory-not}
use Rattle.fkv_partition.proofs.partitions.Partition.resume_look_up.Goals as goal

pub first_of-low-requires-whole : goal.first_of-low-requires-whole
first_of-low-requires-whole g c κs =
    let ord = g.met.F.Key.Ord in
    let facts = g.met.F.Key.FixedKey in
    let order = key_order g.F.Key.PartialEq.eq g.F.Key.Ord.cmp ord.matches_eq facts.exact ord.total in
    let v = c.args.self.now in
    let x = c.args.operation.now in
    let l = c.args.loading in
    let a = c.requires.awaits in
    let p = c.args.loaded in
    let there = wanted-flushed g.F.Key.Ord.cmp g.F.Mergeable.parts.joined g.F.Functions.code order v c.facts.ensures.sound c.args.slot c.args.context x l a in
    with_six (
    rw c.page_of-page.ensures (subst (λ u. page_at u.records.log.bits l.wanted < length u.records.log.receipts) (sym c.self.view_is) (receipt-within _ _ there)))

pub trace_in-requires-clause-own : goal.trace_in-requires-clause-own
trace_in-requires-clause-own g c =
    subst (λ v. IsHeldBy v.records.log.receipts (page_at v.records.log.bits c.args.loading.wanted) (g.R.Receipt.stands c.args.loaded.receipt)) (sym c.self.view_is) c.requires.own

pub trace_in-requires-clause-floor : goal.trace_in-requires-clause-floor
trace_in-requires-clause-floor g c =
    rw (c.first_of-low.ensures, c.page_of-page.ensures) (omega arith)

pub free-requires-clause-unclaimed : goal.free-requires-clause-unclaimed
free-requires-clause-unclaimed g c =
    let v = c.args.self.now in
    let x = c.args.operation.now in
    let l = c.args.loading in
    let a = c.requires.awaits in
    let p = c.args.loaded in
    claims-none v c.args.slot c.args.context x a.here (ap claim_by a.loading)

pub returns-in-Err-clause-effect : goal.returns-in-Err-clause-effect
returns-in-Err-clause-effect g c =
    let ord = g.met.F.Key.Ord in
    let facts = g.met.F.Key.FixedKey in
    let order = key_order g.F.Key.PartialEq.eq g.F.Key.Ord.cmp ord.matches_eq facts.exact ord.total in
    let v = c.args.self.now in
    let x = c.args.operation.now in
    let l = c.args.loading in
    let a = c.requires.awaits in
    let p = c.args.loaded in
    let came = came-of g.R.Receipt.keeps (IsEntryIn g.F.Key.Fixed.codec g.F.Value.Fixed.codec) g.F.Key.Ord.cmp g.F.Mergeable.parts.joined g.F.Functions.code (view_of g.F.Mergeable.MERGES c.self.inside.number c.self.inside.count c.self.inside.records c.self.inside.contexts.items c.self.inside.moment c.self.inside.cleared) v c.key-key.result (key_of x.op) c.page_of-page.result c.first_of-low.result l.wanted l.parts (g.R.Receipt.stands p.receipt) p.bytes c.trace_in.result c.self.view_is c.key-key.ensures c.page_of-page.ensures c.first_of-low.ensures c.requires.own c.trace_in.ensures.read c.trace_in.ensures.kept in
    let page : c.page_of-page.result ≡ page_at v.records.log.bits l.wanted = c.page_of-page.ensures ∙ ap (λ u. page_at u.records.log.bits l.wanted) c.self.view_is in
    rw (c.free.ensures, page) (Loads.damaged x l p c.in-Err._damaged (reads-on g.F.Key.Ord.cmp g.F.Mergeable.parts.joined g.F.Functions.code order v c.facts.ensures.sound c.args.slot c.args.context x l a (IsEntryIn g.F.Key.Fixed.codec g.F.Value.Fixed.codec) (g.R.Receipt.stands p.receipt) p.bytes c.trace_in.result came (Err c.in-Err._damaged) c.in-Err.is) refl refl refl)

pub tell-requires-clause-asks : goal.tell-requires-clause-asks
tell-requires-clause-asks g c =
    let ord = g.met.F.Key.Ord in
    let facts = g.met.F.Key.FixedKey in
    let order = key_order g.F.Key.PartialEq.eq g.F.Key.Ord.cmp ord.matches_eq facts.exact ord.total in
    let v = c.args.self.now in
    let x = c.args.operation.now in
    let l = c.args.loading in
    let a = c.requires.awaits in
    let p = c.args.loaded in
    may-load g.F.Key.Ord.cmp g.F.Mergeable.parts.joined g.F.Functions.code order v c.facts.ensures.sound c.args.slot c.args.context x l a

pub tell-requires-clause-kept : goal.tell-requires-clause-kept
tell-requires-clause-kept g c =
    let ord = g.met.F.Key.Ord in
    let facts = g.met.F.Key.FixedKey in
    let order = key_order g.F.Key.PartialEq.eq g.F.Key.Ord.cmp ord.matches_eq facts.exact ord.total in
    let v = c.args.self.now in
    let x = c.args.operation.now in
    let l = c.args.loading in
    let a = c.requires.awaits in
    let p = c.args.loaded in
    let came = came-of g.R.Receipt.keeps (IsEntryIn g.F.Key.Fixed.codec g.F.Value.Fixed.codec) g.F.Key.Ord.cmp g.F.Mergeable.parts.joined g.F.Functions.code (view_of g.F.Mergeable.MERGES c.self.inside.number c.self.inside.count c.self.inside.records c.self.inside.contexts.items c.self.inside.moment c.self.inside.cleared) v c.key-key.result (key_of x.op) c.page_of-page.result c.first_of-low.result l.wanted l.parts (g.R.Receipt.stands p.receipt) p.bytes c.trace_in.result c.self.view_is c.key-key.ensures c.page_of-page.ensures c.first_of-low.ensures c.requires.own c.trace_in.ensures.read c.trace_in.ensures.kept in
    let parts = c.in-Ok.came.parts in
    let is = c.in-Ok.is ∙ ap (λ q. Ok (record { parts = parts; position = q })) c.in-Found.is in
    rw (c.combined-value.ensures, c.in-Found.last-is) (kept-told g.F.Key.Ord.cmp g.F.Mergeable.parts.joined g.F.Functions.code order v c.facts.ensures.sound c.args.slot c.args.context x l a (IsEntryIn g.F.Key.Fixed.codec g.F.Value.Fixed.codec) (g.R.Receipt.stands p.receipt) p.bytes c.trace_in.result came (record { parts = parts; position = Found c.in-Found.last }) (combined g.F.Mergeable.parts.joined c.in-Found.last.value parts) is (found c.in-Found.last parts))

pub returns-in-Found-clause-effect : goal.returns-in-Found-clause-effect
returns-in-Found-clause-effect g c =
    let ord = g.met.F.Key.Ord in
    let facts = g.met.F.Key.FixedKey in
    let order = key_order g.F.Key.PartialEq.eq g.F.Key.Ord.cmp ord.matches_eq facts.exact ord.total in
    let v = c.args.self.now in
    let x = c.args.operation.now in
    let l = c.args.loading in
    let a = c.requires.awaits in
    let p = c.args.loaded in
    let came = came-of g.R.Receipt.keeps (IsEntryIn g.F.Key.Fixed.codec g.F.Value.Fixed.codec) g.F.Key.Ord.cmp g.F.Mergeable.parts.joined g.F.Functions.code (view_of g.F.Mergeable.MERGES c.self.inside.number c.self.inside.count c.self.inside.records c.self.inside.contexts.items c.self.inside.moment c.self.inside.cleared) v c.key-key.result (key_of x.op) c.page_of-page.result c.first_of-low.result l.wanted l.parts (g.R.Receipt.stands p.receipt) p.bytes c.trace_in.result c.self.view_is c.key-key.ensures c.page_of-page.ensures c.first_of-low.ensures c.requires.own c.trace_in.ensures.read c.trace_in.ensures.kept in
    let parts = c.in-Ok.came.parts in
    let is = c.in-Ok.is ∙ ap (λ q. Ok (record { parts = parts; position = q })) c.in-Found.is in
    let tells : Tells g.F.Mergeable.parts.joined v.records.log.begin (record { parts = parts; position = Found c.in-Found.last }) c.combined-value.result = rw (c.combined-value.ensures, c.in-Found.last-is) (found c.in-Found.last parts) in
    told-done g.R.Receipt.stands (IsEntryIn g.F.Key.Fixed.codec g.F.Value.Fixed.codec) g.F.Key.Ord.cmp g.F.Mergeable.parts.joined g.F.Functions.meaning v c.tell.new.self c.args.slot c.args.context c.args.now x l p c.combined-value.result c.tell.result (may-load g.F.Key.Ord.cmp g.F.Mergeable.parts.joined g.F.Functions.code order v c.facts.ensures.sound c.args.slot c.args.context x l a)
    (record { reached = (record { parts = parts; position = Found c.in-Found.last }); reads = reads-on g.F.Key.Ord.cmp g.F.Mergeable.parts.joined g.F.Functions.code order v c.facts.ensures.sound c.args.slot c.args.context x l a (IsEntryIn g.F.Key.Fixed.codec g.F.Value.Fixed.codec) (g.R.Receipt.stands p.receipt) p.bytes c.trace_in.result came (Ok (record { parts = parts; position = Found c.in-Found.last })) is; tells = tells })
    c.tell.ensures.read c.tell.ensures.update

pub tell-requires-then-address-begin-clause-asks : goal.tell-requires-then-address-begin-clause-asks
tell-requires-then-address-begin-clause-asks g c =
    let ord = g.met.F.Key.Ord in
    let facts = g.met.F.Key.FixedKey in
    let order = key_order g.F.Key.PartialEq.eq g.F.Key.Ord.cmp ord.matches_eq facts.exact ord.total in
    let v = c.args.self.now in
    let x = c.args.operation.now in
    let l = c.args.loading in
    let a = c.requires.awaits in
    let p = c.args.loaded in
    may-load g.F.Key.Ord.cmp g.F.Mergeable.parts.joined g.F.Functions.code order v c.facts.ensures.sound c.args.slot c.args.context x l a

pub tell-requires-then-address-begin-clause-kept : goal.tell-requires-then-address-begin-clause-kept
tell-requires-then-address-begin-clause-kept g c =
    let ord = g.met.F.Key.Ord in
    let facts = g.met.F.Key.FixedKey in
    let order = key_order g.F.Key.PartialEq.eq g.F.Key.Ord.cmp ord.matches_eq facts.exact ord.total in
    let v = c.args.self.now in
    let x = c.args.operation.now in
    let l = c.args.loading in
    let a = c.requires.awaits in
    let p = c.args.loaded in
    let came = came-of g.R.Receipt.keeps (IsEntryIn g.F.Key.Fixed.codec g.F.Value.Fixed.codec) g.F.Key.Ord.cmp g.F.Mergeable.parts.joined g.F.Functions.code (view_of g.F.Mergeable.MERGES c.self.inside.number c.self.inside.count c.self.inside.records c.self.inside.contexts.items c.self.inside.moment c.self.inside.cleared) v c.key-key.result (key_of x.op) c.page_of-page.result c.first_of-low.result l.wanted l.parts (g.R.Receipt.stands p.receipt) p.bytes c.trace_in.result c.self.view_is c.key-key.ensures c.page_of-page.ensures c.first_of-low.ensures c.requires.own c.trace_in.ensures.read c.trace_in.ensures.kept in
    let parts = c.in-Ok.came.parts in
    let b = c.in-Below.address in
    let is = c.in-Ok.is ∙ ap (λ q. Ok (record { parts = parts; position = q })) c.in-Below.is in
    let begins : c.begin.result ≡ v.records.log.begin = c.begin.ensures ∙ ap (λ u. u.records.log.begin) c.self.view_is in
    let under : b < v.records.log.begin = omega (arith, c.if-address-begin.true, begins) in
    kept-told g.F.Key.Ord.cmp g.F.Mergeable.parts.joined g.F.Functions.code order v c.facts.ensures.sound c.args.slot c.args.context x l a (IsEntryIn g.F.Key.Fixed.codec g.F.Value.Fixed.codec) (g.R.Receipt.stands p.receipt) p.bytes c.trace_in.result came (record { parts = parts; position = Below b }) parts is (ended b parts under)

pub returns-then-address-begin-clause-effect : goal.returns-then-address-begin-clause-effect
returns-then-address-begin-clause-effect g c =
    let ord = g.met.F.Key.Ord in
    let facts = g.met.F.Key.FixedKey in
    let order = key_order g.F.Key.PartialEq.eq g.F.Key.Ord.cmp ord.matches_eq facts.exact ord.total in
    let v = c.args.self.now in
    let x = c.args.operation.now in
    let l = c.args.loading in
    let a = c.requires.awaits in
    let p = c.args.loaded in
    let came = came-of g.R.Receipt.keeps (IsEntryIn g.F.Key.Fixed.codec g.F.Value.Fixed.codec) g.F.Key.Ord.cmp g.F.Mergeable.parts.joined g.F.Functions.code (view_of g.F.Mergeable.MERGES c.self.inside.number c.self.inside.count c.self.inside.records c.self.inside.contexts.items c.self.inside.moment c.self.inside.cleared) v c.key-key.result (key_of x.op) c.page_of-page.result c.first_of-low.result l.wanted l.parts (g.R.Receipt.stands p.receipt) p.bytes c.trace_in.result c.self.view_is c.key-key.ensures c.page_of-page.ensures c.first_of-low.ensures c.requires.own c.trace_in.ensures.read c.trace_in.ensures.kept in
    let parts = c.in-Ok.came.parts in
    let b = c.in-Below.address in
    let is = c.in-Ok.is ∙ ap (λ q. Ok (record { parts = parts; position = q })) c.in-Below.is in
    let begins : c.begin.result ≡ v.records.log.begin = c.begin.ensures ∙ ap (λ u. u.records.log.begin) c.self.view_is in
    let under : b < v.records.log.begin = omega (arith, c.if-address-begin.true, begins) in
    told-done g.R.Receipt.stands (IsEntryIn g.F.Key.Fixed.codec g.F.Value.Fixed.codec) g.F.Key.Ord.cmp g.F.Mergeable.parts.joined g.F.Functions.meaning v c.tell-then-address-begin.new.self c.args.slot c.args.context c.args.now x l p parts c.tell-then-address-begin.result (may-load g.F.Key.Ord.cmp g.F.Mergeable.parts.joined g.F.Functions.code order v c.facts.ensures.sound c.args.slot c.args.context x l a)
    (record { reached = (record { parts = parts; position = Below b }); reads = reads-on g.F.Key.Ord.cmp g.F.Mergeable.parts.joined g.F.Functions.code order v c.facts.ensures.sound c.args.slot c.args.context x l a (IsEntryIn g.F.Key.Fixed.codec g.F.Value.Fixed.codec) (g.R.Receipt.stands p.receipt) p.bytes c.trace_in.result came (Ok (record { parts = parts; position = Below b })) is; tells = ended b parts under })
    c.tell-then-address-begin.ensures.read c.tell-then-address-begin.ensures.update

pub free-requires-then-not-is_record_start-clause-unclaimed : goal.free-requires-then-not-is_record_start-clause-unclaimed
free-requires-then-not-is_record_start-clause-unclaimed g c =
    let v = c.args.self.now in
    let x = c.args.operation.now in
    let l = c.args.loading in
    let a = c.requires.awaits in
    let p = c.args.loaded in
    claims-none v c.args.slot c.args.context x a.here (ap claim_by a.loading)

pub returns-then-not-is_record_start-clause-effect : goal.returns-then-not-is_record_start-clause-effect
returns-then-not-is_record_start-clause-effect g c =
    let ord = g.met.F.Key.Ord in
    let facts = g.met.F.Key.FixedKey in
    let order = key_order g.F.Key.PartialEq.eq g.F.Key.Ord.cmp ord.matches_eq facts.exact ord.total in
    let v = c.args.self.now in
    let x = c.args.operation.now in
    let l = c.args.loading in
    let a = c.requires.awaits in
    let p = c.args.loaded in
    let came = came-of g.R.Receipt.keeps (IsEntryIn g.F.Key.Fixed.codec g.F.Value.Fixed.codec) g.F.Key.Ord.cmp g.F.Mergeable.parts.joined g.F.Functions.code (view_of g.F.Mergeable.MERGES c.self.inside.number c.self.inside.count c.self.inside.records c.self.inside.contexts.items c.self.inside.moment c.self.inside.cleared) v c.key-key.result (key_of x.op) c.page_of-page.result c.first_of-low.result l.wanted l.parts (g.R.Receipt.stands p.receipt) p.bytes c.trace_in.result c.self.view_is c.key-key.ensures c.page_of-page.ensures c.first_of-low.ensures c.requires.own c.trace_in.ensures.read c.trace_in.ensures.kept in
    let page : c.page_of-page.result ≡ page_at v.records.log.bits l.wanted = c.page_of-page.ensures ∙ ap (λ u. page_at u.records.log.bits l.wanted) c.self.view_is in
    let parts = c.in-Ok.came.parts in
    let b = c.in-Below.address in
    let is = c.in-Ok.is ∙ ap (λ q. Ok (record { parts = parts; position = q })) c.in-Below.is in
    let begins : c.begin.result ≡ v.records.log.begin = c.begin.ensures ∙ ap (λ u. u.records.log.begin) c.self.view_is in
    let high : v.records.log.begin ≤ b = omega (arith, c.if-address-begin.false, begins) in
    let bad_link : ¬ IsRecordStart v.records.log.bits v.records.record_size b = (λ h. let yes_place = c.is_record_start.ensures.1 (subst (λ u. IsRecordStart u.records.log.bits u.records.record_size b) (sym c.self.view_is) h) in let bad : false ≡ true = sym c.if-not-is_record_start.true ∙ yes_place in cc) in
    rw (c.free-then-not-is_record_start.ensures, page) (Loads.bad_link x l p b parts (reads-on g.F.Key.Ord.cmp g.F.Mergeable.parts.joined g.F.Functions.code order v c.facts.ensures.sound c.args.slot c.args.context x l a (IsEntryIn g.F.Key.Fixed.codec g.F.Value.Fixed.codec) (g.R.Receipt.stands p.receipt) p.bytes c.trace_in.result came (Ok (record { parts = parts; position = Below b })) is) refl high bad_link refl refl)

pub look_further-requires-clause-asks : goal.look_further-requires-clause-asks
look_further-requires-clause-asks g c =
    let ord = g.met.F.Key.Ord in
    let facts = g.met.F.Key.FixedKey in
    let order = key_order g.F.Key.PartialEq.eq g.F.Key.Ord.cmp ord.matches_eq facts.exact ord.total in
    let v = c.args.self.now in
    let x = c.args.operation.now in
    let l = c.args.loading in
    let a = c.requires.awaits in
    let p = c.args.loaded in
    may-load g.F.Key.Ord.cmp g.F.Mergeable.parts.joined g.F.Functions.code order v c.facts.ensures.sound c.args.slot c.args.context x l a

pub look_further-requires-clause-flushed : goal.look_further-requires-clause-flushed
look_further-requires-clause-flushed g c =
    let ord = g.met.F.Key.Ord in
    let facts = g.met.F.Key.FixedKey in
    let order = key_order g.F.Key.PartialEq.eq g.F.Key.Ord.cmp ord.matches_eq facts.exact ord.total in
    let v = c.args.self.now in
    let x = c.args.operation.now in
    let l = c.args.loading in
    let a = c.requires.awaits in
    let p = c.args.loaded in
    let came = came-of g.R.Receipt.keeps (IsEntryIn g.F.Key.Fixed.codec g.F.Value.Fixed.codec) g.F.Key.Ord.cmp g.F.Mergeable.parts.joined g.F.Functions.code (view_of g.F.Mergeable.MERGES c.self.inside.number c.self.inside.count c.self.inside.records c.self.inside.contexts.items c.self.inside.moment c.self.inside.cleared) v c.key-key.result (key_of x.op) c.page_of-page.result c.first_of-low.result l.wanted l.parts (g.R.Receipt.stands p.receipt) p.bytes c.trace_in.result c.self.view_is c.key-key.ensures c.page_of-page.ensures c.first_of-low.ensures c.requires.own c.trace_in.ensures.read c.trace_in.ensures.kept in
    let parts = c.in-Ok.came.parts in
    let b = c.in-Below.address in
    let is = c.in-Ok.is ∙ ap (λ q. Ok (record { parts = parts; position = q })) c.in-Below.is in
    let begins : c.begin.result ≡ v.records.log.begin = c.begin.ensures ∙ ap (λ u. u.records.log.begin) c.self.view_is in
    let high : v.records.log.begin ≤ b = omega (arith, c.if-address-begin.false, begins) in
    further-flushed g.F.Key.Ord.cmp g.F.Mergeable.parts.joined g.F.Functions.code order v c.facts.ensures.sound c.args.slot c.args.context x l a (IsEntryIn g.F.Key.Fixed.codec g.F.Value.Fixed.codec) (g.R.Receipt.stands p.receipt) p.bytes c.trace_in.result came b parts is high

pub look_further-requires-clause-stands : goal.look_further-requires-clause-stands
look_further-requires-clause-stands g c =
    let ord = g.met.F.Key.Ord in
    let facts = g.met.F.Key.FixedKey in
    let order = key_order g.F.Key.PartialEq.eq g.F.Key.Ord.cmp ord.matches_eq facts.exact ord.total in
    let v = c.args.self.now in
    let x = c.args.operation.now in
    let l = c.args.loading in
    let a = c.requires.awaits in
    let p = c.args.loaded in
    let came = came-of g.R.Receipt.keeps (IsEntryIn g.F.Key.Fixed.codec g.F.Value.Fixed.codec) g.F.Key.Ord.cmp g.F.Mergeable.parts.joined g.F.Functions.code (view_of g.F.Mergeable.MERGES c.self.inside.number c.self.inside.count c.self.inside.records c.self.inside.contexts.items c.self.inside.moment c.self.inside.cleared) v c.key-key.result (key_of x.op) c.page_of-page.result c.first_of-low.result l.wanted l.parts (g.R.Receipt.stands p.receipt) p.bytes c.trace_in.result c.self.view_is c.key-key.ensures c.page_of-page.ensures c.first_of-low.ensures c.requires.own c.trace_in.ensures.read c.trace_in.ensures.kept in
    let parts = c.in-Ok.came.parts in
    let b = c.in-Below.address in
    let is = c.in-Ok.is ∙ ap (λ q. Ok (record { parts = parts; position = q })) c.in-Below.is in
    let begins : c.begin.result ≡ v.records.log.begin = c.begin.ensures ∙ ap (λ u. u.records.log.begin) c.self.view_is in
    let high : v.records.log.begin ≤ b = omega (arith, c.if-address-begin.false, begins) in
    further-stands g.F.Key.Ord.cmp g.F.Mergeable.parts.joined g.F.Functions.code order v c.facts.ensures.sound c.args.slot c.args.context x l a (IsEntryIn g.F.Key.Fixed.codec g.F.Value.Fixed.codec) (g.R.Receipt.stands p.receipt) p.bytes c.trace_in.result came b parts is high

pub returns-clause-effect : goal.returns-clause-effect
returns-clause-effect g c =
    let ord = g.met.F.Key.Ord in
    let facts = g.met.F.Key.FixedKey in
    let order = key_order g.F.Key.PartialEq.eq g.F.Key.Ord.cmp ord.matches_eq facts.exact ord.total in
    let v = c.args.self.now in
    let x = c.args.operation.now in
    let l = c.args.loading in
    let a = c.requires.awaits in
    let p = c.args.loaded in
    let came = came-of g.R.Receipt.keeps (IsEntryIn g.F.Key.Fixed.codec g.F.Value.Fixed.codec) g.F.Key.Ord.cmp g.F.Mergeable.parts.joined g.F.Functions.code (view_of g.F.Mergeable.MERGES c.self.inside.number c.self.inside.count c.self.inside.records c.self.inside.contexts.items c.self.inside.moment c.self.inside.cleared) v c.key-key.result (key_of x.op) c.page_of-page.result c.first_of-low.result l.wanted l.parts (g.R.Receipt.stands p.receipt) p.bytes c.trace_in.result c.self.view_is c.key-key.ensures c.page_of-page.ensures c.first_of-low.ensures c.requires.own c.trace_in.ensures.read c.trace_in.ensures.kept in
    let parts = c.in-Ok.came.parts in
    let b = c.in-Below.address in
    let is = c.in-Ok.is ∙ ap (λ q. Ok (record { parts = parts; position = q })) c.in-Below.is in
    let begins : c.begin.result ≡ v.records.log.begin = c.begin.ensures ∙ ap (λ u. u.records.log.begin) c.self.view_is in
    let high : v.records.log.begin ≤ b = omega (arith, c.if-address-begin.false, begins) in
    let place = subst (λ u. IsRecordStart u.records.log.bits u.records.record_size b) c.self.view_is (c.is_record_start.ensures.0 c.if-not-is_record_start.false) in
    further-done g.R.Receipt.stands (IsEntryIn g.F.Key.Fixed.codec g.F.Value.Fixed.codec) g.F.Key.Ord.cmp g.F.Mergeable.parts.joined g.F.Functions.meaning v c.look_further.new.self c.args.slot c.args.context c.args.now x l p b parts (reads-on g.F.Key.Ord.cmp g.F.Mergeable.parts.joined g.F.Functions.code order v c.facts.ensures.sound c.args.slot c.args.context x l a (IsEntryIn g.F.Key.Fixed.codec g.F.Value.Fixed.codec) (g.R.Receipt.stands p.receipt) p.bytes c.trace_in.result came (Ok (record { parts = parts; position = Below b })) is) high place c.look_further.result c.look_further.ensures.asked c.look_further.ensures.effect c.look_further.ensures.only c.look_further.ensures.unchanged

pub returns-in-Found-clause-event : goal.returns-in-Found-clause-event
returns-in-Found-clause-event g c = λ keeps.
    let ord = g.met.F.Key.Ord in
    let facts = g.met.F.Key.FixedKey in
    let order = key_order g.F.Key.PartialEq.eq g.F.Key.Ord.cmp ord.matches_eq facts.exact ord.total in
    let v = c.args.self.now in
    let x = c.args.operation.now in
    let l = c.args.loading in
    let a = c.requires.awaits in
    let p = c.args.loaded in
    let came = came-of g.R.Receipt.keeps (IsEntryIn g.F.Key.Fixed.codec g.F.Value.Fixed.codec) g.F.Key.Ord.cmp g.F.Mergeable.parts.joined g.F.Functions.code (view_of g.F.Mergeable.MERGES c.self.inside.number c.self.inside.count c.self.inside.records c.self.inside.contexts.items c.self.inside.moment c.self.inside.cleared) v c.key-key.result (key_of x.op) c.page_of-page.result c.first_of-low.result l.wanted l.parts (g.R.Receipt.stands p.receipt) p.bytes c.trace_in.result c.self.view_is c.key-key.ensures c.page_of-page.ensures c.first_of-low.ensures c.requires.own c.trace_in.ensures.read c.trace_in.ensures.kept in
    let parts = c.in-Ok.came.parts in
    let is = c.in-Ok.is ∙ ap (λ q. Ok (record { parts = parts; position = q })) c.in-Found.is in
    let tells : Tells g.F.Mergeable.parts.joined v.records.log.begin (record { parts = parts; position = Found c.in-Found.last }) c.combined-value.result = rw (c.combined-value.ensures, c.in-Found.last-is) (found c.in-Found.last parts) in
    load-told g.F.Key.Ord.cmp v c.args.slot c.args.context c.args.now x a.here g.F.Functions.meaning l a c.combined-value.result (newest-told g.F.Key.Ord.cmp g.F.Mergeable.parts.joined g.F.Functions.code order v c.facts.ensures.sound c.args.slot c.args.context x l a (IsEntryIn g.F.Key.Fixed.codec g.F.Value.Fixed.codec) (g.R.Receipt.stands p.receipt) p.bytes c.trace_in.result came keeps (record { parts = parts; position = Found c.in-Found.last }) c.combined-value.result is tells) (may-load g.F.Key.Ord.cmp g.F.Mergeable.parts.joined g.F.Functions.code order v c.facts.ensures.sound c.args.slot c.args.context x l a) c.tell.new.self c.tell.result c.tell.ensures.read c.tell.ensures.update

pub returns-then-address-begin-clause-event : goal.returns-then-address-begin-clause-event
returns-then-address-begin-clause-event g c = λ keeps.
    let ord = g.met.F.Key.Ord in
    let facts = g.met.F.Key.FixedKey in
    let order = key_order g.F.Key.PartialEq.eq g.F.Key.Ord.cmp ord.matches_eq facts.exact ord.total in
    let v = c.args.self.now in
    let x = c.args.operation.now in
    let l = c.args.loading in
    let a = c.requires.awaits in
    let p = c.args.loaded in
    let came = came-of g.R.Receipt.keeps (IsEntryIn g.F.Key.Fixed.codec g.F.Value.Fixed.codec) g.F.Key.Ord.cmp g.F.Mergeable.parts.joined g.F.Functions.code (view_of g.F.Mergeable.MERGES c.self.inside.number c.self.inside.count c.self.inside.records c.self.inside.contexts.items c.self.inside.moment c.self.inside.cleared) v c.key-key.result (key_of x.op) c.page_of-page.result c.first_of-low.result l.wanted l.parts (g.R.Receipt.stands p.receipt) p.bytes c.trace_in.result c.self.view_is c.key-key.ensures c.page_of-page.ensures c.first_of-low.ensures c.requires.own c.trace_in.ensures.read c.trace_in.ensures.kept in
    let parts = c.in-Ok.came.parts in
    let b = c.in-Below.address in
    let is = c.in-Ok.is ∙ ap (λ q. Ok (record { parts = parts; position = q })) c.in-Below.is in
    let begins : c.begin.result ≡ v.records.log.begin = c.begin.ensures ∙ ap (λ u. u.records.log.begin) c.self.view_is in
    let under : b < v.records.log.begin = omega (arith, c.if-address-begin.true, begins) in
    load-told g.F.Key.Ord.cmp v c.args.slot c.args.context c.args.now x a.here g.F.Functions.meaning l a parts (newest-told g.F.Key.Ord.cmp g.F.Mergeable.parts.joined g.F.Functions.code order v c.facts.ensures.sound c.args.slot c.args.context x l a (IsEntryIn g.F.Key.Fixed.codec g.F.Value.Fixed.codec) (g.R.Receipt.stands p.receipt) p.bytes c.trace_in.result came keeps (record { parts = parts; position = Below b }) parts is (ended b parts under)) (may-load g.F.Key.Ord.cmp g.F.Mergeable.parts.joined g.F.Functions.code order v c.facts.ensures.sound c.args.slot c.args.context x l a) c.tell-then-address-begin.new.self c.tell-then-address-begin.result c.tell-then-address-begin.ensures.read c.tell-then-address-begin.ensures.update

pub returns-clause-event : goal.returns-clause-event
returns-clause-event g c = λ keeps.
    let a = c.requires.awaits in
    further-load g.F.Key.Ord.cmp c.args.self.now c.args.slot c.args.context c.args.now c.args.operation.now a.here g.F.Functions.meaning c.args.loading a c.in-Below.address c.in-Ok.came.parts c.look_further.new.self c.look_further.result g.R.Receipt.stands c.look_further.ensures.asked c.look_further.ensures.effect

pub returns-in-Err-clause-moment : goal.returns-in-Err-clause-moment
returns-in-Err-clause-moment g c = rw c.free.ensures (le_refl c.args.now)

pub tell-requires-clause-awaits : goal.tell-requires-clause-awaits
tell-requires-clause-awaits g c = c.requires.awaits

pub returns-in-Found-clause-moment : goal.returns-in-Found-clause-moment
returns-in-Found-clause-moment g c = c.tell.ensures.moment

pub tell-requires-then-address-begin-clause-awaits : goal.tell-requires-then-address-begin-clause-awaits
tell-requires-then-address-begin-clause-awaits g c = c.requires.awaits

pub returns-then-address-begin-clause-moment : goal.returns-then-address-begin-clause-moment
returns-then-address-begin-clause-moment g c = c.tell-then-address-begin.ensures.moment

pub returns-then-not-is_record_start-clause-moment : goal.returns-then-not-is_record_start-clause-moment
returns-then-not-is_record_start-clause-moment g c = rw c.free-then-not-is_record_start.ensures (le_refl c.args.now)

pub look_further-requires-clause-awaits : goal.look_further-requires-clause-awaits
look_further-requires-clause-awaits g c = c.requires.awaits

pub returns-clause-moment : goal.returns-clause-moment
returns-clause-moment g c = c.look_further.ensures.moment

pub free-requires-clause-session : goal.free-requires-clause-session
free-requires-clause-session g c = c.requires.session

pub free-requires-clause-context : goal.free-requires-clause-context
free-requires-clause-context g c = c.requires.context

pub tell-requires-clause-session : goal.tell-requires-clause-session
tell-requires-clause-session g c = c.requires.session

pub tell-requires-clause-context : goal.tell-requires-clause-context
tell-requires-clause-context g c = c.requires.context

pub tell-requires-then-address-begin-clause-session : goal.tell-requires-then-address-begin-clause-session
tell-requires-then-address-begin-clause-session g c = c.requires.session

pub tell-requires-then-address-begin-clause-context : goal.tell-requires-then-address-begin-clause-context
tell-requires-then-address-begin-clause-context g c = c.requires.context

pub free-requires-then-not-is_record_start-clause-session : goal.free-requires-then-not-is_record_start-clause-session
free-requires-then-not-is_record_start-clause-session g c = c.requires.session

pub free-requires-then-not-is_record_start-clause-context : goal.free-requires-then-not-is_record_start-clause-context
free-requires-then-not-is_record_start-clause-context g c = c.requires.context

pub look_further-requires-clause-session : goal.look_further-requires-clause-session
look_further-requires-clause-session g c = c.requires.session

pub look_further-requires-clause-context : goal.look_further-requires-clause-context
look_further-requires-clause-context g c = c.requires.context

pub tell-requires-clause-later : goal.tell-requires-clause-later
tell-requires-clause-later g c = c.requires.later

pub tell-requires-then-address-begin-clause-later : goal.tell-requires-then-address-begin-clause-later
tell-requires-then-address-begin-clause-later g c = c.requires.later

pub look_further-requires-clause-later : goal.look_further-requires-clause-later
look_further-requires-clause-later g c = c.requires.later

pub returns-in-Err-clause-undamaged : goal.returns-in-Err-clause-undamaged
returns-in-Err-clause-undamaged g c = λ yes_keeps page is.
    let ord = g.met.F.Key.Ord in
    let facts = g.met.F.Key.FixedKey in
    let order = key_order g.F.Key.PartialEq.eq g.F.Key.Ord.cmp ord.matches_eq facts.exact ord.total in
    let v = c.args.self.now in
    let x = c.args.operation.now in
    let l = c.args.loading in
    let a = c.requires.awaits in
    let p = c.args.loaded in
    let came = came-of g.R.Receipt.keeps (IsEntryIn g.F.Key.Fixed.codec g.F.Value.Fixed.codec) g.F.Key.Ord.cmp g.F.Mergeable.parts.joined g.F.Functions.code (view_of g.F.Mergeable.MERGES c.self.inside.number c.self.inside.count c.self.inside.records c.self.inside.contexts.items c.self.inside.moment c.self.inside.cleared) v c.key-key.result (key_of x.op) c.page_of-page.result c.first_of-low.result l.wanted l.parts (g.R.Receipt.stands p.receipt) p.bytes c.trace_in.result c.self.view_is c.key-key.ensures c.page_of-page.ensures c.first_of-low.ensures c.requires.own c.trace_in.ensures.read c.trace_in.ensures.kept in
    page-undamaged g.F.Key.Ord.cmp g.F.Mergeable.parts.joined g.F.Functions.code order v c.facts.ensures.sound c.args.slot c.args.context x l a (IsEntryIn g.F.Key.Fixed.codec g.F.Value.Fixed.codec) (g.R.Receipt.stands p.receipt) p.bytes c.trace_in.result came yes_keeps c.in-Err.is

pub returns-in-Found-clause-undamaged : goal.returns-in-Found-clause-undamaged
returns-in-Found-clause-undamaged g c = λ yes_keeps page is. answer-not is

pub returns-then-address-begin-clause-undamaged : goal.returns-then-address-begin-clause-undamaged
returns-then-address-begin-clause-undamaged g c = λ yes_keeps page is. answer-not is

pub returns-then-not-is_record_start-clause-undamaged : goal.returns-then-not-is_record_start-clause-undamaged
returns-then-not-is_record_start-clause-undamaged g c = λ yes_keeps page told.
    let ord = g.met.F.Key.Ord in
    let facts = g.met.F.Key.FixedKey in
    let order = key_order g.F.Key.PartialEq.eq g.F.Key.Ord.cmp ord.matches_eq facts.exact ord.total in
    let v = c.args.self.now in
    let x = c.args.operation.now in
    let l = c.args.loading in
    let a = c.requires.awaits in
    let p = c.args.loaded in
    let came = came-of g.R.Receipt.keeps (IsEntryIn g.F.Key.Fixed.codec g.F.Value.Fixed.codec) g.F.Key.Ord.cmp g.F.Mergeable.parts.joined g.F.Functions.code (view_of g.F.Mergeable.MERGES c.self.inside.number c.self.inside.count c.self.inside.records c.self.inside.contexts.items c.self.inside.moment c.self.inside.cleared) v c.key-key.result (key_of x.op) c.page_of-page.result c.first_of-low.result l.wanted l.parts (g.R.Receipt.stands p.receipt) p.bytes c.trace_in.result c.self.view_is c.key-key.ensures c.page_of-page.ensures c.first_of-low.ensures c.requires.own c.trace_in.ensures.read c.trace_in.ensures.kept in
    let parts = c.in-Ok.came.parts in
    let b = c.in-Below.address in
    let is = c.in-Ok.is ∙ ap (λ q. Ok (record { parts = parts; position = q })) c.in-Below.is in
    let begins : c.begin.result ≡ v.records.log.begin = c.begin.ensures ∙ ap (λ u. u.records.log.begin) c.self.view_is in
    let high : v.records.log.begin ≤ b = omega (arith, c.if-address-begin.false, begins) in
    let place = page-place g.F.Key.Ord.cmp g.F.Mergeable.parts.joined g.F.Functions.code order v c.facts.ensures.sound c.args.slot c.args.context x l a (IsEntryIn g.F.Key.Fixed.codec g.F.Value.Fixed.codec) (g.R.Receipt.stands p.receipt) p.bytes c.trace_in.result came yes_keeps b parts is high in
    false≢true (sym c.if-not-is_record_start.true ∙ c.is_record_start.ensures.1 (subst (λ u. IsRecordStart u.records.log.bits u.records.record_size b) (sym c.self.view_is) place))

pub returns-clause-undamaged : goal.returns-clause-undamaged
returns-clause-undamaged g c = λ yes_keeps page is. memory-not c.look_further.result c.look_further.ensures.only is
