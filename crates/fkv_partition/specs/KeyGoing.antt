-- What `go` does: nothing is open; or a prepared update asks again; or an operation waits for a page; or a tentative entry
-- is confirmed; or the operation looks its key up, and what it meets by its session's view decides.
use Rattle.std.specs.Prelude.{◌≡◌, ◌≢◌, ◌^◌, ℕ, false, Option, Some, None, Result, Ok, Err}
use Rattle.std.specs.List.{list_any}
use Rattle.std.specs.declared.cmp.Ordering.{Ordering}
use Rattle.fkv_functions.specs.Meanings.{Meanings}
use Rattle.fkv_functions.specs.declared.asks.Ask.{Ask}
use Rattle.fkv_functions.specs.declared.refusals.Refused.{Refused}
use Rattle.fkv_functions.specs.declared.refusals.Refused.TheVariants.{Unknown, NotReady, Worn, NoMemory}
use Rattle.fkv_operations.specs.After.{key_of}
use Rattle.fkv_records.specs.Places.{page_at}
use Rattle.fkv_device.specs.Standing.{Standing}
use Rattle.fkv_hybrid.specs.Loads.{IsHeldBy}
use Rattle.fkv_index.specs.declared.words.Place.{Place}
use Rattle.fkv_index.specs.Words.{is_empty}
use Rattle.fkv_index.specs.Places.{words_of}
use Rattle.fkv_index.specs.Entries.{IsAlone}
use Rattle.fkv_operations.specs.declared.entries.IndexEntry.{IndexEntry}
use Rattle.fkv_lookups.specs.RecordsViews.{class_in, confirmed, released}
use Rattle.fkv_hybrid.specs.Views.{IsFull}
use Rattle.fkv_lookups.specs.Decisions.{decision}
use Rattle.fkv_operations.specs.declared.operations.Answer.{Answer}
use Rattle.fkv_lookups.specs.declared.decisions.Decision.{Decision}
use Rattle.fkv_lookups.specs.declared.decisions.Decision.TheVariants.{Claim, Append, Replace, Prepare, Wait}
use Rattle.fkv_lookups.specs.declared.decisions.Decision.TheVariants as decided
use Rattle.fkv_lookups.specs.declared.payloads.Payload.{Payload}
use Rattle.fkv_lookups.specs.Payloads.{standing}
use Rattle.fkv_partition.specs.declared.contexts.Context.{Context}
use Rattle.fkv_partition.specs.declared.contexts.Phase.TheVariants.{Fresh, Confirm, Prepared, Load}
use Rattle.fkv_partition.specs.declared.contexts.Loading.{Loading}
use Rattle.fkv_partition.specs.declared.contexts.Progress.{Progress}
use Rattle.fkv_partition.specs.declared.contexts.Progress.TheVariants.{Done, Next, NeedsBuild, NeedsLoad, Waits}
use Rattle.fkv_partition.specs.declared.contexts.Wait.TheVariants.{Fuzzy, Full}
use Rattle.fkv_partition.specs.Contexts.{question_in, at_phase}
use Rattle.fkv_partition.specs.Claiming.{IsClaimed}
use Rattle.fkv_texts.specs.declared.entries.Entry.{Entry}
use Rattle.fkv_texts.specs.Text.{last_of}
use Rattle.fkv_partition.specs.Views.{PartitionView, found_for, met_at, context_at, with_context, with_payload, with_replaced, live_of}

-- an operation that looks its key up in a context, and what it then does
pub record Decides {K V I O : Type 0} (cmp : K → K → Ordering) (join : V → V → V) (f : Meanings K V I O) (code : K → ℕ)
    (v : PartitionView K V I) (slot c : ℕ) (x : Context K V I) (d : Decision V I O) : Type 0 where
  pub here : context_at v slot c ≡ Some x
  pub fresh : x.phase ≡ Fresh
  pub decided : decision f x.op (met_at cmp join code v slot (key_of x.op)) ≡ d

-- the operation that is open in a context has this key, and so decides
pub record IsDecided {K V I O : Type 0} (cmp : K → K → Ordering) (join : V → V → V) (f : Meanings K V I O) (code : K → ℕ)
    (v : PartitionView K V I) (slot c : ℕ) (key : K) (d : Decision V I O) : Type 0 where
  pub operation : Context K V I
  pub key_is : key_of operation.op ≡ key
  pub decides : Decides cmp join f code v slot c operation d

pub data Goes {K V I O R : Type 0} (stands : R → Standing) (cmp : K → K → Ordering) (join : V → V → V)
    (f : Meanings K V I O) (code : K → ℕ) (old new : PartitionView K V I) (slot c now : ℕ) (result : Result (Progress K V I O R) Refused) : Type 0 where
  -- nothing is open there
  unknown : context_at old slot c ≡ None → new ≡ old → result ≡ Err Unknown → Goes stands cmp join f code old new slot c now result
  -- a prepared update asks the same again
  asks : (x : Context K V I) (e : IndexEntry) (ask : Ask K V I)
      → context_at old slot c ≡ Some x
      → question_in x ≡ Some (e, ask)
      → new ≡ record old { moment = now }
      → result ≡ Ok (NeedsBuild ask)
      → Goes stands cmp join f code old new slot c now result
  -- one that waits for a page is to be loaded
  not_ready : (x : Context K V I) (l : Loading V)
      → context_at old slot c ≡ Some x
      → x.phase ≡ Load l
      → new ≡ old
      → result ≡ Err NotReady
      → Goes stands cmp join f code old new slot c now result
  -- a tentative entry becomes final where no other entry of its tag stands in its bucket, and its place is emptied
  -- else; either way the operation is to look again
  confirms : (x : Context K V I) (p : Place)
      → context_at old slot c ≡ Some x
      → x.phase ≡ Confirm p
      → IsAlone old.records.words p
      → new ≡ record (with_context old slot c (Some (at_phase x Fresh)) now) { records = confirmed old.records p }
      → result ≡ Ok Next
      → Goes stands cmp join f code old new slot c now result
  backs_off : (x : Context K V I) (p : Place)
      → context_at old slot c ≡ Some x
      → x.phase ≡ Confirm p
      → ¬ IsAlone old.records.words p
      → new ≡ record (with_context old slot c (Some (at_phase x Fresh)) now) { records = released old.records p }
      → result ≡ Ok Next
      → Goes stands cmp join f code old new slot c now result
  -- it is done without a write, and its context is free
  done : (x : Context K V I) (a : Answer O)
      → Decides cmp join f code old slot c x (Decision.Done a)
      → new ≡ with_context old slot c None now
      → result ≡ Ok (Done a now)
      → Goes stands cmp join f code old new slot c now result
  -- a tentative entry is made, or no place of its bucket is empty and the memory for more is refused
  claims : (x : Context K V I)
      → Decides cmp join f code old slot c x Claim
      → IsClaimed code old new slot c x now
      → result ≡ Ok Next
      → Goes stands cmp join f code old new slot c now result
  unclaimed : (x : Context K V I)
      → Decides cmp join f code old slot c x Claim
      → list_any is_empty (words_of old.records.words (class_in code old.records (key_of x.op)).bucket) ≡ false
      → new ≡ old
      → result ≡ Err NoMemory
      → Goes stands cmp join f code old new slot c now result
  -- a record is appended, the entry moves to it, and the operation is done; or there is no room for a record, and it
  -- waits; or no address is left
  appends : (x : Context K V I) (payload : Payload V) (a : Answer O) (e : IndexEntry)
      → Decides cmp join f code old slot c x (Append payload a)
      → found_for code old (key_of x.op) ≡ Some e
      → old.records.log.tail ≢ 2 ^ 48
      → (IsFull old.records.log → ⊥)
      → new ≡ with_payload old slot c e (key_of x.op) payload (standing join (live_of cmp old (key_of x.op)) payload) now
      → result ≡ Ok (Done a now)
      → Goes stands cmp join f code old new slot c now result
  worn : (x : Context K V I) (payload : Payload V) (a : Answer O)
      → Decides cmp join f code old slot c x (Append payload a)
      → old.records.log.tail ≡ 2 ^ 48
      → new ≡ old
      → result ≡ Err Worn
      → Goes stands cmp join f code old new slot c now result
  full : (x : Context K V I) (payload : Payload V) (a : Answer O)
      → Decides cmp join f code old slot c x (Append payload a)
      → IsFull old.records.log
      → new ≡ record old { moment = now }
      → result ≡ Ok (Waits Full)
      → Goes stands cmp join f code old new slot c now result
  -- the last record of the key gets another value where it stands, or becomes a tombstone, and the operation is done
  replaces : (x : Context K V I) (value : Option V) (a : Answer O) (e : Entry K V)
      → Decides cmp join f code old slot c x (Replace value a)
      → last_of cmp old.records.text (key_of x.op) ≡ Some e
      → new ≡ with_replaced old slot c e.address value now
      → result ≡ Ok (Done a now)
      → Goes stands cmp join f code old new slot c now result
  -- it stays as it is until every session has seen that the record changes no more
  waits : (x : Context K V I)
      → Decides cmp join f code old slot c x Wait
      → new ≡ record old { moment = now }
      → result ≡ Ok (Waits Fuzzy)
      → Goes stands cmp join f code old new slot c now result
  -- an update keeps the entry as it stands and the value that it met, and asks for the new one
  prepares : (x : Context K V I) (source : Option V) (i : I) (e : IndexEntry)
      → Decides cmp join f code old slot c x (Prepare source i)
      → found_for code old (key_of x.op) ≡ Some e
      → new ≡ with_context old slot c (Some (at_phase x (Prepared e source))) now
      → result ≡ Ok (NeedsBuild (record { number = x.number; key = key_of x.op; source = source; input = i }))
      → Goes stands cmp join f code old new slot c now result
  -- a read or an update keeps Begin, the entry as it stands, the address to which the records of its key's class lead on
  -- disk, and the parts of the key's deltas above, and asks for the page there; or the memory to share its receipt is
  -- refused
  asks_page : (x : Context K V I) (b : ℕ) (parts : Option V) (e : IndexEntry) (r : R)
      → Decides cmp join f code old slot c x (decided.Load b parts)
      → found_for code old (key_of x.op) ≡ Some e
      → IsHeldBy old.records.log.receipts (page_at old.records.log.bits b) (stands r)
      → new ≡ with_context old slot c (Some (at_phase x
      (Load (record { begin = old.records.log.begin; kept = e; wanted = b; parts = parts; looked = now })))) now
      → result ≡ Ok (NeedsLoad r b)
      → Goes stands cmp join f code old new slot c now result
  unshared : (x : Context K V I) (b : ℕ) (parts : Option V)
      → Decides cmp join f code old slot c x (decided.Load b parts)
      → new ≡ old
      → result ≡ Err NoMemory
      → Goes stands cmp join f code old new slot c now result
