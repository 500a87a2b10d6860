-- Passes of a store that have no rows yet.
use Rattle.std.proofs.Common.{◌≡◌, ◌<◌, ℕ, ℤ, Bool, false, [], None, replicate, sym, subst}
use Rattle.std.specs.List.{All}
use Rattle.std.proofs.lemmas.List.{length-replicate, get_or-replicate}
use Rattle.std.proofs.lemmas.List.Elements.{All-nil, All-replicate}
use Rattle.fkv_functions.specs.declared.names.Name.{Name}
use Rattle.fkv_feeds.specs.declared.counting.RowMode.{RowMode}
use Rattle.fkv_histories.specs.declared.entries.Entry.{Entry}
use Rattle.fkv_operations.specs.After.{is_merge}
use Rattle.fkv_store.specs.Stores.{StoreView}
use Rattle.fkv_store.specs.Passes.{PassView}
use Rattle.fkv_workers.specs.Shares.{HasShare}
use Rattle.fkv_workers.specs.Works.{StandsFor}
use Rattle.fkv_workers.proofs.ShareLemmas.{share_none}

pub stands_fresh : {V O : Type 0} (keeps : Bool) (code : Name → ℕ) (mode : RowMode) (s : StoreView) (p : PassView Name V ℤ O) → 0 < s.count
    → p ≡ record { store = s.id; own = replicate s.count []; told = replicate s.count 0; share = 0; last = None; turned = 0; missed = 0; reads = p.reads }
    → StandsFor keeps code mode p []
stands_fresh {V = V} {O = O} keeps code mode s p some is =
    rw is
    (record {
      some = rw (length-replicate {A = ℕ} s.count 0) some;
      share = λ k. subst (λ n. HasShare {V = V} {O = O} code n (replicate s.count []) []) (sym (length-replicate {A = ℕ} s.count 0))
          (share_none code s.count (replicate s.count []) (length-replicate s.count []) (λ q lt. get_or-replicate s.count q [] [] lt));
      made = λ k update. All-replicate (All (λ (e : Entry Name V ℤ O). is_merge e.op ≡ false)) s.count []
          (All-nil (λ (e : Entry Name V ℤ O). is_merge e.op ≡ false));
    })
