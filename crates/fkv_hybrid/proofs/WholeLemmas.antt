-- What holds of a whole log: of one of no records, of any, and as its tail rises.
use Rattle.std.proofs.Common.{◌≡◌, ◌^◌, ◌<◌, inl, ℕ, Bool, List, [], length, Option, Some, refl, ◌∙◌, arith}
use Rattle.fkv_functions.specs.Codecs.{Codec}
use Rattle.fkv_records.specs.Places.{page_at, IsRecordStart, IsShape}
use Rattle.fkv_records.specs.Records.{size_of}
use Rattle.fkv_records.specs.declared.shapes.Shape.{Shape}
use Rattle.fkv_device.specs.Standing.{Standing}
use Rattle.fkv_frames.specs.Ring.{Ring}
use Rattle.fkv_frames.specs.Held.{held}
use Rattle.fkv_texts.specs.declared.entries.Entry.{Entry}
use Rattle.fkv_texts.specs.Places.{tail_after}
use Rattle.fkv_texts.proofs.PlaceLemmas.{tail_rises}
use Rattle.fkv_epoch.specs.Timely.{IsTimely}
use Rattle.fkv_regions.specs.RegionsView.{RegionsView, fresh_regions}
use Rattle.fkv_regions.specs.Agree.{IsRegions}
use Rattle.fkv_hybrid.specs.Views.{text_begin, empty_log}
use Rattle.fkv_hybrid.specs.Spelled.{TheOne, IsTextOf}
use Rattle.fkv_hybrid.specs.Pages.{page_in, view_as, IsOfPages, IsWhole}
use Rattle.fkv_hybrid.specs.Logs.{IsLogOf}
use Rattle.fkv_hybrid.proofs.PageLemmas.{empty, same_begin, none_frozen, text_is, text_places, text_rises, text_stands, place_first}

-- the regions are those of the same pages where the tail has risen
pub agrees_at : (bits begin size tail at flushed : ℕ) (regions : RegionsView) → IsShape bits size → IsRecordStart bits size tail → at ≡ tail_after bits size tail
    → IsOfPages bits begin tail flushed regions → IsOfPages bits begin at flushed regions
agrees_at bits begin size tail at flushed regions shape place is t =
    let rises = tail_rises bits size shape tail place in
    record {
      bits_same = t.bits_same;
      count_same = t.count_same;
      headed = t.headed;
      begun = omega (arith, is, rises, t.begun);
      marked = t.marked;
    }

module _ {K V : Type 0} {ksize vsize : ℕ} (key : Codec K ksize) (value : Codec V vsize) where
  -- a log of no records
  pub empty_whole : (keeps : Bool) (shape : Shape) (regions : RegionsView) (receipts : List (Option Standing)) (ring : Ring) (page : List ℕ)
      → shape.record_size ≡ size_of ksize vsize → ring.bits ≡ shape.page_bits → 0 < length ring.slots → held ring 0 ≡ Some page → length page ≡ 2 ^ shape.page_bits
      → regions ≡ fresh_regions shape.page_bits → receipts ≡ []
      → IsWhole key value keeps shape 64 regions 64 receipts ring []
  empty_whole keeps shape regions receipts ring page size same some here sized fresh none = rw (fresh, none) (record {
    pages = empty key value keeps shape ring page size same some here sized;
    agrees = record {
      bits_same = refl;
      count_same = refl;
      headed = omega arith;
      begun = omega arith;
      marked = inl refl;
    };
  })

  -- what a contract sees of it
  pub empty_seen : (keeps : Bool) (shape : Shape) (regions : RegionsView) (receipts : List (Option Standing)) (ring : Ring) (count : ℕ)
      (o : TheOne (λ t. IsTextOf key value shape.page_bits (page_in (page_at shape.page_bits regions.offsets.closed) receipts ring) (text_begin keeps 64 regions.offsets.closed) 64 t))
      → IsWhole key value keeps shape 64 regions 64 receipts ring []
      → regions ≡ fresh_regions shape.page_bits → receipts ≡ [] → length ring.slots ≡ count
      → view_as keeps shape 64 regions 64 receipts ring (o.0).0 ≡ empty_log shape.page_bits count
  empty_seen keeps shape regions receipts ring count o log fresh none slots =
      let text = text_is key value shape.page_bits (page_in (page_at shape.page_bits regions.offsets.closed) receipts ring) (text_begin keeps 64 regions.offsets.closed) 64 o [] log.pages.spelled in
      let made : view_as keeps shape 64 regions 64 receipts ring [] ≡ view_as keeps shape 64 (fresh_regions shape.page_bits) 64 [] ring [] =
      (λ j. view_as keeps shape 64 (fresh j) 64 (none j) ring []) in
      let from = same_begin keeps in
      let waits = none_frozen shape ring in
      (λ j. view_as keeps shape 64 regions 64 receipts ring (text j))
      ∙ made
      ∙ (λ j. record {
        bits = shape.page_bits;
        frames = slots j;
        begin = 64;
        from = from j;
        tail = 64;
        regions = fresh_regions shape.page_bits;
        receipts = [];
        waiting = waits j;
        text = [];
      })

  -- what holds of any log
  pub whole_log : (keeps : Bool) (shape : Shape) (begin : ℕ) (regions : RegionsView) (tail : ℕ) (receipts : List (Option Standing)) (ring : Ring) (text : List (Entry K V))
      → IsWhole key value keeps shape begin regions tail receipts ring text → IsRegions regions → IsTimely regions.epochs → 0 < length ring.slots
      → IsLogOf keeps (size_of ksize vsize) (view_as keeps shape begin regions tail receipts ring text)
  whole_log keeps shape begin regions tail receipts ring text log r timely some =
      let p = log.pages in
      let t = log.agrees in
      let o = p.ordered in
      let closed = regions.offsets.closed in
      let frozen = regions.offsets.safe_read_only in
      record {
        shape = rw (← p.size) shape.limits;
        some = some;
        first = place_first shape begin o.begin_place;
        marked = t.marked;
        begins = refl;
        laid_out = p.spelled.laid_out;
        places = text_places key value keeps shape begin closed frozen tail receipts ring text p;
        rising = text_rises key value keeps shape begin closed frozen tail receipts ring text p;
        from = λ n e h. (let s = text_stands key value keeps shape begin closed frozen tail receipts ring text p n e h in s.low);
        below = λ n e h. (let s = text_stands key value keeps shape begin closed frozen tail receipts ring text p n e h in let high = s.high in let one = shape.limits.some in omega arith);
        valued = λ n e h. (let s = p.spelled.spelled n e h in s.sound.whole);
        most = o.most;
        end = rw (← p.size) o.tail_place;
        regions = r;
        timely = timely;
        bits = t.bits_same;
        headed = t.headed;
        read_only = t.begun;
        flushed = t.count_same;
        gone = p.flushed.gone;
        held = p.flushed.there;
      }
