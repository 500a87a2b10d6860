use Rattle.std.proofs.Common.{◌&&◌, ◌==◌, nat_le, refl}
use Rattle.fkv_texts.specs.Text.{has_key}
use Rattle.fkv_texts.specs.Deltas.{resolved}
use Rattle.fkv_texts.proofs.StoodLemmas.{alike, alike_back, alike-unvalued, alike-laid_out, alike-rising, alike-from, alike-below, alike-chained, alike-leads, resolved-last, whole-last, valued-last}
use Rattle.fkv_texts.proofs.deltas.places.Goals as goal

pub returns : goal.returns
returns g c = record {
  same = λ cmp join es. alike-unvalued es (resolved cmp join es) (alike cmp join es);
  laid_out = λ cmp join es bits size begin tail. (
    alike-laid_out bits size begin tail (resolved cmp join es) es (alike_back cmp join es),
    alike-laid_out bits size begin tail es (resolved cmp join es) (alike cmp join es),
  );
  rising = λ cmp join es. (alike-rising (resolved cmp join es) es (alike_back cmp join es), alike-rising es (resolved cmp join es) (alike cmp join es));
  from = λ cmp join es begin. (alike-from begin (resolved cmp join es) es (alike_back cmp join es), alike-from begin es (resolved cmp join es) (alike cmp join es));
  below = λ cmp join es tail. (alike-below tail (resolved cmp join es) es (alike_back cmp join es), alike-below tail es (resolved cmp join es) (alike cmp join es));
  chained = λ cmp join es class same begin. (
    alike-chained class same begin (resolved cmp join es) es (alike_back cmp join es),
    alike-chained class same begin es (resolved cmp join es) (alike cmp join es),
  );
  leads = λ cmp join es class same begin cl a. (
    alike-leads class same begin (resolved cmp join es) es (alike_back cmp join es) cl a,
    alike-leads class same begin es (resolved cmp join es) (alike cmp join es) cl a,
  );
  entry = λ cmp join es a. resolved-last cmp join es (λ e. e.address == a) (λ e v. refl);
  last = λ cmp join es k. resolved-last cmp join es (has_key cmp k) (λ e v. refl);
  newest = λ cmp join es k a. resolved-last cmp join es (λ e. nat_le e.address a && has_key cmp k e) (λ e v. refl);
  last_where = λ cmp join es p blind. resolved-last cmp join es p blind;
  whole = λ cmp join es p e blind is whole. whole-last join cmp es p blind e is whole;
  valued = λ cmp join es p e blind is some. valued-last join cmp es p blind e is some;
}
