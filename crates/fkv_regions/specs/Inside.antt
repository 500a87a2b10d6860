-- The fields behind `RegionsView`.
use Rattle.fkv_regions.specs.RegionsView.{RegionsView}
use Rattle.fkv_regions.specs.declared.regions.Regions.TheInside.{Inside}

abbrev pub state_of : Inside → RegionsView
state_of r = record {
  bits = r.shape.page_bits;
  flushed = r.flushed;
  offsets = r.offsets;
  epochs = r.epochs;
  views = r.views.items;
}
