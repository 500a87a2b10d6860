-- What an event tells that asks for nothing.
use Rattle.fkv_partition.specs.declared.contexts.Progress.{Progress}
use Rattle.fkv_partition.specs.declared.contexts.Progress.TheVariants.{Done, Next, NeedsBuild, NeedsLoad, Waits}
use Rattle.fkv_partition.specs.declared.contexts.Wait.TheVariants.{Fuzzy, Full}

-- neither a page, nor a value that is to be built, nor that sessions with an older view are refreshed
abbrev pub AsksNothing : {K V I O R : Type 0} → Progress K V I O R → Type 0
AsksNothing (Done a effect) = Unit {0}
AsksNothing Next = Unit {0}
AsksNothing (NeedsBuild ask) = ⊥
AsksNothing (NeedsLoad r a) = ⊥
AsksNothing (Waits Fuzzy) = ⊥
AsksNothing (Waits Full) = Unit {0}
