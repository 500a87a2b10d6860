-- How the run is made that a request asks for.
use Rattle.std.specs.Prelude.{◌≡◌, ◌↔◌, ℕ, List, Option, [], ◌∷◌, map, max, true, false, string_bytes}
use Rattle.fkv_feeds.specs.declared.counting.Plan.{Plan}
use Rattle.fkv_feeds.specs.declared.counting.RowMode.TheVariants.{Merge}
use Rattle.fkv_requests.specs.declared.requests.TableRequest.{TableRequest}
use Rattle.fkv_requests.specs.Requests.{Text}

-- a run as this request asks, by so many workers
abbrev pub IsPlanBy : TableRequest → ℕ → Plan → Type 0
IsPlanBy table workers plan =
    (plan.config ≡ table.config)
    × ((plan.mode ≡ Merge) ↔ (table.merge ≡ true))
    × (plan.workers ≡ workers)

-- how many read these paths, where so many workers are asked for: one reads the input, where none is named
abbrev pub readers : List Text → ℕ → ℕ
readers [] asked = 1
readers (path ∷ paths) asked = max 1 asked

-- the run of this request
abbrev pub IsPlanOf : TableRequest → Plan → Type 0
IsPlanOf table plan = IsPlanBy table (readers (map string_bytes table.paths.items) table.workers) plan

-- the feeds of a run: what these paths lead to, or where none is named the input
abbrev pub feeds_of : (List ℕ → Option (List ℕ)) → List Text → Option (List ℕ) → List (Option (List ℕ))
feeds_of bytes [] input = input ∷ []
feeds_of bytes (path ∷ paths) input = map bytes (path ∷ paths)

-- of a table that is spilled no histories are kept
abbrev pub IsUnaudited : TableRequest → Type 0
IsUnaudited table = table.spill ≡ true → table.audit ≡ false
