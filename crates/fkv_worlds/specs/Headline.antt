-- The headline.
use Rattle.std.specs.Prelude.{◌≡◌, ℕ, suc, length, map}
use Rattle.std.specs.declared.cmp.Ordering.{Ordering}
use Rattle.fkv_functions.specs.Meanings.{Meanings}
use Rattle.fkv_functions.specs.Plain.{Same}
use Rattle.fkv_lives.specs.Accounts.{IsAccount}
use Rattle.fkv_lives.specs.Histories.{issue_of, issues_in}
use Rattle.fkv_lives.specs.Lives.{map_before}
use Rattle.fkv_lives.specs.Placed.{IsPlaced}
use Rattle.fkv_lives.specs.Told.{taken}
use Rattle.fkv_partition.specs.Unions.{union_of}
use Rattle.fkv_worlds.specs.States.{WorldView, history_of}

-- Each finished operation answers as the plain map does at one step of its own between its issue and its completion;
-- the live records of all partitions denote the map which the finished updates give, each once; the lives are those of the
-- accepted issues of the steps, in order; and the outcomes told are those of the lives, each told to its own.
pub record IsHeadline {K V I O R : Type 0} (cmp : K → K → Ordering) (f : Meanings K V I O) (code : K → ℕ)
    (w : WorldView K V I O R) : Type 0 where
  pub placed : IsPlaced cmp f w.state.lives w.state.moment
  pub denotes : Same (union_of cmp code w.state.partitions) (map_before cmp f w.state.lives (suc w.state.moment))
  pub paired : length w.steps ≡ length w.outcomes
  pub issued : map issue_of w.state.lives ≡ issues_in (history_of w)
  pub account : IsAccount w.state.lives (taken w.outcomes) (history_of w) w.state.moment
