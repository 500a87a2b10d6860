-- What comes of jobs that ran beside a keeper.
use Rattle.std.specs.Prelude.{List, IfErr}
use Rattle.std.specs.List.{AllZip}
use Rattle.fkv_functions.specs.declared.refusals.Refused.{Refused}
use Rattle.fkv_jobs.specs.declared.jobs.JobResults.{JobResults}

-- each job gave its result, in order, and where the keeper ended by a fault, it is one of its own
pub record HaveRun {J O : Type 0} (gives : J → O → Type 0) (fault : Refused → Type 0) (jobs : List J) (ran : JobResults O)
    : Type 0 where
  pub results : AllZip gives jobs ran.results.items
  pub kept : IfErr ran.kept fault
