use Rattle.fkv_store.proofs.CountLemmas.{go-steady, go-missed, go-few, go-read, undone-unturned, load-steady, load-read, load-few}
use Rattle.fkv_store.proofs.running.turn.Goals as goal

pub returns-in_default-clause-steady : goal.returns-in_default-clause-steady
returns-in_default-clause-steady g c before start = go-steady c.go.result _ _ _ before c.go.ensures.counted start

pub returns-in_default-clause-read : goal.returns-in_default-clause-read
returns-in_default-clause-read g c before start = go-read _ _ c.go.result _ _ _ before c.go.ensures.same c.go.ensures.only start

pub returns-in_default-clause-unread : goal.returns-in_default-clause-unread
returns-in_default-clause-unread g c none = go-missed c.go.result _ _ c.go.ensures.counted c.go.ensures.same

pub returns-in_default-clause-missed : goal.returns-in_default-clause-missed
returns-in_default-clause-missed g c = go-few c.go.result _ _ c.go.ensures.counted c.requires.missed

pub returns-in_default-clause-only : goal.returns-in_default-clause-only
returns-in_default-clause-only g c = undone-unturned _ c.go.result c.go.ensures.only

pub returns-clause-steady : goal.returns-clause-steady
returns-clause-steady g c before start =
    load-steady c.load.result c.fetch-came.result _ _ _ before c.args.turned.now c.load.new.turned c.fetch-came.ensures.steady c.fetch-came.ensures.counted start c.load.ensures.counted

pub returns-clause-read : goal.returns-clause-read
returns-clause-read g c before start =
    load-read c.load.result c.fetch-came.result _ _ _ before c.args.turned.now c.load.new.turned c.fetch-came.ensures.steady c.fetch-came.ensures.counted start _ c.load.ensures.said

pub returns-clause-missed : goal.returns-clause-missed
returns-clause-missed g c = load-few c.load.result _ _ _ c.load.ensures.counted c.requires.missed
