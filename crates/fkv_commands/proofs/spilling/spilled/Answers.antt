use Rattle.std.proofs.Common.{rules, ◌≡◌, [], inl, inr, true, false, sym, ◌∙◌, string_bytes}
use Rattle.fkv_commands.proofs.MakingLemmas.{later}
use Rattle.fkv_commands.proofs.OpeningLemmas.{feeds-named, unmapped}
use Rattle.fkv_commands.proofs.spilling.spilled.Goals as goal

pub returns-else-is_empty-clause-ok : goal.returns-else-is_empty-clause-ok
returns-else-is_empty-clause-ok g c =
    let some : c.args.table.now.paths.items ≡ [] → ⊥ = search rules in
    let named = feeds-named (λ path. g.O.Opener.bytes c.args.opener.now path) string_bytes c.args.table.now.paths.items
    (g.R.Source.remaining c.args.reader.now) some in
    λ keeps. later c.spilled_of_feeds.result _ (λ known. elim known [
      | inl none ↦ absurd (some (unmapped string_bytes c.args.table.now.paths.items none))
      | inr sure ↦ elim sure [
        | inl audited ↦ (let bad : true ≡ false = sym audited ∙ c.requires.unaudited in absurd (cc))
        | inr one ↦ rw named (c.spilled_of_feeds.ensures.ok keeps one)
      ]
    ])
