use Rattle.std.proofs.Common.{List, subst, sym, ap, ◌∙◌}
use Rattle.std.specs.List.{find}
use Rattle.fkv_texts.specs.declared.entries.Entry.{Entry}
use Rattle.fkv_texts.specs.Text.{has_key}
use Rattle.fkv_texts.specs.Chains.{IsChainFrom, falling}
use Rattle.fkv_texts.proofs.ChainLemmas.{chained-append, meets, one_chain, finds, stands_at, ended, grown, met_from}
use Rattle.fkv_texts.proofs.laws.chains.Goals as goal

pub returns : goal.returns
returns g c = record {
  kept = λ class same begin text e chained under leads. chained-append class same begin text e chained under leads;
  met = λ class same begin text cl a test r f chained leads es.
      let chain = meets class same begin test text r f chained cl a leads in
      ((λ h. one_chain begin text r a es (falling class same text cl) h chain), (λ h. subst (λ (ds : List (Entry _ _)). IsChainFrom begin text a ds) (sym h) chain));
  found = λ cmp class same begin text k a order test r f chained leads es h.
      let chain = meets class same begin test text r f chained (class k) a leads in
      ap (find (has_key cmp k)) (one_chain begin text r a es (falling class same text (class k)) h chain) ∙ finds class same begin cmp order test k text;
  found_from = λ cmp class same begin text k i e order test r f chained g own es h. met_from class same begin cmp order test k text r f chained i e g own es h;
  grown = grown;
  stands = stands_at;
  ends = ended;
}
