-- A chain in parts.
use Rattle.std.proofs.Common.{◌≡◌, ◌≤◌, inl, inr, ℕ, List, [], ◌∷◌, ◌++◌, sym, ◌∙◌, subst, arith}
use Rattle.std.proofs.lemmas.Bool.{cases_lt}
use Rattle.fkv_texts.specs.declared.entries.Entry.{Entry}
use Rattle.fkv_texts.specs.Text.{IsRising}
use Rattle.fkv_texts.specs.Chains.{IsChainFrom, ends, goes, leads_to}
use Rattle.fkv_texts.proofs.ChainLemmas.{one_chain}
use Rattle.fkv_texts.proofs.TextLemmas.{one_address}

module _ {K V : Type 0} (begin a : ℕ) (text : List (Entry K V)) (le : begin ≤ a) where
  -- the entries from an address on
  pub chain-upper : (from : ℕ) (es : List (Entry K V)) → IsChainFrom begin text from es → (upper : List (Entry K V)) × IsChainFrom a text from upper
  chain-upper from es (ends h) = ([], ends (omega arith))
  chain-upper from es (goes {e = e} {es = rest} low m at on) = elim (cases_lt from a) [
    | inl below ↦ ([], ends below)
    | inr above ↦ (let r = chain-upper e.previous rest on in (e ∷ r.0, goes above m at r.1))
  ]

  -- and those below, from where the upper ones lead
  pub chain-lower : IsRising text → (from : ℕ) (es upper : List (Entry K V)) → IsChainFrom begin text from es → IsChainFrom a text from upper
      → (lower : List (Entry K V)) × IsChainFrom begin text (leads_to from upper) lower
  chain-lower r from es upper h (ends below) = (es, h)
  chain-lower r from es upper (ends below) (goes high m at on) = absurd (omega arith)
  chain-lower r from es upper (goes {e = d} {es = rest} low n is next) (goes {e = e} {es = more} high m at on) =
      let same : d ≡ e = one_address text r n.place m.place d e n.here m.here (is ∙ sym at) in
      chain-lower r e.previous rest more (subst (λ (x : Entry K V). IsChainFrom begin text x.previous rest) same next) on

  pub chain-joins : (from : ℕ) (upper lower : List (Entry K V)) → IsChainFrom a text from upper → IsChainFrom begin text (leads_to from upper) lower → IsChainFrom begin text from (upper ++ lower)
  chain-joins from upper lower (ends below) h = h
  chain-joins from upper lower (goes {e = e} {es = more} high m at on) h = goes (omega arith) m at (chain-joins e.previous more lower on h)

  pub chain-split : (from : ℕ) (es upper lower : List (Entry K V)) → IsRising text → IsChainFrom begin text from es → IsChainFrom a text from upper → IsChainFrom begin text (leads_to from upper) lower
      → es ≡ upper ++ lower
  chain-split from es upper lower r h u l = one_chain begin text r from es (upper ++ lower) h (chain-joins from upper lower u l)
