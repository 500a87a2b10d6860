use Rattle.std.proofs.Common.{refl}
use Rattle.fkv_texts.specs.WrongTexts.{entry}
use Rattle.fkv_texts.proofs.laws.wrong_texts.Goals as goal

pub returns-clause-links : goal.returns-clause-links
returns-clause-links c =
    λ p q r v h. (h 0 (entry 64 p 2 v) refl, h 1 (entry 96 q 4 v) refl, h 2 (entry 128 r 3 v) refl)
