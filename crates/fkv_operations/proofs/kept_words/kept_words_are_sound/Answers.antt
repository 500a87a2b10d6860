use Rattle.fkv_operations.proofs.KeptLemmas.{nowhere-none, kept-sound}
use Rattle.fkv_operations.proofs.kept_words.kept_words_are_sound.Goals as goal

pub returns : goal.returns
returns g c = record {
  nowhere = λ cmp class v k e l found low. nowhere-none cmp class v k e l found low;
  kept = λ cmp class v vs k e l next found still again. kept-sound cmp class v vs k e l next found still again;
}
