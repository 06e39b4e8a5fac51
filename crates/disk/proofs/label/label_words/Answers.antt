use Rattle.std.proofs.Common.{refl}
use Rattle.disk.proofs.Eight.{eight_back}
use Rattle.disk.proofs.label.label_words.Goals as goal

pub returns : goal.returns
returns c = record { label_back = λ l. refl; words_back = eight_back }
