-- Words as bytes, the high byte first.
use Rattle.std.specs.Prelude.{ℕ, ◌+◌, ◌*◌, ◌/◌, ◌%◌, cond, List, [], ◌∷◌, ◌++◌, drop, Ok, Err, Result, ◌==◌, nat_lt}
use Rattle.disk.specs.declared.refusal.Refusal.{Refusal}
use Rattle.disk.specs.declared.refusal.Reason.TheVariants.{BadParameter, TooSmall}
use Rattle.disk.specs.declared.refusal.Place.TheVariants.{Image}
use Rattle.disk.specs.Refusals.{refusal}

abbrev pub words_of_bytes : List ℕ → List ℕ
words_of_bytes [] = []
words_of_bytes (a ∷ []) = []
words_of_bytes (a ∷ b ∷ bs) = (256 * a + b) ∷ words_of_bytes bs

abbrev pub bytes_of_words : List ℕ → List ℕ
bytes_of_words [] = []
bytes_of_words (w ∷ ws) = (w / 256) ∷ (w % 256) ∷ bytes_of_words ws

-- The answer to m bytes that are to be put into n words: how many words they are.
abbrev pub words_made : ℕ → ℕ → Result ℕ Refusal
words_made m n = cond (m % 2 == 1) (Err (refusal BadParameter Image 0)) (cond (nat_lt n (m / 2)) (Err (refusal TooSmall Image 0)) (Ok (m / 2)))

-- The answer to m words that are to be put into n bytes: how many bytes they are.
abbrev pub bytes_made : ℕ → ℕ → Result ℕ Refusal
bytes_made m n = cond (nat_lt n (2 * m)) (Err (refusal TooSmall Image 0)) (Ok (2 * m))

-- The old with the new over its front, or the old as it was after a refusal.
abbrev pub over : Result ℕ Refusal → List ℕ → List ℕ → List ℕ
over (Ok n) new old = new ++ drop n old
over (Err e) new old = old
