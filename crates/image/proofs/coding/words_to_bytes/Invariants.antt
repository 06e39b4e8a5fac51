use Rattle.std.proofs.Common.{◌≡◌, ◌*◌, ◌++◌, take, drop}
use Rattle.image.specs.Bytes.{bytes_of_words}
use Rattle.image.proofs.coding.words_to_bytes.Given as goal

abbrev pub invariant-loop-i : goal.invariant-loop-i
invariant-loop-i l = l.bytes ≡ take (2 * l.i) (bytes_of_words l.words) ++ drop (2 * l.i) l.initial.bytes
