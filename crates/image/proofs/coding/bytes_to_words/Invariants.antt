use Rattle.std.proofs.Common.{◌≡◌, ◌*◌, ◌≤◌, ◌++◌, length, take, drop}
use Rattle.std.specs.Iterator.Adapters.{enumerate_source, enumerate_count}
use Rattle.std.specs.Slice.Iter.{chunks_exact_rest, chunks_exact_size}
use Rattle.image.specs.Bytes.{words_of_bytes}
use Rattle.image.proofs.coding.bytes_to_words.Given as goal

abbrev pub invariant-loop-i : goal.invariant-loop-i
invariant-loop-i l = record {
  size : chunks_exact_size (enumerate_source l.i-iterator) ≡ 2;
  rest : chunks_exact_rest (enumerate_source l.i-iterator) ≡ drop (2 * enumerate_count l.i-iterator) l.bytes;
  inside : 2 * enumerate_count l.i-iterator ≤ length l.bytes;
  words : l.words ≡ take (enumerate_count l.i-iterator) (words_of_bytes l.bytes) ++ drop (enumerate_count l.i-iterator) l.initial.words;
}
