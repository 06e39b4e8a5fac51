use Rattle.bits.proofs.Runs.{leading_ones}
use Rattle.bits.proofs.Tables as tables
use Rattle.bits.proofs.Searches as searches
use Rattle.bits.proofs.bit_laws.Goals as goal

pub returns : goal.returns
returns c = record {
  one_or_nought = tables.one_or_nought;
  taken_same = tables.taken_same;
  taken_other = tables.taken_other;
  taken_again = tables.taken_again;
  taken_length = tables.taken_length;
  taken_words = tables.taken_words;
  freed_same = tables.freed_same;
  freed_other = tables.freed_other;
  freed_again = tables.freed_again;
  freed_length = tables.freed_length;
  freed_words = tables.freed_words;
  free_all_in = tables.free_all_in;
  free_all_out = tables.free_all_out;
  free_all_length = tables.free_all_length;
  free_all_words = tables.free_all_words;
  none_free_bit = tables.none_free_bit;
  none_free_length = tables.none_free_length;
  none_free_words = tables.none_free_words;
  leading_ones = leading_ones;
  first_free_is = searches.first_free_is;
  round_free_is = searches.round_free_is;
  start_kept = searches.start_kept;
  next_free_is = searches.next_free_is;
  all_bits = tables.all_bits;
}
