use Rattle.std.proofs.Common.{◌≡◌, ◌-◌}
use Rattle.std.specs.List.{range_with_len}
use Rattle.bits.specs.Bits.{free_all, none_free}
use Rattle.pack.proofs.fresh.new_bits.Given as goal

abbrev pub invariant-loop-page : goal.invariant-loop-page
invariant-loop-page l = l.bits.words ≡ free_all (range_with_len 3 (l.page - 3)) none_free
