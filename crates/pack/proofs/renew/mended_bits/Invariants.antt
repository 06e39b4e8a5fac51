use Rattle.std.proofs.Common.{◌≡◌}
use Rattle.bits.specs.Bits.{free_all, none_free}
use Rattle.pack.specs.Linking.{freed_in}
use Rattle.pack.proofs.renew.mended_bits.Given as goal

abbrev pub invariant-loop-page : goal.invariant-loop-page
invariant-loop-page l = l.bits.words ≡ free_all (freed_in l.table l.page) none_free
