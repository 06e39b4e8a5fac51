use Rattle.std.proofs.Common.{ℕ, List, ap, ◌∙◌, subst, arith}
use Rattle.disk.specs.Addresses.{real_address}
use Rattle.disk.proofs.Naming.{address_examples}
use Rattle.disk.specs.Media.{Page}
use Rattle.ledger.specs.Runs.{applied}
use Rattle.ledger.specs.Formats.{format_writes, NewPackExample}
use Rattle.ledger.specs.News.{new_totals}
use Rattle.ledger.proofs.Formatting.{Fresh, formatted}
use Rattle.ledger.proofs.News.{two_chained}
use Rattle.ledger.proofs.fresh.worked_examples.Goals as goal

example : (qs : List Page) → Fresh 1 qs → NewPackExample qs
unfolding real_address
example qs f = record {
  verdicts = two_chained 1 qs f ∙ ap new_totals f.count;
  leader = rw f.at_1;
  page = rw f.at_2;
  entry = rw f.data_2;
  hole = rw f.data_2;
}

pub returns : goal.returns
returns c = record {
  addresses = address_examples;
  new_pack = λ ps e. example (applied (format_writes 24) ps) (subst (λ (n : ℕ). Fresh 1 (applied (format_writes n) ps)) e (formatted 1 ps (omega arith) (omega arith) e));
}
