use Rattle.std.proofs.Common.{◌≡◌}
use Rattle.disk.specs.Addresses.{page_named}
use Rattle.pack.specs.Linking.{Noted}
use Rattle.pack.proofs.links.find_links.Given as goal

abbrev pub invariant-loop-page : goal.invariant-loop-page
invariant-loop-page g l = record {
  same : g.R.Reader.medium l.reader ≡ g.R.Reader.medium l.fn.reader;
  noted : Noted (page_named (g.R.Reader.medium l.fn.reader).cylinders) (g.R.Reader.medium l.fn.reader).pages l.page l.links;
}
