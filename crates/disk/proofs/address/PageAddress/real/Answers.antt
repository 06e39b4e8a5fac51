use Rattle.disk.proofs.Naming.{conversion}
use Rattle.disk.proofs.address.PageAddress.real.Goals as goal

pub returns-then-self-pages-clause-inverse : goal.returns-then-self-pages-clause-inverse
returns-then-self-pages-clause-inverse c = conversion c.args.cylinders.count c.args.cylinders.fits.1

pub returns-else-self-pages-clause-inverse : goal.returns-else-self-pages-clause-inverse
returns-else-self-pages-clause-inverse c = conversion c.args.cylinders.count c.args.cylinders.fits.1
