use Rattle.disk.proofs.Naming.{conversion}
use Rattle.disk.proofs.address.RealAddress.page.Goals as goal

pub returns-then-self-eq0-clause-inverse : goal.returns-then-self-eq0-clause-inverse
returns-then-self-eq0-clause-inverse c = conversion c.args.cylinders.count c.args.cylinders.fits.1

pub returns-else-sector-le11-clause-inverse : goal.returns-else-sector-le11-clause-inverse
returns-else-sector-le11-clause-inverse c = conversion c.args.cylinders.count c.args.cylinders.fits.1
