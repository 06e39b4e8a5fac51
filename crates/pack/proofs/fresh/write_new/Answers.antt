use Rattle.std.proofs.Common.{length}
use Rattle.ledger.specs.Runs.{freed_all}
use Rattle.ledger.specs.Formats.{directory_writes}
use Rattle.ledger.proofs.Running.{broke_early, ran_then}
use Rattle.pack.proofs.fresh.write_new.Goals as goal

pub returns-in_err-free_pages : goal.returns-in_err-free_pages
returns-in_err-free_pages g c =
    broke_early (freed_all (length (g.D.Reader.medium c.args.drive.now).pages)) directory_writes (g.D.Reader.medium c.args.drive.now) c.from_residual.result c.in_err-free_pages.field-0.0 (g.D.Reader.medium c.free_pages.new.drive)
    c.from_residual.ensures.1 c.in_err-free_pages.ensures

pub returns : goal.returns
returns g c =
    ran_then (freed_all (length (g.D.Reader.medium c.args.drive.now).pages)) directory_writes (g.D.Reader.medium c.args.drive.now) (g.D.Reader.medium c.free_pages.new.drive) c.write_directory.result (g.D.Reader.medium c.write_directory.new.drive)
    c.in_ok-free_pages.ensures c.write_directory.ensures
