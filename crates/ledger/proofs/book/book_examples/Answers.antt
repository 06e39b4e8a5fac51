use Rattle.ledger.proofs.Trying.{book_examples}
use Rattle.ledger.proofs.book.book_examples.Goals as goal

pub returns : goal.returns
returns c = book_examples
