use Rattle.std.proofs.Common.{◌≡◌, ◌/◌, ◌%◌, get_or, ap, ◌∙◌, arith}
use Rattle.image.proofs.Pairs.{bytes_more, bytes_all, words_back}
use Rattle.image.proofs.coding.words_to_bytes.Goals as goal

pub returns-then-bytes-n-clause-inverse : goal.returns-then-bytes-n-clause-inverse
returns-then-bytes-n-clause-inverse c = words_back c.args.words.now

pub loop-i-preserved : goal.loop-i-preserved
loop-i-preserved c =
    let ws = c.args.words.now in
    let i = c.loop-i.i in
    let high : get_or c.to_be_bytes.result 0 0 ≡ get_or ws i 0 / 256 = ap (λ b. get_or b 0 0) c.to_be_bytes.ensures ∙ omega (arith, c.type_inv.words i) in
    let low : get_or c.to_be_bytes.result 1 0 ≡ get_or ws i 0 % 256 = ap (λ b. get_or b 1 0) c.to_be_bytes.ensures in
    bytes_more ws c.args.bytes.now c.loop-i.bytes i _ _ high low c.loop-i.invariant (omega arith) (omega arith)

pub returns-clause-bytes : goal.returns-clause-bytes
returns-clause-bytes c = bytes_all c.args.words.now c.args.bytes.now c.loop-i.bytes c.loop-i.i _ c.loop-i.invariant (omega arith) (omega arith)

pub returns-clause-inverse : goal.returns-clause-inverse
returns-clause-inverse c = words_back c.args.words.now
