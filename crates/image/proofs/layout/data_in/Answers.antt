use Rattle.std.proofs.Common.{◌≡◌, Some, take, drop, sym, ap, ◌∙◌, rules}
use Rattle.image.proofs.Tables.{data_seen}
use Rattle.image.proofs.layout.data_in.Goals as goal

pub returns : goal.returns
returns c =
    let ws = c.args.words.now in
    let e : c.copy_from_slice.new.self ≡ take 256 (drop c.in_ok-at.at.words ws) = search rules in
    ap (λ d. Some d) e ∙ sym (data_seen ws c.args.page _ _ _ c.in_ok-at.ensures (search rules))
