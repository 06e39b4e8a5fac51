use Rattle.std.proofs.Common.{List, filter, ap, ◌∙◌, rules}
use Rattle.std.specs.Option.{unwrap_or}
use Rattle.std.proofs.lemmas.Iterator.{YieldsList-from_map, YieldsList-from_slice}
use Rattle.std.proofs.lemmas.Iterator.Consumers.{YieldsList-from_filter, reduce_from_yields_List}
use Rattle.std.proofs.lemmas.List.Folds.{max_of_map}
use Rattle.disk.specs.Labels.{serial_number}
use Rattle.survey.specs.declared.table.Record.{Record}
use Rattle.pack.proofs.Renewing.{chains, says_chains, largest_is}
use Rattle.pack.proofs.renew.largest_serial.Goals as goal

pub returns : goal.returns
returns c =
    let ts : List Record = c.args.table.now in
    c.unwrap_or.ensures
    ∙ (ap (λ o. unwrap_or o 0) (reduce_from_yields_List _ c.map.result _ c.max.ensures.ran (YieldsList-from_map _ (λ (r : Record). serial_number r.id) (YieldsList-from_filter _ (λ (r : Record). chains r.verdict) (YieldsList-from_slice ts cc) c.filter.ensures.closure (λ x b q k. (search rules, says_chains x.now.verdict b (λ z. search rules) (λ z. search rules)))) c.map.ensures.closure (λ x b q k. search rules)))
    ∙ (max_of_map (λ (r : Record). serial_number r.id) (filter (λ (r : Record). chains r.verdict) ts) ∙ largest_is ts))
