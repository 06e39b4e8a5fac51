use Rattle.std.proofs.Common.{length, set, ap, ◌∙◌, subst, arith}
use Rattle.disk.specs.Addresses.{page_named}
use Rattle.disk.specs.Media.{Medium}
use Rattle.survey.specs.Chains.{is_leader}
use Rattle.survey.specs.Steps.{Linked}
use Rattle.survey.proofs.Following.{has_label}
use Rattle.survey.proofs.Marking.{Turn, turn}
use Rattle.survey.proofs.walk.walk.Given as given
use Rattle.survey.proofs.walk.walk.Goals as goal

pub bounds-table-at : goal.bounds-table-at
bounds-table-at g c =
    let m : Medium = g.R.Reader.medium c.read_label-label.new.self in
    let long = ap (λ (x : Medium). length x.pages) c.read_label-label.ensures.same in
    let h = has_label m.pages c.in-Some.at.page.page c.in-Some.at.label (c.loop-next.invariant.1.link c.in-Some.at c.in-Some.is).at in
    omega arith

turned : (g : given.Over) (c : goal.After-next_link-next g) → Turn (page_named c.cylinders-cylinders.result.count) (g.R.Reader.medium c.read_label-label.new.self).pages c.args.leader.page c.loop-next.next c.next_link-next.result c.args.table.now (set c.loop-next.table c.in-Some.at.page.page c.filed.result)
turned g c =
    let m : Medium = g.R.Reader.medium c.read_label-label.new.self in
    let same = c.read_label-label.ensures.same in
    let long = ap (λ (x : Medium). length x.pages) same in
    let name = page_named c.cylinders-cylinders.result.count in
    turn name m.pages c.args.leader.page c.loop-next.next c.next_link-next.result c.args.table.now c.loop-next.table c.in-Some.at c.filed.result
    (ap (λ (x : Medium). is_leader x.pages c.args.leader.page) same ∙ c.requires.leads) (omega arith) c.loop-next.invariant.1 c.in-Some.is c.filed.ensures
    (subst (λ (x : Medium). Linked name x.pages c.in-Some.at.label c.next_link-next.result) c.loop-next.invariant.0 c.next_link-next.ensures.answer)

pub loop-next-smaller : goal.loop-next-smaller
loop-next-smaller g c = (turned g c).shorter

pub loop-next-preserved : goal.loop-next-preserved
loop-next-preserved g c = (c.next_link-next.ensures.same ∙ c.loop-next.invariant.0, (turned g c).walking)
