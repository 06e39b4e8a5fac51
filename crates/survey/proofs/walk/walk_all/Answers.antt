use Rattle.std.proofs.Common.{◌≡◌, ℕ, true, List, get_or, take, sym, ◌∙◌, subst}
use Rattle.std.proofs.lemmas.List.{take_more}
use Rattle.std.proofs.lemmas.List.Elements.{All-take}
use Rattle.disk.specs.declared.address.PageAddress.{PageAddress}
use Rattle.disk.specs.Addresses.{page_named}
use Rattle.disk.specs.Media.{Medium}
use Rattle.survey.specs.Chains.{is_leader}
use Rattle.survey.specs.Steps.{Marked, MarkedAll}
use Rattle.survey.proofs.Marking.{marked_push}
use Rattle.survey.proofs.walk.walk_all.Goals as goal

pub loop-leader-preserved : goal.loop-leader-preserved
loop-leader-preserved g c =
    let m : Medium = g.R.Reader.medium c.args.reader.now in
    let ls : List PageAddress = c.args.leaders.now in
    let i : ℕ = c.loop-leader.leader-index in
    let h = c.loop-leader-test.true in
    let d : PageAddress = record { page = 0 } in
    let a : PageAddress = get_or ls i d in (
      c.walk.ensures.same ∙ c.loop-leader.invariant.0,
      subst (λ (xs : List PageAddress). MarkedAll (page_named m.cylinders) m.pages xs c.args.table.now c.walk.new.table) (sym (take_more ls i d h))
          (marked_push (page_named m.cylinders) m.pages (take i ls) a c.args.table.now c.loop-leader.table c.walk.new.table c.requires.no_rivals
          (All-take (λ b. is_leader m.pages b.page ≡ true) i ls c.requires.leaders) (c.requires.leaders i d h) c.loop-leader.invariant.1
          (subst (λ (x : Medium). Marked (page_named x.cylinders) x.pages a.page c.loop-leader.table c.walk.new.table) c.loop-leader.invariant.0 c.walk.ensures.marked)),
    )
