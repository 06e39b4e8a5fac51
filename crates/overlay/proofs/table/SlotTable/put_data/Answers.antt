use Rattle.disk.specs.Media.{a_data}
use Rattle.overlay.proofs.Keeping.{kept}
use Rattle.overlay.proofs.table.SlotTable.put_data.Goals as goal

pub returns : goal.returns
returns c = kept c.args.self.now.slots.items c.open.new.self.slots.items c.deref_mut.result.now c.args.at.page c.in_ok-i.i c.set_data.new.self (a_data c.args.words.now) c.in_ok-i.ensures c.deref_mut.ensures.value c.set_data.ensures
