-- What a call that writes does: fixed by its arguments and by what stands before it.
use Rattle.std.specs.Prelude.{◌≡◌, true, false, List, [], Ok, Err, Result}
use Rattle.disk.specs.declared.refusal.Refusal.{Refusal}
use Rattle.disk.specs.Media.{Medium, Write}
use Rattle.bits.specs.Bits.{none_free}
use Rattle.ledger.specs.declared.kept.PackRecord.{PackRecord}
use Rattle.ledger.specs.Runs.{Through, Stopped, whole, Inside}

-- The record of a pack that was only just put into its drive.
abbrev pub first_record : PackRecord
first_record = record { ready = false; highest = 0; bits = record { words = none_free } }

-- The record of a pack that is not ready: the highest serial stays, and it offers no page.
abbrev pub unready : PackRecord → PackRecord
unready k = record { ready = false; highest = k.highest; bits = record { words = none_free } }

-- A call's plan: a refusal and the record that it leaves, or the writes in order, the answer and the
-- record after them.
pub data Plan (A : Type 0) : Type 0 where
  refuses : Refusal → PackRecord → Plan A
  writes : List Write → A → PackRecord → Plan A

-- What a call with that plan does to the drive and to the record k, by its answer. A refusal leaves the
-- drive as it was. Where a planned write is refused, the answer is its hardware refusal, and the record
-- is not ready.
abbrev pub Done : {A : Type 0} → Plan A → Medium → PackRecord → Result A Refusal → Medium → PackRecord → Type 0
Done (refuses e after) m k r t l = (r ≡ Err e) × ((t ≡ m) × (l ≡ after))
Done (writes ws a after) m k (Ok b) t l = (b ≡ a) × (Through ws m t × (l ≡ after))
Done (writes ws a after) m k (Err e) t l = Stopped ws m e t × (l ≡ unready k)

-- On a steady drive that is on and has the pages of all its writes, a plan is a value.
abbrev pub answer_of : {A : Type 0} → Plan A → Result A Refusal
answer_of (refuses e after) = Err e
answer_of (writes ws a after) = Ok a

abbrev pub writes_of : {A : Type 0} → Plan A → List Write
writes_of (refuses e after) = []
writes_of (writes ws a after) = ws

abbrev pub record_of : {A : Type 0} → Plan A → PackRecord
record_of (refuses e after) = after
record_of (writes ws a after) = after

pub record IsPlanned {A : Type 0} (p : Plan A) (m : Medium) (r : Result A Refusal) (t : Medium) (l : PackRecord) : Type 0 where
  pub answer : r ≡ answer_of p
  pub medium : t ≡ whole (writes_of p) m
  pub kept : l ≡ record_of p

abbrev pub Planned : {A : Type 0} → Plan A → Medium → Result A Refusal → Medium → PackRecord → Type 0
Planned p m r t l = m.steady ≡ true → m.on ≡ true → Inside (writes_of p) m → IsPlanned p m r t l
