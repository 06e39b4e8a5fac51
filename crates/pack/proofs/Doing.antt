-- What a call does by its plan, where the answer of its writes was handed on.
use Rattle.std.proofs.Common.{◌≡◌, List, Ok, Err, Result}
use Rattle.std.specs.Result.{IsErrAnd}
use Rattle.disk.specs.declared.refusal.Refusal.{Refusal}
use Rattle.disk.specs.Media.{Medium, Write}
use Rattle.ledger.specs.declared.kept.PackRecord.{PackRecord}
use Rattle.ledger.specs.Runs.{Ran}
use Rattle.ledger.specs.Plans.{writes, Done}
use Rattle.pack.specs.Claims.{placed_record}

-- All went through.
pub done_well : {A B : Type 0} (ws : List Write) (a : A) (after k l : PackRecord) (m t : Medium) (w : Result B Refusal) (r : A) (b : B) → r ≡ a → Ok b ≡ w → Ran ws m w t → l ≡ after → Done (writes ws a after) m k (Ok r) t l
done_well ws a after k l m t w r b d e x h = (d, (rw (← e) at x, h))

-- One was refused.
pub done_refused : {A B : Type 0} (ws : List Write) (a : A) (after k l : PackRecord) (m t : Medium) (w : Result B Refusal) (r : Result A Refusal) (e : Refusal) → IsErrAnd r (λ y. y ≡ e) → Err e ≡ w → Ran ws m w t → l ≡ placed_record k w → Done (writes ws a after) m k r t l
done_refused ws a after k l m t w (Ok b) e h i x j = absurd h
done_refused ws a after k l m t w (Err y) e h i x j = (rw h (rw (← i) at x), rw (← i) at j)
