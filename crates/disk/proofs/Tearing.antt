-- A write that is cut off may have left the pages as they were.
use Rattle.std.proofs.Common.{◌≡◌, ℕ, List, inl}
use Rattle.disk.specs.Media.{Page, Part, a_label, a_data, Torn}

pub torn_old : (ps qs : List Page) (p : ℕ) (x : Part) → qs ≡ ps → Torn ps p x qs
torn_old ps qs p (a_label l) e = inl e
torn_old ps qs p (a_data d) e = inl (inl e)
