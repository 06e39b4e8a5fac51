-- What a drive over words is that keeps only whether they were an image, and the one result of each
-- write to it.
use Rattle.std.specs.Prelude.{ℕ, ◌*◌, Bool, ◌&&◌, List, Result, nat_le, nat_lt}
use Rattle.disk.specs.declared.refusal.Refusal.{Refusal}
use Rattle.disk.specs.Media.{Medium, Write}
use Rattle.image.specs.Images.{count, mark, is_shaped, is_image, cylinders_if, medium_if, goes_if, stays_if, ExactlyIf}

-- A drive keeps whether its words were an image when it was made. It has their pages while they also
-- have the shape of one, and is steady while they are one.
unfoldable pub has_pages : Bool → List ℕ → Bool
has_pages opened ws = opened && is_shaped ws

abbrev pub drive_medium : Bool → Bool → List ℕ → Medium
drive_medium opened on ws = medium_if (has_pages opened ws) (opened && is_image ws) on ws

-- Whether the drive has page p, and whether it takes a write there: it has pages, and the page's mark
-- is one that an image has.
abbrev pub is_inside : Bool → List ℕ → ℕ → Bool
is_inside opened ws p = nat_lt p (24 * cylinders_if (has_pages opened ws) ws)

unfoldable pub takes : Bool → List ℕ → ℕ → Bool
takes opened ws p = has_pages opened ws && nat_le (mark ws (count ws) p) 3

-- Whether a write to page p goes through, and whether the drive is on after it: a page that takes no
-- write turns it off.
abbrev pub goes_through : Bool → Bool → List ℕ → ℕ → Bool
goes_through opened on ws p = goes_if (has_pages opened ws) (takes opened ws p) on ws p

abbrev pub stays_on : Bool → Bool → List ℕ → ℕ → Bool
stays_on opened on ws p = stays_if (has_pages opened ws) (takes opened ws p) on ws p

-- The one result of a write to a drive over the words ws.
abbrev pub Exactly : Write → Bool → Bool → List ℕ → Result (Unit {0}) Refusal → Bool → List ℕ → Type 0
Exactly w opened on ws r later vs = ExactlyIf w (has_pages opened ws) (takes opened ws w.page) on ws r later vs
