-- What words are an image, and what pages an image has.
use Rattle.std.specs.Prelude.{◌≡◌, ℕ, ◌+◌, ◌-◌, ◌*◌, ◌/◌, ◌%◌, Bool, true, false, cond, not, ◌&&◌, List, ◌++◌, map, length, take, drop, replicate, Some, None, Ok, Err, Option, Result, MatchOption, ◌==◌, nat_le, nat_lt, slice_index, slice_set}
use Rattle.std.specs.List.{range_with_len, list_all}
use Rattle.disk.specs.declared.label.Label.{Label}
use Rattle.disk.specs.declared.cylinders.Cylinders.{Cylinders}
use Rattle.disk.specs.declared.refusal.Refusal.{Refusal}
use Rattle.disk.specs.declared.refusal.Reason.TheVariants.{BadParameter}
use Rattle.disk.specs.declared.refusal.Place.TheVariants.{Image}
use Rattle.disk.specs.Labels.{label_from, words_of}
use Rattle.disk.specs.Refusals.{refusal, hardware}
use Rattle.disk.specs.Media.{Page, Medium, Part, a_label, a_data, Write, unreadable}

-- An image of n pages is n, their labels, n, their data, n and their marks.
-- How many pages the words say that there are.
abbrev pub count : List ℕ → ℕ
count ws = slice_index ws 0

-- The length and the three counts agree, and the count is a number of whole cylinders.
abbrev pub agree : List ℕ → Bool
agree ws = length ws == 3 + 265 * count ws && (slice_index ws (1 + 8 * count ws) == count ws && (slice_index ws (2 + 264 * count ws) == count ws && count ws % 24 == 0))

-- A pack has 1 to 406 cylinders.
abbrev pub pack_size : ℕ → Bool
pack_size c = nat_le 1 c && nat_le c 406

abbrev pub is_shaped : List ℕ → Bool
is_shaped ws = agree ws && pack_size (count ws / 24)

-- No mark is above 3.
abbrev pub marks_fine : List ℕ → Bool
marks_fine ms = list_all (λ m. nat_le m 3) ms

unfoldable pub is_image : List ℕ → Bool
is_image ws = is_shaped ws && marks_fine (drop (3 + 264 * count ws) ws)

-- The mark of page p among n: 1 for a label that cannot be read, and 2 more for such data.
abbrev pub mark : List ℕ → ℕ → ℕ → ℕ
mark ws n p = slice_index ws (3 + 264 * n + p)

abbrev pub label_in : List ℕ → ℕ → ℕ → Option Label
label_in ws n p = cond (mark ws n p % 2 == 0) (Some (label_from ws (1 + 8 * p))) None

abbrev pub data_in : List ℕ → ℕ → ℕ → Option (List ℕ)
data_in ws n p = cond (nat_lt (mark ws n p) 2) (Some (take 256 (drop (2 + 8 * n + 256 * p) ws))) None

unfoldable pub page_in : List ℕ → ℕ → ℕ → Page
page_in ws n p = record { label = label_in ws n p; words = data_in ws n p }

unfoldable pub table : List ℕ → List Page
table ws = map (page_in ws (count ws)) (range_with_len 0 (count ws))

-- What is read in words that are taken for an image, and in words that are not: those have one cylinder
-- of pages that cannot be read.
unfoldable pub pages_if : Bool → List ℕ → List Page
pages_if taken ws = cond taken (table ws) (replicate 24 unreadable)

unfoldable pub cylinders_if : Bool → List ℕ → ℕ
cylinders_if taken ws = cond taken (count ws / 24) 1

-- The cylinders that are found there, if any.
abbrev pub Found : Bool → List ℕ → Option Cylinders → Type 0
Found taken ws o = MatchOption o (taken ≡ false) (λ c. (taken ≡ true) × (24 * c.count ≡ count ws))

abbrev pub pages_in : List ℕ → List Page
pages_in ws = pages_if (is_image ws) ws

abbrev pub cylinders_in : List ℕ → ℕ
cylinders_in ws = cylinders_if (is_image ws) ws

-- What a reader or a drive over the words is: whether it has pages in them, and whether it is steady.
abbrev pub medium_if : Bool → Bool → Bool → List ℕ → Medium
medium_if taken steady on ws = record { cylinders = cylinders_if taken ws; pages = pages_if taken ws; on = on; steady = steady }

-- Over an image it is steady.
abbrev pub image_medium : Bool → List ℕ → Medium
image_medium on ws = medium_if (is_image ws) (is_image ws) on ws

-- The words with new ones in the place of those from i on.
abbrev pub replaced : ℕ → List ℕ → List ℕ → List ℕ
replaced i new ws = take i ws ++ (new ++ drop (i + length new) ws)

-- The words after a write of one part of page p: that part is new, and its bit of the mark is clear.
abbrev pub stored : List ℕ → ℕ → Part → List ℕ
stored ws p (a_label l) = replaced (1 + 8 * p) (words_of l) (slice_set ws (3 + 264 * count ws + p) (mark ws (count ws) p - mark ws (count ws) p % 2))
stored ws p (a_data d) = replaced (2 + 8 * count ws + 256 * p) d (slice_set ws (3 + 264 * count ws + p) (mark ws (count ws) p % 2))

-- Whether the words have the shape of an image and that page, and what then stands there.
abbrev pub has_page : List ℕ → ℕ → Bool
has_page ws p = is_shaped ws && nat_lt p (count ws)

abbrev pub mark_at : List ℕ → ℕ → Option ℕ
mark_at ws p = cond (has_page ws p) (Some (mark ws (count ws) p)) None

abbrev pub stored_if : List ℕ → ℕ → Part → List ℕ
stored_if ws p x = cond (has_page ws p) (stored ws p x) ws

-- Whether a write to page p goes through, and whether the drive is on after it: a page that the drive
-- has and that takes no write turns it off.
abbrev pub goes_if : Bool → Bool → Bool → List ℕ → ℕ → Bool
goes_if taken takes on ws p = on && (nat_lt p (24 * cylinders_if taken ws) && takes)

abbrev pub stays_if : Bool → Bool → Bool → List ℕ → ℕ → Bool
stays_if taken takes on ws p = on && not (nat_lt p (24 * cylinders_if taken ws) && not takes)

-- Words that are no image take none.
abbrev pub goes_through : Bool → List ℕ → ℕ → Bool
goes_through on ws p = goes_if (is_image ws) (is_image ws) on ws p

abbrev pub stays_on : Bool → List ℕ → ℕ → Bool
stays_on on ws p = stays_if (is_image ws) (is_image ws) on ws p

-- The one result of a write to a drive over the words ws: its answer, the words after it, and whether
-- the drive is then on.
pub record ExactlyIf (w : Write) (taken takes on : Bool) (ws : List ℕ) (r : Result (Unit {0}) Refusal) (later : Bool) (vs : List ℕ) : Type 0 where
  pub answer : r ≡ cond (goes_if taken takes on ws w.page) (Ok tt) (Err (hardware w.page))
  pub words : vs ≡ cond (goes_if taken takes on ws w.page) (stored ws w.page w.part) ws
  pub still_on : later ≡ stays_if taken takes on ws w.page

abbrev pub Exactly : Write → Bool → List ℕ → Result (Unit {0}) Refusal → Bool → List ℕ → Type 0
Exactly w on ws r later vs = ExactlyIf w (is_image ws) (is_image ws) on ws r later vs

-- What opening the words answers.
abbrev pub Opened : List ℕ → Result Cylinders Refusal → Type 0
Opened ws (Ok c) = (is_image ws ≡ true) × (24 * c.count ≡ count ws)
Opened ws (Err e) = (is_image ws ≡ false) × (e ≡ refusal BadParameter Image 0)
