-- Refusals: their numbers, and what is printed of them.
use Rattle.std.specs.Prelude.{ℕ, List, [], ◌++◌, Some, None, codes, decimal, Option}
use Rattle.disk.specs.declared.address.PageAddress.{PageAddress}
use Rattle.disk.specs.declared.refusal.Reason.{Reason}
use Rattle.disk.specs.declared.refusal.Reason.TheVariants.{TooSmall, TooBig, BadParameter, Hardware, BadState, BadName, NoSuchEntry, BadFile, PageNotFull, PageNumberTooSmall, BadDiskAddress, Exists, TooMany, NoFreePage, Rivals, LabelNotFree}
use Rattle.disk.specs.declared.refusal.Place.{Place}
use Rattle.disk.specs.declared.refusal.Place.TheVariants.{Image, Pack, Directory, File, Drive}
use Rattle.disk.specs.declared.refusal.Refusal.{Refusal}

-- The number of each reason.
abbrev pub number : Reason → ℕ
number TooSmall = 4
number TooBig = 5
number BadParameter = 6
number Hardware = 11
number BadState = 12
number BadName = 13
number NoSuchEntry = 14
number BadFile = 15
number PageNotFull = 17
number PageNumberTooSmall = 18
number BadDiskAddress = 19
number Exists = 20
number TooMany = 21
number NoFreePage = 30
number Rivals = 31
number LabelNotFree = 33

-- What is meant by a bad parameter, by the place.
abbrev pub bad_parameter : Place → List ℕ
bad_parameter Image = codes "this is not the image of a pack"
bad_parameter Pack = codes "this cannot be used"
bad_parameter Directory = codes "the directory's own entry stays"
bad_parameter File = codes "the directory's own file is not changed so"
bad_parameter Drive = codes "this cannot be used"

-- What each reason means, in words.
abbrev pub meaning : Place → Reason → List ℕ
meaning place TooSmall = codes "the memory handed over is too small"
meaning place TooBig = codes "a page, a count or the directory would be too big"
meaning place BadParameter = bad_parameter place
meaning place Hardware = codes "the drive refused a write"
meaning place BadState = codes "the pack is not ready"
meaning place BadName = codes "the name is not a good one"
meaning place NoSuchEntry = codes "the directory has no such entry"
meaning place BadFile = codes "no such file stands there, or it cannot be read"
meaning place PageNotFull = codes "a page is not full"
meaning place PageNumberTooSmall = codes "the page number is too small"
meaning place BadDiskAddress = codes "the disk address is not one of the pack"
meaning place Exists = codes "the name is in the directory already"
meaning place TooMany = codes "there are no more serial numbers"
meaning place NoFreePage = codes "no page is free"
meaning place Rivals = codes "two leaders claim one file"
meaning place LabelNotFree = codes "a page that should be free has another label"

abbrev pub place_name : Place → List ℕ
place_name Image = codes "image"
place_name Pack = codes "pack"
place_name Directory = codes "directory"
place_name File = codes "file"
place_name Drive = codes "drive"

-- A refusal that names one page, and one that names two.
abbrev pub refusal : Reason → Place → ℕ → Refusal
refusal why place p = record { reason = why; place = place; page = record { page = p }; other = None }

abbrev pub refusal_of_two : Reason → Place → ℕ → ℕ → Refusal
refusal_of_two why place p q = record { reason = why; place = place; page = record { page = p }; other = Some (record { page = q }) }

-- A write to page p that the drive refused.
abbrev pub hardware : ℕ → Refusal
hardware p = refusal Hardware Drive p

-- What is printed of a second page.
abbrev pub second : Option PageAddress → List ℕ
second None = []
second (Some q) = codes " " ++ decimal q.page

-- What is printed of a refusal: refused NUMBER PLACE PAGE, or with both pages, and what it means.
abbrev pub told : Refusal → List ℕ
told e = codes "refused " ++ (decimal (number e.reason) ++ (codes " " ++ (place_name e.place ++ (codes " " ++ (decimal e.page.page ++ (second e.other ++ (codes ": " ++ meaning e.place e.reason)))))))
