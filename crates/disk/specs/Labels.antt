-- Labels and file ids.
use Rattle.std.specs.Prelude.{◌≡◌, ℕ, ◌+◌, ◌-◌, ◌*◌, ◌/◌, ◌%◌, ◌^◌, ◌<◌, Bool, false, not, ◌&&◌, List, [], ◌∷◌, length, ◌==◌, nat_le, slice_index}
use Rattle.disk.specs.declared.label.FileId.{FileId}
use Rattle.disk.specs.declared.label.Label.{Label}

-- Bit i of a word; the leftmost is bit 0.
abbrev pub bit : ℕ → ℕ → ℕ
bit w i = w / 2 ^ (15 - i) % 2

abbrev pub directory_mark : FileId → Bool
directory_mark f = bit f.serial1 0 == 1

abbrev pub random_mark : FileId → Bool
random_mark f = bit f.serial1 1 == 1

-- How many serial numbers there are: 30 bits.
abbrev pub most_serials : ℕ
most_serials = 1073741824

-- The serial number: the 14 low bits of the first serial word, then the second.
abbrev pub serial_number : FileId → ℕ
serial_number f = f.serial1 % 16384 * 65536 + f.serial2

-- The id of version v and serial number n, both marks 0.
abbrev pub numbered : ℕ → ℕ → FileId
numbered v n = record { version = v; serial1 = n / 65536; serial2 = n % 65536 }

-- The id without its marks.
abbrev pub unmarked : FileId → FileId
unmarked f = record { version = f.version; serial1 = f.serial1 % 16384; serial2 = f.serial2 }

-- Serial words made from a number give it back, and the number of an id gives its words back.
pub record Numbering : Type 0 where
  pub number_back : (v n : ℕ) → n < most_serials → serial_number (numbered v n) ≡ n
  pub no_directory : (v n : ℕ) → n < most_serials → directory_mark (numbered v n) ≡ false
  pub no_random : (v n : ℕ) → n < most_serials → random_mark (numbered v n) ≡ false
  pub words_back : (f : FileId) → f.serial2 < 65536 → numbered f.version (serial_number f) ≡ unmarked f

-- The file id of a label: its last three words.
abbrev pub id_of : Label → FileId
id_of l = record { version = l.version; serial1 = l.serial1; serial2 = l.serial2 }

-- The eight words of a label, in their order.
abbrev pub words_of : Label → List ℕ
words_of l = l.next.word ∷ l.previous.word ∷ l.blank ∷ l.characters ∷ l.number ∷ l.version ∷ l.serial1 ∷ l.serial2 ∷ []

-- The label whose words begin at word i.
abbrev pub label_from : List ℕ → ℕ → Label
label_from ws i = record {
  next = record { word = slice_index ws i };
  previous = record { word = slice_index ws (i + 1) };
  blank = slice_index ws (i + 2);
  characters = slice_index ws (i + 3);
  number = slice_index ws (i + 4);
  version = slice_index ws (i + 5);
  serial1 = slice_index ws (i + 6);
  serial2 = slice_index ws (i + 7);
}

abbrev pub label_of : List ℕ → Label
label_of ws = label_from ws 0

-- A label and its eight words give each other back.
pub record LabelWords : Type 0 where
  pub label_back : (l : Label) → label_of (words_of l) ≡ l
  pub words_back : (ws : List ℕ) → length ws ≡ 8 → words_of (label_of ws) ≡ ws

-- The label of a page that is free: five words of 0 and three of 65535.
abbrev pub free_label : Label
free_label = label_of (0 ∷ 0 ∷ 0 ∷ 0 ∷ 0 ∷ 65535 ∷ 65535 ∷ 65535 ∷ [])

abbrev pub is_free : Label → Bool
is_free l = l.next.word == 0 && (l.previous.word == 0 && (l.blank == 0 && (l.characters == 0 && (l.number == 0 && (l.version == 65535 && (l.serial1 == 65535 && l.serial2 == 65535))))))

-- A label that may belong to a file.
abbrev pub is_file : Label → Bool
is_file l = not (is_free l) && (not (random_mark (id_of l)) && nat_le l.characters 512)
