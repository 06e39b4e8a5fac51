-- The entries of a directory, read off its words.
use Rattle.std.specs.Prelude.{ℕ, zero, suc, ◌+◌, ◌-◌, ◌/◌, ◌%◌, Bool, true, cond, ◌&&◌, List, [], ◌∷◌, map, length, drop, Some, None, Option, ◌==◌, nat_le, slice_index}
use Rattle.std.specs.List.{range_with_len}
use Rattle.ledger.specs.declared.handle.Handle.{Handle}

-- A file entry's name, as bytes, and the handle of its file.
pub record Named : Type 0 where
  pub name : List ℕ
  pub handle : Handle

-- An entry: its type (0 a hole, 1 a file, 2 a link), its size in words, and what a file entry names.
pub record Entry : Type 0 where
  pub kind : ℕ
  pub size : ℕ
  pub file : Option Named

-- The first word of an entry is its type, six bits, and its size, ten bits.
abbrev pub kind_of : ℕ → ℕ
kind_of w = w / 1024

abbrev pub size_of : ℕ → ℕ
size_of w = w % 1024

-- Byte i of words, the high byte of a word first.
abbrev pub byte_of : List ℕ → ℕ → ℕ
byte_of ws i = cond (i % 2 == 0) (slice_index ws (i / 2) / 256) (slice_index ws (i / 2) % 256)

-- A name stands behind six words: a length byte and its bytes.
abbrev pub name_length : List ℕ → ℕ
name_length ws = byte_of (drop 6 ws) 0

abbrev pub name_in : List ℕ → List ℕ
name_in ws = map (byte_of (drop 6 ws)) (range_with_len 1 (name_length ws))

-- The words of a file entry whose name has n bytes.
abbrev pub entry_size : ℕ → ℕ
entry_size n = 6 + n / 2 + 1

-- Behind the first word of a file entry: serial 1, serial 2, version, a 0, the leader's page address.
abbrev pub handle_in : List ℕ → Handle
handle_in ws = record { id = record { version = slice_index ws 3; serial1 = slice_index ws 1; serial2 = slice_index ws 2 }; leader = record { page = slice_index ws 5 } }

abbrev pub named_in : List ℕ → Option Named
named_in ws = cond (kind_of (slice_index ws 0) == 1) (Some (record { name = name_in ws; handle = handle_in ws })) None

abbrev pub entry_in : List ℕ → Entry
entry_in ws = record { kind = kind_of (slice_index ws 0); size = size_of (slice_index ws 0); file = named_in ws }

-- A file entry has a name, and room for it.
abbrev pub has_name : List ℕ → Bool
has_name ws = nat_le 1 (name_length ws) && nat_le (entry_size (name_length ws)) (size_of (slice_index ws 0))

-- The entry with which the words begin is in order: not of size 0, not past the end of the words, of a
-- type from 0 to 2, and a file entry with its name.
abbrev pub is_entry : List ℕ → Bool
is_entry ws = nat_le 1 (size_of (slice_index ws 0)) && (nat_le (size_of (slice_index ws 0)) (length ws) && (nat_le (kind_of (slice_index ws 0)) 2 && cond (kind_of (slice_index ws 0) == 1) (has_name ws) true))

abbrev pub in_front : Entry → Option (List Entry) → Option (List Entry)
in_front e None = None
in_front e (Some es) = Some (e ∷ es)

-- The entries in the words behind the first n, which belong to an entry before; none at all where one of
-- them is not in order.
abbrev pub entries_behind : ℕ → List ℕ → Option (List Entry)
entries_behind zero [] = Some []
entries_behind (suc n) [] = None
entries_behind (suc n) (w ∷ ws) = entries_behind n ws
entries_behind zero (w ∷ ws) = cond (is_entry (w ∷ ws)) (in_front (entry_in (w ∷ ws)) (entries_behind (size_of w - 1) ws)) None

abbrev pub entries_in : List ℕ → Option (List Entry)
entries_in ws = entries_behind 0 ws
