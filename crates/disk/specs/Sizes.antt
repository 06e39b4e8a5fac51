-- How many cylinders a pack can have.
use Rattle.std.specs.Prelude.{◌≡◌, ℕ, ◌≤◌, List, ◌++◌, codes, decimal, Result, Ok, Err}
use Rattle.disk.specs.declared.cylinders.Cylinders.{Cylinders}
use Rattle.disk.specs.declared.size.NoSuchSize.{NoSuchSize}

-- What a number is taken for: so many cylinders, or a size that no pack has.
abbrev pub Sized : ℕ → Result Cylinders NoSuchSize → Type 0
Sized n (Ok c) = c.count ≡ n
Sized n (Err e) = (e.0 ≡ n) × (1 ≤ n → n ≤ 406 → ⊥)

-- What is printed of such a number.
abbrev pub no_such_size : NoSuchSize → List ℕ
no_such_size e = codes "a pack has 1 to 406 cylinders, not " ++ decimal e.0
