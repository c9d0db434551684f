-- The place, counted from the oldest, of the item that a take takes, by how many wait and the pick.
use Rattle.std.specs.Prelude.{ℕ, ◌-◌, ◌%◌, ◌<◌}
use Rattle.std.proofs.Common.{mod-lt, arith}

-- the stack's: the newest
abbrev pub newest : ℕ → ℕ → ℕ
newest waiting pick = waiting - 1

-- the picked channel's: the pick modulo the number waiting
abbrev pub chosen : ℕ → ℕ → ℕ
chosen waiting pick = pick % waiting

pub newest_there : (waiting pick : ℕ) → 0 < waiting → newest waiting pick < waiting
newest_there waiting pick h = omega arith

pub chosen_there : (waiting pick : ℕ) → 0 < waiting → chosen waiting pick < waiting
chosen_there waiting pick h = mod-lt pick h
