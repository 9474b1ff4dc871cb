-- Numbers that more than one rule names.
use Rattle.std.specs.Prelude.{ℕ}

-- the algorithm agility, 00-80-C2-01
abbrev pub agility : ℕ
agility = 0x0080c201

-- 4,294,967,295: the last number that MN and KN come to
abbrev pub last_number : ℕ
last_number = 4294967295
