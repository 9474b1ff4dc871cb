-- "an octet with Key Server flag (top bit), MACsec desired, two bits of capability and the high four bits of the set's length"
use Rattle.std.specs.Prelude.{ℕ, ◌+◌, ◌*◌, ◌/◌, ◌%◌, eqb}
use Rattle.base_packed.specs.Bit.{bit}
use Rattle.base_packed.specs.declared.basic.Flags.{Flags}

abbrev pub flags_of : ℕ → Flags
flags_of b = record { server = eqb (b / 128) 1; desired = eqb (b / 64 % 2) 1; capability = b / 16 % 4; high = b % 16 }

abbrev pub octet_of : Flags → ℕ
octet_of f = bit f.server * 128 + bit f.desired * 64 + f.capability % 4 * 16 + f.high % 16
