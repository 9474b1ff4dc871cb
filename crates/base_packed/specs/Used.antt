-- "Type 3, second octet, from the top: latest AN (2 bits), latest transmit, latest receive, old AN (2 bits), old transmit, old receive."
use Rattle.std.specs.Prelude.{ℕ, ◌+◌, ◌*◌, ◌/◌, ◌%◌, eqb}
use Rattle.base_packed.specs.Bit.{bit}
use Rattle.base_packed.specs.declared.used.KeyFlags.{KeyFlags}
use Rattle.base_packed.specs.declared.used.Used.{Used}

-- four bits, for one key: AN (2 bits), transmit, receive
abbrev pub key_flags_of : ℕ → KeyFlags
key_flags_of n = record { an = n / 4 % 4; transmit = eqb (n / 2 % 2) 1; receive = eqb (n % 2) 1 }

abbrev pub key_nibble : KeyFlags → ℕ
key_nibble f = f.an % 4 * 4 + bit f.transmit * 2 + bit f.receive

abbrev pub used_of : ℕ → Used
used_of b = record { latest = key_flags_of (b / 16); old = key_flags_of (b % 16) }

abbrev pub used_octet : Used → ℕ
used_octet u = key_nibble u.latest * 16 + key_nibble u.old
