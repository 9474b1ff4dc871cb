-- "Type 4, second octet: AN (2 bits), confidentiality (2 bits: none, offset 0, 30, 50)", from the top.
use Rattle.std.specs.Prelude.{ℕ, ◌+◌, ◌*◌, ◌/◌, ◌%◌}
use Rattle.base_packed.specs.declared.sak.SakFlags.{SakFlags}

abbrev pub sak_flags_of : ℕ → SakFlags
sak_flags_of b = record { an = b / 64; confidentiality = b / 16 % 4 }

abbrev pub sak_octet : SakFlags → ℕ
sak_octet f = f.an % 4 * 64 + f.confidentiality % 4 * 16
