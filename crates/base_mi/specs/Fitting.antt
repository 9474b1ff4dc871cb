-- A member identifier of 12 octets: its parts fit.
use Rattle.std.specs.Prelude.{◌^◌, ◌<◌}
use Rattle.base_mi.specs.declared.Mi.{Mi}

pub record Fitting (m : Mi) : Type 0 where
  pub hi : m.hi < 2 ^ 64
  pub lo : m.lo < 2 ^ 32
