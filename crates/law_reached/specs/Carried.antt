-- What a creation and a call can carry: each number has its width and each octet 8 bits.
use Rattle.std.specs.Prelude.{◌^◌, ◌<◌, List, [], ◌∷◌}
use Rattle.base_octets.specs.Octets.{Octets}
use Rattle.base_mi.specs.Fitting.{Fitting}
use Rattle.law_history.specs.Calls.{Creation, Call, receives, sends, distributes, ticks, renews, reports, asks, saves}

-- "Creating takes a time, MI, SCI, priority, capability, desired flag and CKN"
pub record Given (k : Creation) : Type 0 where
  pub time : k.time < 2 ^ 64
  pub mi : Fitting k.mi
  pub sci : k.sci < 2 ^ 64
  pub priority : k.priority < 2 ^ 8
  pub capability : k.capability < 2 ^ 8
  pub ckn : Octets k.ckn

-- "Times are 64-bit milliseconds"; KN and PN have 4 octets
abbrev pub Carried : Call → Type 0
Carried (receives time verdict frame) = (time < 2 ^ 64) × Octets frame
Carried (sends time latest_pn old_pn out) = (time < 2 ^ 64) × (latest_pn < 2 ^ 32) × (old_pn < 2 ^ 32) × Octets out
Carried (distributes time wrapped) = (time < 2 ^ 64) × Octets wrapped
Carried (ticks time) = time < 2 ^ 64
Carried (renews time m) = (time < 2 ^ 64) × Fitting m
Carried (reports m kn transmit) = Fitting m × (kn < 2 ^ 32)
Carried asks = Unit {0}
Carried (saves out) = Octets out

abbrev pub AllCarried : List Call → Type 0
AllCarried [] = Unit {0}
AllCarried (c ∷ cs) = Carried c × AllCarried cs
