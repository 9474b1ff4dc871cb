-- "each good one is delivered as its kind with its own fields"
use Rattle.std.specs.Prelude.{ℕ, ◌+◌, ◌-◌, List, cond, length, get_or, leb, eqb}
use Rattle.base_octets.specs.Number.{be_at}
use Rattle.base_mi.specs.Mi.{mi_at}
use Rattle.base_packed.specs.Used.{used_of}
use Rattle.base_packed.specs.Sak.{sak_flags_of}
use Rattle.base_packed.specs.declared.used.KeyFlags.{KeyFlags}
use Rattle.frame_sets.specs.declared.kinds.KeyUse.{KeyUse}
use Rattle.frame_sets.specs.declared.kinds.SakUse.{SakUse}
use Rattle.frame_sets.specs.declared.kinds.SakHeader.{SakHeader}
use Rattle.frame_sets.specs.declared.kinds.Kind.{Kind}
use Rattle.frame_sets.specs.declared.kinds.Kind.TheVariants.{Live, Potential, SakUsed, SakUseEmpty, Distributed, DistributedEmpty, Icv, Skipped}

-- "MI 12, KN 4, lowest PN 4", with the key's bits of the second octet
unfoldable pub key_use_at : List ℕ → ℕ → KeyFlags → KeyUse
key_use_at s at f =
    record {
      an = f.an;
      transmit = f.transmit;
      receive = f.receive;
      mi = mi_at s at;
      kn = be_at s (at + 12) 4;
      pn = be_at s (at + 16) 4;
    }

-- "latest MI 12, KN 4, lowest PN 4; the same for old": the SAK Use set whose header stands at `at`
unfoldable pub sak_use_at : List ℕ → ℕ → SakUse
sak_use_at s at =
    record {
      latest = key_use_at s (at + 4) (used_of (get_or s (at + 1) 0)).latest;
      old = key_use_at s (at + 24) (used_of (get_or s (at + 1) 0)).old;
    }

-- "KN 4, [suite 8 if 36 or 52], wrapped key": the Distributed SAK set at `at` with a body of `len` octets
unfoldable pub sak_at : List ℕ → ℕ → ℕ → SakHeader
sak_at s at len =
    record {
      an = (sak_flags_of (get_or s (at + 1) 0)).an;
      confidentiality = (sak_flags_of (get_or s (at + 1) 0)).confidentiality;
      kn = be_at s (at + 4) 4;
      suite = cond (eqb len 28) 0 (be_at s (at + 8) 8);
      place = cond (eqb len 28) (at + 8) (at + 16);
      len = cond (eqb len 28) 24 (len - 12);
    }

-- The same at a place of the frame; all zeros past its end.
unfoldable pub sak_in : List ℕ → ℕ → ℕ → SakHeader
sak_in s at len =
    cond (leb (length s) at) (record { an = 0; confidentiality = 0; kn = 0; suite = 0; place = 0; len = 0 }) (sak_at s at len)

-- The set of type t at `at` with a body of `len` octets.
unfoldable pub kind_at : List ℕ → ℕ → ℕ → ℕ → Kind
kind_at s at t len =
    cond (eqb t 1) Live
    (cond (eqb t 2) Potential
    (cond (eqb t 3) (cond (eqb len 0) SakUseEmpty (SakUsed (sak_use_at s at)))
    (cond (eqb t 4) (cond (eqb len 0) DistributedEmpty (Distributed (sak_at s at len)))
    (cond (eqb t 255) Icv (Skipped t)))))

-- The type's number of each kind.
abbrev pub type_of : Kind → ℕ
type_of Live = 1
type_of Potential = 2
type_of (SakUsed u) = 3
type_of SakUseEmpty = 3
type_of (Distributed k) = 4
type_of DistributedEmpty = 4
type_of Icv = 255
type_of (Skipped t) = t
