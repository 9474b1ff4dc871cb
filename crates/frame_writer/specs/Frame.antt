-- "Sending": the octets of a frame that is sent.
use Rattle.std.specs.Prelude.{ℕ, ◌+◌, ◌-◌, ◌*◌, ◌/◌, ◌%◌, min, List, [], ◌∷◌, ◌++◌, Bool, cond, length, take, replicate, ltb, eqb, Option, Some, None, Result}
use Rattle.base_facts.specs.Facts.{first_of, padded_of}
use Rattle.base_facts.specs.Refusal.{told}
use Rattle.base_facts.specs.declared.Refusal.{Refusal}
use Rattle.base_facts.specs.Numbers.{agility}
use Rattle.base_octets.specs.Number.{be_of}
use Rattle.base_octets.specs.Run.{runs_of}
use Rattle.base_mi.specs.Mi.{mi_octets}
use Rattle.base_mi.specs.Entry.{entry_octets, entries_of}
use Rattle.base_mi.specs.declared.entry.Entry.{Entry}
use Rattle.base_packed.specs.Basic.{octet_of}
use Rattle.base_packed.specs.Used.{used_octet}
use Rattle.base_packed.specs.Sak.{sak_octet}
use Rattle.base_packed.specs.declared.basic.Flags.{Flags}
use Rattle.base_packed.specs.declared.used.KeyFlags.{KeyFlags}
use Rattle.frame_sets.specs.declared.kinds.KeyUse.{KeyUse}
use Rattle.frame_sets.specs.declared.kinds.SakUse.{SakUse}
use Rattle.frame_writer.specs.declared.Sender.{Sender}
use Rattle.frame_writer.specs.declared.Sak.{Sak}
use Rattle.frame_writer.specs.declared.Mkpdu.{Mkpdu}

-- "Header: version, type, 2-octet body length"; "EAPOL version 3"
unfoldable pub header_octets : ℕ → List ℕ
header_octets body = 3 ∷ 5 ∷ be_of 2 body

-- "CAK name (CKN) of 1 to 32 octets"
abbrev pub ckn_of : Sender → List ℕ
ckn_of x = take (min x.size 32) x.ckn

abbrev pub sender_flags : Sender → Flags
sender_flags x = record { server = x.server; desired = x.desired; capability = x.capability; high = 0 }

-- The Basic set before its CKN of n octets: "MKA version 1 (here)", priority, the packed octet, the length's low octet, SCI, MI, MN, agility.
unfoldable pub fixed_octets : Sender → ℕ → List ℕ
fixed_octets x n =
    1 ∷ x.priority ∷ octet_of (sender_flags x) ∷ (28 + n)
    ∷ (be_of 8 x.sci ++ (mi_octets x.mi ++ (be_of 4 x.mn ++ be_of 4 agility)))

-- "every set is padded to a multiple of 4. Padding and reserved bits are [..] zero on writing."
unfoldable pub ckn_octets : List ℕ → List ℕ
ckn_octets ckn = ckn ++ replicate (padded_of (length ckn) - length ckn) 0

unfoldable pub basic_octets : Sender → List ℕ
basic_octets x = fixed_octets x (length (ckn_of x)) ++ ckn_octets (ckn_of x)

-- "type; an octet of the type's own; one whose low four bits are the length's high bits; its low eight bits"
abbrev pub set_header : ℕ → ℕ → ℕ → List ℕ
set_header t own len = t ∷ own ∷ len / 256 ∷ len % 256 ∷ []

-- "MI 12, MN 4, repeated"
unfoldable pub list_octets : List Entry → List ℕ
list_octets es = runs_of entry_octets es

-- "Live, Potential (each only if not empty, in table order)"
unfoldable pub list_set : ℕ → List Entry → List ℕ
list_set t es = cond (eqb (length es) 0) [] (set_header t 0 (length es * 16) ++ list_octets es)

abbrev pub use_flags : KeyUse → KeyFlags
use_flags k = record { an = k.an; transmit = k.transmit; receive = k.receive }

-- "MI 12, KN 4, lowest PN 4"
unfoldable pub use_octets : KeyUse → List ℕ
use_octets k = mi_octets k.mi ++ (be_of 4 k.kn ++ be_of 4 k.pn)

-- "SAK Use"
unfoldable pub use_set : SakUse → List ℕ
use_set u = set_header 3 (used_octet (record { latest = use_flags u.latest; old = use_flags u.old })) 40 ++ (use_octets u.latest ++ use_octets u.old)

abbrev pub use_part : Option SakUse → List ℕ
use_part None = []
use_part (Some u) = use_set u

-- "Distributed SAK of 28"
unfoldable pub sak_set : Sak → List ℕ
sak_set k = set_header 4 (sak_octet (record { an = k.an; confidentiality = k.confidentiality })) 28 ++ (be_of 4 k.kn ++ k.wrapped)

abbrev pub sak_part : Option Sak → List ℕ
sak_part None = []
sak_part (Some k) = sak_set k

-- "Sets in order: Basic; Live, Potential (..); SAK Use ..; Distributed SAK of 28 ..; 16 zero octets for the ICV."
unfoldable pub body_octets : Mkpdu → List ℕ
body_octets m =
    basic_octets m.sender
    ++ (list_set 1 (entries_of m.live)
    ++ (list_set 2 (entries_of m.potential)
    ++ (use_part m.usage
    ++ (sak_part m.sak
    ++ replicate 16 0))))

-- A list of n entries: a header of 4 octets and "MI 12, MN 4, repeated", "only if not empty".
unfoldable pub list_size : ℕ → ℕ
list_size n = cond (eqb n 0) 0 (4 + n * 16)

-- How many octets a frame has whose arrays have their lengths (`frame-sized`): header and Basic set with the padded CKN, the lists, "SAK Use", "Distributed SAK of 28", "16 zero octets for the ICV".
unfoldable pub frame_size : ℕ → ℕ → ℕ → Bool → Bool → ℕ
frame_size size live potential used distributed =
    36 + padded_of (min size 32) + list_size (min live 16) + list_size (min potential 16) + cond used 44 0 + cond distributed 32 0 + 16

unfoldable pub frame_of : Mkpdu → List ℕ
frame_of m = header_octets (length (body_octets m)) ++ body_octets m

-- 13: "lent output too short for the whole output"; otherwise the length of what was written.
abbrev pub wrote_of : ℕ → ℕ → Result ℕ Refusal
wrote_of n room = told (first_of ((13, ltb room n) ∷ [])) n
