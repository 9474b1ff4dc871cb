-- A frame's value in range, and what reading it should give.
use Rattle.std.specs.Prelude.{ℕ, ◌+◌, ◌*◌, ◌^◌, ◌≤◌, ◌<◌, ◌≡◌, List, [], ◌∷◌, Bool, true, false, not, length, eqb, Option, Some, None, IfSome, is_some}
use Rattle.base_facts.specs.Facts.{padded_of}
use Rattle.base_mi.specs.Entry.{entries_of}
use Rattle.base_mi.specs.declared.entry.Entry.{Entry}
use Rattle.base_mi.specs.Fitting.{Fitting}
use Rattle.base_facts.specs.Numbers.{agility}
use Rattle.frame.specs.Basic.{icv_place}
use Rattle.frame.specs.declared.Basic.{Basic}
use Rattle.frame_places.specs.Once.{spot_at}
use Rattle.frame_places.specs.declared.Spot.{Spot}
use Rattle.frame_places.specs.declared.Places.{Places}
use Rattle.frame_sets.specs.declared.kinds.KeyUse.{KeyUse}
use Rattle.frame_sets.specs.declared.kinds.SakUse.{SakUse}
use Rattle.frame_sets.specs.declared.kinds.SakHeader.{SakHeader}
use Rattle.frame_walk.specs.List.{list_at}
use Rattle.frame_writer.specs.Frame.{list_set, use_part}
use Rattle.frame_writer.specs.declared.Sender.{Sender}
use Rattle.frame_writer.specs.declared.Sak.{Sak}
use Rattle.frame_writer.specs.declared.Mkpdu.{Mkpdu}

pub record GoodSender (x : Sender) : Type 0 where
  pub capability : x.capability < 4
  pub sci : x.sci < 2 ^ 64
  pub mi : Fitting x.mi
  pub mn : x.mn < 2 ^ 32
  pub some : 1 ≤ x.size
  pub most : x.size ≤ 32
  pub ckn : length x.ckn ≡ 32

-- each entry's fields fit
abbrev pub GoodEntries : List Entry → Type 0
GoodEntries [] = Unit {0}
GoodEntries (e ∷ es) = Fitting e.mi × (e.mn < 2 ^ 32) × GoodEntries es

pub record GoodKey (k : KeyUse) : Type 0 where
  pub an : k.an < 4
  pub mi : Fitting k.mi
  pub kn : k.kn < 2 ^ 32
  pub pn : k.pn < 2 ^ 32

pub record GoodUse (u : SakUse) : Type 0 where
  pub latest : GoodKey u.latest
  pub old : GoodKey u.old

pub record GoodSak (k : Sak) : Type 0 where
  pub an : k.an < 4
  pub confidentiality : k.confidentiality < 4
  pub kn : k.kn < 2 ^ 32
  pub wrapped : length k.wrapped ≡ 24

-- What the types and the creating ranges say of a frame's value.
pub record Ranged (m : Mkpdu) : Type 0 where
  pub sender : GoodSender m.sender
  pub live : GoodEntries (entries_of m.live)
  pub potential : GoodEntries (entries_of m.potential)
  pub usage : IfSome m.usage GoodUse
  pub sak : IfSome m.sak GoodSak
  -- "The key number (KN) is not zero"
  pub numbered : IfSome m.sak (λ k. 0 < k.kn)

-- the Basic set of a frame with a body of b octets
abbrev pub basic_written : Sender → ℕ → Basic
basic_written x b =
    record {
      version = 1;
      priority = x.priority;
      server = x.server;
      desired = x.desired;
      capability = x.capability;
      sci = x.sci;
      mi = x.mi;
      mn = x.mn;
      agility = agility;
      size = x.size;
      next = 36 + padded_of x.size;
      stop = icv_place b;
    }

-- where each set begins, if the frame has it
abbrev pub live_place : Mkpdu → ℕ
live_place m = 36 + padded_of m.sender.size

abbrev pub potential_place : Mkpdu → ℕ
potential_place m = live_place m + length (list_set 1 (entries_of m.live))

abbrev pub use_place : Mkpdu → ℕ
use_place m = potential_place m + length (list_set 2 (entries_of m.potential))

abbrev pub sak_place : Mkpdu → ℕ
sak_place m = use_place m + length (use_part m.usage)

abbrev pub spot_if : Bool → ℕ → ℕ → Option Spot
spot_if true place len = spot_at place len
spot_if false place len = None

abbrev pub list_spot : List Entry → ℕ → Option Spot
list_spot es place = spot_if (not (eqb (length es) 0)) place (length es * 16)

-- where each known set stands
abbrev pub places_written : Mkpdu → Places
places_written m =
    record {
      live = list_spot (entries_of m.live) (live_place m);
      potential = list_spot (entries_of m.potential) (potential_place m);
      sak_use = spot_if (is_some m.usage) (use_place m) 40;
      sak = spot_if (is_some m.sak) (sak_place m) 28;
    }

-- the Distributed SAK, its wrapped key's place and length
abbrev pub sak_written : Sak → ℕ → SakHeader
sak_written k at = record { an = k.an; confidentiality = k.confidentiality; kn = k.kn; suite = 0; place = at + 8; len = 24 }

-- the entries of the list that stands there, none where no list stands
abbrev pub listed : List ℕ → Option Spot → List Entry
listed s None = []
listed s (Some x) = list_at s x.place x.len
