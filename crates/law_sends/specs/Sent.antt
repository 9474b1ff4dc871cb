-- Reading what a send wrote gives back our identifier, MN + 1, our Live and Potential peers with their numbers, and the keys' fields.
-- Proved in SentArgument.
use Rattle.std.specs.Prelude.{ℕ, ◌+◌, ◌^◌, ◌<◌, ◌≡◌, false, List, ◌++◌, map, Ok, IfSome, is_some}
use Rattle.base_octets.specs.Run.{part_of}
use Rattle.frame.specs.Basic.{basic_of}
use Rattle.frame.specs.Ours.{fact6, fact7}
use Rattle.frame_places.specs.declared.Places.{Places}
use Rattle.frame_sets.specs.Kinds.{sak_use_at, sak_at}
use Rattle.law_lists.specs.Lists.{those}
use Rattle.table.specs.Table.{entries}
use Rattle.table_lookup.specs.Look.{is_live, is_potential}
use Rattle.table_counts.specs.Counts.{entry_of}
use Rattle.frame_writer.specs.Frame.{ckn_of}
use Rattle.participant.specs.Call.{aged_to}
use Rattle.participant.specs.declared.Participant.{Participant}
use Rattle.call_judge.specs.Judge.{basic_in, walk_in}
use Rattle.call_send.specs.Message.{server_flag, hands_out, key_use_of, sender_of}
use Rattle.call_send.specs.Send.{frame_at}
use Rattle.law_round.specs.Ranged.{listed}
use Rattle.law_sends.specs.Sendable.{Sendable}

-- The octets tell of the participant p as it sends, with the two lowest PNs.
pub record Tells (p : Participant) (latest_pn old_pn : ℕ) (octets : List ℕ) : Type 0 where
  -- facts 2 to 5 don't hold, nor 6 and 7 for one who has the same CKN
  pub read : basic_of octets ≡ Ok (basic_in octets)
  pub ckn : fact6 octets (basic_in octets) (ckn_of (sender_of p)) ≡ false
  pub agility : fact7 (basic_in octets) ≡ false
  pub priority : (basic_in octets).priority ≡ p.priority
  pub server : (basic_in octets).server ≡ server_flag p
  pub desired : (basic_in octets).desired ≡ p.desired
  pub capability : (basic_in octets).capability ≡ p.capability
  pub sci : (basic_in octets).sci ≡ p.sci
  pub mi : (basic_in octets).mi ≡ p.mi
  pub mn : (basic_in octets).mn ≡ p.mn + 1
  -- the walk over the further sets comes to its end
  pub places : Places
  pub walked : walk_in octets ≡ Ok places
  -- the peers with their numbers, in table order
  pub live : listed octets places.live ≡ map entry_of (those is_live (entries p.table))
  pub potential : listed octets places.potential ≡ map entry_of (those is_potential (entries p.table))
  -- "SAK Use if a latest key exists"
  pub used : is_some places.sak_use ≡ p.latest.held
  pub keys : IfSome places.sak_use (λ x. sak_use_at octets x.place ≡ record { latest = key_use_of p.latest latest_pn; old = key_use_of p.old old_pn })
  -- "Distributed SAK of 28 if .."
  pub distributed : is_some places.sak ≡ hands_out p
  pub sak : IfSome places.sak (λ x. sak_at octets x.place x.len
      ≡ record { an = p.latest.key.an; confidentiality = p.latest.key.confidentiality; kn = p.latest.key.kn; suite = 0; place = x.place + 8; len = 24 })
  pub wrapped : IfSome places.sak (λ x. part_of octets (x.place + 8) 24 ≡ p.wrapped)

-- Any send of a participant that fits, whatever follows the frame in the lent octets, tells of it as expiry makes it at the call's time.
abbrev pub SendsReadBack : Type 0
SendsReadBack =
    (p : Participant) (time latest_pn old_pn : ℕ) (rest : List ℕ) → latest_pn < 2 ^ 32 → old_pn < 2 ^ 32 → Sendable (aged_to p time)
    → Tells (aged_to p time) latest_pn old_pn (frame_at p time latest_pn old_pn ++ rest)
