-- "Sending": what a frame says.
use Rattle.std.specs.Prelude.{ℕ, ◌+◌, Bool, false, cond, not, ◌&&◌, Option, Some, None}
use Rattle.table_counts.specs.Counts.{live_list, potential_list}
use Rattle.table_election.specs.Stand.{is_theirs}
use Rattle.frame_sets.specs.declared.kinds.KeyUse.{KeyUse}
use Rattle.frame_sets.specs.declared.kinds.SakUse.{SakUse}
use Rattle.table.specs.declared.Table.{Table}
use Rattle.frame_writer.specs.declared.Sender.{Sender}
use Rattle.frame_writer.specs.declared.Sak.{Sak}
use Rattle.frame_writer.specs.declared.Mkpdu.{Mkpdu}
use Rattle.call_standing.specs.Standing.{server_of, elected_self}
use Rattle.participant.specs.Keys.{of_member}
use Rattle.participant.specs.declared.Slot.{Slot}
use Rattle.participant.specs.declared.Participant.{Participant}

-- "with the two lowest PNs lent by the host, zeros for an absent old key"
unfoldable pub key_use_of : Slot → ℕ → KeyUse
key_use_of s pn =
    cond s.held
    (record { an = s.key.an; transmit = s.key.transmit; receive = s.key.receive; mi = s.key.mi; kn = s.key.kn; pn = pn })
    (record { an = 0; transmit = false; receive = false; mi = record { hi = 0; lo = 0 }; kn = 0; pn = 0 })

-- "Key Server flag set unless a peer is elected."
unfoldable pub server_flag : Participant → Bool
server_flag p = not (is_theirs (server_of p))

-- "if the latest key's MI is ours, we are elected and the mark is clear"
unfoldable pub hands_out : Participant → Bool
hands_out p = of_member p.latest p.mi && (elected_self p && not p.mark)

-- What the Basic set says, with the Key Server flag given; "MN rises by 1."
abbrev pub sender_with : Participant → Bool → Sender
sender_with p server =
    record {
      priority = p.priority;
      server = server;
      desired = p.desired;
      capability = p.capability;
      sci = p.sci;
      mi = p.mi;
      mn = p.mn + 1;
      ckn = p.ckn;
      size = p.size;
    }

unfoldable pub sender_of : Participant → Sender
sender_of p = sender_with p (server_flag p)

-- of the latest key; written only where `hands_out`
unfoldable pub sak_of : Participant → Sak
sak_of p = record { an = p.latest.key.an; confidentiality = p.latest.key.confidentiality; kn = p.latest.key.kn; wrapped = p.wrapped }

abbrev pub usage_of : Slot → Slot → ℕ → ℕ → SakUse
usage_of latest old latest_pn old_pn = record { latest = key_use_of latest latest_pn; old = key_use_of old old_pn }

-- What a frame has, if it has it.
abbrev pub said_if : {A : Type 0} → Bool → A → Option A
said_if there x = cond there (Some x) None

-- "SAK Use if a latest key exists"
abbrev pub usage_said : Participant → ℕ → ℕ → Option SakUse
usage_said p latest_pn old_pn = said_if p.latest.held (usage_of p.latest p.old latest_pn old_pn)

-- A frame with the lists of a table.
abbrev pub saying : Sender → Table → Option SakUse → Option Sak → Mkpdu
saying x t usage sak =
    record {
      sender = x;
      live = live_list t;
      potential = potential_list t;
      usage = usage;
      sak = sak;
    }

-- "Live, Potential (.. in table order); SAK Use if a latest key exists, ..; Distributed SAK of 28 if .."
unfoldable pub message_of : Participant → ℕ → ℕ → Mkpdu
message_of p latest_pn old_pn = saying (sender_of p) p.table (usage_said p latest_pn old_pn) (said_if (hands_out p) (sak_of p))
