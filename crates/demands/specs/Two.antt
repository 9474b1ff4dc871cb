-- 2. "Reading and writing MKPDUs, peer lists, server choice and key records agree with the standard as SCOPE condenses it. Each saved port
-- image reads back to the same participant, and each image accepted is written again octet for octet."
use Rattle.std.specs.Prelude.{ℕ, ◌≡◌, true, false, ◌⊎◌, take, eqb, Option, Ok}
use mathlib.Core.List.{List, [], ◌++◌, Memᴰ}
use Rattle.base_octets.specs.Octets.{Octets}
use Rattle.base_mi.specs.declared.Mi.{Mi}
use Rattle.frame_places.specs.declared.Spot.{Spot}
use Rattle.frame_writer.specs.Frame.{frame_of}
use Rattle.frame_writer.specs.declared.Mkpdu.{Mkpdu}
use Rattle.table.specs.Table.{entries}
use Rattle.table.specs.declared.Peer.{Peer}
use Rattle.table.specs.declared.Table.{Table}
use Rattle.table_expiry.specs.Kept.{absent}
use Rattle.table_counts.specs.Counts.{live_count}
use Rattle.table_election.specs.Elect.{ourselves, peer_of, eligible, candidates, elected}
use Rattle.table_election.specs.declared.Rank.{Rank}
use Rattle.table_election.specs.declared.Server.TheVariants.{Nobody, Ourselves, Elected}
use Rattle.table_election.proofs.Least as election
use Rattle.table_election.specs.Least.{Least}
use Rattle.participant.specs.Call.{done_of}
use Rattle.participant.specs.declared.Participant.{Participant}
use Rattle.call_send.specs.Send.{left_by}
use Rattle.image.specs.Image.{image_of}
use Rattle.image_reading.specs.Read.{read_of}
use Rattle.law_round.specs.Ranged.{Ranged}
use Rattle.law_round.specs.RoundTrip as frame
use Rattle.law_round.proofs.RoundTripArgument.{round_trip}
use Rattle.law_calls.specs.KeyRecord.{NotUsed, EmptyDrops, KnownIgnored, NewEntered}
use Rattle.law_calls.specs.KeyRecordArgument as keys
use Rattle.law_saved.specs.SavedArgument as image
use Rattle.law_history.specs.Calls.{Creation, created, Call, sends, saves, to_save, answer_of, after, Made}
use Rattle.law_reached.specs.Carried.{Given, AllCarried}
use Rattle.law_reached.specs.Sends as sent
use Rattle.law_reached.proofs.SendsArgument.{reached-sends}
use Rattle.law_reached.proofs.SavedArgument.{saved-reads-back}

pub record Two : Type 0 where
  -- "Reading and writing MKPDUs": what is written is read again, of any value in range and whatever follows the frame
  pub frames : (m : Mkpdu) (rest : List ℕ) → Ranged m → frame.ReadBack m (frame_of m ++ rest)
  -- "peer lists": each accepted send of each history tells our identifier, the next number, our Live and Potential peers in order, our keys
  pub sends : (k : Creation) → (created k).answer ≡ Ok tt → Given k → (cs : List Call) → AllCarried cs → (time latest_pn old_pn : ℕ) (out : List ℕ)
      (made : Made k cs (sends time latest_pn old_pn out))
      → sent.ReadBack k made.earlier time latest_pn old_pn (left_by (after k made.earlier) time latest_pn old_pn out)
  -- "server choice": "With no Live peer: nobody. .. None left: nobody.", else the least of the candidates
  pub nobody : (own : Rank) (t : Table) → elected own t ≡ Nobody → (live_count t ≡ 0) ⊎ (candidates own (entries t) ≡ [])
  pub ours : (own : Rank) (t : Table) → elected own t ≡ Ourselves → (eqb (live_count t) 0 ≡ false) × Least own (entries t) (ourselves own)
  pub theirs : (own : Rank) (t : Table) (m : Mi) → elected own t ≡ Elected m
      → (p : Peer) × Memᴰ p (entries t) × (eligible p ≡ true) × (p.mi ≡ m) × Least own (entries t) (peer_of p)
  pub least-ours : (own : Rank) (t : Table) → absent own.mi (entries t) ≡ true → eqb (live_count t) 0 ≡ false → Least own (entries t) (ourselves own) → elected own t ≡ Ourselves
  pub least-theirs : (own : Rank) (t : Table) → absent own.mi (entries t) ≡ true
      → (p : Peer) → Memᴰ p (entries t) → eligible p ≡ true → Least own (entries t) (peer_of p) → elected own t ≡ Elected p.mi
  -- "key records": a Distributed SAK is used only of the elected; an empty one drops both keys, a known one is ignored, a new one is entered
  pub not-used : (p : Participant) (frame : List ℕ) (m : Mi) (sak : Option Spot) → NotUsed p frame m sak
  pub empty-drops : (p : Participant) (frame : List ℕ) (m : Mi) (sak : Spot) → EmptyDrops p frame m sak
  pub known-ignored : (p : Participant) (frame : List ℕ) (m : Mi) (sak : Spot) → KnownIgnored p frame m sak
  pub new-entered : (p : Participant) (frame : List ℕ) (m : Mi) (sak : Spot) → NewEntered p frame m sak
  -- "Each saved port image reads back to the same participant": the first n octets of what a save that answers n left
  pub saved : (k : Creation) → (created k).answer ≡ Ok tt → Given k → (cs : List Call) → AllCarried cs → (out left : List ℕ) (n : ℕ)
      → answer_of (after k cs) (saves out) ≡ to_save (Ok n) left → read_of (take n left) ≡ done_of (after k cs)
  -- "and each image accepted is written again octet for octet"
  pub again : (s : List ℕ) (p : Participant) → Octets s → read_of s ≡ done_of p → image_of p ≡ s

pub two : Two
two =
    record {
      frames = round_trip;
      sends = reached-sends;
      nobody = election.elected-nobody;
      ours = election.elected-ourselves;
      theirs = election.elected-peer;
      least-ours = election.ourselves-elected;
      least-theirs = election.peer-elected;
      not-used = keys.not-used;
      empty-drops = keys.empty-drops;
      known-ignored = keys.known-ignored;
      new-entered = keys.new-entered;
      saved = saved-reads-back;
      again = image.written-again;
    }
