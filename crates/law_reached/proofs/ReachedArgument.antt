-- Why: every rule of an image is kept by every accepted call, of the own record, the table, its peers and the keys.
use Rattle.std.specs.Prelude.{◌≡◌, true, List, [], Ok}
use Rattle.std.proofs.Common.{◌∙◌}
use Rattle.law_lists.proofs.Laws.{both}
use Rattle.table.specs.Table.{entries}
use Rattle.participant.specs.declared.Participant.{Participant}
use Rattle.participant.specs.First.{NoneHolds}
use Rattle.image_rules.specs.Rules.{rules}
use Rattle.image_rules.specs.ByRecord.{peers-by-rule, by_record}
use Rattle.law_saved.specs.WellFormed.{WellFormed}
use Rattle.law_history.specs.Calls.{Creation, created, Call, after}
use Rattle.law_history.specs.Steps.{facts, becomes}
use Rattle.law_history.proofs.TableArgument.{Keeps, keeps-becomes, keeps}
use Rattle.law_reached.specs.Carried.{Given, Carried, AllCarried}
use Rattle.law_reached.proofs.Throughout.{throughout}
use Rattle.law_reached.specs.Reached.{Reached}
use Rattle.law_reached.proofs.Own.{Own, own-start, own-becomes, own-fits, own-good}
use Rattle.law_reached.proofs.Peers.{Peers, peers-start, peers-becomes}
use Rattle.law_reached.proofs.Keys.{KeysOf, keys-start, keys-becomes, keys-good}

-- The three kinds of record, and what every table keeps.
pub record Parts (p : Participant) : Type 0 where
  pub own : Own p
  pub table : Keeps p
  pub peers : Peers p
  pub keys : KeysOf p

start-parts : (k : Creation) → (created k).answer ≡ Ok tt → Given k → Parts (after k [])
start-parts k ok given = record { own = own-start k ok given; table = keeps k []; peers = peers-start k ok; keys = keys-start k ok }

-- each is kept by every accepted call
pub becomes-parts : (p : Participant) (c : Call) → NoneHolds (facts p c) → Carried c → Parts p → Parts (becomes p c)
becomes-parts p c h v s =
    record {
      own = own-becomes p c h v s.own;
      table = keeps-becomes p c h s.table;
      peers = peers-becomes p c h v s.table s.peers;
      keys = keys-becomes p c h v s.own s.keys;
    }

rules-hold : (p : Participant) → Parts p → rules p ≡ true
rules-hold p s =
    let peers = peers-by-rule p.mi p.clock (entries p.table) ∙ both _ _ s.peers.capabilities s.table.rules in
    by_record p ∙ both _ _ (own-good p s.own) (both _ _ peers (keys-good p s.keys))

pub well-formed : (p : Participant) → Parts p → WellFormed p
well-formed p s =
    record {
      own = own-fits p s.own;
      peers = s.peers.widths;
      latest_key = s.keys.latest.fit;
      old_key = s.keys.old.fit;
      table = s.table.tidy;
      latest = s.keys.latest.tidy;
      old = s.keys.old.tidy;
      order = s.keys.order;
      kept = rules-hold p s;
    }

pub parts : (k : Creation) → (created k).answer ≡ Ok tt → Given k → (cs : List Call) → AllCarried cs → Parts (after k cs)
parts k ok given cs carried = throughout k Parts (start-parts k ok given) becomes-parts cs carried

pub reached : Reached
reached k ok given cs carried = well-formed (after k cs) (parts k ok given cs carried)
