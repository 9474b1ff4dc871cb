-- The argument for RoundTrip: each part stands in Round.
use Rattle.law_round.proofs.Round.{basic-back, ckn-back, agility-back, walk-back, live_back, potential-back, use-back, sak-back, wrapped-back}
use Rattle.law_round.specs.RoundTrip.{RoundTrip}

pub round_trip : RoundTrip
round_trip m rest r =
    record {
      basic = basic-back m rest r;
      ckn = ckn-back m rest r;
      agility = agility-back m rest r;
      walked = walk-back m rest r;
      live = live_back m rest r;
      potential = potential-back m rest r;
      used = use-back m rest r;
      sak = sak-back m rest r;
      wrapped = wrapped-back m rest r;
    }
