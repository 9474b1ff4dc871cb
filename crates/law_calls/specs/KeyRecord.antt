-- What a received Distributed SAK makes of the key record, case by case. Proved in KeyRecordArgument.
use Rattle.std.specs.Prelude.{ℕ, ◌≡◌, true, false, List, ◌⊎◌, Option, Some, None}
use Rattle.base_mi.specs.declared.Mi.{Mi}
use Rattle.frame_places.specs.declared.Spot.{Spot}
use Rattle.frame_sets.specs.Kinds.{sak_in}
use Rattle.participant.specs.Keys.{without_keys}
use Rattle.participant.specs.declared.Participant.{Participant}
use Rattle.call_hearing.specs.Keys.{is_server, is_known, no_key_entered, key_entered, keyed_of}

-- p is the participant after the frame's update, m the sender's MI.
module _ (p : Participant) (frame : List ℕ) (m : Mi) where
  -- "used only if its sender is elected after this frame's update; otherwise it is ignored", as where the frame has none
  abbrev pub NotUsed : Option Spot → Type 0
  NotUsed sak = (sak ≡ None) ⊎ (is_server p m ≡ false) → keyed_of p frame m sak ≡ no_key_entered p

  abbrev pub Used : Type 0
  Used = is_server p m ≡ true

  -- "Empty body: both keys dropped." sak is where the walk found the set.
  abbrev pub EmptyDrops : Spot → Type 0
  EmptyDrops sak = Used → sak.len ≡ 0 → keyed_of p frame m (Some sak) ≡ no_key_entered (without_keys p)

  -- "ignored if (MI, KN) is that of either key, or MI is the latest's and KN is lower"
  abbrev pub KnownIgnored : Spot → Type 0
  KnownIgnored sak = Used → (sak.len ≡ 0 → ⊥) → is_known p m (sak_in frame sak.place sak.len).kn ≡ true → keyed_of p frame m (Some sak) ≡ no_key_entered p

  -- "else latest becomes old and this becomes latest, neither received nor sent with. The answer gives the wrapped key's place and length"
  abbrev pub NewEntered : Spot → Type 0
  NewEntered sak =
      Used → (sak.len ≡ 0 → ⊥) → is_known p m (sak_in frame sak.place sak.len).kn ≡ false
      → keyed_of p frame m (Some sak) ≡ key_entered p m (sak_in frame sak.place sak.len)
