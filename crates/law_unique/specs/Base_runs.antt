-- The public functions of `base_runs`. Written by tools/unique.
use mir.Val.{Fits}
use mir.Syntax.{w64}
use denote.Param.{number}
use Rattle.std.specs.Prelude.{ℕ, refl}
use Rattle.base_runs.proofs as base_runs
use Rattle.base_runs.specs.contracts as contracts
use Rattle.law_unique.specs.Law.{AsksNothing, AsksRoomAlone, OneAnswer, OneSeen, same}

pub base-runs·put-zeros·asks-nothing : AsksNothing contracts.put_zeros.signature base_runs.put_zeros.Reads.requires
base-runs·put-zeros·asks-nothing κs a w = refl

pub base-runs·put-zeros : OneSeen base_runs.put_zeros.Kinds.ps base_runs.put_zeros.Kinds.r base_runs.put_zeros.Reads.Learnt (λ κs z e. e.0.now)
base-runs·put-zeros κs a z z' e e' h h' = same h h'

pub base-runs·part·asks-nothing : AsksNothing contracts.part.signature base_runs.part.Reads.requires
base-runs·part·asks-nothing κs a w = refl

pub base-runs·part : OneSeen base_runs.part.Kinds.ps base_runs.part.Kinds.r base_runs.part.Reads.Learnt (λ κs z e. z.now)
base-runs·part κs a z z' e e' h h' = same h h'

pub base-runs·first·asks-nothing : (N : ℕ) (f : Fits w64 N) → AsksRoomAlone (number N) (contracts.first.signature (number N)) (base_runs.first.Reads.requires N f) (λ κs. κs.1.0) N
base-runs·first·asks-nothing N f κs a w = refl

pub base-runs·first : (N : ℕ) (f : Fits w64 N) → OneAnswer (base_runs.first.Kinds.ps N f) (base_runs.first.Kinds.r N f) (base_runs.first.Reads.Learnt N f)
base-runs·first N f κs a z z' e e' h h' = same h h'
